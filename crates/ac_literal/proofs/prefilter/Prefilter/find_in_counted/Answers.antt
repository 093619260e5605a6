-- What a scan for needles ensures is what the prefilter ensures: its model names those needles.
use Rattle.std.proofs.Common.{sym, subst}
use Rattle.ac_input.specs.Dictionary.{Dictionary}
use Rattle.ac_literal.specs.Prefilter.{IsStrategyOf, needles_of, IsCountedIn}
use Rattle.ac_literal.proofs.prefilter.Prefilter.find_in_counted.Goals as goal

pub returns-in-StartBytes-clause-counted : goal.returns-in-StartBytes-clause-counted
returns-in-StartBytes-clause-counted c =
    let m : Dictionary =
    record { patterns = c.self.inside.patterns.items; pairing = c.self.inside.pairing; kind = c.self.inside.kind } in
    let scanned = c.find_start.ensures m (subst (IsStrategyOf m) c.in-StartBytes.is c.self.invariant) in
    subst (λ f.
    IsCountedIn f c.args.haystack.now c.args.span c.find_start.result c.args.steps.now c.find_start.new.steps)
    c.self.view_is
    (subst (λ x. IsCountedIn (record { dictionary = m; needles = needles_of x }) c.args.haystack.now c.args.span
    c.find_start.result c.args.steps.now c.find_start.new.steps) (sym c.in-StartBytes.is) scanned.counted)

pub returns-in-RareBytes-clause-counted : goal.returns-in-RareBytes-clause-counted
returns-in-RareBytes-clause-counted c =
    let m : Dictionary =
    record { patterns = c.self.inside.patterns.items; pairing = c.self.inside.pairing; kind = c.self.inside.kind } in
    let scanned = c.find_start-in-RareBytes.ensures m (subst (IsStrategyOf m) c.in-RareBytes.is c.self.invariant) in
    subst (λ f.
    IsCountedIn f c.args.haystack.now c.args.span c.find_start-in-RareBytes.result c.args.steps.now
    c.find_start-in-RareBytes.new.steps) c.self.view_is
    (subst (λ x. IsCountedIn (record { dictionary = m; needles = needles_of x }) c.args.haystack.now c.args.span
    c.find_start-in-RareBytes.result c.args.steps.now c.find_start-in-RareBytes.new.steps) (sym c.in-RareBytes.is)
    scanned.counted)
