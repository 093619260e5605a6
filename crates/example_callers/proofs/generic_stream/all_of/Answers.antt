-- Each turn returns one more match.
use Rattle.std.proofs.Common.{arith, rules}
use Rattle.aho_corasick.proofs.lemmas.StreamLemmas.{found-all, found-fresh, found-more}
use Rattle.example_callers.proofs.generic_stream.all_of.Goals as goal

pub loop-next-init : goal.loop-next-init
loop-next-init g c =
    let fresh = found-fresh (λ r. r.now) c.args.matches.stream.built c.args.text.now c.args.matches.stream
    c.args.matches.reader.now c.requires.0 c.requires.1 c.requires.2 in
    search (rules, fresh)

pub loop-next-preserved : goal.loop-next-preserved
loop-next-preserved g c =
    let b = c.args.matches.stream.built in
    let next = rw c.in_ok-next.was at c.in-Some.ensures.gives.0 in
    found-more (λ r. r.now) b c.args.text.now c.loop-next.matches.stream c.next_counted.new.self.stream
    c.loop-next.matches.reader.now c.next_counted.new.self.reader.now c.loop-next.found.items _ c.in_ok-next.field-0
    c.loop-next.invariant next (search rules)

pub returns : goal.returns
returns g c =
    let b = c.args.matches.stream.built in
    found-all (λ r. r.now) b c.args.text.now c.loop-next.matches.stream c.next_counted.new.self.stream
    c.loop-next.matches.reader.now c.next_counted.new.self.reader.now c.loop-next.found.items (omega arith)
    c.loop-next.invariant c.in_default.ensures.gives.0
