-- Where a match waits the kind is a leftmost one, so what was read ahead may be wherever the search stands.
use Rattle.std.proofs.Common.{◌≡◌, None, Some, ap, sym, ◌∙◌, arith}
use Rattle.std.proofs.lemmas.Grind.{common_steps}
use Rattle.ac_automaton.proofs.lemmas.WalkEndLemmas.{unshifted}
use Rattle.ac_automaton.proofs.stream.SearchAheadLemmas.{ahead-anywhere}
use Rattle.ac_automaton.proofs.stream.search.search.Goals as goal

pub returns-in-Some-clause-ahead : goal.returns-in-Some-clause-ahead
returns-in-Some-clause-ahead g c =
    let a = c.args.automaton.now in
    let held = c.requires.walk.1 in
    let stands = held.stands in
    let found = unshifted c.requires.walk.0.last stands.found c.in-Some.best (sym stands.kept ∙ c.in-Some.is) in
    ahead-anywhere g.A.Automaton a (Some c.args.start) c.args.held.now _ _ _ _ c.args.ahead.now
    (λ standard. absurd (let e : None ≡ Some found.0 =
    sym (stands.quiet (ap (λ b. b.dictionary.kind) held.built ∙ standard)) ∙ found.1 in cc))
    c.requires.ahead

pub returns-in-Some-clause-walk : goal.returns-in-Some-clause-walk
returns-in-Some-clause-walk g c = grind (arith, common_steps)
