-- The next entry of a state's list is no longer than what was read.
use Rattle.std.proofs.Common.{◌≡◌, ◌-◌, Some, ap, subst, refl, ◌∙◌, arith}
use Rattle.std.proofs.lemmas.Grind.{common_steps}
use Rattle.ac_input.specs.declared.search.Anchored.TheVariants.{No}
use Rattle.ac_input.specs.declared.search.MatchKind.TheVariants.{Standard}
use Rattle.ac_automaton.specs.Stream.Overlapping.Search.{searched_by}
use Rattle.ac_automaton.proofs.stream.StreamListingLemmas.{entry-occurs, searched-long}
use Rattle.ac_automaton.proofs.stream.overlapping.search.give.Goals as goal

pub overflow_sub-start : goal.overflow_sub-start
overflow_sub-start g c =
    let a = c.args.automaton.now in
    let place = c.args.place in
    let b = g.A.Automaton.built a in
    let s = c.requires.0.1.0 in
    let is = c.requires.0.1.1 in
    let stands = is.stands in
    let standard : b.dictionary.kind ≡ Standard =
    subst (λ b. b.dictionary.kind ≡ Standard) is.built (stands.course.standard refl) in
    let lies = entry-occurs b.dictionary (searched_by s) (g.A.Automaton.matches a place.sid) place.index
    c.match_pattern-pattern.result standard (g.met.A.Automaton.tells a No (searched_by s) place.sid stands.reads)
    c.match_pattern-pattern.ensures.value in
    omega (arith, lies.1, searched-long s stands.course.ordered.1, stands.at, c.pattern_len.ensures)

pub overflow_add-result : goal.overflow_add-result
overflow_add-result g c = omega (arith, c.requires.1, c.requires.0.1.1.stands.few)

pub returns : goal.returns
returns g c = (
  c.match_pattern-pattern.result,
  ap (λ o. Some o)
      (c.new.ensures
      ∙ ap (λ n.
      record { pattern = c.match_pattern-pattern.result; start = c.args.place.at - n; end = c.args.place.at })
      c.pattern_len.ensures),
  refl,
  c.match_pattern-pattern.ensures.value,
  c.match_pattern-pattern.ensures.known,
)

pub pattern_len-requires : goal.pattern_len-requires
pattern_len-requires g c = grind (arith, common_steps)

pub match_pattern-pattern-requires-clause-valid : goal.match_pattern-pattern-requires-clause-valid
match_pattern-pattern-requires-clause-valid g c = grind (arith, common_steps)

pub new-requires : goal.new-requires
new-requires g c = grind (arith, common_steps)
