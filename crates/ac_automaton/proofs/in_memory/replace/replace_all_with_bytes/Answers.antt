-- Each call of the closure extends the chain by one.
use Rattle.std.proofs.lemmas.Grind.{common_steps}
use Rattle.std.proofs.Common.{◌≡◌, ◌∷◌, drop, refl, ap, ◌∙◌, arith, Ok}
use Rattle.std.proofs.lemmas.List.{take_rest}
use Rattle.std.proofs.lemmas.Result.{err_from_is_err_and}
use Rattle.ac_automaton.specs.InMemory.Iter.{left_of}
use Rattle.ac_automaton.specs.InMemory.Replace.{matches_in}
use Rattle.ac_automaton.proofs.lemmas.ReplaceLemmas.{matches-lie, lies-first, same-input, unanchored}
use Rattle.ac_automaton.proofs.in_memory.replace.ReplacerLemmas.{callable-next, replied, refused, comes-first, comes-further, comes-to_false, comes-to_false_refused, comes-to_call_refused, comes-to_end}
use Rattle.ac_automaton.proofs.in_memory.replace.replace_all_with_bytes.Goals as goal

pub loop-found-init : goal.loop-found-init
loop-found-init g c =
    let x = c.args.haystack.now in
    let b = g.A.Automaton.built c.args.automaton.now in
    let all : left_of c.in_ok-matches.matches ≡ matches_in b x =
    same-input b c.in_ok-matches.ensures.answer.2 c.new.ensures refl in
    record {
      callable = c.requires;
      lies = rw all (matches-lie b x);
      within = omega arith;
      comes = comes-first all;
    }

pub replace_with-requires : goal.replace_with-requires
replace_with-requires g c =
    let seen : left_of c.loop-found.matches ≡ c.in-Some.found ∷ left_of c.next.new.self = c.in-Some.ensures.steps in
    c.loop-found.invariant.callable.takes _ _ _ (lies-first seen c.loop-found.invariant.lies).0

pub loop-found-preserved : goal.loop-found-preserved
loop-found-preserved g c =
    let before = c.loop-found.invariant in
    let seen : left_of c.loop-found.matches ≡ c.in-Some.found ∷ left_of c.next.new.self = c.in-Some.ensures.steps in
    let lies = lies-first seen before.lies in
    record {
      callable = callable-next before.callable lies.0 c.replace_with.ensures;
      lies = rw c.end-at.ensures.value lies.4;
      within = rw c.end-at.ensures.value lies.3;
      comes = rw c.end-at.ensures.value
          (comes-further _ _ _ _ _ _ _ _ _ before.comes _ _ seen _ _
          (replied c.replace_with.ensures (c.in_ok-goes_on.was ∙ ap Ok c.if-not-goes_on.false) refl
          (rw (c.end-at.ensures.value, c.start-in-Some.ensures.value))
          (c.in_ok-extend_from_slice.ensures.items ∙ rw c.start.ensures.value)));
    }

pub returns-in_err-goes_on : goal.returns-in_err-goes_on
returns-in_err-goes_on g c =
    let before = c.loop-found.invariant in
    let seen : left_of c.loop-found.matches ≡ c.in-Some.found ∷ left_of c.next.new.self = c.in-Some.ensures.steps in
    let p = err_from_is_err_and c.from_residual-in_err-goes_on.result c.from_residual-in_err-goes_on.ensures.1 in
    rw (p.1, p.2) (
      unanchored (g.A.Automaton.supports c.args.automaton.now) c.in_ok-matches.ensures.answer.0 c.new.ensures,
      comes-to_call_refused _ _ _ _ _ _ _ _ _ before.comes _ _ seen _ _
          (refused c.replace_with.ensures c.in_err-goes_on.was refl
          (rw (c.end-at.ensures.value, c.start-in-Some.ensures.value))
          (c.in_ok-extend_from_slice.ensures.items ∙ rw c.start.ensures.value)),
    )

pub returns-then-not-goes_on : goal.returns-then-not-goes_on
returns-then-not-goes_on g c =
    let before = c.loop-found.invariant in
    let seen : left_of c.loop-found.matches ≡ c.in-Some.found ∷ left_of c.next.new.self = c.in-Some.ensures.steps in (
      unanchored (g.A.Automaton.supports c.args.automaton.now) c.in_ok-matches.ensures.answer.0 c.new.ensures,
      comes-to_false _ _ _ _ _ _ _ _ _ before.comes _ _ seen _ _
          (replied c.replace_with.ensures (c.in_ok-goes_on.was ∙ ap Ok c.if-not-goes_on.true) refl
          (rw (c.end-at.ensures.value, c.start-in-Some.ensures.value))
          (c.in_ok-extend_from_slice.ensures.items ∙ rw c.start.ensures.value))
          c.in_ok-extend_from_slice-2.ensures.items
          (take_rest c.args.haystack.now c.end-at.result ∙ ap (λ n. drop n c.args.haystack.now) c.end-at.ensures.value),
    )

pub returns-in_err-extend_from_slice-2 : goal.returns-in_err-extend_from_slice-2
returns-in_err-extend_from_slice-2 g c =
    let before = c.loop-found.invariant in
    let seen : left_of c.loop-found.matches ≡ c.in-Some.found ∷ left_of c.next.new.self = c.in-Some.ensures.steps in
    let p = err_from_is_err_and c.from_residual-in_err-extend_from_slice-2.result
    c.from_residual-in_err-extend_from_slice-2.ensures.1 in
    rw (p.1, p.2) (
      unanchored (g.A.Automaton.supports c.args.automaton.now) c.in_ok-matches.ensures.answer.0 c.new.ensures,
      comes-to_false_refused _ _ _ _ _ _ _ _ _ before.comes _ _ seen _ _ _
          (replied c.replace_with.ensures (c.in_ok-goes_on.was ∙ ap Ok c.if-not-goes_on.true) refl
          (rw (c.end-at.ensures.value, c.start-in-Some.ensures.value))
          (c.in_ok-extend_from_slice.ensures.items ∙ rw c.start.ensures.value))
          c.in_err-extend_from_slice-2.ensures.items,
    )

pub returns : goal.returns
returns g c = (
  unanchored (g.A.Automaton.supports c.args.automaton.now) c.in_ok-matches.ensures.answer.0 c.new.ensures,
  comes-to_end _ _ _ _ _ _ _ _ _ c.loop-found.invariant.comes c.in_default.ensures.steps.0
      c.in_ok-extend_from_slice-3.ensures.items (take_rest c.args.haystack.now c.loop-found.at),
)

pub returns-in_err-matches : goal.returns-in_err-matches
returns-in_err-matches g c = grind (arith, common_steps)

pub slice_bounds-extend_from_slice-count : goal.slice_bounds-extend_from_slice-count
slice_bounds-extend_from_slice-count g c = grind (arith, common_steps)

pub slice_bounds-extend_from_slice-start : goal.slice_bounds-extend_from_slice-start
slice_bounds-extend_from_slice-start g c = grind (arith, common_steps)

pub slice_bounds-extend_from_slice-end : goal.slice_bounds-extend_from_slice-end
slice_bounds-extend_from_slice-end g c = grind (arith, common_steps)

pub returns-in_err-extend_from_slice : goal.returns-in_err-extend_from_slice
returns-in_err-extend_from_slice g c = grind (arith, common_steps)

pub slice_bounds-replace_with-count : goal.slice_bounds-replace_with-count
slice_bounds-replace_with-count g c = grind (arith, common_steps)

pub slice_bounds-replace_with-start : goal.slice_bounds-replace_with-start
slice_bounds-replace_with-start g c = grind (arith, common_steps)

pub slice_bounds-replace_with-end : goal.slice_bounds-replace_with-end
slice_bounds-replace_with-end g c = grind (arith, common_steps)

pub loop-found-smaller : goal.loop-found-smaller
loop-found-smaller g c = grind (arith, common_steps)

pub slice_bounds-extend_from_slice-count-2 : goal.slice_bounds-extend_from_slice-count-2
slice_bounds-extend_from_slice-count-2 g c = grind (arith, common_steps)

pub slice_bounds-extend_from_slice-start-2 : goal.slice_bounds-extend_from_slice-start-2
slice_bounds-extend_from_slice-start-2 g c = grind (arith, common_steps)

pub slice_bounds-extend_from_slice-end-2 : goal.slice_bounds-extend_from_slice-end-2
slice_bounds-extend_from_slice-end-2 g c = grind (arith, common_steps)

pub returns-in_err-extend_from_slice-3 : goal.returns-in_err-extend_from_slice-3
returns-in_err-extend_from_slice-3 g c = grind (arith, common_steps)
