-- Each call of the closure extends the chain by one.
use Rattle.std.proofs.Common.{◌≡◌, ◌∷◌, drop, ap, ◌∙◌, Ok}
use Rattle.std.specs.List.{filter}
use Rattle.std.proofs.lemmas.Str.{IsCharBoundary-start}
use Rattle.std.proofs.lemmas.Result.{err_from_is_err_and}
use Rattle.ac_automaton.specs.InMemory.Iter.{left_of}
use Rattle.ac_automaton.specs.InMemory.Replace.{cuts_none, matches_in, text_left_of, text_matches_in}
use Rattle.ac_automaton.proofs.lemmas.ReplaceLemmas.{boundary-end, matches-lie, lies-filter, lies-first, same-input, unanchored}
use Rattle.ac_automaton.proofs.in_memory.replace.ReplacerLemmas.{callable-after, takes-one, told, told-refused, comes-first, comes-further, comes-to_false, comes-to_false_refused, comes-to_call_refused, comes-to_end}
use Rattle.ac_automaton.proofs.in_memory.replace.replace_all_with.Goals as goal

pub loop-found-init : goal.loop-found-init
loop-found-init g c =
    let x = c.args.haystack.now in
    let b = g.A.Automaton.built c.args.automaton.now in
    let all : left_of c.in_ok-matches.matches ≡ matches_in b x =
    same-input b c.in_ok-matches.ensures.answer.2 c.new.ensures c.as_bytes.ensures.value in
    let whole : text_left_of x c.in_ok-matches.matches ≡ text_matches_in b x = ap (filter (cuts_none x)) all in
    record {
      callable = c.requires;
      lies = rw whole (lies-filter (cuts_none x) _ _ _ (matches_in b x) (matches-lie b x));
      boundary = IsCharBoundary-start x c.utf8.haystack;
      comes = comes-first whole;
    }

pub call-requires : goal.call-requires
call-requires g c =
    let seen : text_left_of c.args.haystack.now c.loop-found.matches
    ≡ c.in-Some.found ∷ text_left_of c.args.haystack.now c.next_whole.new.matches = c.in-Some.ensures.gives in
    takes-one c.in-Some.found c.loop-found.invariant.callable (lies-first seen c.loop-found.invariant.lies).0

pub loop-found-preserved : goal.loop-found-preserved
loop-found-preserved g c =
    let before = c.loop-found.invariant in
    let seen : text_left_of c.args.haystack.now c.loop-found.matches
    ≡ c.in-Some.found ∷ text_left_of c.args.haystack.now c.next_whole.new.matches = c.in-Some.ensures.gives in
    let lies = lies-first seen before.lies in
    record {
      callable = callable-after before.callable lies.0 c.call.ensures;
      lies = rw c.end-at.ensures.value lies.4;
      boundary = rw c.end-at.ensures.value (boundary-end c.args.haystack.now c.in-Some.found c.in-Some.ensures.whole);
      comes = rw c.end-at.ensures.value
          (comes-further _ _ _ _ _ _ _ _ _ before.comes _ _ seen _ _
          (told c.call.ensures (c.in_ok-goes_on.was ∙ ap Ok c.if-not-goes_on.false)
          (c.range-matched.ensures.value ∙ rw (c.end-at.ensures.value, c.start-in-Some.ensures.value))
          (c.in_ok-push_str.ensures.bytes ∙ rw (c.range.ensures.value, c.start.ensures.value))));
    }

pub returns-in_err-goes_on : goal.returns-in_err-goes_on
returns-in_err-goes_on g c =
    let before = c.loop-found.invariant in
    let seen : text_left_of c.args.haystack.now c.loop-found.matches
    ≡ c.in-Some.found ∷ text_left_of c.args.haystack.now c.next_whole.new.matches = c.in-Some.ensures.gives in
    let p = err_from_is_err_and c.from_residual-in_err-goes_on.result c.from_residual-in_err-goes_on.ensures.1 in
    rw (p.1, p.2) (
      unanchored (g.A.Automaton.supports c.args.automaton.now) c.in_ok-matches.ensures.answer.0 c.new.ensures,
      comes-to_call_refused _ _ _ _ _ _ _ _ _ before.comes _ _ seen _ _
          (told-refused c.call.ensures c.in_err-goes_on.was
          (c.range-matched.ensures.value ∙ rw (c.end-at.ensures.value, c.start-in-Some.ensures.value))
          (c.in_ok-push_str.ensures.bytes ∙ rw (c.range.ensures.value, c.start.ensures.value))),
    )

pub returns-then-not-goes_on : goal.returns-then-not-goes_on
returns-then-not-goes_on g c =
    let before = c.loop-found.invariant in
    let seen : text_left_of c.args.haystack.now c.loop-found.matches
    ≡ c.in-Some.found ∷ text_left_of c.args.haystack.now c.next_whole.new.matches = c.in-Some.ensures.gives in (
      unanchored (g.A.Automaton.supports c.args.automaton.now) c.in_ok-matches.ensures.answer.0 c.new.ensures,
      comes-to_false _ _ _ _ _ _ _ _ _ before.comes _ _ seen _ _
          (told c.call.ensures (c.in_ok-goes_on.was ∙ ap Ok c.if-not-goes_on.true)
          (c.range-matched.ensures.value ∙ rw (c.end-at.ensures.value, c.start-in-Some.ensures.value))
          (c.in_ok-push_str.ensures.bytes ∙ rw (c.range.ensures.value, c.start.ensures.value)))
          c.in_ok-push_str-2.ensures.bytes
          (c.range_from.ensures.value ∙ ap (λ n. drop n c.args.haystack.now) c.end-at.ensures.value),
    )

pub returns-in_err-push_str-2 : goal.returns-in_err-push_str-2
returns-in_err-push_str-2 g c =
    let before = c.loop-found.invariant in
    let seen : text_left_of c.args.haystack.now c.loop-found.matches
    ≡ c.in-Some.found ∷ text_left_of c.args.haystack.now c.next_whole.new.matches = c.in-Some.ensures.gives in
    let p = err_from_is_err_and c.from_residual-in_err-push_str-2.result c.from_residual-in_err-push_str-2.ensures.1 in
    rw (p.1, p.2) (
      unanchored (g.A.Automaton.supports c.args.automaton.now) c.in_ok-matches.ensures.answer.0 c.new.ensures,
      comes-to_false_refused _ _ _ _ _ _ _ _ _ before.comes _ _ seen _ _ _
          (told c.call.ensures (c.in_ok-goes_on.was ∙ ap Ok c.if-not-goes_on.true)
          (c.range-matched.ensures.value ∙ rw (c.end-at.ensures.value, c.start-in-Some.ensures.value))
          (c.in_ok-push_str.ensures.bytes ∙ rw (c.range.ensures.value, c.start.ensures.value)))
          c.in_err-push_str-2.ensures.bytes,
    )

pub returns : goal.returns
returns g c = (
  unanchored (g.A.Automaton.supports c.args.automaton.now) c.in_ok-matches.ensures.answer.0 c.new.ensures,
  comes-to_end _ _ _ _ _ _ _ _ _ c.loop-found.invariant.comes c.in_default.ensures.gives.0
      c.in_ok-push_str-3.ensures.bytes c.range_from-2.ensures.value,
)
