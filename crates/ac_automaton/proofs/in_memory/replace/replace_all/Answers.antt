-- The text between two matches is copied, and each match is replaced.
use Rattle.std.proofs.Common.{◌≡◌, ℕ, List, ◌++◌, get_or, length, map, sym, ap, ◌∙◌}
use Rattle.std.proofs.Math.ListN.{get_or-map}
use Rattle.std.specs.Prelude.{slice_range}
use denote.Ref.{Bor}
use Rattle.std.proofs.lemmas.Str.{IsCharBoundary-start}
use Rattle.std.specs.String.{string_bytes}
use Rattle.ac_automaton.specs.InMemory.Iter.{left_of}
use Rattle.ac_automaton.specs.InMemory.Replace.{cuts_none, matches_in}
use Rattle.ac_automaton.proofs.lemmas.ReplaceLemmas.{boundary-end, fewer-left, lies-filter, lies-next, matches-lie, replaced-end, replaced-pushed, same-input, unanchored}
use Rattle.ac_automaton.proofs.in_memory.replace.replace_all.Goals as goal

pub loop-found-init : goal.loop-found-init
loop-found-init g c =
    let x = c.args.haystack.now in
    let b = g.A.Automaton.built c.args.automaton.now in
    let all : left_of c.in_ok-matches.matches ≡ matches_in b x =
    same-input b c.in_ok-matches.ensures.answer.2 c.new.ensures c.as_bytes.ensures.value in
    record {
      order = rw (c.in_ok-replaced.ensures.bytes, all);
      lies = rw (c.requires, all) (lies-filter (cuts_none x) _ _ _ (matches_in b x) (matches-lie b x));
      boundary = IsCharBoundary-start x c.utf8.haystack;
    }

pub returns : goal.returns
returns g c =
    let x = c.args.haystack.now in
    let made = string_bytes c.loop-found.replaced in (
      unanchored (g.A.Automaton.supports c.args.automaton.now) c.in_ok-matches.ensures.answer.0 c.new.ensures,
      c.in_ok-push_str-3.ensures.bytes ∙ ap (λ t. made ++ t) c.range_from.ensures.value
          ∙ replaced-end c.loop-found.at x (map (λ r. r.now) c.args.replacements.now) made c.in_default.ensures.gives.0 c.loop-found.invariant.order,
    )

-- a text with two pieces appended: one of the haystack, and a replacement
pushed-two : (front x : List ℕ) (at : ℕ) (rs : List (Bor (List ℕ))) (none : Bor (List ℕ)) {mid made piece : List ℕ}
    {from start number pattern : ℕ} → mid ≡ front ++ piece → piece ≡ slice_range x at from → from ≡ start
    → made ≡ mid ++ (get_or rs number none).now → number ≡ pattern
    → made ≡ (front ++ slice_range x at start) ++ get_or (map (λ r. r.now) rs) pattern none.now
pushed-two front x at rs none {start} {number} {pattern} before is_piece is_start is_made is_number =
    is_made
    ∙ ap (λ t. t ++ (get_or rs number none).now)
    (before ∙ ap (λ p. front ++ p) (is_piece ∙ ap (slice_range x at) is_start))
    ∙ ap (λ t. (front ++ slice_range x at start) ++ t)
    (ap (λ n. (get_or rs n none).now) is_number ∙ sym (get_or-map (λ r. r.now) rs pattern none))

pub loop-found-smaller : goal.loop-found-smaller
loop-found-smaller g c = fewer-left c.in-Some.ensures.gives

pub loop-found-preserved : goal.loop-found-preserved
loop-found-preserved g c =
    let first = c.in-Some.ensures.gives in
    let patterns = length c.args.replacements.now in
    let x = c.args.haystack.now in
    let at = c.loop-found.at in
    record {
      order = replaced-pushed at x (map (λ r. r.now) c.args.replacements.now) (string_bytes c.loop-found.replaced) first
          (pushed-two (string_bytes c.loop-found.replaced) x at c.args.replacements.now _ c.in_ok-push_str.ensures.bytes c.range.ensures.value c.start.ensures.value c.in_ok-push_str-2.ensures.bytes
          (c.as_usize.ensures.value ∙ c.pattern.ensures))
          c.end-at.ensures.value c.loop-found.invariant.order;
      lies = lies-next patterns (length x) at first c.end-at.ensures.value c.loop-found.invariant.lies;
      boundary = rw c.end-at.ensures.value (boundary-end x c.in-Some.found c.in-Some.ensures.whole);
    }
