-- What an occurrence determines about its pattern.
use Rattle.std.proofs.Common.{◌≡◌, ℕ, ◌+◌, ◌-◌, ◌<◌, ◌≤◌, Bool, true, false, Option, Some, None, List, length, sym, ◌∙◌, ap, subst, ◌⊎◌, inl, inr, ◌↔◌, true≢false, arith}
use Rattle.std.specs.Prelude.{slice_get}
use Rattle.std.proofs.lemmas.Option.{slice_get_within, same_Some, none-some}
use Rattle.ac_input.specs.declared.search.MatchKind.{MatchKind}
use Rattle.ac_input.specs.Occurrence.{Search, Occurrence, Occurs}
use Rattle.ac_input.specs.Best.{IsLeast}
use Rattle.ac_input.specs.Walk.{Repeats}
use Rattle.ac_input.specs.Word.{is_whole_word, OccursAsked}
use Rattle.ac_input.proofs.lemmas.OrderLemmas.{occurs-end, occurrence_from_parts}
use Rattle.ac_input.proofs.lemmas.WordLemmas.{asked-counted}
use Rattle.test_plain.specs.Naive.{Plain, plain_starting_at, PlainOccurs, PlainStartsAt}

-- equal searches both lie within their haystacks if one does
pub fits_too : {p q : Plain} → p ≡ q → p.search.end ≤ length p.search.haystack → q.search.end ≤ length q.search.haystack
fits_too same fits = subst (λ r. r.search.end ≤ length r.search.haystack) same fits

-- what counts occurs
pub occurs : (p : Plain) (o : Occurrence) → PlainOccurs p o → Occurs p.search o
occurs p o h = (asked-counted p.words).occurs p.search o h

-- and so lies within the span
pub within : (p : Plain) (o : Occurrence) → PlainOccurs p o
    → (p.search.start ≤ o.start) × (o.start ≤ o.end) × (o.end ≤ p.search.end)
within p o h = (occurs p o h).within

-- where whole words alone count, a whole word that occurs counts; else what occurs does
pub counting : (words : Bool) (s : Search) (o : Occurrence) → (words ≡ false) ⊎ (is_whole_word s.haystack o ≡ true)
    → Occurs s o ↔ OccursAsked words s o
counting true s o (inl not_asked) = absurd (true≢false not_asked)
counting true s o (inr whole) = (λ h. (h, whole), λ h. h.0)
counting false s o either = (λ h. h, λ h. h)

-- where a best repeats the last pick, the walk stands within the span
pub repeats_within : (kind : MatchKind) (p : Plain) (at : ℕ) (last : Option ℕ) (r : Option Occurrence)
    → IsLeast kind (PlainOccurs (plain_starting_at p at)) r → Repeats last r → at ≤ p.search.end
repeats_within kind p at None r best again = absurd again
repeats_within kind p at (Some l) None best again = absurd again
repeats_within kind p at (Some l) (Some o) best again =
    let w = within (plain_starting_at p at) o best.0 in
    omega arith

-- no occurrence has a number that no pattern has
pub none_numbered : (p : Plain) {n : ℕ} → None ≡ slice_get p.search.patterns n → (o : Occurrence) → PlainOccurs p o
    → o.pattern ≡ n → ⊥
none_numbered p none o h number =
    let same = (occurs p o h).same in
    none-some same.0 (none ∙ sym (ap (slice_get p.search.patterns) number) ∙ same.1)

-- the number of an occurrence is that of a pattern
pub pattern_within : (p : Plain) (o : Occurrence) → PlainOccurs p o → o.pattern < length p.search.patterns
pattern_within p o h =
    let same = (occurs p o h).same in
    slice_get_within p.search.patterns o.pattern same.0 same.1

module _ (s : Plain) (n : ℕ) (p : List ℕ) (fits : s.search.end ≤ length s.search.haystack)
    (is : slice_get s.search.patterns n ≡ Some p) where
  -- an occurrence of the pattern is as long as the pattern
  ends : (o : Occurrence) → PlainOccurs s o → o.pattern ≡ n → o.end ≡ o.start + length p
  ends o h number =
      let e = occurs-end fits (occurs s o h) in
      omega (arith, ap length (same_Some e.0 p (sym e.1 ∙ ap (slice_get s.search.patterns) number ∙ is)))

  -- a pattern has at most one occurrence that starts at a place
  pub only_from : (at : ℕ) (o : Occurrence) → PlainStartsAt s at o × (o.pattern ≡ n)
      → o ≡ record { pattern = n; start = at; end = at + length p }
  only_from at o h =
      let end = ends o h.0.0 h.1 in
      occurrence_from_parts h.1 h.0.1 (omega arith)

  -- a pattern has at most one occurrence that ends at a place
  pub only_to : (end : ℕ) (o : Occurrence) → (PlainOccurs s o × (o.end ≡ end)) × (o.pattern ≡ n)
      → o ≡ record { pattern = n; start = end - length p; end = end }
  only_to end o h =
      let long = ends o h.0.0 h.1 in
      occurrence_from_parts h.1 (omega arith) h.0.1

  -- no occurrence starts where the pattern does not fit before the end
  pub none_from : (at : ℕ) → s.search.end < at + length p → (o : Occurrence)
      → ¬ (PlainStartsAt s at o × (o.pattern ≡ n))
  none_from at long o h = omega (arith, ends o h.0.0 h.1, (occurs s o h.0.0).within)

  -- no occurrence of the pattern ends past the span's end, or before the pattern fits
  pub none_to : (end : ℕ) → (s.search.end < end) ⊎ (end < length p) → (o : Occurrence)
      → ¬ ((PlainOccurs s o × (o.end ≡ end)) × (o.pattern ≡ n))
  none_to end out o h = omega (arith, ends o h.0.0 h.1, (occurs s o h.0.0).within)
