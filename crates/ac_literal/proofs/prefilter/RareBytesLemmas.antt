-- Rare bytes: each occurrence holds one, and starts no earlier than the first one found, stepped back by its distance.
use Rattle.std.proofs.Common.{◌≡◌, ℕ, ◌+◌, ◌-◌, ◌<◌, ◌≤◌, max, List, length, IsTrue, Some, subst, inl, inr, arith}
use Rattle.std.specs.Prelude.{slice_index}
use Rattle.std.proofs.lemmas.Bool.{cases_lt}
use Rattle.memchr.specs.Find.{Passes, IsFirst}
use Rattle.ac_input.specs.declared.search.Span.{Span}
use Rattle.ac_input.specs.Same.{same}
use Rattle.ac_input.specs.Occurrence.{Occurrence, Occurs}
use Rattle.ac_input.specs.Dictionary.{Dictionary}
use Rattle.ac_input.specs.declared.search.Anchored.TheVariants.{No}
use Rattle.ac_input.specs.Input.{search_of}
use Rattle.ac_literal.specs.Prefilter.Needles.{is_needle}
use Rattle.ac_literal.specs.Prefilter.Strategies.{AreRare}
use Rattle.ac_literal.specs.declared.prefilter.needles.Needles.{Needles}
use Rattle.ac_literal.proofs.prefilter.CandidateLemmas.{lies}

module _ {m : Dictionary} {needles : Needles} {distances : List ℕ} {haystack : List ℕ} {span : Span}
    (inside : span.end ≤ length haystack) (rare : AreRare m needles distances) where
  -- each occurrence holds a needle
  pub rare_hold : (o : Occurrence) → Occurs (search_of m No haystack span) o
      → (k : ℕ) × (o.start ≤ k) × (k < o.end) × Passes (is_needle needles) haystack k
  rare_hold o h =
      let l = lies inside h in
      let held = rare.held l.pattern l.given in
      let end = l.end in
      let within = held.within in (
        o.start + held.at,
        omega arith,
        omega arith,
        held.needle (slice_index haystack (o.start + held.at)) (l.same_at held.at within),
      )

  -- no occurrence starts before the place of the first needle, stepped back by its distance
  pub rare_no_earlier : {at start : ℕ} → start ≡ max span.start (at - slice_index distances (slice_index haystack at))
      → IsFirst (Passes (is_needle needles) haystack) span.start span.end (Some at) → (o : Occurrence)
      → Occurs (search_of m No haystack span) o → start ≤ o.start
  rare_no_earlier {at} {start} is first o h =
      let b = first.0 in
      let w = h.within in
      let l = lies inside h in
      let end = l.end in
      let k = rare_hold o h in
      elim (cases_lt o.start at) [
        | inl behind ↦
            elim (cases_lt k.0 at) [
              | inl earlier ↦ absurd (b.before k.0 (omega arith) earlier k.3)
              | inr later ↦
                  let j : ℕ = at - o.start in
                  let there : o.start + j ≡ at = omega arith in
                  let within : j < length l.pattern = omega arith in
                  let same_there : IsTrue (same m.pairing (slice_index l.pattern j) (slice_index haystack at)) = subst
                  (λ place. IsTrue (same m.pairing (slice_index l.pattern j) (slice_index haystack place))) there
                  (l.same_at j within) in
                  let reach = rare.reach l.pattern l.given j (slice_index haystack at) within same_there in
                  omega arith
            ]
        | inr ahead ↦ omega arith
      ]
