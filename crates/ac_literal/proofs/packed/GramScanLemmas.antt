-- Where no window of a map stands, none of its patterns occurs.
use Rattle.std.proofs.Common.{◌≡◌, ℕ, ◌+◌, ◌-◌, ◌≤◌, inl, inr, List, [], length, take, drop, get_or, refl, sym, ap, subst, ◌∙◌, arith, get_or-take, length-take-le}
use Rattle.std.specs.Prelude.{slice_range}
use Rattle.std.proofs.lemmas.Bool.{cases_lt}
use Rattle.std.proofs.lemmas.Simd.{get_or-chunk}
use Rattle.ac_input.specs.Occurrence.{Occurrence, Occurs}
use Rattle.ac_literal.specs.declared.grams.Grams.{Grams}
use Rattle.ac_literal.specs.Grams.{HaveWindows, MayStart, PassesWindows}
use Rattle.ac_literal.specs.Packed.{AreAsLong, part_search}
use Rattle.ac_literal.specs.Packed.RabinKarp.{NoneBefore}
use Rattle.ac_literal.proofs.grams.GramLemmas.{bytes-begin}
use Rattle.ac_literal.proofs.packed.TextLemmas.{starts-lying, lies-bytes}

module _ {patterns : List (List ℕ)} {len : ℕ} {g : Grams} (all : HaveWindows g len patterns (length patterns))
    (short : AreAsLong len patterns) {haystack : List ℕ} {start end : ℕ} (fits : end ≤ length haystack) where
  -- where a pattern occurs, it may begin
  occurs-begins : {from : ℕ} (o : Occurrence) → from ≤ o.start → Occurs (part_search patterns haystack start end) o
      → MayStart g (slice_range haystack from end) (o.start - from)
  occurs-begins {from} o after h =
      let own = starts-lying fits (h, refl) in
      let pattern = get_or patterns o.pattern [] in
      let n = length pattern in
      let there = lies-bytes (subst (Occurs (part_search patterns haystack start end)) own.1 h) in
      let rest : o.start + n - o.start ≡ n = omega arith in
      let text : take n (drop o.start haystack) ≡ pattern = ap (λ k. take k (drop o.start haystack)) (sym rest)
      ∙ there.1 in
      let long = short o.pattern own.0 in
      let front : length (take len pattern) ≡ len = length-take-le len pattern long in
      let room = there.0 in
      bytes-begin (take len pattern) (slice_range haystack from end) (o.start - from)
      (λ k within.
      let place : from + (o.start - from + k) ≡ o.start + k = omega (arith, after) in
      get_or-chunk from (end - from) haystack (o.start - from + k) 0 (omega (arith, within, front, long, room, after))
      ∙ ap (λ i. get_or haystack i 0) place
      ∙ sym (get_or-chunk o.start n haystack k 0 (omega (arith, within, front, long)))
      ∙ ap (λ p. get_or p k 0) text
      ∙ sym (get_or-take len pattern k 0 (omega (arith, within, front))))
      (all o.pattern own.0)

  -- no pattern occurs at the places that are passed
  pub none-passed : {from passed block : ℕ} → NoneBefore (part_search patterns haystack start end) from
      → PassesWindows g (slice_range haystack from end) passed → block ≤ from + passed
      → NoneBefore (part_search patterns haystack start end) block
  none-passed {from} {passed} {block} none passes near o h = elim (cases_lt o.start block) [
    | inl early ↦
        let after = none o h in
        absurd (passes (o.start - from) (omega (arith, early, near, after)) (occurs-begins o after h))
    | inr late ↦ late
  ]
