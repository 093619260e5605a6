-- Bytes and first places of a part of a haystack, compared with those of the whole.
use Rattle.std.proofs.Common.{◌≡◌, ℕ, ◌+◌, ◌-◌, ◌<◌, ◌≤◌, Bool, List, length, None, Some, sym, ap, ◌∙◌, subst, arith}
use Rattle.std.specs.Prelude.{slice_range, slice_index}
use Rattle.std.proofs.lemmas.Grind.{common_steps}
use Rattle.memchr.specs.Find.{Nowhere, IsFirst, IsFirstByte, Passes}
use Rattle.ac_input.proofs.lemmas.OrderLemmas.{slice_range-length}

-- a byte of a part is a byte of the whole
pub index-part : (hay : List ℕ) (start : ℕ) {end : ℕ} (k : ℕ) → end ≤ length hay → start + k < end
    → slice_index (slice_range hay start end) k ≡ slice_index hay (start + k)
index-part hay start k inside within = grind (arith, common_steps)

module _ (test : ℕ → Bool) (hay : List ℕ) {start end : ℕ} (ordered : start ≤ end) (inside : end ≤ length hay) where
  -- a byte that passes the test in the part passes it in the whole
  passes_too : (k : ℕ) → start + k < end → Passes test (slice_range hay start end) k → Passes test hay (start + k)
  passes_too k within passes = ap test (sym (index-part hay start k inside within)) ∙ passes

  -- a byte that passes the test in the whole passes it in the part
  passes_back : (k : ℕ) → start + k < end → Passes test hay (start + k) → Passes test (slice_range hay start end) k
  passes_back k within passes = ap test (index-part hay start k inside within) ∙ passes

  -- where no byte of the part passes, none of the span does
  pub nowhere_in_span : {n : ℕ} → start + n ≤ end → Nowhere (Passes test (slice_range hay start end)) 0 n
      → Nowhere (Passes test hay) start (start + n)
  nowhere_in_span within nowhere k low high passes =
      let j : ℕ = k - start in
      let same : k ≡ start + j = omega arith in
      nowhere j (omega arith) (omega arith) (passes_back j (omega arith) (subst (Passes test hay) same passes))

  -- the first place of the part that passes is the first one of the span
  pub first_in_span : {part : List ℕ} {k : ℕ} → part ≡ slice_range hay start end → IsFirstByte test part (Some k)
      → IsFirst (Passes test hay) start end (Some (start + k))
  first_in_span {k} is first_of_part =
      let long = slice_range-length hay start ordered inside in
      let first : IsFirstByte test (slice_range hay start end) (Some k) =
      subst (λ xs. IsFirstByte test xs (Some k)) is first_of_part in
      let before = first.0 in
      let within : start + k < end = omega arith in (
        record { low = omega arith; high = within; before = nowhere_in_span (omega arith) before.before },
        passes_too k within first.1,
      )

  -- where no place of the part passes, none of the span does
  pub none_in_span : {part : List ℕ} → part ≡ slice_range hay start end → IsFirstByte test part None
      → IsFirst (Passes test hay) start end None
  none_in_span {part} is none_of_part =
      let long = slice_range-length hay start ordered inside in
      let none : IsFirstByte test (slice_range hay start end) None =
      subst (λ xs. IsFirstByte test xs None) is none_of_part in
      let part =
      nowhere_in_span (omega arith) (subst (λ n. Nowhere (Passes test (slice_range hay start end)) 0 n) long none) in
      let all : start + (end - start) ≡ end = omega arith in
      subst (λ n. Nowhere (Passes test hay) start n) all part
