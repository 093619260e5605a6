-- The masked text, one byte at a time.
use Rattle.std.proofs.Common.{◌≡◌, ℕ, ◌+◌, ◌<◌, ◌≤◌, [], ◌∷◌, ◌++◌, length, take, slice_index, sym, ap, ◌∙◌, arith}
use Rattle.std.proofs.lemmas.List.{take_more, take_all}
use Rattle.ac_input.specs.Mask.{IsCoveredAmong}
use Rattle.ac_input.specs.Word.{OccursAsked}
use Rattle.ac_input.proofs.lemmas.MaskAmongLemmas.{among-masked}
use Rattle.ac_input.proofs.lemmas.WordLemmas.{asked-counted}
use Rattle.test_plain.specs.Naive.{Plain, plain_masked}

module _ (mask : ℕ) (s : Plain) (at byte : ℕ) (inside : s.search.end ≤ length s.search.haystack)
    (within : at < length s.search.haystack) where
  -- the next byte of the masked text
  next : slice_index (plain_masked mask s) at ≡ byte → take at (plain_masked mask s) ++ byte ∷ [] ≡ take (at + 1) (plain_masked mask s)
  next is =
      let len = (among-masked (asked-counted s.words) mask s.search inside).len in
      ap (λ b. take at (plain_masked mask s) ++ b ∷ []) (sym is) ∙ sym (take_more (plain_masked mask s) at 0 (omega arith))

  -- it is the mask where the place is covered
  pub next_covered : IsCoveredAmong (OccursAsked s.words) s.search at → byte ≡ mask
      → take at (plain_masked mask s) ++ byte ∷ [] ≡ take (at + 1) (plain_masked mask s)
  next_covered covered is = next ((among-masked (asked-counted s.words) mask s.search inside).covered at covered ∙ sym is)

  -- and else the haystack's
  pub next_kept : ¬ IsCoveredAmong (OccursAsked s.words) s.search at → byte ≡ slice_index s.search.haystack at
      → take at (plain_masked mask s) ++ byte ∷ [] ≡ take (at + 1) (plain_masked mask s)
  next_kept none is = next ((among-masked (asked-counted s.words) mask s.search inside).kept at none ∙ sym is)

-- as many bytes of the masked text as the haystack has are all of it
pub all_masked : (mask : ℕ) (s : Plain) (at : ℕ) → s.search.end ≤ length s.search.haystack → length s.search.haystack ≤ at
    → take at (plain_masked mask s) ≡ plain_masked mask s
all_masked mask s at inside past =
    let len = (among-masked (asked-counted s.words) mask s.search inside).len in
    take_all at (plain_masked mask s) (omega arith)
