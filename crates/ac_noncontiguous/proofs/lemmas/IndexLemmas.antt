-- What is read at an index of a list, and where one element was set.
use Rattle.std.proofs.Common.{◌≡◌, ◌≢◌, ℕ, ◌<◌, List, length, get_or, arith, slice_index, slice_set, sym, ap, subst, ◌∙◌, inl, inr, get_or-set_same, get_or-set_other}
use Rattle.std.proofs.lemmas.Bool.{cases_eq}
use Rattle.std.proofs.lemmas.List.{get_or_read}

-- what is read at a number that is the index
pub read-there : (xs : List ℕ) {i at x : ℕ} → i < length xs → at ≡ i → x ≡ get_or xs at x → x ≡ slice_index xs i
read-there xs {at} {x} within is read =
    get_or_read xs at x (omega (arith, within, is)) read 0 ∙ ap (slice_index xs) is

-- where one element was set, what is read is that one or what was there: what holds of both holds of it
pub set-read : (P : ℕ → Type 0) (xs : List ℕ) {at i : ℕ} (x : ℕ) → at < length xs → (i ≡ at → P x)
    → (i ≢ at → P (slice_index xs i)) → P (slice_index (slice_set xs at x) i)
set-read P xs {at} {i} x within here there = elim (cases_eq i at) [
  | inl same ↦
      subst P (sym (ap (slice_index (slice_set xs at x)) same ∙ get_or-set_same xs at x 0 within)) (here same)
  | inr apart ↦ subst P (sym (get_or-set_other xs at i x 0 apart)) (there apart)
]
