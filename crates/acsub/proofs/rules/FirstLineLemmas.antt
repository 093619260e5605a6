-- The first line of a text, and whether it has a byte.
use Rattle.std.proofs.Common.{◌↔◌, ℕ, Bool, List, Contains, subst}
use Rattle.std.specs.Prelude.{IsTrue}
use Rattle.ac_input.specs.Rules.{BeginsWithWritten}
use Rattle.ac_input.proofs.lemmas.TextRuleLemmas.{BeginsWithWritten-one}
use Rattle.acsub.specs.Rules.File.{FirstLineHas}

-- the first line has a byte exactly if what is written of it has it
pub first-has : {byte : ℕ} {text written more : List ℕ} → BeginsWithWritten text written more
    → FirstLineHas byte text ↔ Contains written byte
first-has {byte} {written} {more} begins = (
  λ (other, rest, is, has). subst (λ t. Contains t byte) (BeginsWithWritten-one is begins).0 has,
  λ has. (written, more, begins, has),
)

module _ {text written more : List ℕ} (begins : BeginsWithWritten text written more) (tabbed : Bool) (file : List ℕ)
    (is : IsTrue tabbed ↔ FirstLineHas 9 file) where
  -- a line that has a TAB as the lines of its file do has one exactly if the first line has
  pub even-first : (IsTrue tabbed ↔ Contains written 9) → FirstLineHas 9 text ↔ FirstLineHas 9 file
  even-first even = (λ has. is.0 (even.1 ((first-has begins).0 has)), λ has. (first-has begins).1 (even.0 (is.1 has)))

  -- and the other way round
  pub first-even : FirstLineHas 9 text ↔ FirstLineHas 9 file → IsTrue tabbed ↔ Contains written 9
  first-even same = (λ yes. (first-has begins).0 (same.1 (is.0 yes)), λ has. is.1 (same.0 ((first-has begins).1 has)))
