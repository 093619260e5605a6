-- Case folding pairs ASCII letters alone.
use Rattle.std.proofs.Common.{◌≡◌, ℕ, Bool, true, false, List, ap, ◌∙◌, arith}
use Rattle.std.proofs.lemmas.Bool.Decides.{nat_tests}
use Rattle.ac_input.specs.Laws.Utf8Laws.{char_len}
use Rattle.ac_input.specs.Pairing.{IsFolded, other_case}
use Rattle.ac_input.specs.Same.{other}
use Rattle.ac_input.proofs.utf8_laws.folding_keeps_chars.Goals as goal

-- the two cases of a letter are one byte each
case-chars : (byte : ℕ) → char_len (other_case byte) ≡ char_len byte
case-chars byte = grind (arith, nat_tests)

folded-chars : (folded : Bool) (pairing : List ℕ) → IsFolded folded pairing → (byte : ℕ)
    → char_len (other pairing byte) ≡ char_len byte
folded-chars true pairing is byte = ap char_len (is byte) ∙ case-chars byte
folded-chars false pairing is byte = ap char_len (is byte)

pub returns : goal.returns
returns c = folded-chars
