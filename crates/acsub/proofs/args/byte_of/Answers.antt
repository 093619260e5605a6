-- The digits decode to one byte, or to none.
use Rattle.std.proofs.Common.{◌≡◌, Ok, Err, refl, subst}
use Rattle.std.specs.Prelude.{MatchResult}
use Rattle.hex.specs.Hex.{decode_sized}
use Rattle.acsub.proofs.args.ByteLemmas.{spells-byte, spells-no_byte}
use Rattle.acsub.proofs.args.byte_of.Goals as goal
use Rattle.acsub.proofs.args.byte_of.Goals.{After-decode_to_slice}

-- what decoding the text returned
decoded : (c : After-decode_to_slice)
    → MatchResult (decode_sized c.args.hex.now 1)
    (λ bytes. (c.decode_to_slice.result ≡ Ok tt) × (c.decode_to_slice.new.out ≡ bytes))
    (λ e. c.decode_to_slice.result ≡ Err e)
decoded c =
    subst (λ text. MatchResult (decode_sized text 1)
    (λ bytes. (c.decode_to_slice.result ≡ Ok tt) × (c.decode_to_slice.new.out ≡ bytes))
    (λ e. c.decode_to_slice.result ≡ Err e)) c.as_bytes.ensures.value c.decode_to_slice.ensures.value

pub returns-in-Ok : goal.returns-in-Ok
returns-in-Ok c =
    spells-byte c.args.hex.now c.decode_to_slice.new.out c.decode_to_slice.result
    (decoded (goal.at.returns-in-Ok c).After-decode_to_slice) c.in-Ok.is

pub returns-in-Err : goal.returns-in-Err
returns-in-Err c = (
  refl,
  spells-no_byte c.args.hex.now c.decode_to_slice.new.out c.decode_to_slice.result
      (decoded (goal.at.returns-in-Err c).After-decode_to_slice) c.in-Err.field-0 c.in-Err.is,
)
