use Rattle.std.proofs.Common.{◌≡◌, ◌∙◌, sym, ap, Ok, arith}
use Rattle.hex.specs.Hex.{decode_of}
use Rattle.std.proofs.Common.{◌⊎◌, Err, subst}
use Rattle.hex.specs.declared.error.FromHexError.TheVariants.{OutOfMemory}
use Rattle.acsub.specs.Args.Words.{Misspells}
use Rattle.acsub.proofs.args.PairsLemmas.{misspells, spells_nothing, spells_odd, spells_these}
use Rattle.acsub.proofs.args.pairs_of.Goals.{then-count-eq0-via-then-count-eq0, then-count-eq0-via-else-count-eq0+then-count-eq1}
use Rattle.acsub.proofs.args.pairs_of.Goals as goal

pub returns-then-count-eq0 : goal.returns-then-count-eq0
returns-then-count-eq0 c =
    let decoded : decode_of c.args.hex.now ≡ Ok c.in-Ok.bytes.items = ap decode_of (sym c.as_bytes.ensures.value)
    ∙ c.in-Ok.ensures.ok in
    elim c.then-count-eq0.branch [
      | then-count-eq0-via-then-count-eq0 w ↦ spells_nothing _ _ decoded (omega arith)
      | then-count-eq0-via-else-count-eq0+then-count-eq1 w ↦ spells_odd _ _ decoded (omega arith)
    ]

pub returns : goal.returns
returns c =
    let decoded : decode_of c.args.hex.now ≡ Ok c.in-Ok.bytes.items = ap decode_of (sym c.as_bytes.ensures.value)
    ∙ c.in-Ok.ensures.ok in
    let told = c.in_ok-two_by_two.ensures in
    spells_these _ _ told.0 _ decoded (omega arith) (λ odd. omega arith) (sym c.as_slice.ensures.value ∙ told.1) told.2

pub returns-in-Err : goal.returns-in-Err
returns-in-Err c =
    let hex = c.args.hex.now in
    let told : (c.in-Err.error ≡ OutOfMemory) ⊎ (decode_of hex ≡ Err c.in-Err.error) =
    subst (λ text. (c.in-Err.error ≡ OutOfMemory) ⊎ (decode_of text ≡ Err c.in-Err.error)) c.as_bytes.ensures.value
    c.in-Err.ensures.err in
    subst (Misspells hex) (sym c.fault_of_hex.ensures) (misspells hex c.in-Err.error told)
