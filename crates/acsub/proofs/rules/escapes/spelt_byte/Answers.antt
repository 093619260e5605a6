-- Two hex digits spell a byte.
use Rattle.std.proofs.Common.{◌≡◌, ◌∷◌, [], inr, sym, ap, ◌∙◌, subst}
use Rattle.ac_input.specs.Rules.{Spells}
use Rattle.acsub.proofs.rules.EscapedLemmas.{no_byte-spelt}
use Rattle.acsub.proofs.rules.escapes.spelt_byte.Goals as goal

pub returns-in_err-high : goal.returns-in_err-high
returns-in_err-high c =
    rw c.from_residual.ensures
    (no_byte-spelt c.args.digits.now (λ high low rest byte split.
    let none = sym c.in_err-high.ensures.none ∙ split in cc))

pub returns-in_err-low : goal.returns-in_err-low
returns-in_err-low c =
    rw c.from_residual-in_err-low.ensures
    (no_byte-spelt c.args.digits.now (λ high low rest byte split.
    let one = sym (c.in_ok-high.ensures.some ∙ ap (λ after. c.in_ok-high.high ∷ after) c.in_err-low.ensures.none) ∙ split in
    cc))

pub returns-in_err-byte : goal.returns-in_err-byte
returns-in_err-byte c =
    let two = c.in_ok-high.ensures.some ∙ ap (λ after. c.in_ok-high.high ∷ after) c.in_ok-low.ensures.some in
    rw c.from_residual-in_err-byte.ensures
    (no_byte-spelt c.args.digits.now (λ high low rest byte split spells.
    let same = sym two ∙ split in
    let first : high ≡ c.in_ok-high.high = cc in
    let second : low ≡ c.in_ok-low.low = cc in
    c.in_err-byte.ensures.none byte (subst (λ h. Spells (h ∷ c.in_ok-low.low ∷ []) (byte ∷ [])) first
    (subst (λ l. Spells (high ∷ l ∷ []) (byte ∷ [])) second spells))))

pub returns : goal.returns
returns c =
    let two = c.in_ok-high.ensures.some ∙ ap (λ after. c.in_ok-high.high ∷ after) c.in_ok-low.ensures.some in
    inr (inr (c.in_ok-high.high, c.in_ok-low.low, ap (λ digits. 92 ∷ 120 ∷ digits) two, c.in_ok-byte.ensures.some))
