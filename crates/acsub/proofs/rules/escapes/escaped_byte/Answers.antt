-- The letter after the backslash is an escape, or begins two hex digits, or is neither.
use Rattle.std.proofs.Common.{◌∷◌, inl, inr, sym, ap, ◌∙◌, subst}
use Rattle.acsub.specs.Rules.Lines.{BeginsWithFound, BeginsWithNoByte}
use Rattle.acsub.proofs.rules.EscapedLemmas.{no_byte-letter, no_byte-lone}
use Rattle.acsub.proofs.rules.escapes.escaped_byte.Goals as goal

pub returns-in_err-letter : goal.returns-in_err-letter
returns-in_err-letter c =
    rw c.from_residual.ensures
    (subst (λ escape. BeginsWithNoByte (92 ∷ escape)) (sym c.in_err-letter.ensures.none) no_byte-lone)

pub returns-then-letter-eq120 : goal.returns-then-letter-eq120
returns-then-letter-eq120 c =
    let split = c.in_ok-letter.ensures.some ∙ ap (λ b. b ∷ c.in_ok-letter.rest.now) c.if-letter-eq120.true in
    subst (λ escape. BeginsWithFound (92 ∷ escape) c.spelt_byte.result) (sym split) c.spelt_byte.ensures

pub returns-in_err-byte : goal.returns-in_err-byte
returns-in_err-byte c =
    rw c.from_residual-in_err-byte.ensures
    (subst (λ escape. BeginsWithNoByte (92 ∷ escape)) (sym c.in_ok-letter.ensures.some)
    (no_byte-letter c.in_ok-letter.letter c.in_ok-letter.rest.now c.if-letter-eq120.false c.in_err-byte.ensures.none))

pub returns : goal.returns
returns c =
    inr (inl (c.in_ok-letter.letter, ap (λ escape. 92 ∷ escape) c.in_ok-letter.ensures.some, c.in_ok-byte.ensures.some))
