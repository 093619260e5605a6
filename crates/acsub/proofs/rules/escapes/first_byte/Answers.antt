-- A backslash begins an escape, and any other byte stands for itself.
use Rattle.std.proofs.Common.{◌∷◌, inl, sym, ap, ◌∙◌, subst}
use Rattle.ac_input.proofs.lemmas.EscapeLemmas.{BeginsWithByte-nil}
use Rattle.acsub.specs.Rules.Lines.{BeginsWithFound, BeginsWithNoByte}
use Rattle.acsub.proofs.rules.escapes.first_byte.Goals as goal

pub returns-in_err-byte : goal.returns-in_err-byte
returns-in_err-byte c =
    rw c.from_residual.ensures (subst BeginsWithNoByte (sym c.in_err-byte.ensures.none) BeginsWithByte-nil)

pub returns-then-byte-eq92 : goal.returns-then-byte-eq92
returns-then-byte-eq92 c =
    let split = c.in_ok-byte.ensures.some ∙ ap (λ b. b ∷ c.in_ok-byte.rest.now) c.if-byte-eq92.true in
    subst (λ side. BeginsWithFound side c.escaped_byte.result) (sym split) c.escaped_byte.ensures

pub returns-else-byte-eq92 : goal.returns-else-byte-eq92
returns-else-byte-eq92 c = inl (c.in_ok-byte.ensures.some, c.if-byte-eq92.false)
