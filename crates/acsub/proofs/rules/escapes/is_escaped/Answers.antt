-- Bytes are read while there are any: those of the whole side, or up to a place where none begins.
use Rattle.std.proofs.Common.{◌∷◌, [], ◌++◌, length, refl, sym, ◌∙◌, subst, ap}
use Rattle.std.proofs.lemmas.Bool.{eq-eqb, eqb-true}
use Rattle.std.proofs.lemmas.List.{nil_from_length}
use Rattle.ac_input.proofs.lemmas.EscapeLemmas.{BeginsWithByte-length}
use Rattle.acsub.proofs.rules.EscapedLemmas.{BeginsWithBytes, bytes-all, bytes-push, bytes-stuck}
use Rattle.acsub.proofs.rules.escapes.is_escaped.Goals as goal

pub loop-after-init : goal.loop-after-init
loop-after-init c = ([], refl)

pub loop-after-preserved : goal.loop-after-preserved
loop-after-preserved c =
    let (bytes, read) = c.loop-after.invariant in (
      bytes ++ c.in-Some.field-0-0 ∷ [],
      bytes-push c.args.side.now bytes c.loop-after.rest.now c.in-Some.field-0-0 c.in-Some.after.now read
          c.in-Some.ensures,
    )

pub loop-after-smaller : goal.loop-after-smaller
loop-after-smaller c =
    BeginsWithByte-length c.loop-after.rest.now c.in-Some.field-0-0 c.in-Some.after.now c.in-Some.ensures

pub returns : goal.returns
returns c =
    let rest = c.loop-after.rest.now in
    let (bytes, read) = c.loop-after.invariant in (
      λ yes.
          let none = nil_from_length rest (eqb-true (length rest) 0 (sym c.is_empty.ensures ∙ yes)) in
          (bytes, bytes-all c.args.side.now bytes (subst (BeginsWithBytes c.args.side.now bytes) none read)),
      λ (all, stands).
          let stuck = bytes-stuck c.args.side.now bytes rest all read c.in_default.ensures stands in
          c.is_empty.ensures ∙ eq-eqb (length rest) 0 (ap length stuck.0),
    )
