-- Bytes of one class write one number.
use Rattle.std.proofs.Common.{◌≡◌, ◌+◌, ◌<◌, length, get_or, subst, ◌∙◌, arith, length-set}
use Rattle.std.proofs.lemmas.List.{get_or_default}
use Rattle.ac_input.specs.Alphabet.{class}
use Rattle.ac_noncontiguous.specs.Compiler.Layout.{IsRowAppended}
use Rattle.ac_noncontiguous.proofs.compiler.RowLemmas.{row-none, row-more}
use Rattle.ac_noncontiguous.proofs.compiler.rows.push_row.Goals as goal

pub loop-byte-init : goal.loop-byte-init
loop-byte-init c = (row-none c.in_ok-push_blank.ensures.0, c.in_ok-push_blank.ensures.1)

pub loop-byte-preserved : goal.loop-byte-preserved
loop-byte-preserved c =
    let b = c.loop-byte.byte in
    let rows = c.loop-byte.rows.items in
    let at = c.len-row.result + c.get.result in
    let next = get_or c.args.edges.now b c.index-edges-byte.result in
    let is_at : at ≡ length c.args.rows.now.items + class c.args.classes.now b =
    omega (arith, c.len-row.ensures, c.get.ensures.value) in
    let room : at < length rows = omega (arith, c.loop-byte.invariant.1, c.get.ensures.fits, c.len-row.ensures) in (
      row-more c.requires c.loop-byte-test.true is_at
          (get_or_default c.args.edges.now b _ 0 (omega (arith, c.type_inv.edges))) room c.loop-byte.invariant.0,
      length-set rows at next ∙ c.loop-byte.invariant.1,
    )

pub returns : goal.returns
returns c =
    let all : c.loop-byte.byte ≡ 256 = omega arith in
    subst (λ n. IsRowAppended c.args.classes.now c.args.edges.now n c.args.rows.now.items c.loop-byte.rows.items) all
    c.loop-byte.invariant.0
