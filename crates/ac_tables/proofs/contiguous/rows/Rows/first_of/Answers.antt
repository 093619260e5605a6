use Rattle.std.proofs.Common.{sym, ◌∙◌, arith}
use Rattle.std.proofs.lemmas.List.{get_or_read}
use Rattle.ac_tables.proofs.contiguous.CutLemmas.{cut-first, cut-second}
use Rattle.ac_tables.proofs.contiguous.rows.Rows.first_of.Goals as goal

pub returns-then-has : goal.returns-then-has
returns-then-has c =
    let rows = c.args.self.now in
    let len = c.len.ensures in
    let more = c.if-len-lt2.false in
    let read = get_or_read rows.places.items 0 c.index.result.now (omega (arith, len, more)) c.index.ensures 0 in
    cut-first rows.places.items c.args.to c.index.result.now rows.rise (omega (arith, len, more)) (sym read)
    (sym c.has.ensures ∙ c.if-has.true)

pub returns-then-has-2 : goal.returns-then-has-2
returns-then-has-2 c =
    let rows = c.args.self.now in
    let len = c.len.ensures in
    let more = c.if-len-lt2.false in
    let first = get_or_read rows.places.items 0 c.index.result.now (omega (arith, len, more)) c.index.ensures 0 in
    let second = get_or_read rows.places.items 1 c.index-2.result.now (omega (arith, len, more)) c.index-2.ensures 0 in
    cut-second rows.places.items c.args.to c.index.result.now c.index-2.result.now rows.rise (omega (arith, len, more))
    (sym first) (sym second) (sym c.has.ensures ∙ c.if-has.false) (sym c.has-2.ensures ∙ c.if-has-2.true)
