use Rattle.std.proofs.Common.{◌+◌, ◌∙◌, arith}
use Rattle.ac_tables.proofs.contiguous.FollowLemmas.{met-place, fail-small}
use Rattle.ac_tables.proofs.contiguous.StateLemmas.{fail-within, fail-read}
use Rattle.ac_tables.proofs.contiguous.NFA.fail.Goals as goal

pub index-requires : goal.index-requires
index-requires c =
    let a = c.args.self.now in
    let within = fail-within a.table c.args.sid (met-place a _ c.args.sid c.requires) in
    omega (arith, within, c.as_usize.ensures.value)

pub must-requires : goal.must-requires
must-requires c =
    let a = c.args.self.now in
    fail-small a c.args.sid c.index.result.now c.requires
    (fail-read a.table c.args.sid (c.as_usize.result + 1) c.index.result.now (omega (arith, c.as_usize.ensures.value))
    c.index.ensures)

pub returns : goal.returns
returns c = λ s h.
    let a = c.args.self.now in
    c.must.ensures ∙ fail-read a.table c.args.sid (c.as_usize.result + 1) c.index.result.now
    (omega (arith, c.as_usize.ensures.value)) c.index.ensures s h
