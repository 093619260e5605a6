-- The class is read where the state's words have it.
use Rattle.std.proofs.Common.{◌+◌, ◌/◌, arith}
use Rattle.ac_tables.proofs.contiguous.EdgeLemmas.{edge-one, edge-few}
use Rattle.ac_tables.proofs.contiguous.table.Table.edge_class.Goals as goal

pub index-word-requires : goal.index-word-requires
index-word-requires c = omega (arith, c.requires, c.as_usize-first.ensures.value)

pub returns-then-kind-eq-ONE : goal.returns-then-kind-eq-ONE
returns-then-kind-eq-ONE c =
    edge-one c.args.self.now c.args.sid c.args.at c.as_usize-first.result c.index-word.result.now
    (omega (arith, c.requires)) c.as_usize-first.ensures.value c.index-word.ensures c.if-kind-eq-ONE.true

pub index-four-requires : goal.index-four-requires
index-four-requires c = omega (arith, c.requires, c.as_usize-first.ensures.value)

pub returns : goal.returns
returns c =
    edge-few c.args.self.now c.args.sid c.args.at c.as_usize-first.result c.index-word.result.now
    (c.as_usize-first.result + 2 + c.args.at / 4) c.index-four.result.now c.to_le_bytes-classes.result
    c.requires c.as_usize-first.ensures.value c.index-word.ensures c.if-kind-eq-ONE.false
    (omega (arith, c.as_usize-first.ensures.value)) c.index-four.ensures c.to_le_bytes-classes.ensures
