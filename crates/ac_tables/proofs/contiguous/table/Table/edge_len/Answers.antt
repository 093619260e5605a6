-- The kind in the first word says which transitions are listed.
use Rattle.std.proofs.Common.{◌∙◌, arith}
use Rattle.ac_tables.proofs.contiguous.EdgeLemmas.{one-listed, sparse-listed}
use Rattle.ac_tables.proofs.contiguous.StateLemmas.{word-of, place-within}
use Rattle.ac_tables.proofs.contiguous.table.Table.edge_len.Goals as goal

pub index-word-requires : goal.index-word-requires
index-word-requires c = let within = place-within c.args.self.now c.args.sid c.requires in
    omega (arith, within, c.as_usize.ensures.value)

pub returns-then-kind-eq-ONE : goal.returns-then-kind-eq-ONE
returns-then-kind-eq-ONE c =
    let word = word-of c.args.self.now c.args.sid c.requires c.as_usize.ensures.value c.index-word.ensures in
    one-listed c.args.self.now c.args.sid c.requires (word.1 ∙ c.if-kind-eq-ONE.true)

pub returns : goal.returns
returns c =
    let word = word-of c.args.self.now c.args.sid c.requires c.as_usize.ensures.value c.index-word.ensures in
    sparse-listed c.args.self.now c.args.sid _ c.requires
    (record {
      kind = word.1;
      dense = c.if-kind-eq-DENSE.false;
      one = c.if-kind-eq-ONE.false;
    })
