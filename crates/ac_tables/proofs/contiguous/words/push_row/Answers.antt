-- The entries of the transitions are written, the last one first.
use Rattle.std.proofs.Common.{◌<◌, ◌-◌, ℕ, length, ap, arith, length-append}
use Rattle.std.specs.List.{range_with_len}
use Rattle.std.specs.Prelude.{map, drop}
use Rattle.std.proofs.lemmas.List.Elements.{All-get_or}
use Rattle.std.proofs.lemmas.List.FromFn.{length-map-range_with_len}
use Rattle.ac_tables.specs.Contiguous.Words.{next_by}
use Rattle.ac_tables.proofs.contiguous.WordsLemmas.{row-back}
use Rattle.ac_tables.proofs.contiguous.words.push_row.Goals as goal

pub index_mut-requires : goal.index_mut-requires
index_mut-requires c =
    let edges = c.args.edges.now in
    let lt : c.loop-k.k - 1 < length edges = (let some = c.loop-k-test.true in omega arith) in
    let small =
    All-get_or (λ (edge : ℕ × ℕ). edge.0 < c.args.alphabet_len) edges _ c.index-edges-k.result lt c.requires in
    let row = map (next_by (drop c.loop-k.k edges)) (range_with_len 0 c.args.alphabet_len) in
    let long = length-append c.args.words.now.items row in
    let wide = length-map-range_with_len (next_by (drop c.loop-k.k edges)) 0 c.args.alphabet_len in
    let is = ap length c.loop-k.invariant in
    omega (arith, small, long, wide, is, c.len-row.ensures)

pub loop-k-preserved : goal.loop-k-preserved
loop-k-preserved c =
    let edges = c.args.edges.now in
    let lt : c.loop-k.k - 1 < length edges = (let some = c.loop-k-test.true in omega arith) in
    let small =
    All-get_or (λ (edge : ℕ × ℕ). edge.0 < c.args.alphabet_len) edges _ c.index-edges-k.result lt c.requires in
    row-back c.args.words.now.items c.loop-k.words.items edges _ c.loop-k.k _ _ c.args.alphabet_len
    c.index-edges-k.result c.index-edges-k-in-loop-k.result (omega arith) lt small (omega (arith, c.len-row.ensures))
    c.as_u32.ensures.value c.loop-k.invariant
