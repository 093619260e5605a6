use Rattle.std.proofs.Common.{◌≡◌, ◌<◌, length, refl, sym, ap, slice_index, length-set, arith}
use Rattle.ac_literal.proofs.prefilter.ChoiceLemmas.{recorded}
use Rattle.ac_literal.proofs.prefilter.rare_bytes.record.Goals as goal

pub loop-at-preserved : goal.loop-at-preserved
loop-at-preserved c =
    let once : length c.lengthen.new.distances ≡ 256 = c.lengthen.array_long in
    let now : length c.loop-at.distances ≡ 256 = omega (arith, simp length-set at (ap length c.lengthen.ensures)) in
    let byte = c.type_inv.pattern c.loop-at.at in
    let pair = c.other.type_inv in
    let r = recorded c.args.pairing.now c.args.distances.now c.args.pattern.now c.loop-at.distances
    c.lengthen.new.distances c.lengthen-in-loop-at.new.distances
    c.loop-at.at (slice_index c.args.pattern.now c.loop-at.at) c.other.result refl (sym c.other.ensures.value)
    (let small : slice_index c.args.pattern.now c.loop-at.at < 256 = omega (arith, byte) in omega arith) (omega arith)
    c.lengthen.ensures c.lengthen-in-loop-at.ensures
    (let long = c.requires in let here = c.loop-at-test.true in omega arith) c.loop-at.invariant.grown
    c.loop-at.invariant.reach c.loop-at.invariant.near in
    record { grown = r.grown; reach = r.reach; near = r.near }
