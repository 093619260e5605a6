-- No window stands in the places before the one after a place that isn't marked.
use Rattle.std.proofs.Common.{arith}
use Rattle.ac_literal.proofs.grams.GramLemmas.{none-more}
use Rattle.ac_literal.proofs.grams.Grams.next.Goals as goal

pub loop-at-preserved : goal.loop-at-preserved
loop-at-preserved c = record {
  within = omega arith;
  none = none-more c.args.self.now c.args.bytes.now (c.has.ensures c.if-has.false) c.loop-at.invariant.none;
}
