-- The window is in the map, and the map keeps what it had.
use Rattle.std.proofs.Common.{refl, arith}
use Rattle.ac_literal.proofs.grams.GramLemmas.{keeps-again, window-more}
use Rattle.ac_literal.proofs.grams.Grams.add_window.Goals as goal

pub loop-k-init : goal.loop-k-init
loop-k-init c = record {
  kept = record { step = refl; most = omega arith; has = λ text at had. had };
  grams = λ k within. absurd (omega (arith, within));
}

pub loop-k-preserved : goal.loop-k-preserved
loop-k-preserved c = record {
  kept = keeps-again c.loop-k.invariant.kept c.add.ensures.kept;
  grams = window-more c.args.pattern.now c.args.first c.add.ensures.kept c.loop-k.invariant.grams c.add.ensures.own;
}

pub returns-clause-own : goal.returns-clause-own
returns-clause-own c =
    let step = c.loop-k.invariant.kept.step in
    let far = c.max-self.ensures in
    let all = c.loop-k-test.false in
    let room = c.requires in
    record {
      first = c.args.first;
      within = omega (arith, room, step);
      near = omega (arith, far);
      grams = λ k within. c.loop-k.invariant.grams k (omega (arith, within, step, all));
    }
