-- A block without marks is passed; one with a lane that isn't 0 has a mark.
use Rattle.std.proofs.Common.{sym, ◌∙◌, arith}
use Rattle.ac_literal.proofs.packed.LaneLemmas.{some-set}
use Rattle.ac_literal.proofs.packed.TeddyLemmas.{block-passed}
use Rattle.ac_literal.proofs.packed.teddy.Teddy.next_marks.Goals as goal

pub loop-at-preserved : goal.loop-at-preserved
loop-at-preserved c = record {
  after = omega (arith, c.loop-at.invariant.after);
  within = omega (arith, c.loop-at.invariant.within);
  passed = block-passed c.args.self.now c.args.haystack.now c.loop-at.invariant.passed
      (λ k within. sym (c.left-left.ensures.each k within) ∙ c.has_lane.ensures.none c.if-has_lane.false k within);
}

pub returns-then-has_lane : goal.returns-then-has_lane
returns-then-has_lane c =
    let so_far = c.loop-at.invariant in
    let set = c.set_lanes.ensures.set in
    let room = c.loop-at-test.true in
    record {
      after = so_far.after;
      within = so_far.within;
      passed = so_far.passed;
      whole = λ _. omega (arith, room, so_far.within);
      left = λ none.
          absurd (some-set c.left-left.result c.set_lanes.result (c.has_lane.ensures.some c.if-has_lane.true) set none);
      set = λ _ k within differs. set k within (λ zero. differs (sym (c.left-left.ensures.each k within) ∙ zero));
      few = c.set_lanes.ensures.few;
    }
