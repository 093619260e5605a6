-- One byte more leads to the next state, and the empty text to the start.
use Rattle.std.proofs.Math.Logic.{∥∥₁_map}
use Rattle.test_searches.proofs.calls.reached.Goals as goal

pub loop-byte-preserved : goal.loop-byte-preserved
loop-byte-preserved g c = ∥∥₁_map c.loop-byte.invariant (λ w. (_, c.next_state-sid.ensures w.0 w.1))

pub returns : goal.returns
returns g c = ∥∥₁_map c.loop-byte.invariant (λ w. (c.args.anchored, w.0, w.1))
