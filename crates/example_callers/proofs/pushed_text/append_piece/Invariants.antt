-- The rest of the piece is still to be pushed.
use Rattle.std.proofs.Common.{length, map}
use Rattle.example_callers.specs.PushedText.{PushingText}
use Rattle.example_callers.proofs.pushed_text.append_piece.Given as goal

abbrev pub invariant-loop-rest : goal.invariant-loop-rest
invariant-loop-rest g l =
    PushingText l.fn.replacer l.replacer (map (λ r. r.now) l.replacements) l.piece l.rest l.text.items

abbrev pub decreases-loop-rest : goal.decreases-loop-rest
decreases-loop-rest g l = length l.rest
