use Rattle.std.proofs.Common.{◌≡◌, ◌++◌, map, take}
use Rattle.std.specs.List.{concat}
use Rattle.example_callers.proofs.generic_stream.joined.Given as goal

abbrev pub invariant-loop-piece : goal.invariant-loop-piece
invariant-loop-piece l =
    l.writer.inner.items ++ l.output ≡ concat (map (λ piece. piece.now) (take l.piece-index l.pieces))
