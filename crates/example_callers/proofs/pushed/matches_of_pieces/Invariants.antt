use Rattle.std.proofs.Common.{map, take}
use Rattle.std.specs.List.{concat}
use Rattle.aho_corasick.specs.AhoCorasick.{as_built}
use Rattle.example_callers.proofs.pushed.matches_of_pieces.Given as goal
use Rattle.example_callers.proofs.pushed.PushedLemmas.{IsPushedTo}

abbrev pub invariant-loop-piece : goal.invariant-loop-piece
invariant-loop-piece l =
    IsPushedTo (as_built l.ac) (concat (map (λ p. p.now) (take l.piece-index l.pieces))) l.search l.found.items
