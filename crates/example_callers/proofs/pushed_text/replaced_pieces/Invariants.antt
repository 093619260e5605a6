-- The pieces up to the next one were pushed, and their text appended.
use Rattle.std.proofs.Common.{map, take}
use Rattle.std.specs.List.{concat}
use Rattle.aho_corasick.specs.AhoCorasick.{as_built}
use Rattle.example_callers.specs.PushedText.{IsTextOfPieces}
use Rattle.example_callers.proofs.pushed_text.replaced_pieces.Given as goal

abbrev pub invariant-loop-piece : goal.invariant-loop-piece
invariant-loop-piece l =
    IsTextOfPieces (as_built l.ac) (concat (map (λ p. p.now) (take l.piece-index l.pieces))) l.replacer
    (map (λ r. r.now) l.replacements) l.text.items
