use Rattle.std.proofs.Common.{map, take}
use Rattle.std.specs.List.{concat}
use Rattle.ac_automaton.specs.Stream.WholeWords.{asked_for}
use Rattle.aho_corasick.specs.AhoCorasick.{as_built}
use Rattle.example_callers.proofs.pushed_words.words_of_pieces.Given as goal
use Rattle.example_callers.proofs.pushed.PushedLemmas.{IsPushedTo}

abbrev pub invariant-loop-piece : goal.invariant-loop-piece
invariant-loop-piece l =
    IsPushedTo (asked_for l.fn.kind (as_built l.ac)) (concat (map (λ p. p.now) (take l.piece-index l.pieces))) l.search l.found.items
