use Rattle.std.proofs.Common.{◌≡◌, length}
use Rattle.ac_input.specs.Alphabet.{runs_from}
use Rattle.ac_input.proofs.alphabet.byte_classes.ByteClassElementRangesIterator.next.Given as goal

abbrev pub invariant-loop-byte : goal.invariant-loop-byte
invariant-loop-byte l =
    let now = l.self-inside in let first = l.initial.self-inside in
    runs_from first.run first.elements ≡ runs_from now.run now.elements

abbrev pub decreases-loop-byte : goal.decreases-loop-byte
decreases-loop-byte l = length l.self-inside.elements
