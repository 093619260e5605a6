use Rattle.std.proofs.Common.{◌-◌, ◌≡◌, ◌≤◌}
use Rattle.ac_input.specs.Alphabet.{elements_from}
use Rattle.ac_input.proofs.alphabet.byte_classes.ByteClassElementsIterator.next.Given as goal

abbrev pub invariant-loop-self : goal.invariant-loop-self
invariant-loop-self l =
    let now = l.self-inside in let first = l.initial.self-inside in
    record {
      fits : now.at ≤ 256;
      same : elements_from first.classes.now first.class first.at (256 - first.at)
          ≡ elements_from now.classes.now now.class now.at (256 - now.at);
    }

abbrev pub decreases-loop-self : goal.decreases-loop-self
decreases-loop-self l = 256 - l.self-inside.at
