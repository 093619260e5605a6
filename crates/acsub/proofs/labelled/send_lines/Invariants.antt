use Rattle.std.proofs.Common.{◌≡◌, ℕ, List, ◌++◌, length}
use Rattle.ac_automaton.specs.Stream.Devices.Output.{Sent}
use Rattle.acsub.specs.Labelled.{begins_after, label_of, labelled}
use Rattle.acsub.proofs.labelled.send_lines.Given as goal

abbrev pub invariant-loop-rest : goal.invariant-loop-rest
invariant-loop-rest g l = record {
  front : List ℕ;
  sent : Sent g.W.Write.contents l.fn.writer l.writer l.fn.output l.output front;
  order : front ++ labelled (label_of l.label) l.begins l.rest ≡ labelled (label_of l.label) l.fn.begins l.text;
  begins : begins_after l.begins l.rest ≡ begins_after l.fn.begins l.text;
}

abbrev pub decreases-loop-rest : goal.decreases-loop-rest
decreases-loop-rest g l = length l.rest
