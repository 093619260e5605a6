use Rattle.std.proofs.Common.{◌≡◌, ℕ, List, [], ◌++◌, length}
use Rattle.ac_input.specs.Text.{listed}
use Rattle.ac_automaton.specs.Stream.Devices.Output.{Sent}
use Rattle.acsub.specs.Matches.{KeepsCount, left_in}
use Rattle.acsub.specs.Tally.{grown}
use Rattle.acsub.proofs.rewrite.send_list.Given as goal

abbrev pub invariant-loop-found : goal.invariant-loop-found
invariant-loop-found g l = record {
  front : List ℕ;
  sent : Sent g.W.Write.contents l.fn.writer l.writer [] l.output front;
  order : front ++ listed (left_in l.matches) ≡ listed (left_in l.fn.matches);
  counted : KeepsCount l.fn.matches l.matches l.fn.steps l.steps;
  found : grown l.tally.found (length (left_in l.matches)) ≡ grown l.fn.tally.found (length (left_in l.fn.matches));
}

abbrev pub decreases-loop-found : goal.decreases-loop-found
decreases-loop-found g l = length (left_in l.matches)
