use Rattle.std.proofs.Common.{◌≡◌, ℕ, ◌≤◌, List, [], ◌++◌, length}
use Rattle.ac_input.specs.Text.{replaced_from}
use Rattle.ac_automaton.specs.Stream.Devices.Output.{Sent}
use Rattle.ac_automaton.specs.InMemory.Replace.{LieInOrder}
use Rattle.acsub.specs.Matches.{KeepsCount, left_in}
use Rattle.acsub.specs.Rules.Sides.{replacements_of}
use Rattle.acsub.specs.Tally.{grown}
use Rattle.acsub.proofs.rewrite.send_replaced.Given as goal

abbrev pub invariant-loop-found : goal.invariant-loop-found
invariant-loop-found g l = record {
  front : List ℕ;
  sent : Sent g.W.Write.contents l.fn.writer l.writer [] l.output front;
  order : front ++ replaced_from l.at l.input (replacements_of l.rules) (left_in l.picks)
      ≡ replaced_from 0 l.input (replacements_of l.rules) (left_in l.fn.picks);
  lies : LieInOrder (length l.rules) (length l.input) l.at (left_in l.picks);
  within : l.at ≤ length l.input;
  counted : KeepsCount l.fn.picks l.picks l.fn.steps l.steps;
  found : grown l.tally.found (length (left_in l.picks)) ≡ grown l.fn.tally.found (length (left_in l.fn.picks));
}

abbrev pub decreases-loop-found : goal.decreases-loop-found
decreases-loop-found g l = length (left_in l.picks)
