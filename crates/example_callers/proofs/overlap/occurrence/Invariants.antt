use Rattle.std.proofs.Common.{◌≡◌, min, length}
use Rattle.ac_input.specs.Input.{whole_of}
use Rattle.ac_automaton.specs.Automaton.{listing_in}
use Rattle.aho_corasick.specs.AhoCorasick.{CameFromCalls, as_built}
use Rattle.example_callers.proofs.overlap.occurrence.Given as goal

abbrev pub invariant-loop : goal.invariant-loop
invariant-loop l =
    record {
      came : CameFromCalls l.ac (whole_of l.text) l.state;
      shown : l.state.shown.value ≡ min l.counter (length (listing_in (as_built l.ac) (whole_of l.text)));
    }
