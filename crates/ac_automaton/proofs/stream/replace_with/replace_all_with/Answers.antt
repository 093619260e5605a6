-- The matches are passed to the closure's sink.
use Rattle.ac_automaton.proofs.stream.replace_with.replace_all_with.Goals as goal

pub returns : goal.returns
returns g c =
    (c.pump_matches.new.sink.f, c.new-steps.result, c.pump_matches.new.steps, c.pump_matches.ensures)
