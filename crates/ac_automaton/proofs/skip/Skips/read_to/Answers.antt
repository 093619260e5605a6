-- The start is that of the skips.
use Rattle.ac_automaton.proofs.skip.Skips.read_to.Goals as goal

pub read_to_from-requires-clause-may : goal.read_to_from-requires-clause-may
read_to_from-requires-clause-may g c = c.requires.may
