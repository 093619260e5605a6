-- What is known of the state after so many bytes.
use Rattle.ac_automaton.proofs.lemmas.CursorLemmas.{HasAdvanced}
use Rattle.ac_automaton.specs.Look.{is_between}
use Rattle.ac_tables.specs.Contiguous.Reads.{contiguous_built_as, IsContiguousRead}
use Rattle.ac_tables.proofs.contiguous.NFA.read_words.Given as goal

abbrev pub invariant-loop-read : goal.invariant-loop-read
invariant-loop-read l =
    HasAdvanced (contiguous_built_as l.self) (IsContiguousRead l.self) l.anchored (is_between l.to) l.fn.sid l.bytes
    l.read l.current l.initial.steps l.steps
