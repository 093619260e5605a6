-- What is known of the state of the number after so many bytes.
use Rattle.ac_automaton.proofs.lemmas.CursorLemmas.{HasAdvanced}
use Rattle.ac_automaton.specs.Look.{is_between}
use Rattle.ac_input.specs.declared.search.Anchored.TheVariants.{No}
use Rattle.ac_tables.specs.Contiguous.Near.{IsNumber, numbered_place}
use Rattle.ac_tables.specs.Contiguous.Reads.{contiguous_built_as, IsContiguousRead}
use Rattle.ac_tables.proofs.contiguous.NFA.read_past.Given as goal

abbrev pub invariant-loop-read : goal.invariant-loop-read
invariant-loop-read l = record {
  one : IsNumber l.near l.number;
  so_far : HasAdvanced (contiguous_built_as l.self) (IsContiguousRead l.self) No (is_between l.to) l.fn.sid l.bytes
      l.read (numbered_place l.near l.number) l.initial.steps l.steps;
}
