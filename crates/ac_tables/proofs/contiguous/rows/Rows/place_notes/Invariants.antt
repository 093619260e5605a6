-- The notes so far are of places, and the others are as they were.
use Rattle.std.proofs.Common.{◌≡◌, ◌++◌, map, take, drop}
use Rattle.ac_tables.specs.Contiguous.Rows.{note_placed}
use Rattle.ac_tables.proofs.contiguous.rows.Rows.place_notes.Given as goal

abbrev pub invariant-loop-slot : goal.invariant-loop-slot
invariant-loop-slot l = l.notes ≡ map (note_placed l.self) (take l.slot l.fn.notes) ++ drop l.slot l.fn.notes
