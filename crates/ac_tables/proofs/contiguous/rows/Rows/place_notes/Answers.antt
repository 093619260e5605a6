-- One more of the notes is one of places.
use Rattle.std.proofs.Common.{◌<◌, length, arith}
use Rattle.ac_tables.proofs.contiguous.NoteRowLemmas.{place-more}
use Rattle.ac_tables.proofs.contiguous.rows.Rows.place_notes.Goals as goal

pub loop-slot-preserved : goal.loop-slot-preserved
loop-slot-preserved c =
    let few = c.requires.few in
    let less = c.loop-slot-test.true in
    let within : c.loop-slot.slot < length c.args.notes.now = omega (arith, few, less) in
    place-more c.args.self.now c.args.notes.now c.loop-slot.notes c.loop-slot.slot c.index-notes-slot.result
    c.place.result c.place-in-loop-slot.result within c.loop-slot.invariant c.index-notes-slot.is c.place.ensures
    c.place-in-loop-slot.ensures
