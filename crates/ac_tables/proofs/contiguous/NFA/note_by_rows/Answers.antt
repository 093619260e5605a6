-- The notes of rows hold of their places.
use Rattle.std.proofs.Common.{take, refl, sym, subst}
use Rattle.std.proofs.Math.Logic.{∥∥₁_map}
use Rattle.ac_input.specs.declared.search.Anchored.TheVariants.{No}
use Rattle.ac_automaton.proofs.lanes.NoteLemmas.{reads-nothing}
use Rattle.ac_tables.specs.Contiguous.Reads.{IsContiguousRead}
use Rattle.ac_tables.proofs.contiguous.ByRowLemmas.{row-read}
use Rattle.ac_tables.proofs.contiguous.NoteRowLemmas.{may-note-rows, notes-rows, rows-ahead}
use Rattle.ac_tables.proofs.contiguous.NFA.note_by_rows.Goals as goal

pub returns-in_default-clause-reads : goal.returns-in_default-clause-reads
returns-in_default-clause-reads c = reads-nothing _ _ _ _ _ _ _ _ _ _ _ _ _ c.none.ensures

pub returns-in_default-row_of-clause-reads : goal.returns-in_default-row_of-clause-reads
returns-in_default-row_of-clause-reads c = reads-nothing _ _ _ _ _ _ _ _ _ _ _ _ _ c.none-in_default-row_of.ensures

pub returns-in_default-last_up_to-clause-reads : goal.returns-in_default-last_up_to-clause-reads
returns-in_default-last_up_to-clause-reads c =
    reads-nothing _ _ _ _ _ _ _ _ _ _ _ _ _ c.none-in_default-last_up_to.ensures

pub returns-in_default-rows_of-clause-reads : goal.returns-in_default-rows_of-clause-reads
returns-in_default-rows_of-clause-reads c = reads-nothing _ _ _ _ _ _ _ _ _ _ _ _ _ c.none-in_default-rows_of.ensures

pub note_ahead-noted-requires-clause-may : goal.note_ahead-noted-requires-clause-may
note_ahead-noted-requires-clause-may c =
    may-note-rows _ c.in-Some-row_of.start c.in-Some-last_up_to.last c.requires.lanes c.in-Some-row_of.ensures
    c.in-Some-last_up_to.ensures

pub note_ahead-noted-requires-clause-reached : goal.note_ahead-noted-requires-clause-reached
note_ahead-noted-requires-clause-reached c =
    let there = c.in-Some.ensures in
    ∥∥₁_map c.requires.reached
    (λ w. (
      w.0,
      row-read _ No w.0 c.in-Some.row there.0 refl (subst (IsContiguousRead c.args.self.now No w.0) (sym there.1) w.1),
    ))

pub place_notes-requires-clause-rows : goal.place_notes-requires-clause-rows
place_notes-requires-clause-rows c =
    notes-rows _ c.args.bytes.now (take c.note_ahead-noted.result.notes c.note_ahead-noted.new.notes)
    c.note_ahead-noted.ensures.reads.are

pub returns-clause-reads : goal.returns-clause-reads
returns-clause-reads c =
    rows-ahead _ c.args.anew c.in-Some-rows_of.from c.in-Some-row_of.start c.args.sid c.in-Some.row c.args.bytes.now
    c.args.at c.args.len c.note_ahead-noted.result.read
    (take c.note_ahead-noted.result.notes c.note_ahead-noted.new.notes)
    (take c.note_ahead-noted.result.notes c.place_notes.new.notes) c.args.steps.now c.note_ahead-noted.new.steps
    c.in-Some-row_of.ensures c.in-Some-rows_of.ensures c.in-Some.ensures.1 c.place_notes.ensures.placed
    c.note_ahead-noted.ensures.reads
