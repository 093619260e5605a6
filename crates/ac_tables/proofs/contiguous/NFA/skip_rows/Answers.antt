-- The rows lead where the words do, and a search by them may pass as much.
use Rattle.std.proofs.Common.{◌≡◌, ◌<◌, ◌∙◌, ℕ, Option, Some, refl, sym, subst}
use Rattle.std.specs.Prelude.{IfSome}
use Rattle.std.proofs.Math.Logic.{∥∥₁_map}
use Rattle.ac_input.specs.declared.search.Anchored.TheVariants.{No}
use Rattle.ac_automaton.proofs.lemmas.CursorLemmas.{reached-on}
use Rattle.ac_automaton.specs.Automaton.{IsReached}
use Rattle.ac_automaton.specs.Look.{ReadsTo}
use Rattle.ac_tables.specs.Contiguous.ByRows.{IsRowRead}
use Rattle.ac_tables.specs.Contiguous.Reads.{contiguous_built_as, IsContiguousRead}
use Rattle.ac_tables.specs.Contiguous.Rows.{AreRowsBetween, IsRowIn, place_in_row}
use Rattle.ac_tables.specs.declared.contiguous.rows.Rows.{Rows}
use Rattle.ac_tables.proofs.contiguous.ByRowLemmas.{reached-row, row-read, reads-by_rows}
use Rattle.ac_tables.proofs.contiguous.PassingLemmas.{may-read-by}
use Rattle.ac_tables.proofs.contiguous.RowPassingLemmas.{rows-may-read}
use Rattle.ac_tables.proofs.contiguous.NFA.skip_rows.Goals as goal

-- the row of a place that was found
row-found : (rows : Rows) (place row : ℕ) (found : Option ℕ) → found ≡ Some row
    → IfSome found (λ row. IsRowIn rows row × (place_in_row rows row ≡ place)) → IsRowIn rows row × (place_in_row rows row ≡ place)
row-found rows place row found is h = subst (λ r. IfSome r (λ row. IsRowIn rows row × (place_in_row rows row ≡ place))) is h

pub read_to_from-stop-requires-clause-reached : goal.read_to_from-stop-requires-clause-reached
read_to_from-stop-requires-clause-reached c =
    let row = row-found c.args.rows.now c.args.sid _ _ c.in-Some-Some-Some.is-0 c.row_of.ensures in
    ∥∥₁_map (subst (IsReached (IsContiguousRead c.args.self.now No)) (sym row.1) c.requires.reached)
    (λ w. (w.0, row-read _ No w.0 _ row.0 refl w.1))

pub read_to_from-stop-requires-clause-may : goal.read_to_from-stop-requires-clause-may
read_to_from-stop-requires-clause-may c =
    let nfa = c.args.self.now in
    let start = row-found c.args.rows.now nfa.table.start _ _ c.in-Some-Some-Some.is-1 c.row_of-2.ensures in
    let two = subst (λ r. IfSome r (AreRowsBetween c.args.rows.now c.args.to)) c.in-Some-Some-Some.is-2 c.between.ensures in
    rows-may-read _ nfa.skips c.args.to _ _ start.0 (start.1 ∙ sym nfa.begins) two
    (subst (λ s. c.args.to.last < s) (sym nfa.begins) c.requires.before)
    (may-read-by nfa c.args.to (λ lt. c.requires.last))

pub place-requires : goal.place-requires
place-requires c =
    let row = row-found c.args.rows.now c.args.sid _ _ c.in-Some-Some-Some.is-0 c.row_of.ensures in
    reached-row _ No c.read_to_from-stop.result.sid
    (reached-on (IsRowRead _ No) _ _ c.read_to_from-stop.result.sid
    (∥∥₁_map (subst (IsReached (IsContiguousRead c.args.self.now No)) (sym row.1) c.requires.reached)
    (λ w. (w.0, row-read _ No w.0 _ row.0 refl w.1)))
    c.read_to_from-stop.ensures.goes.reads)

pub returns : goal.returns
returns c =
    let a = c.args.self.now in
    let row = row-found c.args.rows.now c.args.sid _ _ c.in-Some-Some-Some.is-0 c.row_of.ensures in
    let two = subst (λ r. IfSome r (AreRowsBetween c.args.rows.now c.args.to)) c.in-Some-Some-Some.is-2 c.between.ensures in
    subst (λ at. ReadsTo (contiguous_built_as a) (IsContiguousRead a) No c.args.to at c.args.bytes.now
    (record { sid = c.place.result; taken = c.read_to_from-stop.result.taken }) c.args.steps.now c.read_to_from-stop.new.steps)
    row.1
    (subst (λ sid. ReadsTo (contiguous_built_as a) (IsContiguousRead a) No c.args.to
    (place_in_row c.args.rows.now c.in-Some-Some-Some.row)
    c.args.bytes.now (record { sid = sid; taken = c.read_to_from-stop.result.taken }) c.args.steps.now
    c.read_to_from-stop.new.steps)
    (sym c.place.ensures)
    (reads-by_rows _ _ c.args.bytes.now _ c.read_to_from-stop.result c.args.steps.now c.read_to_from-stop.new.steps row.0
    (subst (IsReached (IsContiguousRead a No)) (sym row.1) c.requires.reached) c.read_to_from-stop.ensures c.args.to two))
