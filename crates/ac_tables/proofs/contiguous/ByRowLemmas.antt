-- Reading on by rows leads where the words do: each row that is read is that of a place that is read.
use Rattle.std.proofs.Common.{◌≡◌, ℕ, ◌+◌, ◌<◌, Bool, false, true, IsTrue, List, [], ◌∷◌, ◌++◌, length, take, Some, refl, sym, subst, ◌∙◌, arith}
use Rattle.std.specs.Coded.{le_prop, Coded-set, coded_ℕ, coded_bool}
use Rattle.std.proofs.Math.Logic.{∥∥₁_elim}
use Rattle.ac_input.specs.Alphabet.{class}
use Rattle.ac_input.specs.declared.search.Anchored.{Anchored}
use Rattle.ac_input.specs.declared.search.Anchored.TheVariants.{No}
use Rattle.ac_input.specs.declared.steps.Steps.{Steps}
use Rattle.ac_input.specs.Dictionary.{live_len}
use Rattle.ac_input.specs.Tells.{Tells}
use Rattle.ac_input.specs.Work.{IsLookups}
use Rattle.ac_automaton.specs.Automaton.{IsReached, Leads}
use Rattle.ac_automaton.specs.Named.{Naming, IsStep}
use Rattle.ac_automaton.specs.Look.{ReadsTo}
use Rattle.ac_automaton.specs.declared.automaton.Advance.{Advance}
use Rattle.ac_automaton.specs.declared.look.Between.{Between}
use Rattle.ac_automaton.proofs.automaton.NamedLemmas.{read-next}
use Rattle.ac_tables.specs.Contiguous.ByRows.{by_rows_built_as, IsRowRead, ReadsRows, row_matches_at}
use Rattle.ac_tables.specs.Contiguous.Reads.{contiguous_dictionary, IsLaidOut, IsContiguousRead, contiguous_named_states}
use Rattle.ac_tables.specs.Contiguous.Rows.{AreUnanchoredRows, AreRowsIfAny, IsRowIn, row_len, place_in_row}
use Rattle.std.specs.Prelude.{slice_index}
use Rattle.ac_tables.specs.declared.contiguous.by_rows.ByRows.{ByRows}
use Rattle.ac_tables.specs.declared.contiguous.NFA.{NFA}
use Rattle.ac_tables.specs.declared.contiguous.rows.Rows.{Rows}
use Rattle.ac_tables.proofs.contiguous.CutLemmas.{row-room}
use Rattle.ac_tables.proofs.contiguous.NameLemmas.{names-are}

-- ---- the rows of an automaton

-- the rows are right by every naming by which the automaton is laid out
pub rows-laid : (nfa : NFA) (rows : Rows) (names : Naming) → nfa.rows ≡ Some rows → IsLaidOut nfa names
    → AreUnanchoredRows (contiguous_dictionary nfa) nfa.table.classes names (row_len rows) rows.trans.items
    rows.places.items
rows-laid nfa rows names held fits =
    subst (λ some. AreRowsIfAny (contiguous_dictionary nfa) nfa.table.classes names some) held fits.2

-- ---- a row that is read

-- a search reaches the row of a place that it reaches
pub row-read : (by : ByRows) (anchored : Anchored) (text : List ℕ) (row : ℕ) → IsRowIn by.rows.now row → anchored ≡ No
    → IsContiguousRead by.nfa.now No text (place_in_row by.rows.now row) → IsRowRead by anchored text row
row-read by anchored text row one free reads =
    record {
      one = one;
      free = free;
      reads = reads;
      tells = subst (λ a. Tells (by_rows_built_as by).dictionary a text (row_matches_at by row)) (sym free) reads.tells;
    }

-- a row that is reached is one of the automaton's rows
pub reached-row : (by : ByRows) (anchored : Anchored) (row : ℕ) → IsReached (IsRowRead by anchored) row
    → IsRowIn by.rows.now row
reached-row by anchored row reached =
    record {
      whole = ∥∥₁_elim reached (Coded-set coded_ℕ _ _) (λ w. w.1.one.whole);
      within = ∥∥₁_elim reached le_prop (λ w. w.1.one.within);
    }

-- the entries of a row that is reached are within the rows
pub reached-room : (by : ByRows) (anchored : Anchored) (row byte : ℕ) → byte < 256
    → IsReached (IsRowRead by anchored) row → row + class by.nfa.now.table.classes byte < length by.rows.now.trans.items
reached-room by anchored row byte small reached =
    let rows = by.rows.now in
    let one = reached-row by anchored row reached in
    let whole = one.whole in
    let room = row-room (length rows.places.items) _ (row_len rows) one.within in
    let len = rows.len in
    let letter : class by.nfa.now.table.classes byte
    < row_len rows = ∥∥₁_elim reached le_prop
    (λ w. ∥∥₁_elim w.1.reads.reached le_prop (λ n. (rows-laid by.nfa.now rows n.0 by.held n.1).letters byte small)) in
    omega (arith, whole, room, len, letter)

-- ---- one look-up

-- a look-up in a row leads where the byte does
pub row-leads : (by : ByRows) (anchored : Anchored) (row byte next : ℕ) → byte < 256
    → next ≡ (slice_index by.rows.now.trans.items (row + class by.nfa.now.table.classes byte))
    → Leads (IsRowRead by anchored) row (byte ∷ []) next
row-leads by anchored row byte next small is text reads =
    let nfa = by.nfa.now in
    let rows = by.rows.now in
    let there : (names : Naming) → IsLaidOut nfa names → IsTrue (names.met false (place_in_row rows row))
    → IsStep (contiguous_dictionary nfa) names false (place_in_row rows row) byte (place_in_row rows next) =
    λ names fits met.
    subst (λ to. IsStep (contiguous_dictionary nfa) names false (place_in_row rows row) byte (place_in_row rows to))
    (sym is) ((rows-laid nfa rows names by.held fits).steps row byte reads.one met small) in
    let one : (names : Naming) → IsLaidOut nfa names → IsTrue (names.met false (place_in_row rows row))
    → IsRowIn rows next = λ names fits met.
    subst (IsRowIn rows) (sym is) ((rows-laid nfa rows names by.held fits).lead row byte reads.one met small) in
    row-read by anchored (text ++ byte ∷ []) next
    (record {
      whole = ∥∥₁_elim reads.reads.reached (Coded-set coded_ℕ _ _) (λ w. (one w.0 w.1 w.2.met).whole);
      within = ∥∥₁_elim reads.reads.reached le_prop (λ w. (one w.0 w.1 w.2.met).within);
    })
    reads.free
    (read-next (contiguous_named_states nfa) No (place_in_row rows row) byte (place_in_row rows next) (names-are nfa)
    there text reads.reads)

-- ---- reading on

-- exactly one look for each byte is within what any automaton may look
lookups-any : (deterministic : Bool) (n before after : ℕ) (s t : Steps) → IsLookups true n before after s t
    → IsLookups deterministic n before after s t
lookups-any deterministic n before after s t h = record {
  some = h.some;
  bound = h.bound;
  one = λ is. h.one refl;
  scanned = h.scanned;
  moved = h.moved;
}

-- where reading on by rows stops, reading on by places stops
pub reads-by_rows : (by : ByRows) (row : ℕ) (bytes : List ℕ) (two : Between) (stop : Advance) (s t : Steps)
    → IsRowIn by.rows.now row → IsReached (IsContiguousRead by.nfa.now No) (place_in_row by.rows.now row)
    → ReadsTo (by_rows_built_as by) (IsRowRead by) No two row bytes stop s t
    → ReadsRows by.nfa.now by.rows.now row bytes two
    (record { sid = place_in_row by.rows.now stop.sid; taken = stop.taken }) s t
reads-by_rows by row bytes two stop s t one reached h to same =
    let nfa = by.nfa.now in
    let rows = by.rows.now in
    let from : (text : List ℕ) → IsContiguousRead nfa No text (place_in_row rows row)
    → IsRowRead by No text row = λ text reads. row-read by No text row one refl reads in
    record {
      goes = record {
        taken = h.goes.taken;
        reads = λ text reads. (h.goes.reads text (from text reads)).reads;
        plain = λ k some lt. let mid = h.goes.plain k some lt in (
          place_in_row rows mid.0,
          λ text reads. (mid.1 text (from text reads)).reads,
          λ yes. ∥∥₁_elim reached (λ x y. absurd x) (λ w. mid.2 (same mid.0 (mid.1 w.0 (from w.0 w.1)).one ∙ yes)),
        );
        stops = λ lt. ∥∥₁_elim reached (Coded-set coded_bool _ _)
            (λ w. sym (same stop.sid (h.goes.reads w.0 (from w.0 w.1)).one) ∙ h.goes.stops lt);
      };
      cost = λ text p q reads g l. lookups-any false (length (take stop.taken bytes)) (live_len text p)
          (live_len (text ++ take stop.taken bytes) q) s t (h.cost text p q (from text reads) g l);
    }
