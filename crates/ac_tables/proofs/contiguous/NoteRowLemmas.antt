-- What is noted of rows holds of the places that the rows are of.
use Rattle.std.proofs.Common.{◌≡◌, ◌≢◌, ⊎_elim, ℕ, ◌+◌, ◌*◌, ◌-◌, ◌<◌, ◌≤◌, ◌/◌, Bool, true, false, IsTrue, List, [], ◌∷◌, ◌++◌, length, take, drop, map, Option, None, Some, refl, sym, ap, subst, ◌∙◌, arith}
use Rattle.std.specs.Prelude.{if◌then◌else◌, get_or, slice_set, unwrap_or}
use Rattle.std.specs.List.{All}
use Rattle.std.proofs.Math.Logic.{∥∥₁_elim, ∥∥₁_map}
use Rattle.std.proofs.Math.Nat.{le-div_iff_mul-le, mul-le-mul_right}
use Rattle.std.proofs.lemmas.Bool.{cases_lt}
use Rattle.std.proofs.lemmas.List.{get_or_past}
use Rattle.std.proofs.lemmas.List.Edits.{map_over_more}
use Rattle.std.proofs.lemmas.List.Elements.{All-map, All-weaker}
use Rattle.ac_input.specs.declared.search.Anchored.TheVariants.{No}
use Rattle.ac_input.specs.declared.search.MatchKind.TheVariants.{Standard}
use Rattle.ac_input.specs.declared.steps.Steps.{Steps}
use Rattle.ac_input.proofs.lemmas.LiveLemmas.{dead-best}
use Rattle.ac_automaton.specs.Ahead.{ComesTo, Frees, IsLaneCut, IsNote, MayNote, ReadsAhead, ReadsAheadBy, TakesBy, TakesEachBy, noted_len, onward}
use Rattle.ac_automaton.specs.Automaton.{IsReached, IsState, has_some, is_matching}
use Rattle.ac_automaton.specs.declared.ahead.Note.{Note}
use Rattle.ac_automaton.specs.declared.look.LookUp.{Ghosts}
use Rattle.ac_automaton.proofs.automaton.NamedLemmas.{read-dead}
use Rattle.ac_automaton.proofs.automaton.PassLemmas.{matching-some}
use Rattle.ac_automaton.proofs.lemmas.CursorLemmas.{reached-on}
use Rattle.ac_tables.specs.Contiguous.ByRows.{by_rows_built_as, IsRowRead, row_matches_at}
use Rattle.ac_tables.specs.Contiguous.Reads.{contiguous_dictionary, contiguous_built_as, contiguous_matches_at, IsContiguousRead, contiguous_named_states}
use Rattle.ac_tables.specs.Contiguous.Rows.{AreRowsAt, IsLastUpTo, IsNoteOfRows, note_placed, place_in_row, row_len, IsRowIn}
use Rattle.ac_tables.specs.Contiguous.Cut.{IsCountBelow}
use Rattle.ac_tables.specs.Contiguous.WordReads.{matches_by}
use Rattle.ac_tables.specs.declared.contiguous.by_rows.ByRows.{ByRows}
use Rattle.ac_tables.specs.declared.contiguous.NFA.{NFA}
use Rattle.ac_tables.specs.declared.contiguous.rows.Rows.{Rows}
use Rattle.ac_tables.proofs.contiguous.ByRowLemmas.{reached-row, row-read}
use Rattle.ac_tables.proofs.contiguous.FreeLemmas.{contiguous-frees, row-frees}
use Rattle.ac_tables.proofs.contiguous.NameLemmas.{list-past, start-read, state-apart, state-many}

-- what a search that reads by rows asks of the automaton
abbrev pub row_look_ups : Ghosts ByRows
row_look_ups = record { built = by_rows_built_as; Reaches = IsRowRead; matches = row_matches_at }

-- ---- which rows match

-- a number past the rows of the states up to a place is in the row of a later state, and a row no later is that of such
-- a state
pub last-up-to : (rows : Rows) (sid end last : ℕ) → 0 < row_len rows → 0 < end
    → IsCountBelow rows.places.items (sid + 1) end → last ≡ end * row_len rows - 1 → IsLastUpTo rows sid last
last-up-to rows sid end last some any cut is = record {
  past = λ row past within.
      let far : end * row_len rows ≤ row = omega (arith, past, is) in
      let more : end ≤ row / row_len rows = (le-div_iff_mul-le some).1 far in
      let high = cut.past (row / row_len rows) more within in
      omega (arith, high);
  upto = λ row one le. ⊎_elim
      (λ (less : row / row_len rows < end). let low = cut.below (row / row_len rows) less in omega (arith, low))
      (λ (ge : end ≤ row / row_len rows).
      let far : end * row_len rows ≤ row = (le-div_iff_mul-le some).0 ge in
      let size : 0 < end * row_len rows = mul-pos end (row_len rows) any some in
      absurd (omega (arith, far, le, is, size)))
      (cases_lt (row / row_len rows) end);
}
  where
    mul-pos : (a b : ℕ) → 0 < a → 0 < b → 0 < a * b
    mul-pos a b x y = let low : 1 * b ≤ a * b = mul-le-mul_right b (let one : 1 ≤ a = omega (arith, x) in one) in
        omega (arith, low, y)

-- no pattern matches at a row past the last one that matches
pub quiet-past : (by : ByRows) (last row : ℕ) → IsLastUpTo by.rows.now by.nfa.now.table.max_match last → last < row
    → row_matches_at by row ≡ []
quiet-past by last row upto more =
    let rows = by.rows.now in
    let table = by.nfa.now.table in
    ⊎_elim
    (λ (lt : row / row_len rows < length rows.places.items).
    list-past table (place_in_row rows row) (upto.past row more lt))
    (λ (ge : length rows.places.items ≤ row / row_len rows).
    ap (matches_by table) (get_or_past rows.places.items (row / row_len rows) 0 ge))
    (cases_lt (row / row_len rows) (length rows.places.items))

-- a place that an unanchored search of the standard kind reaches matches, if it is at most the last that matches
place-some : (nfa : NFA) (sid : ℕ) → (contiguous_dictionary nfa).kind ≡ Standard
    → IsReached (IsContiguousRead nfa No) sid → sid ≤ nfa.table.max_match
    → IsTrue (is_matching (contiguous_matches_at nfa) sid)
place-some nfa sid standard reached le =
    let state : IsState (IsContiguousRead nfa) sid = ∥∥₁_map reached (λ w. (No, w.0, w.1)) in
    let apart : sid ≢ 1 = state-apart nfa sid state in
    let some : sid ≢ 0 = λ zero. ∥∥₁_elim reached (λ x y. absurd x) (λ w.
    let dead = read-dead (contiguous_named_states nfa) sid true
    (λ anchored names fits met. (λ none. refl, λ yes. (fits.1.dead anchored sid met).1 zero)) in
    (dead-best ((dead No w.0 w.1).0 refl)).0 standard) in
    matching-some (contiguous_matches_at nfa sid) (state-many nfa sid state (omega (arith, apart, some)) le)

-- several walks may go side by side over rows
pub may-note-rows : (by : ByRows) (start last : ℕ) → IsTrue by.nfa.now.lanes
    → (IsRowIn by.rows.now start × (place_in_row by.rows.now start ≡ by.nfa.now.table.start))
    → IsLastUpTo by.rows.now by.nfa.now.table.max_match last → MayNote row_look_ups by start last by.nfa.now.unused
may-note-rows by start last lanes first upto = record {
  one = refl;
  lanes = lanes;
  starts = row-read by No [] start first.0 refl (start-read by.nfa.now No (place_in_row by.rows.now start) first.1);
  quiet = λ row more. quiet-past by last row upto more;
  some = λ standard row reached le.
      place-some by.nfa.now (place_in_row by.rows.now row) standard (∥∥₁_map reached (λ w. (w.0, w.1.reads)))
      (upto.upto row (reached-row by No row reached) le);
  frees = λ standard byte small is text row reads. row-frees by start byte standard small is first text row reads;
}

-- ---- notes of rows as notes of places

-- a note of rows begins and ends at rows
pub note-rows : (by : ByRows) (bytes : List ℕ) (note : Note) → IsNote (IsRowRead by No) (row_matches_at by) bytes note
    → IsNoteOfRows by.rows.now note
note-rows by bytes note h = (
  reached-row by No note.sid h.begins,
  reached-row by No note.next
      (reached-on (IsRowRead by No) note.sid (take note.len (drop note.from bytes)) note.next h.begins h.reads),
)

-- as one of places it holds
pub placed-note : (by : ByRows) (bytes : List ℕ) (note : Note) → IsNote (IsRowRead by No) (row_matches_at by) bytes note
    → IsNote (IsContiguousRead by.nfa.now No) (contiguous_matches_at by.nfa.now) bytes (note_placed by.rows.now note)
placed-note by bytes note h =
    let one = (note-rows by bytes note h).0 in
    record {
      some = h.some;
      within = h.within;
      begins = ∥∥₁_map h.begins (λ w. (w.0, w.1.reads));
      reads = λ text r. (h.reads text (row-read by No text note.sid one refl r)).reads;
      plain = λ k some less.
          let mid = h.plain k some less in (
            place_in_row by.rows.now mid.0,
            λ text r. (mid.1 text (row-read by No text note.sid one refl r)).reads,
            mid.2,
          );
    }

-- several notes of rows begin and end at rows
pub notes-rows : (by : ByRows) (bytes : List ℕ) (notes : List Note)
    → All (IsNote (IsRowRead by No) (row_matches_at by) bytes) notes → All (IsNoteOfRows by.rows.now) notes
notes-rows by bytes notes are =
    All-weaker (IsNote (IsRowRead by No) (row_matches_at by) bytes) (IsNoteOfRows by.rows.now) (note-rows by bytes)
    notes are

-- as notes of places they hold
pub placed-notes : (by : ByRows) (bytes : List ℕ) (notes : List Note)
    → All (IsNote (IsRowRead by No) (row_matches_at by) bytes) notes
    → All (IsNote (IsContiguousRead by.nfa.now No) (contiguous_matches_at by.nfa.now) bytes)
    (map (note_placed by.rows.now) notes)
placed-notes by bytes notes are =
    let Places = IsNote (IsContiguousRead by.nfa.now No) (contiguous_matches_at by.nfa.now) bytes in
    All-map Places (note_placed by.rows.now) notes
    (All-weaker (IsNote (IsRowRead by No) (row_matches_at by) bytes) (λ note. Places (note_placed by.rows.now note))
    (placed-note by bytes) notes are)

-- they lie where those of rows do
pub placed-within : (rows : Rows) (from to : ℕ) (notes : List Note)
    → All (λ note. (from ≤ note.from) × (note.from + note.len ≤ to)) notes
    → All (λ note. (from ≤ note.from) × (note.from + note.len ≤ to)) (map (note_placed rows) notes)
placed-within rows from to notes are =
    All-map (λ (note : Note). (from ≤ note.from) × (note.from + note.len ≤ to)) (note_placed rows) notes are

-- they cover as many bytes
pub placed-len : (rows : Rows) (notes : List Note) → noted_len (map (note_placed rows) notes) ≡ noted_len notes
placed-len rows [] = refl
placed-len rows (note ∷ notes) = ap (λ n. note.len + n) (placed-len rows notes)

-- a search goes on from the place of the row from which one by rows does
pub placed-onward : (by : ByRows) (anew from : Option ℕ) (row : ℕ) → AreRowsAt by.rows.now anew from
    → place_in_row by.rows.now (onward (row_matches_at by) from row)
    ≡ onward (contiguous_matches_at by.nfa.now) anew (place_in_row by.rows.now row)
placed-onward by anew from row are = on (has_some (row_matches_at by row)) anew from are
  where
    on : (matched : Bool) (anew from : Option ℕ) → AreRowsAt by.rows.now anew from
        → place_in_row by.rows.now (if matched then unwrap_or from row else row)
        ≡ (if matched then unwrap_or anew (place_in_row by.rows.now row) else place_in_row by.rows.now row)
    on false anew from are = refl
    on true None None are = refl
    on true None (Some other) are = absurd are
    on true (Some place) None are = absurd are
    on true (Some place) (Some other) are = are.1

-- one more of the notes is one of places
pub place-more : (rows : Rows) (notes now : List Note) (slot : ℕ) (note : Note) (sid next : ℕ) → slot < length notes
    → now ≡ map (note_placed rows) (take slot notes) ++ drop slot notes → note ≡ get_or now slot note
    → sid ≡ place_in_row rows note.sid → next ≡ place_in_row rows note.next
    → slice_set now slot (record { from = note.from; len = note.len; sid = sid; next = next })
    ≡ map (note_placed rows) (take (slot + 1) notes) ++ drop (slot + 1) notes
place-more rows notes now slot note sid next within is read at to =
    ap (λ n. slice_set now slot n)
    (ap (λ k. record { from = note.from; len = note.len; sid = k; next = next }) at
    ∙ ap (λ k. record { from = note.from; len = note.len; sid = place_in_row rows note.sid; next = k }) to)
    ∙ map_over_more (note_placed rows) notes now slot note within is read

-- ---- what was read ahead by rows, by places

-- A search takes the notes of places where one by rows takes those of rows, if each byte that frees that one frees it.
placed-takes : (by : ByRows) (Free More : ℕ → ℕ → Type 0) (anew from : Option ℕ) (bytes : List ℕ)
    → AreRowsAt by.rows.now anew from → ((byte row : ℕ) → Free byte row → More byte (place_in_row by.rows.now row))
    → (at row : ℕ) (notes : List Note) (to next : ℕ) → TakesBy Free (row_matches_at by) from bytes at row notes to next
    → TakesBy More (contiguous_matches_at by.nfa.now) anew bytes at (place_in_row by.rows.now row)
    (map (note_placed by.rows.now) notes) to (place_in_row by.rows.now next)
placed-takes by Free More anew from bytes are free at row [] to next takes =
    (takes.0, ap (place_in_row by.rows.now) takes.1)
placed-takes by Free More anew from bytes are free at row (note ∷ notes) to next takes =
    let rows = by.rows.now in
    let is : ComesTo Free bytes at row note = takes.0 in
    let rest = placed-takes by Free More anew from bytes are free (note.from + note.len)
    (onward (row_matches_at by) from note.next) notes to next takes.1 in (
      record {
        later = is.later;
        here = λ there. ap (place_in_row rows) (is.here there);
        freed = λ past. free (get_or bytes (note.from - 1) 0) note.sid (is.freed past);
      },
      subst (λ i. TakesBy More (contiguous_matches_at by.nfa.now) anew bytes (note.from + note.len) i
          (map (note_placed rows) notes) to (place_in_row rows next)) (placed-onward by anew from note.next are) rest,
    )

-- a byte at which walks over rows are cut leads each search to the start
cut-frees : (by : ByRows) (start : ℕ)
    → (IsRowIn by.rows.now start × (place_in_row by.rows.now start ≡ by.nfa.now.table.start))
    → (contiguous_dictionary by.nfa.now).kind ≡ Standard → (byte row : ℕ)
    → IsLaneCut by.nfa.now.unused start (row_matches_at by) byte row
    → Frees (IsContiguousRead by.nfa.now No) (contiguous_matches_at by.nfa.now) byte (place_in_row by.rows.now row)
cut-frees by start first standard byte row cut = record {
  only = λ text other reads. contiguous-frees by.nfa.now byte standard cut.small cut.is text other reads
      ∙ sym (ap (place_in_row by.rows.now) cut.state ∙ first.1);
  quiet = cut.quiet;
}

-- what was read ahead of a search by rows was read ahead of one by places
pub rows-ahead : (by : ByRows) (anew from : Option ℕ) (start sid row : ℕ) (bytes : List ℕ) (at len read : ℕ)
    (notes placed : List Note) (s t : Steps)
    → (IsRowIn by.rows.now start × (place_in_row by.rows.now start ≡ by.nfa.now.table.start))
    → AreRowsAt by.rows.now anew from → place_in_row by.rows.now row ≡ sid
    → placed ≡ map (note_placed by.rows.now) notes
    → ReadsAheadBy (IsLaneCut by.nfa.now.unused start (row_matches_at by)) (by_rows_built_as by) (IsRowRead by No)
    (row_matches_at by) from row bytes at len read notes s t
    → ReadsAhead (contiguous_built_as by.nfa.now) (IsContiguousRead by.nfa.now No) (contiguous_matches_at by.nfa.now)
    anew sid bytes at len read placed s t
rows-ahead by anew from start sid row bytes at len read notes placed s t first are there all h =
    let nfa = by.nfa.now in
    let rows = by.rows.now in
    let R = IsContiguousRead nfa No in
    let M = contiguous_matches_at nfa in
    subst (λ i. ReadsAhead (contiguous_built_as nfa) R M anew i bytes at len read placed s t) there
    (subst (λ l. ReadsAhead (contiguous_built_as nfa) R M anew (place_in_row rows row) bytes at len read l s t)
    (sym all)
    (record {
      are = placed-notes by bytes notes h.are;
      within = placed-within rows at (at + len) notes h.within;
      covered = placed-len rows notes ∙ h.covered;
      most = h.most;
      lanes = h.lanes;
      counted = h.counted;
      taken = λ standard.
          let takes : TakesEachBy (IsLaneCut nfa.unused start (row_matches_at by)) (row_matches_at by) from bytes at row
          notes = h.taken standard in (
            takes.0,
            place_in_row rows takes.1,
            placed-takes by (IsLaneCut nfa.unused start (row_matches_at by)) (Frees R M) anew from bytes are
                (cut-frees by start first standard) at row notes takes.0 takes.1 takes.2,
          );
    }))
