-- What a search by rows may pass in the start: what one by places may.
use Rattle.std.proofs.Common.{◌≡◌, ℕ, ◌+◌, ◌<◌, List, [], ◌∷◌, ◌++◌, suc, refl, sym, subst, ◌∙◌, arith, append-nil, append_assoc}
use Rattle.std.specs.Prelude.{slice_index}
use Rattle.std.proofs.Math.Logic.{∥∥₁_map}
use Rattle.ac_input.specs.Alphabet.{class}
use Rattle.ac_input.specs.declared.search.Anchored.TheVariants.{No}
use Rattle.ac_automaton.specs.Automaton.{Leads}
use Rattle.ac_automaton.specs.Skip.{MayPass, MayReadBy}
use Rattle.ac_automaton.specs.declared.look.Between.{Between}
use Rattle.ac_automaton.specs.declared.look.LookUp.{Ghosts}
use Rattle.ac_automaton.specs.declared.skip.Skips.{Skips}
use Rattle.ac_tables.specs.Contiguous.ByRows.{by_rows_built_as, IsRowRead, row_matches_at}
use Rattle.ac_tables.specs.Contiguous.Reads.{contiguous_dictionary, IsContiguousRead}
use Rattle.ac_tables.specs.Contiguous.Rows.{AreRowsBetween, IsRowIn, place_in_row}
use Rattle.ac_tables.specs.declared.contiguous.by_rows.ByRows.{ByRows}
use Rattle.ac_tables.proofs.contiguous.ByRowLemmas.{row-read, row-leads}
use Rattle.ac_tables.proofs.contiguous.PassingLemmas.{look_ups}

-- what a search that skips asks of rows
abbrev pub row_look_ups : Ghosts ByRows
row_look_ups = record { built = by_rows_built_as; Reaches = IsRowRead; matches = row_matches_at }

-- every text leads from a row to one
rows-all : (by : ByRows) (row : ℕ) (bytes : List ℕ) → ((k : ℕ) → slice_index bytes k < 256)
    → (mid : ℕ) × Leads (IsRowRead by No) row bytes mid
rows-all by row [] small = (row, λ text reads. subst (λ t. IsRowRead by No t row) (sym (append-nil text)) reads)
rows-all by row (byte ∷ bytes) small =
    let next = slice_index by.rows.now.trans.items (row + class by.nfa.now.table.classes byte) in
    let step = row-leads by No row byte next (small 0) refl in
    let rest = rows-all by next bytes (λ k. small (suc k)) in (
      rest.0,
      λ text reads. subst (λ t. IsRowRead by No t rest.0) (append_assoc text (byte ∷ []) bytes)
          (rest.1 (text ++ byte ∷ []) (step text reads)),
    )

-- a search that stands in the row of the start may pass what one in the start may
rows-may-pass : (by : ByRows) (len start row : ℕ) → IsRowIn by.rows.now row → place_in_row by.rows.now row ≡ start
    → MayPass (contiguous_dictionary by.nfa.now) len (IsContiguousRead by.nfa.now No) start
    → MayPass (by_rows_built_as by).dictionary len (IsRowRead by No) row
rows-may-pass by len start row one at h =
    let place = subst (MayPass (contiguous_dictionary by.nfa.now) len (IsContiguousRead by.nfa.now No)) (sym at) h in
    record {
      begins = row-read by No [] row one refl place.begins;
      empty = λ text reads. place.empty text reads.reads;
      all = λ bytes small. rows-all by row bytes small;
      forgets = λ front end to none long leads text reads.
          let there = leads text reads in
          row-read by No (text ++ (front ++ end)) to there.one refl
          (place.forgets front end (place_in_row by.rows.now to) none long
          (λ t r. (leads t (row-read by No t row one refl r)).reads) text reads.reads);
    }

-- So it may read on by the skips of the automaton, from the row of the start, to the rows of the states at which that one stops before
-- the start.
pub rows-may-read : (by : ByRows) (skips : Skips) (to two : Between) (row : ℕ) → IsRowIn by.rows.now row
    → place_in_row by.rows.now row ≡ skips.start → AreRowsBetween by.rows.now to two → to.last < skips.start
    → MayReadBy look_ups by.nfa.now skips to → MayReadBy row_look_ups by (record skips { start = row }) two
rows-may-read by skips to two row one at same before h =
    let nfa = by.nfa.now in
    record {
      stays = λ anchored byte small none text reads.
          row-read by anchored (text ++ byte ∷ []) row one reads.free
          (subst (IsContiguousRead nfa No (text ++ byte ∷ [])) (sym at)
          (h.stays No byte small none text (subst (IsContiguousRead nfa No text) at reads.reads)));
      passes = λ openings sid is past reached.
          let m = h.passes openings (place_in_row by.rows.now sid) is before (∥∥₁_map reached (λ w. (w.0, w.1.reads))) in
          record {
            open_ = m.open_;
            may = rows-may-pass by openings.len skips.start row one at m.may;
            before = omega (arith, past);
            quiet = λ text i reads none alive yes.
                m.quiet text (place_in_row by.rows.now i) reads.reads none alive (sym (same i reads.one) ∙ yes);
          };
    }
