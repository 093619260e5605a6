-- What is known of a row that a search has come to.
use Rattle.std.specs.Prelude.{◌≡◌, ℕ, true, List}
use Rattle.ac_input.specs.declared.search.Anchored.{Anchored}
use Rattle.ac_input.specs.declared.search.Anchored.TheVariants.{No}
use Rattle.ac_input.specs.Tells.{Tells}
use Rattle.ac_input.specs.declared.steps.Steps.{Steps}
use Rattle.ac_automaton.specs.Automaton.{Built}
use Rattle.ac_automaton.specs.Look.{ReadsTo}
use Rattle.ac_automaton.specs.declared.automaton.Advance.{Advance}
use Rattle.ac_automaton.specs.declared.look.Between.{Between}
use Rattle.ac_tables.specs.Contiguous.Reads.{contiguous_built_as, contiguous_matches_at, IsContiguousRead}
use Rattle.ac_tables.specs.Contiguous.Rows.{AreRowsBetween, IsRowIn, place_in_row}
use Rattle.ac_tables.specs.declared.contiguous.NFA.{NFA}
use Rattle.ac_tables.specs.declared.contiguous.by_rows.ByRows.{ByRows}
use Rattle.ac_tables.specs.declared.contiguous.rows.Rows.{Rows}

-- what the automaton was built as, except that exactly one row is looked at for a byte
abbrev pub by_rows_built_as : ByRows → Built
by_rows_built_as by = record (contiguous_built_as by.nfa.now) { deterministic = true }

-- the patterns that match at the place of a row
abbrev pub row_matches_at : ByRows → ℕ → List ℕ
row_matches_at by row = contiguous_matches_at by.nfa.now (place_in_row by.rows.now row)

-- An unanchored search reaches the row by reading the text: it is the row of a place that the search reaches.
pub record IsRowRead (by : ByRows) (anchored : Anchored) (text : List ℕ) (row : ℕ) : Type 0 where
  pub one : IsRowIn by.rows.now row
  pub free : anchored ≡ No
  pub reads : IsContiguousRead by.nfa.now No text (place_in_row by.rows.now row)
  pub tells : Tells (by_rows_built_as by).dictionary anchored text (row_matches_at by row)

-- For any two places whose rows are those between `two`: reading on by rows stops at the first place between these
-- places.
abbrev pub ReadsRows : NFA → Rows → ℕ → List ℕ → Between → Advance → Steps → Steps → Type 0
ReadsRows nfa rows row bytes two stop before after =
    (to : Between) → AreRowsBetween rows to two
    → ReadsTo (contiguous_built_as nfa) (IsContiguousRead nfa) No to (place_in_row rows row) bytes stop before after
