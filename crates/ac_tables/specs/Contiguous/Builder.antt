-- What is built by the settings of a builder of contiguous automata.
use Rattle.std.specs.Prelude.{◌≡◌, ◌⊎◌, ℕ, ◌/◌, ◌<◌, List, IfSome, IsTrue, is_some}
use Rattle.std.specs.Option.{unwrap_or}
use Rattle.std.specs.Borrow.{Bor}
use Rattle.ac_input.specs.Number.{greatest_number}
use Rattle.ac_noncontiguous.specs.declared.error.BuildErrorKind.{BuildErrorKind}
use Rattle.ac_noncontiguous.specs.declared.error.BuildErrorKind.TheVariants.{StateIDOverflow, Memory}
use Rattle.ac_noncontiguous.specs.declared.nfa.NFA.{NFA as Noncontiguous}
use Rattle.ac_noncontiguous.specs.declared.settings.Settings.{Settings}
use Rattle.ac_noncontiguous.specs.Builder.{IsBuiltOf, dictionary_by}
use Rattle.ac_noncontiguous.specs.Nfa.Reads.{built_as, dictionary}
use Rattle.ac_noncontiguous.specs.Standing.{IsBuildRefused}
use Rattle.ac_tables.specs.declared.contiguous.NFA.{NFA}
use Rattle.ac_tables.specs.declared.contiguous.builder.Laid.{Laid}
use Rattle.ac_tables.specs.Source.{AreClassesFor}
use Rattle.ac_tables.specs.Contiguous.Build.{AreRowsWithin}
use Rattle.ac_tables.specs.Contiguous.Rows.{AreSameIfAny}
use Rattle.ac_tables.specs.Contiguous.Table.{AreWordsOf, ArePlacesTooGreat, AreSomeStates, IsContiguousTooLarge}
use Rattle.ac_tables.specs.Contiguous.NearReads.{near_part, AreNearWithin}
use Rattle.ac_tables.specs.Contiguous.Reads.{contiguous_built_as}
use Rattle.ac_input.specs.Limits.{IsWithinLimits}

-- below which depth a contiguous automaton's states are dense: by default the starts and the states of one byte are
abbrev pub contiguous_dense_depth : Settings → ℕ
contiguous_dense_depth s = unwrap_or s.dense_depth 2

-- ---- from a noncontiguous automaton

-- An automaton was made from a noncontiguous one. Its dictionary and its prefilter are those of that one, its words are
-- those of that one's states, and no state's place is past the greatest number. There are rows if they take no more
-- memory than is set, and without rows it has no lanes. Else states near the start may have rows, in a part of that memory.
pub record IsMadeFrom (s : Settings) (from : Noncontiguous) (made : NFA) : Type 0 where
  pub built : contiguous_built_as made ≡ (record (built_as from) { lanes = made.lanes })
  pub lanes : IsTrue made.lanes → IsTrue (is_some made.rows)
  pub classes : List ℕ
  pub serve : AreClassesFor from s.byte_classes classes
  pub words : AreWordsOf from (contiguous_dense_depth s) classes made.table.words.items
  pub within : ¬ ArePlacesTooGreat from (contiguous_dense_depth s) classes
  pub rows : AreRowsWithin from (contiguous_dense_depth s) classes s.row_memory made.rows
  pub near : IfSome made.near (AreNearWithin made (s.row_memory / near_part))

-- Why no automaton was made: the first word of a state would be past the greatest number, or out of memory.
abbrev pub IsRefusedFrom : Settings → Noncontiguous → BuildErrorKind → Type 0
IsRefusedFrom s from (StateIDOverflow max requested) =
    (max ≡ greatest_number) × (max < requested) × IsContiguousTooLarge from (contiguous_dense_depth s) s.byte_classes
IsRefusedFrom s from Memory = Unit {0}
IsRefusedFrom s from other = ⊥

-- The words and the rows are those of a noncontiguous automaton, in these classes.
pub record IsLaidOf (from : Noncontiguous) (dense_depth row_memory : ℕ) (classes : List ℕ) (laid : Laid) : Type 0 where
  pub words : AreWordsOf from dense_depth classes laid.table.words.items
  pub small : ¬ ArePlacesTooGreat from dense_depth classes
  pub stands : AreSomeStates (dictionary from) laid.table laid.rows
  pub rows : AreRowsWithin from dense_depth classes row_memory laid.rows
  pub within : ∥ IsWithinLimits (dictionary from) ∥₁
  pub classed : laid.table.classes ≡ classes

-- ---- from patterns

-- An automaton was built from the patterns: it was made from a noncontiguous one, which was built from them.
pub record IsContiguousBuilt (s : Settings) (patterns : List (Bor (List ℕ))) (made : NFA) : Type 0 where
  pub built : IsBuiltOf s patterns (contiguous_built_as made)
  pub from : (from : Noncontiguous) × IsMadeFrom s from made

-- why a build fails: the noncontiguous automaton can't be built, or none can be made from it
abbrev pub IsContiguousBuildRefused : Settings → List (Bor (List ℕ)) → BuildErrorKind → Type 0
IsContiguousBuildRefused s patterns error =
    IsBuildRefused (dictionary_by s patterns) error
    ⊎ ((from : Noncontiguous) × (dictionary from ≡ dictionary_by s patterns) × IsRefusedFrom s from error)

-- ---- copies

-- a copy of the automaton
pub record IsContiguousCopy (old new : NFA) : Type 0 where
  pub built : contiguous_built_as new ≡ contiguous_built_as old
  pub words : new.table.words.items ≡ old.table.words.items
  pub start : new.table.start ≡ old.table.start
  pub start_anchored : new.table.start_anchored ≡ old.table.start_anchored
  pub rows : AreSameIfAny old.rows new.rows
  pub near : AreSameIfAny old.near new.near
