-- How the words of a contiguous automaton are made, state by state.
use Rattle.std.specs.Prelude.{◌≡◌, ◌≢◌, ◌↔◌, ℕ, ◌<◌, ◌≤◌, List, ◌++◌, map, length, slice_index, ◌==◌, if◌then◌else◌, Option, IfSome, IsSome}
use Rattle.ac_automaton.specs.Named.{nowhere}
use Rattle.ac_input.specs.Number.{greatest_number}
use Rattle.ac_input.specs.Alphabet.{alphabet_len, IsLeastPowerOfTwo}
use Rattle.ac_noncontiguous.specs.declared.error.BuildErrorKind.{BuildErrorKind}
use Rattle.ac_noncontiguous.specs.declared.error.BuildErrorKind.TheVariants.{StateIDOverflow, Memory}
use Rattle.ac_noncontiguous.specs.declared.nfa.NFA.{NFA}
use Rattle.ac_noncontiguous.specs.Nfa.ReadCalls.{state_len, fail_in, FailsIn, ListsIn, edges_in, AreEdges}
use Rattle.ac_noncontiguous.specs.Nfa.Reads.{matches_at}
use Rattle.ac_input.specs.declared.search.StartKind.TheVariants.{Unanchored}
use Rattle.ac_tables.specs.Contiguous.Rows.{bytes_of_rows, row_len}
use Rattle.ac_tables.specs.Contiguous.Filled.{AreRowsSmall}
use Rattle.ac_tables.specs.Dfa.Filling.{IsFit, AreRowsUpTo}
use Rattle.ac_tables.specs.declared.contiguous.rows.Rows.{Rows}
use Rattle.ac_tables.specs.Contiguous.Table.{placed_edge, place_in, words_at, AreWordsOf, ArePlacesTooGreat}
use Rattle.ac_tables.specs.declared.contiguous.table.Table.{Table}

-- ---- places

-- the places of the first n states, each at most the greatest number
pub record ArePlacesOf (nfa : NFA) (dense_depth : ℕ) (classes : List ℕ) (n : ℕ) (places : List ℕ) : Type 0 where
  pub counted : length places ≡ n
  pub at : (sid : ℕ) → sid < n → slice_index places sid ≡ place_in nfa dense_depth classes sid
  pub fits : (sid : ℕ) → sid < n → place_in nfa dense_depth classes sid ≤ greatest_number

-- the place of a state, if the states before it have this many words
abbrev pub IsPlaceAfter : ℕ → ℕ → ℕ → Type 0
IsPlaceAfter sid before place = (place ≤ greatest_number) × (place ≡ (if sid == nowhere then nowhere else before))

-- the place of a state, if the states before it have this many words, is past the greatest number
abbrev pub IsPlaceTooGreat : ℕ → ℕ → BuildErrorKind → Type 0
IsPlaceTooGreat sid before error =
    (sid ≢ nowhere) × (greatest_number < before) × (error ≡ StateIDOverflow greatest_number before)

-- the places of all states of the automaton
abbrev pub ArePlacesIn : NFA → ℕ → List ℕ → List ℕ → Type 0
ArePlacesIn nfa dense_depth classes places = ArePlacesOf nfa dense_depth classes (state_len nfa) places

-- Why the words can't be made: some place is too great, or out of memory.
abbrev pub IsRefusedFor : NFA → ℕ → List ℕ → BuildErrorKind → Type 0
IsRefusedFor nfa dense_depth classes (StateIDOverflow max requested) =
    (max ≡ greatest_number) × (max < requested) × ArePlacesTooGreat nfa dense_depth classes
IsRefusedFor nfa dense_depth classes Memory = Unit {0}
IsRefusedFor nfa dense_depth classes other = ⊥

-- ---- states

-- what the read calls return for a state is right
pub record IsKnown (nfa : NFA) (sid : ℕ) : Type 0 where
  pub fails : FailsIn nfa sid (fail_in nfa sid)
  pub edges : AreEdges nfa sid (edges_in nfa sid)
  pub lists : ListsIn nfa sid (matches_at nfa sid)

-- ---- the table

-- the words of a state were appended, and what the read calls return for it is right
pub record IsWritten (nfa : NFA) (dense_depth : ℕ) (classes : List ℕ) (sid : ℕ) (before after : List ℕ) : Type 0 where
  pub words : after ≡ before ++ words_at nfa dense_depth classes sid
  pub known : sid ≢ nowhere → IsKnown nfa sid

-- the transitions of a state were read, each with the class of its byte and the place of the next state
abbrev pub AreReadBy : NFA → List ℕ → List ℕ → ℕ → List (ℕ × ℕ) → Type 0
AreReadBy nfa classes places sid edges = edges ≡ map (placed_edge classes (slice_index places)) (edges_in nfa sid)

-- a copy of the table
pub record IsCopiedTable (old new : Table) : Type 0 where
  pub words : new.words.items ≡ old.words.items
  pub classes : new.classes ≡ old.classes
  pub alphabet_len : new.alphabet_len ≡ old.alphabet_len
  pub start : new.start ≡ old.start
  pub start_anchored : new.start_anchored ≡ old.start_anchored
  pub max_match : new.max_match ≡ old.max_match

-- the words are those of all states, and what the read calls return for these states is right
abbrev pub AreAllWritten : NFA → ℕ → List ℕ → List ℕ → Type 0
AreAllWritten nfa dense_depth classes words =
    AreWordsOf nfa dense_depth classes words × ((sid : ℕ) → sid < (state_len nfa) → sid ≢ nowhere → IsKnown nfa sid)

-- ---- the rows

-- The rows are those of an automaton whose states have these places.
pub record AreRowsFrom (nfa : NFA) (classes places : List ℕ) (rows : Rows) : Type 0 where
  pub at : rows.places.items ≡ places
  pub fit : IsFit (record { nfa = nfa; kind = Unanchored; classes = classes; stride = (row_len rows) })
  pub filled : AreRowsUpTo (record { nfa = nfa; kind = Unanchored; classes = classes; stride = (row_len rows) })
      (state_len nfa) (state_len nfa) rows.trans.items

-- The rows for the states of an automaton, in these classes: there are some exactly if they are small, and they take at
-- most this memory.
pub record AreRowsWithin (nfa : NFA) (dense_depth : ℕ) (classes : List ℕ) (memory : ℕ)
    (rows : Option Rows) : Type 0 where
  pub places : List ℕ
  pub placed : ArePlacesIn nfa dense_depth classes places
  pub asked : IsSome rows ↔ AreRowsSmall classes places memory
  pub taken : IfSome rows (λ r. bytes_of_rows r ≤ memory)

-- a row has as many entries as the least power of two that is enough for the classes
pub record HasStride (classes : List ℕ) (stride : ℕ) : Type 0 where
  pub least : IsLeastPowerOfTwo (alphabet_len classes) stride
  pub wide : stride ≤ 256
