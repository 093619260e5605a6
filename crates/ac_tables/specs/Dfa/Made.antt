-- The table of a DFA, made from a noncontiguous automaton.
use Rattle.std.specs.Prelude.{◌≡◌, ◌+◌, ◌<◌, ◌≤◌, Bool, true, false}
use Rattle.ac_input.specs.declared.search.StartKind.{StartKind}
use Rattle.ac_input.specs.Alphabet.{alphabet_len, IsLeastExponent}
use Rattle.ac_input.specs.Number.{greatest_number}
use Rattle.ac_input.specs.Dfa.{IsDfaTooLarge}
use Rattle.ac_noncontiguous.specs.declared.error.BuildErrorKind.{BuildErrorKind}
use Rattle.ac_noncontiguous.specs.declared.error.BuildErrorKind.TheVariants.{StateIDOverflow, Memory}
use Rattle.ac_noncontiguous.specs.declared.nfa.NFA.{NFA}
use Rattle.ac_noncontiguous.specs.Nfa.Reads.{dictionary}
use Rattle.ac_noncontiguous.specs.Nfa.ReadCalls.{state_len, special_in, IsReadable}
use Rattle.ac_tables.specs.declared.dfa.table.Table.{Table}
use Rattle.ac_tables.specs.Dfa.Lists.{AreListsOf}
use Rattle.ac_tables.specs.Dfa.Table.{dfa_number_of, stride_of}
use Rattle.ac_tables.specs.Source.{AreClassesFor}
use Rattle.ac_tables.specs.Dfa.Filling.{IsFit, AreRowsUpTo}

-- The table is made from an automaton: rows, lists and numbers are those of its states.
pub record IsDfaTableOf (nfa : NFA) (table : Table) : Type 0 where
  pub readable : IsReadable nfa
  pub fit : IsFit (record { nfa = nfa; kind = table.kind; classes = table.classes; stride = stride_of table })
  pub wide : table.stride2 ≤ 8
  pub least : IsLeastExponent (alphabet_len table.classes) table.stride2
  pub rows : AreRowsUpTo (record { nfa = nfa; kind = table.kind; classes = table.classes; stride = stride_of table })
      (state_len nfa) (state_len nfa) table.trans.items
  pub lists : AreListsOf nfa table.lists
  pub start : table.start ≡ dfa_number_of table.kind (special_in nfa).start_unanchored_id (stride_of table) false
      (special_in nfa).start_unanchored_id
  pub start_anchored : table.start_anchored
      ≡ dfa_number_of table.kind (special_in nfa).start_unanchored_id (stride_of table) true
      ((special_in nfa).start_unanchored_id + 1)
  pub max_match : table.max_match
      ≡ dfa_number_of table.kind (special_in nfa).start_unanchored_id (stride_of table) true
      (special_in nfa).max_match_id

-- the table is made for searches of this start kind, with the automaton's byte classes or without
pub record IsTableFor (nfa : NFA) (start_kind : StartKind) (classed : Bool) (table : Table) : Type 0 where
  pub made : IsDfaTableOf nfa table
  pub kind : table.kind ≡ start_kind
  pub classes : AreClassesFor nfa classed table.classes

-- why no table can be made: it would be too large, or out of memory
abbrev pub IsTableRefused : NFA → StartKind → Bool → BuildErrorKind → Type 0
IsTableRefused nfa kind classed (StateIDOverflow max requested) =
    (max ≡ greatest_number) × (max < requested) × ∥ IsDfaTooLarge (dictionary nfa) kind classed ∥₁
IsTableRefused nfa kind classed Memory = Unit {0}
IsTableRefused nfa kind classed other = ⊥
