-- What a contiguous automaton is built as, and what is known of a number that a search has come to.
use Rattle.std.specs.Prelude.{◌≡◌, ℕ, ◌==◌, ◌||◌, nat_le, Bool, false, IsTrue, List, Option}
use Rattle.ac_input.specs.declared.search.Anchored.{Anchored}
use Rattle.ac_input.specs.declared.steps.Steps.{Steps}
use Rattle.ac_input.specs.Candidate.{Filter}
use Rattle.ac_input.specs.Dictionary.{Dictionary, dictionary_of}
use Rattle.ac_automaton.specs.Automaton.{Built}
use Rattle.ac_automaton.specs.Named.{NamedStates, Naming, OfNames, IsPaidStep, IsReadBy}
use Rattle.ac_tables.specs.declared.contiguous.NFA.{NFA}
use Rattle.ac_tables.specs.declared.contiguous.rows.Rows.{Rows}
use Rattle.ac_tables.specs.declared.contiguous.table.Table.{Table}
use Rattle.ac_tables.specs.Contiguous.Words.{StateParts}
use Rattle.ac_tables.specs.Contiguous.Rows.{AreRowsIfAny}
use Rattle.ac_tables.specs.Contiguous.Table.{AreStates}
use Rattle.ac_tables.specs.Contiguous.WordReads.{matches_by}

-- what the automaton is made from
abbrev pub contiguous_dictionary : NFA → Dictionary
contiguous_dictionary nfa = dictionary_of nfa.lens nfa.pairing nfa.kind

-- what the automaton is built as: more than one state may be looked at for a byte
abbrev pub contiguous_built_as : NFA → Built
contiguous_built_as nfa =
    record {
      dictionary = contiguous_dictionary nfa;
      deterministic = false;
      prefilter = nfa.prefilter;
      lanes = nfa.lanes;
    }

-- the patterns that match at a state
abbrev pub contiguous_matches_at : NFA → ℕ → List ℕ
contiguous_matches_at nfa sid = matches_by nfa.table sid

-- the state is one of the two starts
abbrev pub is_contiguous_start_at : NFA → ℕ → Bool
is_contiguous_start_at nfa sid = (sid == nfa.table.start) || (sid == nfa.table.start_anchored)

-- the state is at most the last special one
abbrev pub is_contiguous_special_at : NFA → ℕ → Bool
is_contiguous_special_at nfa sid = nat_le sid nfa.max_special

-- the words, and the rows if there are any, are laid out by this naming
abbrev pub IsLaidOut : NFA → Naming → Type 0
IsLaidOut nfa names =
    (parts : ℕ → StateParts) × AreStates (contiguous_dictionary nfa) nfa.table names parts
    × AreRowsIfAny (contiguous_dictionary nfa) nfa.table.classes names nfa.rows

-- what its numbers stand for, list and say
abbrev pub contiguous_named_states : NFA → NamedStates
contiguous_named_states nfa = record {
  built = contiguous_built_as nfa;
  Fits = IsLaidOut nfa;
  matches = contiguous_matches_at nfa;
  starts = is_contiguous_start_at nfa;
  special = is_contiguous_special_at nfa;
}

-- a search of this anchoring reaches the state by reading the text
abbrev pub IsContiguousRead : NFA → Anchored → List ℕ → ℕ → Type 0
IsContiguousRead nfa anchored text sid = IsReadBy (contiguous_named_states nfa) anchored text sid

-- ---- look-ups

-- a search of this anchoring may come to the state
abbrev pub IsMet : NFA → Bool → ℕ → Type 0
IsMet nfa anchored sid = ∥ ((names : Naming) × IsLaidOut nfa names × IsTrue (names.met anchored sid)) ∥₁

-- By whichever naming the automaton is laid out, a byte leads from one state to the next in a search. This is the cost
-- of the look-up, after `done` looks for the byte.
abbrev pub LooksUp : NFA → Bool → ℕ → ℕ → ℕ → ℕ → Steps → Steps → Type 0
LooksUp nfa anchored done sid byte next before after =
    OfNames (IsLaidOut nfa) anchored sid
    (λ names. IsPaidStep (contiguous_dictionary nfa) names anchored done sid byte next before after)

-- ---- how it is made

-- the automaton is made for this dictionary, from this table, and has these rows and this prefilter, if any
pub record IsContiguousMadeOf (m : Dictionary) (from : Table) (beside : Option Rows) (held : Option Filter)
    (nfa : NFA) : Type 0 where
  pub dictionary : contiguous_dictionary nfa ≡ m
  pub table : nfa.table ≡ from
  pub rows : nfa.rows ≡ beside
  pub prefilter : nfa.prefilter ≡ held
