-- What a filler of rows fills, what it requires of a table and what it leaves in it.
use Rattle.std.specs.Prelude.{◌≡◌, ℕ, ◌*◌, ◌<◌, List, length}
use Rattle.ac_input.specs.declared.search.Anchored.{Anchored}
use Rattle.ac_input.specs.declared.search.Anchored.TheVariants.{No, Yes}
use Rattle.ac_input.specs.Dfa.{dfa_states}
use Rattle.ac_noncontiguous.specs.Nfa.ReadCalls.{state_len, fail_in, edges_in, MayBeMet}
use Rattle.ac_tables.specs.declared.dfa.fill.Filler.{Filler}
use Rattle.ac_tables.specs.Dfa.Filling.{RowPlan, number_in, IsRowRight, IsUnwritten, IsChangedIn, AreWritten, AreRowsUpTo}

-- the plan of the rows that a filler fills, by its classes and numbers
abbrev pub row_plan_of : Filler → RowPlan
row_plan_of f = record { nfa = f.nfa.now; kind = f.numbers.kind; classes = f.classes.now; stride = f.numbers.stride }

-- the table has room for the rows of all states
abbrev pub HasRows : Filler → List ℕ → Type 0
HasRows f trans = length trans ≡ dfa_states f.numbers.kind (state_len f.nfa.now) * f.numbers.stride

-- the transitions of a state are written over its row
abbrev pub IsWrittenOver : Filler → Anchored → ℕ → List ℕ → List ℕ → Type 0
IsWrittenOver f anchored sid old new =
    AreWritten (row_plan_of f) anchored (number_in (row_plan_of f) anchored sid) (edges_in f.nfa.now sid) old new

-- nothing but the row of a state has changed
abbrev pub IsOnlyRow : Filler → Anchored → ℕ → List ℕ → List ℕ → Type 0
IsOnlyRow f anchored sid old new = IsChangedIn f.numbers.stride (number_in (row_plan_of f) anchored sid) old new

-- the row of the state's failure is right, for unanchored searches
abbrev pub IsFailureFilled : Filler → ℕ → List ℕ → Type 0
IsFailureFilled f sid trans = IsRowRight (row_plan_of f) No (fail_in f.nfa.now sid) trans

-- the row of the state is blank, for anchored searches
abbrev pub IsRowFree : Filler → ℕ → List ℕ → Type 0
IsRowFree f sid trans = IsUnwritten f.numbers.stride (number_in (row_plan_of f) Yes sid) trans

-- unanchored searches may come to the one state, and anchored ones to the other; both are past the first two
abbrev pub ArePairMet : Filler → ℕ → ℕ → Type 0
ArePairMet f plain anchored =
    MayBeMet f.nfa.now No plain × (1 < plain) × MayBeMet f.nfa.now Yes anchored × (1 < anchored)

-- all rows are right
abbrev pub AreAllRows : Filler → List ℕ → Type 0
AreAllRows f trans = AreRowsUpTo (row_plan_of f) (state_len f.nfa.now) (state_len f.nfa.now) trans
