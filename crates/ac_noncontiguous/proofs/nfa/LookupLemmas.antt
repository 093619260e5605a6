-- The look-ups in the tables: halving a range of transitions, and reading a row.
use Rattle.std.proofs.Common.{◌≡◌, ◌≢◌, ℕ, zero, suc, ◌+◌, ◌-◌, ◌<◌, ◌≤◌, List, length, get_or, ⊎_elim, refl, sym, ap, subst, ◌∙◌, arith}
use Rattle.std.proofs.Math.Logic.{∥∥₁_elim}
use Rattle.std.proofs.lemmas.Option.{slice_get_read, get_or_from_slice_get}
use Rattle.std.specs.Prelude.{slice_index}
use Rattle.std.specs.Coded.{le_prop}
use Rattle.ac_input.specs.Alphabet.{class}
use Rattle.ac_input.specs.Dictionary.{Dictionary}
use Rattle.ac_noncontiguous.specs.declared.nfa.tables.State.{State}
use Rattle.ac_noncontiguous.specs.declared.nfa.tables.Transition.{Transition}
use Rattle.ac_noncontiguous.specs.declared.nfa.tables.Tables.{Tables}
use Rattle.ac_noncontiguous.specs.Nfa.{kept_of, row_of, no_row, byte_at, next_at, IsEdge, IsRowEntry, AreTables}
use Rattle.ac_noncontiguous.specs.Nfa.Lookups.{IsKept, StepsTo, StepsOver, AreRisingIn, IsNextIn}

-- an element that is read at a place of a list is the element there, whatever the default is
pub read-at : {X : Type 0} (xs : List X) {k : ℕ} {x : X} (d : X) → k < length xs → x ≡ get_or xs k x → get_or xs k d ≡ x
read-at xs {k} {x} d within is = get_or_from_slice_get xs k x d (slice_get_read xs (length xs) k x refl within is)

-- ---- halves

-- the bytes before place `low` are less than the byte, and those from place `high` on are greater
pub record IsHalved (transitions : List Transition) (from end byte low high : ℕ) : Type 0 where
  pub within : (from ≤ low) × (low ≤ high) × (high ≤ end)
  pub less : (k : ℕ) → from ≤ k → k < low → byte_at transitions k < byte
  pub greater : (k : ℕ) → high ≤ k → k < end → byte < byte_at transitions k

-- ---- the ranges of the states

-- a function that never falls from one number to the next never falls
never-falls : (f : ℕ → ℕ) (len : ℕ) → ((i : ℕ) → i < len → f i ≤ f (i + 1)) → (i n : ℕ) → i + n ≤ len → f i ≤ f (i + n)
never-falls f len up i zero le = let same : i + zero ≡ i = omega arith in rw same (omega arith)
never-falls f len up i (suc n) le =
    let so_far = never-falls f len up i n (omega arith) in
    let more = up (i + n) (omega arith) in
    let same : i + suc n ≡ i + n + 1 = omega arith in
    rw same (omega arith)

-- the range of a state ends within the transitions
pub range-within : {m : Dictionary} {text : ℕ → List ℕ} {tables : Tables} {i : ℕ} → (t : AreTables m text tables)
    → i < t.len → (kept_of tables.states.items (i + 1)).transitions ≤ length tables.transitions.items
range-within {tables} {i} t within =
    let up = never-falls (λ i. (kept_of tables.states.items i).transitions) t.len t.transitions.ranges (i + 1)
    (t.len - (i + 1)) (omega arith) in
    let same : i + 1 + (t.len - (i + 1)) ≡ t.len = omega arith in
    let up_to : (kept_of tables.states.items (i + 1)).transitions ≤ (kept_of tables.states.items t.len).transitions =
    rw same at up in
    let last = t.transitions.last in
    omega arith

-- the entries of a state and of the one after it are within the table
pub kept-within : {tables : Tables} {i : ℕ} → IsKept tables i → i + 1 < length tables.states.items
kept-within h = ∥∥₁_elim h le_prop (λ w. omega (arith, w.2.counted, w.3))

-- the entry that is read for a state is the one stored for it
pub kept-read : {tables : Tables} {i at : ℕ} {x : State} → IsKept tables i → at ≡ i
    → x ≡ get_or tables.states.items at x → kept_of tables.states.items i ≡ x
kept-read {tables} h same is =
    let w = kept-within h in
    ap (kept_of tables.states.items) (sym same)
    ∙ read-at tables.states.items
    (record { transitions = 0; matches = 0; matches_len = 0; fail = 0; depth = 0; row = 0 }) (omega arith) is

-- the entry that is read after a state is the next one stored
pub kept-read_next : {tables : Tables} {i at : ℕ} {x : State} → IsKept tables i → at ≡ i
    → x ≡ get_or tables.states.items (at + 1) x → kept_of tables.states.items (i + 1) ≡ x
kept-read_next {tables} h same is =
    let w = kept-within h in
    ap (λ k. kept_of tables.states.items (k + 1)) (sym same)
    ∙ read-at tables.states.items
    (record { transitions = 0; matches = 0; matches_len = 0; fail = 0; depth = 0; row = 0 }) (omega arith) is

-- the range of a state's transitions begins no later than it ends
pub kept-ordered : {tables : Tables} {i : ℕ} → IsKept tables i
    → (kept_of tables.states.items i).transitions ≤ (kept_of tables.states.items (i + 1)).transitions
kept-ordered {i} h = ∥∥₁_elim h le_prop (λ w. w.2.transitions.ranges i w.3)

-- the range of a state ends within all transitions
pub kept-ends : {tables : Tables} {i : ℕ} → IsKept tables i
    → (kept_of tables.states.items (i + 1)).transitions ≤ length tables.transitions.items
kept-ends h = ∥∥₁_elim h le_prop (λ w. range-within w.2 w.3)

-- the range of a state's transitions, as its ends are read
pub kept-span : {tables : Tables} {i at : ℕ} {x y : State} → IsKept tables i → at ≡ i
    → x ≡ get_or tables.states.items at x → y ≡ get_or tables.states.items (at + 1) y
    → ((kept_of tables.states.items i).transitions ≡ x.transitions)
    × ((kept_of tables.states.items (i + 1)).transitions ≡ y.transitions)
    × (x.transitions ≤ y.transitions) × (y.transitions ≤ length tables.transitions.items)
kept-span h at first second =
    let from = ap (λ s. s.transitions) (kept-read h at first) in
    let end = ap (λ s. s.transitions) (kept-read_next h at second) in
    let up = kept-ordered h in
    let within = kept-ends h in
    (from, end, omega (arith, from, end, up), omega (arith, end, within))

-- the bytes in the range of a state rise
pub kept-rises : {tables : Tables} {i : ℕ} → IsKept tables i
    → AreRisingIn tables.transitions.items (kept_of tables.states.items i).transitions
    (kept_of tables.states.items (i + 1)).transitions
kept-rises {i} h =
    λ j k from before end. ∥∥₁_elim h le_prop
    (λ w. w.2.transitions.rising i j k w.3 (from, omega arith) (omega arith, end) before)

-- the row of a state is within the rows
pub kept-row : {tables : Tables} {i byte : ℕ} → IsKept tables i → byte < 256 → row_of tables.states.items i ≢ no_row
    → row_of tables.states.items i + class tables.classes byte < length tables.rows.items
kept-row {i} {byte} h fits some = ∥∥₁_elim h le_prop (λ w. (w.2.rows i byte w.3 fits some).0)

-- ---- where a byte leads

-- a search of the range finds where the byte leads
pub leads-range : {tables : Tables} {i byte j : ℕ} → byte < 256
    → IsNextIn tables.transitions.items (kept_of tables.states.items i).transitions
    (kept_of tables.states.items (i + 1)).transitions byte j → StepsTo tables i byte j
leads-range {tables} {i} {byte} {j} fits found m text t within =
    ⊎_elim
    (λ (there : (k : ℕ) × ((kept_of tables.states.items i).transitions ≤ k)
    × (k < (kept_of tables.states.items (i + 1)).transitions) × (byte_at tables.transitions.items k ≡ byte)
    × (j ≡ next_at tables.transitions.items k)).
    let edge = t.transitions.edges i there.0 within (there.1, there.2) in
    let by_byte =
    subst (λ b. IsEdge m t.len tables.start text i b (next_at tables.transitions.items there.0)) there.3 edge.1 in
    (rw there.4 edge.0, subst (λ n. IsEdge m t.len tables.start text i byte n) (sym there.4) by_byte))
    (λ (missing : (j ≡ 1)
    × ((k : ℕ) → (kept_of tables.states.items i).transitions ≤ k → k < (kept_of tables.states.items (i + 1)).transitions
    → byte_at tables.transitions.items k ≢ byte)).
    let edge = t.transitions.missing i byte within fits (λ k place. missing.1 k place.0 place.1) in
    let starts = t.texts.starts in
    (omega (arith, missing.0), subst (λ n. IsEdge m t.len tables.start text i byte n) (sym missing.0) edge))
    found

-- the row's entry is where the byte leads, all failures followed
pub leads-row : {tables : Tables} {i byte j : ℕ} → byte < 256 → row_of tables.states.items i ≢ no_row
    → slice_index tables.rows.items (row_of tables.states.items i + class tables.classes byte) ≡ j
    → StepsOver tables i byte j
leads-row {tables} {i} {byte} fits some is m text t within =
    subst (IsRowEntry m t.len tables.start text i byte) is (t.rows i byte within fits some).1
