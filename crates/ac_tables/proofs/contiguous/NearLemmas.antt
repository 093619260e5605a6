-- Numbers of states, where those near the start alone have rows, and where the rows lead.
use Rattle.std.proofs.Common.{◌≡◌, ℕ, ◌+◌, ◌-◌, ◌*◌, ◌<◌, ◌≤◌, ◌/◌, false, List, [], ◌∷◌, ◌++◌, length, Some, sym, subst, ◌∙◌, arith}
use Rattle.std.specs.Prelude.{IfSome, nat_lt, slice_index}
use Rattle.std.specs.Coded.{le_prop, Coded-set, coded_ℕ}
use Rattle.std.proofs.Math.Logic.{∥∥₁_elim, ∥∥₁_map, ∥∥₁_prop}
use Rattle.std.proofs.lemmas.Bool.{cond-true, cond-false, lt-ltb, le-ltb}
use Rattle.std.proofs.lemmas.Nat.{pow_pos}
use Rattle.ac_input.specs.Number.{greatest_number}
use Rattle.ac_input.specs.Alphabet.{class}
use Rattle.ac_input.specs.declared.search.Anchored.TheVariants.{No}
use Rattle.ac_automaton.specs.Automaton.{IsReached, Leads}
use Rattle.ac_automaton.proofs.automaton.NamedLemmas.{named-next, read-from}
use Rattle.ac_tables.specs.Contiguous.Near.{AreNearRows, IsNumber, IsNumberOf, place_by, numbered_place}
use Rattle.ac_tables.specs.Contiguous.Reads.{contiguous_dictionary, IsContiguousRead, IsMet, contiguous_named_states}
use Rattle.ac_tables.specs.Contiguous.Rows.{IsRow, IsRowIn, place_at, place_in_row, row_len}
use Rattle.ac_tables.specs.Contiguous.Words.{words_of}
use Rattle.ac_tables.specs.declared.contiguous.NFA.{NFA}
use Rattle.ac_tables.specs.declared.contiguous.rows.Rows.{Rows}
use Rattle.ac_tables.proofs.contiguous.CutLemmas.{row-room}
use Rattle.ac_tables.proofs.contiguous.NameLemmas.{names-are, read-is_met}

-- ---- numbers

-- the number of a row is below that of all entries
row-below : (places : List ℕ) (stride row : ℕ) → 0 < stride → IsRow places stride row → row < length places * stride
row-below places stride row some one =
    let room = row-room (length places) (row / stride) stride one.within in
    let whole = one.whole in
    omega (arith, room, whole, some)

-- the state of a row's number is that of the row
pub row-placed : (places : List ℕ) (stride row : ℕ) → row < length places * stride
    → place_by places stride row ≡ place_at places stride row
row-placed places stride row less =
    cond-true (nat_lt row (length places * stride)) (place_at places stride row) (row - length places * stride)
    (lt-ltb row (length places * stride) less)

-- the state of any other number stands at the place that is left without the number of all entries
pub far-placed : (places : List ℕ) (stride number : ℕ) → length places * stride ≤ number
    → place_by places stride number ≡ number - length places * stride
far-placed places stride number more =
    cond-false (nat_lt number (length places * stride)) (place_at places stride number) (number - length places * stride)
    (le-ltb number (length places * stride) more)

-- the number of a row is that of its place
pub row-numbered : (rows : Rows) (row place : ℕ) → IsRowIn rows row → place_in_row rows row ≡ place
    → IsNumberOf rows place row
row-numbered rows row place one at =
    let less = row-below rows.places.items (row_len rows) row (pow_pos rows.stride2) one in
    (λ _. one, row-placed rows.places.items (row_len rows) row less ∙ at)

-- a place with the number of all entries added is the number of the state there
pub far-numbered : (rows : Rows) (place number : ℕ) → number ≡ length rows.trans.items + place
    → IsNumberOf rows place number
far-numbered rows place number is =
    let len = rows.len in
    let more : length rows.places.items * row_len rows ≤ number = omega (arith, is, len) in
    let left : number - length rows.places.items * row_len rows ≡ place = omega (arith, is, len) in
    (λ less. absurd (omega (arith, less, more)), far-placed rows.places.items (row_len rows) number more ∙ left)

-- ---- places

-- the words of a state that is met are among the words
pub met-within : (nfa : NFA) (sid : ℕ) → IsMet nfa false sid → sid < length nfa.table.words.items
met-within nfa sid h = ∥∥₁_elim h le_prop (λ w.
    let s = (w.1.1.stand false sid w.2).0 in
    let more : 0 < length (words_of nfa.table.alphabet_len (w.1.0 sid)) = omega arith in
    omega (arith, s, more))

-- ---- the rows of an automaton

-- the rows near the start, if the automaton has some, lead where the words do
pub near-laid : (nfa : NFA) (near : Rows) → nfa.near ≡ Some near
    → ∥ AreNearRows (contiguous_dictionary nfa) nfa.table near ∥₁
near-laid nfa near held =
    ∥∥₁_map nfa.near_lead
    (λ h. subst (λ some. IfSome some (AreNearRows (contiguous_dictionary nfa) nfa.table)) held h)

-- the number of a state that is met isn't too great
pub near-fits : (nfa : NFA) (near : Rows) (sid : ℕ) → nfa.near ≡ Some near
    → IsReached (IsContiguousRead nfa No) sid → length near.trans.items + sid ≤ greatest_number
near-fits nfa near sid held reached =
    let within = met-within nfa sid (read-is_met nfa No sid reached) in
    ∥∥₁_elim (near-laid nfa near held) le_prop (λ h. let room = h.room in omega (arith, room, within))

-- the entries of a row are within the rows
pub near-room : (nfa : NFA) (near : Rows) (row byte : ℕ) → nfa.near ≡ Some near → byte < 256 → IsRowIn near row
    → row + class nfa.table.classes byte < length near.trans.items
near-room nfa near row byte held small one =
    let whole = one.whole in
    let room = row-room (length near.places.items) _ (row_len near) one.within in
    let len = near.len in
    let letter : class nfa.table.classes byte < row_len near =
    ∥∥₁_elim (near-laid nfa near held) le_prop (λ h. h.letters byte small) in
    omega (arith, whole, room, len, letter)

-- a look-up in a row leads where the byte does
pub near-leads : (nfa : NFA) (near : Rows) (row byte next : ℕ) → nfa.near ≡ Some near → byte < 256
    → row < length near.trans.items → IsRowIn near row
    → next ≡ slice_index near.trans.items (row + class nfa.table.classes byte)
    → IsNumber near next × Leads (IsContiguousRead nfa No) (numbered_place near row) (byte ∷ []) (numbered_place near next)
near-leads nfa near row byte next held small less one is =
    let laid = near-laid nfa near held in
    let entry : ℕ = slice_index near.trans.items (row + class nfa.table.classes byte) in
    let len = near.len in
    let same = row-placed near.places.items (row_len near) row (omega (arith, less, len)) in
    let number : IsNumber near entry = λ low. record {
      whole = ∥∥₁_elim laid (Coded-set coded_ℕ _ _) (λ h. ((h.lead row byte one small).0 low).whole);
      within = ∥∥₁_elim laid le_prop (λ h. ((h.lead row byte one small).0 low).within);
    } in
    let leads : Leads (IsContiguousRead nfa No) (place_in_row near row) (byte ∷ []) (numbered_place near entry) =
    λ text reads. read-from (contiguous_named_states nfa) No (text ++ byte ∷ []) (numbered_place near entry) (names-are nfa)
    (∥∥₁_elim laid ∥∥₁_prop (λ h. ∥∥₁_map reads.reached (λ w. (
      w.0,
      w.1,
      named-next ((h.lead row byte one small).1 w.0 (w.1.0, w.1.1) w.2.met) w.2,
    )))) in
    subst (λ n. IsNumber near n × Leads (IsContiguousRead nfa No) (numbered_place near row) (byte ∷ []) (numbered_place near n)) (sym is)
    (number, subst (λ p. Leads (IsContiguousRead nfa No) p (byte ∷ []) (numbered_place near entry)) (sym same) leads)
