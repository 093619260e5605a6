-- The rows of the states, and the numbers of these rows.
use Rattle.std.proofs.Common.{◌≡◌, ◌≢◌, ◌⊎◌, ℕ, ◌+◌, ◌-◌, ◌*◌, ◌<◌, ◌≤◌, Bool, true, false, inl, inr, ⊎_elim, refl, sym, ap, ◌∙◌, arith, rules}
use Rattle.std.specs.Prelude.{nat_le, if◌then◌else◌, ◌/◌, ◌↔◌}
use Rattle.std.proofs.lemmas.Bool.{cases_lt, cases_eq, cond-true, cond-false}
use Rattle.std.proofs.lemmas.Bool.Decides.{nat_tests}
use Rattle.std.proofs.lemmas.Nat.{mul-add-lt, mul-le, div-mul-add}
use Rattle.ac_input.specs.declared.search.Anchored.{Anchored}
use Rattle.ac_input.specs.declared.search.Anchored.TheVariants.{No, Yes}
use Rattle.ac_input.specs.declared.search.StartKind.{StartKind}
use Rattle.ac_input.specs.declared.search.StartKind.TheVariants as starts
use Rattle.ac_input.specs.Dfa.{Serves, dfa_states}
use Rattle.ac_input.specs.Input.{is_anchored}
use Rattle.ac_noncontiguous.specs.Nfa.Lookups.{other_start}
use Rattle.ac_tables.specs.Dfa.Table.{dfa_row_of, list_index}

-- ---- the row of a state

le-true : (a b : ℕ) → a ≤ b → nat_le a b ≡ true
le-true a b h = grind (arith, nat_tests)

le-false : (a b : ℕ) → b < a → nat_le a b ≡ false
le-false a b h = grind (arith, nat_tests)

-- the rows of the first two states are at their own places
pub row-first : (kind : StartKind) (start : ℕ) (a : Bool) (i : ℕ) → i ≤ 1 → dfa_row_of kind start a i ≡ i
row-first starts.Unanchored start a i h = refl
row-first starts.Anchored start a i h = refl
row-first starts.Both start false i h =
    cond-true (nat_le i 1) i (if nat_le i start then 2 * i - 2 else 2 * i - 4) (le-true i 1 h)
row-first starts.Both start true i h =
    cond-true (nat_le i 1) i (if nat_le start i then 2 * i - 3 else 2 * i - 1) (le-true i 1 h)

-- the rows with both start kinds, for unanchored searches
row-up : (start i : ℕ) → 1 < i → i ≤ start → dfa_row_of starts.Both start false i ≡ 2 * i - 2
row-up start i past h =
    cond-false (nat_le i 1) i (if nat_le i start then 2 * i - 2 else 2 * i - 4) (le-false i 1 past)
    ∙ cond-true (nat_le i start) (2 * i - 2) (2 * i - 4) (le-true i start h)

row-after : (start i : ℕ) → 1 < i → start < i → dfa_row_of starts.Both start false i ≡ 2 * i - 4
row-after start i past h =
    cond-false (nat_le i 1) i (if nat_le i start then 2 * i - 2 else 2 * i - 4) (le-false i 1 past)
    ∙ cond-false (nat_le i start) (2 * i - 2) (2 * i - 4) (le-false i start h)

-- the rows with both start kinds, for anchored searches
row-anchored_up : (start i : ℕ) → 1 < i → i < start → dfa_row_of starts.Both start true i ≡ 2 * i - 1
row-anchored_up start i past h =
    cond-false (nat_le i 1) i (if nat_le start i then 2 * i - 3 else 2 * i - 1) (le-false i 1 past)
    ∙ cond-false (nat_le start i) (2 * i - 3) (2 * i - 1) (le-false start i h)

row-anchored_after : (start i : ℕ) → 1 < i → start ≤ i → dfa_row_of starts.Both start true i ≡ 2 * i - 3
row-anchored_after start i past h =
    cond-false (nat_le i 1) i (if nat_le start i then 2 * i - 3 else 2 * i - 1) (le-false i 1 past)
    ∙ cond-true (nat_le start i) (2 * i - 3) (2 * i - 1) (le-true start i h)

-- where the row of a state may be, case by case
rows-plain : {P : Type 0} (start i : ℕ) → (i ≤ 1 → dfa_row_of starts.Both start false i ≡ i → P)
    → (1 < i → i ≤ start → dfa_row_of starts.Both start false i + 2 ≡ 2 * i → P)
    → (1 < i → start < i → dfa_row_of starts.Both start false i + 4 ≡ 2 * i → P) → 0 < start → P
rows-plain start i first up after some =
    ⊎_elim
    (λ (past : 1 < i).
    ⊎_elim
    (λ (behind : start < i). let e = row-after start i past behind in
    after past behind (omega (arith, e, past, behind, some)))
    (λ (before : i ≤ start). let e = row-up start i past before in up past before (omega (arith, e, past)))
    (cases_lt start i))
    (λ (low : i ≤ 1). first low (row-first starts.Both start false i low))
    (cases_lt 1 i)

rows-anchored : {P : Type 0} (start i : ℕ) → (i ≤ 1 → dfa_row_of starts.Both start true i ≡ i → P)
    → (1 < i → i < start → dfa_row_of starts.Both start true i + 1 ≡ 2 * i → P)
    → (1 < i → start ≤ i → dfa_row_of starts.Both start true i + 3 ≡ 2 * i → P) → P
rows-anchored start i first up after =
    ⊎_elim
    (λ (past : 1 < i).
    ⊎_elim
    (λ (before : i < start). let e = row-anchored_up start i past before in up past before (omega (arith, e, past)))
    (λ (behind : start ≤ i). let e = row-anchored_after start i past behind in
    after past behind (omega (arith, e, past)))
    (cases_lt i start))
    (λ (low : i ≤ 1). first low (row-first starts.Both start true i low))
    (cases_lt 1 i)

-- ---- within the table

-- the row of each state is one of the table's
pub row-below : (kind : StartKind) (start len : ℕ) (a : Bool) (i : ℕ) → 1 < start → start + 1 < len → i < len
    → dfa_row_of kind start a i < dfa_states kind len
row-below starts.Unanchored start len a i past within h = h
row-below starts.Anchored start len a i past within h = h
row-below starts.Both start len false i past within h =
    rows-plain start i (λ low e. omega (arith, e, low, past, within)) (λ more up e. omega (arith, e, up, past, within))
    (λ more up e. omega (arith, e, h)) (omega (arith, past))
row-below starts.Both start len true i past within h =
    rows-anchored start i (λ low e. omega (arith, e, low, past, within)) (λ more up e. omega (arith, e, up, within))
    (λ more up e. omega (arith, e, h))

-- a state past the first two has a row past them
pub row-past : (kind : StartKind) (start : ℕ) (a : Bool) (i : ℕ) → 1 < start → 1 < i → i ≢ other_start start a
    → 1 < dfa_row_of kind start a i
row-past starts.Unanchored start a i past h own = h
row-past starts.Anchored start a i past h own = h
row-past starts.Both start false i past h own =
    rows-plain start i (λ low e. omega (arith, low, h)) (λ more up e. omega (arith, e, h))
    (λ more up e. omega (arith, e, up, past)) (omega (arith, past))
row-past starts.Both start true i past h own =
    rows-anchored start i (λ low e. omega (arith, low, h)) (λ more up e. omega (arith, e, h))
    (λ more up e. omega (arith, e, up, past, own))

-- the whole row is within the table
pub row-room : (rows row stride len : ℕ) → row < rows → len ≡ rows * stride → row * stride + stride ≤ len
row-room rows row stride len low is =
    let h : (row + 1) * stride ≤ rows * stride =
    mul-le (row + 1) stride rows stride (omega (arith, low)) (omega arith) in
    let e : (row + 1) * stride ≡ row * stride + stride = search (rules, arith) in
    omega (arith, h, e, is)

-- if the number of the last row is at most a bound, the number of each row is
pub number-fits : (rows row stride most : ℕ) → row < rows → (rows - 1) * stride ≤ most → row * stride ≤ most
number-fits rows row stride most low h =
    let le : row * stride ≤ (rows - 1) * stride =
    mul-le row stride (rows - 1) stride (omega (arith, low)) (omega arith) in
    omega (arith, le, h)

-- two rows have no place in common
pub rows-apart : (row other stride x y : ℕ) → row ≢ other → x < stride → y < stride
    → row * stride + x ≢ other * stride + y
rows-apart row other stride x y apart in_row in_other same =
    ⊎_elim
    (λ (less : row < other). let h = mul-add-lt row stride x other less in_row in
    let e : stride * other ≡ other * stride = search (rules, arith) in omega (arith, h, same, e))
    (λ (more : other ≤ row). let h = mul-add-lt other stride y row (omega (arith, more, apart)) in_other in
    omega (arith, h, same))
    (cases_lt row other)

-- ---- no two states have one row

-- Two states with one row are equal. With both start kinds, past the first two states, their anchorings are equal too.
pub row-one : (kind : StartKind) (start : ℕ) (a b : Bool) (i j : ℕ) → 1 < start → i ≢ other_start start a
    → j ≢ other_start start b → dfa_row_of kind start a i ≡ dfa_row_of kind start b j
    → (i ≡ j) × (kind ≡ starts.Both → 1 < i → a ≡ b)
row-one starts.Unanchored start a b i j past not_i not_j same =
    (same, λ both. absurd (let e : starts.Unanchored ≡ starts.Both = both in cc))
row-one starts.Anchored start a b i j past not_i not_j same =
    (same, λ both. absurd (let e : starts.Anchored ≡ starts.Both = both in cc))
row-one starts.Both start false false i j past not_i not_j same =
    let some : 0 < start = omega (arith, past) in
    let one : i ≡ j = rows-plain start i
    (λ low e. rows-plain start j (λ low_j f. omega (arith, e, f, same))
    (λ more up f. omega (arith, e, f, same, low, more)) (λ more up f. omega (arith, e, f, same, low, more, up, past))
    some)
    (λ past_i up_i e. rows-plain start j (λ low_j f. omega (arith, e, f, same, low_j, past_i))
    (λ more up f. omega (arith, e, f, same)) (λ more up f. omega (arith, e, f, same, up, up_i, not_j)) some)
    (λ past_i up_i e. rows-plain start j (λ low_j f. omega (arith, e, f, same, low_j, past_i, up_i, past))
    (λ more up f. omega (arith, e, f, same, up, up_i, not_i)) (λ more up f. omega (arith, e, f, same)) some)
    some in
    (one, λ _ _. refl)
row-one starts.Both start true true i j past not_i not_j same =
    let one : i ≡ j = rows-anchored start i
    (λ low e. rows-anchored start j (λ low_j f. omega (arith, e, f, same))
    (λ more up f. omega (arith, e, f, same, low, more))
    (λ more up f. omega (arith, e, f, same, low, more, up, past, not_j)))
    (λ past_i up_i e. rows-anchored start j (λ low_j f. omega (arith, e, f, same, low_j, past_i))
    (λ more up f. omega (arith, e, f, same)) (λ more up f. omega (arith, e, f, same, up, up_i, not_j)))
    (λ past_i up_i e. rows-anchored start j (λ low_j f. omega (arith, e, f, same, low_j, past_i, up_i, past, not_i))
    (λ more up f. omega (arith, e, f, same, up, up_i, not_i)) (λ more up f. omega (arith, e, f, same))) in
    (one, λ _ _. refl)
row-one starts.Both start false true i j past not_i not_j same =
    let some : 0 < start = omega (arith, past) in
    rows-plain start i
    (λ low e. rows-anchored start j
    (λ low_j f. (omega (arith, e, f, same), λ _ more. absurd (omega (arith, low, more))))
    (λ more up f. absurd (omega (arith, e, f, same, low, more)))
    (λ more up f. absurd (omega (arith, e, f, same, low, more, up, past, not_j))))
    (λ past_i up_i e. rows-anchored start j (λ low_j f. absurd (omega (arith, e, f, same, low_j, past_i)))
    (λ more up f. absurd (omega (arith, e, f, same))) (λ more up f. absurd (omega (arith, e, f, same))))
    (λ past_i up_i e. rows-anchored start j (λ low_j f. absurd (omega (arith, e, f, same, low_j, past_i, up_i, past)))
    (λ more up f. absurd (omega (arith, e, f, same))) (λ more up f. absurd (omega (arith, e, f, same))))
    some
row-one starts.Both start true false i j past not_i not_j same =
    let some : 0 < start = omega (arith, past) in
    rows-plain start j
    (λ low e. rows-anchored start i
    (λ low_i f. (omega (arith, e, f, same), λ _ more. absurd (omega (arith, low_i, more))))
    (λ more up f. absurd (omega (arith, e, f, same, low, more)))
    (λ more up f. absurd (omega (arith, e, f, same, low, more, up, past, not_i))))
    (λ past_j up_j e. rows-anchored start i (λ low_i f. absurd (omega (arith, e, f, same, low_i, past_j)))
    (λ more up f. absurd (omega (arith, e, f, same))) (λ more up f. absurd (omega (arith, e, f, same))))
    (λ past_j up_j e. rows-anchored start i (λ low_i f. absurd (omega (arith, e, f, same, low_i, past_j, up_j, past)))
    (λ more up f. absurd (omega (arith, e, f, same))) (λ more up f. absurd (omega (arith, e, f, same))))
    some

-- the rows of two different states, or anchorings, that are served are different
pub row-apart : (kind : StartKind) (start : ℕ) (a b : Anchored) (i j : ℕ) → Serves kind a → Serves kind b → 1 < start
    → 1 < i → i ≢ other_start start (is_anchored a) → j ≢ other_start start (is_anchored b) → (a ≡ b → i ≢ j)
    → dfa_row_of kind start (is_anchored a) i ≢ dfa_row_of kind start (is_anchored b) j
row-apart starts.Unanchored start a b i j sa sb past more not_i not_j ne same = ne (sa ∙ sym sb) same
row-apart starts.Anchored start a b i j sa sb past more not_i not_j ne same = ne (sa ∙ sym sb) same
row-apart starts.Both start No No i j sa sb past more not_i not_j ne same =
    ne refl (row-one starts.Both start false false i j past not_i not_j same).0
row-apart starts.Both start Yes Yes i j sa sb past more not_i not_j ne same =
    ne refl (row-one starts.Both start true true i j past not_i not_j same).0
row-apart starts.Both start No Yes i j sa sb past more not_i not_j ne same =
    let e : false ≡ true = (row-one starts.Both start false true i j past not_i not_j same).1 refl more in cc
row-apart starts.Both start Yes No i j sa sb past more not_i not_j ne same =
    let e : true ≡ false = (row-one starts.Both start true false i j past not_i not_j same).1 refl more in cc

-- ---- numbers

-- two numbers of rows are equal only if the rows are
pub scale-one : (a b s : ℕ) → 0 < s → a * s ≡ b * s → a ≡ b
scale-one a b s some same =
    ⊎_elim
    (λ (e : a ≡ b). e)
    (λ (ne : a ≢ b). absurd (rows-apart a b s 0 0 ne some some (omega (arith, same))))
    (cases_eq a b)

-- numbers of rows are in the order of the rows
pub scale-le : (a b s : ℕ) → 0 < s → (a * s ≤ b * s) ↔ (a ≤ b)
scale-le a b s some = (
  λ le.
      ⊎_elim
      (λ (less : b < a).
      let h : (b + 1) * s ≤ a * s = mul-le (b + 1) s a s (omega (arith, less)) (omega arith) in
      let e : (b + 1) * s ≡ b * s + s = omega arith in
      absurd (omega (arith, h, e, le, some)))
      (λ (up : a ≤ b). up)
      (cases_lt b a),
  λ le. mul-le a s b s le (omega arith),
)

-- the row of a number
pub number-row : (row s : ℕ) → 0 < s → row * s / s ≡ row
number-row row s some = let e : row * s + 0 ≡ row * s = omega arith in
    ap (λ n. n / s) (sym e) ∙ div-mul-add row s 0 some

-- ---- the states that match

-- the row of the last state that matches is the one before the unanchored start's, or the anchored start's
row-last : (start last : ℕ) → 1 < start
    → (last + 1 ≡ start → dfa_row_of starts.Both start true last + 3 ≡ 2 * start)
    × (last ≡ start + 1 → dfa_row_of starts.Both start true last + 1 ≡ 2 * start)
row-last start last past = (
  λ is. rows-anchored start last (λ low e. omega (arith, is, low, e, past)) (λ more up e. omega (arith, is, e))
      (λ more up e. omega (arith, is, up)),
  λ is. rows-anchored start last (λ low e. omega (arith, is, low, past)) (λ more up e. omega (arith, is, up))
      (λ more up e. omega (arith, is, e)),
)

-- a row is at most that of the last state that matches exactly where the state is at most that
pub row-le : (kind : StartKind) (start last : ℕ) (a : Bool) (i : ℕ) → 1 < start
    → (last + 1 ≡ start) ⊎ (last ≡ start + 1) → i ≢ 1 → i ≢ other_start start a
    → (dfa_row_of kind start a i ≤ dfa_row_of kind start true last) ↔ (i ≤ last)
row-le starts.Unanchored start last a i past is stands own = (λ h. h, λ h. h)
row-le starts.Anchored start last a i past is stands own = (λ h. h, λ h. h)
row-le starts.Both start last false i past is stands own =
    let r = row-last start last past in
    ⊎_elim
    (λ (before : last + 1 ≡ start).
    let at = r.0 before in
    rows-plain start i (λ low e. (λ h. omega (arith, low, before, past), λ h. omega (arith, e, low, at, past, stands)))
    (λ more up e. (λ h. omega (arith, e, at, h, before), λ h. omega (arith, e, at, h, before)))
    (λ more up e. (λ h. absurd (omega (arith, e, at, h, up)), λ h. absurd (omega (arith, h, up, before))))
    (omega (arith, past)))
    (λ (own_start : last ≡ start + 1).
    let at = r.1 own_start in
    rows-plain start i (λ low e. (λ h. omega (arith, low, own_start), λ h. omega (arith, e, low, at, past)))
    (λ more up e. (λ h. omega (arith, up, own_start), λ h. omega (arith, e, at, up)))
    (λ more up e. (λ h. absurd (omega (arith, e, at, h, up, own)), λ h. absurd (omega (arith, h, up, own, own_start))))
    (omega (arith, past)))
    is
row-le starts.Both start last true i past is stands own =
    let r = row-last start last past in
    ⊎_elim
    (λ (before : last + 1 ≡ start).
    let at = r.0 before in
    rows-anchored start i
    (λ low e. (λ h. omega (arith, low, before, past), λ h. omega (arith, e, low, at, past, stands)))
    (λ more up e. (λ h. omega (arith, up, before), λ h. omega (arith, e, at, up)))
    (λ more up e. (λ h. absurd (omega (arith, e, at, h, up, own)), λ h. absurd (omega (arith, h, up, before)))))
    (λ (own_start : last ≡ start + 1).
    let at = r.1 own_start in
    rows-anchored start i (λ low e. (λ h. omega (arith, low, own_start), λ h. omega (arith, e, low, at, past)))
    (λ more up e. (λ h. omega (arith, up, own_start), λ h. omega (arith, e, at, up)))
    (λ more up e. (λ h. omega (arith, e, at, h, own_start), λ h. omega (arith, e, at, h, own_start))))
    is

-- an even number and the odd one after it have the same half
half : (n r : ℕ) → r < 2 → (n * 2 + r) / 2 ≡ n
half n r lt = div-mul-add n 2 r lt

-- The list of a state up to the starts is found at its distance from state 2. With both start kinds the starts share a
-- list.
pub index-is : (kind : StartKind) (start : ℕ) (a : Bool) (i : ℕ) → 1 < start → 1 < i → i ≤ start + 1
    → i ≢ other_start start a → (list_index kind (dfa_row_of kind start a i) + 2 ≡ i)
    ⊎ ((list_index kind (dfa_row_of kind start a i) + 2 ≡ start) × (i ≡ start + 1))
index-is starts.Unanchored start a i past more up own = inl (omega (arith, more))
index-is starts.Anchored start a i past more up own = inl (omega (arith, more))
index-is starts.Both start false i past more up own =
    rows-plain start i
    (λ low e. absurd (omega (arith, low, more)))
    (λ _ before e.
    let is : dfa_row_of starts.Both start false i - 2 ≡ (i - 2) * 2 + 0 = omega (arith, e, more) in
    let h : (dfa_row_of starts.Both start false i - 2) / 2 ≡ i - 2 = ap (λ n. n / 2) is
    ∙ half (i - 2) 0 (omega arith) in
    inl (omega (arith, h, more)))
    (λ _ after e. absurd (omega (arith, after, up, own)))
    (omega (arith, past))
index-is starts.Both start true i past more up own =
    rows-anchored start i
    (λ low e. absurd (omega (arith, low, more)))
    (λ _ before e.
    let is : dfa_row_of starts.Both start true i - 2 ≡ (i - 2) * 2 + 1 = omega (arith, e, more) in
    let h : (dfa_row_of starts.Both start true i - 2) / 2 ≡ i - 2 = ap (λ n. n / 2) is ∙ half (i - 2) 1 (omega arith) in
    inl (omega (arith, h, more)))
    (λ _ after e.
    let last : i ≡ start + 1 = omega (arith, after, up, own) in
    let is : dfa_row_of starts.Both start true i - 2 ≡ (start - 2) * 2 + 1 = omega (arith, e, last, past) in
    let h : (dfa_row_of starts.Both start true i - 2) / 2 ≡ start - 2 = ap (λ n. n / 2) is
    ∙ half (start - 2) 1 (omega arith) in
    inr (omega (arith, h, past), last))

-- the row of the anchored start is the one after that of the unanchored one
pub row-starts : (kind : StartKind) (start : ℕ) → 1 < start
    → dfa_row_of kind start true (start + 1) ≡ dfa_row_of kind start false start + 1
row-starts starts.Unanchored start past = refl
row-starts starts.Anchored start past = refl
row-starts starts.Both start past =
    let a = row-up start start past (omega arith) in
    let b = row-anchored_after start (start + 1) (omega (arith, past)) (omega arith) in
    omega (arith, a, b, past)

-- if the starts don't match, the row after the last state that matches is the unanchored start's
pub row-before_starts : (kind : StartKind) (start last : ℕ) → 1 < start → last + 1 ≡ start
    → dfa_row_of kind start true last + 1 ≡ dfa_row_of kind start false start
row-before_starts starts.Unanchored start last past is = is
row-before_starts starts.Anchored start last past is = is
row-before_starts starts.Both start last past is =
    let a = row-up start start past (omega arith) in
    let b = (row-last start last past).0 is in
    omega (arith, a, b, past)
