-- How many rising numbers are below a limit, and which rows the states between two places have.
use Rattle.std.proofs.Common.{◌≡◌, ◌≢◌, ◌↔◌, ℕ, ◌+◌, ◌-◌, ◌*◌, ◌<◌, ◌≤◌, Bool, false, IsTrue, List, length, ⊎_elim, sym, ap, subst, ◌∙◌, arith}
use Rattle.std.specs.Prelude.{◌/◌, ◌==◌, not, slice_index}
use Rattle.std.proofs.Math.Nat.{add-mul, mul-le-mul_right, le_of_mul-le-mul_right}
use Rattle.std.proofs.lemmas.Bool.{cases_lt, cases_eq, ne_eqb, false≢true}
use Rattle.ac_automaton.specs.declared.look.Between.{Between}
use Rattle.ac_automaton.specs.Look.{is_between}
use Rattle.ac_automaton.proofs.skip.ReadOnLemmas.{between}
use Rattle.ac_tables.specs.Contiguous.Cut.{Rise, AreBelow, AreNotBelow, IsCountBelow}
use Rattle.ac_tables.specs.Contiguous.Rows.{IsRow, place_at}
use Rattle.ac_tables.proofs.dfa.RowLemmas.{number-row}
use Rattle.ac_input.proofs.lemmas.ClassLemmas.{one-test}

-- ---- numbers that rise

-- if a number is below the limit, so are all before it
pub below-last : (ns : List ℕ) (limit last : ℕ) → Rise ns → last < length ns → slice_index ns last < limit
    → AreBelow ns limit (last + 1)
below-last ns limit last rise within low i lt =
    ⊎_elim
    (λ (here : i ≡ last). let same = ap (slice_index ns) here in omega (arith, same, low))
    (λ (other : i ≢ last). let less = rise i last (omega (arith, lt, other)) within in omega (arith, less, low))
    (cases_eq i last)

-- if a number isn't below the limit, none from it on is
pub not-below-first : (ns : List ℕ) (limit count : ℕ) → Rise ns → count < length ns → limit ≤ slice_index ns count
    → AreNotBelow ns limit count
not-below-first ns limit count rise within high i le less =
    ⊎_elim
    (λ (here : i ≡ count). let same = ap (slice_index ns) here in omega (arith, same, high))
    (λ (other : i ≢ count). let more = rise count i (omega (arith, le, other)) less in omega (arith, more, high))
    (cases_eq i count)

-- if the last of the first `end` numbers isn't past a number, none of the first `end` is
pub within-last : (ns : List ℕ) (last end place : ℕ) (before : Bool) → Rise ns → 0 < end → end ≤ length ns
    → slice_index ns (end - 1) ≡ place → (IsTrue before ↔ (last < place)) → IsTrue (not before)
    → AreBelow ns (last + 1) end
within-last ns last end place before rise some within at tells holds =
    let less : place < last + 1 =
    ⊎_elim (λ (past : last < place). absurd (false≢true (sym (ap not (tells.1 past)) ∙ holds)))
    (λ (le : place ≤ last). omega (arith, le)) (cases_lt last place) in
    let one : (end - 1) + 1 ≡ end = omega (arith, some) in
    subst (AreBelow ns (last + 1)) one
    (below-last ns (last + 1) (end - 1) rise (omega (arith, some, within)) (omega (arith, at, less)))

-- if the number after the first `end` is past a number, all from there on are
pub past-first : (ns : List ℕ) (last end place : ℕ) (before : Bool) → Rise ns → end < length ns
    → slice_index ns end ≡ place → (IsTrue before ↔ (last < place)) → IsTrue before → AreNotBelow ns (last + 1) end
past-first ns last end place before rise within at tells holds = let past = tells.0 holds in
    not-below-first ns (last + 1) end rise within (omega (arith, at, past))

-- if the first number is between two numbers, no number is below the lesser of them
pub cut-first : (ns : List ℕ) (to : Between) (place : ℕ) → Rise ns → 0 < length ns → slice_index ns 0 ≡ place
    → IsTrue (is_between to place) → IsCountBelow ns to.first 0
cut-first ns to place rise some at holds =
    let w = (between {two = to} {i = place}).0 holds in
    record {
      within = omega arith;
      below = λ i lt. absurd (omega (arith, lt));
      past = not-below-first ns to.first 0 rise some (omega (arith, at, w.0));
    }

-- if only the second number, and not the first, is between two numbers, only the first is below the lesser of them
pub cut-second : (ns : List ℕ) (to : Between) (place next : ℕ) → Rise ns → 1 < length ns → slice_index ns 0 ≡ place
    → slice_index ns 1 ≡ next → is_between to place ≡ false → IsTrue (is_between to next) → IsCountBelow ns to.first 1
cut-second ns to place next rise some at second fails holds =
    let w = (between {two = to} {i = next}).0 holds in
    let less = rise 0 1 (omega arith) some in
    let low : place < to.first = ⊎_elim (λ (below : place < to.first). below)
    (λ (ge : to.first ≤ place). absurd
    (false≢true (sym fails ∙ (between {two = to} {i = place}).1 (ge, omega (arith, less, at, second, w.1)))))
    (cases_lt place to.first) in
    record {
      within = omega (arith, some);
      below = below-last ns to.first 0 rise (omega (arith, some)) (omega (arith, at, low));
      past = not-below-first ns to.first 1 rise some (omega (arith, second, w.0));
    }

-- ---- rows

-- the whole of a row is within all rows
pub row-room : (rows i stride : ℕ) → i < rows → i * stride + stride ≤ rows * stride
row-room rows i stride less =
    let more = add-mul i 1 stride in
    let le : (i + 1) * stride ≤ rows * stride =
    mul-le-mul_right stride (let step : i + 1 ≤ rows = omega (arith, less) in step) in
    omega (arith, more, le)

-- row i begins at i strides, and its place is place i
pub row-is : (places : List ℕ) (stride i : ℕ) → 0 < stride → i < length places
    → IsRow places stride (i * stride) × (place_at places stride (i * stride) ≡ slice_index places i)
row-is places stride i some within =
    let same = number-row i stride some in (
      record { whole = ap (λ k. k * stride) same; within = omega (arith, same, within) },
      ap (slice_index places) same,
    )

-- two numbers that aren't different are equal
not-other : (a b : ℕ) (other : Bool) → other ≡ not (a == b) → other ≡ false → a ≡ b
not-other a b other is none =
    ⊎_elim
    (λ (same : a ≡ b). same)
    (λ (apart : a ≢ b). absurd (false≢true (sym none ∙ (is ∙ ap not (ne_eqb a b apart)))))
    (cases_eq a b)

-- the row of a place begins where its index says
pub row-at : (places : List ℕ) (stride row at found place : ℕ) (other : Bool) → 0 < stride → row < length places
    → slice_index places row ≡ found → at ≡ row * stride → other ≡ not (found == place) → other ≡ false
    → IsRow places stride at × (place_at places stride at ≡ place)
row-at places stride row at found place other some within read is tells none =
    let there = row-is places stride row some within in
    let same = not-other found place other tells none in
    (subst (IsRow places stride) (sym is) there.0, ap (place_at places stride) is ∙ (there.1 ∙ (read ∙ same)))

-- the rows from the first place that isn't below one number to the last that is no greater than another
pub rows-between : (places : List ℕ) (stride : ℕ) (to two : Between) (first end row : ℕ) → 0 < stride
    → IsCountBelow places to.first first → IsCountBelow places (to.last + 1) end → 0 < end → two.first ≡ first * stride
    → two.last ≡ (end - 1) * stride → IsRow places stride row
    → is_between two row ≡ is_between to (place_at places stride row)
rows-between places stride to two first end row some low high any is_first is_last one =
    let k : ℕ = row / stride in
    let whole = one.whole in
    let within = one.within in
    one-test (is_between two row) (is_between to (place_at places stride row))
    (λ yes.
    let w = (between {two = two} {i = row}).0 yes in
    let a : first * stride ≤ k * stride = omega (arith, w.0, is_first, whole) in
    let b : k * stride ≤ (end - 1) * stride = omega (arith, w.1, is_last, whole) in
    let from : first ≤ k = le_of_mul-le-mul_right a some in
    let up : k ≤ end - 1 = le_of_mul-le-mul_right b some in
    let past = low.past k from within in
    let below = high.below k (omega (arith, up, any)) in
    (between {two = to} {i = place_at places stride row}).1 (past, omega (arith, below)))
    (λ yes.
    let w = (between {two = to} {i = place_at places stride row}).0 yes in
    let from : first ≤ k = ⊎_elim (λ (less : k < first). let b = low.below k less in absurd (omega (arith, b, w.0)))
    (λ (ge : first ≤ k). ge) (cases_lt k first) in
    let up : k ≤ end - 1 = ⊎_elim (λ (less : k < end). omega (arith, less))
    (λ (ge : end ≤ k). let b = high.past k ge within in absurd (omega (arith, b, w.1))) (cases_lt k end) in
    let a : first * stride ≤ k * stride = mul-le-mul_right stride from in
    let b : k * stride ≤ (end - 1) * stride = mul-le-mul_right stride up in
    (between {two = two} {i = row}).1 (omega (arith, a, is_first, whole), omega (arith, b, is_last, whole)))
