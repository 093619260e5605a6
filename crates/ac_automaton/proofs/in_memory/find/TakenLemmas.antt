-- The first entry of a list that counts in an anchored search, as a loop looks for it.
use Rattle.std.proofs.Common.{◌≡◌, ◌≢◌, ℕ, suc, ◌+◌, ◌-◌, ◌≤◌, ◌==◌, Bool, true, false, List, [], ◌∷◌, length, drop, Some, None, get_or, slice_get, sym, ap, subst, refl, ◌∙◌, arith, add-one, drop-cons}
use Rattle.std.specs.List.{filter}
use Rattle.std.specs.Option.{option_map}
use Rattle.std.proofs.lemmas.Bool.Decides.{nat_tests}
use Rattle.std.proofs.lemmas.List.{drop_all}
use Rattle.std.proofs.lemmas.Option.{slice_get_within, get_or_from_slice_get}
use Rattle.ac_input.specs.declared.search.Anchored.TheVariants.{No, Yes}
use Rattle.ac_input.specs.Dictionary.{Dictionary}
use Rattle.ac_input.specs.Occurrence.{Occurrence}
use Rattle.ac_input.proofs.lemmas.OrderLemmas.{occurrence_from_parts}
use Rattle.ac_input.specs.Tells.{ending_at}
use Rattle.ac_automaton.specs.InMemory.Find.Cursor.{counted, taken, IsFirstAt}

-- the rest of a list from an index on begins with the entry at that index
pub drop-at : (ns : List ℕ) (i n : ℕ) → slice_get ns i ≡ Some n → drop i ns ≡ n ∷ drop (i + 1) ns
drop-at ns i n is =
    let within = slice_get_within ns i n is in
    let here : get_or ns i 0 ≡ n = get_or_from_slice_get ns i n 0 is in
    let split = drop-cons ns i 0 within in
    rw (add-one) (split ∙ ap (λ x. x ∷ drop (suc i) ns) here)

-- no entry before an index counts: the first that counts is the first from that index on
abbrev pub NoneCountsBefore : Dictionary → ℕ → List ℕ → ℕ → Type 0
NoneCountsBefore m bytes ns i = slice_get (counted m true bytes ns) 0 ≡ slice_get (counted m true bytes (drop i ns)) 0

-- from the unanchored start every entry counts
pub first-counts : (m : Dictionary) (bytes : ℕ) (ns : List ℕ) → slice_get (counted m false bytes ns) 0 ≡ slice_get ns 0
first-counts m bytes [] = refl
first-counts m bytes (n ∷ ns) = refl

-- in an unanchored search the first entry of the list is the match
pub taken-free : (m : Dictionary) (at bytes : ℕ) (ns : List ℕ) {o : Occurrence} → IsFirstAt m at ns o
    → Some o ≡ taken m No at bytes ns
taken-free m at bytes ns is = is ∙ ap (option_map (ending_at m at)) (sym (first-counts m bytes ns))

-- the test of equal numbers is true
equal-test : {x y : ℕ} → x ≡ y → (x == y) ≡ true
equal-test h = grind (arith, nat_tests)

-- the test of different numbers is false
unequal-test : {x y : ℕ} → x ≢ y → (x == y) ≡ false
unequal-test h = grind (arith, nat_tests)

-- a first element that a test keeps is the first that it keeps
filter-first_kept : (p : ℕ → Bool) (x : ℕ) (xs : List ℕ) → p x ≡ true → slice_get (filter p (x ∷ xs)) 0 ≡ Some x
filter-first_kept p x xs h = rw h

-- a first element that a test drops is not kept
filter-first_dropped : (p : ℕ → Bool) (x : ℕ) (xs : List ℕ) → p x ≡ false → filter p (x ∷ xs) ≡ filter p xs
filter-first_dropped p x xs h = rw h

-- the first entry that counts is the match
pub taken-here : (m : Dictionary) {start end : ℕ} (ns : List ℕ) (i : ℕ) {n : ℕ} → start ≤ end
    → NoneCountsBefore m (end - start) ns i → slice_get ns i ≡ Some n → length (get_or m.patterns n []) ≡ end - start
    → Some (record { pattern = n; start = start; end = end }) ≡ taken m Yes end (end - start) ns
taken-here m {start} {end} ns i {n} ordered before is long =
    let first : slice_get (counted m true (end - start) (drop i ns)) 0 ≡ Some n =
    subst (λ l. slice_get (filter (λ k. length (get_or m.patterns k []) == (end - start)) l) 0 ≡ Some n)
    (sym (drop-at ns i n is))
    (filter-first_kept (λ k. length (get_or m.patterns k []) == (end - start)) n (drop (i + 1) ns) (equal-test long)) in
    let one : record { pattern = n; start = start; end = end } ≡ ending_at m end n =
    occurrence_from_parts refl (omega arith) refl in
    ap Some one ∙ sym (ap (option_map (ending_at m end)) (before ∙ first))

-- if an entry doesn't count, no entry before the next index counts
pub taken-next : (m : Dictionary) {bytes : ℕ} (ns : List ℕ) (i : ℕ) {n : ℕ} → NoneCountsBefore m bytes ns i
    → slice_get ns i ≡ Some n → length (get_or m.patterns n []) ≢ bytes → NoneCountsBefore m bytes ns (i + 1)
taken-next m {bytes} ns i {n} before is other =
    before
    ∙ ap (λ l. slice_get (filter (λ k. length (get_or m.patterns k []) == bytes) l) 0) (drop-at ns i n is)
    ∙ ap (λ l. slice_get l 0)
    (filter-first_dropped (λ k. length (get_or m.patterns k []) == bytes) n (drop (i + 1) ns) (unequal-test other))

-- where no entry counts, there is no match
pub taken-none : (m : Dictionary) (at bytes : ℕ) (ns : List ℕ) (i : ℕ) → NoneCountsBefore m bytes ns i → length ns ≤ i
    → None ≡ taken m Yes at bytes ns
taken-none m at bytes ns i before past =
    let none : slice_get (counted m true bytes (drop i ns)) 0 ≡ None =
    ap (λ l. slice_get (filter (λ k. length (get_or m.patterns k []) == bytes) l) 0) (drop_all i ns past) in
    sym (ap (option_map (ending_at m at)) (before ∙ none))
