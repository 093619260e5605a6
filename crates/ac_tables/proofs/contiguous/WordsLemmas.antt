-- Writing the words of a state, one after another.
use Rattle.std.proofs.Common.{◌≡◌, ◌≢◌, ℕ, zero, suc, ◌+◌, ◌-◌, ◌<◌, ◌≤◌, map, List, [], ◌∷◌, ◌++◌, length, drop, get_or, slice_set, refl, sym, ap, ◌∙◌, ⊎_elim, arith, append_assoc, length-drop, length-set, get_or-set_same, get_or-set_other}
use Rattle.std.specs.Prelude.{◌==◌, if◌then◌else◌, false}
use Rattle.std.specs.List.{range_with_len}
use Rattle.std.proofs.lemmas.Bool.{cases_eq, eq-eqb}
use Rattle.std.proofs.lemmas.List.{ext_get_or, set-append_right, get_or-map, length-map, drop-drop, drop_more, get_or_default}
use Rattle.std.proofs.lemmas.List.FromFn.{get_or-map-range_with_len, length-map-range_with_len, map-range_with_len_more}
use Rattle.ac_tables.specs.Contiguous.Words.{next_by, word_of, packed, near, classes_of}

-- ---- an entry for each class

-- one more entry that leads nowhere
pub blank-more : (old now : List ℕ) (n : ℕ) → now ≡ old ++ map (next_by []) (range_with_len 0 n)
    → now ++ 1 ∷ [] ≡ old ++ map (next_by []) (range_with_len 0 (n + 1))
blank-more old now n is =
    ap (λ xs. xs ++ 1 ∷ []) is
    ∙ append_assoc old (map (next_by []) (range_with_len 0 n)) (1 ∷ [])
    ∙ ap (λ xs. old ++ xs) (sym (map-range_with_len_more (next_by []) 0 n n (omega arith)))

-- the entry of one more transition is set
row-entry : (class next : ℕ) (edges : List (ℕ × ℕ)) (n : ℕ) → class < n
    → slice_set (map (next_by edges) (range_with_len 0 n)) class next
    ≡ map (next_by ((class, next) ∷ edges)) (range_with_len 0 n)
row-entry class next edges n within =
    let old = map (next_by edges) (range_with_len 0 n) in
    let new = map (next_by ((class, next) ∷ edges)) (range_with_len 0 n) in
    let long = length-map-range_with_len (next_by edges) 0 n in
    let long_new = length-map-range_with_len (next_by ((class, next) ∷ edges)) 0 n in
    ext_get_or 0 (slice_set old class next) new (length-set old class next ∙ (long ∙ sym long_new)) (λ i lt.
    let small : i < n = omega (arith, lt, long, length-set old class next) in
    let read = get_or-map-range_with_len (next_by ((class, next) ∷ edges)) 0 n i i 0 small (omega arith) in
    ⊎_elim
    (λ (here : class ≡ i).
    let this : get_or (slice_set old class next) i 0 ≡ next = ap (λ k. get_or (slice_set old class next) k 0) (sym here)
    ∙ get_or-set_same old class next 0 (omega (arith, long, within)) in
    this ∙ sym (read ∙ ap (λ t. if t then next else next_by edges i) (eq-eqb class i here)))
    (λ (there : class ≢ i).
    let other = get_or-set_other old class i next 0 (λ e. there (sym e)) in
    other ∙ (get_or-map-range_with_len (next_by edges) 0 n i i 0 small (omega arith)
    ∙ sym (read ∙ ap (λ t. if t then next else next_by edges i) (ne-eqb class i there))))
    (cases_eq class i))
  where
    ne-eqb : (a b : ℕ) → a ≢ b → (a == b) ≡ false
    ne-eqb a b ne = grind arith

-- the entry of one more transition is written into the words
row-more : (front words : List ℕ) (class next at n : ℕ) (edges : List (ℕ × ℕ)) → class < n → at ≡ length front + class
    → words ≡ front ++ map (next_by edges) (range_with_len 0 n)
    → slice_set words at next ≡ front ++ map (next_by ((class, next) ∷ edges)) (range_with_len 0 n)
row-more front words class next at n edges within is_at is =
    let row = map (next_by edges) (range_with_len 0 n) in
    let place : at - length front ≡ class = omega (arith, is_at) in
    ap (λ xs. slice_set xs at next) is
    ∙ set-append_right front row (length front) at next refl (omega (arith, is_at))
    ∙ ap (λ k. front ++ slice_set row k next) place
    ∙ ap (λ xs. front ++ xs) (row-entry class next edges n within)

-- the entry of the transition before those that are written is written
pub row-back : (front words : List ℕ) (edges : List (ℕ × ℕ)) (j k at next n : ℕ) (d e : ℕ × ℕ) → j + 1 ≡ k
    → j < length edges → (get_or edges j d).0 < n → at ≡ length front + (get_or edges j d).0
    → next ≡ (get_or edges j e).1 → words ≡ front ++ map (next_by (drop k edges)) (range_with_len 0 n)
    → slice_set words at next ≡ front ++ map (next_by (drop j edges)) (range_with_len 0 n)
row-back front words edges j k at next n d e is_k lt small is_at is_next is =
    let edge = get_or edges j d in
    let one : edge.1 ≡ next = ap (λ x. x.1) (get_or_default edges j d e lt) ∙ sym is_next in
    let rest : drop j edges ≡ edge ∷ drop k edges = drop_more edges j d lt ∙ ap (λ i. edge ∷ drop i edges) is_k in
    let whole : (edge.0, next) ∷ drop k edges ≡ drop j edges = ap (λ n. (edge.0, n) ∷ drop k edges) (sym one)
    ∙ sym rest in
    row-more front words edge.0 next at n (drop k edges) small is_at is
    ∙ ap (λ es. front ++ map (next_by es) (range_with_len 0 n)) whole

-- ---- packed classes

-- the number near a place: at the place within the list, and the last one past it
pub near-within : (cs : List ℕ) (k : ℕ) → k < length cs → near cs k ≡ get_or cs k 0
near-within [] k lt = absurd (omega (arith, lt))
near-within (c ∷ []) zero lt = refl
near-within (c ∷ []) (suc k) lt = absurd (omega (arith, lt))
near-within (c ∷ d ∷ cs) zero lt = refl
near-within (c ∷ d ∷ cs) (suc k) lt = near-within (d ∷ cs) k (omega (arith, lt))

pub near-past : (cs : List ℕ) (last k : ℕ) → length cs ≡ last + 1 → last ≤ k → near cs k ≡ get_or cs last 0
near-past [] last k long past = absurd (omega (arith, long))
near-past (c ∷ []) zero k long past = refl
near-past (c ∷ []) (suc last) k long past = absurd (omega (arith, long))
near-past (c ∷ d ∷ cs) zero k long past = absurd (omega (arith, long))
near-past (c ∷ d ∷ cs) (suc last) zero long past = absurd (omega (arith, past))
near-past (c ∷ d ∷ cs) (suc last) (suc k) long past =
    near-past (d ∷ cs) last k (omega (arith, long)) (omega (arith, past))

-- the class of a transition at a place, or of the last transition past them
pub class-within : (edges : List (ℕ × ℕ)) (at : ℕ) (d : ℕ × ℕ) → at < length edges
    → (get_or edges at d).0 ≡ near (classes_of edges) at
class-within edges at d lt =
    let long = length-map edges (λ (e : ℕ × ℕ). e.0) in
    sym (near-within (classes_of edges) at (omega (arith, long, lt)) ∙ get_or-map (λ e. e.0) edges at d 0 lt)

pub class-past : (edges : List (ℕ × ℕ)) (last at : ℕ) (d : ℕ × ℕ) → length edges ≡ last + 1 → last ≤ at
    → (get_or edges last d).0 ≡ near (classes_of edges) at
class-past edges last at d is past =
    let long = length-map edges (λ (e : ℕ × ℕ). e.0) in
    sym (near-past (classes_of edges) last at (long ∙ is) past
    ∙ get_or-map (λ e. e.0) edges last d 0 (omega (arith, is)))

-- a drop of the first classes shifts the places
near-drop : (cs : List ℕ) (at k : ℕ) → at < length cs → near (drop at cs) k ≡ near cs (at + k)
near-drop [] at k lt = absurd (omega (arith, lt))
near-drop (c ∷ cs) zero k lt = let e : k ≡ 0 + k = omega arith in ap (near (c ∷ cs)) e
near-drop (c ∷ []) (suc at) k lt = absurd (omega (arith, lt))
near-drop (c ∷ d ∷ cs) (suc at) k lt = let e : suc (at + k) ≡ suc at + k = omega arith in
    near-drop (d ∷ cs) at k (omega (arith, lt)) ∙ ap (near (c ∷ d ∷ cs)) e

-- packed classes are a first word of four, and then the rest
packed-front : (cs : List ℕ) → 0 < length cs
    → packed cs ≡ word_of (near cs 0) (near cs 1) (near cs 2) (near cs 3) ∷ packed (drop 4 cs)
packed-front [] some = absurd (omega (arith, some))
packed-front (a ∷ []) some = refl
packed-front (a ∷ b ∷ []) some = refl
packed-front (a ∷ b ∷ c ∷ []) some = refl
packed-front (a ∷ b ∷ c ∷ d ∷ []) some = refl
packed-front (a ∷ b ∷ c ∷ d ∷ e ∷ cs) some = refl

-- one more word of the packed classes is written
pub packed-more : (front words cs : List ℕ) (at word : ℕ) → at < length cs
    → word ≡ word_of (near cs at) (near cs (at + 1)) (near cs (at + 2)) (near cs (at + 3))
    → words ++ packed (drop at cs) ≡ front ++ packed cs
    → (words ++ word ∷ []) ++ packed (drop (at + 4) cs) ≡ front ++ packed cs
packed-more front words cs at word lt is before =
    let rest = drop at cs in
    let some : 0 < length rest = omega (arith, length-drop at cs, lt) in
    let n0 : near rest 0 ≡ near cs at = near-drop cs at 0 lt ∙ ap (near cs) (omega arith) in
    let first : packed rest ≡ word_of (near cs at) (near rest 1) (near rest 2) (near rest 3)
    ∷ packed (drop 4 rest) = packed-front rest some
    ∙ ap (λ n. word_of n (near rest 1) (near rest 2) (near rest 3) ∷ packed (drop 4 rest)) n0 in
    let second : packed rest ≡ word_of (near cs at) (near cs (at + 1)) (near rest 2) (near rest 3)
    ∷ packed (drop 4 rest) = first
    ∙ ap (λ n. word_of (near cs at) n (near rest 2) (near rest 3) ∷ packed (drop 4 rest)) (near-drop cs at 1 lt) in
    let third : packed rest ≡ word_of (near cs at) (near cs (at + 1)) (near cs (at + 2)) (near rest 3)
    ∷ packed (drop 4 rest) = second
    ∙ ap (λ n. word_of (near cs at) (near cs (at + 1)) n (near rest 3) ∷ packed (drop 4 rest)) (near-drop cs at 2 lt) in
    let fourth : packed rest ≡ word_of (near cs at) (near cs (at + 1)) (near cs (at + 2)) (near cs (at + 3))
    ∷ packed (drop 4 rest) = third
    ∙ ap (λ n. word_of (near cs at) (near cs (at + 1)) (near cs (at + 2)) n ∷ packed (drop 4 rest))
    (near-drop cs at 3 lt) in
    let split : packed rest ≡ word ∷ packed (drop (at + 4) cs) = fourth
    ∙ (ap (λ n. n ∷ packed (drop 4 rest)) (sym is)
    ∙ ap (λ ds. word ∷ packed ds) (drop-drop 4 at cs ∙ ap (λ k. drop k cs) (omega arith))) in
    append_assoc words (word ∷ []) (packed (drop (at + 4) cs)) ∙ (ap (λ xs. words ++ xs) (sym split) ∙ before)

-- ---- where the transitions lead
