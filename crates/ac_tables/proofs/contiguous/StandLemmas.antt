-- The words of each state stand at its place, and the places rise.
use Rattle.std.proofs.Common.{◌≡◌, ◌≢◌, ℕ, zero, suc, ◌+◌, ◌-◌, ◌<◌, ◌≤◌, List, [], ◌++◌, length, take, drop, refl, sym, ap, subst, ◌∙◌, ⊎_elim, arith, append_assoc, length-append}
use Rattle.std.specs.Prelude.{◌==◌, nat_lt}
use Rattle.std.proofs.lemmas.Bool.{cases_lt, cases_eq, cond-true, cond-false, eq-eqb}
use Rattle.std.proofs.lemmas.List.{append-nil, length-map, drop_at, take_at}
use Rattle.ac_input.specs.Alphabet.{alphabet_len}
use Rattle.ac_noncontiguous.specs.declared.nfa.NFA.{NFA}
use Rattle.ac_noncontiguous.specs.Nfa.ReadCalls.{depth_in, edges_in}
use Rattle.ac_noncontiguous.specs.Nfa.Reads.{matches_at}
use Rattle.ac_tables.specs.Contiguous.Words.{word_count, words_of, AreWordsAt}
use Rattle.ac_tables.specs.Contiguous.Table.{placed_edge, parts_of, len_at, len_before, place_in, words_at, words_before}
use Rattle.ac_tables.proofs.contiguous.LenLemmas.{not-equal, words-long, place-after}

-- ---- how many words states have

-- a state has as many words as its length says
at-long : (nfa : NFA) (dense_depth : ℕ) (classes : List ℕ) (sid : ℕ)
    → length (words_at nfa dense_depth classes sid) ≡ len_at nfa dense_depth classes sid
at-long nfa dense_depth classes sid =
    let place = place_in nfa dense_depth classes in
    let own = parts_of nfa dense_depth classes place sid in
    let count = λ (edges : ℕ). word_count (alphabet_len classes) own.shallow edges (length own.matches) in
    ⊎_elim
    (λ (fail : sid ≡ 1).
    ap length (cond-true (sid == 1) [] (words_of (alphabet_len classes) own) (eq-eqb sid 1 fail))
    ∙ sym (cond-true (sid == 1) 0 (count (length (edges_in nfa sid))) (eq-eqb sid 1 fail)))
    (λ (stands : sid ≢ 1).
    ap length (cond-false (sid == 1) [] (words_of (alphabet_len classes) own) (not-equal sid 1 stands))
    ∙ (words-long (alphabet_len classes) own
    ∙ (ap count (length-map (edges_in nfa sid) (placed_edge classes place))
    ∙ sym (cond-false (sid == 1) 0 (count (length (edges_in nfa sid))) (not-equal sid 1 stands)))))
    (cases_eq sid 1)

-- the first n states have as many words as their lengths say
before-long : (nfa : NFA) (dense_depth : ℕ) (classes : List ℕ) (n : ℕ)
    → length (words_before nfa dense_depth classes n) ≡ len_before nfa dense_depth classes n
before-long nfa dense_depth classes zero = refl
before-long nfa dense_depth classes (suc n) =
    let inner = before-long nfa dense_depth classes n in
    let more = at-long nfa dense_depth classes n in
    let both = length-append (words_before nfa dense_depth classes n) (words_at nfa dense_depth classes n) in
    omega (arith, inner, more, both)

-- ---- where the words stand

-- the words of a state stand between those before it and some others
words-split : (nfa : NFA) (dense_depth : ℕ) (classes : List ℕ) (sid n : ℕ) → sid < n
    → (rest : List ℕ)
    × (words_before nfa dense_depth classes n
    ≡ words_before nfa dense_depth classes sid ++ (words_at nfa dense_depth classes sid ++ rest))
words-split nfa dense_depth classes sid zero lt = absurd (omega (arith, lt))
words-split nfa dense_depth classes sid (suc n) lt =
    ⊎_elim
    (λ (before : sid < n).
    let inner = words-split nfa dense_depth classes sid n before in
    let front = words_before nfa dense_depth classes sid in
    let own = words_at nfa dense_depth classes sid in
    let last = words_at nfa dense_depth classes n in
    let all : words_before nfa dense_depth classes n ++ last ≡ front ++ (own ++ (inner.0 ++ last)) =
    ap (λ xs. xs ++ last) inner.1
    ∙ (append_assoc front (own ++ inner.0) last ∙ ap (λ xs. front ++ xs) (append_assoc own inner.0 last)) in
    (inner.0 ++ last, all))
    (λ (after : n ≤ sid).
    let here : sid ≡ n = omega (arith, lt, after) in
    let front = words_before nfa dense_depth classes n in
    let own = words_at nfa dense_depth classes n in
    let all : front ++ own ≡ front ++ (own ++ []) = ap (λ xs. front ++ xs) (sym (append-nil own)) in (
      [],
      all ∙ ap (λ i. words_before nfa dense_depth classes i ++ (words_at nfa dense_depth classes i ++ []))
          (sym here),
    ))
    (cases_lt sid n)

-- the part between two others stands after the first
stands-between : (words front own rest : List ℕ) (at : ℕ) → words ≡ front ++ (own ++ rest) → length front ≡ at
    → AreWordsAt words at own
stands-between words front own rest at is long =
    let all = ap length is in
    let a = length-append front (own ++ rest) in
    let b = length-append own rest in
    let dropped : drop at words ≡ own ++ rest = ap (drop at) is ∙ drop_at front (own ++ rest) at long in
    (omega (arith, all, a, b, long), ap (take (length own)) dropped ∙ take_at own rest (length own) refl)

-- the words of a state stand at its place
pub stands : (nfa : NFA) (dense_depth : ℕ) (classes words : List ℕ) (sid n : ℕ)
    → words ≡ words_before nfa dense_depth classes n → sid < n → sid ≢ 1
    → AreWordsAt words (place_in nfa dense_depth classes sid)
    (words_of (alphabet_len classes) (parts_of nfa dense_depth classes (place_in nfa dense_depth classes) sid))
stands nfa dense_depth classes words sid n is lt not_fail =
    let split = words-split nfa dense_depth classes sid n lt in
    let own =
    words_of (alphabet_len classes) (parts_of nfa dense_depth classes (place_in nfa dense_depth classes) sid) in
    let same : words_at nfa dense_depth classes sid ≡ own = cond-false (sid == 1) [] own (not-equal sid 1 not_fail) in
    let place = place-after nfa dense_depth classes sid not_fail in
    subst (AreWordsAt words (place_in nfa dense_depth classes sid)) same
    (stands-between words (words_before nfa dense_depth classes sid) (words_at nfa dense_depth classes sid) split.0
    (place_in nfa dense_depth classes sid) (is ∙ split.1) (before-long nfa dense_depth classes sid ∙ sym place))

-- ---- the places rise

-- a state has two words or more
at-two : (nfa : NFA) (dense_depth : ℕ) (classes : List ℕ) (sid : ℕ) → sid ≢ 1 → 2 ≤ len_at nfa dense_depth classes sid
at-two nfa dense_depth classes sid not_fail =
    let count = word_count (alphabet_len classes) (nat_lt (depth_in nfa sid) dense_depth) (length (edges_in nfa sid))
    (length (matches_at nfa sid)) in
    let is : len_at nfa dense_depth classes sid ≡ count = cond-false (sid == 1) 0 count (not-equal sid 1 not_fail) in
    omega (arith, is)

-- adding states to the first i leaves no fewer words
before-more : (nfa : NFA) (dense_depth : ℕ) (classes : List ℕ) (i more : ℕ)
    → len_before nfa dense_depth classes i ≤ len_before nfa dense_depth classes (i + more)
before-more nfa dense_depth classes i zero = let e : i + 0 ≡ i = omega arith in
    let same = ap (len_before nfa dense_depth classes) e in omega (arith, same)
before-more nfa dense_depth classes i (suc more) =
    let e : i + suc more ≡ suc (i + more) = omega arith in
    let same = ap (len_before nfa dense_depth classes) e in
    let inner = before-more nfa dense_depth classes i more in
    omega (arith, same, inner)

-- the first j states have no fewer words than the first i, where i is at most j
before-up : (nfa : NFA) (dense_depth : ℕ) (classes : List ℕ) (i j : ℕ) → i ≤ j
    → len_before nfa dense_depth classes i ≤ len_before nfa dense_depth classes j
before-up nfa dense_depth classes i j le =
    let e : i + (j - i) ≡ j = omega (arith, le) in
    let same = ap (len_before nfa dense_depth classes) e in
    let up = before-more nfa dense_depth classes i (j - i) in
    omega (arith, same, up)

-- a later state has a greater place
pub place-rises : (nfa : NFA) (dense_depth : ℕ) (classes : List ℕ) (i j : ℕ) → i < j
    → place_in nfa dense_depth classes i < place_in nfa dense_depth classes j
place-rises nfa dense_depth classes i j lt =
    let B = len_before nfa dense_depth classes in
    let P = place_in nfa dense_depth classes in
    let other : (k : ℕ) → k ≢ 1 → P k ≡ B k = λ k ne. cond-false (k == 1) 1 (B k) (not-equal k 1 ne) in
    let fail : (k : ℕ) → k ≡ 1 → P k ≡ 1 = λ k e. cond-true (k == 1) 1 (B k) (eq-eqb k 1 e) in
    let two = at-two nfa dense_depth classes in
    ⊎_elim
    (λ (j1 : j ≡ 1).
    let i0 : i ≡ 0 = omega (arith, j1, lt) in
    let pi : P i ≡ 0 = ap P i0 in
    let pj = fail j j1 in
    omega (arith, pi, pj))
    (λ (jn : j ≢ 1).
    let pj = other j jn in
    ⊎_elim
    (λ (i1 : i ≡ 1).
    let pi = fail i i1 in
    let first : 2 ≤ B 1 = let t = two 0 (λ e. absurd (omega (arith, e))) in omega (arith, t) in
    let up = before-up nfa dense_depth classes 1 j (omega (arith, i1, lt)) in
    omega (arith, pi, pj, first, up))
    (λ (ni : i ≢ 1).
    let pi = other i ni in
    let more = two i ni in
    let up = before-up nfa dense_depth classes (suc i) j (omega (arith, lt)) in
    omega (arith, pi, pj, more, up))
    (cases_eq i 1))
    (cases_eq j 1)

-- no two states have one place
pub place-one : (nfa : NFA) (dense_depth : ℕ) (classes : List ℕ) (i j : ℕ)
    → place_in nfa dense_depth classes i ≡ place_in nfa dense_depth classes j → i ≡ j
place-one nfa dense_depth classes i j same =
    ⊎_elim
    (λ (lt : i < j). absurd (omega (arith, place-rises nfa dense_depth classes i j lt, same)))
    (λ (ge : j ≤ i).
    ⊎_elim
    (λ (gt : j < i). absurd (omega (arith, place-rises nfa dense_depth classes j i gt, same)))
    (λ (le : i ≤ j). omega (arith, ge, le))
    (cases_lt j i))
    (cases_lt i j)

-- a state with a greater place is a later state
pub place-later : (nfa : NFA) (dense_depth : ℕ) (classes : List ℕ) (i j : ℕ)
    → place_in nfa dense_depth classes i < place_in nfa dense_depth classes j → i < j
place-later nfa dense_depth classes i j lt =
    ⊎_elim
    (λ (before : i < j). before)
    (λ (after : j ≤ i).
    ⊎_elim
    (λ (gt : j < i). absurd (omega (arith, place-rises nfa dense_depth classes j i gt, lt)))
    (λ (le : i ≤ j). let e : i ≡ j = omega (arith, after, le) in let same = ap (place_in nfa dense_depth classes) e in
    absurd (omega (arith, same, lt)))
    (cases_lt j i))
    (cases_lt i j)
