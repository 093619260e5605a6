-- How many words a state has.
use Rattle.std.proofs.Common.{◌≡◌, ◌≢◌, ℕ, suc, ◌+◌, ◌<◌, ◌≤◌, ◌/◌, true, false, List, [], ◌∷◌, ◌++◌, length, refl, sym, ap, ◌∙◌, ⊎_elim, arith, length-append}
use Rattle.std.specs.Prelude.{◌||◌, ◌==◌, nat_lt, if◌then◌else◌}
use Rattle.std.proofs.lemmas.Bool.{cases_Bool, cases_lt, cond-true, cond-false}
use Rattle.std.proofs.lemmas.Bool.Decides.{nat_tests}
use Rattle.std.proofs.lemmas.List.{length-map, get_or_append_left, get_or_push}
use Rattle.std.proofs.lemmas.List.FromFn.{length-map-range_with_len}
use Rattle.std.proofs.Math.Nat.{add-div_left}
use Rattle.ac_input.specs.Number.{greatest_number}
use Rattle.ac_automaton.specs.Named.{nowhere}
use Rattle.ac_noncontiguous.specs.declared.nfa.NFA.{NFA}
use Rattle.ac_tables.specs.Contiguous.Table.{len_at, len_before, place_in}
use Rattle.ac_tables.specs.Contiguous.Build.{ArePlacesOf}
use Rattle.ac_tables.specs.Contiguous.Words.{StateParts, Form, Dense, One, Sparse, most_sparse, form_of, next_by, packed, classes_of, transition_words, match_words, word_count, words_of, is_single, nexts_of}

-- two different numbers aren't equal by the test
pub not-equal : (a b : ℕ) → a ≢ b → (a == b) ≡ false
not-equal a b ne = grind (arith, nat_tests)

-- ---- lists and classes

-- a list has a word for each pattern, and one more for the count if there are several
match-long : (ns : List ℕ) → length (match_words ns) ≡ (if nat_lt 1 (length ns) then length ns + 1 else length ns)
match-long [] = refl
match-long (n ∷ []) = refl
match-long (n ∷ o ∷ ns) =
    let many = cond-true (nat_lt 1 (length (n ∷ o ∷ ns))) (length (n ∷ o ∷ ns) + 1) (length (n ∷ o ∷ ns))
    (grind (arith, nat_tests)) in
    omega (arith, many)

-- packed classes take a word for every four
pub packed-long : (cs : List ℕ) → length (packed cs) ≡ (length cs + 3) / 4
packed-long [] = refl
packed-long (a ∷ []) = refl
packed-long (a ∷ b ∷ []) = refl
packed-long (a ∷ b ∷ c ∷ []) = refl
packed-long (a ∷ b ∷ c ∷ d ∷ rest) =
    let inner = packed-long rest in
    let n : length (a ∷ b ∷ c ∷ d ∷ rest) + 3 ≡ 4 + (length rest + 3) = omega arith in
    let more : (4 + (length rest + 3)) / 4 ≡ (length rest + 3) / 4 + 1 = add-div_left (length rest + 3) (omega arith) in
    let sum = ap (λ k. k / 4) n in
    omega (arith, inner, more, sum)

-- ---- by the form of a state

-- a state's words are its kind and failure, its transitions and its patterns
pub form-long : (alphabet : ℕ) (s : StateParts) (form : Form) → form_of s ≡ form
    → length (words_of alphabet s)
    ≡ 2 + length (transition_words form alphabet s.edges) + length (match_words s.matches)
form-long alphabet s form is =
    let own = length-append (transition_words (form_of s) alphabet s.edges) (match_words s.matches) in
    let same = ap (λ f. length (transition_words f alphabet s.edges)) is in
    omega (arith, own, same)

-- the transitions of a sparse state take a word for every four classes, and one for each next state
sparse-long : (alphabet : ℕ) (edges : List (ℕ × ℕ))
    → length (transition_words Sparse alphabet edges) ≡ (length edges + 3) / 4 + length edges
sparse-long alphabet edges =
    let both = length-append (packed (classes_of edges)) (nexts_of edges) in
    let classes = packed-long (classes_of edges) in
    let count = ap (λ k. (k + 3) / 4) (length-map edges (λ (e : ℕ × ℕ). e.0)) in
    let nexts = length-map edges (λ (e : ℕ × ℕ). e.1) in
    omega (arith, both, classes, count, nexts)

-- the number of a state's words is given by its transitions and patterns
pub words-long : (alphabet : ℕ) (s : StateParts)
    → length (words_of alphabet s) ≡ word_count alphabet s.shallow (length s.edges) (length s.matches)
words-long alphabet s =
    let list = match-long s.matches in
    let few = s.shallow || nat_lt most_sparse (length s.edges) in
    let sparse = (length s.edges + 3) / 4 + length s.edges in
    let rest = if is_single s then One else Sparse in
    ⊎_elim
    (λ (dense : few ≡ true).
    let long = form-long alphabet s Dense (cond-true few Dense rest dense) in
    let wide = length-map-range_with_len (next_by s.edges) 0 alphabet in
    let is = cond-true few alphabet (if is_single s then 1 else sparse) dense in
    omega (arith, long, wide, is, list))
    (λ (not_dense : few ≡ false).
    let is = cond-false few alphabet (if is_single s then 1 else sparse) not_dense in
    let form = cond-false few Dense rest not_dense in
    ⊎_elim
    (λ (single : is_single s ≡ true).
    let long = form-long alphabet s One (form ∙ cond-true (is_single s) One Sparse single) in
    let one : length s.edges ≡ 1 = grind (arith, nat_tests, single) in
    let next = length-map s.edges (λ (e : ℕ × ℕ). e.1) in
    let count = cond-true (is_single s) 1 sparse single in
    omega (arith, long, one, next, is, count, list))
    (λ (several : is_single s ≡ false).
    let long = form-long alphabet s Sparse (form ∙ cond-false (is_single s) One Sparse several) in
    let wide = sparse-long alphabet s.edges in
    let count = cond-false (is_single s) 1 sparse several in
    omega (arith, long, wide, is, count, list))
    (cases_Bool (is_single s)))
    (cases_Bool few)

-- ---- places

-- a state's place is after the words of the states before it, unless it is the fail state
pub place-after : (nfa : NFA) (dense_depth : ℕ) (classes : List ℕ) (sid : ℕ) → sid ≢ nowhere
    → place_in nfa dense_depth classes sid ≡ len_before nfa dense_depth classes sid
place-after nfa dense_depth classes sid stands =
    cond-false (sid == 1) 1 (len_before nfa dense_depth classes sid) (not-equal sid 1 stands)

-- one more state has a place
pub places-more : (nfa : NFA) (dense_depth : ℕ) (classes places : List ℕ) (n place before : ℕ) → place ≤ greatest_number
    → place ≡ (if n == 1 then 1 else before) → before ≡ len_before nfa dense_depth classes n
    → ArePlacesOf nfa dense_depth classes n places → ArePlacesOf nfa dense_depth classes (n + 1) (places ++ place ∷ [])
places-more nfa dense_depth classes places n place before fits is sum h =
    let here : place ≡ place_in nfa dense_depth classes n = is ∙ ap (λ b. if n == 1 then 1 else b) sum in
    let counted = h.counted in
    record {
      counted = length-append places (place ∷ []) ∙ omega (arith, counted);
      at = λ sid lt.
          ⊎_elim
          (λ (old : sid < n). get_or_append_left places (place ∷ []) 0 sid (omega (arith, old, counted)) ∙ h.at sid old)
          (λ (new : n ≤ sid). let same : sid ≡ n = omega (arith, lt, new) in
          get_or_push places place 0 sid (counted ∙ sym same)
          ∙ (here ∙ ap (place_in nfa dense_depth classes) (sym same)))
          (cases_lt sid n);
      fits = λ sid lt.
          ⊎_elim
          (λ (old : sid < n). h.fits sid old)
          (λ (new : n ≤ sid). let same : sid ≡ n = omega (arith, lt, new) in
          let at = ap (place_in nfa dense_depth classes) same in omega (arith, at, here, fits))
          (cases_lt sid n);
    }

-- the next state's place follows from the words of one more
pub before-more : (nfa : NFA) (dense_depth : ℕ) (classes : List ℕ) (n before len : ℕ)
    → before ≡ len_before nfa dense_depth classes n → len ≡ len_at nfa dense_depth classes n
    → before + len ≡ len_before nfa dense_depth classes (n + 1)
before-more nfa dense_depth classes n before len is more =
    let next : suc n ≡ n + 1 = omega arith in
    let sum : before + len ≡ len_before nfa dense_depth classes n + len_at nfa dense_depth classes n =
    omega (arith, is, more) in
    sum ∙ ap (len_before nfa dense_depth classes) next
