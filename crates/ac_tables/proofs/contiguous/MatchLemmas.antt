-- The patterns of a state, read from its words.
use Rattle.std.proofs.Common.{◌≡◌, ◌≢◌, ℕ, ◌+◌, ◌/◌, ◌%◌, ◌-◌, ◌<◌, ◌≤◌, List, [], ◌∷◌, ◌++◌, length, take, drop, get_or, Some, refl, sym, ap, subst, ◌∙◌, arith, length-append}
use Rattle.std.specs.Prelude.{◌==◌, nat_le, slice_index, slice_get}
use Rattle.std.proofs.lemmas.Bool.{ne_eqb, le-leb, lt-leb, cond-true, cond-false}
use Rattle.std.proofs.lemmas.List.{length-map, get_or-take, get_or-drop, length-drop, length-take-le}
use Rattle.std.proofs.lemmas.Option.{slice_get_read}
use Rattle.std.proofs.lemmas.List.FromFn.{length-map-range_with_len}
use Rattle.ac_input.specs.Number.{greatest_number}
use Rattle.ac_tables.specs.Contiguous.Words.{StateParts, Form, Dense, One, Sparse, form_of, next_by, packed, classes_of, kind_word, transition_words, one_pattern, match_words, words_of, AreWordsAt, nexts_of}
use Rattle.ac_tables.specs.Contiguous.WordReads.{transitions_len, list_from}
use Rattle.ac_tables.proofs.contiguous.DecodeLemmas.{IsForm, IsOne, IsSparse, form-is, kind-one, kind-sparse, stands-item, stands-right, state-kind, state-matches}
use Rattle.ac_tables.proofs.contiguous.LenLemmas.{packed-long}

-- ---- where a state's patterns begin

-- the kind says how many words the transitions have
pub transitions-long : (alphabet : ℕ) (s : StateParts)
    → length (transition_words (form_of s) alphabet s.edges)
    ≡ transitions_len alphabet (kind_word (form_of s) s.edges % 256)
transitions-long alphabet s = by (form_of s) (form-is s)
  where
    by : (f : Form) → IsForm s f → length (transition_words f alphabet s.edges)
        ≡ transitions_len alphabet (kind_word f s.edges % 256)
    by Dense form = length-map-range_with_len (next_by s.edges) 0 alphabet
    by One (IsOne one none) =
        length-map s.edges (λ (edge : ℕ × ℕ). edge.1) ∙ (one ∙ sym (ap (transitions_len alphabet) (kind-one s.edges).0))
    by Sparse (IsSparse few) =
        let count = length-append (packed (classes_of s.edges)) (nexts_of s.edges) in
        let classes = packed-long (classes_of s.edges) in
        let a = length-map s.edges (λ (edge : ℕ × ℕ). edge.0) in
        let b = length-map s.edges (λ (edge : ℕ × ℕ). edge.1) in
        let n = length s.edges in
        let all : length (packed (classes_of s.edges) ++ nexts_of s.edges) ≡ n + (n + 3) / 4 =
        omega (arith, count, classes, a, b) in
        all
        ∙ sym (ap (transitions_len alphabet) (kind-sparse s.edges few)
        ∙ (cond-false (n == 255) alphabet _ (ne_eqb n 255 (λ e. omega (arith, few, e)))
        ∙ cond-false (n == 254) 1 _ (ne_eqb n 254 (λ e. omega (arith, few, e)))))

-- ---- the words of a list

-- the words of one pattern are read as that pattern
one-from : (words : List ℕ) (at n : ℕ) → AreWordsAt words at ((one_pattern + n) ∷ []) → list_from words at ≡ n ∷ []
one-from words at n h =
    let item = stands-item words ((one_pattern + n) ∷ []) at 0 at h (omega arith) (omega arith) in
    let is = item.1 in
    cond-true (nat_le one_pattern (slice_index words at)) _ _
    (le-leb one_pattern (slice_index words at) (omega (arith, is)))
    ∙ ap (λ k. k ∷ []) (let e : slice_index words at - one_pattern ≡ n = omega (arith, is) in e)

-- the words of several patterns are read as those patterns
many-from : (words : List ℕ) (at n o : ℕ) (ns : List ℕ) → length (n ∷ o ∷ ns) < one_pattern
    → AreWordsAt words at (length (n ∷ o ∷ ns) ∷ n ∷ o ∷ ns) → list_from words at ≡ n ∷ o ∷ ns
many-from words at n o ns few h =
    let item = stands-item words (length (n ∷ o ∷ ns) ∷ n ∷ o ∷ ns) at 0 at h (omega arith) (omega arith) in
    let is = item.1 in
    let rest = stands-right words (length (n ∷ o ∷ ns) ∷ []) (n ∷ o ∷ ns) at h in
    cond-false (nat_le one_pattern (slice_index words at)) _ _
    (lt-leb one_pattern (slice_index words at) (omega (arith, is, few)))
    ∙ (ap (λ k. take k (drop (at + 1) words)) is ∙ rest.1)

-- the words of some patterns are read as those patterns
pub list-read : (words : List ℕ) (at : ℕ) (ns : List ℕ) → ns ≢ [] → length ns ≤ greatest_number + 1
    → AreWordsAt words at (match_words ns) → list_from words at ≡ ns
list-read words at [] some few h = absurd (some refl)
list-read words at (n ∷ []) some few h = one-from words at n h
list-read words at (n ∷ o ∷ ns) some few h = many-from words at n o ns (omega (arith, few)) h

-- the patterns of a state that matches are read from its words
pub matches-read : (words : List ℕ) (at alphabet : ℕ) (s : StateParts) → AreWordsAt words at (words_of alphabet s)
    → s.matches ≢ [] → length s.matches ≤ greatest_number + 1
    → list_from words (at + 2 + transitions_len alphabet (slice_index words at % 256)) ≡ s.matches
matches-read words at alphabet s h some few =
    let kind = (state-kind words at alphabet s h).1 in
    let long : length (transition_words (form_of s) alphabet s.edges)
    ≡ transitions_len alphabet (slice_index words at % 256) = transitions-long alphabet s
    ∙ ap (λ w. transitions_len alphabet (w % 256)) (sym kind) in
    list-read words (at + 2 + transitions_len alphabet (slice_index words at % 256)) s.matches some few
    (subst (λ k. AreWordsAt words (at + 2 + k) (match_words s.matches)) long (state-matches words at alphabet s h))

-- ---- one pattern of a list

-- a list of one pattern holds its number
list-one : (words : List ℕ) (at : ℕ) → one_pattern ≤ slice_index words at
    → list_from words at ≡ (slice_index words at - one_pattern) ∷ []
list-one words at high =
    cond-true (nat_le one_pattern (slice_index words at)) _ _ (le-leb one_pattern (slice_index words at) high)

-- a list of several patterns holds their numbers
list-many : (words : List ℕ) (at : ℕ) → slice_index words at < one_pattern
    → list_from words at ≡ take (slice_index words at) (drop (at + 1) words)
list-many words at low =
    cond-false (nat_le one_pattern (slice_index words at)) _ _ (lt-leb one_pattern (slice_index words at) low)

-- how long the lists are
pub one-long : (words : List ℕ) (at : ℕ) → one_pattern ≤ slice_index words at → length (list_from words at) ≡ 1
one-long words at high = ap length (list-one words at high)

pub many-long : (words : List ℕ) (at : ℕ) → slice_index words at < one_pattern
    → at + 1 + slice_index words at ≤ length words → length (list_from words at) ≡ slice_index words at
many-long words at low within =
    let rest = length-drop (at + 1) words in
    ap length (list-many words at low)
    ∙ length-take-le (slice_index words at) (drop (at + 1) words) (omega (arith, rest, within))

-- the pattern of a list of one
pub one-at_index : (words : List ℕ) (at index x : ℕ) → one_pattern ≤ slice_index words at
    → index < length (list_from words at) → x ≡ slice_index words at - one_pattern
    → slice_get (list_from words at) index ≡ Some x
one-at_index words at index x high within is =
    let long = one-long words at high in
    let first : index ≡ 0 = omega (arith, long, within) in
    ap (slice_get (list_from words at)) first ∙ (ap (λ xs. slice_get xs 0) (list-one words at high) ∙ ap Some (sym is))

-- the pattern at an index of a list of several
pub many-at_index : (words : List ℕ) (at index x : ℕ) → slice_index words at < one_pattern
    → at + 1 + slice_index words at ≤ length words → index < length (list_from words at)
    → x ≡ get_or words (at + 1 + index) x → slice_get (list_from words at) index ≡ Some x
many-at_index words at index x low all within read =
    let long = many-long words at low all in
    let less : index < slice_index words at = omega (arith, long, within) in
    let e : get_or (list_from words at) index x ≡ x =
    ap (λ xs. get_or xs index x) (list-many words at low)
    ∙ (get_or-take (slice_index words at) (drop (at + 1) words) index x less
    ∙ (get_or-drop (at + 1) words index x ∙ sym read)) in
    slice_get_read (list_from words at) (length (list_from words at)) index x refl within (sym e)

-- the words of a state's patterns are within the words
pub list-placed : (words : List ℕ) (at alphabet : ℕ) (s : StateParts) → AreWordsAt words at (words_of alphabet s)
    → s.matches ≢ [] → (at < length words)
    × (at + 2 + transitions_len alphabet (slice_index words at % 256) < length words)
    × (slice_index words (at + 2 + transitions_len alphabet (slice_index words at % 256)) < one_pattern
    → at + 2 + transitions_len alphabet (slice_index words at % 256) + 1
    + slice_index words (at + 2 + transitions_len alphabet (slice_index words at % 256)) ≤ length words)
list-placed words at alphabet s h some =
    let kind = state-kind words at alphabet s h in
    let long : length (transition_words (form_of s) alphabet s.edges)
    ≡ transitions_len alphabet (slice_index words at % 256) = transitions-long alphabet s
    ∙ ap (λ w. transitions_len alphabet (w % 256)) (sym kind.1) in
    let list = by (at + 2 + transitions_len alphabet (slice_index words at % 256)) s.matches some
    (subst (λ k. AreWordsAt words (at + 2 + k) (match_words s.matches)) long (state-matches words at alphabet s h)) in
    (kind.0, list.0, list.1)
  where
    by : (place : ℕ) (ns : List ℕ) → ns ≢ [] → AreWordsAt words place (match_words ns)
        → (place < length words)
        × (slice_index words place < one_pattern → place + 1 + slice_index words place ≤ length words)
    by place [] full stands = absurd (full refl)
    by place (n ∷ []) full stands =
        let item = stands-item words ((one_pattern + n) ∷ []) place 0 place stands (omega arith) (omega arith) in
        let is = item.1 in
        (item.0, λ low. absurd (omega (arith, low, is)))
    by place (n ∷ o ∷ ns) full stands =
        let item =
        stands-item words (length (n ∷ o ∷ ns) ∷ n ∷ o ∷ ns) place 0 place stands (omega arith) (omega arith) in
        let is = item.1 in
        let all = stands.0 in
        (item.0, λ low. omega (arith, is, all))
