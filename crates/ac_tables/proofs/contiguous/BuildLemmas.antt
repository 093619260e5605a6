-- Reading the states of an automaton, and writing their words.
use Rattle.std.proofs.Common.{◌≡◌, ◌≢◌, ℕ, suc, ◌+◌, ◌<◌, ◌≤◌, Bool, map, List, [], ◌∷◌, ◌++◌, length, take, drop, get_or, slice_get, slice_index, Some, refl, sym, ap, subst, ◌∙◌, ⊎_elim, arith, length-append}
use Rattle.std.specs.Prelude.{◌==◌, nat_lt}
use Rattle.std.specs.List.{All}
use Rattle.std.proofs.lemmas.Bool.{cases_lt, cond-false}
use Rattle.std.proofs.lemmas.List.{drop_all, drop_more, take_more, map-append}
use Rattle.std.proofs.lemmas.List.Elements.{All-map, All-from_get_or}
use Rattle.std.proofs.lemmas.Option.{slice_get-get_or}
use Rattle.ac_input.specs.Alphabet.{class, alphabet_len, IsClasses}
use Rattle.ac_input.proofs.alphabet.AlphabetLemmas.{class-within}
use Rattle.ac_noncontiguous.specs.declared.nfa.NFA.{NFA}
use Rattle.ac_noncontiguous.specs.Nfa.Reads.{matches_at}
use Rattle.ac_noncontiguous.specs.Nfa.ReadCalls.{fail_in, depth_in, edges_in, AreEdges}
use Rattle.ac_tables.specs.Contiguous.Words.{StateParts, words_of}
use Rattle.ac_tables.specs.Contiguous.Table.{placed_edge, parts_of, place_in, words_at, words_before}
use Rattle.ac_tables.specs.Contiguous.Build.{ArePlacesIn, IsKnown, IsWritten}
use Rattle.ac_automaton.specs.Named.{nowhere}
use Rattle.ac_tables.proofs.contiguous.LenLemmas.{not-equal}

-- The first n transitions of a state were read, and the others are left.
pub record AreReadTo (classes : List ℕ) (place : ℕ → ℕ) (edges : List (ℕ × ℕ)) (n : ℕ)
    (done left : List (ℕ × ℕ)) : Type 0 where
  pub read : done ≡ map (placed_edge classes place) (take n edges)
  pub rest : left ≡ drop n edges
  pub within : n ≤ length edges

-- ---- the transitions, one after another

-- the first transition that is left is the next one of the state
pub left-first : (xs : List (ℕ × ℕ)) (n : ℕ) (x : ℕ × ℕ) (ys : List (ℕ × ℕ)) → x ∷ ys ≡ drop n xs
    → (n < length xs) × (slice_get xs n ≡ Some x) × (ys ≡ drop (n + 1) xs) × (take (n + 1) xs ≡ take n xs ++ x ∷ [])
left-first xs n x ys is =
    ⊎_elim
    (λ (lt : n < length xs).
    let both : x ∷ ys ≡ get_or xs n x ∷ drop (n + 1) xs = is ∙ drop_more xs n x lt in
    let first : x ≡ get_or xs n x = ap (λ zs. get_or zs 0 x) both in
    let rest : ys ≡ drop (n + 1) xs = ap (λ zs. drop 1 zs) both in (
      lt,
      slice_get-get_or xs n x lt ∙ ap Some (sym first),
      rest,
      take_more xs n x lt ∙ ap (λ y. take n xs ++ y ∷ []) (sym first),
    ))
    (λ (ge : length xs ≤ n). absurd (let long = ap length (is ∙ drop_all n xs ge) in omega (arith, long)))
    (cases_lt n (length xs))

-- one more transition is read
pub read-more : (classes : List ℕ) (place : ℕ → ℕ) (edges done old new : List (ℕ × ℕ)) (byte next own at : ℕ)
    → AreReadTo classes place edges (length done) done old → old ≡ (byte, next) ∷ new → own ≡ class classes byte
    → at ≡ place next → AreReadTo classes place edges (length (done ++ (own, at) ∷ [])) (done ++ (own, at) ∷ []) new
read-more classes place edges done old new byte next own at h is is_own is_at =
    let n = length done in
    let first = left-first edges n (byte, next) new (sym is ∙ h.rest) in
    let long : length (done ++ (own, at) ∷ []) ≡ n + 1 = length-append done ((own, at) ∷ []) in
    let one : (own, at) ≡ placed_edge classes place (byte, next) = ap (λ c. (c, at)) is_own
    ∙ ap (λ p. (class classes byte, p)) is_at in
    let both : done ++ (own, at) ∷ [] ≡ map (placed_edge classes place) (take (n + 1) edges) =
    ap (λ es. es ++ (own, at) ∷ []) h.read
    ∙ ap (λ e. map (placed_edge classes place) (take n edges) ++ e ∷ []) one
    ∙ sym (ap (map (placed_edge classes place)) first.3
    ∙ map-append (placed_edge classes place) (take n edges) ((byte, next) ∷ [])) in
    subst (λ k. AreReadTo classes place edges k (done ++ (own, at) ∷ []) new) (sym long)
    (record { read = both; rest = first.2; within = let lt = first.0 in omega (arith, lt) })

-- ---- the words of a state

-- two lists of places that agree on the next states give the same transitions
map-same : (classes : List ℕ) (f g : ℕ → ℕ) (edges : List (ℕ × ℕ))
    → ((k b n : ℕ) → slice_get edges k ≡ Some (b, n) → f n ≡ g n)
    → map (placed_edge classes f) edges ≡ map (placed_edge classes g) edges
map-same classes f g [] h = refl
map-same classes f g (edge ∷ edges) h =
    ap (λ p. (class classes edge.0, p) ∷ map (placed_edge classes f) edges) (h 0 edge.0 edge.1 refl)
    ∙ ap (λ es. placed_edge classes g edge ∷ es) (map-same classes f g edges (λ k b n is. h (suc k) b n is))

-- the parts of a state, one by one
abbrev parts_by : Bool → ℕ → List (ℕ × ℕ) → List ℕ → StateParts
parts_by shallow fail edges matches = record { shallow = shallow; fail = fail; edges = edges; matches = matches }

-- what was read of a state are its words
pub state-written : (nfa : NFA) (dense_depth sid alphabet fail : ℕ) (classes places before after matches : List ℕ)
    (edges : List (ℕ × ℕ)) (shallow : Bool) → ArePlacesIn nfa dense_depth classes places → sid ≢ 1 → IsKnown nfa sid
    → alphabet ≡ alphabet_len classes → shallow ≡ nat_lt (depth_in nfa sid) dense_depth
    → fail ≡ slice_index places (fail_in nfa sid)
    → edges ≡ map (placed_edge classes (slice_index places)) (edges_in nfa sid) → matches ≡ matches_at nfa sid
    → after ≡ before ++ words_of alphabet (parts_by shallow fail edges matches)
    → IsWritten nfa dense_depth classes sid before after
state-written nfa dense_depth sid alphabet fail classes places before after matches edges shallow h stands known
    is_alphabet is_shallow is_fail is_edges is_matches is =
    let place = place_in nfa dense_depth classes in
    let own_fail : fail ≡ place (fail_in nfa sid) = is_fail ∙ h.at (fail_in nfa sid) known.fails.within in
    let own_edges : edges ≡ map (placed_edge classes place) (edges_in nfa sid) = is_edges
    ∙ map-same classes (slice_index places) place (edges_in nfa sid)
    (λ k b n e. h.at n (known.edges.within k b n e).1) in
    let own = parts_of nfa dense_depth classes place sid in
    let same : parts_by shallow fail edges matches ≡ own =
    ap (λ b. parts_by b fail edges matches) is_shallow
    ∙ ap (λ f. parts_by (nat_lt (depth_in nfa sid) dense_depth) f edges matches) own_fail
    ∙ ap (λ es. parts_by (nat_lt (depth_in nfa sid) dense_depth) (place (fail_in nfa sid)) es matches) own_edges
    ∙ ap (λ ns. parts_by (nat_lt (depth_in nfa sid) dense_depth) (place (fail_in nfa sid))
    (map (placed_edge classes place) (edges_in nfa sid)) ns) is_matches in
    let words : words_of alphabet (parts_by shallow fail edges matches) ≡ words_at nfa dense_depth classes sid =
    ap (λ a. words_of a (parts_by shallow fail edges matches)) is_alphabet
    ∙ ap (words_of (alphabet_len classes)) same
    ∙ sym (cond-false (sid == 1) [] (words_of (alphabet_len classes) own) (not-equal sid 1 stands)) in
    record { words = is ∙ ap (λ ws. before ++ ws) words; known = λ _. known }

-- the class of each transition that was read is one of the alphabet
pub read-fits : (nfa : NFA) (sid alphabet : ℕ) (classes : List ℕ) (place : ℕ → ℕ) → IsClasses classes
    → AreEdges nfa sid (edges_in nfa sid) → alphabet ≡ alphabet_len classes
    → All (λ edge. edge.0 < alphabet) (map (placed_edge classes place) (edges_in nfa sid))
read-fits nfa sid alphabet classes place are edges is =
    All-map (λ (edge : ℕ × ℕ). edge.0 < alphabet) (placed_edge classes place) (edges_in nfa sid)
    (All-from_get_or (λ (edge : ℕ × ℕ). class classes edge.0 < alphabet) (edges_in nfa sid) (0, 0) (λ i lt.
    let edge = get_or (edges_in nfa sid) i (0, 0) in
    let small = (edges.within i edge.0 edge.1 (slice_get-get_or (edges_in nfa sid) i (0, 0) lt)).0 in
    let fits = class-within are small in
    omega (arith, fits, is)))

-- ---- all states

-- the words of one more state are written
pub words-more : (nfa : NFA) (dense_depth n : ℕ) (classes before after : List ℕ)
    → before ≡ words_before nfa dense_depth classes n → IsWritten nfa dense_depth classes n before after
    → after ≡ words_before nfa dense_depth classes (n + 1)
words-more nfa dense_depth n classes before after is h =
    let next : suc n ≡ n + 1 = omega arith in
    h.words ∙ (ap (λ ws. ws ++ words_at nfa dense_depth classes n) is ∙ ap (words_before nfa dense_depth classes) next)

-- what the read calls return is right for one more state
pub known-more : (nfa : NFA) (dense_depth n : ℕ) (classes before after : List ℕ)
    → ((sid : ℕ) → sid < n → sid ≢ nowhere → IsKnown nfa sid) → IsWritten nfa dense_depth classes n before after
    → ((sid : ℕ) → sid < (n + 1) → sid ≢ nowhere → IsKnown nfa sid)
known-more nfa dense_depth n classes before after all h sid lt stands =
    ⊎_elim
    (λ (old : sid < n). all sid old stands)
    (λ (new : n ≤ sid). let same : sid ≡ n = omega (arith, lt, new) in
    subst (λ k. IsKnown nfa k) (sym same) (h.known (λ e. stands (same ∙ e))))
    (cases_lt sid n)
