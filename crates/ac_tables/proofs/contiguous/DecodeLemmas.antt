-- The words of a state, read where they stand: its kind, its failure, where a class leads, and its patterns.
use Rattle.std.proofs.Common.{◌≡◌, ◌≢◌, ℕ, ◌+◌, ◌/◌, ◌%◌, ◌<◌, ◌≤◌, Bool, true, false, map, List, [], ◌∷◌, ◌++◌, length, take, drop, get_or, refl, sym, ap, subst, ◌∙◌, arith, length-append}
use Rattle.std.specs.Prelude.{◌==◌, ◌||◌, nat_lt, if◌then◌else◌}
use Rattle.std.specs.List.{range_with_len}
use Rattle.std.proofs.lemmas.Bool.{or_parts, and_parts, eqb-true, eq-eqb, ne_eqb, ltb-false, cond-true, cond-false}
use Rattle.std.proofs.lemmas.List.{get_or-take, get_or-drop, take-take, take_at, drop-drop, drop-take, drop_at}
use Rattle.std.proofs.lemmas.List.FromFn.{length-map-range_with_len, get_or-map-range_with_len}
use Rattle.ac_tables.specs.Contiguous.Words.{StateParts, Form, Dense, One, Sparse, most_sparse, form_of, next_by, packed, classes_of, first_class, kind_word, transition_words, match_words, words_of, AreWordsAt, is_single, nexts_of}

-- ---- a part of the words

-- where words stand at a place, the first of them stand there
pub stands-left : (words p q : List ℕ) (at : ℕ) → AreWordsAt words at (p ++ q) → AreWordsAt words at p
stands-left words p q at h =
    let long = length-append p q in (
      omega (arith, h.0, long),
      sym (take-take (length p) (length (p ++ q)) (drop at words) (omega (arith, long)))
          ∙ (ap (take (length p)) h.1 ∙ take_at p q (length p) refl),
    )

-- the words after the first ones stand right after them
pub stands-right : (words p q : List ℕ) (at : ℕ) → AreWordsAt words at (p ++ q) → AreWordsAt words (at + length p) q
stands-right words p q at h =
    let long = length-append p q in (
      omega (arith, h.0, long),
      ap (take (length q)) (sym (drop-drop (length p) at words))
          ∙ (sym (drop-take (length p) (length q) (drop at words))
          ∙ (ap (λ n. drop (length p) (take n (drop at words))) (sym long)
          ∙ (ap (drop (length p)) h.1 ∙ drop_at p q (length p) refl))),
    )

-- each word is found at its place
pub stands-item : (words part : List ℕ) (at k place : ℕ) → AreWordsAt words at part → k < length part → place ≡ at + k
    → (place < length words) × (get_or words place 0 ≡ get_or part k 0)
stands-item words part at k place h lt is = (
  omega (arith, h.0, lt, is),
  ap (λ n. get_or words n 0) is
      ∙ (sym (get_or-drop at words k 0)
      ∙ (sym (get_or-take (length part) (drop at words) k 0 lt) ∙ ap (λ xs. get_or xs k 0) h.1)),
)

-- ---- how a state is stored

-- a state has an entry for each class, or a single transition and no pattern, or else few transitions
pub data IsForm (s : StateParts) : Form → Type 0 where
  IsDense : IsForm s Dense
  IsOne : length s.edges ≡ 1 → s.matches ≡ [] → IsForm s One
  IsSparse : length s.edges ≤ most_sparse → IsForm s Sparse

nil-of : (xs : List ℕ) → (length xs == 0) ≡ true → xs ≡ []
nil-of [] e = refl
nil-of (x ∷ xs) e = absurd (let n = eqb-true (length (x ∷ xs)) 0 e in omega (arith, n))

pub form-is : (s : StateParts) → IsForm s (form_of s)
form-is s = by (s.shallow || nat_lt most_sparse (length s.edges)) refl (is_single s) refl
  where
    by : (dense : Bool) → (s.shallow || nat_lt most_sparse (length s.edges)) ≡ dense → (single : Bool)
        → is_single s ≡ single → IsForm s (if dense then Dense else if single then One else Sparse)
    by true e single f = IsDense
    by false e true f = let both = and_parts (length s.edges == 1) (length s.matches == 0) f in
        IsOne (eqb-true (length s.edges) 1 both.0) (nil-of s.matches both.1)
    by false e false f =
        IsSparse (ltb-false most_sparse (length s.edges) (or_parts s.shallow (nat_lt most_sparse (length s.edges)) e).1)

pub kind-one : (edges : List (ℕ × ℕ))
    → (kind_word One edges % 256 ≡ 254) × (kind_word One edges / 256 ≡ first_class edges)
kind-one edges = (omega arith, omega arith)

pub kind-sparse : (edges : List (ℕ × ℕ)) → length edges ≤ most_sparse → kind_word Sparse edges % 256 ≡ length edges
kind-sparse edges few = omega (arith, few)

-- the low eight bits of a state's first word give the form in which it is stored
pub form-dense : (s : StateParts) → kind_word (form_of s) s.edges % 256 ≡ 255 → form_of s ≡ Dense
form-dense s is = by (form_of s) (form-is s) is
  where
    by : (f : Form) → IsForm s f → kind_word f s.edges % 256 ≡ 255 → f ≡ Dense
    by Dense form e = refl
    by One form e = absurd (omega (arith, e))
    by Sparse (IsSparse few) e = absurd (omega (arith, few, e))

pub form-one : (s : StateParts) → kind_word (form_of s) s.edges % 256 ≡ 254
    → (form_of s ≡ One) × (length s.edges ≡ 1) × (s.matches ≡ [])
form-one s is = by (form_of s) (form-is s) is
  where
    by : (f : Form) → IsForm s f → kind_word f s.edges % 256 ≡ 254 → (f ≡ One) × (length s.edges ≡ 1) × (s.matches ≡ [])
    by Dense form e = absurd (omega (arith, e))
    by One (IsOne one none) e = (refl, one, none)
    by Sparse (IsSparse few) e = absurd (omega (arith, few, e))

pub form-sparse : (s : StateParts) → kind_word (form_of s) s.edges % 256 ≢ 255
    → kind_word (form_of s) s.edges % 256 ≢ 254
    → (form_of s ≡ Sparse) × (length s.edges ≤ most_sparse) × (kind_word (form_of s) s.edges % 256 ≡ length s.edges)
form-sparse s dense one = by (form_of s) (form-is s) dense one
  where
    by : (f : Form) → IsForm s f → kind_word f s.edges % 256 ≢ 255 → kind_word f s.edges % 256 ≢ 254
        → (f ≡ Sparse) × (length s.edges ≤ most_sparse) × (kind_word f s.edges % 256 ≡ length s.edges)
    by Dense form e g = absurd (e refl)
    by One form e g = absurd (g (omega arith))
    by Sparse (IsSparse few) e g = (refl, few, omega (arith, few))

-- ---- where a class leads

-- The words of a state stand at a place.
module _ (words : List ℕ) (at alphabet : ℕ) (s : StateParts) (h : AreWordsAt words at (words_of alphabet s)) where
  -- the first word is the kind
  pub state-kind : (at < length words) × (get_or words at 0 ≡ kind_word (form_of s) s.edges)
  state-kind = stands-item words (words_of alphabet s) at 0 at h (omega arith) (omega arith)

  pub state-fail : (at + 1 < length words) × (get_or words (at + 1) 0 ≡ s.fail)
  state-fail = stands-item words (words_of alphabet s) at 1 (at + 1) h (omega arith) refl

  -- the words after the first two are those of the transitions and the patterns
  state-rest : AreWordsAt words (at + 2) (transition_words (form_of s) alphabet s.edges ++ match_words s.matches)
  state-rest =
      stands-right words (kind_word (form_of s) s.edges ∷ s.fail ∷ [])
      (transition_words (form_of s) alphabet s.edges ++ match_words s.matches) at h

  pub state-transitions : AreWordsAt words (at + 2) (transition_words (form_of s) alphabet s.edges)
  state-transitions =
      stands-left words (transition_words (form_of s) alphabet s.edges) (match_words s.matches) (at + 2) state-rest

  pub state-matches : AreWordsAt words (at + 2 + length (transition_words (form_of s) alphabet s.edges))
      (match_words s.matches)
  state-matches =
      stands-right words (transition_words (form_of s) alphabet s.edges) (match_words s.matches) (at + 2) state-rest

  -- where a class leads from a state with an entry for each class
  pub dense-next : (c place : ℕ) → form_of s ≡ Dense → c < alphabet → place ≡ at + 2 + c
      → (place < length words) × (get_or words place 0 ≡ next_by s.edges c)
  dense-next c place is within there =
      let t : AreWordsAt words (at + 2) (map (next_by s.edges) (range_with_len 0 alphabet)) =
      subst (λ f. AreWordsAt words (at + 2) (transition_words f alphabet s.edges)) is state-transitions in
      let long = length-map-range_with_len (next_by s.edges) 0 alphabet in
      let item = stands-item words (map (next_by s.edges) (range_with_len 0 alphabet)) (at + 2) c place t
      (omega (arith, long, within)) there in
      (item.0, item.1 ∙ get_or-map-range_with_len (next_by s.edges) 0 alphabet c c 0 within (omega arith))

  -- where a class leads from a state with a single transition
  pub one-next : form_of s ≡ One → length s.edges ≡ 1
      → (at + 2 < length words) × ((c : ℕ) → first_class s.edges ≡ c → get_or words (at + 2) 0 ≡ next_by s.edges c)
      × ((c : ℕ) → first_class s.edges ≢ c → next_by s.edges c ≡ 1)
  one-next is one =
      by s.edges one (subst (λ f. AreWordsAt words (at + 2) (transition_words f alphabet s.edges)) is state-transitions)
    where
      by : (edges : List (ℕ × ℕ)) → length edges ≡ 1 → AreWordsAt words (at + 2) (nexts_of edges)
          → (at + 2 < length words) × ((c : ℕ) → first_class edges ≡ c → get_or words (at + 2) 0 ≡ next_by edges c)
          × ((c : ℕ) → first_class edges ≢ c → next_by edges c ≡ 1)
      by [] e t = absurd (omega (arith, e))
      by (edge ∷ []) e t =
          let item = stands-item words (edge.1 ∷ []) (at + 2) 0 (at + 2) t (omega arith) (omega arith) in (
            item.0,
            λ c hit. item.1 ∙ sym (cond-true (edge.0 == c) edge.1 1 (eq-eqb edge.0 c hit)),
            λ c other. cond-false (edge.0 == c) edge.1 1 (ne_eqb edge.0 c other),
          )
      by (edge ∷ more ∷ edges) e t = absurd (omega (arith, e))

  -- the packed classes of a state with few transitions
  pub sparse-classes : form_of s ≡ Sparse → AreWordsAt words (at + 2) (packed (classes_of s.edges))
  sparse-classes is =
      stands-left words (packed (classes_of s.edges)) (nexts_of s.edges) (at + 2)
      (subst (λ f. AreWordsAt words (at + 2) (transition_words f alphabet s.edges)) is state-transitions)

  -- the next states of a state with few transitions
  pub sparse-nexts : form_of s ≡ Sparse
      → AreWordsAt words (at + 2 + length (packed (classes_of s.edges))) (nexts_of s.edges)
  sparse-nexts is =
      stands-right words (packed (classes_of s.edges)) (nexts_of s.edges) (at + 2)
      (subst (λ f. AreWordsAt words (at + 2) (transition_words f alphabet s.edges)) is state-transitions)
