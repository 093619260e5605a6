-- Classes packed four in a word: the bytes of the words, and that the first of them that is the wanted class gives the
-- transition.
use Rattle.std.proofs.Common.{◌≡◌, ◌≢◌, ℕ, zero, suc, ◌+◌, ◌*◌, ◌-◌, ◌<◌, ◌≤◌, List, [], ◌∷◌, ◌++◌, length, get_or, Some, refl, sym, ap, ◌∙◌, ⊎_elim, arith}
use Rattle.std.specs.Prelude.{◌==◌, replicate}
use Rattle.std.specs.Int.{w32, to_le_bytes}
use Rattle.std.proofs.lemmas.Bool.{eq-eqb, ne_eqb, cases_lt, cond-true, cond-false}
use Rattle.std.proofs.lemmas.List.{get_or-replicate, get_or_append_left}
use Rattle.std.proofs.lemmas.Nat.{le_bytes_4}
use Rattle.ac_tables.specs.Contiguous.Words.{next_by, word_of, packed, classes_of, nexts_of}
use Rattle.ac_tables.specs.Contiguous.WordReads.{IsFirstPlace}
use Rattle.std.specs.List.{flat_map}

-- ---- the bytes of one word

four-small : (a b c d : ℕ) → a < 256 → b < 256 → c < 256 → d < 256 → (i : ℕ) → get_or (a ∷ b ∷ c ∷ d ∷ []) i 0 < 256
four-small a b c d p q r s zero = p
four-small a b c d p q r s (suc zero) = q
four-small a b c d p q r s (suc (suc zero)) = r
four-small a b c d p q r s (suc (suc (suc zero))) = s
four-small a b c d p q r s (suc (suc (suc (suc i)))) = omega arith

-- a word's bytes are the classes that were packed into it
pub bytes-word : (a b c d : ℕ) → a < 256 → b < 256 → c < 256 → d < 256
    → to_le_bytes w32 (word_of a b c d) ≡ a ∷ b ∷ c ∷ d ∷ []
bytes-word a b c d p q r s =
    le_bytes_4 (a ∷ b ∷ c ∷ d ∷ []) (word_of a b c d) refl (four-small a b c d p q r s) (omega arith)

-- ---- the bytes of all words

-- the last class, with which the last word is filled
abbrev pub last_of : List ℕ → ℕ
last_of [] = 0
last_of (a ∷ []) = a
last_of (a ∷ b ∷ cs) = last_of (b ∷ cs)

-- each class is a byte
abbrev pub AreBytes : List ℕ → Type 0
AreBytes cs = (i : ℕ) → i < length cs → get_or cs i 0 < 256

-- The bytes of packed classes are the classes, and then the last class as often as is needed to fill the last word.
pub unpack-packed : (cs : List ℕ) → AreBytes cs
    → (more : ℕ) × (flat_map (to_le_bytes w32) (packed cs) ≡ cs ++ replicate more (last_of cs))
    × (length cs + more ≡ 4 * length (packed cs)) × (more < 4)
unpack-packed [] small = (0, refl, omega arith, omega arith)
unpack-packed (a ∷ []) small =
    let p = small 0 (omega arith) in
    (3, ap (λ xs. xs ++ []) (bytes-word a a a a p p p p), omega arith, omega arith)
unpack-packed (a ∷ b ∷ []) small =
    let p = small 0 (omega arith) in
    let q = small 1 (omega arith) in
    (2, ap (λ xs. xs ++ []) (bytes-word a b b b p q q q), omega arith, omega arith)
unpack-packed (a ∷ b ∷ c ∷ []) small =
    let p = small 0 (omega arith) in
    let q = small 1 (omega arith) in
    let r = small 2 (omega arith) in
    (1, ap (λ xs. xs ++ []) (bytes-word a b c c p q r r), omega arith, omega arith)
unpack-packed (a ∷ b ∷ c ∷ d ∷ []) small =
    let p = small 0 (omega arith) in
    let q = small 1 (omega arith) in
    let r = small 2 (omega arith) in
    let s = small 3 (omega arith) in
    (0, ap (λ xs. xs ++ []) (bytes-word a b c d p q r s), omega arith, omega arith)
unpack-packed (a ∷ b ∷ c ∷ d ∷ e ∷ rest) small =
    let p = small 0 (omega arith) in
    let q = small 1 (omega arith) in
    let r = small 2 (omega arith) in
    let s = small 3 (omega arith) in
    let more = unpack-packed (e ∷ rest) (λ i within. small (suc (suc (suc (suc i)))) (omega arith)) in
    let len = more.2 in (
      more.0,
      ap (λ xs. xs ++ flat_map (to_le_bytes w32) (packed (e ∷ rest))) (bytes-word a b c d p q r s)
          ∙ ap (λ xs. a ∷ b ∷ c ∷ d ∷ xs) more.1,
      omega (arith, len),
      more.3,
    )

-- ---- the transition of a class

-- the transition of the first class that is the wanted one
pub first-hit : (edges : List (ℕ × ℕ)) (wanted more i : ℕ) → i < length edges + more
    → get_or (classes_of edges ++ replicate more (last_of (classes_of edges))) i 0 ≡ wanted
    → ((h : ℕ) → h < i → get_or (classes_of edges ++ replicate more (last_of (classes_of edges))) h 0 ≢ wanted)
    → 0 < length edges → (i < length edges) × (next_by edges wanted ≡ get_or (nexts_of edges) i 0)
first-hit [] wanted more i within hit before some = absurd (omega (arith, some))
first-hit (edge ∷ edges) wanted more zero within hit before some =
    (omega arith, cond-true (edge.0 == wanted) edge.1 (next_by edges wanted) (eq-eqb edge.0 wanted hit))
first-hit (edge ∷ []) wanted zero (suc i) within hit before some = absurd (omega (arith, within))
first-hit (edge ∷ []) wanted (suc more) (suc i) within hit before some =
    let fill : get_or (replicate (suc more) edge.0) i 0 ≡ edge.0 =
    get_or-replicate (suc more) i edge.0 0 (omega (arith, within)) in
    absurd (before 0 (omega arith) (sym fill ∙ hit))
first-hit (edge ∷ other ∷ edges) wanted more (suc i) within hit before some =
    let rest = first-hit (other ∷ edges) wanted more i (omega (arith, within)) hit
    (λ h lt. before (suc h) (omega (arith, lt))) (omega arith) in
    let first = before 0 (omega arith) in (
      omega (arith, rest.0),
      cond-false (edge.0 == wanted) edge.1 (next_by (other ∷ edges) wanted) (ne_eqb edge.0 wanted first) ∙ rest.1,
    )

-- if no packed byte is the wanted class, no transition has it
pub no-hit : (edges : List (ℕ × ℕ)) (wanted : ℕ) → ((h : ℕ) → h < length edges → get_or (classes_of edges) h 0 ≢ wanted)
    → next_by edges wanted ≡ 1
no-hit [] wanted none = refl
no-hit (edge ∷ edges) wanted none =
    cond-false (edge.0 == wanted) edge.1 (next_by edges wanted) (ne_eqb edge.0 wanted (none 0 (omega arith)))
    ∙ no-hit edges wanted (λ h lt. none (suc h) (omega (arith, lt)))

-- ---- the place of a byte in its word

-- words have four bytes each
pub unpack-long : (words : List ℕ) → length (flat_map (to_le_bytes w32) words) ≡ 4 * length words
unpack-long [] = refl
unpack-long (w ∷ words) = let rest = unpack-long words in omega (arith, rest)

-- the bytes of a word stand at four times its place
pub unpack-at : (words : List ℕ) (j k : ℕ) → j < length words → k < 4
    → get_or (flat_map (to_le_bytes w32) words) (4 * j + k) 0 ≡ get_or (to_le_bytes w32 (get_or words j 0)) k 0
unpack-at [] j k within small = absurd (omega (arith, within))
unpack-at (w ∷ words) zero k within small =
    let e : 4 * 0 + k ≡ k = omega arith in
    ap (λ n. get_or (flat_map (to_le_bytes w32) (w ∷ words)) n 0) e
    ∙ get_or_append_left (to_le_bytes w32 w) (flat_map (to_le_bytes w32) words) 0 k small
unpack-at (w ∷ words) (suc j) k within small =
    let e : 4 * suc j + k ≡ suc (suc (suc (suc (4 * j + k)))) = omega arith in
    ap (λ n. get_or (flat_map (to_le_bytes w32) (w ∷ words)) n 0) e ∙ unpack-at words j k (omega (arith, within)) small

-- ---- the search

-- a place among all bytes is a place in some word
place-parts : (h j : ℕ) → 4 * j ≤ h → (k : ℕ) × (h ≡ 4 * j + k)
place-parts h j le = (h - 4 * j, omega (arith, le))

-- A search of the bytes of words, one word after another: it stands at a word, and no byte before it is the wanted one.
module _ (words : List ℕ) (wanted j : ℕ) (bytes : List ℕ) (here : bytes ≡ to_le_bytes w32 (get_or words j 0))
    (within : j < length words)
    (before : (h : ℕ) → h < 4 * j → get_or (flat_map (to_le_bytes w32) words) h 0 ≢ wanted) where
  -- if the first bytes of a word aren't the wanted one, no byte before them is
  pub none-before : (k : ℕ) → k ≤ 4 → ((h : ℕ) → h < k → get_or bytes h 0 ≢ wanted) → (h : ℕ) → h < 4 * j + k
      → get_or (flat_map (to_le_bytes w32) words) h 0 ≢ wanted
  none-before k small none h lt =
      ⊎_elim
      (λ (low : h < 4 * j). before h low)
      (λ (high : 4 * j ≤ h).
      let at = place-parts h j high in
      let same = at.1 in
      let less : at.0 < k = omega (arith, lt, same) in
      λ e. none at.0 less
      (ap (λ xs. get_or xs at.0 0) here
      ∙ (sym (unpack-at words j at.0 within (omega (arith, less, small)))
      ∙ (ap (λ n. get_or (flat_map (to_le_bytes w32) words) n 0) (sym same) ∙ e))))
      (cases_lt h (4 * j))

  -- if the next byte of the word is the wanted one, it is the first of all
  pub first-there : (k place : ℕ) → k < 4 → place ≡ 4 * j + k → ((h : ℕ) → h < k → get_or bytes h 0 ≢ wanted)
      → get_or bytes k 0 ≡ wanted → IsFirstPlace (flat_map (to_le_bytes w32) words) wanted (Some place)
  first-there k place small is none hit =
      let long = unpack-long words in (
        omega (arith, long, within, small, is),
        ap (λ n. get_or (flat_map (to_le_bytes w32) words) n 0) is
            ∙ (unpack-at words j k within small ∙ (ap (λ xs. get_or xs k 0) (sym here) ∙ hit)),
        λ h lt. none-before k (omega (arith, small)) none h (omega (arith, lt, is)),
      )
