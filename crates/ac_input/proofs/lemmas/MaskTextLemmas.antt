-- A masked text is a text: where patterns and haystack are UTF-8, an ASCII mask takes the place of whole characters.
use Rattle.std.proofs.Common.{◌≡◌, ◌⊎◌, inl, inr, ⊎_elim, ℕ, zero, suc, ◌+◌, ◌-◌, ◌<◌, ◌≤◌, Bool, true, false, cond, ◌||◌, List, [], ◌∷◌, ◌++◌, length, replicate, slice_index, Contains, IsCharBoundary, refl, sym, ap, ap₂, subst, ◌∙◌, arith, length-append, append_assoc}
use Rattle.std.specs.List.{list_any}
use Rattle.std.specs.Str.{IsUtf8, IsAscii}
use Rattle.std.proofs.lemmas.Bool.{and_parts, and_from, cases_lt}
use Rattle.std.proofs.lemmas.Bool.Decides.{nat_tests}
use Rattle.std.proofs.lemmas.List.{get_or_past, get_or_append_left, get_or-append_right, get_or-replicate, length-replicate}
use Rattle.std.proofs.lemmas.Str.{IsUtf8-append, IsUtf8-from_ascii}
use Rattle.std.proofs.str.Laws.{Shape, of1, of2, of3, of4}
use lib.Utf8.{scalar, scalars, encode, encodes}
use Rattle.ac_input.specs.Occurrence.{Search, Occurrence}
use Rattle.ac_input.specs.Computed.{occurrences}
use Rattle.ac_input.specs.Mask.{covers, masked_from, masked}
use Rattle.ac_input.specs.Laws.Utf8Laws.{IsTextSearch}
use Rattle.ac_input.proofs.lemmas.ContainsLemmas.{Contains-head, Contains-tail}
use Rattle.ac_input.proofs.lemmas.BestLemmas.{occurrences-occurs}
use Rattle.ac_input.proofs.lemmas.Utf8Lemmas.{shaped, text_occurs}

-- ---- where a character may be cut

-- each byte of a character but the first continues it
continues : {c : ℕ} (j : ℕ) → Shape c → 0 < j → j < length (encode c)
    → (128 ≤ slice_index (encode c) j) × (slice_index (encode c) j < 192)
continues j (of1 l e) some within = absurd (omega (arith, ap length e))
continues zero (of2 a b l u f s e) some within = absurd (omega arith)
continues (suc zero) (of2 a b l u f s e) some within = rw e f
continues (suc (suc j)) (of2 a b l u f s e) some within = absurd (omega (arith, ap length e))
continues zero (of3 a b d l u f g s e) some within = absurd (omega arith)
continues (suc zero) (of3 a b d l u f g s e) some within = rw e f
continues (suc (suc zero)) (of3 a b d l u f g s e) some within = rw e g
continues (suc (suc (suc j))) (of3 a b d l u f g s e) some within = absurd (omega (arith, ap length e))
continues zero (of4 a b d x l u f g k s e) some within = absurd (omega arith)
continues (suc zero) (of4 a b d x l u f g k s e) some within = rw e f
continues (suc (suc zero)) (of4 a b d x l u f g k s e) some within = rw e g
continues (suc (suc (suc zero))) (of4 a b d x l u f g k s e) some within = rw e k
continues (suc (suc (suc (suc j)))) (of4 a b d x l u f g k s e) some within = absurd (omega (arith, ap length e))

-- a place that isn't after the first of some bytes and before their end
abbrev pub IsOutside : ℕ → ℕ → ℕ → Type 0
IsOutside at bytes place = (place ≤ at) ⊎ (at + bytes ≤ place)

-- a place between characters isn't within one
boundary-outside : (front rest : List ℕ) {c : ℕ} (place : ℕ) → Shape c
    → IsCharBoundary (front ++ (encode c ++ rest)) place → IsOutside (length front) (length (encode c)) place
boundary-outside front rest {c} place is boundary =
    ⊎_elim
    (λ (after : length front < place).
    ⊎_elim
    (λ (before : place < length front + length (encode c)).
    let j : ℕ = place - length front in
    let inner = continues j is (omega arith) (omega arith) in
    let there : slice_index (front ++ (encode c ++ rest)) place ≡ slice_index (encode c) j =
    get_or-append_right front (encode c ++ rest) (length front) place 0 refl (omega arith)
    ∙ get_or_append_left (encode c) rest 0 j (omega arith) in
    let both = length-append front (encode c ++ rest) in
    let end = length-append (encode c) rest in
    let begins = boundary.1 (omega arith) (subst (λ b. 128 ≤ b) (sym there) inner.0) in
    let low = inner.1 in
    absurd (omega arith))
    (λ (past : length front + length (encode c) ≤ place). inr past)
    (cases_lt place (length front + length (encode c))))
    (λ (no_later : place ≤ length front). inl no_later)
    (cases_lt (length front) place)

-- ---- what is covered of a character

-- an occurrence that isn't cut by some bytes covers all of them or none
covers-alike : (o : Occurrence) (at bytes j : ℕ) → IsOutside at bytes o.start → IsOutside at bytes o.end → j < bytes
    → covers (at + j) o ≡ covers at o
covers-alike o at bytes j start end within = grind (arith, nat_tests)

-- no occurrence of a list is cut by some bytes
abbrev pub AreOutside : ℕ → ℕ → List Occurrence → Type 0
AreOutside at bytes os = (o : Occurrence) → Contains os o → IsOutside at bytes o.start × IsOutside at bytes o.end

-- where no occurrence is cut by some bytes, all of them are covered or none
any-alike : (at bytes j : ℕ) (os : List Occurrence) → AreOutside at bytes os → j < bytes
    → list_any (covers (at + j)) os ≡ list_any (covers at) os
any-alike at bytes j [] outside within = refl
any-alike at bytes j (o ∷ os) outside within =
    let here = outside o (Contains-head os) in
    ap₂ ◌||◌ (covers-alike o at bytes j here.0 here.1 within)
    (any-alike at bytes j os (λ q c. outside q (Contains-tail os c)) within)

-- bytes of which all are covered or none are masked or stay
masked_from-alike : (at : ℕ) (bs : List ℕ) (mask : ℕ) (os : List Occurrence) (b : Bool)
    → ((j : ℕ) → j < length bs → list_any (covers (at + j)) os ≡ b)
    → masked_from at bs mask os ≡ cond b (replicate (length bs) mask) bs
masked_from-alike at [] mask os true alike = refl
masked_from-alike at [] mask os false alike = refl
masked_from-alike at (x ∷ xs) mask os b alike =
    let first : list_any (covers at) os ≡ b = let n : at + 0 ≡ at = omega arith in
    subst (λ place. list_any (covers place) os ≡ b) n (alike 0 (omega arith)) in
    let rest = masked_from-alike (at + 1) xs mask os b
    (λ j within. let n : at + suc j ≡ at + 1 + j = omega arith in
    subst (λ place. list_any (covers place) os ≡ b) n (alike (suc j) (omega arith))) in
    by b first rest
  where
    by : (b : Bool) → list_any (covers at) os ≡ b
        → masked_from (at + 1) xs mask os ≡ cond b (replicate (length xs) mask) xs
        → masked_from at (x ∷ xs) mask os ≡ cond b (replicate (suc (length xs)) mask) (x ∷ xs)
    by true first rest = ap₂ ◌∷◌ (ap (λ t. cond t mask x) first) rest
    by false first rest = ap₂ ◌∷◌ (ap (λ t. cond t mask x) first) rest

-- two parts are masked one after the other
pub masked_from-append : (at : ℕ) (xs ys : List ℕ) (mask : ℕ) (os : List Occurrence)
    → masked_from at (xs ++ ys) mask os ≡ masked_from at xs mask os ++ masked_from (at + length xs) ys mask os
masked_from-append at [] ys mask os = let n : at ≡ at + 0 = omega arith in ap (λ place. masked_from place ys mask os) n
masked_from-append at (x ∷ xs) ys mask os =
    let n : at + 1 + length xs ≡ at + suc (length xs) = omega arith in
    ap (λ zs. cond (list_any (covers at) os) mask x ∷ zs)
    (masked_from-append (at + 1) xs ys mask os
    ∙ ap (λ place. masked_from (at + 1) xs mask os ++ masked_from place ys mask os) n)

-- ---- texts

-- a mask of some length is ASCII
ascii-mask : (mask n : ℕ) → mask < 128 → IsAscii (replicate n mask)
ascii-mask mask n low i =
    ⊎_elim
    (λ (within : i < n). subst (λ b. b < 128) (sym (get_or-replicate n i mask 0 within)) low)
    (λ (past : n ≤ i). let len = length-replicate n mask in
    subst (λ b. b < 128) (sym (get_or_past (replicate n mask) i 0 (omega arith))) (omega arith))
    (cases_lt i n)

-- a character that is masked as a whole or stays, before a text, makes a text
part-text : (mask c : ℕ) (b : Bool) {rest : List ℕ} → mask < 128 → scalar c ≡ true → IsUtf8 rest
    → IsUtf8 (cond b (replicate (length (encode c)) mask) (encode c) ++ rest)
part-text mask c true {rest} low is u =
    IsUtf8-append (replicate (length (encode c)) mask) rest
    (IsUtf8-from_ascii (replicate (length (encode c)) mask) (ascii-mask mask (length (encode c)) low)) u
part-text mask c false low is u =
    (c ∷ u.0, (and_from (scalar c) (scalars u.0) is u.1.0, ap (λ bs. encode c ++ bs) u.1.1))

-- where occurrences begin and end between characters, what is left of a text is masked to a text
rest-text : (mask : ℕ) (os : List Occurrence) (front cs : List ℕ) → mask < 128 → scalars cs ≡ true
    → ((o : Occurrence) → Contains os o
    → IsCharBoundary (front ++ encodes cs) o.start × IsCharBoundary (front ++ encodes cs) o.end)
    → IsUtf8 (masked_from (length front) (encodes cs) mask os)
rest-text mask os front [] low is boundary = ([], (refl, refl))
rest-text mask os front (c ∷ cs) low is boundary =
    let parts = and_parts (scalar c) (scalars cs) is in
    let e = encode c in
    let b = list_any (covers (length front)) os in
    let outside : AreOutside (length front) (length e) os = λ o h. let w = boundary o h in (
      boundary-outside front (encodes cs) o.start (shaped cs is) w.0,
      boundary-outside front (encodes cs) o.end (shaped cs is) w.1,
    ) in
    let first = masked_from-alike (length front) e mask os b
    (λ j within. any-alike (length front) (length e) j os outside within) in
    let more : IsUtf8 (masked_from (length (front ++ e)) (encodes cs) mask os) = rest-text mask os (front ++ e) cs low
    parts.1
    (λ o h. subst (λ x. IsCharBoundary x o.start × IsCharBoundary x o.end)
    (sym (append_assoc front e (encodes cs))) (boundary o h)) in
    let rest = subst (λ n. IsUtf8 (masked_from n (encodes cs) mask os)) (length-append front e) more in
    subst IsUtf8
    (ap (λ xs. xs ++ masked_from (length front + length e) (encodes cs) mask os) (sym first)
    ∙ sym (masked_from-append (length front) e (encodes cs) mask os))
    (part-text mask c b low parts.0 rest)

-- a masked text is a text
pub masked-text : (mask : ℕ) (s : Search) → IsTextSearch s → mask < 128 → IsUtf8 (masked mask s)
masked-text mask s is low =
    let u = is.haystack in
    subst (λ x. IsUtf8 (masked_from 0 x mask (occurrences s))) u.1.1
    (rest-text mask (occurrences s) [] u.0 low u.1.0
    (λ o h. subst (λ x. IsCharBoundary x o.start × IsCharBoundary x o.end) (sym u.1.1)
    (text_occurs s o is (occurrences-occurs s o h))))
