-- Occurrences of texts in a text begin and end between characters. Where a pattern has a character, the text has one of
-- equal length.
use Rattle.std.proofs.Common.{⊎_elim, ◌≡◌, ◌≢◌, ℕ, ◌+◌, ◌-◌, ◌<◌, ◌≤◌, true, List, [], ◌∷◌, ◌++◌, length, drop, get_or, slice_range, IsTrue, IsCharBoundary, Contains, refl, sym, ap, subst, ◌∙◌, arith, length-append, take-append-drop, drop-drop, drop_at, get_or-drop}
use Rattle.std.proofs.lemmas.Bool.{and_parts, false≢true}
use Rattle.std.proofs.lemmas.Bool.Decides.{nat_tests}
use Rattle.std.proofs.lemmas.List.{drop-append-le}
use Rattle.std.proofs.lemmas.List.Elements.{Contains-get_or}
use Rattle.std.proofs.lemmas.Option.{slice_get_within, get_or_from_slice_get}
use Rattle.std.proofs.lemmas.Str.{IsUtf8-drop, IsCharBoundary-start, IsCharBoundary-from_drop}
use Rattle.std.proofs.str.Laws.{Shape, of1, of2, of3, of4, shape, not_empty}
use Rattle.std.specs.Str.{IsUtf8}
use lib.Utf8.{scalar, scalars, encode, encodes, scalar_cases}
use Rattle.ac_input.specs.Same.{same, same_text}
use Rattle.ac_input.specs.Laws.Utf8Laws.{char_len, KeepsChars, TextOccursBetweenChars}
use Rattle.ac_input.proofs.lemmas.SameLemmas.{same-cases}
use Rattle.ac_input.proofs.lemmas.AlikeLemmas.{same_text-drop}
use Rattle.ac_input.proofs.lemmas.OrderLemmas.{same_text-length, slice_range-length}

-- ---- the first byte of a character

one : (a : ℕ) → a < 128 → char_len a ≡ 1
one a h = grind (arith, nat_tests)

two : (a : ℕ) → 192 ≤ a → a < 224 → char_len a ≡ 2
two a l h = grind (arith, nat_tests)

three : (a : ℕ) → 224 ≤ a → a < 240 → char_len a ≡ 3
three a l h = grind (arith, nat_tests)

four : (a : ℕ) → 240 ≤ a → char_len a ≡ 4
four a l = grind (arith, nat_tests)

-- the first byte of a character says how many bytes the character has
lead : {c : ℕ} (rest : List ℕ) → Shape c → char_len (get_or (encode c ++ rest) 0 0) ≡ length (encode c)
lead {c} rest (of1 l e) = rw e (one c l)
lead rest (of2 a b l u f s e) = rw e (two a l u)
lead rest (of3 a b d l u f g s e) = rw e (three a l u)
lead rest (of4 a b d x l u f g k s e) = rw e (four a l)

-- a byte that continues no character begins one
begins : {a : ℕ} → (128 ≤ a → 192 ≤ a) → char_len a ≢ 0
begins h = grind (arith, nat_tests)

begun : {a : ℕ} → char_len a ≢ 0 → 128 ≤ a → 192 ≤ a
begun h l = grind (arith, nat_tests)

-- ---- bytes that are the same

same-chars : (pairing : List ℕ) (a b : ℕ) → KeepsChars pairing → IsTrue (same pairing a b) → char_len a ≡ char_len b
same-chars pairing a b keeps h =
    ⊎_elim (ap char_len) (λ partner. sym (keeps a) ∙ ap char_len partner) (same-cases pairing h)

-- texts that are the same have the same first byte
same-first : (pairing xs ys : List ℕ) → IsTrue (same_text pairing xs ys) → 0 < length xs
    → IsTrue (same pairing (get_or xs 0 0) (get_or ys 0 0))
same-first pairing [] ys h some = absurd (omega arith)
same-first pairing (x ∷ xs) [] h some = absurd (false≢true h)
same-first pairing (x ∷ xs) (y ∷ ys) h some = (and_parts (same pairing x y) (same_text pairing xs ys) h).0

-- the first byte stays the first when more bytes follow
first-append : (xs ys : List ℕ) → 0 < length xs → get_or (xs ++ ys) 0 0 ≡ get_or xs 0 0
first-append [] ys some = absurd (omega arith)
first-append (x ∷ xs) ys some = refl

-- the first of some characters has the shape of one
pub shaped : {c : ℕ} (cs : List ℕ) → scalars (c ∷ cs) ≡ true → Shape c
shaped {c} cs p = shape c (scalar_cases c (and_parts (scalar c) (scalars cs) p).0)

-- ---- what follows a text that is the same as another

-- In a text, what follows a front that is the same as a text is a text.
after : (pairing : List ℕ) → KeepsChars pairing → (cs ds t : List ℕ) {rest : List ℕ} → scalars cs ≡ true
    → scalars ds ≡ true → IsTrue (same_text pairing (encodes cs) t) → encodes ds ≡ t ++ rest → IsUtf8 rest
after pairing keeps [] ds [] p q h e = (ds, (q, e))
after pairing keeps [] ds (y ∷ t) p q h e = absurd (false≢true h)
after pairing keeps (c ∷ cs) [] t {rest} p q h e =
    let some = not_empty c (shaped cs p) (encodes cs) in
    let long = same_text-length pairing (encode c ++ encodes cs) t h in
    let none = ap length e in
    absurd (omega (arith, length-append t rest))
after pairing keeps (c ∷ cs) (d ∷ ds) t {rest} p q h e =
    let some = not_empty c (shaped cs p) (encodes cs) in
    let long = same_text-length pairing (encode c ++ encodes cs) t h in
    let first : get_or t 0 0 ≡ get_or (encode d ++ encodes ds) 0 0 = sym (first-append t rest (omega arith))
    ∙ sym (ap (λ l. get_or l 0 0) e) in
    let alike : char_len (get_or (encode c ++ encodes cs) 0 0) ≡ char_len (get_or t 0 0) =
    same-chars pairing _ _ keeps (same-first pairing (encode c ++ encodes cs) t h some) in
    let n : length (encode c) ≡ length (encode d) = sym (lead (encodes cs) (shaped cs p)) ∙ alike ∙ ap char_len first
    ∙ lead (encodes ds) (shaped ds q) in
    let fits : length (encode c) ≤ length t = omega (arith, length-append (encode c) (encodes cs)) in
    let left : IsTrue (same_text pairing (encodes cs) (drop (length (encode c)) t)) = subst
    (λ l. IsTrue (same_text pairing l (drop (length (encode c)) t)))
    (drop_at (encode c) (encodes cs) (length (encode c)) refl)
    (same_text-drop pairing (length (encode c)) (encode c ++ encodes cs) t h) in
    let goes_on : encodes ds ≡ drop (length (encode c)) t
    ++ rest = sym (drop_at (encode d) (encodes ds) (length (encode c)) (sym n)) ∙ ap (drop (length (encode c))) e
    ∙ drop-append-le (length (encode c)) t rest fits in
    after pairing keeps cs ds (drop (length (encode c)) t) (and_parts (scalar c) (scalars cs) p).1
    (and_parts (scalar d) (scalars ds) q).1 left goes_on

-- in a text, what follows a front that is the same as a text is a text, by its bytes
after_text : (pairing : List ℕ) {xs all : List ℕ} (t : List ℕ) {rest : List ℕ} → KeepsChars pairing → IsUtf8 xs
    → IsUtf8 all → IsTrue (same_text pairing xs t) → all ≡ t ++ rest → IsUtf8 rest
after_text pairing t keeps u v h e =
    after pairing keeps u.0 v.0 t u.1.0 v.1.0 (subst (λ l. IsTrue (same_text pairing l t)) (sym u.1.1) h) (v.1.1 ∙ e)

-- ---- occurrences

-- a text that isn't empty begins with the first byte of a character, and so does any text that is the same
begins-same : (pairing xs ys : List ℕ) → KeepsChars pairing → IsUtf8 xs → 0 < length xs
    → IsTrue (same_text pairing xs ys) → 128 ≤ get_or ys 0 0 → 192 ≤ get_or ys 0 0
begins-same pairing xs ys keeps u some h =
    let alike = same-chars pairing (get_or xs 0 0) (get_or ys 0 0) keeps (same-first pairing xs ys h some) in
    let from : char_len (get_or xs 0 0) ≢ 0 = begins ((IsCharBoundary-start xs u).1 some) in
    begun (subst (λ n. n ≢ 0) alike from)

-- A part of a text that is the same as a text that isn't empty begins and ends between characters.
ends : (pairing : List ℕ) {xs all : List ℕ} {a b : ℕ} → KeepsChars pairing → IsUtf8 xs → 0 < length xs → IsUtf8 all
    → a ≤ b → b ≤ length all → IsTrue (same_text pairing xs (slice_range all a b))
    → IsCharBoundary all a × IsCharBoundary all b
ends pairing {xs} {all} {a} {b} keeps u some v l h same =
    let n : length xs ≡ b - a = same_text-length pairing xs (slice_range all a b) same ∙ slice_range-length all a l h in
    let split : drop a all ≡ slice_range all a b ++ drop (b - a) (drop a all) =
    sym (take-append-drop (b - a) (drop a all)) in
    let here : get_or (slice_range all a b) 0 0
    ≡ get_or all a 0 =
    sym (first-append (slice_range all a b) (drop (b - a) (drop a all)) (omega (arith, slice_range-length all a l h)))
    ∙ sym (ap (λ l. get_or l 0 0) split) ∙ get_or-drop a all 0 0
    ∙ ap (λ n. get_or all n 0) (let k : a + 0 ≡ a = omega arith in k) in
    let start : IsCharBoundary all a = (
      omega arith,
      λ _ high. subst (λ n. 192 ≤ n) here
          (begins-same pairing xs (slice_range all a b) keeps u some same (subst (λ n. 128 ≤ n) (sym here) high)),
    ) in
    let rest : IsUtf8 (drop (b - a) (drop a all)) =
    after_text pairing (slice_range all a b) keeps u (IsUtf8-drop all a v start) same split in
    let end : IsUtf8 (drop b all) = subst IsUtf8
    (drop-drop (b - a) a all ∙ ap (λ n. drop n all) (let k : a + (b - a) ≡ b = omega arith in k)) rest in
    (start, IsCharBoundary-from_drop all b h end)

pub text_occurs : TextOccursBetweenChars
text_occurs s o t h =
    let p = h.same.0 in
    let one_of : Contains s.patterns p = subst (Contains s.patterns)
    (get_or_from_slice_get s.patterns o.pattern p [] h.same.1)
    (Contains-get_or s.patterns o.pattern [] (slice_get_within s.patterns o.pattern p h.same.1)) in
    let u = t.patterns p one_of in
    let w = h.within in
    ends s.pairing t.pairing u.0 u.1 t.haystack w.1 (omega (arith, t.inside)) h.same.2
