-- The crate `hex` decodes a text to the bytes that the grammar says it spells.
use Rattle.std.proofs.Common.{◌≡◌, ℕ, ◌+◌, ◌*◌, ◌%◌, List, [], ◌∷◌, length, Bool, true, Option, Some, None, is_some, Ok, refl, sym, ap, ◌∙◌, subst, arith}
use Rattle.std.specs.Result.{result_unwrap_or}
use Rattle.std.specs.Prelude.{IsTrue}
use Rattle.std.specs.Char.{is_ascii_hexdigit}
use Rattle.std.specs.List.{AllPass, list_all}
use Rattle.std.proofs.lemmas.List.Elements.{All-head, All-tail}
use Rattle.std.proofs.lemmas.List.Sums.{AllPass-from_list_all, list_all-from_AllPass}
use Rattle.hex.specs.Hex.{decode_of, decode_pairs, digit_or_error, hex_digit_value, is_hex_digit, pair_value, value_at}
use Rattle.hex.proofs.HexLemmas.{decode_of-even, decode_of-ok}
use Rattle.hex.proofs.Pairs.{cons_byte, decode_pairs-ok_pair}
use Rattle.ac_input.specs.Rules.{IsDigit, Spells}
use Rattle.acsub.specs.Rules.Lines.{IsSpelling}

-- ---- one digit

-- a digit of the grammar is a digit of the crate, of the same value
hex_digit_value-from_digit : (c v : ℕ) → IsDigit c v → hex_digit_value c ≡ Some v
hex_digit_value-from_digit c v p = grind arith

-- a digit of the crate is a digit of the grammar, of the same value
IsDigit-from_value : (c v : ℕ) → hex_digit_value c ≡ Some v → IsDigit c v
IsDigit-from_value c v p = grind arith

-- an option that is some has a value
value_of_some : (o : Option ℕ) → is_some o ≡ true → (v : ℕ) × (o ≡ Some v)
value_of_some (Some v) p = (v, refl)
value_of_some None p = cc

-- a byte that passes the crate's test for digits has a value
IsDigit-from_test : (c : ℕ) → is_hex_digit c ≡ true → (v : ℕ) × IsDigit c v
IsDigit-from_test c p =
    let found = value_of_some (hex_digit_value c) p in
    (found.0, IsDigit-from_value c found.0 found.1)

-- ---- a text of digits

-- a text is twice as long as what it spells
pub Spells-length : (text bytes : List ℕ) → Spells text bytes → length text ≡ 2 * length bytes
Spells-length [] [] p = refl
Spells-length [] (x ∷ bytes) p = absurd p
Spells-length (h ∷ []) [] p = absurd p
Spells-length (h ∷ []) (x ∷ bytes) p = absurd p
Spells-length (h ∷ l ∷ text) [] p = absurd p
Spells-length (h ∷ l ∷ text) (x ∷ bytes) p = let ih = Spells-length text bytes p.5 in omega (arith, ih)

-- pairs of digits decode to the bytes they spell
decode_pairs-from_spells : (i : ℕ) (text bytes : List ℕ) → Spells text bytes → decode_pairs i text ≡ Ok bytes
unfolding decode_pairs
decode_pairs-from_spells i [] [] p = refl
decode_pairs-from_spells i [] (x ∷ bytes) p = absurd p
decode_pairs-from_spells i (h ∷ []) [] p = absurd p
decode_pairs-from_spells i (h ∷ []) (x ∷ bytes) p = absurd p
decode_pairs-from_spells i (h ∷ l ∷ text) [] p = absurd p
decode_pairs-from_spells i (h ∷ l ∷ text) (x ∷ bytes) p =
    let high : value_at h i ≡ Ok p.0 = ap (digit_or_error h i) (hex_digit_value-from_digit h p.0 p.2) in
    let low : value_at l (i + 1) ≡ Ok p.1 = ap (digit_or_error l (i + 1)) (hex_digit_value-from_digit l p.1 p.3) in
    let pair : pair_value h l i ≡ Ok (p.0 * 16 + p.1) = rw (high, low) refl in
    let byte : p.0 * 16 + p.1 ≡ x = omega (arith, p.4) in
    decode_pairs-ok_pair i h l (p.0 * 16 + p.1) text pair
    ∙ ap (cons_byte (p.0 * 16 + p.1)) (decode_pairs-from_spells (i + 2) text bytes p.5) ∙ ap (λ v. Ok (v ∷ bytes)) byte

-- a text decodes to the bytes that it spells
pub decode_of-from_spells : (text bytes : List ℕ) → Spells text bytes → decode_of text ≡ Ok bytes
decode_of-from_spells text bytes p =
    let twice = Spells-length text bytes p in
    decode_of-even text (omega (arith, twice)) ∙ decode_pairs-from_spells 0 text bytes p

-- an even number of digits spells some bytes
pub IsSpelling-from_digits : (text : List ℕ) → length text % 2 ≡ 0 → AllPass is_hex_digit text → IsSpelling text
IsSpelling-from_digits [] even p = ([], tt)
IsSpelling-from_digits (h ∷ []) even p = absurd (omega arith)
IsSpelling-from_digits (h ∷ l ∷ text) even p =
    let digit : ℕ → Type 0 = λ c. is_hex_digit c ≡ true in
    let tail = All-tail digit h (l ∷ text) p in
    let high = IsDigit-from_test h (All-head digit h (l ∷ text) p) in
    let low = IsDigit-from_test l (All-head digit l text tail) in
    let rest = IsSpelling-from_digits text (omega arith) (All-tail digit l text tail) in
    ((16 * high.0 + low.0) ∷ rest.0, (high.0, low.0, high.1, low.1, refl, rest.1))

-- a text that spells bytes is an even number of digits
pub digits_from_spelling : (text : List ℕ) → IsSpelling text → (length text % 2 ≡ 0) × AllPass is_hex_digit text
digits_from_spelling text p =
    let found = decode_of-ok text p.0 (decode_of-from_spells text p.0 p.1) in (found.0, found.1)

-- a text spells the bytes that it decodes to
pub Spells-from_decode_of : (text bytes : List ℕ) → decode_of text ≡ Ok bytes → Spells text bytes
Spells-from_decode_of text bytes p =
    let digits = decode_of-ok text bytes p in
    let spelling = IsSpelling-from_digits text digits.0 digits.1 in
    let same : spelling.0 ≡ bytes =
    ap (λ r. result_unwrap_or r []) (sym (decode_of-from_spells text spelling.0 spelling.1) ∙ p) in
    subst (λ found. Spells text found) same spelling.1

-- ---- the reader's test

-- std's test for hex digits agrees with the crate's
is_ascii_hexdigit-is : (c : ℕ) → is_ascii_hexdigit c ≡ is_hex_digit c
is_ascii_hexdigit-is c = grind arith

-- if two tests agree at each element, they agree over a list
list_all_agree : (p q : ℕ → Bool) → ((x : ℕ) → p x ≡ q x) → (xs : List ℕ) → list_all p xs ≡ list_all q xs
list_all_agree p q e [] = refl
list_all_agree p q e (x ∷ xs) = rw (e x, list_all_agree p q e xs) refl

-- a text of even length spells bytes exactly if each of its bytes passes the test
pub spelling_by_digits : (text : List ℕ) (answer : Bool) → length text % 2 ≡ 0
    → answer ≡ list_all is_ascii_hexdigit text
    → (IsTrue answer → IsSpelling text) × (IsSpelling text → IsTrue answer)
spelling_by_digits text answer even e =
    let same : answer ≡ list_all is_hex_digit text = e
    ∙ list_all_agree is_ascii_hexdigit is_hex_digit is_ascii_hexdigit-is text in (
      λ yes. IsSpelling-from_digits text even (AllPass-from_list_all is_hex_digit text (sym same ∙ yes)),
      λ p. same ∙ list_all-from_AllPass is_hex_digit text (digits_from_spelling text p).1,
    )
