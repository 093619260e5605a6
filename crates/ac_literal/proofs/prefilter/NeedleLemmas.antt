-- One, two or three bytes, and lists of them.
use Rattle.std.proofs.Common.{◌≡◌, ◌≢◌, ℕ, ◌<◌, ◌≤◌, ◌==◌, ◌||◌, ◌⊎◌, Bool, true, false, List, [], ◌∷◌, length, get_or, IsTrue, refl, sym, ap, ◌∙◌, subst, inl, inr, arith}
use Rattle.std.specs.List.{Contains}
use Rattle.std.proofs.lemmas.Bool.{false≢true}
use Rattle.std.proofs.lemmas.Bool.Decides.{nat_tests}
use Rattle.std.proofs.lemmas.Grind.{get_or_default_zero}
use Rattle.ac_input.proofs.lemmas.ContainsLemmas.{Contains-nil, Contains-head, Contains-tail, Contains-cases}
use Rattle.ac_literal.specs.Prefilter.Needles.{is_needle, needle_list, all_ascii, with_byte, AreNeedles, HasFour, AddsByte}
use Rattle.ac_literal.specs.declared.prefilter.needles.Needles.{Needles}
use Rattle.ac_literal.specs.declared.prefilter.needles.Needles.TheVariants.{One, Two, Three}
use Rattle.ac_literal.specs.declared.prefilter.needles.FewBytes.TheVariants as few

-- a byte equals itself
itself : (a : ℕ) → (a == a) ≡ true
itself a = grind (arith, nat_tests)

-- ASCII needles are below 128
pub ascii-below : (needles : Needles) {byte : ℕ} → IsTrue (all_ascii needles) → IsTrue (is_needle needles byte)
    → byte < 128
ascii-below (One a) h n = grind (arith, nat_tests)
ascii-below (Two a b) h n = grind (arith, nat_tests)
ascii-below (Three a b c) h n = grind (arith, nat_tests)

one_ascii : (a : ℕ) → a < 128 → IsTrue (all_ascii (One a))
one_ascii a h = grind (arith, nat_tests)

two_ascii : {a b : ℕ} → a < 128 → b < 128 → IsTrue (all_ascii (Two a b))
two_ascii h i = grind (arith, nat_tests)

three_ascii : {a b c : ℕ} → a < 128 → b < 128 → c < 128 → IsTrue (all_ascii (Three a b c))
three_ascii h i j = grind (arith, nat_tests)

has_first2 : (a b : ℕ) → IsTrue (is_needle (Two a b) a)
has_first2 a b = grind (arith, nat_tests)

has_second2 : (a b : ℕ) → IsTrue (is_needle (Two a b) b)
has_second2 a b = grind (arith, nat_tests)

has_first3 : (a b c : ℕ) → IsTrue (is_needle (Three a b c) a)
has_first3 a b c = grind (arith, nat_tests)

has_second3 : (a b c : ℕ) → IsTrue (is_needle (Three a b c) b)
has_second3 a b c = grind (arith, nat_tests)

has_third3 : (a b c : ℕ) → IsTrue (is_needle (Three a b c) c)
has_third3 a b c = grind (arith, nat_tests)

-- needles below 128 are ASCII
pub ascii-from : (needles : Needles) → ((byte : ℕ) → IsTrue (is_needle needles byte) → byte < 128)
    → IsTrue (all_ascii needles)
ascii-from (One a) low = one_ascii a (low a (itself a))
ascii-from (Two a b) low = two_ascii (low a (has_first2 a b)) (low b (has_second2 a b))
ascii-from (Three a b c) low =
    three_ascii (low a (has_first3 a b c)) (low b (has_second3 a b c)) (low c (has_third3 a b c))

-- what passes a test still passes it with one more byte
pub with-kept : (f : ℕ → Bool) (added : ℕ) {byte : ℕ} → IsTrue (f byte) → IsTrue (with_byte f added byte)
with-kept f added {byte} h = by (f byte) h
  where
    by : (b : Bool) → IsTrue b → IsTrue (b || (added == byte))
    by true e = refl
    by false e = absurd (false≢true e)

-- the byte that was added passes the test
pub with-added : (f : ℕ → Bool) (added : ℕ) → IsTrue (with_byte f added added)
with-added f added = by (f added)
  where
    by : (b : Bool) → IsTrue (b || (added == added))
    by true = refl
    by false = itself added

-- no other byte passes the test because of the byte that was added
pub with-only : (f : ℕ → Bool) {added byte : ℕ} → IsTrue (with_byte f added byte) → IsTrue (f byte) ⊎ (added ≡ byte)
with-only f {added} {byte} h = by (f byte) h
  where
    equal : IsTrue (added == byte) → added ≡ byte
    equal e = grind (arith, nat_tests)

    by : (b : Bool) → IsTrue (b || (added == byte)) → IsTrue b ⊎ (added ≡ byte)
    by true e = inl refl
    by false e = inr (equal e)

-- three needles and another byte are four different bytes
pub three-four : {a b c : ℕ} (byte : ℕ) {f : ℕ → Bool} → AreNeedles (Three a b c) f
    → is_needle (Three a b c) byte ≡ false → HasFour (with_byte f byte)
three-four {a} {b} {c} byte {f} are other =
    let apart = are.apart in
    let differ : (a ≢ byte) × (b ≢ byte) × (c ≢ byte) = differing in
    record {
      a = a;
      b = b;
      c = c;
      d = byte;
      apart = (apart.0, apart.1, differ.0, apart.2, differ.1, differ.2);
      pass = (
        with-kept f byte (sym (are.exact a) ∙ has_first3 a b c),
        with-kept f byte (sym (are.exact b) ∙ has_second3 a b c),
        with-kept f byte (sym (are.exact c) ∙ has_third3 a b c),
        with-added f byte,
      );
    }
  where
    differing : (a ≢ byte) × (b ≢ byte) × (c ≢ byte)
    differing = grind (arith, nat_tests)

-- three places don't hold four different bytes
pub four-in_three : (bytes : List ℕ) {f : ℕ → Bool} → length bytes ≤ 3 → HasFour f
    → ((byte : ℕ) → IsTrue (f byte) → Contains bytes byte) → ⊥
four-in_three bytes short four inside =
    let p = four.pass in
    let a = inside four.a p.0 in
    let b = inside four.b p.1 in
    let c = inside four.c p.2 in
    let d = inside four.d p.3 in
    let q = four.apart in
    let ab : a.0 ≢ b.0 = λ e. q.0 (same_place bytes four.a four.b a b e) in
    let ac : a.0 ≢ c.0 = λ e. q.1 (same_place bytes four.a four.c a c e) in
    let ad : a.0 ≢ d.0 = λ e. q.2 (same_place bytes four.a four.d a d e) in
    let bc : b.0 ≢ c.0 = λ e. q.3 (same_place bytes four.b four.c b c e) in
    let bd : b.0 ≢ d.0 = λ e. q.4 (same_place bytes four.b four.d b d e) in
    let cd : c.0 ≢ d.0 = λ e. q.5 (same_place bytes four.c four.d c d e) in
    four_places a.0 b.0 c.0 d.0 (omega (arith, a.1)) (omega (arith, b.1)) (omega (arith, c.1)) (omega (arith, d.1)) ab
    ac ad bc bd cd
  where
    -- bytes that stand at one place are equal
    same_place : (xs : List ℕ) (x y : ℕ) (at : Contains xs x) (there : Contains xs y) → at.0 ≡ there.0 → x ≡ y
    same_place xs x y at there e =
        sym at.2 ∙ get_or_default_zero xs at.0 x at.1 ∙ ap (λ k. get_or xs k 0) e
        ∙ sym (get_or_default_zero xs there.0 y there.1) ∙ there.2

    -- four different places are not all below three
    four_places : (a b c d : ℕ) → a < 3 → b < 3 → c < 3 → d < 3 → a ≢ b → a ≢ c → a ≢ d → b ≢ c → b ≢ d → c ≢ d → ⊥
    four_places a b c d la lb lc ld ab ac ad bc bd cd = omega arith

-- one more byte is added to the few needles
pub few-some : {needles more : Needles} {added : ℕ}
    → ((each : ℕ) → is_needle more each ≡ with_byte (is_needle needles) added each)
    → AddsByte (few.Some needles) added (few.Some more)
few-some {needles} {added} exact =
    record {
      kept = λ byte h. exact byte ∙ with-kept (is_needle needles) added h;
      has = exact added ∙ with-added (is_needle needles) added;
      only = λ byte n. with-only (is_needle needles) (sym (exact byte) ∙ n);
    }

-- if one of two tests passes, the first or the second does
pub or-cases : (a : Bool) {b : Bool} → IsTrue (a || b) → IsTrue a ⊎ IsTrue b
or-cases true h = inl refl
or-cases false h = inr h

-- what equals the head of a list stands in it
head-equal : {x a : ℕ} (xs : List ℕ) → IsTrue (x == a) → Contains (a ∷ xs) x
head-equal {x} {a} xs e = subst (λ y. Contains (a ∷ xs) y) (equal e) (Contains-head xs)
  where
    equal : IsTrue (x == a) → a ≡ x
    equal h = grind (arith, nat_tests)

-- each needle is listed
pub needle-listed : (needles : Needles) {byte : ℕ} → IsTrue (is_needle needles byte)
    → Contains (needle_list needles) byte
needle-listed (One a) h = head-equal [] h
needle-listed (Two a b) {byte} h = elim (or-cases (byte == a) h) [
  | inl first ↦ head-equal (b ∷ []) first
  | inr second ↦ Contains-tail (b ∷ []) (head-equal [] second)
]
needle-listed (Three a b c) {byte} h = elim (or-cases ((byte == a) || (byte == b)) h) [
  | inl early ↦ elim (or-cases (byte == a) early) [
    | inl first ↦ head-equal (b ∷ (c ∷ [])) first
    | inr second ↦ Contains-tail (b ∷ (c ∷ [])) (head-equal (c ∷ []) second)
  ]
  | inr third ↦ Contains-tail (b ∷ (c ∷ [])) (Contains-tail (c ∷ []) (head-equal [] third))
]

-- what is listed is a needle
pub listed-needle : (needles : Needles) {byte : ℕ} → Contains (needle_list needles) byte
    → IsTrue (is_needle needles byte)
listed-needle (One a) {byte} c = subst (λ y. IsTrue (is_needle (One a) y)) (only a byte c) (itself a)
  where
    only : (x y : ℕ) → Contains (x ∷ []) y → x ≡ y
    only x y h = elim (Contains-cases [] h) [ inl is ↦ is | inr none ↦ absurd (Contains-nil none) ]
listed-needle (Two a b) c = elim (Contains-cases (b ∷ []) c) [
  | inl first ↦ subst (λ y. IsTrue (is_needle (Two a b) y)) first (has_first2 a b)
  | inr more ↦ elim (Contains-cases [] more) [
    | inl second ↦ subst (λ y. IsTrue (is_needle (Two a b) y)) second (has_second2 a b)
    | inr none ↦ absurd (Contains-nil none)
  ]
]
listed-needle (Three a b d) c = elim (Contains-cases (b ∷ (d ∷ [])) c) [
  | inl first ↦ subst (λ y. IsTrue (is_needle (Three a b d) y)) first (has_first3 a b d)
  | inr more ↦ elim (Contains-cases (d ∷ []) more) [
    | inl second ↦ subst (λ y. IsTrue (is_needle (Three a b d) y)) second (has_second3 a b d)
    | inr last ↦ elim (Contains-cases [] last) [
      | inl third ↦ subst (λ y. IsTrue (is_needle (Three a b d) y)) third (has_third3 a b d)
      | inr none ↦ absurd (Contains-nil none)
    ]
  ]
]
