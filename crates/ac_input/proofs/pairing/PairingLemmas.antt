-- What pairs make of a table, pair by pair.
use Rattle.std.proofs.Common.{◌≡◌, ◌≢◌, ℕ, ◌+◌, ◌-◌, ◌<◌, ◌==◌, ◌&&◌, nat_lt, Bool, true, false, IsTrue, ◌↔◌, if◌then◌else◌, List, [], ◌∷◌, ◌++◌, length, take, drop, get_or, set, refl, sym, ◌∙◌, ap, subst, arith, inl, inr, length-set, get_or-set_same, get_or-set_other, append_assoc}
use Rattle.std.specs.List.{Contains}
use Rattle.std.proofs.lemmas.List.{take-append-drop, drop_more, take_more}
use Rattle.std.proofs.lemmas.Bool.{cases_eq}
use Rattle.std.proofs.lemmas.List.Elements.{Contains-append_left, Contains-append_right, Contains-push, Contains-push_cases}
use Rattle.std.proofs.lemmas.Bool.Decides.{nat_tests}
use Rattle.ac_input.specs.Same.{named_for}
use Rattle.ac_input.specs.Pairing.{named, partner, other_case, IsDistinct, IsFirstTwice, IsPairing}
use Rattle.ac_input.proofs.lemmas.ContainsLemmas.{Contains-head, Contains-tail, Contains-cases}

-- the bytes that two lists of pairs name are those of the first list, then those of the second
pub named-append : (ps qs : List (ℕ × ℕ)) → named (ps ++ qs) ≡ named ps ++ named qs
named-append [] qs = refl
named-append (p ∷ ps) qs = ap (λ ns. p.0 ∷ (p.1 ∷ ns)) (named-append ps qs)

-- in the front of a list without repeats no byte stands twice
pub IsDistinct-front : (xs ys : List ℕ) → IsDistinct (xs ++ ys) → IsDistinct xs
IsDistinct-front [] ys d = tt
IsDistinct-front (x ∷ xs) ys d = (λ c. d.0 (Contains-append_left xs ys x c), IsDistinct-front xs ys d.1)

-- a list without repeats stays so with a byte that isn't in it
pub IsDistinct-push : (xs : List ℕ) {y : ℕ} → IsDistinct xs → ¬ Contains xs y → IsDistinct (xs ++ y ∷ [])
IsDistinct-push [] d n = (λ c. absurd (omega (arith, c.1)), tt)
IsDistinct-push (x ∷ xs) {y} d n = (
  λ c. elim (Contains-push_cases xs y x c) as (λ _. ⊥) [
    | inl h ↦ d.0 h
    | inr e ↦
        n (subst (λ z. Contains (x ∷ xs) z) (sym e) (Contains-head xs))
  ],
  IsDistinct-push xs d.1 (λ c. n (Contains-tail xs c)),
)

-- the bytes of the last pair didn't stand before, and differ
pub IsDistinct-last : (xs : List ℕ) {a b : ℕ} → IsDistinct (xs ++ a ∷ (b ∷ []))
    → (¬ Contains xs a) × (¬ Contains xs b) × (a ≢ b)
IsDistinct-last [] {b} d = (
  λ c. absurd (omega (arith, c.1)),
  λ c. absurd (omega (arith, c.1)),
  λ e. d.0 (subst (λ z. Contains (b ∷ []) z) (sym e) (Contains-head [])),
)
IsDistinct-last (x ∷ xs) {a} {b} d =
    let before = IsDistinct-last xs d.1 in
    let in_a : Contains (xs ++ a ∷ (b ∷ [])) a = Contains-append_right xs (a ∷ (b ∷ [])) a (Contains-head (b ∷ [])) in
    let in_b : Contains (xs ++ a ∷ (b ∷ [])) b =
    Contains-append_right xs (a ∷ (b ∷ [])) b (Contains-tail (b ∷ []) (Contains-head [])) in (
      λ c. elim (Contains-cases xs c) as (λ _. ⊥) [
        | inl e ↦
            d.0 (subst (λ z. Contains (xs ++ a ∷ (b ∷ [])) z) (sym e) in_a)
        | inr h ↦ before.0 h
      ],
      λ c. elim (Contains-cases xs c) as (λ _. ⊥) [
        | inl e ↦
            d.0 (subst (λ z. Contains (xs ++ a ∷ (b ∷ [])) z) (sym e) in_b)
        | inr h ↦ before.1 h
      ],
      before.2,
    )

-- a byte that no pair names is its own partner
pub partner-alone : (ps : List (ℕ × ℕ)) {c : ℕ} → ¬ Contains (named ps) c → partner ps c ≡ c
partner-alone [] n = refl
partner-alone (p ∷ ps) {c} n =
    let rest = partner-alone ps (λ h. n (Contains-tail (p.1 ∷ named ps) (Contains-tail (named ps) h))) in
    let first : p.0 ≢ c =
    λ e. n (subst (λ z. Contains (p.0 ∷ (p.1 ∷ named ps)) z) e (Contains-head (p.1 ∷ named ps))) in
    let second : p.1 ≢ c =
    λ e. n (subst (λ z. Contains (p.0 ∷ (p.1 ∷ named ps)) z) e
    (Contains-tail (p.1 ∷ named ps) (Contains-head (named ps)))) in
    grind (arith, nat_tests)

-- the partners with one more pair at the end
pub partner-push : (ps : List (ℕ × ℕ)) {a b : ℕ} (c : ℕ)
    → (¬ Contains (named ps) a) × (¬ Contains (named ps) b) × (a ≢ b)
    → partner (ps ++ (a, b) ∷ []) c ≡ (if a == c then b else (if b == c then a else partner ps c))
partner-push [] c d = refl
partner-push (p ∷ ps) {a} {b} c d =
    let next =
    partner-push ps c (
      λ h. d.0 (Contains-tail (p.1 ∷ named ps) (Contains-tail (named ps) h)),
      λ h. d.1 (Contains-tail (p.1 ∷ named ps) (Contains-tail (named ps) h)),
      d.2,
    ) in
    let a0 : p.0 ≢ a = λ e. d.0 (subst (λ z. Contains (p.0 ∷ (p.1 ∷ named ps)) z) e (Contains-head (p.1 ∷ named ps))) in
    let a1 : p.1 ≢ a =
    λ e. d.0
    (subst (λ z. Contains (p.0 ∷ (p.1 ∷ named ps)) z) e (Contains-tail (p.1 ∷ named ps) (Contains-head (named ps)))) in
    let b0 : p.0 ≢ b = λ e. d.1 (subst (λ z. Contains (p.0 ∷ (p.1 ∷ named ps)) z) e (Contains-head (p.1 ∷ named ps))) in
    let b1 : p.1 ≢ b =
    λ e. d.1
    (subst (λ z. Contains (p.0 ∷ (p.1 ∷ named ps)) z) e (Contains-tail (p.1 ∷ named ps) (Contains-head (named ps)))) in
    grind (arith, nat_tests)

-- partners after a write to the table
pub named-set : (t : List ℕ) (i v b : ℕ) → i < length t
    → named_for (set t i v) b ≡ (if i == b then v else named_for t b)
named-set t i v b within = grind (arith, nat_tests, get_or-set_same, get_or-set_other)

-- a table of 256 entries that is its own inverse is a pairing
pub IsPairing-from_function : {t : List ℕ} {f : ℕ → ℕ} → length t ≡ 256 → ((b : ℕ) → named_for t b ≡ f b)
    → ((b : ℕ) → b < 256 → f b < 256) → ((b : ℕ) → b < 256 → f (f b) ≡ b) → IsPairing t
IsPairing-from_function {t} {f} len is small twice =
    record {
      len = len;
      bytes = λ b h. subst (λ n. n < 256) (sym (is b)) (small b h);
      inverse = λ b h. ap (named_for t) (is b) ∙ is (f b) ∙ twice b h;
    }

-- the partner of a byte in a table with one more pair
abbrev with_pair : List ℕ → ℕ → ℕ → ℕ → ℕ
with_pair t a b c = if b == c then a else (if a == c then b else named_for t c)

named-pair : (t : List ℕ) (a b c : ℕ) → a < length t → b < length t
    → named_for (set (set t a b) b a) c ≡ with_pair t a b c
named-pair t a b c la lb =
    let lb' : b < length (set t a b) = omega (arith, length-set t a b) in
    named-set (set t a b) b a c lb' ∙ ap (λ n. if b == c then a else n) (named-set t a b c la)

with_pair-small : (t : List ℕ) {a b : ℕ} (c : ℕ) → a < 256 → b < 256 → named_for t c < 256 → with_pair t a b c < 256
with_pair-small t c la lb lc = grind (arith, nat_tests)

with_pair-twice : (t : List ℕ) {a b c d : ℕ} → named_for t a ≡ a → named_for t b ≡ b → a ≢ b → d ≡ named_for t c
    → named_for t d ≡ c → with_pair t a b (with_pair t a b c) ≡ c
with_pair-twice t oa ob ne is back = grind (arith, nat_tests)

-- a pairing with one more pair of bytes that were alone
pub IsPairing-more : {t : List ℕ} {a b : ℕ} → IsPairing t → a < 256 → b < 256 → named_for t a ≡ a → named_for t b ≡ b
    → a ≢ b → IsPairing (set (set t a b) b a)
IsPairing-more {t} {a} {b} p la lb oa ob ne =
    IsPairing-from_function (length-set (set t a b) b a ∙ length-set t a b ∙ p.len)
    (λ c. named-pair t a b c (omega (arith, p.len)) (omega (arith, p.len)))
    (λ c h. with_pair-small t c la lb (p.bytes c h))
    (λ c h. with_pair-twice t oa ob ne refl (p.inverse c h))

-- the other case of the other case is the byte itself
pub other_case-twice : (b : ℕ) → other_case (other_case b) ≡ b
other_case-twice b = grind (arith, nat_tests)

pub other_case-small : (b : ℕ) → b < 256 → other_case b < 256
other_case-small b h = grind (arith, nat_tests)

-- the other case of a byte, where only the first `count` letters have one
abbrev pub cased : ℕ → ℕ → ℕ
cased i b =
    if nat_lt 64 b && nat_lt b (65 + i) then b + 32 else (if nat_lt 96 b && nat_lt b (97 + i) then b - 32 else b)

pub cased-none : (b : ℕ) → cased 0 b ≡ b
cased-none b = grind (arith, nat_tests)

-- one more letter and its other case are paired
pub cased-more : (t : List ℕ) (i b : ℕ) → i < 26 → length t ≡ 256 → named_for t b ≡ cased i b
    → named_for (set (set t (65 + i) (97 + i)) (97 + i) (65 + i)) b ≡ cased (i + 1) b
cased-more t i b h len is =
    let e = named-pair t (65 + i) (97 + i) b (omega arith) (omega arith) in
    grind (arith, nat_tests)

-- the bytes that pairs name, split at one pair
pub named-split : (ps : List (ℕ × ℕ)) (i : ℕ) → i < length ps
    → named ps ≡ named (take i ps) ++ (get_or ps i (0, 0)).0 ∷ ((get_or ps i (0, 0)).1 ∷ named (drop (i + 1) ps))
named-split ps i h =
    ap named (sym (take-append-drop i ps)) ∙ named-append (take i ps) (drop i ps)
    ∙ ap (λ t. named (take i ps) ++ named t) (drop_more ps i (0, 0) h)

-- the bytes that the pairs before one name, and then its own two
pub named-more : (ps : List (ℕ × ℕ)) (i : ℕ) → i < length ps
    → named (take (i + 1) ps) ≡ named (take i ps) ++ (get_or ps i (0, 0)).0 ∷ ((get_or ps i (0, 0)).1 ∷ [])
named-more ps i h = ap named (take_more ps i (0, 0) h) ∙ named-append (take i ps) (get_or ps i (0, 0) ∷ [])

-- a byte is marked exactly if it is in the list
abbrev pub Marks : List Bool → List ℕ → Type 0
Marks seen bytes = (c : ℕ) → c < 256 → (IsTrue (get_or seen c false) ↔ Contains bytes c)

-- the marks stay right when one more byte is marked and joins the list
pub Marks-push : (seen : List Bool) (bytes : List ℕ) {a : ℕ} → length seen ≡ 256 → a < 256 → Marks seen bytes
    → Marks (set seen a true) (bytes ++ a ∷ [])
Marks-push seen bytes {a} len la marks c lc =
    elim (cases_eq c a) as (λ _. IsTrue (get_or (set seen a true) c false) ↔ Contains (bytes ++ a ∷ []) c) [
      | inl e ↦ (
        λ _. subst (λ z. Contains (bytes ++ a ∷ []) z) (sym e) (Contains-push bytes a),
        λ _. let la' : a < length seen = omega arith in
            subst (λ z. get_or (set seen a true) z false ≡ true) (sym e) (get_or-set_same seen a true false la'),
      )
      | inr n ↦ (
        λ t. Contains-append_left bytes (a ∷ []) c ((marks c lc).0 (sym (get_or-set_other seen a c true false n) ∙ t)),
        λ h. get_or-set_other seen a c true false n
            ∙ (marks c lc).1
            (elim (Contains-push_cases bytes a c h) as (λ _. Contains bytes c) [
              | inl k ↦ k
              | inr e ↦
                  absurd (n (sym e))
            ]),
      )
    ]

-- a first byte of a pair that stood before is the first byte named twice
pub IsFirstTwice-first : (ps : List (ℕ × ℕ)) {i : ℕ} → i < length ps → IsDistinct (named (take i ps))
    → Contains (named (take i ps)) (get_or ps i (0, 0)).0 → IsFirstTwice (named ps) (get_or ps i (0, 0)).0
IsFirstTwice-first ps {i} h d k =
    (named (take i ps), (get_or ps i (0, 0)).1 ∷ named (drop (i + 1) ps), named-split ps i h, d, k)

-- a second byte of a pair that stood before is the first byte named twice
pub IsFirstTwice-second : (ps : List (ℕ × ℕ)) (i : ℕ) → i < length ps → IsDistinct (named (take i ps))
    → ¬ Contains (named (take i ps)) (get_or ps i (0, 0)).0
    → Contains (named (take i ps) ++ (get_or ps i (0, 0)).0 ∷ []) (get_or ps i (0, 0)).1
    → IsFirstTwice (named ps) (get_or ps i (0, 0)).1
IsFirstTwice-second ps i h d n k = (
  named (take i ps) ++ (get_or ps i (0, 0)).0 ∷ [],
  named (drop (i + 1) ps),
  named-split ps i h
      ∙ sym (append_assoc (named (take i ps)) ((get_or ps i (0, 0)).0 ∷ [])
      ((get_or ps i (0, 0)).1 ∷ named (drop (i + 1) ps))),
  IsDistinct-push (named (take i ps)) d n,
  k,
)

-- where neither byte of a pair stood before, no byte up to it stands twice
pub IsDistinct-more : (ps : List (ℕ × ℕ)) (i : ℕ) → i < length ps → IsDistinct (named (take i ps))
    → ¬ Contains (named (take i ps)) (get_or ps i (0, 0)).0
    → ¬ Contains (named (take i ps) ++ (get_or ps i (0, 0)).0 ∷ []) (get_or ps i (0, 0)).1
    → IsDistinct (named (take (i + 1) ps))
IsDistinct-more ps i h d n m =
    subst IsDistinct
    (append_assoc (named (take i ps)) ((get_or ps i (0, 0)).0 ∷ []) ((get_or ps i (0, 0)).1 ∷ [])
    ∙ sym (named-more ps i h))
    (IsDistinct-push (named (take i ps) ++ (get_or ps i (0, 0)).0 ∷ []) (IsDistinct-push (named (take i ps)) d n) m)

pub Marks-more : (seen : List Bool) (ps : List (ℕ × ℕ)) (i : ℕ) → i < length ps → length seen ≡ 256
    → (get_or ps i (0, 0)).0 < 256 → (get_or ps i (0, 0)).1 < 256 → Marks seen (named (take i ps))
    → Marks (set (set seen (get_or ps i (0, 0)).0 true) (get_or ps i (0, 0)).1 true) (named (take (i + 1) ps))
Marks-more seen ps i h len la lb marks =
    let a = (get_or ps i (0, 0)).0 in let b = (get_or ps i (0, 0)).1 in
    subst (Marks (set (set seen a true) b true))
    (append_assoc (named (take i ps)) (a ∷ []) (b ∷ []) ∙ sym (named-more ps i h))
    (Marks-push (set seen a true) (named (take i ps) ++ a ∷ []) (length-set seen a true ∙ len) lb
    (Marks-push seen (named (take i ps)) len la marks))

-- the bytes of a pair differ, and no earlier pair names them
pub last_apart : (ps : List (ℕ × ℕ)) (i : ℕ) → i < length ps → IsDistinct (named ps)
    → (¬ Contains (named (take i ps)) (get_or ps i (0, 0)).0) × (¬ Contains (named (take i ps)) (get_or ps i (0, 0)).1)
    × ((get_or ps i (0, 0)).0 ≢ (get_or ps i (0, 0)).1)
last_apart ps i h d =
    let whole : named ps ≡ named (take (i + 1) ps) ++ named (drop (i + 1) ps) =
    ap named (sym (take-append-drop (i + 1) ps)) ∙ named-append (take (i + 1) ps) (drop (i + 1) ps) in
    IsDistinct-last (named (take i ps))
    (subst IsDistinct (named-more ps i h)
    (IsDistinct-front (named (take (i + 1) ps)) (named (drop (i + 1) ps)) (subst IsDistinct whole d)))

-- the partners after one more pair
pub partner-more : (t : List ℕ) (ps : List (ℕ × ℕ)) (i c : ℕ) → i < length ps → IsDistinct (named ps)
    → (get_or ps i (0, 0)).0 < length t → (get_or ps i (0, 0)).1 < length t
    → ((d : ℕ) → named_for t d ≡ partner (take i ps) d)
    → named_for
    (set (set t (get_or ps i (0, 0)).0 (get_or ps i (0, 0)).1) (get_or ps i (0, 0)).1 (get_or ps i (0, 0)).0) c
    ≡ partner (take (i + 1) ps) c
partner-more t ps i c h d la lb before =
    let a = (get_or ps i (0, 0)).0 in let b = (get_or ps i (0, 0)).1 in
    let apart = last_apart ps i h d in
    let now : partner (take (i + 1) ps) c ≡ (if a == c then b else (if b == c then a else partner (take i ps) c)) =
    ap (λ qs. partner qs c) (take_more ps i (0, 0) h) ∙ partner-push (take i ps) c apart in
    let changed : named_for (set (set t a b) b a) c ≡ with_pair t a b c = named-pair t a b c la lb in
    let same : named_for t c ≡ partner (take i ps) c = before c in
    let ne = apart.2 in
    grind (arith, nat_tests)
