-- Which bytes the states of a trie have: those of the entered patterns, and their partners.
use Rattle.std.proofs.Common.{◌≡◌, ◌↔◌, ◌==◌, ◌||◌, ℕ, ◌+◌, ◌-◌, ◌<◌, ◌≤◌, Bool, true, List, [], ◌∷◌, ◌++◌, length, get_or, take, Option, Contains, IsTrue, sym, ap, subst, ◌∙◌, ⊎_elim, arith}
use Rattle.std.proofs.lemmas.Bool.{cases_lt, or_cases, or_left, or_right, eqb-true, eq-eqb}
use Rattle.std.proofs.lemmas.Bool.Decides.{nat_tests}
use Rattle.std.proofs.lemmas.List.{take_more, length-take-le, length-map, get_or-map}
use Rattle.std.proofs.lemmas.List.Elements.{Contains-get_or}
use Rattle.ac_input.specs.Alphabet.{has, is_edge}
use Rattle.ac_input.specs.Alphabet.Classes.{IsByteOf, AreByteClasses}
use Rattle.ac_input.specs.Dictionary.{Dictionary, IsEntered}
use Rattle.ac_input.specs.Same.{other, same}
use Rattle.ac_input.specs.Laws.LiveLaws.{canonical}
use Rattle.ac_input.specs.Limits.{canonical_text, IsPrefix}
use Rattle.ac_noncontiguous.specs.declared.trie.State.{State}
use Rattle.ac_noncontiguous.specs.declared.trie.Trie.{Trie}
use Rattle.ac_noncontiguous.specs.Trie.Kept.{IsTrieOf}
use Rattle.ac_noncontiguous.specs.Trie.Tree.{parent, byte, depth, text}
use Rattle.ac_noncontiguous.specs.Compiler.Layout.{AreStateEdges, AreClassesOfTrie}
use Rattle.ac_noncontiguous.proofs.trie.TextLemmas.{push-same, text-child, child-deep}
use Rattle.ac_noncontiguous.proofs.nfa.CountLemmas.{prefix-state}
use Rattle.ac_noncontiguous.proofs.trie.BridgeLemmas.{Stands}
use Rattle.ac_noncontiguous.proofs.trie.FailLemmas.{stands-of}
use Rattle.ac_input.proofs.lemmas.SameLemmas.{own-inverse}

-- ---- the boundaries

-- the boundaries with one more state are those around its byte and the partner, too
pub edges-more : (trie : Trie) (id b o : ℕ) (old mid new : List Bool) → AreStateEdges trie id old → 0 < id
    → b ≡ byte trie.states.items id → o ≡ other trie.pairing b → ((y : ℕ) → has mid y ≡ (has old y || is_edge b b y))
    → ((y : ℕ) → has new y ≡ (has mid y || is_edge o o y)) → AreStateEdges trie (id + 1) new
edges-more trie id b o old mid new before some is_byte is_other first second y =
    let low = byte trie.states.items id in
    let partner : other trie.pairing low ≡ o = ap (other trie.pairing) (sym is_byte) ∙ sym is_other in
    let from_mid : IsTrue (has mid y) → IsTrue (has new y) = λ h. second y ∙ or_left (has mid y) (is_edge o o y) h in
    let from_old : IsTrue (has old y) → IsTrue (has mid y) = λ h. first y ∙ or_left (has old y) (is_edge b b y) h in (
      (λ h.
          ⊎_elim
          (λ (in_mid : has mid y ≡ true).
          ⊎_elim
          (λ (in_old : has old y ≡ true). let k = (before y).0 in_old in
          (k.0, (k.1.0, k.1.1, omega (arith, k.1.2), k.1.3), k.2))
          (λ (at : is_edge b b y ≡ true). (
            b,
            (id, some, omega arith, or_left (low == b) (other trie.pairing low == b) (eq-eqb low b (sym is_byte))),
            at,
          ))
          (or_cases (has old y) (is_edge b b y) (sym (first y) ∙ in_mid)))
          (λ (at : is_edge o o y ≡ true). (
            o,
            (
              id,
              some,
              omega arith,
              or_right (low == o) (other trie.pairing low == o) (eq-eqb (other trie.pairing low) o partner),
            ),
            at,
          ))
          (or_cases (has mid y) (is_edge o o y) (sym (second y) ∙ h))),
      (λ k.
          ⊎_elim
          (λ (lt : k.1.0 < id). from_mid (from_old ((before y).1 (k.0, (k.1.0, k.1.1, lt, k.1.3), k.2))))
          (λ (ge : id ≤ k.1.0).
          let here : k.1.0 ≡ id = omega (arith, k.1.2) in
          let alike : IsTrue (same trie.pairing low k.0) =
          subst (λ c. IsTrue (same trie.pairing (byte trie.states.items c) k.0)) here k.1.3 in
          ⊎_elim
          (λ (own : (low == k.0) ≡ true).
          let is : k.0 ≡ b = sym (eqb-true low k.0 own) ∙ sym is_byte in
          from_mid (first y ∙ or_right (has old y) (is_edge b b y) (subst (λ x. IsTrue (is_edge x x y)) is k.2)))
          (λ (paired : (other trie.pairing low == k.0) ≡ true).
          let is : k.0 ≡ o = sym (eqb-true (other trie.pairing low) k.0 paired) ∙ partner in
          second y ∙ or_right (has mid y) (is_edge o o y) (subst (λ x. IsTrue (is_edge x x y)) is k.2))
          (or_cases (low == k.0) (other trie.pairing low == k.0) alike))
          (cases_lt k.1.0 id)),
    )

-- a boundary below the last byte is around a byte
edge-small : (x b : ℕ) → b < 255 → IsTrue (is_edge x x b) → x < 256
edge-small x b small at =
    ⊎_elim
    (λ (here : (b == x) ≡ true). omega (arith, eqb-true b x here))
    (λ (next : (b + 1 == x) ≡ true). omega (arith, eqb-true (b + 1) x next))
    (or_cases (b == x) (b + 1 == x) at)

-- ---- the bytes

-- what is equal to a byte's canonical form, up to pairing, is equal to the byte
canonical-alike : (pairing : List ℕ) {low : ℕ} (y x : ℕ) → low ≡ canonical pairing y → IsTrue (same pairing low x)
    → IsTrue (same pairing y x)
canonical-alike pairing y x is h =
    let back = own-inverse pairing y in
    grind (arith, nat_tests)

-- what is equal to a byte, up to pairing, is equal to the byte's canonical form
alike-canonical : (pairing : List ℕ) {low : ℕ} (y x : ℕ) → low ≡ canonical pairing y → IsTrue (same pairing y x)
    → IsTrue (same pairing low x)
alike-canonical pairing y x is h =
    let back = own-inverse pairing y in
    grind (arith, nat_tests)

-- the byte of a state is the canonical form of a byte of an entered pattern
state-byte : {m : Dictionary} {states : List State} {ends : List (Option ℕ)} → Stands m states ends → {c : ℕ} → 0 < c
    → c < length states → (n : ℕ) × (p : List ℕ) × (y : ℕ) × IsEntered m n p × Contains p y
    × (byte states c ≡ canonical m.pairing y)
state-byte {m} {states} s {c} some within =
    let g = s.entered.begins c some within in
    let p = g.1 in
    let bytes = canonical_text m p in
    let len : length bytes ≡ length p = length-map p (canonical m.pairing) in
    let d = depth states c - 1 in
    let deep : depth states c ≡ d + 1 = omega (arith, child-deep states s.tree some within) in
    let inside : d < length p = omega (arith, g.3) in
    let front : text states c ≡ take d bytes ++ get_or bytes d 0 ∷ [] = g.4
    ∙ (ap (λ n. take n bytes) deep ∙ take_more bytes d 0 (omega arith)) in
    let parts =
    push-same (text states (parent states c)) (take d bytes) (sym (text-child states s.tree some within) ∙ front) in
    (g.0, p, get_or p d 0, g.2, Contains-get_or p d 0 inside, parts.1 ∙ get_or-map (canonical m.pairing) p d 0 0 inside)

-- the canonical form of each byte of an entered pattern is the byte of a state
byte-state : {m : Dictionary} {states : List State} {ends : List (Option ℕ)} → Stands m states ends
    → {n : ℕ} {p : List ℕ} {y : ℕ} → IsEntered m n p → Contains p y
    → (c : ℕ) × (0 < c) × (c < length states) × (byte states c ≡ canonical m.pairing y)
byte-state {m} {states} s {n} {p} {y} entered held =
    let k = held.0 in
    let bytes = canonical_text m p in
    let len : length bytes ≡ length p = length-map p (canonical m.pairing) in
    let inside : k < length p = held.1 in
    let t = take (k + 1) bytes in
    let t_len : length t ≡ k + 1 = length-take-le (k + 1) bytes (omega arith) in
    let is_prefix : IsPrefix m t =
    record { some = omega arith; entered = (n, p, entered, omega arith, ap (λ i. take i bytes) (sym t_len)) } in
    let j = prefix-state s.tree s.entered is_prefix in
    let front : t ≡ take k bytes ++ get_or bytes k 0 ∷ [] = take_more bytes k 0 (omega arith) in
    let parts = push-same (text states (parent states j.0)) (take k bytes)
    (sym (text-child states s.tree j.1 j.2) ∙ (j.3 ∙ front)) in
    (j.0, j.1, j.2, parts.1 ∙ (get_or-map (canonical m.pairing) p k y 0 inside ∙ ap (canonical m.pairing) held.2))

-- the bytes of the states, with their partners, are the bytes of the entered patterns, with theirs
pub trie-bytes : (trie : Trie) (m : Dictionary) → IsTrieOf m trie → (x : ℕ)
    → ((c : ℕ) × (0 < c) × (c < (length trie.states.items)) × IsTrue (same trie.pairing (byte trie.states.items c) x))
    ↔ IsByteOf m x
trie-bytes trie m t x =
    let states = trie.states.items in
    let s = stands-of t in (
      (λ c.
          let h = state-byte s c.1 c.2 in
          let alike : IsTrue (same m.pairing (byte states c.0) x) =
          subst (λ q. IsTrue (same q (byte states c.0) x)) (sym t.pairing) c.3 in
          (h.0, h.1, h.2, h.3, h.4, canonical-alike m.pairing h.2 x h.5 alike)),
      (λ e.
          let h = byte-state s e.3 e.4 in (
            h.0,
            h.1,
            h.2,
            subst (λ q. IsTrue (same q (byte states h.0) x)) t.pairing (alike-canonical m.pairing e.2 x h.3 e.5),
          )),
    )

-- the classes that the bytes of a trie make are those of its dictionary
pub trie-classed : {trie : Trie} {classes : List ℕ} → AreClassesOfTrie trie classes → {m : Dictionary} → IsTrieOf m trie
    → AreByteClasses m classes
trie-classed {trie} h {m} t =
    let bytes = trie-bytes trie m t in (
      h.0,
      h.1,
      λ b small. (
        (λ at. let k = (h.2 b).0 at in (k.0, edge-small k.0 b small k.2, (bytes k.0).0 k.1, k.2)),
        (λ k. (h.2 b).1 (k.0, (bytes k.0).1 k.2, k.3)),
      ),
    )
