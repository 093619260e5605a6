-- The texts that the states of a trie stand for.
use Rattle.std.proofs.Common.{◌≡◌, ◌≢◌, ℕ, zero, suc, ◌<◌, ◌≤◌, List, [], ◌∷◌, ◌++◌, length, take, refl, sym, ap, ap₂, ◌∙◌, ⊎_elim, arith, length-append}
use Rattle.std.proofs.lemmas.Bool.{cases_eq}
use Rattle.std.proofs.lemmas.List.{take-append-le, take_all}
use Rattle.ac_noncontiguous.specs.declared.trie.State.{State}
use Rattle.ac_noncontiguous.specs.Trie.Tree.{IsTree, Extends, parent, byte, depth, path, text}
use Rattle.ac_noncontiguous.proofs.nfa.NextLemmas.{not-empty}

-- equal lists that end in an element have equal last elements and equal rests
pub push-same : (xs ys : List ℕ) {x y : ℕ} → xs ++ x ∷ [] ≡ ys ++ y ∷ [] → (xs ≡ ys) × (x ≡ y)
push-same [] [] e = (refl, cc)
push-same [] (b ∷ bs) {y} e = let h : [] ≡ bs ++ y ∷ [] = cc in absurd (not-empty bs y (sym h))
push-same (a ∷ as_) [] {x} e = let h : as_ ++ x ∷ [] ≡ [] = cc in absurd (not-empty as_ x h)
push-same (a ∷ as_) (b ∷ bs) {x} {y} e =
    let h : as_ ++ x ∷ [] ≡ bs ++ y ∷ [] = cc in
    let g : a ≡ b = cc in
    let r = push-same as_ bs h in
    (ap₂ ◌∷◌ g r.0, r.1)

-- the text of a state has as many bytes as the state's depth
pub length-path : (states : List State) (up i : ℕ) → length (path states up i) ≡ up
length-path states zero i = refl
length-path states (suc up) i =
    omega (
      arith,
      length-append (path states up (parent states i)) (byte states i ∷ []),
      length-path states up (parent states i),
    )

pub length-text : (states : List State) (i : ℕ) → length (text states i) ≡ depth states i
length-text states i = length-path states (depth states i) i

-- the text of a child is that of its parent and one byte
pub text-child : (states : List State) → IsTree states → {c : ℕ} → 0 < c → c < length states
    → text states c ≡ text states (parent states c) ++ byte states c ∷ []
text-child states tree {c} some within =
    let deep : depth states c ≡ suc (depth states (parent states c)) = omega (arith, (tree.parents c some within).1) in
    ap (λ d. path states d c) deep

-- the start stands for the empty text
pub text-start : (states : List State) → IsTree states → text states 0 ≡ []
text-start states tree = ap (λ d. path states d 0) tree.start.1

-- a state with a positive depth isn't the start
pub deep-child : (states : List State) → IsTree states → {i : ℕ} → 0 < depth states i → 0 < i
deep-child states tree {i} deep =
    ⊎_elim
    (λ (none : i ≡ 0). let e : depth states i ≡ depth states 0 = ap (depth states) none in
    absurd (omega (arith, tree.start.1)))
    (λ (ne : i ≢ 0). omega arith)
    (cases_eq i 0)

-- every state but the start has a positive depth
pub child-deep : (states : List State) → IsTree states → {i : ℕ} → 0 < i → i < length states → 0 < depth states i
child-deep states tree {i} some within = omega (arith, (tree.parents i some within).1)

-- a trie that extends another gives the old states the same texts
path-extends : {old new : List State} → IsTree old → Extends old new → (up : ℕ) {i : ℕ} → i < length old
    → up ≤ depth old i → path new up i ≡ path old up i
path-extends tree e zero within enough = refl
path-extends {old} {new} tree e (suc up) {i} within enough =
    let some = deep-child old tree (omega arith) in
    let p = tree.parents i some within in
    let s = e.same i within in
    let h = path-extends tree e up (omega (arith, p.0)) (omega (arith, p.1)) in
    ap₂ (λ xs b. xs ++ b ∷ []) (ap (path new up) s.0 ∙ h) s.1

pub text-extends : {old new : List State} → IsTree old → Extends old new → (i : ℕ) → i < length old
    → text new i ≡ text old i
text-extends {old} {new} tree e i within =
    ap (λ d. path new d i) (e.same i within).2 ∙ path-extends tree e (depth old i) within (omega arith)

-- two states with one text are equal
path-one : (states : List State) → IsTree states → (up : ℕ) {i j : ℕ} → i < length states → j < length states
    → depth states i ≡ up → depth states j ≡ up → path states up i ≡ path states up j → i ≡ j
path-one states tree zero {i} {j} i_in j_in i_deep j_deep same =
    ⊎_elim
    (λ (i_none : i ≡ 0).
    ⊎_elim
    (λ (j_none : j ≡ 0). i_none ∙ sym j_none)
    (λ (ne : j ≢ 0). absurd (omega (arith, child-deep states tree (omega arith) j_in)))
    (cases_eq j 0))
    (λ (ne : i ≢ 0). absurd (omega (arith, child-deep states tree (omega arith) i_in)))
    (cases_eq i 0)
path-one states tree (suc up) {i} {j} i_in j_in i_deep j_deep same =
    let i_some = deep-child states tree (omega arith) in
    let j_some = deep-child states tree (omega arith) in
    let p = tree.parents i i_some i_in in
    let q = tree.parents j j_some j_in in
    let s = push-same (path states up (parent states i)) (path states up (parent states j)) same in
    let one = path-one states tree up (omega (arith, p.0)) (omega (arith, q.0)) (omega (arith, p.1))
    (omega (arith, q.1)) s.0 in
    tree.apart i j i_some j_some i_in j_in one s.1

pub text-one : (states : List State) → IsTree states → {i j : ℕ} → i < length states → j < length states
    → text states i ≡ text states j → i ≡ j
text-one states tree {i} {j} i_in j_in same =
    let deep : depth states j ≡ depth states i = sym (length-text states j)
    ∙ (ap length (sym same) ∙ length-text states i) in
    path-one states tree (depth states i) i_in j_in refl deep (same ∙ ap (λ d. path states d j) deep)

-- every prefix of a state's text is the text of a state
pub text-above : (states : List State) → IsTree states → (most : ℕ) {i len : ℕ} → i ≤ most → i < length states
    → len ≤ depth states i → (j : ℕ) × (j < length states) × (depth states j ≡ len)
    × (text states j ≡ take len (text states i))
text-above states tree zero {i} {len} le within short =
    let none : i ≡ 0 = omega arith in
    let flat : depth states i ≡ 0 = ap (depth states) none ∙ tree.start.1 in
    (i, within, omega arith, sym (take_all len (text states i) (omega (arith, length-text states i))))
text-above states tree (suc most) {i} {len} le within short =
    ⊎_elim
    (λ (full : depth states i ≡ len).
    (i, within, full, sym (take_all len (text states i) (omega (arith, length-text states i)))))
    (λ (ne : depth states i ≢ len).
    let some = deep-child states tree (omega arith) in
    let p = tree.parents i some within in
    let h = text-above states tree most (omega (arith, p.0)) (omega (arith, p.0)) (omega (arith, p.1)) in
    let front : take len (text states i)
    ≡ take len (text states (parent states i)) = ap (take len) (text-child states tree some within)
    ∙ take-append-le len (text states (parent states i)) (byte states i ∷ [])
    (omega (arith, p.1, length-text states (parent states i))) in
    (h.0, h.1, h.2, h.3 ∙ sym front))
    (cases_eq (depth states i) len)
