-- The links of a trie: where a byte leads, and what stays true when a state is added.
use Rattle.std.proofs.Common.{◌≡◌, ◌⊎◌, ℕ, zero, suc, ◌+◌, ◌-◌, ◌<◌, ◌≤◌, ◌==◌, if◌then◌else◌, List, length, refl, sym, subst, inl, inr, ⊎_elim, arith}
use Rattle.std.proofs.lemmas.Bool.Decides.{nat_tests}
use Rattle.ac_noncontiguous.specs.declared.trie.State.{State}
use Rattle.ac_noncontiguous.specs.Trie.Tree.{IsFirstChild, IsTree, IsSiblingWalk, IsChildPlace, parent, byte, sibling}

-- a number is 0 or greater
pub cases_zero : (n : ℕ) → (n ≡ 0) ⊎ (0 < n)
cases_zero zero = inl refl
cases_zero (suc n) = inr (omega arith)

-- a walk is at the first child past the one before it
pub way-first : {states : List State} {of low before at : ℕ} → IsTree states → of < length states
    → IsSiblingWalk states of low before at
    → (from : ℕ) × (from ≤ low) × (0 < before → byte states before < from)
    × IsFirstChild (length states) (parent states) (byte states) of from at
way-first {states} {of} {before} tree within way =
    ⊎_elim
    (λ (none : before ≡ 0). (
      0,
      omega arith,
      (λ some. absurd (omega arith)),
      subst (λ c. IsFirstChild (length states) (parent states) (byte states) of 0 c) (sym (way.first none))
          (tree.children of within),
    ))
    (λ (some : 0 < before).
    let h = way.next some in (
      byte states before + 1,
      omega (arith, h.2),
      (λ _. omega arith),
      subst (λ c. IsFirstChild (length states) (parent states) (byte states) of (byte states before + 1) c) (sym h.3)
          (subst (λ p. IsFirstChild (length states) (parent states) (byte states) p (byte states before + 1)
          (sibling states before)) h.1 (tree.siblings before some h.0)),
    ))
    (cases_zero before)

-- a walk that hasn't ended is at a child, with a greater byte than the one before
pub way-at : {states : List State} {of low before at : ℕ} → IsTree states → of < length states
    → IsSiblingWalk states of low before at → 0 < at
    → (at < length states) × (parent states at ≡ of) × (0 < before → byte states before < byte states at)
way-at tree within way some =
    let f = way-first tree within way in
    let h = f.3.is_child some in
    (h.0, h.1, λ b. omega (arith, f.2 b, h.2))

-- a walk goes on to the next sibling
pub way-more : (states : List State) (of low before at : ℕ) → IsTree states → of < length states
    → IsSiblingWalk states of low before at → 0 < at → byte states at < low
    → IsSiblingWalk states of low at (sibling states at)
way-more states of low before at tree within way some less =
    let h = way-at tree within way some in
    record { first = λ none. absurd (omega arith); next = λ _. (h.0, h.1, less, refl) }

-- a walk that passed all lesser bytes is at the first child from the byte on
pub place-first : {states : List State} {of low before at : ℕ} → IsTree states → of < length states
    → IsChildPlace states of low before at → IsFirstChild (length states) (parent states) (byte states) of low at
place-first tree within place =
    let f = way-first tree within place.way in
    record {
      is_child = λ some. ((f.3.is_child some).0, (f.3.is_child some).1, place.reached some);
      before_all = λ c some inside child_of from. f.3.before_all c some inside child_of (omega (arith, f.1));
    }

-- along a walk fewer and fewer bytes are left
pub byte-rises : (states : List State) (of low before at : ℕ) → IsTree states → of < length states
    → IsSiblingWalk states of low before at → 0 < at → byte states at < low → low < 256
    → (if sibling states at == 0 then 0 else 256 - byte states (sibling states at))
    < (if at == 0 then 0 else 256 - byte states at)
byte-rises states of low before at tree within way some less small =
    let h = way-at tree within way some in
    let f = (tree.siblings at some h.0).is_child in
    grind (arith, nat_tests)

-- a walk that passed all lesser bytes has found the place for a child
pub place-from : {states : List State} {of low before at : ℕ} → IsSiblingWalk states of low before at
    → (0 < at → low ≤ byte states at) → IsChildPlace states of low before at
place-from way reached = record { way = way; reached = reached }
