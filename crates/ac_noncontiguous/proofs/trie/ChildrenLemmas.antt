-- The children of a trie's states, put side by side.
use Rattle.std.proofs.Common.{◌≡◌, ◌≢◌, ℕ, ◌+◌, ◌-◌, ◌<◌, ◌≤◌, List, [], ◌∷◌, ◌++◌, length, map, sym, ap, subst, ◌∙◌, ⊎_elim, arith, get_or, slice_index, length-append, Some}
use Rattle.std.specs.List.{Contains}
use Rattle.std.proofs.lemmas.Bool.{cases_lt}
use Rattle.std.proofs.lemmas.List.{get_or_read, get_or_append_left, get_or-append-add, get_or-map, length-map}
use Rattle.std.proofs.lemmas.List.Elements.{Contains-append_cases}
use Rattle.std.proofs.lemmas.Option.{slice_get-get_or, get_or_from_slice_get}
use Rattle.ac_noncontiguous.specs.declared.trie.State.{State}
use Rattle.ac_noncontiguous.specs.Trie.Tree.{IsTree, IsFirstChild, parent, byte}
use Rattle.ac_noncontiguous.specs.Trie.Entering.{HasNoChild}
use Rattle.ac_noncontiguous.specs.Links.Failures.{IsChildOf}
use Rattle.ac_noncontiguous.specs.Links.Children.{AreChildren, AppendsChildren, AreAllChildren}
use Rattle.ac_noncontiguous.proofs.lemmas.IndexLemmas.{read-there}
use Rattle.ac_noncontiguous.proofs.lemmas.OrderLemmas.{contains-kept, contains-last, index-kept, index-last}

-- the children of a state whose bytes are less than one
pub record AreChildrenBelow (states : List State) (of low : ℕ) (found : List ℕ) : Type 0 where
  pub all : (c : ℕ) → 0 < c → c < length states → parent states c ≡ of → byte states c < low → Contains found c
  pub only : (c : ℕ) → Contains found c → (0 < c) × (c < length states) × (parent states c ≡ of)

-- no child has a byte less than 0
pub below-none : {states : List State} {of : ℕ} → AreChildrenBelow states of 0 []
below-none = record { all = λ c some within is less. absurd (omega arith); only = λ c k. absurd (omega (arith, k.1)) }

-- the next child is found
pub below-more : {states : List State} {of low at : ℕ} {found : List ℕ} → IsTree states
    → IsFirstChild (length states) (parent states) (byte states) of low at → 0 < at
    → AreChildrenBelow states of low found → AreChildrenBelow states of (byte states at + 1) (found ++ at ∷ [])
below-more {states} {of} {low} {at} {found} tree first some b =
    let h = first.is_child some in
    record {
      all = λ c c_some within is less.
          ⊎_elim
          (λ (before : byte states c < low). contains-kept found at (b.all c c_some within is before))
          (λ (past : low ≤ byte states c).
          let same : byte states c ≡ byte states at = omega (arith, (first.before_all c c_some within is past).1) in
          let one = tree.apart c at c_some some within h.0 (is ∙ sym h.1) same in
          subst (Contains (found ++ at ∷ [])) (sym one) (contains-last found))
          (cases_lt (byte states c) low);
      only = λ c k.
          ⊎_elim
          (λ old. b.only c old)
          (λ new. last c new)
          (Contains-append_cases found (at ∷ []) c k);
    }
  where
    last : (c : ℕ) → Contains (at ∷ []) c → (0 < c) × (c < length states) × (parent states c ≡ of)
    last c k =
        let zero_ : k.0 ≡ 0 = omega (arith, k.1) in
        let e : at ≡ c = ap (λ n. get_or (at ∷ []) n c) (sym zero_) ∙ k.2 in
        let h = first.is_child some in
        subst (λ z. (0 < z) × (z < length states) × (parent states z ≡ of)) e (some, h.0, h.1)

-- past the last child all children are found
pub below-all : {states : List State} {of low at : ℕ} {found : List ℕ}
    → IsFirstChild (length states) (parent states) (byte states) of low at → at ≡ 0
    → AreChildrenBelow states of low found → AreChildren states of found
below-all {states} {low} first none b =
    record {
      all = λ c some within is.
          ⊎_elim
          (λ (before : byte states c < low). b.all c some within is before)
          (λ (past : low ≤ byte states c). absurd (omega (arith, (first.before_all c some within is past).0)))
          (cases_lt (byte states c) low);
      only = b.only;
    }

-- ---- the children of all states

-- the children of no states
pub all-none : {states : List State} {firsts ids bytes : List ℕ} → firsts ≡ 0 ∷ [] → ids ≡ [] → bytes ≡ []
    → AreAllChildren states 0 firsts ids bytes
all-none {states} one none no_byte =
    record {
      counted = ap length one;
      last = ap (λ xs. slice_index xs 0) one ∙ sym (ap length none);
      bytes_are = no_byte ∙ sym (ap (map (byte states)) none);
      spans = λ i lt. absurd (omega arith);
      only = λ i k lt from below. absurd (omega arith);
      all = λ c some within lt. absurd (omega arith);
    }

-- the children of one more state
pub all-more : {states : List State} {most : ℕ} {firsts ids bytes firsts_after ids_after bytes_after : List ℕ}
    → AreAllChildren states most firsts ids bytes → AppendsChildren states most ids ids_after
    → bytes_after ≡ map (byte states) ids_after → firsts_after ≡ firsts ++ length ids_after ∷ []
    → AreAllChildren states (most + 1) firsts_after ids_after bytes_after
all-more {states} {most} {firsts} {ids} {firsts_after} {ids_after} a more bytes_are pushed =
    let found = more.0 in
    let are = more.1 in
    let len : length ids_after ≡ length ids + length found = ap length more.2 ∙ length-append ids found in
    let first : (j : ℕ) → j ≤ most → slice_index firsts_after j ≡ slice_index firsts j =
    λ j le. ap (λ xs. slice_index xs j) pushed ∙ index-kept firsts (length ids_after) j (omega (arith, a.counted)) in
    let end : slice_index firsts_after (most + 1) ≡ length ids_after =
    ap (λ xs. slice_index xs (most + 1)) pushed ∙ index-last firsts (omega (arith, a.counted)) in
    let old : (k : ℕ) → k < length ids → slice_index ids_after k ≡ slice_index ids k =
    λ k lt. ap (λ xs. slice_index xs k) more.2 ∙ get_or_append_left ids found 0 k lt in
    let new : (n : ℕ) → slice_index ids_after (length ids + n) ≡ slice_index found n =
    λ n. ap (λ xs. slice_index xs (length ids + n)) more.2 ∙ get_or-append-add ids found n 0 in
    record {
      counted = omega (arith, ap length pushed, length-append firsts (length ids_after ∷ []), a.counted);
      last = end;
      bytes_are = bytes_are;
      spans = λ i lt.
          ⊎_elim
          (λ (before : i < most). let s = a.spans i before in (
            omega (arith, s.0, first i (omega arith), first (i + 1) (omega arith)),
            omega (arith, s.1, len, first (i + 1) (omega arith)),
          ))
          (λ (ge : most ≤ i).
          let same : i ≡ most = omega arith in
          let e : slice_index firsts_after (i + 1) ≡ length ids_after = ap (λ n. slice_index firsts_after (n + 1)) same
          ∙ end in
          let f : slice_index firsts i ≡ length ids = ap (slice_index firsts) same ∙ a.last in
          (omega (arith, first i (omega arith), e, f, len), omega (arith, e)))
          (cases_lt i most);
      only = λ i k lt from below.
          ⊎_elim
          (λ (before : i < most).
          let s = a.spans i before in
          let k_in : k < slice_index firsts (i + 1) = omega (arith, below, first (i + 1) (omega arith)) in
          subst (λ z. (0 < z) × (z < length states) × (parent states z ≡ i)) (sym (old k (omega (arith, k_in, s.1))))
          (a.only i k before (omega (arith, from, first i (omega arith))) k_in))
          (λ (ge : most ≤ i).
          let same : i ≡ most = omega arith in
          let e : slice_index firsts_after (i + 1) ≡ length ids_after = ap (λ n. slice_index firsts_after (n + 1)) same
          ∙ end in
          let f : slice_index firsts_after i ≡ length ids = first i (omega arith)
          ∙ (ap (slice_index firsts) same ∙ a.last) in
          let n = k - length ids in
          let k_is : length ids + n ≡ k = omega (arith, from, f) in
          let n_in : n < length found = omega (arith, below, e, len, from, f) in
          let there : Contains found (slice_index found n) = (
            n,
            n_in,
            get_or_from_slice_get found n (slice_index found n) (slice_index found n) (slice_get-get_or found n 0 n_in),
          ) in
          let h = are.only (slice_index found n) there in
          subst (λ z. (0 < z) × (z < length states) × (parent states z ≡ i))
          (sym (ap (slice_index ids_after) (sym k_is) ∙ new n)) (h.0, h.1, h.2 ∙ sym same))
          (cases_lt i most);
      all = λ c some within lt.
          ⊎_elim
          (λ (before : parent states c < most).
          let h = a.all c some within before in
          let s = a.spans (parent states c) before in (
            h.0,
            omega (arith, h.1, first (parent states c) (omega arith)),
            omega (arith, h.2, first (parent states c + 1) (omega arith)),
            old h.0 (omega (arith, h.2, s.1)) ∙ h.3,
          ))
          (λ (ge : most ≤ parent states c).
          let same : parent states c ≡ most = omega arith in
          let e : slice_index firsts_after (parent states c + 1) ≡ length ids_after =
          ap (λ n. slice_index firsts_after (n + 1)) same ∙ end in
          let f : slice_index firsts_after (parent states c) ≡ length ids = first (parent states c) (omega arith)
          ∙ (ap (slice_index firsts) same ∙ a.last) in
          let k = are.all c some within same in (
            length ids + k.0,
            omega (arith, f),
            omega (arith, k.1, e, len),
            new k.0 ∙ sym (get_or_read found k.0 c k.1 (sym k.2) 0),
          ))
          (cases_lt (parent states c) most);
    }

-- where the children of a state begin, as it is read
pub first-read : {states : List State} {most : ℕ} {firsts ids bytes : List ℕ} {index i r : ℕ}
    → AreAllChildren states most firsts ids bytes → i ≤ most → index ≡ i → r ≡ get_or firsts index r
    → r ≡ slice_index firsts i
first-read {firsts} a le at read = read-there firsts (omega (arith, le, a.counted)) at read

-- a place among the children of a state is within the lists of all children
pub among-within : {states : List State} {firsts ids bytes : List ℕ} {of end : ℕ} (k : ℕ)
    → AreAllChildren states (length states) firsts ids bytes → of < length states → end ≡ slice_index firsts (of + 1)
    → k < end → (k < length ids) × (k < length bytes)
among-within {states} {ids} {of} k a within end_is below =
    let s = a.spans of within in
    (omega (arith, s.1), omega (arith, s.1, ap length a.bytes_are, length-map ids (byte states)))

-- so is one before the end that is read
pub read-among : {states : List State} {firsts ids bytes : List ℕ} {of index end : ℕ} (k : ℕ)
    → AreAllChildren states (length states) firsts ids bytes → of < length states → index ≡ of + 1
    → end ≡ get_or firsts index end → k < end → (k < length ids) × (k < length bytes)
read-among k a within at read below =
    among-within k a within (first-read a (omega (arith, within)) at read) below

-- the byte at a place is that of the child there
byte-among : {states : List State} {most : ℕ} {firsts ids bytes : List ℕ} {k : ℕ}
    → AreAllChildren states most firsts ids bytes → k < length ids
    → slice_index bytes k ≡ byte states (slice_index ids k)
byte-among {states} {ids} {k} a inside =
    ap (λ xs. slice_index xs k) a.bytes_are ∙ get_or-map (byte states) ids k 0 0 inside

-- a place among a state's children that has the byte gives the child for it
pub one-among : {states : List State} {firsts ids bytes : List ℕ} {of low from end k id : ℕ}
    → AreAllChildren states (length states) firsts ids bytes → of < length states → from ≡ slice_index firsts of
    → end ≡ slice_index firsts (of + 1) → from ≤ k → k < end → slice_index bytes k ≡ low → id ≡ slice_index ids k
    → IsChildOf states of low (Some id)
one-among {states} {firsts} {ids} {bytes} {of} {low} {end} {k} a within from_is end_is after below here id_is =
    let h = a.only of k within (omega arith) (omega arith) in
    let b = byte-among a (among-within k a within end_is below).0 in
    subst (λ z. IsChildOf states of low (Some z)) (sym id_is) (h.0, h.1, h.2, sym b ∙ here)

-- if no place among a state's children has the byte, the state has no child for it
pub none-among : {states : List State} {firsts ids bytes : List ℕ} {of low from end : ℕ}
    → AreAllChildren states (length states) firsts ids bytes → of < length states → from ≡ slice_index firsts of
    → end ≡ slice_index firsts (of + 1) → ((k : ℕ) → from ≤ k → k < end → slice_index bytes k ≢ low)
    → HasNoChild states of low
none-among {states} {firsts} {ids} {from} {end} a within from_is end_is none c some c_in is same =
    let h = a.all c some c_in (omega (arith, is, within)) in
    let f : slice_index firsts (parent states c) ≡ from = ap (slice_index firsts) is ∙ sym from_is in
    let e : slice_index firsts (parent states c + 1) ≡ end = ap (λ n. slice_index firsts (n + 1)) is ∙ sym end_is in
    let s = a.spans (parent states c) (omega (arith, is, within)) in
    let inside : h.0 < length ids = omega (arith, h.2, s.1) in
    none h.0 (omega (arith, h.1, f)) (omega (arith, h.2, e)) (byte-among a inside ∙ (ap (byte states) h.3 ∙ same))
