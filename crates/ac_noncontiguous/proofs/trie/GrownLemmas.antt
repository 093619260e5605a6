-- A trie with one more state has the links of a trie.
use Rattle.std.proofs.Common.{◌≡◌, ◌≢◌, ◌⊎◌, ℕ, ◌+◌, ◌<◌, ◌≤◌, false, List, length, sym, ap, subst, ◌∙◌, inl, inr, ⊎_elim, arith}
use Rattle.std.proofs.lemmas.Bool.{cases_lt, cases_eq}
use Rattle.ac_noncontiguous.specs.declared.trie.State.{State}
use Rattle.ac_noncontiguous.specs.Trie.Tree.{IsFirstChild, IsTree, IsChildPlace, IsAdded, parent, byte, child, sibling, depth, is_match}
use Rattle.ac_noncontiguous.specs.Trie.Entering.{HasNoChild}
use Rattle.ac_noncontiguous.proofs.trie.TreeLemmas.{cases_zero, place-first}

-- one more state, the child of `of` for the byte `low`, linked in between a sibling and the next one
pub record IsGrown (old new : List State) (of low before at : ℕ) : Type 0 where
  pub len : length new ≡ length old + 1
  pub same : (i : ℕ) → i < length old
      → (parent new i ≡ parent old i) × (byte new i ≡ byte old i) × (depth new i ≡ depth old i)
      × (is_match new i ≡ is_match old i)
  pub added : (parent new (length old) ≡ of) × (byte new (length old) ≡ low)
      × (depth new (length old) ≡ depth old of + 1) × (is_match new (length old) ≡ false)
  pub added_links : (child new (length old) ≡ 0) × (sibling new (length old) ≡ at)
  pub others : (i : ℕ) → i < length old → i ≢ of → child new i ≡ child old i
  pub kept : 0 < before → child new of ≡ child old of
  pub first : before ≡ 0 → child new of ≡ length old
  pub rest : (i : ℕ) → i < length old → i ≢ before → sibling new i ≡ sibling old i
  pub next : 0 < before → sibling new before ≡ length old

-- a state of the longer list is the added one or an older one
older : (old new : List State) {c : ℕ} → length new ≡ length old + 1 → c < length new
    → (c < length old) ⊎ (c ≡ length old)
older old new {c} len within =
    ⊎_elim (λ (lt : c < length old). inl lt) (λ (ge : length old ≤ c). inr (omega arith)) (cases_lt c (length old))

-- A first child from a byte on stays the first if the added state isn't one of these children, or comes after it.
first-kept : {old new : List State} {of low before at : ℕ} → IsGrown old new of low before at → {p from first : ℕ}
    → (p ≡ of → from ≤ low → (0 < first) × (byte old first ≤ low))
    → IsFirstChild (length old) (parent old) (byte old) p from first
    → IsFirstChild (length new) (parent new) (byte new) p from first
first-kept {old} {new} {of} {low} g {p} {first} past f =
    record {
      is_child = λ some.
          let h = f.is_child some in
          let s = g.same first h.0 in
          (omega (arith, h.0, g.len), s.0 ∙ h.1, omega (arith, h.2, s.1));
      before_all = λ c some within child_of from_on.
          ⊎_elim
          (λ (lt : c < length old).
          let s = g.same c lt in
          let h = f.before_all c some lt (sym s.0 ∙ child_of) (omega (arith, s.1)) in
          let t = g.same first (f.is_child h.0).0 in
          (h.0, omega (arith, h.1, s.1, t.1)))
          (λ (e : c ≡ length old).
          let a = g.added in
          let same_of : p ≡ of = sym child_of ∙ (ap (parent new) e ∙ a.0) in
          let same_low : byte new c ≡ low = ap (byte new) e ∙ a.1 in
          let h = past same_of (omega arith) in
          let t = g.same first (f.is_child h.0).0 in
          (h.0, omega (arith, h.1, t.1)))
          (older old new g.len within);
    }

-- The added state is the first child from a byte on if every other child from there on has at least its byte.
first-new : {old new : List State} {of low before at : ℕ} → IsGrown old new of low before at → {from : ℕ}
    → 0 < length old → from ≤ low
    → ((c : ℕ) → 0 < c → c < length old → parent old c ≡ of → from ≤ byte old c → low ≤ byte old c)
    → IsFirstChild (length new) (parent new) (byte new) of from (length old)
first-new {old} {new} g some_old from_on least =
    record {
      is_child = λ some. (omega (arith, g.len), g.added.0, omega (arith, g.added.1));
      before_all = λ c some within child_of after. (
        some_old,
        ⊎_elim
            (λ (lt : c < length old).
            let s = g.same c lt in
            let h = least c some lt (sym s.0 ∙ child_of) (omega (arith, s.1)) in
            let a = g.added.1 in
            omega arith)
            (λ (e : c ≡ length old). let same_byte : byte new c ≡ byte new (length old) = ap (byte new) e in
            omega arith)
            (older old new g.len within),
      );
    }

-- each state's link leads to its first child
children-grown : {old new : List State} {of low before at : ℕ} → IsGrown old new of low before at → IsTree old
    → of < length old → IsChildPlace old of low before at → (0 < at → low < byte old at) → (i : ℕ) → i < length new
    → IsFirstChild (length new) (parent new) (byte new) i 0 (child new i)
children-grown {old} {new} {of} {before} {at} g tree within place missing i inside =
    let First = IsFirstChild (length new) (parent new) (byte new) in
    ⊎_elim
    (λ (lt : i < length old).
    ⊎_elim
    (λ (e : i ≡ of).
    subst (λ j. First j 0 (child new j)) (sym e)
    (⊎_elim
    (λ (none : before ≡ 0).
    subst (λ c. First of 0 c) (sym (g.first none))
    (first-new g (omega arith) (omega arith)
    (λ c some lt_c child_of from. let h = (tree.children of within).before_all c some lt_c child_of from in
    let w = place.way.first none in let wb : byte old at ≡ byte old (child old of) = ap (byte old) w in
    omega (arith, missing (omega arith), h.1))))
    (λ (some : 0 < before).
    let w = place.way.next some in
    subst (λ c. First of 0 c) (sym (g.kept some))
    (first-kept g
    (λ _ _. let h = (tree.children of within).before_all before some w.0 w.1 (omega arith) in
    (h.0, omega (arith, h.1, w.2))) (tree.children of within)))
    (cases_zero before)))
    (λ (ne : i ≢ of).
    subst (λ c. First i 0 c) (sym (g.others i lt ne))
    (first-kept g (λ e _. absurd (ne e)) (tree.children i lt)))
    (cases_eq i of))
    (λ (e : i ≡ length old).
    subst (λ j. First j 0 (child new j)) (sym e)
    (subst (λ c. First (length old) 0 c) (sym g.added_links.0)
    (record {
      is_child = λ some. absurd (omega arith);
      before_all = λ c some lt_c child_of from.
          ⊎_elim
          (λ (lt : c < length old). let s = g.same c lt in let p = tree.parents c some lt in
          absurd (omega (arith, s.0, p.0)))
          (λ (last : c ≡ length old). let same_parent : parent new c ≡ of = ap (parent new) last ∙ g.added.0 in
          absurd (omega arith))
          (older old new g.len lt_c);
    })))
    (older old new g.len inside)

-- each child's link leads to its next sibling
siblings-grown : {old new : List State} {of low before at : ℕ} → IsGrown old new of low before at → IsTree old
    → of < length old → IsChildPlace old of low before at → (0 < at → low < byte old at) → (c : ℕ) → 0 < c
    → c < length new → IsFirstChild (length new) (parent new) (byte new) (parent new c) (byte new c + 1) (sibling new c)
siblings-grown {old} {new} {of} {low} {before} {at} g tree within place missing c some inside =
    let First = IsFirstChild (length new) (parent new) (byte new) in
    let here = place-first tree within place in
    ⊎_elim
    (λ (lt : c < length old).
    let s = g.same c lt in
    subst (λ p. First p (byte new c + 1) (sibling new c)) (sym s.0)
    (subst (λ b. First (parent old c) (b + 1) (sibling new c)) (sym s.1)
    (⊎_elim
    (λ (e : c ≡ before).
    let w = place.way.next (omega arith) in
    let same_of : parent old c ≡ of = ap (parent old) e ∙ w.1 in
    let same_byte : byte old c ≡ byte old before = ap (byte old) e in
    let same_next : sibling new c ≡ length old = ap (sibling new) e ∙ g.next (omega arith) in
    let same_at : at ≡ sibling old c = w.3 ∙ ap (sibling old) (sym e) in
    subst (λ n. First (parent old c) (byte old c + 1) n) (sym same_next)
    (subst (λ p. First p (byte old c + 1) (length old)) (sym same_of)
    (first-new g (omega arith) (omega (arith, w.2))
    (λ d some_d lt_d child_of from.
    let h = (tree.siblings c some lt).before_all d some_d lt_d (child_of ∙ sym same_of) from in
    let same_byte_at : byte old at ≡ byte old (sibling old c) = ap (byte old) same_at in
    omega (arith, h.1, missing (omega (arith, h.0)))))))
    (λ (ne : c ≢ before).
    subst (λ n. First (parent old c) (byte old c + 1) n) (sym (g.rest c lt ne))
    (first-kept g (between lt ne) (tree.siblings c some lt)))
    (cases_eq c before))))
    (λ (e : c ≡ length old).
    subst (λ d. First (parent new d) (byte new d + 1) (sibling new d)) (sym e)
    (subst (λ p. First p (byte new (length old) + 1) (sibling new (length old))) (sym g.added.0)
    (subst (λ b. First of (b + 1) (sibling new (length old))) (sym g.added.1)
    (subst (λ n. First of (low + 1) n) (sym g.added_links.1)
    (record {
      is_child = λ some_at.
          let h = here.is_child some_at in
          let t = g.same at h.0 in
          (omega (arith, h.0, g.len), t.0 ∙ h.1, omega (arith, missing some_at, t.1));
      before_all = λ d some_d inside_d child_of from.
          ⊎_elim
          (λ (lt : d < length old).
          let s = g.same d lt in
          let h = here.before_all d some_d lt (sym s.0 ∙ child_of) (omega (arith, s.1)) in
          let t = g.same at (here.is_child h.0).0 in
          (h.0, omega (arith, h.1, s.1, t.1)))
          (λ (last : d ≡ length old). let same_byte : byte new d ≡ low = ap (byte new) last ∙ g.added.1 in
          absurd (omega arith))
          (older old new g.len inside_d);
    })))))
    (older old new g.len inside)
  where
    between : c < length old → c ≢ before → parent old c ≡ of → byte old c + 1 ≤ low
        → (0 < sibling old c) × (byte old (sibling old c) ≤ low)
    between lt ne child_of less =
        ⊎_elim
        (λ (none : before ≡ 0).
        let h = (tree.children of within).before_all c some lt child_of (omega arith) in
        let same_byte : byte old at ≡ byte old (child old of) = ap (byte old) (place.way.first none) in
        absurd (omega (arith, place.way.first none, h.0, h.1, missing (omega (arith, place.way.first none, h.0)))))
        (λ (before_some : 0 < before).
        let w = place.way.next before_some in
        ⊎_elim
        (λ (earlier : byte old c < byte old before).
        let h = (tree.siblings c some lt).before_all before before_some w.0 (w.1 ∙ sym child_of) (omega arith) in
        (h.0, omega (arith, h.1, w.2)))
        (λ (later : byte old before ≤ byte old c).
        ⊎_elim
        (λ (same : byte old c ≡ byte old before).
        absurd (ne (tree.apart c before some before_some lt w.0 (child_of ∙ sym w.1) same)))
        (λ (ne_byte : byte old c ≢ byte old before).
        let h = (tree.siblings before before_some w.0).before_all c some lt (child_of ∙ sym w.1) (omega arith) in
        let same_byte : byte old at ≡ byte old (sibling old before) = ap (byte old) w.3 in
        absurd (omega (arith, w.3, h.0, h.1, missing (omega (arith, w.3, h.0)))))
        (cases_eq (byte old c) (byte old before)))
        (cases_lt (byte old c) (byte old before)))
        (cases_zero before)

-- no older child of the state has the byte
pub no-such : {old : List State} {of low before at : ℕ} → IsTree old → of < length old
    → IsChildPlace old of low before at → (0 < at → low < byte old at) → HasNoChild old of low
no-such tree within place missing c some lt child_of same =
    let h = (place-first tree within place).before_all c some lt child_of (omega arith) in
    omega (arith, h.1, missing h.0)

-- a trie with one more state has the links of a trie
pub tree-grown : {old new : List State} {of low before at : ℕ} → IsGrown old new of low before at → IsTree old
    → of < length old → IsChildPlace old of low before at → (0 < at → low < byte old at) → IsTree new
tree-grown {old} {new} {of} {low} g tree within place missing =
    record {
      start = (omega (arith, g.len), let s = g.same 0 tree.start.0 in s.2 ∙ tree.start.1);
      parents = λ c some inside.
          ⊎_elim
          (λ (lt : c < length old).
          let s = g.same c lt in
          let p = tree.parents c some lt in
          let q = g.same (parent old c) (omega (arith, p.0)) in
          let same_depth : depth new (parent new c) ≡ depth new (parent old c) = ap (depth new) s.0 in
          (omega (arith, s.0, p.0), omega (arith, s.2, p.1, q.2)))
          (λ (e : c ≡ length old).
          let same_parent : parent new c ≡ of = ap (parent new) e ∙ g.added.0 in
          let same_depth : depth new (parent new c) ≡ depth new of = ap (depth new) same_parent in
          let depth_c : depth new c ≡ depth old of + 1 = ap (depth new) e ∙ g.added.2 in
          let q = g.same of within in
          (omega arith, omega (arith, q.2)))
          (older old new g.len inside);
      children = children-grown g tree within place missing;
      siblings = siblings-grown g tree within place missing;
      apart = λ c d some_c some_d inside_c inside_d same_parent same_byte.
          ⊎_elim
          (λ (lt_c : c < length old).
          let s = g.same c lt_c in
          ⊎_elim
          (λ (lt_d : d < length old). let t = g.same d lt_d in
          tree.apart c d some_c some_d lt_c lt_d (sym s.0 ∙ (same_parent ∙ t.0)) (sym s.1 ∙ (same_byte ∙ t.1)))
          (λ (last_d : d ≡ length old).
          let of_c : parent old c ≡ of = sym s.0 ∙ (same_parent ∙ (ap (parent new) last_d ∙ g.added.0)) in
          let low_c : byte old c ≡ low = sym s.1 ∙ (same_byte ∙ (ap (byte new) last_d ∙ g.added.1)) in
          absurd (no-such tree within place missing c some_c lt_c of_c low_c))
          (older old new g.len inside_d))
          (λ (last_c : c ≡ length old).
          ⊎_elim
          (λ (lt_d : d < length old).
          let t = g.same d lt_d in
          let of_d : parent old d ≡ of = sym t.0 ∙ (sym same_parent ∙ (ap (parent new) last_c ∙ g.added.0)) in
          let low_d : byte old d ≡ low = sym t.1 ∙ (sym same_byte ∙ (ap (byte new) last_c ∙ g.added.1)) in
          absurd (no-such tree within place missing d some_d lt_d of_d low_d))
          (λ (last_d : d ≡ length old). last_c ∙ sym last_d)
          (older old new g.len inside_d))
          (older old new g.len inside_c);
    }

-- a trie with one more state extends the trie before
pub added-grown : {old new : List State} {of low before at id : ℕ} → IsGrown old new of low before at → id ≡ length old
    → IsAdded old new of low id
added-grown {old} {new} {of} {low} g e =
    record {
      extends = record { longer = omega (arith, g.len); same = g.same };
      last = (e, g.len);
      added = subst
          (λ i. (parent new i ≡ of) × (byte new i ≡ low) × (depth new i ≡ depth old of + 1) × (is_match new i ≡ false))
          (sym e) g.added;
    }
