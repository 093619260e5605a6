-- The states of one depth come in order of the first entered pattern that begins with their texts.
use Rattle.std.proofs.Common.{◌≡◌, ℕ, ◌<◌, ◌≤◌, List, length, take, Option, sym, ap, subst, ◌∙◌, ⊎_elim, arith}
use Rattle.std.proofs.lemmas.Bool.{cases_lt}
use Rattle.std.proofs.lemmas.List.{take-map}
use Rattle.std.proofs.lemmas.Option.{slice_get_within}
use Rattle.ac_input.specs.Dictionary.{Dictionary, Begins}
use Rattle.ac_input.specs.Laws.LiveLaws.{canonical}
use Rattle.ac_input.specs.Limits.{with_pattern, canonical_text, IsPrefix}
use Rattle.ac_input.specs.States.{IsFirstBegun, BeginsBefore}
use Rattle.ac_input.proofs.lemmas.AlikeLemmas.{canonical-text}
use Rattle.ac_noncontiguous.specs.declared.trie.State.{State}
use Rattle.ac_noncontiguous.specs.Standing.{HasEntered}
use Rattle.ac_noncontiguous.specs.Trie.Tree.{IsTree, depth, text}
use Rattle.ac_noncontiguous.proofs.trie.BridgeLemmas.{Stands, text-settled}
use Rattle.ac_noncontiguous.proofs.nfa.CountLemmas.{prefix-state}
use Rattle.ac_noncontiguous.proofs.trie.DictionaryLemmas.{entered-kept, entered-before, begins-canonical, canonical-begins}
use Rattle.ac_noncontiguous.proofs.trie.StandingLemmas.{IsMore}
use Rattle.ac_noncontiguous.proofs.trie.TextLemmas.{text-one, length-text, child-deep, deep-child}

-- The first pattern that begins with an old state's text is an old one, and was the first before one more pattern was
-- added.
first-old : {m : Dictionary} (p : List ℕ) {old : List State} {ends : List (Option ℕ)} → IsTree old
    → HasEntered m old ends → {i : ℕ} → 0 < i → i < length old → {a : ℕ}
    → IsFirstBegun (with_pattern m p) (text old i) a → (a < length m.patterns) × IsFirstBegun m (text old i) a
first-old {m} p {old} {ends} tree s {i} some within {a} f =
    let b = s.begins i some within in
    let len = length-text old i in
    let stands : Stands m old ends = record { tree = tree; entered = s } in
    let settled = text-settled stands within in
    let begins : Begins m.pairing (text old i) b.1 = canonical-begins m.pairing (text old i) b.1
    (omega (arith, b.3, len)) (settled ∙ (b.4 ∙ ap (λ d. take d (canonical_text m b.1)) (sym len))) in
    let before = f.1 b.0 (b.1, entered-kept m p b.2, begins) in
    let low : a < length m.patterns = omega (arith, before, slice_get_within m.patterns b.0 b.1 b.2.0) in
    (low, ((f.0.0, entered-before m p low f.0.1, f.0.2), λ k h. f.1 k (h.0, entered-kept m p h.1, h.2)))

-- only the added pattern begins with the text of an added state
first-new : {m : Dictionary} {p : List ℕ} {old new : List State} {ends : List (Option ℕ)} {end : Option ℕ} → IsTree old
    → IsTree new → HasEntered m old ends → IsMore m p old new end → {j : ℕ} → length old ≤ j → j < length new → {b : ℕ}
    → IsFirstBegun (with_pattern m p) (text new j) b → length m.patterns ≤ b
first-new {m} {p} {new} tree tree_new s g {j} past within {b} f =
    ⊎_elim
    (λ (low : b < length m.patterns).
    let q = f.0.0 in
    let t = text new j in
    let added = g.added j past within in
    let d = depth new j in
    let start = tree.start.0 in
    let deep = child-deep new tree_new (omega (arith, start, past)) within in
    let len = length-text new j in
    let settled : canonical_text m t ≡ t = ap (canonical_text m) added.2
    ∙ (sym (take-map (canonical m.pairing) d (canonical_text m p))
    ∙ (ap (take d) (canonical-text m.pairing p) ∙ sym added.2)) in
    let front = begins-canonical m.pairing t q f.0.2 in
    let is_prefix : IsPrefix m t =
    record {
      some = omega (arith, deep, len);
      entered = (b, q, entered-before m p low f.0.1, f.0.2.0, sym settled ∙ front);
    } in
    let k = prefix-state tree s is_prefix in
    let one = text-one new tree_new (omega (arith, k.2, g.longer)) within ((g.same k.0 k.2).1 ∙ k.3) in
    absurd (omega (arith, one, k.2, past)))
    (λ (high : length m.patterns ≤ b). high)
    (cases_lt b (length m.patterns))

-- the order holds after one more pattern is entered
pub ordered-more : {m : Dictionary} {p : List ℕ} {old new : List State} {ends : List (Option ℕ)} {end : Option ℕ}
    → IsTree old → IsTree new → HasEntered m old ends
    → ((i j : ℕ) → i < j → j < length old → depth old i ≡ depth old j → BeginsBefore m (text old i) (text old j))
    → IsMore m p old new end
    → ((i j : ℕ) → i < j → j < length new → depth new i ≡ depth new j
    → BeginsBefore (with_pattern m p) (text new i) (text new j))
ordered-more {m} {p} {old} {new} tree tree_new s before g i j lt within level a b f h =
    let deep = child-deep new tree_new (omega arith) within in
    let some : 0 < i = deep-child new tree_new (omega (arith, level, deep)) in
    let old_first : (i < length old)
    → (a < length m.patterns) × IsFirstBegun m (text old i) a = λ i_old.
    first-old p tree s some i_old (subst (λ t. IsFirstBegun (with_pattern m p) t a) (g.same i i_old).1 f) in
    ⊎_elim
    (λ (j_old : j < length old).
    let i_old : i < length old = omega (arith, lt, j_old) in
    let fa = old_first i_old in
    let fb = first-old p tree s (omega (arith, lt)) j_old
    (subst (λ t. IsFirstBegun (with_pattern m p) t b) (g.same j j_old).1 h) in
    before i j lt j_old (sym (g.same i i_old).0 ∙ (level ∙ (g.same j j_old).0)) a b fa.1 fb.1)
    (λ (j_new : length old ≤ j).
    let late = first-new tree tree_new s g j_new within h in
    ⊎_elim
    (λ (i_old : i < length old). let fa = old_first i_old in omega (arith, fa.0, late))
    (λ (i_new : length old ≤ i).
    let same : text new i ≡ text new j = (g.added i i_new (omega (arith, lt, within))).2
    ∙ (ap (λ d. take d (canonical_text m p)) level ∙ sym (g.added j j_new within).2) in
    absurd (omega (arith, lt, text-one new tree_new (omega (arith, lt, within)) within same)))
    (cases_lt i (length old)))
    (cases_lt j (length old))
