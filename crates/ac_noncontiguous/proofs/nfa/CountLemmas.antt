-- How many states a trie has: one for each prefix of an entered pattern.
use Rattle.std.proofs.Common.{◌≡◌, ◌≢◌, ◌⊎◌, ℕ, ◌+◌, ◌-◌, ◌<◌, ◌≤◌, List, [], ◌∷◌, ◌++◌, length, get_or, take, map, Option, Some, None, sym, ap, subst, ◌∙◌, inl, inr, ⊎_elim, arith, slice_get, if◌then◌else◌, nat_lt}
use Rattle.std.specs.List.{range_with_len}
use Rattle.std.proofs.lemmas.Bool.{cases_lt}
use Rattle.std.proofs.lemmas.Bool.Decides.{nat_tests}
use Rattle.std.proofs.lemmas.List.{take-take, take_more, length-take-le, length-map}
use Rattle.std.proofs.lemmas.List.FromFn.{length-map-range_with_len, get_or-map-range_with_len}
use Rattle.std.proofs.lemmas.Option.{slice_get_within}
use Rattle.ac_input.specs.Dictionary.{Dictionary, IsEntered}
use Rattle.ac_input.specs.Laws.LiveLaws.{canonical}
use Rattle.ac_input.specs.Limits.{with_pattern, canonical_text, IsPrefix, HasStates}
use Rattle.ac_noncontiguous.specs.declared.trie.State.{State}
use Rattle.ac_noncontiguous.specs.Trie.Tree.{IsTree, parent, depth, text}
use Rattle.ac_noncontiguous.specs.Trie.Entering.{IsWalked, HasNoChild}
use Rattle.ac_noncontiguous.specs.Standing.{HasEntered}
use Rattle.ac_noncontiguous.proofs.trie.TextLemmas.{text-one, text-above, text-child, text-extends, length-text, push-same, deep-child, child-deep}
use Rattle.ac_noncontiguous.proofs.trie.DictionaryLemmas.{entered-kept, entered-before}
use Rattle.ac_noncontiguous.proofs.trie.StandingLemmas.{end-cases, pattern-last}

-- a list of all prefixes, each once, gives the number of states
count-by : {m : Dictionary} {f : ℕ → List ℕ} {k : ℕ} → ((i j : ℕ) → i < j → j < k → f i ≢ f j)
    → ((i : ℕ) → i < k → IsPrefix m (f i)) → ((t : List ℕ) → IsPrefix m t → (i : ℕ) × (i < k) × (f i ≡ t))
    → HasStates m (k + 4)
count-by {m} {f} {k} apart prefixes all =
    let texts = map f (range_with_len 0 k) in
    let len : length texts ≡ k = length-map-range_with_len f 0 k in
    let at : (i : ℕ) (d : List ℕ) → i < k
    → get_or texts i d ≡ f i = λ i d within. get_or-map-range_with_len f 0 k i i d within (omega arith) in (
      texts,
      (λ i j d lt within e. apart i j lt (omega arith) (sym (at i d (omega arith)) ∙ (e ∙ at j d (omega arith)))),
      (λ t. (
        (λ c. subst (λ s. IsPrefix m s) (sym (at c.0 t (omega (arith, c.1))) ∙ c.2)
            (prefixes c.0 (omega (arith, c.1)))),
        (λ p. let h = all t p in (h.0, omega (arith, h.1), at h.0 t h.1 ∙ h.2)),
      )),
      omega arith,
    )

-- each state but the start stands for a prefix
pub state-prefix : {m : Dictionary} {states : List State} {ends : List (Option ℕ)} → IsTree states
    → HasEntered m states ends → {i : ℕ} → 0 < i → i < length states → IsPrefix m (text states i)
state-prefix {m} {states} tree s {i} some within =
    let b = s.begins i some within in
    let len = length-text states i in
    record {
      some = omega (arith, child-deep states tree some within);
      entered = (b.0, b.1, b.2, omega (arith, b.3), b.4 ∙ ap (λ d. take d (canonical_text m b.1)) (sym len));
    }

-- each prefix has a state
pub prefix-state : {m : Dictionary} {states : List State} {ends : List (Option ℕ)} → IsTree states
    → HasEntered m states ends → {t : List ℕ} → IsPrefix m t
    → (j : ℕ) × (0 < j) × (j < length states) × (text states j ≡ t)
prefix-state {m} {states} {ends} tree s {t} p =
    let n = p.entered.0 in
    let q = p.entered.1 in
    let e = p.entered.2 in
    ⊎_elim
    (λ (at : (i : ℕ) × (slice_get ends n ≡ Some (Some i))).
    let k = s.entered n at.0 q e.0 at.1 in
    let deep : depth states at.0 ≡ length q = sym (length-text states at.0)
    ∙ (ap length k.2 ∙ length-map q (canonical m.pairing)) in
    let above = text-above states tree at.0 (omega arith) k.1 (omega (arith, p.entered.3)) in (
      above.0,
      deep-child states tree (omega (arith, p.some, above.2)),
      above.1,
      above.3 ∙ (ap (take (length t)) k.2 ∙ sym p.entered.4),
    ))
    (λ (out : slice_get ends n ≡ Some None). let k = s.left_out n q e.0 out in absurd (e.1 k.0 k.1))
    (end-cases ends n (omega (arith, s.counted, slice_get_within m.patterns n q e.0)))

-- the automaton of a dictionary has three more states than its trie
pub stand-counts : {m : Dictionary} {states : List State} {ends : List (Option ℕ)} → IsTree states
    → HasEntered m states ends → HasStates m (length states + 3)
stand-counts {m} {states} tree s =
    let one : length states - 1 + 4 ≡ length states + 3 = omega (arith, tree.start.0) in
    subst (HasStates m) one
    (count-by
    (λ i j lt within same. let e = text-one states tree {i = i + 1} {j = j + 1} (omega arith) (omega arith) same in
    omega arith)
    (λ i within. state-prefix tree s (omega arith) (omega arith))
    (λ t p. let h = prefix-state tree s p in
    (h.0 - 1, omega (arith, h.1, h.2), let e : h.0 - 1 + 1 ≡ h.0 = omega (arith, h.1) in ap (text states) e ∙ h.3)))

-- ---- a pattern that can't be entered whole

-- If the state that was reached has no child for the next byte, no state stands for a longer prefix of the pattern.
pub none-beyond : (mid : List State) (bytes : List ℕ) {read at : ℕ} → IsTree mid → at < length mid
    → text mid at ≡ take read bytes → read < length bytes → HasNoChild mid at (get_or bytes read 0) → (i len : ℕ)
    → i < length mid → read < len → len ≤ length bytes → text mid i ≢ take len bytes
none-beyond mid bytes {read} {at} tree at_in spelled more none i len within beyond short same =
    let deep : depth mid i ≡ len = sym (length-text mid i) ∙ (ap length same ∙ length-take-le len bytes short) in
    let h = text-above mid tree i (omega arith) within (omega arith) in
    let c = h.0 in
    let some = deep-child mid tree (omega (arith, h.2)) in
    let p = tree.parents c some h.1 in
    let front : text mid c ≡ take read bytes ++ get_or bytes read 0 ∷ [] =
    h.3 ∙ (ap (take (read + 1)) same ∙ (take-take (read + 1) len bytes (omega arith) ∙ take_more bytes read 0 more)) in
    let parts = push-same (text mid (parent mid c)) (take read bytes) (sym (text-child mid tree some h.1) ∙ front) in
    let above : parent mid c ≡ at = text-one mid tree (omega (arith, p.0, h.1)) at_in (parts.0 ∙ sym spelled) in
    none c some h.1 above parts.1

-- the texts of all states but the start, and then the longer prefixes of a pattern
abbrev prefix_at : List State → List ℕ → ℕ → ℕ → List ℕ
prefix_at mid bytes read i =
    if nat_lt i (length mid - 1) then text mid (i + 1) else take (read + 1 + (i - (length mid - 1))) bytes

prefix_at-state : (mid : List State) (bytes : List ℕ) (read i : ℕ) → i < length mid - 1
    → prefix_at mid bytes read i ≡ text mid (i + 1)
prefix_at-state mid bytes read i lt = grind (arith, nat_tests)

prefix_at-rest : (mid : List State) (bytes : List ℕ) (read i : ℕ) → length mid - 1 ≤ i
    → prefix_at mid bytes read i ≡ take (read + 1 + (i - (length mid - 1))) bytes
prefix_at-rest mid bytes read i ge = grind (arith, nat_tests)

-- the prefixes of an added pattern are prefixes of the dictionary with it, if it is entered
rest-prefix : (m : Dictionary) {p : List ℕ} {len : ℕ} → IsEntered (with_pattern m p) (length m.patterns) p → 0 < len
    → len ≤ length p → IsPrefix (with_pattern m p) (take len (canonical_text m p))
rest-prefix m {p} {len} entered some short =
    let bytes = canonical_text m p in
    let bytes_len : length bytes ≡ length p = length-map p (canonical m.pairing) in
    let e : length (take len bytes) ≡ len = length-take-le len bytes (omega arith) in
    record {
      some = omega arith;
      entered = (length m.patterns, p, entered, omega arith, ap (λ n. take n bytes) (sym e));
    }

-- each state of a trie into which a pattern is being entered stands for a prefix
walked-prefix : {m : Dictionary} {p : List ℕ} {old mid : List State} {ends : List (Option ℕ)} {read at : ℕ} → IsTree old
    → IsTree mid → HasEntered m old ends → IsWalked m.kind old mid (canonical_text m p) read at → read ≤ length p
    → IsEntered (with_pattern m p) (length m.patterns) p → {i : ℕ} → 0 < i → i < length mid
    → IsPrefix (with_pattern m p) (text mid i)
walked-prefix {m} {p} {old} {mid} tree mid_tree s w short entered {i} some within =
    ⊎_elim
    (λ (lt : i < length old).
    let f = state-prefix tree s some lt in
    let e = f.entered in
    let same = text-extends tree w.extends i lt in
    subst (λ t. IsPrefix (with_pattern m p) t) (sym same)
    (record { some = f.some; entered = (e.0, e.1, entered-kept m p e.2, e.3, e.4) }))
    (λ (ge : length old ≤ i).
    let a = w.added i ge within in
    subst (λ t. IsPrefix (with_pattern m p) t) (sym a.1)
    (rest-prefix m entered (child-deep mid mid_tree some within) (omega (arith, a.0))))
    (cases_lt i (length old))

-- each prefix has a state, or is a longer prefix of the pattern that is being entered
prefix-walked : {m : Dictionary} (p : List ℕ) {old mid : List State} {ends : List (Option ℕ)} {read at : ℕ} → IsTree old
    → IsTree mid → HasEntered m old ends → IsWalked m.kind old mid (canonical_text m p) read at → read ≤ length p
    → {t : List ℕ} → IsPrefix (with_pattern m p) t
    → ((j : ℕ) × (0 < j) × (j < length mid) × (text mid j ≡ t))
    ⊎ ((read < length t) × (length t ≤ length p) × (take (length t) (canonical_text m p) ≡ t))
prefix-walked {m} p {mid} {read} {at} tree mid_tree s w short {t} f =
    let n = f.entered.0 in
    let q = f.entered.1 in
    let e = f.entered.2 in
    let bytes = canonical_text m p in
    ⊎_elim
    (λ (before : n < length m.patterns).
    let h = prefix-state tree s
    (record { some = f.some; entered = (n, q, entered-before m p before e, f.entered.3, f.entered.4) }) in
    inl (h.0, h.1, omega (arith, h.2, w.extends.longer), text-extends tree w.extends h.0 h.2 ∙ h.3))
    (λ (last : length m.patterns ≤ n).
    let same : q ≡ p = pattern-last m last e.0 in
    let q_len : length q ≡ length p = ap length same in
    let front : t ≡ take (length t) bytes = f.entered.4 ∙ ap (λ r. take (length t) (canonical_text m r)) same in
    ⊎_elim
    (λ (beyond : read < length t). inr (beyond, omega (arith, f.entered.3), sym front))
    (λ (inside : length t ≤ read).
    let h = text-above mid mid_tree at (omega arith) w.reached.0 (omega (arith, w.reached.1)) in
    inl (
      h.0,
      deep-child mid mid_tree (omega (arith, f.some, h.2)),
      h.1,
      h.3 ∙ (ap (take (length t)) w.reached.2 ∙ (take-take (length t) read bytes inside ∙ sym front)),
    ))
    (cases_lt read (length t)))
    (cases_lt n (length m.patterns))

-- how many states there would be with the pattern entered whole
pub stuck-counts : {m : Dictionary} {p : List ℕ} {old mid : List State} {ends : List (Option ℕ)} {read at : ℕ}
    → IsTree old → IsTree mid → HasEntered m old ends → IsWalked m.kind old mid (canonical_text m p) read at
    → read < length p → IsEntered (with_pattern m p) (length m.patterns) p
    → HasNoChild mid at (get_or (canonical_text m p) read 0)
    → HasStates (with_pattern m p) (length mid - 1 + (length p - read) + 4)
stuck-counts {m} {p} {mid} {read} tree mid_tree s w more entered none =
    let bytes = canonical_text m p in
    let len : length bytes ≡ length p = length-map p (canonical m.pairing) in
    let low : (i : ℕ) → i < length mid - 1
    → prefix_at mid bytes read i ≡ text mid (i + 1) = prefix_at-state mid bytes read in
    let high : (i : ℕ) → length mid - 1 ≤ i
    → prefix_at mid bytes read i ≡ take (read + 1 + (i - (length mid - 1))) bytes = prefix_at-rest mid bytes read in
    let beyond = none-beyond mid bytes mid_tree w.reached.0 w.reached.2 (omega arith) none in
    count-by
    (λ i j lt within same.
    ⊎_elim
    (λ (i_low : i < length mid - 1).
    ⊎_elim
    (λ (j_low : j < length mid - 1). let e =
    text-one mid mid_tree (omega arith) (omega arith) (sym (low i i_low) ∙ (same ∙ low j j_low)) in omega arith)
    (λ (j_high : length mid - 1 ≤ j).
    beyond (i + 1) (read + 1 + (j - (length mid - 1))) (omega arith) (omega arith) (omega arith)
    (sym (low i i_low) ∙ (same ∙ high j j_high)))
    (cases_lt j (length mid - 1)))
    (λ (i_high : length mid - 1 ≤ i).
    let both : take (read + 1 + (i - (length mid - 1))) bytes ≡ take (read + 1 + (j - (length mid - 1))) bytes =
    sym (high i i_high) ∙ (same ∙ high j (omega arith)) in
    let lens = sym (length-take-le (read + 1 + (i - (length mid - 1))) bytes (omega arith))
    ∙ (ap length both ∙ length-take-le (read + 1 + (j - (length mid - 1))) bytes (omega arith)) in
    omega arith)
    (cases_lt i (length mid - 1)))
    (λ i within.
    ⊎_elim
    (λ (i_low : i < length mid - 1).
    subst (λ t. IsPrefix (with_pattern m p) t) (sym (low i i_low))
    (walked-prefix tree mid_tree s w (omega arith) entered (omega arith) (omega arith)))
    (λ (i_high : length mid - 1 ≤ i).
    subst (λ t. IsPrefix (with_pattern m p) t) (sym (high i i_high))
    (rest-prefix m entered (omega arith) (omega arith)))
    (cases_lt i (length mid - 1)))
    (λ t f.
    ⊎_elim
    (λ (there : (j : ℕ) × (0 < j) × (j < length mid) × (text mid j ≡ t)).
    let back : there.0 - 1 + 1 ≡ there.0 = omega (arith, there.1) in (
      there.0 - 1,
      omega (arith, there.1, there.2),
      low (there.0 - 1) (omega (arith, there.1, there.2)) ∙ (ap (text mid) back ∙ there.3),
    ))
    (λ (longer : (read < length t) × (length t ≤ length p) × (take (length t) bytes ≡ t)).
    let i = length mid - 1 + (length t - (read + 1)) in
    let n : read + 1 + (i - (length mid - 1)) ≡ length t = omega (arith, longer.0) in
    (i, omega (arith, longer.0, longer.1), high i (omega arith) ∙ (ap (λ d. take d bytes) n ∙ longer.2)))
    (prefix-walked p tree mid_tree s w (omega arith) f))
