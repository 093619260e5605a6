-- What stays true as a pattern is entered byte by byte.
use Rattle.std.proofs.Common.{◌≡◌, ℕ, ◌+◌, ◌<◌, ◌≤◌, false, List, [], ◌∷◌, ◌++◌, length, map, take, get_or, sym, ap, ap₂, ◌∙◌, ⊎_elim, arith}
use Rattle.std.proofs.lemmas.Bool.{cases_lt}
use Rattle.std.proofs.lemmas.List.{take_more, get_or-map, length-map}
use Rattle.ac_input.specs.declared.search.MatchKind.{MatchKind}
use Rattle.ac_input.specs.declared.search.MatchKind.TheVariants.{LeftmostFirst}
use Rattle.ac_input.specs.Laws.LiveLaws.{canonical}
use Rattle.ac_noncontiguous.specs.declared.trie.State.{State}
use Rattle.ac_noncontiguous.specs.Trie.Tree.{IsTree, parent, byte, depth, is_match, text}
use Rattle.ac_noncontiguous.specs.Trie.Entering.{IsChildStep, IsWalked}
use Rattle.ac_noncontiguous.proofs.trie.StepLemmas.{extends-itself, extends-further}
use Rattle.ac_noncontiguous.proofs.trie.TextLemmas.{text-one, text-child, text-start, text-extends}

-- before the first byte the walk is at the start
pub walk-start : {kind : MatchKind} {states : List State} {bytes : List ℕ} → IsTree states
    → IsWalked kind states states bytes 0 0
walk-start {states} tree =
    record {
      extends = extends-itself;
      reached = (tree.start.0, tree.start.1, text-start states tree);
      added = λ i from within. absurd (omega arith);
      deeper = λ more. absurd (omega arith);
      unmatched = λ first i within shallow. absurd (omega arith);
    }

-- a step leads to the state for one more byte of the pattern
step-reached : {mid new : List State} (bytes : List ℕ) {read at low id : ℕ} → IsTree mid → IsTree new → at < length mid
    → depth mid at ≡ read → text mid at ≡ take read bytes → read < length bytes → low ≡ get_or bytes read 0
    → IsChildStep mid new at low id
    → (id < length new) × (depth new id ≡ read + 1) × (text new id ≡ take (read + 1) bytes)
step-reached {new} bytes {read} {at} {id} mid_tree new_tree within deep spelled more low_is s =
    let c = s.child in
    let p = new_tree.parents id c.0 c.1 in
    let same_depth : depth new (parent new id) ≡ depth new at = ap (depth new) c.2 in
    let e = s.extends.same at within in
    let above : text new (parent new id) ≡ take read bytes = ap (text new) c.2
    ∙ (text-extends mid_tree s.extends at within ∙ spelled) in
    let last : byte new id ≡ get_or bytes read 0 = c.3 ∙ low_is in (
      c.1,
      omega (arith, p.1, e.2),
      text-child new new_tree c.0 c.1 ∙ (ap₂ (λ xs b. xs ++ b ∷ []) above last ∙ sym (take_more bytes read 0 more)),
    )

-- a step reads one more byte of the pattern
pub walk-step : {kind : MatchKind} {old mid new : List State} {bytes : List ℕ} {read at low id : ℕ} → IsTree mid
    → IsTree new → IsWalked kind old mid bytes read at → (kind ≡ LeftmostFirst → is_match mid at ≡ false)
    → read < length bytes → low ≡ get_or bytes read 0 → IsChildStep mid new at low id
    → IsWalked kind old new bytes (read + 1) id
walk-step {mid} {new} {bytes} {read} {at} {id} mid_tree new_tree w free more low_is s =
    let at_in = w.reached.0 in
    let r = step-reached bytes mid_tree new_tree at_in w.reached.1 w.reached.2 more low_is s in
    let texts = text-extends mid_tree s.extends in
    record {
      extends = extends-further w.extends s.extends;
      reached = r;
      added = λ i from within.
          ⊎_elim
          (λ (lt : i < length mid).
          let a = w.added i from lt in
          let e = s.extends.same i lt in
          (omega (arith, a.0, e.2), texts i lt ∙ (a.1 ∙ ap (λ d. take d bytes) (sym e.2)), e.3 ∙ a.2))
          (λ (ge : length mid ≤ i).
          let l = last i ge within in (
            omega (arith, ap (depth new) l.0, r.1),
            ap (text new) l.0 ∙ (r.2 ∙ ap (λ d. take d bytes) (sym (ap (depth new) l.0 ∙ r.1))),
            ap (is_match new) l.0 ∙ l.1,
          ))
          (cases_lt i (length mid));
      deeper = λ longer.
          ⊎_elim
          (λ (same : length new ≡ length mid). let p = new_tree.parents id s.child.0 s.child.1 in
          omega (arith, w.deeper (omega arith), s.child.2, p.0))
          (λ (one : (id ≡ length mid) × (length new ≡ length mid + 1) × (is_match new id ≡ false)).
          omega (arith, one.0, w.extends.longer))
          s.added;
      unmatched = λ first i within shallow spelled.
          ⊎_elim
          (λ (lt : i < length mid).
          let e = s.extends.same i lt in
          let spelled_mid : text mid i ≡ take (depth mid i) bytes = sym (texts i lt)
          ∙ (spelled ∙ ap (λ d. take d bytes) e.2) in
          e.3
          ∙ ⊎_elim
          (λ (less : depth mid i < read). w.unmatched first i lt less spelled_mid)
          (λ (ge : read ≤ depth mid i).
          let deep : depth mid i ≡ read = omega (arith, e.2) in
          let here : i ≡ at =
          text-one mid mid_tree lt at_in (spelled_mid ∙ (ap (λ d. take d bytes) deep ∙ sym w.reached.2)) in
          ap (is_match mid) here ∙ free first)
          (cases_lt (depth mid i) read))
          (λ (ge : length mid ≤ i). let l = last i ge within in absurd (omega (arith, ap (depth new) l.0, r.1)))
          (cases_lt i (length mid));
    }
  where
    last : (i : ℕ) → length mid ≤ i → i < length new → (i ≡ id) × (is_match new id ≡ false)
    last i ge within =
        ⊎_elim
        (λ (same : length new ≡ length mid). absurd (omega arith))
        (λ (one : (id ≡ length mid) × (length new ≡ length mid + 1) × (is_match new id ≡ false)).
        (omega (arith, one.0, one.1), one.2))
        s.added

-- the byte that is read is the next one of the pattern's canonical bytes
pub canonical-read : {pairing now : List ℕ} (p : List ℕ) {i byte : ℕ} → i < length p → now ≡ pairing
    → byte ≡ canonical now (get_or p i 0)
    → (i < length (map (canonical pairing) p)) × (byte ≡ get_or (map (canonical pairing) p) i 0)
canonical-read {pairing} p {i} within same is = (
  omega (arith, within, length-map p (canonical pairing)),
  is ∙ (ap (λ q. canonical q (get_or p i 0)) same ∙ sym (get_or-map (canonical pairing) p i 0 0 within)),
)
