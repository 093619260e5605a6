-- What the states of the automaton stand for, and that their edges lead where they should.
use Rattle.std.proofs.Common.{◌≡◌, ◌≢◌, ◌⊎◌, ℕ, zero, suc, ◌<◌, false, List, [], ◌∷◌, ◌++◌, length, refl, sym, ap, ap₂, subst, ◌∙◌, inl, inr, ⊎_elim, arith, slice_index, Some, None}
use Rattle.std.proofs.lemmas.Bool.{cases_eq}
use Rattle.std.proofs.lemmas.Bool.Decides.{nat_tests}
use Rattle.ac_input.specs.Dictionary.{Dictionary, BeginsEntered}
use Rattle.ac_input.specs.Laws.LiveLaws.{canonical}
use Rattle.ac_input.specs.States.{LeadsTo}
use Rattle.ac_noncontiguous.specs.declared.trie.Trie.{Trie}
use Rattle.ac_noncontiguous.specs.declared.compiler.numbering.Numbering.{Numbering}
use Rattle.ac_noncontiguous.specs.Trie.Tree.{text, depth}
use Rattle.ac_noncontiguous.specs.Trie.Kept.{IsTrieOf}
use Rattle.ac_noncontiguous.specs.Nfa.{state_of, AreTexts, IsEdge}
use Rattle.ac_noncontiguous.specs.Compiler.Numbering.{IsNumbering, AreInRuns}
use Rattle.ac_noncontiguous.specs.Compiler.Edges.{missing, IsChildFor, IsEdgeTo}
use Rattle.ac_noncontiguous.proofs.trie.TextLemmas.{text-start, text-one, text-child, length-text, child-deep}
use Rattle.ac_noncontiguous.proofs.trie.BridgeLemmas.{text-begins, text-settled}
use Rattle.ac_noncontiguous.proofs.nfa.CountLemmas.{prefix-state}
use Rattle.ac_noncontiguous.proofs.trie.FailLemmas.{stands-of}
use Rattle.ac_noncontiguous.proofs.nfa.ChildLemmas.{begins-child_for, child_for-begins}

-- What a trie and its numbering stand for, and where a byte that begins no pattern leads from the unanchored start.
pub record Setting (m : Dictionary) (trie : Trie) (numbering : Numbering) (back : ℕ) : Type 0 where
  pub stands : IsTrieOf m trie
  pub numbered : IsNumbering (length trie.states.items) numbering
  pub runs : AreInRuns trie.states.items numbering.at.items numbering.start
  pub to_start : (back ≡ 0) ⊎ (back ≡ numbering.start)
  pub leads : (b : ℕ) → (¬ BeginsEntered m (b ∷ []))
      → ((back ≡ 0) → LeadsTo m false (b ∷ []) None) × ((back ≡ numbering.start) → LeadsTo m false (b ∷ []) (Some []))

-- the text for which a state stands
abbrev pub text_of : Trie → Numbering → ℕ → List ℕ
text_of trie numbering i = text trie.states.items (slice_index numbering.at.items i)

-- a state from 2 on stands for its text
pub state_of-some : (f : ℕ → List ℕ) (i : ℕ) → 1 < i → state_of f i ≡ Some (f i)
state_of-some f zero past = absurd (omega arith)
state_of-some f (suc zero) past = absurd (omega arith)
state_of-some f (suc (suc i)) past = refl

-- a byte without a child leads from the unanchored start to `back`, and from every other state nowhere
missing-is : {start back i : ℕ} → i ≡ start → missing start back i ≡ back
missing-is here = grind (arith, nat_tests)

pub missing-not : {start : ℕ} (back : ℕ) {i : ℕ} → i ≢ start → missing start back i ≡ 1
missing-not back there = grind (arith, nat_tests)

-- the states stand for the texts that the automaton's states must have
pub are-texts : {m : Dictionary} {trie : Trie} {numbering : Numbering} {back : ℕ} → Setting m trie numbering back
    → AreTexts m (length numbering.at.items) numbering.start (text_of trie numbering)
are-texts {trie} {numbering} s =
    let states = trie.states.items in
    let p = s.numbered.places in
    let t = stands-of s.stands in
    let empty : (i : ℕ) → i ≡ 0 → text states i ≡ [] = λ i e. ap (text states) e ∙ text-start states trie.tree in
    record {
      starts = (p.starts.0, p.starts.1, empty _ p.starts.2, empty _ p.starts.3);
      others = λ i past within none.
          let k = slice_index numbering.at.items i in
          ⊎_elim
          (λ (is : k ≡ 0). p.others i past within is)
          (λ (ne : k ≢ 0).
          absurd (omega
          (arith, child-deep states trie.tree (omega arith) (p.within i within), length-text states k, ap length none)))
          (cases_eq k 0);
      begin = λ i past within.
          let k = slice_index numbering.at.items i in
          (text-begins t (p.within i within), text-settled t (p.within i within));
      apart = λ i j past lt within same.
          s.runs.apart i j past lt within
          (text-one states trie.tree (p.within i (omega (arith, lt, within))) (p.within j within) same);
      all = λ u is_prefix.
          let h = prefix-state trie.tree s.stands.stands is_prefix in
          let n = s.numbered.numbers.numbers h.0 h.2 in
          (slice_index numbering.of.items h.0, n.0, n.1, ap (text states) n.3 ∙ h.3);
      deeper = λ i j lt within run.
          let k = slice_index numbering.at.items i in
          let l = slice_index numbering.at.items j in
          let shallow = length-text states k in
          let deep = length-text states l in
          ⊎_elim
          (λ (less : depth states k < depth states l). omega (arith, less, shallow, deep))
          (λ (level : (depth states k ≡ depth states l) × (k < l)). omega (arith, level.0, shallow, deep))
          (s.runs.rising i j lt within run);
      by_first = λ i j lt within run same.
          let k = slice_index numbering.at.items i in
          let l = slice_index numbering.at.items j in
          let shallow = length-text states k in
          let deep = length-text states l in
          ⊎_elim
          (λ (less : depth states k < depth states l). absurd (omega (arith, less, shallow, deep, same)))
          (λ (level : (depth states k ≡ depth states l) × (k < l)).
          s.stands.by_first k l level.1 (p.within j within) level.0)
          (s.runs.rising i j lt within run);
    }

-- the edges of the numbering are the edges of the texts
pub is-edge : {m : Dictionary} {trie : Trie} {numbering : Numbering} {back : ℕ} → Setting m trie numbering back
    → {i b next : ℕ} → i < length numbering.at.items → IsEdgeTo trie numbering back i b next
    → IsEdge m (length numbering.at.items) numbering.start (text_of trie numbering) i b next
is-edge {m} {trie} {numbering} {back} s {i} {b} {next} within e =
    let states = trie.states.items in
    let p = s.numbered.places in
    let k = slice_index numbering.at.items i in
    let k_in = p.within i within in
    let low = canonical m.pairing b in
    let same_low : low ≡ canonical trie.pairing b = ap (λ q. canonical q b) s.stands.pairing in
    let t = stands-of s.stands in
    let begins : (c : ℕ) → IsChildFor states k (canonical trie.pairing b) c
    → BeginsEntered m (text states k ++ b ∷ []) =
    λ c h. child_for-begins t b h.0 h.1 h.2 (h.3 ∙ sym same_low) in
    let none : 1 < i → (¬ BeginsEntered m (text states k ++ b ∷ [])) → next ≡ missing numbering.start back i =
    λ past nothing. e.none past (λ c some c_in above is_low. nothing (begins c (some, c_in, above, is_low))) in
    record {
      dead = e.dead;
      child = λ past something.
          let c = begins-child_for t b k_in something in
          let is = e.child past c.0 (c.1, c.2, c.3, c.4 ∙ same_low) in
          let n = s.numbered.numbers.numbers c.0 c.2 in
          let spelled : text states c.0 ≡ text states k ++ low ∷ [] = text-child states trie.tree c.1 c.2
          ∙ ap₂ (λ z x. text states z ++ x ∷ []) c.3 c.4 in
          (omega (arith, n.0), omega (arith, n.1), ap (text_of trie numbering) is ∙ (ap (text states) n.3 ∙ spelled));
      none = λ past other nothing. none past nothing ∙ missing-not back other;
      back = λ is nothing.
          let past : 1 < i = omega (arith, p.starts.0) in
          let to_back : next ≡ back = none past nothing ∙ missing-is is in
          let flat : text states k ≡ [] = ap (λ z. text_of trie numbering z) is
          ∙ (ap (text states) p.starts.2 ∙ text-start states trie.tree) in
          let alone : text states k ++ b ∷ [] ≡ b ∷ [] = ap (λ t. t ++ b ∷ []) flat in
          let l = s.leads b (λ h. nothing (subst (λ t. BeginsEntered m t) (sym alone) h)) in
          ⊎_elim
          (λ (dead : back ≡ 0).
          let zero_next : next ≡ 0 = to_back ∙ dead in (
            inl zero_next,
            subst (λ n. LeadsTo m false (text states k ++ b ∷ []) (state_of (text_of trie numbering) n)) (sym zero_next)
                (subst (λ t. LeadsTo m false t None) (sym alone) (l.0 dead)),
          ))
          (λ (start : back ≡ numbering.start).
          let start_next : next ≡ numbering.start = to_back ∙ start in
          let stands : state_of (text_of trie numbering) numbering.start
          ≡ Some [] = state_of-some (text_of trie numbering) numbering.start p.starts.0
          ∙ ap (λ t. Some t) (ap (text states) p.starts.2 ∙ text-start states trie.tree) in (
            inr start_next,
            subst (λ n. LeadsTo m false (text states k ++ b ∷ []) (state_of (text_of trie numbering) n))
                (sym start_next)
                (subst (λ r. LeadsTo m false (text states k ++ b ∷ []) r) (sym stands)
                (subst (λ t. LeadsTo m false t (Some [])) (sym alone) (l.1 start))),
          ))
          s.to_start;
    }
