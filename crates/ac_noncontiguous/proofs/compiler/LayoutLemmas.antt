-- How the transitions of the states are laid out.
use Rattle.std.proofs.Common.{◌≡◌, ◌≢◌, ◌⊎◌, ℕ, ◌+◌, ◌<◌, ◌≤◌, Bool, true, false, List, [], ◌∷◌, ◌++◌, length, refl, sym, ap, subst, ◌∙◌, ⊎_elim, arith, slice_index, slice_index_or, get_or, length-append}
use Rattle.std.proofs.lemmas.Bool.{cases_lt}
use Rattle.std.proofs.lemmas.List.{get_or_append_left, get_or-append-add}
use Rattle.ac_noncontiguous.specs.declared.nfa.tables.Transition.{Transition}
use Rattle.ac_noncontiguous.specs.declared.trie.Trie.{Trie}
use Rattle.ac_noncontiguous.specs.declared.compiler.numbering.Numbering.{Numbering}
use Rattle.ac_noncontiguous.specs.Nfa.{no_transition, byte_at, next_at}
use Rattle.ac_noncontiguous.specs.Compiler.Numbering.{IsNumbering}
use Rattle.ac_noncontiguous.specs.Compiler.Edges.{IsEdgeTo}
use Rattle.ac_noncontiguous.specs.Compiler.Layout.{Keeps, AreAppended, HasAll, IsLaid, IsAppended, AreLaidOut}
use Rattle.ac_noncontiguous.proofs.lemmas.OrderLemmas.{index-kept, index-last}

-- ---- the transitions of one state

-- a list keeps its own transitions
pub keeps-all : {old : List Transition} → Keeps old old
keeps-all = record { longer = omega arith; same = λ k within. refl }

-- a list with one more transition keeps those of the list before
pub keeps-push : {old new : List Transition} (t : Transition) → Keeps old new → Keeps old (new ++ t ∷ [])
keeps-push {new} t h =
    record {
      longer = omega (arith, h.longer, length-append new (t ∷ []));
      same = λ k within. get_or_append_left new (t ∷ []) no_transition k (omega (arith, h.longer)) ∙ h.same k within;
    }

-- a byte whose transition is appended
pub appended-push : {edges : List ℕ} {all : Bool} {to next : ℕ} {old new : List Transition}
    → next ≡ slice_index edges to → (all ≡ false → next ≢ 1) → AreAppended edges all to old new
    → AreAppended edges all (to + 1) old (new ++ record { byte = to; next = next } ∷ [])
appended-push {edges} {to} {next} {new} read some h =
    let t : Transition = record { byte = to; next = next } in
    let more = new ++ t ∷ [] in
    let len = length-append new (t ∷ []) in
    let kept : (k : ℕ) → k < length new
    → slice_index_or more k no_transition ≡ slice_index_or new k no_transition =
    λ k within. get_or_append_left new (t ∷ []) no_transition k within in
    let end : length new + 0 ≡ length new = omega arith in
    let last : (k : ℕ) → k ≡ length new → slice_index_or more k no_transition ≡ t =
    λ k here. ap (λ i. get_or more i no_transition) (here ∙ sym end) ∙ get_or-append-add new (t ∷ []) 0 no_transition in
    let low : (k : ℕ) → k < length new
    → byte_at more k ≡ byte_at new k = λ k within. ap (λ s. s.byte) (kept k within) in
    let low_last : (k : ℕ) → k ≡ length new → byte_at more k ≡ to = λ k here. ap (λ s. s.byte) (last k here) in
    let next_kept : (k : ℕ) → k < length new
    → next_at more k ≡ next_at new k = λ k within. ap (λ s. s.next) (kept k within) in
    let next_last : (k : ℕ) → k ≡ length new → next_at more k ≡ next = λ k here. ap (λ s. s.next) (last k here) in
    record {
      keeps = keeps-push t h.keeps;
      reads = λ k past within.
          ⊎_elim
          (λ (before : k < length new).
          let r = h.reads k past before in
          let e = low k before in
          let n = next_kept k before in
          (omega (arith, r.0), n ∙ (r.1 ∙ ap (slice_index edges) (sym e)), (λ part one. r.2 part (sym n ∙ one))))
          (λ (after : length new ≤ k).
          let here : k ≡ length new = omega arith in
          let e = low_last k here in
          let n = next_last k here in
          (omega arith, n ∙ (read ∙ ap (slice_index edges) (sym e)), (λ part one. some part (sym n ∙ one))))
          (cases_lt k (length new));
      rising = λ j k past lt within.
          ⊎_elim
          (λ (before : k < length new).
          let j_low = low j (omega arith) in
          let k_low = low k before in
          omega (arith, h.rising j k past lt before))
          (λ (after : length new ≤ k).
          let here : k ≡ length new = omega arith in
          let j_in : j < length new = omega arith in
          let j_low = low j j_in in
          let k_low = low_last k here in
          omega (arith, (h.reads j past j_in).0))
          (cases_lt k (length new));
      missing = λ b small apart.
          ⊎_elim
          (λ (before : b < to). h.missing b before
          (λ k past within same. apart k past (omega arith) (low k within ∙ same)))
          (λ (after : to ≤ b).
          let here : b ≡ to = omega arith in
          absurd (apart (length new) h.keeps.longer (omega arith) (low_last (length new) refl ∙ sym here)))
          (cases_lt b to);
      complete = λ whole. omega (arith, h.complete whole);
    }

-- a byte that leads nowhere and gets no transition
pub appended-skip : {edges : List ℕ} {all : Bool} {to : ℕ} {old new : List Transition} → slice_index edges to ≡ 1
    → all ≡ false → AreAppended edges all to old new → AreAppended edges all (to + 1) old new
appended-skip {edges} {to} nowhere part h =
    record {
      keeps = h.keeps;
      reads = λ k past within. let r = h.reads k past within in (omega (arith, r.0), r.1, r.2);
      rising = h.rising;
      missing = λ b small apart.
          ⊎_elim
          (λ (before : b < to). h.missing b before apart)
          (λ (after : to ≤ b). let here : b ≡ to = omega arith in ap (slice_index edges) here ∙ nowhere)
          (cases_lt b to);
      complete = λ whole. cc;
    }

-- after all bytes the transitions of a state are laid out
pub laid-edges : {trie : Trie} {numbering : Numbering} {back i : ℕ} {all : Bool} {edges : List ℕ}
    {old new : List Transition} → i ≢ 1 → (HasAll numbering.start i → all ≡ true)
    → ((¬ HasAll numbering.start i) → all ≡ false)
    → ((b : ℕ) → b < 256 → IsEdgeTo trie numbering back i b (slice_index edges b)) → AreAppended edges all 256 old new
    → IsAppended trie numbering back i old new
laid-edges {trie} {numbering} {back} {i} {all} {edges} {new} not_fail whole part e h =
    record {
      keeps = h.keeps;
      laid = record {
        order = h.keeps.longer;
        edges = λ k past within. let r = h.reads k past within in
            subst (IsEdgeTo trie numbering back i (byte_at new k)) (sym r.1) (e (byte_at new k) r.0);
        small = λ k past within. (h.reads k past within).0;
        rising = h.rising;
        missing = λ b small apart. subst (IsEdgeTo trie numbering back i b) (h.missing b small apart) (e b small);
        all = λ is. h.complete (whole is);
        none = λ is. absurd (not_fail is);
        longer = λ is_not k past within. (h.reads k past within).2 (part is_not);
      };
    }

-- the fail state gets no transitions
pub laid-fail : {trie : Trie} {numbering : Numbering} {back i : ℕ} {old : List Transition} → i ≡ 1
    → IsNumbering (length trie.states.items) numbering → IsAppended trie numbering back i old old
laid-fail {numbering} {i} is n =
    record {
      keeps = keeps-all;
      laid = record {
        order = omega arith;
        edges = λ k past within. absurd (omega arith);
        small = λ k past within. absurd (omega arith);
        rising = λ j k past lt within. absurd (omega arith);
        missing = λ b small apart. record {
          within = omega (arith, n.places.starts.0, n.places.starts.1);
          dead = λ none. absurd (omega arith);
          child = λ past. absurd (omega arith);
          none = λ past. absurd (omega arith);
          cases = λ past. absurd (omega arith);
        };
        all = λ has.
            absurd (⊎_elim (λ (z : i ≡ 0). omega arith)
            (λ (s : (i ≡ numbering.start) ⊎ (i ≡ numbering.start + 1)).
            ⊎_elim (λ (a : i ≡ numbering.start). omega (arith, n.places.starts.0))
            (λ (a : i ≡ numbering.start + 1). omega (arith, n.places.starts.0)) s) has);
        none = λ _. omega arith;
        longer = λ is_not k past within. absurd (omega arith);
      };
    }

-- ---- the transitions of all states

-- transitions stay laid out where they are kept
laid-kept : {trie : Trie} {numbering : Numbering} {back i from to : ℕ} {old new : List Transition} → to ≤ length old
    → Keeps old new → IsLaid trie numbering back i from to old → IsLaid trie numbering back i from to new
laid-kept {trie} {numbering} {back} {i} {to} {old} {new} within kept h =
    let same : (k : ℕ) → k < to
    → slice_index_or new k no_transition ≡ slice_index_or old k no_transition = λ k lt. kept.same k (omega arith) in
    let low : (k : ℕ) → k < to → byte_at new k ≡ byte_at old k = λ k lt. ap (λ s. s.byte) (same k lt) in
    let next : (k : ℕ) → k < to → next_at new k ≡ next_at old k = λ k lt. ap (λ s. s.next) (same k lt) in
    record {
      order = h.order;
      edges = λ k past lt. subst (IsEdgeTo trie numbering back i (byte_at new k)) (sym (next k lt))
          (subst (λ b. IsEdgeTo trie numbering back i b (next_at old k)) (sym (low k lt)) (h.edges k past lt));
      small = λ k past lt. let a = low k lt in omega (arith, a, h.small k past lt);
      rising = λ j k past less lt. let a = low j (omega arith) in let b = low k lt in
          omega (arith, h.rising j k past less lt);
      missing = λ b small apart. h.missing b small (λ k past lt e. apart k past lt (low k lt ∙ e));
      all = h.all;
      none = h.none;
      longer = λ is_not k past lt one. h.longer is_not k past lt (sym (next k lt) ∙ one);
    }

-- the transitions of one more state are laid out
pub laid-more : {trie : Trie} {numbering : Numbering} {back states : ℕ} {offsets : List ℕ} {old new : List Transition}
    → AreLaidOut trie numbering back states offsets old → IsAppended trie numbering back states old new
    → AreLaidOut trie numbering back (states + 1) (offsets ++ length new ∷ []) new
laid-more {trie} {numbering} {back} {states} {offsets} {old} {new} l a =
    let more = offsets ++ length new ∷ [] in
    let kept : (i : ℕ) → i ≤ states
    → slice_index more i ≡ slice_index offsets i =
    λ i le. index-kept offsets (length new) i (omega (arith, l.counted)) in
    let last : (i : ℕ) → i ≡ states + 1
    → slice_index more i ≡ length new = λ i is. index-last offsets (is ∙ sym l.counted) in
    record {
      counted = omega (arith, length-append offsets (length new ∷ []), l.counted);
      last = last (states + 1) refl;
      within = λ i le.
          ⊎_elim
          (λ (before : i < states + 1). let e = kept i (omega arith) in
          omega (arith, l.within i (omega arith), a.keeps.longer))
          (λ (after : states + 1 ≤ i). let e = last i (omega arith) in omega arith)
          (cases_lt i (states + 1));
      laid = λ i lt.
          ⊎_elim
          (λ (before : i < states).
          let from = kept i (omega arith) in
          let to = kept (i + 1) (omega arith) in
          let h = laid-kept (l.within (i + 1) (omega arith)) a.keeps (l.laid i before) in
          subst (λ n. IsLaid trie numbering back i (slice_index more i) n new) (sym to)
          (subst (λ n. IsLaid trie numbering back i n (slice_index offsets (i + 1)) new) (sym from) h))
          (λ (after : states ≤ i).
          let here : i ≡ states = omega arith in
          let from : slice_index more i ≡ length old = kept i (omega arith)
          ∙ (ap (slice_index offsets) here ∙ l.last) in
          let to : slice_index more (i + 1) ≡ length new = last (i + 1) (omega arith) in
          let h : IsLaid trie numbering back i (length old) (length new) new =
          subst (λ n. IsLaid trie numbering back n (length old) (length new) new) (sym here) a.laid in
          subst (λ n. IsLaid trie numbering back i (slice_index more i) n new) (sym to)
          (subst (λ n. IsLaid trie numbering back i n (length new) new) (sym from) h))
          (cases_lt i states);
    }
