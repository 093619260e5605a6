-- How a trie changes when one more pattern is added.
use Rattle.std.proofs.Common.{◌≡◌, ℕ, ◌+◌, ◌≤◌, List, [], ◌∷◌, ◌++◌, length, map, Option, Some, None, sym, ap, subst, ◌∙◌, arith}
use Rattle.ac_input.specs.Dictionary.{Dictionary}
use Rattle.ac_input.specs.Laws.LiveLaws.{canonical}
use Rattle.ac_input.specs.Number.{greatest_number}
use Rattle.ac_input.specs.Limits.{with_pattern, canonical_text, IsWithinLimits}
use Rattle.ac_noncontiguous.specs.declared.trie.State.{State}
use Rattle.ac_noncontiguous.specs.declared.trie.Trie.{Trie}
use Rattle.ac_noncontiguous.specs.Trie.Entering.{IsMarked, IsEnd}
use Rattle.ac_noncontiguous.specs.Standing.{HasEntered}
use Rattle.ac_noncontiguous.specs.Trie.Kept.{KeepsSettings, IsNoted, IsTrieOf}
use Rattle.ac_noncontiguous.proofs.trie.StandingLemmas.{more-entered, stand-entered, more-left_out, stand-left_out}
use Rattle.ac_noncontiguous.proofs.trie.FirstLemmas.{ordered-more}
use Rattle.ac_noncontiguous.proofs.nfa.CountLemmas.{stand-counts}
use Rattle.std.specs.Prelude.{◌<◌}
use Rattle.ac_input.specs.States.{BeginsBefore}
use Rattle.ac_noncontiguous.specs.Trie.Tree.{depth, text}

-- where a pattern ends in a trie is where it ends for the dictionary
pub trie-ends : {m : Dictionary} (p : List ℕ) {old : Trie} (mid : List State) (end : Option ℕ) → IsTrieOf m old
    → IsEnd old.kind old.states.items mid (map (canonical old.pairing) p) end
    → IsEnd m.kind old.states.items mid (canonical_text m p) end
trie-ends {m} p {old} mid end t h =
    subst (λ k. IsEnd k old.states.items mid (canonical_text m p) end) (sym t.kind)
    (subst (λ q. IsEnd old.kind old.states.items mid (map (canonical q) p) end) (sym t.pairing) h)

-- a trie with such states and ends stands for their dictionary
trie-of : {m : Dictionary} {states : List State} {ends : List (Option ℕ)} {new : Trie} → m.pairing ≡ new.pairing
    → m.kind ≡ new.kind → new.states.items ≡ states → new.ends.items ≡ ends → HasEntered m states ends
    → ((i j : ℕ) → i < j → j < length states → depth states i ≡ depth states j
    → BeginsBefore m (text states i) (text states j)) → IsTrieOf m new
trie-of {m} {states} {ends} {new} pairing kind is_states is_ends stands by_first =
    record {
      pairing = pairing;
      kind = kind;
      stands = subst (λ s. HasEntered m s new.ends.items) (sym is_states)
          (subst (λ e. HasEntered m states e) (sym is_ends) stands);
      by_first = subst (λ s. (i j : ℕ) → i < j → j < length s → depth s i ≡ depth s j
          → BeginsBefore m (text s i) (text s j)) (sym is_states) by_first;
    }

-- a trie with the same states, ends and settings stands for the same dictionary
pub trie-same : {m : Dictionary} {old new : Trie} → new.states ≡ old.states → KeepsSettings old new → IsTrieOf m old
    → IsTrieOf m new
trie-same is kept t =
    trie-of (t.pairing ∙ sym kept.pairing) (t.kind ∙ sym kept.kind) (ap (λ v. v.items) is) (ap (λ v. v.items) kept.ends)
    t.stands t.by_first

-- one more pattern is entered
pub trie-entered : {m : Dictionary} (p : List ℕ) {old mid marked new : Trie} {id : ℕ} → IsTrieOf m old
    → length p ≤ greatest_number → IsEnd old.kind old.states.items mid.states.items (map (canonical old.pairing) p)
    (Some id) → KeepsSettings old mid → IsMarked mid.states.items marked.states.items id → KeepsSettings mid marked
    → IsNoted marked new (Some id) → IsTrieOf (with_pattern m p) new
trie-entered {m} p {old} {mid} {marked} {new} {id} t short w kept k kept_marked n =
    let more = more-entered t.stands old.tree short (trie-ends p mid.states.items (Some id) t w) k in
    let stands = stand-entered p t.stands old.tree short (trie-ends p mid.states.items (Some id) t w) k in
    let ends : new.ends.items ≡ old.ends.items ++ Some id ∷ [] = n.ends
    ∙ ap (λ v. v.items ++ Some id ∷ []) (kept_marked.ends ∙ kept.ends) in
    trie-of (t.pairing ∙ sym (n.pairing ∙ (kept_marked.pairing ∙ kept.pairing)))
    (t.kind ∙ sym (n.kind ∙ (kept_marked.kind ∙ kept.kind))) (ap (λ v. v.items) n.states) ends stands
    (ordered-more old.tree marked.tree t.stands t.by_first more)

-- one more pattern is shadowed
pub trie-left_out : {m : Dictionary} (p : List ℕ) {old mid new : Trie} → IsTrieOf m old → length p ≤ greatest_number
    → IsEnd old.kind old.states.items mid.states.items (map (canonical old.pairing) p) None → KeepsSettings old mid
    → IsNoted mid new None → IsTrieOf (with_pattern m p) new
trie-left_out {m} p {old} {mid} {new} t short w kept n =
    let h = trie-ends p mid.states.items None t w in
    let more = more-left_out t.stands old.tree short h.0 h.1.2 h.1.3 h.1.4 in
    let stands = stand-left_out p t.stands old.tree short h.0 h.1.2 h.1.3 h.1.4 in
    let ends : new.ends.items ≡ old.ends.items ++ None ∷ [] = n.ends ∙ ap (λ v. v.items ++ None ∷ []) kept.ends in
    trie-of (t.pairing ∙ sym (n.pairing ∙ kept.pairing)) (t.kind ∙ sym (n.kind ∙ kept.kind))
    (ap (λ v. v.items) n.states) ends stands (ordered-more old.tree mid.tree t.stands t.by_first more)

-- a dictionary with a trie is within the limits
pub trie-within : {m : Dictionary} {trie : Trie} → IsTrieOf m trie → IsWithinLimits m
trie-within {trie} t =
    record {
      patterns = omega (arith, t.stands.counted, trie.counted);
      lengths = t.stands.short;
      states = (length trie.states.items + 3, stand-counts trie.tree t.stands, trie.few);
    }
