-- A pattern that can't be entered, and the limit that it passes.
use Rattle.std.proofs.Common.{◌≡◌, ℕ, ◌+◌, ◌-◌, ◌<◌, ◌≤◌, false, List, length, get_or, take, map, Option, sym, ap, subst, ◌∙◌, ⊎_elim, arith}
use Rattle.std.proofs.lemmas.Bool.{cases_lt, cases_eq}
use Rattle.std.proofs.lemmas.List.{length-map}
use Rattle.ac_input.specs.declared.search.MatchKind.{MatchKind}
use Rattle.ac_input.specs.declared.search.MatchKind.TheVariants.{LeftmostFirst}
use Rattle.ac_input.specs.Dictionary.{Dictionary}
use Rattle.ac_input.specs.Laws.LiveLaws.{canonical}
use Rattle.ac_input.specs.Number.{greatest_number}
use Rattle.ac_input.specs.Limits.{canonical_text, Passes, StateNumber}
use Rattle.ac_noncontiguous.specs.declared.error.BuildErrorKind.{BuildErrorKind}
use Rattle.ac_noncontiguous.specs.declared.error.BuildErrorKind.TheVariants.{StateIDOverflow, PatternIDOverflow, PatternTooLong, Memory}
use Rattle.ac_noncontiguous.specs.declared.trie.State.{State}
use Rattle.ac_noncontiguous.specs.declared.trie.Trie.{Trie}
use Rattle.ac_noncontiguous.specs.Trie.Tree.{IsTree, depth, text, is_match}
use Rattle.ac_noncontiguous.specs.Trie.Entering.{IsWalked, HasNoChild, IsStuck}
use Rattle.ac_noncontiguous.specs.Standing.{HasEntered, IsPatternRefused}
use Rattle.ac_noncontiguous.specs.Trie.Kept.{IsTrieOf}
use Rattle.ac_noncontiguous.proofs.trie.TextLemmas.{text-one}
use Rattle.ac_noncontiguous.proofs.trie.StandingLemmas.{entered-walked}
use Rattle.ac_noncontiguous.proofs.nfa.CountLemmas.{none-beyond, stuck-counts}

-- If the next child is missing under leftmost-first, no pattern ends in a state on the pattern's way.
stuck-free : {kind : MatchKind} {old mid : List State} {bytes : List ℕ} {read at : ℕ} → IsTree mid
    → IsWalked kind old mid bytes read at → read < length bytes → (kind ≡ LeftmostFirst → is_match mid at ≡ false)
    → HasNoChild mid at (get_or bytes read 0) → kind ≡ LeftmostFirst → {i : ℕ} → i < length mid
    → depth mid i < length bytes → text mid i ≡ take (depth mid i) bytes → is_match mid i ≡ false
stuck-free {mid} {bytes} {read} {at} tree w more free none first {i} within shallow spelled =
    ⊎_elim
    (λ (less : depth mid i < read). w.unmatched first i within less spelled)
    (λ (ge : read ≤ depth mid i).
    ⊎_elim
    (λ (deep : depth mid i ≡ read).
    let here : i ≡ at =
    text-one mid tree within w.reached.0 (spelled ∙ (ap (λ d. take d bytes) deep ∙ sym w.reached.2)) in
    ap (is_match mid) here ∙ free first)
    (λ ne. absurd
    (none-beyond mid bytes tree w.reached.0 w.reached.2 more none i (depth mid i) within (omega arith) (omega arith)
    spelled))
    (cases_eq (depth mid i) read))
    (cases_lt (depth mid i) read)

-- a pattern whose next child has no number passes the limit on states
stuck-passes : {m : Dictionary} (p : List ℕ) {old mid : List State} {ends : List (Option ℕ)} {read at : ℕ}
    → HasEntered m old ends → IsTree old → IsTree mid → length ends ≤ greatest_number → length p ≤ greatest_number
    → IsWalked m.kind old mid (canonical_text m p) read at → read < length (canonical_text m p)
    → (m.kind ≡ LeftmostFirst → is_match mid at ≡ false) → HasNoChild mid at (get_or (canonical_text m p) read 0)
    → greatest_number + 1 < length mid + 4 → Passes m p StateNumber
stuck-passes {m} p {mid} {read} s tree mid_tree few short w more free none many =
    let len : length (canonical_text m p) ≡ length p = length-map p (canonical m.pairing) in
    let entered = entered-walked 0 0 s tree w.extends
    (λ first i within shallow spelled. stuck-free mid_tree w more free none first within (omega arith) spelled) in (
      omega (arith, s.counted),
      short,
      (
        length mid - 1 + (length p - read) + 4,
        stuck-counts tree mid_tree s w (omega arith) entered none,
        omega (arith, mid_tree.start.0),
      ),
    )

-- if the trie of a dictionary can't take a pattern, that pattern is refused for the cause that is reported
pub trie-stuck : {m : Dictionary} (p : List ℕ) {old : Trie} (error : BuildErrorKind) → IsTrieOf m old
    → length old.ends.items ≤ greatest_number → length p ≤ greatest_number
    → IsStuck old.kind old.states.items (map (canonical old.pairing) p) error → IsPatternRefused m p error
trie-stuck {m} p {old} (StateIDOverflow max requested) t few short stuck =
    let h : IsStuck m.kind old.states.items (canonical_text m p) (StateIDOverflow max requested) =
    subst (λ k. IsStuck k old.states.items (canonical_text m p) (StateIDOverflow max requested)) (sym t.kind)
    (subst (λ q. IsStuck old.kind old.states.items (map (canonical q) p) (StateIDOverflow max requested))
    (sym t.pairing) stuck) in
    (h.7.0, h.7.1, stuck-passes p t.stands old.tree h.3 few short h.5 h.4 h.6 h.7.3 h.7.2)
trie-stuck p (PatternIDOverflow max requested) t few short stuck = absurd stuck.7
trie-stuck p (PatternTooLong pattern len) t few short stuck = absurd stuck.7
trie-stuck p Memory t few short stuck = tt
