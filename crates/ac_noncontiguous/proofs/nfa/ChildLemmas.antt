-- Which texts begin an entered pattern, by the children of the trie's states. The last byte needn't be canonical.
use Rattle.std.proofs.Common.{◌≡◌, ℕ, ◌<◌, List, [], ◌∷◌, ◌++◌, length, ap₂, subst, Option}
use Rattle.ac_input.specs.Dictionary.{Dictionary, BeginsEntered}
use Rattle.ac_input.specs.Laws.LiveLaws.{canonical}
use Rattle.ac_input.proofs.lemmas.AlikeLemmas.{begins-same, canonical-last, canonical-twice}
use Rattle.ac_input.proofs.lemmas.SameLemmas.{same_text-back}
use Rattle.ac_noncontiguous.specs.declared.trie.State.{State}
use Rattle.ac_noncontiguous.specs.Trie.Tree.{parent, byte, text}
use Rattle.ac_noncontiguous.proofs.trie.BridgeLemmas.{Stands, begins-child, child-begins}

-- a state's text with a byte begins an entered pattern only if the state has a child for the canonical byte
pub begins-child_for : {m : Dictionary} {states : List State} {ends : List (Option ℕ)} → Stands m states ends
    → {i : ℕ} (b : ℕ) → i < length states → BeginsEntered m (text states i ++ b ∷ [])
    → (c : ℕ) × (0 < c) × (c < length states) × (parent states c ≡ i) × (byte states c ≡ canonical m.pairing b)
begins-child_for {m} {states} s {i} b within begins =
    let t = text states i in
    let low = canonical m.pairing b in
    begins-child s within (canonical-twice m.pairing b)
    (begins-same m (t ++ b ∷ []) (t ++ low ∷ []) (canonical-last m.pairing t b) begins)

-- if a state has a child for the canonical byte, its text with the byte begins an entered pattern
pub child_for-begins : {m : Dictionary} {states : List State} {ends : List (Option ℕ)} → Stands m states ends
    → {i : ℕ} (b : ℕ) {c : ℕ} → 0 < c → c < length states → parent states c ≡ i → byte states c ≡ canonical m.pairing b
    → BeginsEntered m (text states i ++ b ∷ [])
child_for-begins {m} {states} s {i} b some within above is_low =
    let t = text states i in
    let low = canonical m.pairing b in
    let begins : BeginsEntered m (t ++ low ∷ []) =
    subst (BeginsEntered m) (ap₂ (λ p x. text states p ++ x ∷ []) above is_low) (child-begins s some within) in
    begins-same m (t ++ low ∷ []) (t ++ b ∷ [])
    (same_text-back m.pairing (t ++ b ∷ []) (t ++ low ∷ []) (canonical-last m.pairing t b)) begins
