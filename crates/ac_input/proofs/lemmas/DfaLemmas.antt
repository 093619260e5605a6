-- A dictionary has only one size of a deterministic automaton.
use Rattle.std.proofs.Common.{◌≡◌, ℕ, ◌-◌, ◌*◌, ◌^◌, Bool, sym, ap, subst, ◌∙◌, arith}
use Rattle.ac_input.specs.declared.search.StartKind.{StartKind}
use Rattle.ac_input.specs.Alphabet.{IsLeastPowerOfTwo}
use Rattle.ac_input.specs.Dfa.{dfa_states, IsDfaSize}
use Rattle.ac_input.specs.Dictionary.{Dictionary}
use Rattle.ac_input.proofs.lemmas.ClassLemmas.{alphabet-one}
use Rattle.ac_input.proofs.lemmas.LimitLemmas.{states-one}

-- there is only one least power of two that is enough
power-one : {n a b : ℕ} → IsLeastPowerOfTwo n a → IsLeastPowerOfTwo n b → a ≡ b
power-one g h =
    let low = g.1.least h.0 h.1.enough in
    let high = h.1.least g.0 g.1.enough in
    let same : g.0 ≡ h.0 = omega (arith, low, high) in
    g.2 ∙ (ap (λ e. 2 ^ e) same ∙ sym h.2)

-- there is only one size of a deterministic automaton
pub dfa-one : (m : Dictionary) (kind : StartKind) (classes : Bool) (a b : ℕ) → IsDfaSize m kind classes a
    → IsDfaSize m kind classes b → a ≡ b
dfa-one m kind classes a b g h =
    let states : g.0 ≡ h.0 = states-one m g.0 h.0 g.3 h.3 in
    let alphabet : g.1 ≡ h.1 = alphabet-one m classes g.1 h.1 g.4 h.4 in
    let stride : g.2 ≡ h.2 = power-one (subst (λ n. IsLeastPowerOfTwo n g.2) alphabet g.5) h.5 in
    g.6 ∙ (ap (λ n. (dfa_states kind n - 1) * g.2) states ∙ (ap (λ n. (dfa_states kind h.0 - 1) * n) stride ∙ sym h.6))
