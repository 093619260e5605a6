-- Texts that are dead, since they are longer than any pattern and no later place of them is alive.
use Rattle.std.proofs.Common.{◌≡◌, ◌≢◌, ℕ, zero, suc, ◌+◌, ◌<◌, ◌≤◌, List, [], ◌∷◌, ◌++◌, length, replicate, true, false, slice_get, Some, None, ap, arith, length-append}
use Rattle.std.proofs.lemmas.List.{length-replicate}
use Rattle.std.proofs.lemmas.Option.{same_Some}
use Rattle.ac_input.specs.Dictionary.{Dictionary, BeginsEntered}
use Rattle.ac_input.specs.States.{LeadsTo, FailsTo}
use Rattle.ac_input.specs.Work.{longest}
use Rattle.ac_input.proofs.lemmas.FailureLemmas.{failure-live, failure-stays_none}
use Rattle.ac_input.proofs.lemmas.LeadsLemmas.{leads-dead}

-- no pattern is longer than the longest
pub no_longer-pattern : (ps : List (List ℕ)) (n : ℕ) {p : List ℕ} → slice_get ps n ≡ Some p → length p ≤ longest ps
no_longer-pattern [] n {p} is = absurd (let e : None ≡ Some p = is in cc)
no_longer-pattern (q ∷ ps) zero {p} is = let e : length q ≡ length p = ap length (same_Some q p is) in omega arith
no_longer-pattern (q ∷ ps) (suc n) is = let so = no_longer-pattern ps n is in omega (arith, so)

-- a text that is longer than any pattern begins no entered pattern
long-begins : (m : Dictionary) (text : List ℕ) → longest m.patterns < length text → ¬ BeginsEntered m text
long-begins m [] long begins = absurd (omega (arith, long))
long-begins m (b ∷ bs) long begins = let so = no_longer-pattern m.patterns begins.0 begins.2.0 in
    let front = begins.3.0 in omega (arith, so, front, long)

-- more bytes than any pattern has
abbrev pub too_many : Dictionary → List ℕ
too_many m = replicate (longest m.patterns + 1) 0

-- a text longer than any pattern is dead from the anchored start
pub dead-anchored : {m : Dictionary} → LeadsTo m true (too_many m) None
dead-anchored {m} =
    leads-dead
    (long-begins m (too_many m) (let long = length-replicate {A = ℕ} (longest m.patterns + 1) 0 in omega (arith, long)))

-- from the unanchored start, a text that isn't empty and fails to the dead state leads there with more bytes than any
-- pattern has
pub dead-failing : {m : Dictionary} {text : List ℕ} → text ≢ [] → FailsTo m text None
    → LeadsTo m false (text ++ too_many m) None
dead-failing {m} {text} some failure =
    let long = length-replicate {A = ℕ} (longest m.patterns + 1) 0 in
    let both = length-append text (too_many m) in
    (failure-live m (text ++ too_many m) None (long-begins m (text ++ too_many m) (omega (arith, long, both)))).0
    (failure-stays_none (too_many m) some failure)
