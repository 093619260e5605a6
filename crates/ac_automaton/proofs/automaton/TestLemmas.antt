-- The tests of a number: whether it is one of two starts, and whether it is at most another number.
use Rattle.std.proofs.Common.{◌≡◌, ◌≢◌, ◌⊎◌, ◌↔◌, ℕ, ◌<◌, ◌≤◌, Bool, true, false, IsTrue, inl, inr, ⊎_elim, refl, arith}
use Rattle.std.specs.Prelude.{◌==◌, ◌||◌, nat_le}
use Rattle.std.proofs.lemmas.Bool.{cases_eq, or_cases, eqb-true, leb-true, le-leb}
use Rattle.std.proofs.lemmas.Bool.Decides.{nat_tests}

-- the test whether a number is at most another
pub test-le : (a b : ℕ) → IsTrue (nat_le a b) ↔ (a ≤ b)
test-le a b = (leb-true a b, le-leb a b)

-- the first of two starts passes the test
start-first : (sid start next : ℕ) → sid ≡ start → IsTrue ((sid == start) || (sid == next))
start-first sid start next a = grind (arith, nat_tests)

-- each of two starts passes the test
pub start-has : (sid start next : ℕ) → (sid ≡ start) ⊎ (sid ≡ next) → IsTrue ((sid == start) || (sid == next))
start-has sid start next (inl a) = start-first sid start next a
start-has sid start next (inr b) =
    ⊎_elim
    (λ (same : sid ≡ start). start-first sid start next same)
    (λ (other : sid ≢ start). grind (arith, nat_tests))
    (cases_eq sid start)

-- only the two starts pass the test
pub start-is : (sid start next : ℕ) → IsTrue ((sid == start) || (sid == next)) → (sid ≡ start) ⊎ (sid ≡ next)
start-is sid start next h =
    ⊎_elim
    (λ (a : (sid == start) ≡ true). inl (eqb-true sid start a))
    (λ (b : (sid == next) ≡ true). inr (eqb-true sid next b))
    (or_cases (sid == start) (sid == next) h)

-- the dead state doesn't pass the test
pub start-none : (sid start next : ℕ) → sid ≡ 0 → 0 < start → 0 < next → ((sid == start) || (sid == next)) ≡ false
start-none sid start next is some more = by ((sid == start) || (sid == next)) refl
  where
    by : (r : Bool) → ((sid == start) || (sid == next)) ≡ r → ((sid == start) || (sid == next)) ≡ false
    by true e =
        absurd (⊎_elim (λ (a : sid ≡ start). omega (arith, a, is, some))
        (λ (b : sid ≡ next). omega (arith, b, is, more)) (start-is sid start next e))
    by false e = e
