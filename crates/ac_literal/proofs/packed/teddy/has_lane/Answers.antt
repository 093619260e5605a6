use Rattle.std.proofs.Common.{◌≡◌, ℕ, Bool, true, false, not, eqb, IsTrue, refl}
use Rattle.std.proofs.lemmas.Bool.{eqb-true}
use Rattle.std.specs.Prelude.{IsFalse}
use Rattle.ac_literal.proofs.packed.LaneLemmas.{or-none, or-zero}
use Rattle.ac_literal.proofs.packed.teddy.has_lane.Goals as goal

-- a number that fails the test for not being 0 is 0
is_zero : (x : ℕ) → IsFalse (not (eqb x 0)) → x ≡ 0
is_zero x h = by (eqb x 0) refl h
  where
    by : (t : Bool) → eqb x 0 ≡ t → IsFalse (not t) → x ≡ 0
    by true e _ = eqb-true x 0 e
    by false e f = cc

-- 0 fails it
not_zero : (x : ℕ) → x ≡ 0 → ¬ IsTrue (not (eqb x 0))
not_zero x is h = cc

pub returns-clause-none : goal.returns-clause-none
returns-clause-none c none k within = or-none 0 c.args.lanes (is_zero _ none) k

pub returns-clause-some : goal.returns-clause-some
returns-clause-some c some zeros =
    not_zero _ (or-zero c.args.lanes (λ k within. zeros k (rw c.fits-lanes.0 at within))) some
