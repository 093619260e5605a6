use Rattle.std.proofs.Common.{refl, subst}
use Rattle.ac_input.specs.Best.{IsAfter}
use Rattle.test_plain.proofs.plain.Naive.later_ending_at.Goals as goal

pub returns-then-is_after : goal.returns-then-is_after
returns-then-is_after c =
    let found = c.in_ok-found.ensures in
    (((found.0.0, c.if-is_after.ensures.0 refl), found.0.1), λ o h. found.1 o (h.0.0, h.1))

pub returns-else-is_after : goal.returns-else-is_after
returns-else-is_after c =
    let found = c.in_ok-found.ensures in
    λ o h. let e = c.if-is_after.ensures.1 (subst (IsAfter c.args.before.now) (found.1 o (h.0.0, h.1)) h.0.1) in cc
