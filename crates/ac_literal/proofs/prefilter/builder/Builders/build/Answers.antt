-- If no way is taken, neither packed search nor start bytes serve.
use Rattle.std.proofs.Common.{◌≡◌, false, Option, None, Some, sym, subst, inl, inr, arith}
use Rattle.std.specs.Option.{is_some}
use Rattle.std.proofs.lemmas.Bool.{false≢true}
use Rattle.std.proofs.lemmas.Grind.{common_steps}
use Rattle.std.specs.Prelude.{MatchOption, List, ℕ}
use Rattle.ac_literal.specs.Prefilter.Strategies.{AreStarts, AreFull}
use Rattle.ac_literal.specs.Prefilter.{IsStrategyOf, MemmemServes, PackedServes, AreStartBytes}
use Rattle.ac_literal.specs.declared.prefilter.needles.Needles.{Needles}
use Rattle.ac_literal.proofs.prefilter.builder.Builders.build.Goals as goal

-- where there is no result, the condition for none holds
where_none : (N : Type 0) (F : Needles → Type 0) (r : Option Needles) → is_some r ≡ false → MatchOption r N F → N
where_none N F None e h = h
where_none N F (Some needles) e h = absurd (false≢true (sym e))

pub returns-then-is_none : goal.returns-then-is_none
returns-then-is_none c =
    λ m e collected demand.
    let several : ¬ MemmemServes m = subst (λ r. MatchOption r (¬ MemmemServes m) (IsStrategyOf m)) c.in_default.is
    (c.in_ok-strategy.ensures m e collected) in
    let no_packed : ¬ (AreFull m.patterns × PackedServes m) = subst
    (λ r. MatchOption r (¬ (AreFull m.patterns × PackedServes m)) (IsStrategyOf m)) c.in_default-2.is
    (c.in_ok-strategy-2.ensures m several collected) in
    let no_starts : ¬ (AreFull m.patterns × ((bytes : List ℕ) × AreStartBytes m bytes)) = where_none
    (¬ (AreFull m.patterns × ((bytes : List ℕ) × AreStartBytes m bytes))) (AreStarts m)
    c.build_start_bytes-starts.result c.if-is_none.ensures (c.build_start_bytes-starts.ensures m collected) in
    elim demand [ inl packed ↦ no_packed packed | inr starts ↦ no_starts starts ]

pub returns-in_err-strategy : goal.returns-in_err-strategy
returns-in_err-strategy c = grind (arith, common_steps)

pub returns-in-Some : goal.returns-in-Some
returns-in-Some c = grind (arith, common_steps)

pub returns-then-prefers : goal.returns-then-prefers
returns-then-prefers c = grind (arith, common_steps)

pub returns-in_err-strategy-2 : goal.returns-in_err-strategy-2
returns-in_err-strategy-2 c = grind (arith, common_steps)

pub returns-in-Some-2 : goal.returns-in-Some-2
returns-in-Some-2 c = grind (arith, common_steps)

pub returns : goal.returns
returns c = grind (arith, common_steps)
