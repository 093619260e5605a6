use Rattle.test_plain.proofs.plain.Occurrences.{none_numbered}
use Rattle.std.proofs.Common.{◌<◌, ◌⊎◌, inl, inr, length, sym, ap, subst, refl, arith}
use Rattle.test_plain.specs.Naive.{Plain, PlainOccurs}
use Rattle.test_plain.proofs.plain.Occurrences.{fits_too, only_to, none_to}
use Rattle.test_plain.proofs.plain.Naive.pattern_ending_at.Goals as goal
use Rattle.test_plain.proofs.plain.Naive.pattern_ending_at.Goals.{then-self-end-via-then-self-end, then-self-end-via-else-self-end+then-end-pattern}

pub returns-then-self-end : goal.returns-then-self-end
returns-then-self-end c =
    let s : Plain = c.args.self.now in
    let fits = fits_too c.self.view_is c.self.invariant.1 in
    let end_is = ap (λ t. t.search.end) c.self.view_is in
    let out : (s.search.end < c.args.end)
    ⊎ (c.args.end < length c.in_ok-pattern.pattern.now) =
    elim c.then-self-end.branch [
      | then-self-end-via-then-self-end w ↦ inl (omega arith)
      | then-self-end-via-else-self-end+then-end-pattern w ↦ inr (omega arith)
    ] in
    none_to s _ c.in_ok-pattern.pattern.now fits (sym c.in_ok-pattern.ensures) _ out

pub returns-then-occurs : goal.returns-then-occurs
returns-then-occurs c = (
  ((c.if-occurs.ensures.0 refl, refl), refl),
  only_to _ _ c.in_ok-pattern.pattern.now (fits_too c.self.view_is c.self.invariant.1) (sym c.in_ok-pattern.ensures)
      _,
)

pub returns-else-occurs : goal.returns-else-occurs
returns-else-occurs c =
    λ o h. let e =
    c.if-occurs.ensures.1
    (subst (PlainOccurs c.args.self.now)
    (only_to _ _ c.in_ok-pattern.pattern.now (fits_too c.self.view_is c.self.invariant.1) (sym c.in_ok-pattern.ensures)
    _ o h) h.0.0) in cc

pub returns-in_err-pattern : goal.returns-in_err-pattern
returns-in_err-pattern c =
    let none = none_numbered c.args.self.now c.in_err-pattern.ensures in
    rw c.from_residual.ensures (λ o h. none o h.0.0 h.1)
