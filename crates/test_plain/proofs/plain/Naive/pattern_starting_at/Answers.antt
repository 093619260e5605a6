use Rattle.test_plain.proofs.plain.Occurrences.{none_numbered}
use Rattle.std.proofs.Common.{◌+◌, ◌<◌, length, sym, ap, subst, refl, arith}
use Rattle.test_plain.specs.Naive.{Plain, PlainOccurs}
use Rattle.test_plain.proofs.plain.Occurrences.{fits_too, only_from, none_from}
use Rattle.test_plain.proofs.plain.Naive.pattern_starting_at.Goals as goal
use Rattle.test_plain.proofs.plain.Naive.pattern_starting_at.Goals.{then-end-at-via-then-end-at, then-end-at-via-else-end-at+then-end-at-2}

pub returns-then-end-at : goal.returns-then-end-at
returns-then-end-at c =
    let s : Plain = c.args.self.now in
    let fits = fits_too c.self.view_is c.self.invariant.1 in
    let end_is = ap (λ t. t.search.end) c.self.view_is in
    let past : s.search.end < c.args.at + length c.in_ok-pattern.pattern.now =
    elim c.then-end-at.branch [
      | then-end-at-via-then-end-at w ↦ omega arith
      | then-end-at-via-else-end-at+then-end-at-2 w ↦ omega arith
    ] in
    none_from s _ c.in_ok-pattern.pattern.now fits (sym c.in_ok-pattern.ensures) _ past

pub returns-then-occurs : goal.returns-then-occurs
returns-then-occurs c = (
  ((c.if-occurs.ensures.0 refl, refl), refl),
  only_from _ _ c.in_ok-pattern.pattern.now (fits_too c.self.view_is c.self.invariant.1) (sym c.in_ok-pattern.ensures)
      _,
)

pub returns-else-occurs : goal.returns-else-occurs
returns-else-occurs c =
    λ o h. let e =
    c.if-occurs.ensures.1
    (subst (PlainOccurs c.args.self.now)
    (only_from _ _ c.in_ok-pattern.pattern.now (fits_too c.self.view_is c.self.invariant.1)
    (sym c.in_ok-pattern.ensures) _ o h) h.0.0) in cc

pub returns-in_err-pattern : goal.returns-in_err-pattern
returns-in_err-pattern c =
    let none = none_numbered c.args.self.now c.in_err-pattern.ensures in
    rw c.from_residual.ensures (λ o h. none o h.0.0 h.1)
