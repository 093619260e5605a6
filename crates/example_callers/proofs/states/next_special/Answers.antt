-- Reading on stops before the end only at a special state.
use Rattle.std.proofs.Common.{◌≡◌, ℕ, length, inl, inr, sym, ◌∙◌, subst, arith}
use Rattle.std.proofs.Math.Logic.{∥∥₁_map}
use Rattle.std.proofs.lemmas.Bool.{cases_lt, false≢true}
use Rattle.ac_automaton.specs.Automaton.{PassesPlain}
use Rattle.example_callers.proofs.states.next_special.Goals as goal

pub is_special-requires : goal.is_special-requires
is_special-requires g c = ∥∥₁_map c.requires (λ w. (c.args.anchored, _, c.advance-end.ensures.goes.reads w.0 w.1))

pub returns-else-is_special-clause-none : goal.returns-else-is_special-clause-none
returns-else-is_special-clause-none g c =
    let a = c.args.automaton.now in
    let x = c.args.text.now in
    let end = c.advance-end.result in
    let goes = c.advance-end.ensures.goes in
    elim (cases_lt end.taken (length x)) [
      | inl early ↦ absurd (false≢true (sym c.if-is_special.false ∙ c.is_special.ensures ∙ goes.stops early))
      | inr late ↦
          let all : end.taken ≡ length x = omega (arith, goes.taken.0) in
          subst (λ taken. PassesPlain (g.A.Automaton.Reaches a c.args.anchored) (g.A.Automaton.special a) c.args.sid x
          taken) all goes.plain
    ]
