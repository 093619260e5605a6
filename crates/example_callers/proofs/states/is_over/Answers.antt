-- The whole text leads to the last state.
use Rattle.std.proofs.Common.{◌≡◌, ℕ, List, length, take, ap, ◌∙◌, subst, arith}
use Rattle.std.proofs.Math.Seq.{take-length}
use Rattle.ac_input.specs.declared.search.Anchored.TheVariants.{Yes}
use Rattle.example_callers.proofs.states.is_over.Goals as goal

pub returns : goal.returns
returns g c =
    let a = c.args.automaton.now in
    let x = c.args.text.now in
    let all : c.loop-byte.byte-index ≡ length x = omega arith in
    let whole = ap (λ n. take n x) all ∙ take-length x in
    c.is_dead.ensures Yes x (subst (λ t. g.A.Automaton.Reaches a Yes t c.loop-byte.sid) whole c.loop-byte.invariant)
