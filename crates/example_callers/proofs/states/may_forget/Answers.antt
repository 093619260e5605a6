-- In a start state that matches nothing, no byte of the text is live.
use Rattle.std.proofs.Common.{◌≡◌, ℕ, List, length, take, ap, sym, ◌∙◌, subst, arith}
use Rattle.std.proofs.Math.Seq.{take-length}
use Rattle.std.proofs.lemmas.Bool.{false≢true}
use Rattle.ac_input.specs.declared.search.Anchored.TheVariants.{No}
use Rattle.example_callers.proofs.states.StateLemmas.{list-none}
use Rattle.example_callers.proofs.states.may_forget.Goals as goal

pub returns : goal.returns
returns g c = λ start.
    let a = c.args.automaton.now in
    let x = c.args.text.now in
    let sid = c.loop-byte.sid in
    let all : c.loop-byte.byte-index ≡ length x = omega arith in
    let whole = ap (λ n. take n x) all ∙ take-length x in
    let reads = subst (λ t. g.A.Automaton.Reaches a No t sid) whole c.loop-byte.invariant in
    let none = list-none (g.A.Automaton.matches a sid)
    (λ some. false≢true (sym c.if-is_match.false ∙ c.is_match.ensures.1 some)) in
    (c.is_start.ensures.tells No x reads).empty start none
