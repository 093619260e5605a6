-- The match list of the last state has the patterns that end the text.
use Rattle.std.proofs.Common.{◌≡◌, ℕ, List, length, take, ap, ◌∙◌, subst, arith}
use Rattle.std.proofs.Math.Seq.{take-length}
use Rattle.ac_input.specs.declared.search.Anchored.TheVariants.{No}
use Rattle.example_callers.proofs.states.StateLemmas.{tells-ends}
use Rattle.example_callers.proofs.states.ends_with_any.Goals as goal

pub returns : goal.returns
returns g c =
    let a = c.args.automaton.now in
    let x = c.args.text.now in
    let sid = c.loop-byte.sid in
    let m = (g.A.Automaton.built a).dictionary in
    let all : c.loop-byte.byte-index ≡ length x = omega arith in
    let whole = ap (λ n. take n x) all ∙ take-length x in
    let reads = subst (λ t. g.A.Automaton.Reaches a No t sid) whole c.loop-byte.invariant in
    let ends = tells-ends m.kind m x (g.A.Automaton.matches a sid) c.requires.standard
    (g.met.A.Automaton.tells a No x sid reads) in
    (λ yes. ends.0 (c.is_match.ensures.0 yes), λ has. c.is_match.ensures.1 (ends.1 has))
