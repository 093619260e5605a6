-- A few bytes are a part of the bytes.
use Rattle.std.proofs.Common.{◌-◌, drop, refl, arith, length-drop}
use Rattle.ac_input.specs.declared.search.Anchored.TheVariants.{No}
use Rattle.ac_automaton.specs.Automaton.{is_matching}
use Rattle.ac_automaton.proofs.skip.ReadOnLemmas.{part-of-front}
use Rattle.ac_automaton.proofs.ahead.read_alone.Goals as goal

pub returns : goal.returns
returns g c =
    let a = c.args.automaton.now in
    let end = c.part_end-end.result in
    let after = c.part_end-end.ensures.after in
    let within = c.part_end-end.ensures.within in
    let left = length-drop c.args.at c.args.bytes.now in
    part-of-front (g.A.Automaton.built a) (g.A.Automaton.Reaches a) No (is_matching (g.A.Automaton.matches a))
    c.args.sid (drop c.args.at c.args.bytes.now) _ (end - c.args.at) c.advance_alone.result _ _
    (omega (arith, after)) (omega (arith, within, left)) refl c.advance_alone.ensures.goes c.advance_alone.ensures.cost
