-- The automaton's own loop stops wherever the search does.
use Rattle.std.proofs.Common.{refl, arith}
use Rattle.ac_automaton.proofs.skip.ReadOnLemmas.{some-to-start, some-of-part}
use Rattle.ac_automaton.proofs.skip.read_some.Goals as goal

pub returns-then-alone-eq0 : goal.returns-then-alone-eq0
returns-then-alone-eq0 g c =
    let upper = c.up_to.ensures in
    let before = c.requires.before in
    some-to-start g.A.LookUp c.args.automaton.now c.args.anchored c.args.to c.args.sid c.args.bytes.now c.up_to.result
    c.read_until.result _ _ upper.first (omega (arith, before, upper.last)) c.requires.some c.read_until.ensures

pub returns : goal.returns
returns g c =
    let min = c.min.ensures in
    let some = c.requires.some in
    let none = c.if-alone-eq0.false in
    some-of-part g.A.LookUp c.args.automaton.now c.args.anchored c.args.to c.args.sid c.args.bytes.now _ c.min.result
    c.read_until-2.result _ _ (omega (arith, min, some, none)) (omega (arith, min)) refl c.read_until-2.ensures
