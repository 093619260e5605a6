-- What the automaton may skip by meets what each way of skipping requires.
use Rattle.std.proofs.Common.{sym, subst}
use Rattle.ac_automaton.specs.Automaton.{IsReached}
use Rattle.ac_automaton.specs.Skip.{ReadsToBy}
use Rattle.ac_automaton.proofs.skip.Skips.read_to_from.Goals as goal

pub skip-requires-clause-reached : goal.skip-requires-clause-reached
skip-requires-clause-reached g c =
    subst (λ anchored. IsReached (g.A.LookUp.Reaches c.args.automaton.now anchored) c.args.sid) c.in-Some-No.is-1
    c.requires.reached

pub skip-requires-clause-may : goal.skip-requires-clause-may
skip-requires-clause-may g c =
    let reached = subst (λ anchored. IsReached (g.A.LookUp.Reaches c.args.automaton.now anchored) c.args.sid)
    c.in-Some-No.is-1 c.requires.reached in
    c.requires.may.passes c.in-Some-No.openings c.args.sid c.in-Some-No.is-0 (c.is_before.ensures.0 c.if-is_before.true)
    reached

pub returns-in-Some-No : goal.returns-in-Some-No
returns-in-Some-No g c =
    subst (λ anchored.
    ReadsToBy g.A.LookUp c.args.automaton.now anchored c.args.to c.args.sid c.args.bytes.now c.skip.result
    c.args.steps.now c.skip.new.steps) (sym c.in-Some-No.is-1) c.skip.ensures

pub skip_idle-requires-clause-stays : goal.skip_idle-requires-clause-stays
skip_idle-requires-clause-stays g c = c.requires.may.stays c.args.anchored
