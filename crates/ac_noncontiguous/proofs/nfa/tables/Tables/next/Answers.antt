-- A state with a row is looked up in it, with one look.
use Rattle.std.proofs.Common.{ap}
use Rattle.ac_input.specs.Input.{is_anchored}
use Rattle.ac_noncontiguous.proofs.nfa.OverLemmas.{leads-over, leads-own, kept-over}
use Rattle.ac_noncontiguous.proofs.nfa.tables.Tables.next.Goals as goal

pub own-requires : goal.own-requires
own-requires c = (c.requires.0, kept-over c.requires.0 c.in-Some.ensures)

pub returns-in-No : goal.returns-in-No
returns-in-No c =
    leads-over (is_anchored c.args.anchored) (ap is_anchored c.in-No.is) c.in-Some.ensures c.look.ensures

pub returns-in-Yes : goal.returns-in-Yes
returns-in-Yes c =
    leads-own (is_anchored c.args.anchored) (ap is_anchored c.in-Yes.is) c.in-Some.ensures c.own.ensures c.look.ensures
