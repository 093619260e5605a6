-- Four lanes that have read nothing yet.
use Rattle.std.proofs.Common.{arith}
use Rattle.ac_automaton.proofs.lanes.BeginLemmas.{cut-bytes}
use Rattle.ac_automaton.proofs.lanes.begin.Goals as goal

pub returns : goal.returns
returns c =
    cut-bytes c.args.at c.args.sid c.args.start c.args.len _ c.args.slots _
    c.begin.result c.begin-2.result c.begin-3.result c.begin-4.result (omega arith) (omega arith)
    c.in_ok-b.ensures c.in_ok-c.ensures c.in_ok-d.ensures c.begin.ensures c.begin-2.ensures c.begin-3.ensures
    c.begin-4.ensures
