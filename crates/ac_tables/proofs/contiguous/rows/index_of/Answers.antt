use Rattle.std.proofs.Common.{arith, rules}
use Rattle.std.proofs.lemmas.Grind.{common_steps}
use Rattle.std.proofs.lemmas.Result.{err_from_is_err_and}
use Rattle.ac_tables.proofs.contiguous.rows.index_of.Goals as goal

pub returns-in_err-push_to : goal.returns-in_err-push_to
returns-in_err-push_to c =
    let p = err_from_is_err_and c.from_residual-in_err-push_to.result c.from_residual-in_err-push_to.ensures.1 in
    rw p.1 (search rules)

pub push_to-requires-clause-before : goal.push_to-requires-clause-before
push_to-requires-clause-before c = grind (arith, common_steps)

pub loop-row-preserved : goal.loop-row-preserved
loop-row-preserved c = grind (arith, common_steps)

pub returns : goal.returns
returns c = grind (arith, common_steps)
