use Rattle.std.proofs.lemmas.Result.{err_from_is_err_and}
use Rattle.acsub.proofs.args.ParseLemmas.{failed, parsed}
use Rattle.acsub.proofs.args.parse.Goals as goal

pub returns-in_err-command : goal.returns-in_err-command
returns-in_err-command c = let p = err_from_is_err_and c.from_residual.result c.from_residual.ensures.1 in
    rw (p.1, p.2) tt

pub returns-in-Ok : goal.returns-in-Ok
returns-in-Ok c =
    let made = c.in_ok-command.ensures in
    parsed _ made.0 made.1 made.2 _ c.in-Ok.matches c.in-Ok.ensures.kinds c.in-Ok.ensures.matches c.in-Ok.ensures.parsed

pub returns-in-Err : goal.returns-in-Err
returns-in-Err c =
    let made = c.in_ok-command.ensures in
    failed _ made.0 made.1 made.2 _ c.in-Err.error c.fault_of.result c.in-Err.ensures.kinds c.fault_of.ensures
