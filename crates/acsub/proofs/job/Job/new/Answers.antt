-- The run that was prepared is ready, as is what else was prepared.
use Rattle.std.proofs.Common.{subst, sym}
use Rattle.acsub.specs.Run.{IsPrepared}
use Rattle.acsub.proofs.job.Job.new.Goals as goal

pub returns-in_ok-prepare-in-None-2-clause-ready : goal.returns-in_ok-prepare-in-None-2-clause-ready
returns-in_ok-prepare-in-None-2-clause-ready c =
    subst IsPrepared (sym c.in_ok-prepare-in-None-2.ensures.0) c.in_ok-prepare-in-None-2.ensures.1
