-- What a run over a file that was just opened came to, a visit of the file returns.
use Rattle.std.proofs.Common.{ℕ, List, Option, Result, Ok, Err, inr}
use Rattle.ac_automaton.specs.Stream.Devices.Watched.{IsFresh}
use Rattle.ac_automaton.specs.declared.stream.devices.watched.Watched.{Watched}
use Rattle.acsub.specs.Visits.{RunsJob, RunsOne, RunsOverFile, VisitsFile, behind}
use Rattle.acsub.specs.declared.error.RunError.{RunError}
use Rattle.acsub.specs.declared.files.Stop.{Stop}
use Rattle.acsub.specs.declared.job.Job.{Job}
use Rattle.acsub.specs.declared.progress.Metered.{Metered}
use Rattle.acsub.specs.declared.tally.Tally.{Tally}

module _ {F W : Type 0} (T : Type 0) (held : F → Option (List ℕ)) (contents : W → Option (List ℕ)) (job : Job)
    (opened closed : Watched (Metered F T)) (old new : Watched W × Tally) (fresh : IsFresh opened) where
  -- the run over a file that was just opened is one over some file
  pub over-file : (result : Result (Unit {0}) RunError)
      → RunsJob (behind held) contents job (opened, old.0, old.1) (closed, new.0, new.1) result
      → RunsOverFile T held contents job old new result
  over-file result runs = record { opened = opened; closed = closed; fresh = fresh; runs = runs }

  -- and what came of it is what the visit returns
  pub visited : (result : Result (Unit {0}) Stop)
      → RunsOne (behind held) contents job (opened, old.0, old.1) (closed, new.0, new.1) result
      → VisitsFile T held contents job old new result
  visited (Ok done) runs = over-file (Ok tt) runs
  visited (Err stop) runs = inr (runs.0, runs.1, over-file (Err runs.0) runs.2)
