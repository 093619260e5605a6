-- What a visit of a FILE does.
use Rattle.std.specs.Prelude.{◌≡◌, ◌≢◌, ◌⊎◌, ℕ, ◌≤◌, true, false, List, [], codes, Option, Some, Result, Ok, Err}
use Rattle.std.specs.declared.io.impls.Empty.{Empty}
use Rattle.ac_automaton.specs.Stream.Devices.Watched.{IsFresh}
use Rattle.ac_automaton.specs.declared.stream.devices.watched.Watched.{Watched}
use Rattle.acsub.specs.Files.{IsNotRun, stop_for}
use Rattle.acsub.specs.Jobs.{CountsJob, RanJob}
use Rattle.acsub.specs.declared.error.RunError.{RunError}
use Rattle.acsub.specs.declared.files.FileFault.TheVariants as file_faults
use Rattle.acsub.specs.declared.files.Stop.{Stop}
use Rattle.acsub.specs.declared.files.Stop.TheVariants as stops
use Rattle.acsub.specs.declared.job.Job.{Job}
use Rattle.acsub.specs.declared.job.Job.TheVariants as jobs
use Rattle.acsub.specs.declared.progress.Metered.{Metered}
use Rattle.acsub.specs.declared.tally.Tally.{Tally}

-- ---- a run that is counted

-- The tally has grown by as many as were found in all that was read. Of a mask it is said that no count is lost.
abbrev pub CountsWhole : {R : Type 0} → Job → Watched R → Watched R → Tally → Tally → Type 0
CountsWhole (jobs.Mask prepared) reader_before reader_after before after = before.found ≤ after.found
CountsWhole job reader_before reader_after before after = CountsJob job reader_before reader_after before after

-- the same by the result of a run: if it stopped, no count is lost
abbrev pub Tallies : {R : Type 0} → Job → Watched R → Watched R → Tally → Tally → Result (Unit {0}) RunError → Type 0
Tallies job reader_before reader_after before after (Ok done) = CountsWhole job reader_before reader_after before after
Tallies job reader_before reader_after before after (Err error) = before.found ≤ after.found

-- what is counted after a run: what it found, or the bytes that it masked
abbrev pub IsCountOf : Job → ℕ → ℕ → Type 0
IsCountOf (jobs.Mask prepared) found more = Unit {0}
IsCountOf job found more = more ≡ found

module _ {R W : Type 0} (remaining : R → Option (List ℕ)) (contents : W → Option (List ℕ)) (job : Job)
    (old new : Watched R × Watched W × Tally) where
  -- the job ran over an input with this result, and was counted
  pub record RunsJob (result : Result (Unit {0}) RunError) : Type 0 where
    pub ran : RanJob remaining contents (old.0, old.1) (new.0, new.1) job result
    pub counts : Tallies job old.0 new.0 old.2 new.2 result

  -- the same, and this is what came of it
  abbrev pub RunsOne : Result (Unit {0}) Stop → Type 0
  RunsOne (Ok done) = RunsJob (Ok tt)
  RunsOne (Err stop) = (e : RunError) × (stop ≡ stop_for e) × RunsJob (Err e)

-- ---- a file

module _ {F T : Type 0} where
  -- the bytes of a file behind a meter
  abbrev pub behind : (F → Option (List ℕ)) → Metered F T → Option (List ℕ)
  behind bytes metered = bytes metered.inner

-- a file is watched from now on
pub record IsWatched {F T : Type 0} (file : F) (watched : Watched (Metered F T)) : Type 0 where
  pub fresh : IsFresh watched
  pub device : watched.inner.inner ≡ file

module _ {F W : Type 0} (T : Type 0) (held : F → Option (List ℕ)) (contents : W → Option (List ℕ)) (job : Job)
    (old new : Watched W × Tally) where
  -- the job ran over a file that was just opened, with this result
  pub record RunsOverFile (result : Result (Unit {0}) RunError) : Type 0 where
    pub opened : Watched (Metered F T)
    pub closed : Watched (Metered F T)
    pub fresh : IsFresh opened
    pub runs : RunsJob (behind held) contents job (opened, old.0, old.1) (closed, new.0, new.1) result

  -- what a visit of a file returned: the run over it, or why it was not run over
  abbrev pub VisitsFile : Result (Unit {0}) Stop → Type 0
  VisitsFile (Ok done) = RunsOverFile (Ok tt)
  VisitsFile (Err stop) =
      (IsNotRun stop × (new ≡ old)) ⊎ ((e : RunError) × (stop ≡ stop_for e) × RunsOverFile (Err e))

-- ---- a path

-- a reader of nothing has nothing left
abbrev pub none_left : Empty → Option (List ℕ)
none_left empty = Some []

module _ {R W : Type 0} (contents : W → Option (List ℕ)) (job : Job) (old new : Watched R × Watched W × Tally) where
  -- the job ran over nothing, and the reader stays as it is
  pub record RunsOverNothing (result : Result (Unit {0}) Stop) : Type 0 where
    pub opened : Watched Empty
    pub closed : Watched Empty
    pub fresh : IsFresh opened
    pub runs : RunsOne none_left contents job (opened, old.1, old.2) (closed, new.1, new.2) result
    pub reader : new.0 ≡ old.0

module _ {F R W : Type 0} (T : Type 0) (held : F → Option (List ℕ)) (remaining : R → Option (List ℕ))
    (contents : W → Option (List ℕ)) (job : Job) (path : List ℕ) (old new : Watched R × Watched W × Tally) where
  -- The job ran over the file of a path; the path `-` is standard input, which is read once, unless it is the file that
  -- is written.
  pub record RunsPath (result : Result (Unit {0}) Stop) : Type 0 where
    pub file : path ≢ codes "-"
        → (new.0 ≡ old.0) × VisitsFile T held contents job (old.1, old.2) (new.1, new.2) result
    pub input : path ≡ codes "-" → old.0.ended ≡ false
        → RunsOne remaining contents job old new result
        ⊎ ((result ≡ Err (stops.File file_faults.Output)) × (new ≡ old))
    pub again : path ≡ codes "-" → old.0.ended ≡ true → RunsOverNothing contents job old new result
