-- What rewriting a file in place does.
use Rattle.std.specs.Prelude.{◌≡◌, ◌⊎◌, ℕ, ◌≤◌, true, Bool, List, [], ◌∷◌, ◌++◌, Option, Some, Result, Ok, Err}
use Rattle.ac_automaton.specs.Stream.Devices.Watched.{IsFresh}
use Rattle.ac_automaton.specs.declared.stream.devices.watched.Watched.{Watched}
use Rattle.acsub.specs.Swap.{all_steps, renames}
use Rattle.acsub.specs.Visits.{IsWatched, RunsJob, RunsOverFile, behind}
use Rattle.acsub.specs.Comparing.{IsWholeFile}
use Rattle.acsub.specs.declared.comparing.Comparing.{Comparing}
use Rattle.acsub.specs.declared.files.FileFault.{FileFault}
use Rattle.acsub.specs.declared.files.Stop.{Stop}
use Rattle.acsub.specs.declared.job.Job.{Job}
use Rattle.acsub.specs.declared.progress.Metered.{Metered}
use Rattle.acsub.specs.declared.swap.Step.TheVariants.{Created, Owned, Permitted, Renamed, Synced}
use Rattle.acsub.specs.declared.swap.Swap.{Swap}
use Rattle.acsub.specs.declared.tally.Tally.{Tally}

-- ---- whether a byte changes

-- what was compared
abbrev pub compared_text : {F : Type 0} → Comparing F → Option (List ℕ)
compared_text comparing = Some comparing.compared.bytes

-- The job ran over a file, and all of its text is all that a file has that was read beside it.
pub record IsUnchanged {F : Type 0} (T : Type 0) (held : F → Option (List ℕ)) (job : Job) (old new : Tally) : Type 0 where
  pub opened : Watched (Metered F T)
  pub closed : Watched (Metered F T)
  pub before : Watched (Comparing F)
  pub after : Watched (Comparing F)
  pub beside : Watched F
  pub fresh : IsFresh opened
  pub none : before.inner.compared.bytes ≡ []
  pub runs : RunsJob (behind held) compared_text job (opened, before, old) (closed, after, new) (Ok tt)
  pub same : IsWholeFile beside after.inner.compared.bytes

-- whether a file is unchanged; where it isn't, or that can't be said, nothing is counted
abbrev pub Compares : {F : Type 0} → Type 0 → (F → Option (List ℕ)) → Job → Tally → Tally → Result Bool Stop → Type 0
Compares T held job old new (Ok true) = IsUnchanged T held job old new
Compares T held job old new other = new ≡ old

-- ---- the new file

-- a new file was made; or none was
abbrev pub CreatesIn : {A : Type 0} → Swap → Swap → Result A Stop → Type 0
CreatesIn old new (Ok made) = new.steps ≡ old.steps ++ Created ∷ []
CreatesIn old new (Err stop) = new ≡ old

-- the new file took the old one's place; or no file was renamed
abbrev pub Places : Swap → Swap → Result (Unit {0}) FileFault → Type 0
Places old new (Ok done) = new.steps ≡ old.steps ++ Owned ∷ Permitted ∷ Synced ∷ Renamed ∷ []
Places old new (Err fault) = renames new.steps ≡ renames old.steps

-- nothing was counted, and no file was renamed
pub record LeavesFile (old new : Tally × Swap) : Type 0 where
  pub counted : new.0 ≡ old.0
  pub stays : renames new.1.steps ≡ renames old.1.steps

module _ {F : Type 0} (T : Type 0) (held contents : F → Option (List ℕ)) (job : Job) where
  -- the job ran over a file to its end, and wrote all of its text; or no count is lost
  abbrev pub WritesFile : Watched (Metered F T) × Tally → Watched (Metered F T) × Tally → Result (Unit {0}) Stop → Type 0
  WritesFile old new (Ok done) = RunsOverFile T held (behind contents) job old new (Ok tt)
  WritesFile old new (Err stop) = old.1.found ≤ new.1.found

  -- The job ran over some file to its end, and wrote all that it makes of it into another one.
  pub record WroteNewFile (before after : F) (old new : Tally) : Type 0 where
    pub opened : Watched (Metered F T)
    pub closed : Watched (Metered F T)
    pub watched : IsWatched before opened
    pub left : closed.inner.inner ≡ after
    pub ran : RunsOverFile T held (behind contents) job (opened, old) (closed, new) (Ok tt)

  -- a new file got the whole text, and took the old one's place
  abbrev pub FillsNew : F → Tally × Swap → Tally × Swap → Result F Stop → Type 0
  FillsNew before old new (Ok after) =
      WroteNewFile before after old.0 new.0
      × (new.1.steps ≡ old.1.steps ++ Owned ∷ Permitted ∷ Synced ∷ Renamed ∷ [])
  FillsNew before old new (Err stop) = LeavesFile old new

  -- A new file was made, got the whole text, the owner and the permissions of the old one, and took its place.
  pub record Replaces (old new : Tally × Swap) : Type 0 where
    pub before : F
    pub after : F
    pub wrote : WroteNewFile before after old.0 new.0
    pub steps : new.1.steps ≡ old.1.steps ++ all_steps

  abbrev pub ReplacesFile : Tally × Swap → Tally × Swap → Result (Unit {0}) Stop → Type 0
  ReplacesFile old new (Ok done) = Replaces old new
  ReplacesFile old new (Err stop) = LeavesFile old new

  -- a file was rewritten: no byte of it changes, and nothing was made; or a new file replaces it
  abbrev pub IsRewritten : Tally × Swap → Tally × Swap → Type 0
  IsRewritten old new = (IsUnchanged T held job old.0 new.0 × (new.1 ≡ old.1)) ⊎ Replaces old new

  abbrev pub RewritesFile : Tally × Swap → Tally × Swap → Result (Unit {0}) Stop → Type 0
  RewritesFile old new (Ok done) = IsRewritten old new
  RewritesFile old new (Err stop) = LeavesFile old new
