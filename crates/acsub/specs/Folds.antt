-- What the program over FILEs does: it visits one after another.
use Rattle.std.specs.Prelude.{◌≡◌, ◌⊎◌, ℕ, nat_lt, Bool, true, false, List, [], ◌∷◌, ◌++◌, length, codes, decimal, Option, None, Result, Ok, Err, if◌then◌else◌, ◌==◌, string_bytes}
use Rattle.std.specs.Borrow.{MutBor}
use Rattle.std.specs.List.{Contains}
use Rattle.clap.specs.Walk.{texts}
use Rattle.ac_input.specs.Rules.{Rule}
use Rattle.ac_automaton.specs.Stream.Devices.Watched.{IsFresh}
use Rattle.ac_automaton.specs.declared.stream.devices.watched.Watched.{Watched}
use Rattle.acsub.specs.Files.{IsJobOf, IsNoJobOf, file_status}
use Rattle.acsub.specs.InPlace.{RewritesFile}
use Rattle.acsub.specs.Labelled.{IsLabelling}
use Rattle.acsub.specs.Tally.{found_text}
use Rattle.acsub.specs.Tool.{early_fault}
use Rattle.acsub.specs.Visits.{RunsPath}
use Rattle.acsub.specs.declared.args.Words.{Words}
use Rattle.acsub.specs.declared.args.settings.Mode.{Mode}
use Rattle.acsub.specs.declared.args.settings.Mode.TheVariants as modes
use Rattle.acsub.specs.declared.early.EarlyError.{EarlyError}
use Rattle.acsub.specs.declared.error.RunError.TheVariants as errors
use Rattle.acsub.specs.declared.files.FileFault.{FileFault}
use Rattle.acsub.specs.declared.files.FileFault.TheVariants as file_faults
use Rattle.acsub.specs.declared.files.Report.{Report}
use Rattle.acsub.specs.declared.files.Stop.{Stop}
use Rattle.acsub.specs.declared.files.Stop.TheVariants as stops
use Rattle.acsub.specs.declared.job.Job.{Job}
use Rattle.acsub.specs.declared.labelled.Labelled.{Labelled}
use Rattle.acsub.specs.declared.tool.Fault.{Fault}
use Rattle.acsub.specs.declared.tool.Fault.TheVariants as faults

-- ---- a FILE's fault

-- the text of a fault
abbrev pub file_text : FileFault → List ℕ
file_text file_faults.Missing = codes "No such file or directory"
file_text file_faults.Folder = codes "Is a directory"
file_text file_faults.Denied = codes "Permission denied"
file_text file_faults.Unreadable = codes "cannot be read"
file_text file_faults.Output = codes "input file is output file"
file_text file_faults.Read = codes "read failed"
file_text file_faults.NotRegular = codes "not a regular file"
file_text file_faults.Owner = codes "owner cannot be kept"
file_text file_faults.Unwritable = codes "cannot be written"

-- the line that names a FILE and its fault
abbrev pub fault_line : List ℕ → FileFault → List ℕ
fault_line path fault = codes "acsub: " ++ path ++ codes ": " ++ file_text fault ++ codes "\n"

-- the line that says how much was found in one of several FILEs
abbrev pub count_line_of : List ℕ → Option ℕ → ℕ → List ℕ
count_line_of path mask found =
    codes "acsub: " ++ path ++ codes ": " ++ decimal found ++ codes " " ++ found_text mask found ++ codes "\n"

-- nothing is said on the error stream, unless counts are asked for
abbrev pub StaysQuiet : {E : Type 0} → Words → E → E → Type 0
StaysQuiet asked before after = (after ≡ before) ⊎ (asked.count ≡ true)

-- nothing was run over yet
pub record IsBlank (report : Report) : Type 0 where
  pub found : report.tally.found ≡ 0
  pub status : report.status ≡ 0
  pub steps : report.swap.steps ≡ []

-- the status of the first fault stays
abbrev pub Notes : FileFault → Report → Report → Type 0
Notes fault before after =
    after ≡ record before { status = if before.status == 0 then file_status fault else before.status }

-- the fault of a FILE that is to be rewritten and is the rule file; or memory ran out for its path
abbrev pub SparesRules : Words → Fault → Type 0
SparesRules asked (faults.OwnRules path) =
    (asked.in_place ≡ true) × Contains (texts asked.files.items) (string_bytes path)
SparesRules asked fault = (asked.in_place ≡ true) × (fault ≡ faults.Run errors.Memory)

-- ---- a visit

-- whether each line gets the path of its FILE: several are listed
abbrev pub has_labels : Option ℕ → Mode → ℕ → Bool
has_labels None modes.List files = nat_lt 1 files
has_labels None modes.Overlap files = nat_lt 1 files
has_labels mask mode files = false

abbrev pub labels : Words → Bool
labels asked = has_labels asked.mask asked.settings.mode (length asked.files.items)

module _ {F R W : Type 0} (T : Type 0) (held contents_of : F → Option (List ℕ)) (remaining : R → Option (List ℕ))
    (contents : W → Option (List ℕ)) where
  module _ (asked : Words) (job : Job) (path : List ℕ) (old new : Watched R × Watched W × Report) where
    -- a FILE was rewritten, and nothing else was read or written
    pub record VisitsInPlace (result : Result (Unit {0}) Stop) : Type 0 where
      pub reader : new.0 ≡ old.0
      pub writer : new.1 ≡ old.1
      pub rewrites : RewritesFile T held contents_of job (old.2.tally, old.2.swap) (new.2.tally, new.2.swap) result
      pub status : new.2.status ≡ old.2.status

    -- the job ran over a FILE
    pub record VisitsPath (result : Result (Unit {0}) Stop) : Type 0 where
      pub runs : RunsPath T held remaining contents job path (old.0, old.1, old.2.tally) (new.0, new.1, new.2.tally) result
      pub status : new.2.status ≡ old.2.status
      pub swap : new.2.swap ≡ old.2.swap

    -- The job ran over a FILE by a writer that puts its path before each line, and goes on with the writer of all.
    pub record RunsLabelled (result : Result (Unit {0}) Stop) : Type 0 where
      pub lent : MutBor (Watched W)
      pub lines : Watched (Labelled W)
      pub done : Watched (Labelled W)
      pub writer : lent.now ≡ old.1
      pub fresh : IsFresh lines
      pub labels : IsLabelling path lent lines.inner
      pub runs : RunsPath T held remaining (λ _. None) job path (old.0, lines, old.2.tally) (new.0, done, new.2.tally) result

    -- so it was; or memory for the lines ran out, and nothing was done
    pub record VisitsLabelled (result : Result (Unit {0}) Stop) : Type 0 where
      pub runs : RunsLabelled result ⊎ ((result ≡ Err (stops.All (faults.Run errors.Memory))) × (new ≡ old))
      pub swap : new.2.swap ≡ old.2.swap

    -- what the visit of a FILE did, and its result
    pub record Visits (result : Result (Unit {0}) Stop) : Type 0 where
      pub in_place : asked.in_place ≡ true → VisitsInPlace result
      pub plain : asked.in_place ≡ false → labels asked ≡ false → VisitsPath result
      pub labelled : asked.in_place ≡ false → labels asked ≡ true → VisitsLabelled result
      pub status : new.2.status ≡ old.2.status

  module _ {E : Type 0} (asked : Words) where
    -- what follows a visit: the other FILEs, if a fault of this one doesn't end the program
    abbrev pub VisitsOn : (Watched R × Watched W × E × Report → Type 0) → Watched R × Watched W × E × Report
        → Result (Unit {0}) Stop → Watched R × Watched W × E × Report → Result (Unit {0}) Fault → Type 0
    VisitsOn others between (Ok done) new result = others between
    VisitsOn others between (Err (stops.File fault)) new result =
        (noted : Watched R × Watched W × E × Report)
        × (noted.0 ≡ between.0) × (noted.1 ≡ between.1) × Notes fault between.3 noted.3 × others noted
    VisitsOn others between (Err (stops.All fault)) new result = (new ≡ between) × (result ≡ Err fault)

    -- the FILEs of these paths were visited in order; after each, how much was found in it may be said
    abbrev pub RunsAll : Job → List (List ℕ) → Watched R × Watched W × E × Report → Watched R × Watched W × E × Report
        → Result (Unit {0}) Fault → Type 0
    RunsAll job [] old new result = (new ≡ old) × (result ≡ Ok tt)
    RunsAll job (path ∷ paths) old new result =
        (between : Watched R × Watched W × E × Report) × (visited : Result (Unit {0}) Stop)
        × Visits asked job path (old.0, old.1, old.3) (between.0, between.1, between.3) visited
        × (between.2 ≡ old.2)
        × VisitsOn (λ from. (told : E) × StaysQuiet asked from.2 told × RunsAll job paths (from.0, from.1, told, from.3) new result)
        between visited new result

    -- the job that was asked for was made, and ran over all FILEs; or there is none, or a FILE is the rule file
    abbrev pub RunsFiles : List Rule → Watched R × Watched W × E × Report → Watched R × Watched W × E × Report
        → Result (Unit {0}) Fault → Type 0
    RunsFiles rules old new result =
        ((job : Job) × IsJobOf asked rules job × RunsAll job (texts asked.files.items) old new result)
        ⊎ ((e : EarlyError) × IsNoJobOf asked rules e × (new ≡ old) × (result ≡ Err (early_fault e)))
        ⊎ ((fault : Fault) × SparesRules asked fault × (new ≡ old) × (result ≡ Err fault))
