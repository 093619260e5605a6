-- What runs over FILEs do.
use Rattle.std.specs.Prelude.{ℕ, Bool, ◌||◌, List}
use Rattle.std.specs.IoError.{error_kind}
use Rattle.std.specs.declared.io.ErrorKind.{ErrorKind}
use Rattle.std.specs.declared.io.ErrorKind.TheVariants as kind
use Rattle.ac_input.specs.Rules.{Rule}
use Rattle.acsub.specs.Jobs.{IsJobFor, IsNoJob}
use Rattle.acsub.specs.declared.args.Words.{Words}
use Rattle.acsub.specs.declared.early.EarlyError.{EarlyError}
use Rattle.acsub.specs.declared.error.RunError.{RunError}
use Rattle.acsub.specs.declared.error.RunError.TheVariants as errors
use Rattle.acsub.specs.declared.files.FileFault.{FileFault}
use Rattle.acsub.specs.declared.files.FileFault.TheVariants as file_faults
use Rattle.acsub.specs.declared.files.Stop.{Stop}
use Rattle.acsub.specs.declared.files.Stop.TheVariants as stops
use Rattle.acsub.specs.declared.job.Job.{Job}
use Rattle.acsub.specs.declared.tool.Fault.TheVariants as faults

-- what keeps a FILE from being opened, by the error of the system
abbrev pub open_fault : ErrorKind → FileFault
open_fault kind.NotFound = file_faults.Missing
open_fault kind.IsADirectory = file_faults.Folder
open_fault kind.PermissionDenied = file_faults.Denied
open_fault _ = file_faults.Unreadable

-- what a read of a FILE failed for: a folder can be opened, and not read
abbrev pub read_fault : ErrorKind → FileFault
read_fault kind.IsADirectory = file_faults.Folder
read_fault _ = file_faults.Read

-- why a run over a FILE stopped: a failed read is the FILE's own, and all else ends the program
abbrev pub stop_for : RunError → Stop
stop_for (errors.Read e) = stops.File (read_fault (error_kind e))
stop_for error = stops.All (faults.Run error)

-- why a FILE was not run over: it can't be opened or is the file that is written, or memory ran out
abbrev pub IsNotRun : Stop → Type 0
IsNotRun (stops.File file_faults.Missing) = Unit {0}
IsNotRun (stops.File file_faults.Folder) = Unit {0}
IsNotRun (stops.File file_faults.Denied) = Unit {0}
IsNotRun (stops.File file_faults.Unreadable) = Unit {0}
IsNotRun (stops.File file_faults.Output) = Unit {0}
IsNotRun (stops.All (faults.Run errors.Memory)) = Unit {0}
IsNotRun other = ⊥

-- the status with which the program ends where this is the first fault
abbrev pub file_status : FileFault → ℕ
file_status file_faults.Missing = 5
file_status file_faults.Folder = 5
file_status file_faults.Denied = 5
file_status file_faults.Unreadable = 5
file_status file_faults.Output = 5
file_status file_faults.Read = 5
file_status file_faults.NotRegular = 5
file_status file_faults.Owner = 6
file_status file_faults.Unwritable = 6

-- whether the text is to be written while the input is read: that is asked for, or FILEs are rewritten
abbrev pub streams : Words → Bool
streams asked = asked.stream || asked.in_place

-- the job that was asked for, by these rules; or why there is none
abbrev pub IsJobOf : Words → List Rule → Job → Type 0
IsJobOf asked = IsJobFor asked.mask asked.word (streams asked) asked.settings

abbrev pub IsNoJobOf : Words → List Rule → EarlyError → Type 0
IsNoJobOf asked = IsNoJob asked.mask asked.word (streams asked) asked.settings
