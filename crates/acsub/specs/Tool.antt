-- The lines that report faults, and the exit statuses of the program.
use Rattle.std.specs.Fmt.{radix_digits}
use Rattle.std.specs.Prelude.{◌≡◌, ℕ, ◌/◌, ◌%◌, false, List, ◌++◌, OnOk, Option, Result, Ok, Err, codes, decimal, string_bytes}
use Rattle.std.specs.Io.KnownBytes.{Appends}
use Rattle.std.specs.declared.io.ErrorKind.{ErrorKind}
use Rattle.std.specs.declared.io.ErrorKind.TheVariants as kind
use Rattle.ac_input.specs.Pairing.{twice_of}
use Rattle.ac_noncontiguous.specs.declared.error.BuildErrorKind.{BuildErrorKind}
use Rattle.ac_noncontiguous.specs.declared.error.BuildErrorKind.TheVariants as limits
use Rattle.acsub.specs.declared.error.RunError.{RunError}
use Rattle.acsub.specs.declared.error.RunError.TheVariants as errors
use Rattle.acsub.specs.Rules.File.{rule_text}
use Rattle.acsub.specs.Args.Settings.{setting_text}
use Rattle.acsub.specs.declared.early.EarlyError.{EarlyError}
use Rattle.acsub.specs.declared.early.EarlyError.TheVariants as early
use Rattle.acsub.specs.declared.early.Refusal.{Refusal}
use Rattle.acsub.specs.declared.early.Refusal.TheVariants as refusals
use Rattle.acsub.specs.declared.tool.Fault.{Fault}
use Rattle.acsub.specs.declared.tool.Fault.TheVariants as faults

-- A run returns out of memory as an error of its own, so that text is never printed here.
abbrev pub build_text : BuildErrorKind → List ℕ
build_text (limits.StateIDOverflow max requested) = codes "too many states"
build_text (limits.PatternIDOverflow max requested) = codes "too many patterns"
build_text (limits.PatternTooLong pattern len) = codes "pattern too long"
build_text limits.Memory = codes "out of memory"

abbrev pub run_text : RunError → List ℕ
run_text (errors.Rule e) = codes "rules: " ++ rule_text e
run_text (errors.Setting e) = codes "setting: " ++ setting_text e
run_text (errors.Build kind) = codes "build: " ++ build_text kind
run_text (errors.Read e) = codes "read failed"
run_text (errors.Write e) = codes "write failed"
run_text errors.WriteZero = codes "write took no byte"
run_text errors.Memory = codes "out of memory"
run_text errors.Position = codes "input too long"

-- the two hex digits of a byte
abbrev pub hex_of : ℕ → List ℕ
hex_of byte = radix_digits 16 false (byte / 16) ++ radix_digits 16 false (byte % 16)

abbrev pub refusal_text : Refusal → List ℕ
refusal_text refusals.LeftmostMasked = codes "mask: needs the standard kind"
refusal_text refusals.PackedMasked = codes "mask: packed finds no overlaps"
refusal_text refusals.NoRules = codes "mask: there are no rules"
refusal_text refusals.EmptyMasked = codes "mask: a pattern is empty"
refusal_text (refusals.Occurs byte) = codes "mask: byte " ++ hex_of byte ++ codes " occurs in a pattern"
refusal_text refusals.PackedWord = codes "word: packed finds no whole words"
refusal_text refusals.EmptyWord = codes "word: a pattern is empty"

-- the message of a fault, after the program's name
abbrev pub fault_text : Fault → List ℕ
fault_text faults.Words = codes "bad words"
fault_text (faults.OwnRules path) = string_bytes path ++ codes ": is the rule file"
fault_text (faults.Pairs e) = codes "setting: " ++ (codes "byte " ++ decimal (twice_of e) ++ codes " is named twice")
fault_text faults.RuleFile = codes "rules: file cannot be read"
fault_text faults.Output = codes "input file is output file"
fault_text (faults.Refused refusal) = refusal_text refusal
fault_text (faults.Run e) = run_text e
fault_text faults.Flush = codes "flush failed"

abbrev pub run_status : RunError → ℕ
run_status (errors.Rule e) = 3
run_status (errors.Setting e) = 2
run_status (errors.Build kind) = 4
run_status (errors.Read e) = 5
run_status (errors.Write e) = 6
run_status errors.WriteZero = 6
run_status errors.Memory = 7
run_status errors.Position = 8

abbrev pub status_of_refusal : Refusal → ℕ
status_of_refusal refusals.LeftmostMasked = 2
status_of_refusal refusals.PackedMasked = 2
status_of_refusal refusals.NoRules = 4
status_of_refusal refusals.EmptyMasked = 4
status_of_refusal (refusals.Occurs byte) = 4
status_of_refusal refusals.PackedWord = 2
status_of_refusal refusals.EmptyWord = 4

-- the exit status for a fault
abbrev pub status_of : Fault → ℕ
status_of faults.Words = 2
status_of (faults.OwnRules path) = 2
status_of (faults.Pairs e) = 2
status_of faults.RuleFile = 3
status_of faults.Output = 5
status_of (faults.Refused refusal) = status_of_refusal refusal
status_of (faults.Run e) = run_status e
status_of faults.Flush = 6

-- the line that reports a fault
abbrev pub line_of : Fault → List ℕ
line_of fault = codes "acsub: " ++ fault_text fault ++ codes "\n"

-- If the write succeeded, the contents of a writer in memory grew by the fault's line.
abbrev pub WritesLine : {E F : Type 0} → (E → Option (List ℕ)) → E → E → Fault → Result (Unit {0}) F → Type 0
WritesLine contents before after fault result = OnOk result (Appends (contents before) (contents after) (line_of fault))

-- the fault for a run that always writes while it reads, and stopped
abbrev pub early_fault : EarlyError → Fault
early_fault (early.Refused refusal) = faults.Refused refusal
early_fault (early.Run e) = faults.Run e

-- the exit status for an outcome
abbrev pub exit_of : Result (Unit {0}) Fault → ℕ
exit_of (Ok done) = 0
exit_of (Err fault) = status_of fault

-- the fault for a system error: out of memory where the error is that, and otherwise the given one
abbrev pub IsFaultOf : ErrorKind → Fault → Fault → Type 0
IsFaultOf kind.OutOfMemory other fault = fault ≡ faults.Run errors.Memory
IsFaultOf _ other fault = fault ≡ other
