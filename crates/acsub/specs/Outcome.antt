-- What the program did, by its outcome.
use Rattle.std.specs.Prelude.{◌≡◌, ◌↔◌, ℕ, ◌+◌, ◌==◌, ◌&&◌, if◌then◌else◌, true, false, List, [], ◌++◌, ◌⊎◌, Option, IfSome, OnOk, Result, Ok, Err, String, Vec, codes, decimal, map, string_bytes}
use Rattle.std.specs.Io.KnownBytes.{Keeps}
use Rattle.ac_input.specs.Rules.{Rule}
use Rattle.std.specs.IoError.{error_kind}
use Rattle.std.specs.declared.io.Error.{Error}
use Rattle.std.specs.Vec.Iter.{into_iter_items}
use Rattle.std.specs.declared.vec.IntoIter.{IntoIter}
use Rattle.clap.specs.Walk.{texts}
use Rattle.ac_automaton.specs.Stream.Devices.Watched.{NoneRead, WritesWhole}
use Rattle.ac_automaton.specs.declared.error.StreamError.{StreamError}
use Rattle.ac_automaton.specs.declared.stream.devices.watched.Watched.{Watched}
use Rattle.acsub.specs.declared.error.RunError.{RunError}
use Rattle.acsub.specs.declared.error.RunError.TheVariants as errors
use Rattle.acsub.specs.declared.early.EarlyError.{EarlyError}
use Rattle.acsub.specs.declared.early.EarlyError.TheVariants as early
use Rattle.acsub.specs.declared.rules.RuleError.TheVariants as rule_errors
use Rattle.acsub.specs.declared.tool.Fault.{Fault}
use Rattle.acsub.specs.declared.tool.Fault.TheVariants as faults
use Rattle.acsub.specs.declared.args.Source.{Source}
use Rattle.acsub.specs.declared.args.Source.TheVariants.{Given}
use Rattle.acsub.specs.declared.args.Words.{Words}
use Rattle.acsub.specs.declared.args.WordsFault.{WordsFault}
use Rattle.acsub.specs.declared.args.WordsFault.TheVariants.{Help, Bad, Memory, Pairing}
use Rattle.acsub.specs.Given.{form_wanted, given_file}
use Rattle.acsub.specs.Files.{IsJobOf, streams}
use Rattle.acsub.specs.Jobs.{RanInput, RanInputIn}
use Rattle.acsub.specs.Rules.File.{grammar_of}
use Rattle.acsub.specs.Stream.{IsReturnedAs}
use Rattle.acsub.specs.Tally.{found_text}
use Rattle.acsub.specs.Tool.{IsFaultOf, early_fault, status_of}
use Rattle.acsub.specs.Visits.{CountsWhole}
use Rattle.acsub.specs.Args.Words.{Reads}
use Rattle.acsub.specs.declared.job.Job.{Job}
use Rattle.acsub.specs.declared.tally.Tally.{Tally}

-- ---- the rule file

-- Some file holds these bytes: which one isn't said. Where a file's contents are unknown, any bytes may be its
-- contents.
abbrev pub IsFile : {F : Type 0} → (F → Option (List ℕ)) → List ℕ → Type 0
IsFile {F} held bytes = (file : F) × IfSome (held file) (λ all. bytes ≡ all)

-- the rules can't be read, or memory ran out for them
abbrev pub IsUnreadRules : Fault → Type 0
IsUnreadRules fault = (fault ≡ faults.RuleFile) ⊎ (fault ≡ faults.Run errors.Memory)

-- the bytes of a file; or why there are none
abbrev pub ReadsFile : {F Z : Type 0} → (F → Option (List ℕ)) → Result (Vec ℕ Z) Fault → Type 0
ReadsFile held (Ok bytes) = IsFile held bytes.items
ReadsFile held (Err fault) = IsUnreadRules fault

-- ---- what was written, and the flush after it

-- The writer was flushed, and this many flushes failed. If none failed, all bytes that it took are flushed.
pub record Flushes {W : Type 0} (contents : W → Option (List ℕ)) (before after : Watched W) (failed : ℕ) : Type 0 where
  pub flushed : failed ≡ 0 → after.flushed.bytes ≡ after.taken.bytes
  pub taken : after.taken.bytes ≡ before.taken.bytes
  pub failures : after.failures.value ≡ before.failures.value + failed
  pub stalls : after.stalls.value ≡ before.stalls.value
  pub reads : NoneRead before after
  pub device : Keeps (contents before.inner) (contents after.inner)

module _ {W : Type 0} (contents : W → Option (List ℕ)) where
  -- A text was written whole; or a write failed or took no byte, and a prefix of the text was written. A run returns
  -- that result.
  abbrev pub WritesWholeText : List ℕ → Watched W → Watched W → Result (Unit {0}) RunError → Type 0
  WritesWholeText text before after result =
      (written : Result (Unit {0}) StreamError) × IsReturnedAs written result
      × WritesWhole contents before after text written × NoneRead before after

  -- the outcome of a run with this result, and of the flush after it
  abbrev pub Finishes : Result (Unit {0}) Fault → Watched W → Watched W → Result (Unit {0}) Fault → Type 0
  Finishes (Ok ran) before after (Ok done) = Flushes contents before after 0
  Finishes (Ok ran) before after (Err fault) = (fault ≡ faults.Flush) × Flushes contents before after 1
  Finishes (Err stopped) before after (Ok done) = ⊥
  Finishes (Err stopped) before after (Err fault) =
      (fault ≡ stopped) × (Flushes contents before after 0 ⊎ Flushes contents before after 1)

  module _ (before after : Watched W) where
    -- Some text was written, with this result; then the writer was flushed, and this many flushes failed.
    abbrev pub WroteAndFlushed : Result (Unit {0}) RunError → ℕ → Type 0
    WroteAndFlushed answer failed =
        (text : List ℕ) × (between : Watched W) × WritesWholeText text before between answer
        × Flushes contents between after failed

    -- what each outcome means where help was asked for
    abbrev pub AnswersHelp : Result (Unit {0}) Fault → Type 0
    AnswersHelp (Ok done) = WroteAndFlushed (Ok tt) 0
    AnswersHelp (Err (faults.Run e)) =
        WroteAndFlushed (Err e) 0 ⊎ WroteAndFlushed (Err e) 1 ⊎ ((e ≡ errors.Memory) × (after ≡ before))
    AnswersHelp (Err faults.Flush) = WroteAndFlushed (Ok tt) 1
    AnswersHelp (Err other) = ⊥

-- what an outcome means where the words ask for no run: help is written, or nothing
abbrev pub AnswersUnasked : {W : Type 0} → (W → Option (List ℕ)) → Watched W → Watched W → WordsFault
    → Result (Unit {0}) Fault → Type 0
AnswersUnasked contents before after (Help help) outcome = AnswersHelp contents before after outcome
AnswersUnasked contents before after Bad outcome = (outcome ≡ Err faults.Words) × (after ≡ before)
AnswersUnasked contents before after Memory outcome = (outcome ≡ Err (faults.Run errors.Memory)) × (after ≡ before)
AnswersUnasked contents before after (Pairing e) outcome = (outcome ≡ Err (faults.Pairs e)) × (after ≡ before)

-- ---- a run over standard input

module _ {R W : Type 0} (remaining : R → Option (List ℕ)) (contents : W → Option (List ℕ)) (asked : Words)
    (old new : Watched R × Watched W) where
  -- what the run that was asked for read, wrote and returned, by these rules
  abbrev pub RanByRules : List Rule → Result (Unit {0}) EarlyError → Type 0
  RanByRules = RanInput remaining contents old new asked.mask asked.word (streams asked) asked.settings

  -- the same by the bytes of the rules
  abbrev pub RanByFile : List ℕ → Result (Unit {0}) EarlyError → Type 0
  RanByFile file =
      RanInputIn remaining contents old new ((grammar_of (form_wanted asked)).holds file) asked.mask asked.word
      (streams asked) asked.settings

-- the matches of the run that was asked for were counted, by these rules
abbrev pub CountsByRules : {R : Type 0} → Words → List Rule → Watched R → Watched R → Tally → Tally → Type 0
CountsByRules asked rules reader_before reader_after before after =
    (job : Job) × IsJobOf asked rules job × CountsWhole job reader_before reader_after before after

-- the same by the bytes of the rules, from nothing on
abbrev pub CountsByFile : {R : Type 0} → Words → List ℕ → Watched R → Watched R → Tally → Type 0
CountsByFile asked file reader_before reader_after tally =
    (rules : List Rule) × (grammar_of (form_wanted asked)).holds file rules
    × (none : Tally) × (none.found ≡ 0) × CountsByRules asked rules reader_before reader_after none tally

-- the result of a run as an outcome of the program
abbrev pub told_as : Result (Unit {0}) EarlyError → Result (Unit {0}) Fault
told_as (Ok done) = Ok done
told_as (Err error) = Err (early_fault error)

-- ---- the whole program

-- the bytes of the rules, by where they are: a file, or the arguments
abbrev pub IsRuleText : {F : Type 0} → (F → Option (List ℕ)) → Words → Source → List ℕ → Type 0
IsRuleText held asked Given bytes = bytes ≡ given_file (texts asked.patterns.items) (texts asked.replacements.items)
IsRuleText held asked other bytes = IsFile held bytes

-- these bytes; or why there are none
abbrev pub ReadsRuleText : {F Z : Type 0} → (F → Option (List ℕ)) → Words → Result (Vec ℕ Z) Fault → Type 0
ReadsRuleText held asked (Ok bytes) = IsRuleText held asked asked.source bytes.items
ReadsRuleText held asked (Err fault) = IsUnreadRules fault

-- The rules have these bytes, in the form that was asked for, and a run by them returned this result. The first bad
-- line is reported whatever memory does.
pub record RanFile {F R W : Type 0} (held : F → Option (List ℕ)) (remaining : R → Option (List ℕ))
    (contents : W → Option (List ℕ)) (asked : Words) (old new : Watched R × Watched W) (tally : Tally)
    (answer : Result (Unit {0}) Fault) : Type 0 where
  pub file : List ℕ
  pub is_file : IsRuleText held asked asked.source file
  pub result : Result (Unit {0}) EarlyError
  pub told : answer ≡ told_as result
  pub ran : RanByFile remaining contents asked old new file result
  pub counts : OnOk result (CountsByFile asked file old.0 new.0 tally)
  pub fault : (n : ℕ)
      → (result ≡ Err (early.Run (errors.Rule (rule_errors.Line n)))) ↔ (grammar_of (form_wanted asked)).bad file n

-- standard input alone is run over: there is no FILE, and no report on the rules is asked for
pub record HasOneInput (asked : Words) : Type 0 where
  pub files : asked.files.items ≡ []
  pub check : asked.check ≡ false

-- the status where no fault ended the runs, by how much was found and the status of what could not be read or written: 1
-- in the place of 0 only where nothing was found, and that is asked for
abbrev pub concluded : Words → ℕ → ℕ → ℕ
concluded asked found status = if ((status == 0) && asked.fail_if_none) && (found == 0) then 1 else status

-- the status for an outcome of one run
abbrev pub status_for : Words → ℕ → Result (Unit {0}) Fault → ℕ
status_for asked found (Ok done) = concluded asked found 0
status_for asked found (Err fault) = status_of fault

-- the line that says how much was found
abbrev pub count_line : Option ℕ → ℕ → List ℕ
count_line mask found = codes "acsub: " ++ decimal found ++ codes " " ++ found_text mask found ++ codes "\n"

module _ {F R W : Type 0} (held : F → Option (List ℕ)) (remaining : R → Option (List ℕ))
    (contents : W → Option (List ℕ)) (old new : Watched R × Watched W) (asked : Words) where
  -- What an outcome means where a run over standard input was asked for: the run by the rules returned this answer, and
  -- the writer was flushed; or the rules could not be read, or standard input is the file that is written.
  abbrev pub AnswersFile : Tally → Result (Unit {0}) Fault → Type 0
  AnswersFile tally outcome =
      ((answer : Result (Unit {0}) Fault) × (between : Watched W)
      × RanFile held remaining contents asked old (new.0, between) tally answer
      × Finishes contents answer between new.1 outcome)
      ⊎ ((fault : Fault) × (outcome ≡ Err fault) × (IsUnreadRules fault ⊎ (fault ≡ faults.Output)) × (new ≡ old))

  -- what the status means there
  abbrev pub EndsOne : ℕ → Type 0
  EndsOne status =
      (tally : Tally) × (outcome : Result (Unit {0}) Fault) × (status ≡ status_for asked tally.found outcome)
      × AnswersFile tally outcome

-- ---- the error stream

-- a line on the error stream is asked for, whatever the status
abbrev pub Speaks : Words → Type 0
Speaks asked = asked.count ≡ true

-- the words ask for such a line
abbrev pub SpeaksOf : {Z : Type 0} → List (String Z) → Type 0
SpeaksOf words = (asked : Words) × Reads (map string_bytes words) (Ok asked) × Speaks asked

-- all words that the system gives, in their order; or why they were not collected
abbrev pub Collects : {X Y A : Type 0} → Result (IntoIter X A) Error → Result (Vec X Y) Fault → Type 0
Collects (Ok words) (Ok all) = all.items ≡ into_iter_items words
Collects (Ok words) (Err fault) = fault ≡ faults.Run errors.Memory
Collects (Err error) (Ok all) = ⊥
Collects (Err error) (Err fault) = IsFaultOf (error_kind error) faults.Words fault
