-- What the outcome of the program says of the run, the help and the flush.
use Rattle.std.proofs.Common.{◌≡◌, ◌≢◌, inl, inr, ℕ, List, Option, Result, Ok, Err, refl, sym, ap, ◌∙◌, subst}
use Rattle.std.proofs.Math.Nat.{suc-ne-zero}
use Rattle.std.specs.Prelude.{IfErr, IfOk, String, Vec}
use Rattle.std.specs.declared.alloc.Global.{Global}
use Rattle.std.specs.declared.io.Error.{Error}
use Rattle.std.specs.declared.vec.IntoIter.{IntoIter}
use Rattle.std.specs.Vec.Iter.{into_iter_items}
use Rattle.ac_automaton.specs.Stream.Devices.Watched.{IsOfWrite, WritesWhole}
use Rattle.ac_automaton.specs.declared.error.StreamError.{StreamError}
use Rattle.ac_automaton.specs.declared.stream.devices.watched.Watched.{Watched}
use Rattle.acsub.specs.Ends.{EndsProgram, EndsTool}
use Rattle.acsub.specs.Outcome.{AnswersHelp, Collects, Finishes, SpeaksOf, WritesWholeText}
use Rattle.acsub.specs.Stream.{IsNoRefusal}
use Rattle.acsub.specs.Tool.{status_of}
use Rattle.acsub.specs.declared.early.Refusal.TheVariants as refusals
use Rattle.acsub.specs.declared.error.RunError.{RunError}
use Rattle.acsub.specs.declared.error.RunError.TheVariants as errors
use Rattle.acsub.specs.declared.tool.Fault.{Fault}
use Rattle.acsub.specs.declared.tool.Fault.TheVariants as faults
use Rattle.acsub.specs.declared.args.WordsFault.TheVariants.{Memory}

-- ---- the outcome after the flush

-- the result of a text that was written is never a refused search
pub write-accepted : {W : Type 0} (contents : W → Option (List ℕ)) (before after : Watched W) (text : List ℕ)
    (written : Result (Unit {0}) StreamError) → WritesWhole contents before after text written
    → IfErr written IsNoRefusal
write-accepted contents before after text (Ok done) writes = tt
write-accepted contents before after text (Err error) writes = λ refusal e. subst (IsOfWrite before after) e writes.1

-- the outcome after help was written and flushed, whose write returned this
module _ {W : Type 0} (contents : W → Option (List ℕ)) (before between after : Watched W) (text : List ℕ) where
  pub help-shown : WritesWholeText contents text before between (Ok tt) → (outcome : Result (Unit {0}) Fault)
      → Finishes contents (Ok tt) between after outcome → AnswersHelp contents before after outcome
  help-shown writes (Ok none) flush = (text, between, writes, flush)
  help-shown writes (Err fault) flush =
      subst (λ f. AnswersHelp contents before after (Err f)) (sym flush.0) (text, between, writes, flush.1)

  pub help-failed : (e : RunError) → WritesWholeText contents text before between (Err e)
      → (outcome : Result (Unit {0}) Fault)
      → Finishes contents (Err (faults.Run e)) between after outcome → AnswersHelp contents before after outcome
  help-failed e writes (Ok none) flush = absurd flush
  help-failed e writes (Err fault) (told, inl flush) =
      subst (λ f. AnswersHelp contents before after (Err f)) (sym told) (inl (text, between, writes, flush))
  help-failed e writes (Err fault) (told, inr flush) =
      subst (λ f. AnswersHelp contents before after (Err f)) (sym told) (inr (inl (text, between, writes, flush)))

-- ---- the words

module _ {F R W E Z A : Type 0} (T : Type 0) (held contents_of : F → Option (List ℕ))
    (remaining : R → Option (List ℕ)) (contents : W → Option (List ℕ)) (old new : Watched R × Watched W × E)
    (status : ℕ) where
  -- if the words were collected, the program ends as the tool does with these words
  pub ends-collected : (words : Result (IntoIter (String Z) A) Error) (all : Vec (String Z) Global)
      → Collects words (Ok all)
      → EndsTool T held contents_of remaining contents old new all.items status
      → EndsProgram T held contents_of remaining contents old new words status
  ends-collected (Ok words) all same ends =
      subst (λ ws. EndsTool T held contents_of remaining contents old new ws status) same ends
  ends-collected (Err error) all none ends = absurd none

  -- if the words were not collected, the fault is reported, and nothing is read or written
  pub ends-uncollected : (words : Result (IntoIter (String Z) A) Error) (fault : Fault)
      → Collects {Y = Global} words (Err fault) → status ≡ status_of fault → new.0 ≡ old.0 → new.1 ≡ old.1
      → EndsProgram T held contents_of remaining contents old new words status
  ends-uncollected (Ok words) fault memory told reader writer =
      (Err Memory, tt, (Err (faults.Run errors.Memory), told ∙ ap status_of memory, reader, (refl, writer)))
  ends-uncollected (Err error) fault why told reader writer = (fault, told, why, reader, writer)

-- ---- what is said at status 0

-- the status of a fault is not 0
pub told-nonzero : (fault : Fault) → status_of fault ≢ 0
told-nonzero faults.Words same = suc-ne-zero 1 same
told-nonzero (faults.OwnRules path) same = suc-ne-zero 1 same
told-nonzero (faults.Pairs e) same = suc-ne-zero 1 same
told-nonzero faults.RuleFile same = suc-ne-zero 2 same
told-nonzero faults.Output same = suc-ne-zero 4 same
told-nonzero (faults.Refused refusals.LeftmostMasked) same = suc-ne-zero 1 same
told-nonzero (faults.Refused refusals.PackedMasked) same = suc-ne-zero 1 same
told-nonzero (faults.Refused refusals.NoRules) same = suc-ne-zero 3 same
told-nonzero (faults.Refused refusals.EmptyMasked) same = suc-ne-zero 3 same
told-nonzero (faults.Refused (refusals.Occurs byte)) same = suc-ne-zero 3 same
told-nonzero (faults.Refused refusals.PackedWord) same = suc-ne-zero 1 same
told-nonzero (faults.Refused refusals.EmptyWord) same = suc-ne-zero 3 same
told-nonzero (faults.Run (errors.Rule e)) same = suc-ne-zero 2 same
told-nonzero (faults.Run (errors.Setting e)) same = suc-ne-zero 1 same
told-nonzero (faults.Run (errors.Build e)) same = suc-ne-zero 3 same
told-nonzero (faults.Run (errors.Read e)) same = suc-ne-zero 4 same
told-nonzero (faults.Run (errors.Write e)) same = suc-ne-zero 5 same
told-nonzero (faults.Run errors.WriteZero) same = suc-ne-zero 5 same
told-nonzero (faults.Run errors.Memory) same = suc-ne-zero 6 same
told-nonzero (faults.Run errors.Position) same = suc-ne-zero 7 same
told-nonzero faults.Flush same = suc-ne-zero 5 same

-- what the collected words ask for, those that were given ask for
pub speaks-collected : {Z A : Type 0} (words : Result (IntoIter (String Z) A) Error) (all : Vec (String Z) Global)
    → Collects words (Ok all) → SpeaksOf all.items → IfOk words (λ given. SpeaksOf (into_iter_items given))
speaks-collected (Ok words) all same speaks = subst SpeaksOf same speaks
speaks-collected (Err error) all none speaks = absurd none
