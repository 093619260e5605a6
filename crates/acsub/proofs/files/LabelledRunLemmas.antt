-- A run by a writer that puts the path before each line is what a visit says of lines with labels.
use Rattle.std.proofs.Common.{◌≡◌, inl, ℕ, List, Option, None, Result, sym, subst}
use Rattle.std.specs.Borrow.{MutBor}
use Rattle.ac_automaton.specs.Stream.Devices.Watched.{IsFresh}
use Rattle.ac_automaton.specs.declared.stream.devices.watched.Watched.{Watched}
use Rattle.acsub.specs.Folds.{VisitsLabelled}
use Rattle.acsub.specs.Labelled.{IsLabelling}
use Rattle.acsub.specs.Visits.{RunsPath}
use Rattle.acsub.specs.declared.args.Words.{Words}
use Rattle.acsub.specs.declared.files.Report.{Report}
use Rattle.acsub.specs.declared.files.Stop.{Stop}
use Rattle.acsub.specs.declared.job.Job.{Job}
use Rattle.acsub.specs.declared.labelled.Labelled.{Labelled}

module _ {F R W : Type 0} (T : Type 0) (held contents_of : F → Option (List ℕ)) (remaining : R → Option (List ℕ))
    (contents : W → Option (List ℕ)) (asked : Words) (job : Job) (path : List ℕ)
    (old new : Watched R × Watched W × Report) where
  -- the writer was made for the lines of this FILE, and the job ran by it
  pub ran-labelled : {lent : MutBor (Watched W)} {made : Labelled W} (lines done : Watched (Labelled W))
      (result : Result (Unit {0}) Stop) → IsLabelling path lent made → lines.inner ≡ made → IsFresh lines
      → RunsPath T held remaining (λ (w : Labelled W). None) job path (old.0, lines, old.2.tally)
      (new.0, done, new.2.tally) result
      → lent.now ≡ old.1 → new.2.swap ≡ old.2.swap
      → VisitsLabelled T held contents_of remaining contents asked job path old new result
  ran-labelled {lent} {made} lines done result labels inner fresh runs writer swap = record {
    runs =
        inl (record {
          lent = lent;
          lines = lines;
          done = done;
          writer = writer;
          fresh = fresh;
          labels = subst (IsLabelling path lent) (sym inner) labels;
          runs = runs;
        });
    swap = swap;
  }
