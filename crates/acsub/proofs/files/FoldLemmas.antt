-- The visits so far, and what is left to visit, lead to what all visits lead to.
use Rattle.std.proofs.Common.{◌≡◌, ◌<◌, inl, inr, ℕ, ◌+◌, ◌==◌, if◌then◌else◌, List, ◌∷◌, length, get_or, drop, Option, Result, Ok, Err, refl, sym, ap, ◌∙◌, subst, add-one, arith}
use Rattle.std.proofs.lemmas.Bool.Decides.{nat_tests}
use Rattle.std.proofs.Math.Seq.{drop-cons}
use Rattle.std.specs.Borrow.{Bor}
use Rattle.clap.specs.Walk.{Text, texts}
use Rattle.ac_automaton.specs.declared.stream.devices.watched.Watched.{Watched}
use Rattle.acsub.specs.Files.{file_status}
use Rattle.acsub.specs.Folds.{Notes, RunsAll, StaysQuiet, Visits}
use Rattle.acsub.specs.declared.args.Words.{Words}
use Rattle.acsub.specs.declared.files.FileFault.{FileFault}
use Rattle.acsub.specs.declared.files.FileFault.TheVariants as file_faults
use Rattle.acsub.specs.declared.files.Report.{Report}
use Rattle.acsub.specs.declared.files.Stop.{Stop}
use Rattle.acsub.specs.declared.files.Stop.TheVariants as stops
use Rattle.acsub.specs.declared.job.Job.{Job}
use Rattle.acsub.specs.declared.tool.Fault.{Fault}

-- ---- the status

status-some : (fault : FileFault) → 0 < file_status fault
status-some file_faults.Missing = omega arith
status-some file_faults.Folder = omega arith
status-some file_faults.Denied = omega arith
status-some file_faults.Unreadable = omega arith
status-some file_faults.Output = omega arith
status-some file_faults.Read = omega arith
status-some file_faults.NotRegular = omega arith
status-some file_faults.Owner = omega arith
status-some file_faults.Unwritable = omega arith

first-some : (status mine : ℕ) → 0 < mine → 0 < (if status == 0 then mine else status)
first-some status mine some = grind (arith, nat_tests)

-- after a FILE's fault there is a status
pub noted-some : (fault : FileFault) (before after : Report) → Notes fault before after → 0 < after.status
noted-some fault before after notes =
    subst (λ (r : Report). 0 < r.status) (sym notes) (first-some before.status (file_status fault) (status-some fault))

-- ---- the error stream

-- where one visit after another says nothing, all say nothing
pub quiet-on : {E : Type 0} (asked : Words) (before between after : E) → StaysQuiet asked before between
    → StaysQuiet asked between after → StaysQuiet asked before after
quiet-on asked before between after (inl same) (inl more) = inl (more ∙ same)
quiet-on asked before between after (inl same) (inr counts) = inr counts
quiet-on asked before between after (inr counts) more = inr counts

-- ---- the visits

-- the path at a place, and those after it
texts-from : (paths : List (Bor Text)) (i : ℕ) (d : Bor Text) → i < length paths
    → texts (drop i paths) ≡ (get_or paths i d).now ∷ texts (drop (i + 1) paths)
texts-from paths i d low =
    ap texts (drop-cons paths i d low) ∙ ap (λ n. (get_or paths i d).now ∷ texts (drop n paths)) (sym (add-one i))

module _ {F R W E : Type 0} (T : Type 0) (held contents_of : F → Option (List ℕ)) (remaining : R → Option (List ℕ))
    (contents : W → Option (List ℕ)) (asked : Words) (job : Job) (paths : List (Bor Text))
    (old : Watched R × Watched W × E × Report) where
  -- from here on, the visits of these FILEs lead to what the visits of all lead to
  abbrev pub Leads : List (List ℕ) → Watched R × Watched W × E × Report → Type 0
  Leads left from =
      (new : Watched R × Watched W × E × Report) (result : Result (Unit {0}) Fault)
      → RunsAll T held contents_of remaining contents asked job left from new result
      → RunsAll T held contents_of remaining contents asked job (texts paths) old new result

  module _ (i : ℕ) (d : Bor Text) (low : i < length paths) (from between : Watched R × Watched W × E × Report)
      (same : between.2 ≡ from.2) (leads : Leads (texts (drop i paths)) from) where
    at-path : Leads ((get_or paths i d).now ∷ texts (drop (i + 1) paths)) from
    at-path = subst (λ left. Leads left from) (texts-from paths i d low) leads

    -- the visit of the FILE at this place
    abbrev Visited : Result (Unit {0}) Stop → Type 0
    Visited = Visits T held contents_of remaining contents asked job (get_or paths i d).now (from.0, from.1, from.3)
        (between.0, between.1, between.3)

    -- a visit without a fault
    pub leads-on : (visited : Result (Unit {0}) Stop) → visited ≡ Ok tt → Visited visited
        → (errors told : E) (report : Report) → errors ≡ between.2 → report ≡ between.3
        → StaysQuiet asked errors told
        → Leads (texts (drop (i + 1) paths)) (between.0, between.1, told, report)
    leads-on visited is visits errors told report e r quiet =
        subst (λ x. Leads (texts (drop (i + 1) paths)) (between.0, between.1, told, x)) (sym r)
        (λ new result runs. at-path new result
        (between, Ok tt, subst Visited is visits, same, (told, subst (λ x. StaysQuiet asked x told) e quiet, runs)))

    -- a FILE's fault
    pub leads-noted : (visited : Result (Unit {0}) Stop) (fault : FileFault) → visited ≡ Err (stops.File fault)
        → Visited visited
        → (errors told : E) (report noted : Report) → report ≡ noted → Notes fault between.3 noted
        → StaysQuiet asked errors told
        → Leads (texts (drop (i + 1) paths)) (between.0, between.1, told, report)
    leads-noted visited fault is visits errors told report noted r notes quiet = λ new result runs.
        at-path new result (
          between,
          Err (stops.File fault),
          subst Visited is visits,
          same,
          ((between.0, between.1, errors, report), refl, refl, r ∙ notes, (told, quiet, runs)),
        )

    -- a fault that ends the program
    pub leads-stop : (visited : Result (Unit {0}) Stop) (fault : Fault) → visited ≡ Err (stops.All fault)
        → Visited visited
        → RunsAll T held contents_of remaining contents asked job (texts paths) old between (Err fault)
    leads-stop visited fault is visits =
        at-path between (Err fault) (
          between,
          Err (stops.All fault),
          subst Visited is visits,
          same,
          (refl, refl),
        )
