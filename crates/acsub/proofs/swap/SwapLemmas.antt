-- How often a file was renamed, after a step.
use Rattle.std.proofs.Common.{◌≡◌, ℕ, ◌+◌, List, [], ◌∷◌, ◌++◌, Result, Ok, Err, sym, ap, ◌∙◌, subst, zero-add, add-zero, arith}
use Rattle.acsub.specs.Swap.{Takes, renames}
use Rattle.acsub.specs.declared.swap.Step.{Step}
use Rattle.acsub.specs.declared.swap.Step.TheVariants.{Created, Owned, Permitted, Renamed, Synced}
use Rattle.acsub.specs.declared.swap.Swap.{Swap}

one-more : (a b c : ℕ) → a ≡ b + c → a + 1 ≡ (b + 1) + c
one-more a b c is = omega arith

pub renames-append : (xs ys : List Step) → renames (xs ++ ys) ≡ renames xs + renames ys
renames-append [] ys = sym (zero-add (renames ys))
renames-append (Renamed ∷ more) ys = one-more (renames (more ++ ys)) (renames more) (renames ys) (renames-append more ys)
renames-append (Created ∷ more) ys = renames-append more ys
renames-append (Owned ∷ more) ys = renames-append more ys
renames-append (Permitted ∷ more) ys = renames-append more ys
renames-append (Synced ∷ more) ys = renames-append more ys

-- a step that renames nothing, or one that wasn't taken
pub kept-renames : {A E : Type 0} (step : Step) (before after : Swap) (result : Result A E) → renames (step ∷ []) ≡ 0
    → Takes step before after result → renames after.steps ≡ renames before.steps
kept-renames step before after (Ok done) none is =
    ap renames is ∙ renames-append before.steps (step ∷ []) ∙ ap (λ n. renames before.steps + n) none
    ∙ add-zero (renames before.steps)
kept-renames step before after (Err e) none is = let steps : Swap → ℕ = λ s. renames s.steps in ap steps is

-- a step that failed
pub failed-renames : {A E : Type 0} (step : Step) (before after : Swap) (result : Result A E) (e : E) → result ≡ Err e
    → Takes step before after result → renames after.steps ≡ renames before.steps
failed-renames step before after result e is takes =
    let steps : Swap → ℕ = λ s. renames s.steps in ap steps (subst (Takes step before after) is takes)
