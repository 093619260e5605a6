-- How a new file takes an old one's place, step by step.
use Rattle.std.specs.Prelude.{◌≡◌, ℕ, ◌+◌, List, [], ◌∷◌, ◌++◌, Result, Ok, Err}
use Rattle.acsub.specs.declared.swap.Step.{Step}
use Rattle.acsub.specs.declared.swap.Step.TheVariants.{Created, Owned, Permitted, Renamed, Synced}
use Rattle.acsub.specs.declared.swap.Swap.{Swap}

-- all steps, in their order
abbrev pub all_steps : List Step
all_steps = Created ∷ Owned ∷ Permitted ∷ Synced ∷ Renamed ∷ []

-- how often a file took another one's name
abbrev pub renames : List Step → ℕ
renames [] = 0
renames (Renamed ∷ more) = renames more + 1
renames (other ∷ more) = renames more

-- a call returned Ok, and this step was taken; or it returned an error, and none was
abbrev pub Takes : {A E : Type 0} → Step → Swap → Swap → Result A E → Type 0
Takes step before after (Ok done) = after.steps ≡ before.steps ++ step ∷ []
Takes step before after (Err error) = after ≡ before
