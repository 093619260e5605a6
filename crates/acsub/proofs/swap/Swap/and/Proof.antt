-- `and` returns the list followed by the step.
use Rattle.std.proofs.Common.{[], ◌∷◌, ◌++◌, refl}
use contract.Monad.{fact_i}
use Rattle.ac_input.proofs.lemmas.GhostLemmas.{ghost_of_two}
use Rattle.acsub.specs.contracts.swap.Step as S
use Rattle.acsub.specs.contracts.swap.Swap as C
use Rattle.acsub.specs.contracts.swap.Swap.and as f
use Rattle.acsub.proofs.swap.Swap.and.Statement.{statement}
use Rattle.acsub.proofs.swap.Swap.and.Code as code

pub and_spec : {M : Type 1} → statement M
and_spec 𝓤 𝓛 𝓜 𝓡 wired =
    ghost_of_two 𝓛 𝓜 𝓡 C.the_row S.the_row C.the_row (f.clauses 𝓛 𝓜.mem 𝓡.returns) f.Key.name _ _
    (code.unfolded 𝓤 𝓛.H 𝓜 𝓡 wired) (λ r. refl)
    (λ x step. record { list = record {}; steps = x.steps ++ step ∷ [] }) (λ κs a g. fact_i 𝓤 _ _ refl)
