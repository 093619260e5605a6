-- `none` returns the empty list.
use Rattle.std.proofs.Common.{[], refl}
use contract.Monad.{fact_i}
use Rattle.ac_input.proofs.lemmas.GhostLemmas.{ghost_of_none}
use Rattle.acsub.specs.contracts.swap.Swap as C
use Rattle.acsub.specs.contracts.swap.Swap.none as f
use Rattle.acsub.proofs.swap.Swap.none.Statement.{statement}
use Rattle.acsub.proofs.swap.Swap.none.Code as code

pub none_spec : {M : Type 1} → statement M
none_spec 𝓤 𝓛 𝓜 𝓡 wired =
    ghost_of_none 𝓛 𝓜 𝓡 C.the_row (f.clauses 𝓛 𝓜.mem 𝓡.returns) f.Key.name _ _ (code.unfolded 𝓤 𝓛.H 𝓜 𝓡 wired)
    (λ r. refl)
    (record { list = record {}; steps = [] }) (λ κs a g. fact_i 𝓤 _ _ refl)
