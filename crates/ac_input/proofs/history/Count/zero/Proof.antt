-- `zero` returns the number 0.
use Rattle.std.proofs.Common.{refl}
use contract.Monad.{fact_i}
use Rattle.ac_input.proofs.lemmas.GhostLemmas.{ghost_of_none}
use Rattle.ac_input.specs.contracts.history.Count as C
use Rattle.ac_input.specs.contracts.history.Count.zero as f
use Rattle.ac_input.proofs.history.Count.zero.Statement.{statement}
use Rattle.ac_input.proofs.history.Count.zero.Code as code

pub zero_spec : {M : Type 1} → statement M
zero_spec 𝓤 𝓛 𝓜 𝓡 wired =
    ghost_of_none 𝓛 𝓜 𝓡 C.the_row (f.clauses 𝓛 𝓜.mem 𝓡.returns) f.Key.name _ _ (code.unfolded 𝓤 𝓛.H 𝓜 𝓡 wired)
    (λ r. refl)
    (record { times = record {}; value = 0 }) (λ κs a g. fact_i 𝓤 _ _ refl)
