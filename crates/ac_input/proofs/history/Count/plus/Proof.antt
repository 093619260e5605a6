-- `plus` returns the sum of the two counts that it is shown.
use Rattle.std.proofs.Common.{refl, ◌+◌}
use contract.Monad.{fact_i}
use Rattle.ac_input.proofs.lemmas.GhostLemmas.{ghost_of_two}
use Rattle.ac_input.specs.contracts.history.Count as C
use Rattle.ac_input.specs.contracts.history.Count.plus as f
use Rattle.ac_input.proofs.history.Count.plus.Statement.{statement}
use Rattle.ac_input.proofs.history.Count.plus.Code as code

pub plus_spec : {M : Type 1} → statement M
plus_spec 𝓤 𝓛 𝓜 𝓡 wired =
    ghost_of_two 𝓛 𝓜 𝓡 C.the_row C.the_row C.the_row (f.clauses 𝓛 𝓜.mem 𝓡.returns) f.Key.name _ _
    (code.unfolded 𝓤 𝓛.H 𝓜 𝓡 wired) (λ r. refl)
    (λ x y. record { times = record {}; value = x.value + y.value }) (λ κs a g. fact_i 𝓤 _ _ refl)
