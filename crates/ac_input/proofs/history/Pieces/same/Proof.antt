-- `same` returns the list that it is shown.
use Rattle.std.proofs.Common.{refl}
use contract.Monad.{fact_i}
use Rattle.ac_input.proofs.lemmas.GhostLemmas.{ghost_of_one}
use Rattle.ac_input.specs.contracts.history.Pieces as C
use Rattle.ac_input.specs.contracts.history.Pieces.same as f
use Rattle.ac_input.proofs.history.Pieces.same.Statement.{statement}
use Rattle.ac_input.proofs.history.Pieces.same.Code as code

pub same_spec : {M : Type 1} → statement M
same_spec 𝓤 𝓛 𝓜 𝓡 wired =
    ghost_of_one 𝓛 𝓜 𝓡 C.the_row C.the_row (f.clauses 𝓛 𝓜.mem 𝓡.returns) f.Key.name _ _ (code.unfolded 𝓤 𝓛.H 𝓜 𝓡 wired)
    (λ r. refl)
    (λ x. record { list = record {}; items = x.items }) (λ κs a g. fact_i 𝓤 _ _ refl)
