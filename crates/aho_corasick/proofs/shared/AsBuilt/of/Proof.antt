-- `of` returns what the engine was built as.
use Rattle.std.proofs.Common.{refl}
use contract.Monad.{fact_i}
use Rattle.aho_corasick.specs.contracts.engine.Engine as E
use Rattle.aho_corasick.specs.Engine.{engine_built_as}
use Rattle.ac_input.proofs.lemmas.GhostLemmas.{ghost_of_one}
use Rattle.aho_corasick.specs.contracts.shared.AsBuilt as C
use Rattle.aho_corasick.specs.contracts.shared.AsBuilt.of as f
use Rattle.aho_corasick.proofs.shared.AsBuilt.of.Statement.{statement}
use Rattle.aho_corasick.proofs.shared.AsBuilt.of.Code as code

pub of_spec : {M : Type 1} → statement M
of_spec 𝓤 𝓛 𝓜 𝓡 wired =
    ghost_of_one 𝓛 𝓜 𝓡 E.the_row C.the_row (f.clauses 𝓛 𝓜.mem 𝓡.returns) f.Key.name _ _ (code.unfolded 𝓤 𝓛.H 𝓜 𝓡 wired)
    (λ r. refl)
    (λ x. record { engine = record {}; value = engine_built_as x }) (λ κs a g. fact_i 𝓤 _ _ refl)
