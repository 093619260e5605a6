-- `from_slot` moves the two fields of a slot.
use Rattle.std.proofs.Common.{refl}
use contract.Monad.{fact_i}
use denote.Exit.{no}
use Rattle.ac_c.specs.contracts.masking.Masking.{the_row as Value}
use Rattle.ac_c.proofs.slot.SlotMoves.{moves}
use Rattle.ac_c.proofs.slot.SlotSteps.{S}
use Rattle.ac_c.specs.contracts.masker.Masker as Masker
use Rattle.ac_c.specs.contracts.masker.Masker.from_slot as f
use Rattle.ac_c.proofs.masker.Masker.from_slot.Statement.{statement}
use Rattle.ac_c.proofs.masker.Masker.from_slot.Code as code

pub from_slot_spec : {M : Type 1} → statement M
from_slot_spec 𝓤 𝓛 𝓜 𝓡 wired =
    moves 𝓛 𝓜 𝓡 Value (S Value) Masker.the_row no (f.clauses 𝓛 𝓜.mem 𝓡.returns) f.Key.name _ _
    (code.unfolded 𝓤 𝓛.H 𝓜 𝓡 wired)
    (λ x. record { at = x.at; alloc = x.alloc; value = x.value })
    (λ x. record { at = x.at; alloc = x.alloc; value = x.value }) (λ x us. (refl, refl)) (λ x. tt) (λ κs x w. refl)
    (λ κs a g. fact_i 𝓤 _ _ refl)
