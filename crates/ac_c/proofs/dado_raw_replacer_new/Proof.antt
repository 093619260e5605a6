-- `dado_raw_replacer_new` passes on what the pointer lends.
use Rattle.ac_c.proofs.Handing.{lends_handle}
use Rattle.ac_c.specs.Replacer.{AnswersReplacing}
use Rattle.ac_c.specs.contracts.replacer.Replacer.{the_row as H}
use Rattle.ac_c.proofs.replacer.begin.Met.{met}
use Rattle.ac_c.specs.contracts.dado_raw_replacer_new as f
use Rattle.ac_c.proofs.dado_raw_replacer_new.Statement.{statement}
use Rattle.ac_c.proofs.dado_raw_replacer_new.Code as code

pub dado_raw_replacer_new_spec : {M : Type 1} → statement M
dado_raw_replacer_new_spec 𝓤 𝓛 𝓜 𝓡 wired =
    lends_handle H (λ automaton old new status. AnswersReplacing automaton old.value new.value status) 𝓛 𝓜 𝓡 f.Key.name
    _ _ _ _ _ _ _ _ (code.unfolded 𝓤 𝓛.H 𝓜 𝓡 wired)
    (met 𝓤 𝓛 𝓜 𝓡 (code.calls-ac_c::replacer::begin 𝓡.env wired))
