-- `dado_raw_share` passes on what the pointer lends.
use Rattle.ac_c.proofs.Handing.{lends_handle}
use Rattle.ac_c.specs.Build.{IsShared}
use Rattle.ac_c.specs.contracts.handle.Handle.{the_row as H}
use Rattle.ac_c.proofs.build.share.Met.{met}
use Rattle.ac_c.specs.contracts.dado_raw_share as f
use Rattle.ac_c.proofs.dado_raw_share.Statement.{statement}
use Rattle.ac_c.proofs.dado_raw_share.Code as code

pub dado_raw_share_spec : {M : Type 1} → statement M
dado_raw_share_spec 𝓤 𝓛 𝓜 𝓡 wired =
    lends_handle H (λ automaton old new status. IsShared automaton old.value new.value status) 𝓛 𝓜 𝓡 f.Key.name _ _ _ _
    _ _ _ _ (code.unfolded 𝓤 𝓛.H 𝓜 𝓡 wired)
    (met 𝓤 𝓛 𝓜 𝓡 (code.calls-ac_c::build::share 𝓡.env wired))
