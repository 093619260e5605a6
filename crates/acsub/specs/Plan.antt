-- What a run is to do.
use Rattle.std.specs.Prelude.{Bool, List}
use Rattle.ac_input.specs.Rules.{Rule}
use Rattle.acsub.specs.declared.args.settings.Settings.{Settings}

-- the settings, the rules, and whether the run is asked to write while it reads, whatever the kind
pub record Plan : Type 0 where
  pub settings : Settings
  pub rules : List Rule
  pub stream : Bool

abbrev pub plan_of : Bool → Settings → List Rule → Plan
plan_of stream settings rules = record { settings = settings; rules = rules; stream = stream }
