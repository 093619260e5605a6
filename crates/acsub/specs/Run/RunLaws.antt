-- When two runs write the same text.
use Rattle.std.specs.Prelude.{◌≡◌, ℕ, Bool, List}
use Rattle.std.specs.List.{concat}
use Rattle.ac_input.specs.Rules.{Rule}
use Rattle.ac_automaton.specs.Stream.Devices.Moved.{Moved}
use Rattle.acsub.specs.Plan.{plan_of}
use Rattle.acsub.specs.Rules.File.{grammar_of}
use Rattle.acsub.specs.Run.{RanWhole}
use Rattle.acsub.specs.declared.args.settings.Settings.{Settings}
use Rattle.acsub.specs.declared.rules.Form.{Form}

-- The settings ask for the same text. They may name other engines, and differ in prefilter, dense depth and byte
-- classes.
pub record AskAlike (settings other : Settings) : Type 0 where
  pub mode : settings.mode ≡ other.mode
  pub kind : settings.kind ≡ other.kind
  pub pairing : settings.pairing ≡ other.pairing

-- Two runs that return Ok wrote the same bytes, if their settings ask for the same text, their rule files hold the same
-- rules, and they read the same bytes. Each file may be of any form. It doesn't matter how the input was
-- cut, nor whether either run streams.
abbrev pub RunsWriteAlike : Type 0
RunsWriteAlike =
    (settings other : Settings) (stream another : Bool) (form shape : Form) (file page : List ℕ) (m n : Moved)
    → AskAlike settings other
    → ((rules : List Rule) → (grammar_of form).holds file rules → (grammar_of shape).holds page rules)
    → concat m.pieces ≡ concat n.pieces
    → (rules : List Rule) × (grammar_of form).holds file rules × RanWhole (plan_of stream settings rules) m
    → (rules : List Rule) × (grammar_of shape).holds page rules × RanWhole (plan_of another other rules) n
    → m.taken ≡ n.taken
