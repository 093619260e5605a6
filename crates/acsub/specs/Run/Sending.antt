-- What becomes of a text that is sent to a writer.
use Rattle.std.specs.Prelude.{List, [], ℕ, Option, Result}
use Rattle.ac_input.specs.Rules.{Rule}
use Rattle.ac_input.specs.Text.{listed, replaced_from}
use Rattle.ac_automaton.specs.Stream.Devices.Output.{Sends}
use Rattle.ac_automaton.specs.declared.error.StreamError.{StreamError}
use Rattle.ac_automaton.specs.declared.stream.devices.watched.Watched.{Watched}
use Rattle.acsub.specs.Matches.{left_in}
use Rattle.acsub.specs.Plan.{Plan}
use Rattle.acsub.specs.Rules.Sides.{replacements_of}
use Rattle.acsub.specs.Run.Transformed.{output_of}
use Rattle.acsub.specs.declared.matches.Matches.{Matches}

-- Writers, before and after. Nothing was held back before, and nothing is after.
module _ {W : Type 0} (contents : W → Option (List ℕ)) where
  -- A line for each remaining match was written; or the sending stopped at a write.
  abbrev pub SendsList : Matches → Watched W → Watched W → Result (Unit {0}) StreamError → Type 0
  SendsList matches before after result = Sends contents (listed (left_in matches)) before after [] [] result

  -- The input was written with each remaining match replaced; or the sending stopped at a write.
  abbrev pub SendsReplaced : List ℕ → List Rule → Matches → Watched W → Watched W → Result (Unit {0}) StreamError
      → Type 0
  SendsReplaced input rules picks before after result =
      Sends contents (replaced_from 0 input (replacements_of rules) (left_in picks)) before after [] [] result

  -- The text that the plan makes of an input was written; or the sending stopped at a write.
  abbrev pub SendsText : Plan → List ℕ → Watched W → Watched W → Result (Unit {0}) StreamError → Type 0
  SendsText plan input before after result =
      Sends contents (output_of plan.settings plan.rules input) before after [] [] result
