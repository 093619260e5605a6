-- The text that a run makes of its input, the front of it that is decided early, and when a run may write it early.
use Rattle.std.specs.Prelude.{◌≡◌, ◌≢◌, ◌⊎◌, ℕ, List, None, false, true, max}
use Rattle.ac_input.specs.declared.search.MatchKind.{MatchKind}
use Rattle.ac_input.specs.Computed.{occurrences, walk_among, listing_among}
use Rattle.ac_input.specs.Dictionary.{whole}
use Rattle.ac_input.specs.Occurrence.{Occurrence, Search}
use Rattle.ac_input.specs.Rules.{Rule}
use Rattle.ac_input.specs.Text.{replaced_from, listed}
use Rattle.ac_input.specs.Work.{longest}
use Rattle.ac_automaton.specs.Stream.Devices.Buffer.{least_room, room_for}
use Rattle.ac_automaton.specs.Stream.{DecidesMatches, IsFront}
use Rattle.acsub.specs.declared.args.settings.Mode.{Mode}
use Rattle.acsub.specs.declared.args.settings.Mode.TheVariants as modes
use Rattle.acsub.specs.declared.args.settings.Settings.{Settings}
use Rattle.acsub.specs.Plan.{Plan}
use Rattle.acsub.specs.Served.{dictionary_for}
use Rattle.acsub.specs.Args.Settings.{FindsEarly, HasEmptyPattern}
use Rattle.acsub.specs.Rules.Sides.{rule_patterns, replacements_of}

-- the text that a mode makes of a search, where `all` lists the occurrences that count
abbrev pub text_among : (Search → List Occurrence) → Mode → MatchKind → List (List ℕ) → Search → List ℕ
text_among all modes.Replace kind replacements s =
    replaced_from 0 s.haystack replacements (walk_among all kind s s.start None)
text_among all modes.List kind replacements s = listed (walk_among all kind s s.start None)
text_among all modes.Overlap kind replacements s = listed (listing_among all s)

-- the same, where every occurrence counts
abbrev pub text_in : Mode → MatchKind → List (List ℕ) → Search → List ℕ
text_in mode kind replacements s = text_among occurrences mode kind replacements s

-- The text that settings and rules make of an input. It doesn't depend on the engine, the prefilter, the dense depth or
-- byte classes.
abbrev pub output_of : Settings → List Rule → List ℕ → List ℕ
output_of settings rules input =
    text_in settings.mode settings.kind (replacements_of rules) (whole (dictionary_for settings rules) input false)

-- The text is written while the input is read. Matches are found by then, and no pattern is empty. Overlapping matches
-- are listed so only if a stream was asked for. Every other text is written after the whole input was read.
abbrev pub IsStreamed : Plan → Type 0
IsStreamed plan =
    FindsEarly plan.stream plan.settings × ((plan.stream ≡ true) ⊎ (plan.settings.mode ≢ modes.Overlap))
    × ¬ HasEmptyPattern plan.rules

-- How many bytes the input buffer has room for in a run that writes while it reads, by the mode. An overlapping search
-- keeps no byte that was searched.
abbrev pub room_in : Mode → List Rule → ℕ
room_in modes.Replace rules = room_for (max (longest (rule_patterns rules)) 1)
room_in modes.List rules = room_for (max (longest (rule_patterns rules)) 1)
room_in modes.Overlap rules = least_room

-- a line for each item that is decided
abbrev pub IsDecidedList : (List Occurrence → Type 0) → List ℕ → Type 0
IsDecidedList decides text = (os : List Occurrence) × decides os × (text ≡ listed os)

-- What can be written once this much of the input was read: the text up to a cut, with matches replaced; or a line for
-- each decided match; or a line for each occurrence, which no later byte can change.
pub record IsOutputFront (settings : Settings) (rules : List Rule) (x text : List ℕ) : Type 0 where
  pub replaced : settings.mode ≡ modes.Replace
      → IsFront (dictionary_for settings rules) (output_of settings rules) x text
  pub listed : settings.mode ≡ modes.List → IsDecidedList (DecidesMatches (dictionary_for settings rules) x) text
  pub overlapping : settings.mode ≡ modes.Overlap → text ≡ output_of settings rules x
