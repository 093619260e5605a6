-- How many matches runs have found, and sinks that count what they are passed.
use Rattle.std.specs.Prelude.{◌≡◌, ℕ, ◌+◌, ◌-◌, ◌^◌, ◌==◌, if◌then◌else◌, min, List, ◌++◌, codes, length, Option, None, Some, false}
use Rattle.std.specs.List.{concat}
use Rattle.ac_input.specs.Computed.{listing_among, occurrences, walk_among}
use Rattle.ac_input.specs.Dictionary.{whole}
use Rattle.ac_input.specs.Occurrence.{Occurrence, Search}
use Rattle.ac_input.specs.Rules.{Rule}
use Rattle.ac_input.specs.Word.{whole_occurrences}
use Rattle.ac_input.specs.declared.search.MatchKind.{MatchKind}
use Rattle.ac_automaton.specs.Stream.Pump.{Handling}
use Rattle.ac_automaton.specs.declared.stream.devices.watched.Watched.{Watched}
use Rattle.acsub.specs.Plan.{Plan}
use Rattle.acsub.specs.Served.{dictionary_for}
use Rattle.acsub.specs.declared.args.settings.Mode.{Mode}
use Rattle.acsub.specs.declared.args.settings.Mode.TheVariants as modes
use Rattle.acsub.specs.declared.args.settings.Settings.{Settings}
use Rattle.acsub.specs.declared.tally.Tally.{Tally}

-- a number that has grown by so many, or as far as 64 bits go
abbrev pub grown : ℕ → ℕ → ℕ
grown n more = n + min more (2 ^ 64 - 1 - n)

-- what is counted: matches, or the bytes of a mask
abbrev pub found_text : Option ℕ → ℕ → List ℕ
found_text None found = if found == 1 then codes "match" else codes "matches"
found_text (Some mask) found = if found == 1 then codes "masked byte" else codes "masked bytes"

-- ---- what a run counts

-- the matches of which a mode makes its text, where `all` lists the occurrences that count
abbrev pub found_among : (Search → List Occurrence) → Mode → MatchKind → Search → List Occurrence
found_among all modes.Replace kind s = walk_among all kind s s.start None
found_among all modes.List kind s = walk_among all kind s s.start None
found_among all modes.Overlap kind s = listing_among all s

-- the matches of a plan in an input
abbrev pub plan_matches : Plan → List ℕ → List Occurrence
plan_matches plan input =
    found_among occurrences plan.settings.mode plan.settings.kind
    (whole (dictionary_for plan.settings plan.rules) input false)

-- the same, where whole words alone count
abbrev pub plan_words : Settings → List Rule → List ℕ → List Occurrence
plan_words settings rules input =
    found_among whole_occurrences settings.mode settings.kind (whole (dictionary_for settings rules) input false)

-- the tally has grown by as many as were found in all that was read in between
pub record Counts {R : Type 0} (found : List ℕ → List Occurrence) (reader_before reader_after : Watched R)
    (before after : Tally) : Type 0 where
  pub gained : List (List ℕ)
  pub read : reader_after.pieces.items ≡ reader_before.pieces.items ++ gained
  pub counted : after.found ≡ grown before.found (length (found (concat gained)))

-- ---- sinks that count

-- it does the same, and a number grows by one at each item that is passed, and stays where bytes are taken
abbrev pub tallying : {Z : Type 0} → (Z → ℕ) → Handling Z → Handling Z
tallying number h =
    record {
      takes = λ z bytes last. h.takes z bytes last × (number last ≡ number z);
      passes = λ z before o matched last. h.passes z before o matched last × (number last ≡ grown (number z) 1);
      stops = h.stops;
      refuses = h.refuses;
      ready = h.ready;
      settled = h.settled;
    }
