-- What a replacement over a stream writes whose text is decided up to some place.
use Rattle.std.specs.Prelude.{Bool, true, false, List, ℕ, [], Option, None, Some, Result, Ok, Err, OnOk}
use Rattle.ac_automaton.specs.Stream.{CanBeCounted, read_by}
use Rattle.ac_automaton.specs.Stream.Devices.Output.{Sends, Sent}
use Rattle.ac_automaton.specs.Stream.Replacer.{GivesText, HandsOut, IsAllOut, ReplacerProgress}
use Rattle.ac_automaton.specs.declared.error.StreamError.{StreamError}
use Rattle.ac_automaton.specs.declared.stream.devices.watched.Watched.{Watched}

-- The next slice was handed out and written; or there was none, and nothing was; or the write failed, whose error this
-- is.
abbrev pub WritesNext : {W : Type 0} → (W → Option (List ℕ)) → List (List ℕ) → ReplacerProgress → ReplacerProgress
    → Watched W → Watched W → Result Bool StreamError → Type 0
WritesNext contents replacements r t before after (Ok false) =
    GivesText r t replacements None × Sent contents before after [] [] []
WritesNext contents replacements r t before after (Ok true) =
    (slice : List ℕ) × GivesText r t replacements (Some slice) × Sent contents before after [] [] slice
WritesNext contents replacements r t before after (Err error) =
    (slice : List ℕ) × GivesText r t replacements (Some slice) × Sends contents slice before after [] [] (Err error)

-- These bytes were handed out and written, and all that is decided was handed out, if places can be counted; or a write
-- failed, whose error this is.
abbrev pub WritesText : {W : Type 0} → (W → Option (List ℕ)) → List (List ℕ) → ReplacerProgress → ReplacerProgress
    → Watched W → Watched W → Result (Unit {0}) StreamError → Type 0
WritesText contents replacements r t before after result =
    (bytes : List ℕ) × HandsOut r t replacements bytes × Sends contents bytes before after [] [] result
    × OnOk result (CanBeCounted (read_by r.search) → IsAllOut t replacements)
