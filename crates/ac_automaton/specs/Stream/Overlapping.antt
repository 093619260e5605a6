-- Whether every occurrence in a stream can be searched for: if a stream can be searched under the standard kind.
pub mod Search
pub mod Walk
use Rattle.std.specs.Prelude.{◌≡◌, ◌⊎◌, [], Result, Ok, Err}
use Rattle.ac_input.specs.declared.search.Anchored.{Anchored}
use Rattle.ac_input.specs.declared.search.Anchored.TheVariants.{No}
use Rattle.ac_input.specs.declared.search.MatchKind.TheVariants.{Standard}
use Rattle.ac_input.specs.Input.{whole_of}
use Rattle.ac_input.specs.Work.{shortest}
use Rattle.ac_automaton.specs.Automaton.{Built}
use Rattle.ac_automaton.specs.InMemory.Overlapping.{IsOverlappingRefusal}
use Rattle.ac_automaton.specs.Stream.{CanStream, IsOnCourse, Occurrences, StreamProgress, fresh_progress}
use Rattle.ac_automaton.specs.declared.error.MatchErrorKind.{MatchErrorKind}
use Rattle.ac_automaton.specs.declared.error.MatchErrorKind.TheVariants.{UnsupportedEmpty}
use Rattle.ac_automaton.specs.declared.error.StreamError.{StreamError}
use Rattle.ac_automaton.specs.declared.error.StreamError.TheVariants.{Config, Memory}
use Rattle.ac_automaton.specs.declared.stream.StreamKinds.TheVariants.{OnlyStandard}

-- the error of a search that isn't supported: that of an overlapping search of any text, or else that a pattern is
-- empty
abbrev pub IsListingConfigRefusal : Built → (Anchored → Type 0) → MatchErrorKind → Type 0
IsListingConfigRefusal b supports error =
    IsOverlappingRefusal b supports (whole_of []) error
    ⊎ (supports No × (b.dictionary.kind ≡ Standard) × (shortest b.dictionary.patterns ≡ 0) × (error ≡ UnsupportedEmpty))

-- the error says what failed: the search, or the memory for the buffer
abbrev pub IsListingRefusal : Built → (Anchored → Type 0) → StreamError → Type 0
IsListingRefusal b supports (Config error) = IsListingConfigRefusal b supports error
IsListingRefusal b supports Memory = CanStream OnlyStandard b supports
IsListingRefusal b supports other = ⊥

-- A search was made, which has read nothing yet; or the error says why not.
abbrev pub AnswersNewListing : Built → (Anchored → Type 0) → Result (StreamProgress Occurrences) StreamError → Type 0
AnswersNewListing b supports (Ok s) = CanStream OnlyStandard b supports × (s ≡ fresh_progress b) × IsOnCourse s
AnswersNewListing b supports (Err error) = IsListingRefusal b supports error

-- an error of the search says why the stream can't be searched for every occurrence; any other result means that it can be
abbrev pub AcceptsListing : Built → (Anchored → Type 0) → Result (Unit {0}) StreamError → Type 0
AcceptsListing b supports (Err (Config error)) = IsListingConfigRefusal b supports error
AcceptsListing b supports result = CanStream OnlyStandard b supports
