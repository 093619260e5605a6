-- Whole words in a stream: whether they can be searched for, and what is written of them.
pub mod Held
pub mod Overlapping
pub mod Search
use Rattle.std.specs.Prelude.{◌≡◌, ◌⊎◌, ℕ, ◌≤◌, List, ◌++◌, length, take, Option, Result, Ok, Err, IfErr}
use Rattle.std.specs.Borrow.{MutBor}
use Rattle.std.specs.List.{All}
use Rattle.ac_input.specs.declared.search.Anchored.{Anchored}
use Rattle.ac_input.specs.declared.search.MatchKind.{MatchKind}
use Rattle.ac_input.specs.declared.steps.Steps.{Steps}
use Rattle.ac_input.specs.Dictionary.{Dictionary}
use Rattle.ac_input.specs.Occurrence.{Occurrence}
use Rattle.ac_input.specs.Text.{replaced_from}
use Rattle.ac_automaton.specs.Automaton.{Built}
use Rattle.ac_automaton.specs.Stream.{AllWords, CanStream, Decides, IsNear, IsOnCourse, IsSearched, Sequence, StreamProgress, Words, fresh_progress, items_of, room_of}
use Rattle.ac_automaton.specs.Stream.Answer.{WritesStream}
use Rattle.ac_automaton.specs.Stream.Devices.Moved.{NoneTouched}
use Rattle.ac_automaton.specs.Stream.Iter.{IsStreamOver}
use Rattle.ac_automaton.specs.Stream.Overlapping.{IsListingRefusal}
use Rattle.ac_automaton.specs.Stream.Pump.{Handling, IsUntouched, PumpsAt}
use Rattle.ac_automaton.specs.Stream.Replace.{CostsItems, IsBegun}
use Rattle.ac_automaton.specs.declared.error.StreamError.{StreamError}
use Rattle.ac_automaton.specs.declared.stream.StreamIter.{StreamIter}
use Rattle.ac_automaton.specs.declared.stream.StreamKinds.TheVariants.{OnlyStandard}
use Rattle.ac_automaton.specs.declared.stream.devices.watched.Watched.{Watched}

-- an automaton that is asked for words under a kind, whatever its own
abbrev pub asked_for : MatchKind → Built → Built
asked_for kind b = record b { dictionary = record b.dictionary { kind = kind } }

-- A search for words was made, which has read nothing yet; or the error says why not.
abbrev pub AnswersNewWords : MatchKind → Built → (Anchored → Type 0) → Result (StreamProgress Words) StreamError → Type 0
AnswersNewWords kind b supports (Ok s) =
    CanStream OnlyStandard b supports × (s ≡ fresh_progress (asked_for kind b)) × IsOnCourse s
AnswersNewWords kind b supports (Err error) = IsListingRefusal b supports error

-- an iterator over the words of a stream was made; or the error says why not
abbrev pub FindsStreamWords : {R : Type 0} → MatchKind → Built → (Anchored → Type 0) → MutBor (Watched R)
    → Result (StreamIter (StreamProgress Words) R) StreamError → Type 0
FindsStreamWords kind b supports lent (Ok i) = CanStream OnlyStandard b supports × IsStreamOver (asked_for kind b) lent i
FindsStreamWords kind b supports lent (Err error) = IsListingRefusal b supports error

-- the words of a stream were pumped; or it could not be searched for them, and nothing happened
abbrev pub PumpsWords : {Z R : Type 0} → Handling Z → (R → Option (List ℕ)) → MatchKind → Built → (Anchored → Type 0)
    → Watched R → Watched R → Z → Z → Steps → Steps → Result (Unit {0}) StreamError → Type 0
PumpsWords h remaining kind b supports before after z last steps counted (Ok done) =
    CanStream OnlyStandard b supports
    × PumpsAt h Words remaining (asked_for kind b) before after z last steps counted (Ok done)
PumpsWords h remaining kind b supports before after z last steps counted (Err error) =
    (IsListingRefusal b supports error × IsUntouched h before after z last steps counted)
    ⊎ (CanStream OnlyStandard b supports
    × PumpsAt h Words remaining (asked_for kind b) before after z last steps counted (Err error))

-- A search for all words was made, which has read nothing yet; or the error says why not.
abbrev pub AnswersNewAllWords : Built → (Anchored → Type 0) → Result (StreamProgress AllWords) StreamError → Type 0
AnswersNewAllWords b supports (Ok s) = CanStream OnlyStandard b supports × (s ≡ fresh_progress b) × IsOnCourse s
AnswersNewAllWords b supports (Err error) = IsListingRefusal b supports error

-- an iterator over all words of a stream was made; or the error says why not
abbrev pub FindsStreamAllWords : {R : Type 0} → Built → (Anchored → Type 0) → MutBor (Watched R)
    → Result (StreamIter (StreamProgress AllWords) R) StreamError → Type 0
FindsStreamAllWords b supports lent (Ok i) = CanStream OnlyStandard b supports × IsStreamOver b lent i
FindsStreamAllWords b supports lent (Err error) = IsListingRefusal b supports error

-- all words of a stream were pumped; or it could not be searched for them, and nothing happened
abbrev pub PumpsAllWords : {Z R : Type 0} → Handling Z → (R → Option (List ℕ)) → Built → (Anchored → Type 0)
    → Watched R → Watched R → Z → Z → Steps → Steps → Result (Unit {0}) StreamError → Type 0
PumpsAllWords h remaining b supports before after z last steps counted (Ok done) =
    CanStream OnlyStandard b supports × PumpsAt h AllWords remaining b before after z last steps counted (Ok done)
PumpsAllWords h remaining b supports before after z last steps counted (Err error) =
    (IsListingRefusal b supports error × IsUntouched h before after z last steps counted)
    ⊎ (CanStream OnlyStandard b supports × PumpsAt h AllWords remaining b before after z last steps counted (Err error))

-- the text with each of its words replaced by its pattern's replacement
abbrev pub words_replaced_in : Dictionary → List (List ℕ) → List ℕ → List ℕ
words_replaced_in m replacements x = replaced_from 0 x replacements (items_of Words m x)

-- the front of a text with the words that it decides replaced, as far as it can be written
pub record IsWordFront (m : Dictionary) (replacements : List (List ℕ)) (x text : List ℕ) : Type 0 where
  pub cut : ℕ
  pub done : List Occurrence
  pub decides : Decides Words m x done
  pub later : (more : List ℕ) → (rest : List Occurrence) × (items_of Words m (x ++ more) ≡ done ++ rest)
      × All (λ o. cut ≤ o.start) rest
  pub within : cut ≤ length x
  pub near : IsNear Words m x cut
  pub front : text ≡ replaced_from 0 (take cut x) replacements done

-- What a replacement of the words of a stream read, no piece longer than the buffer, what it wrote, and what it returned. An
-- error before the first read leaves both devices unchanged.
abbrev pub ReplacesWords : {R W : Type 0} → (R → Option (List ℕ)) → (W → Option (List ℕ)) → Built → List (List ℕ)
    → Watched R → Watched R → Watched W → Watched W → Result (Unit {0}) StreamError → Type 0
ReplacesWords remaining contents b replacements reader_before reader_after writer_before writer_after result =
    WritesStream remaining contents (room_of Words b) (words_replaced_in b.dictionary replacements)
    (IsWordFront b.dictionary replacements) reader_before reader_after writer_before writer_after result
    × IfErr result (λ error. IsBegun error ⊎ NoneTouched reader_before reader_after writer_before writer_after)

-- the cost of a replacement of the words of a stream: an error before the first read cost nothing
abbrev pub CostsWordStream : {R : Type 0} → Built → Watched R → Watched R → Steps → Steps → Result (Unit {0}) StreamError
    → Type 0
CostsWordStream b reader_before reader_after before after result =
    CostsItems Words b reader_before reader_after before after result
    × IfErr result (λ error. IsBegun error ⊎ (after ≡ before))

-- a search that has searched all that was read looks at nothing more
abbrev pub LooksNoMore : {q : Sequence} → StreamProgress q → Steps → Steps → Type 0
LooksNoMore s before after = IsSearched s → after.looked.value ≡ before.looked.value
