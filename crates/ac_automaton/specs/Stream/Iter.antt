-- What an iterator over the items of a stream returns and reads.
use Rattle.std.specs.Prelude.{◌≡◌, ◌≢◌, ◌⊎◌, ℕ, ◌+◌, ◌-◌, ◌*◌, ◌<◌, ◌≤◌, Bool, false, true, nat_le, if◌then◌else◌, List, [], ◌∷◌, ◌++◌, length, Option, None, Some, Result, Ok, Err}
use Rattle.std.specs.Borrow.{Fml, GName, MutBor, RattleType, RestsIfErr}
use Rattle.std.specs.Io.KnownBytes.{IsAtEnd}
use Rattle.std.specs.List.{concat}
use Rattle.ac_input.specs.Number.{usize_max}
use Rattle.ac_input.specs.declared.search.Anchored.{Anchored}
use Rattle.ac_input.specs.declared.search.MatchKind.TheVariants.{Standard}
use Rattle.ac_input.specs.Occurrence.{Occurrence}
use Rattle.ac_automaton.specs.Automaton.{Built}
use Rattle.ac_automaton.specs.Stream.Devices.Moved.{AllFit, AreFilled, AreWhole, HasGiven, but_last}
use Rattle.ac_automaton.specs.Stream.{AllWords, AreAllGiven, EachIsDecided, CanBeCounted, CanStream, FindsHeld, HasRead, IsPrompt, IsStreamRefusal, Occurrences, Picks, ReadsNothing, Sequence, StaysOpen, StreamProgress, Words, closed_by, fresh_progress, items_of, place_of, read_by, room_of}
use Rattle.ac_automaton.specs.Stream.Overlapping.{IsListingRefusal}
use Rattle.ac_automaton.specs.contracts.stream.devices.watched.Watched.{the_row}
use Rattle.ac_automaton.specs.declared.error.StreamError.{StreamError}
use Rattle.ac_automaton.specs.declared.error.StreamError.TheVariants.{Read, Position}
use Rattle.ac_automaton.specs.declared.stream.StreamIter.{StreamIter}
use Rattle.ac_automaton.specs.declared.stream.StreamKinds.{StreamKinds}
use Rattle.ac_automaton.specs.declared.stream.StreamKinds.TheVariants.{OnlyStandard}
use Rattle.ac_automaton.specs.declared.stream.Turn.{Turn}
use Rattle.ac_automaton.specs.declared.stream.Turn.TheVariants.{Found, More, Ended, Over, Failed}
use Rattle.ac_automaton.specs.declared.stream.devices.watched.Watched.{Watched}

-- ---- what was read

-- Reads returned these pieces, none longer than the buffer, and this many of them failed. The search goes on.
pub record HasGained {R : Type 0} {q : Sequence} (remaining : R → Option (List ℕ)) (s t : StreamProgress q)
    (before after : Watched R) (gained : List (List ℕ)) (failed : ℕ) : Type 0 where
  pub built : t.built ≡ s.built
  pub pieces : t.pieces ≡ s.pieces ++ gained
  pub last : s.last ≤ t.last
  pub short : AllFit (room_of q s.built) gained
  pub read : HasGiven remaining before after gained failed

-- No item is left: the input is over and all items were returned, or there are more bytes than places.
abbrev pub IsStopped : {R : Type 0} {q : Sequence} → StreamProgress q → Watched R → Type 0
IsStopped s reader = (((reader.ended ≡ true) ⊎ (s.closed ≡ true)) × AreAllGiven s) ⊎ (¬ CanBeCounted (read_by s))

-- the bytes that were read before the last piece
abbrev pub read_before : {q : Sequence} → StreamProgress q → List ℕ
read_before s = concat (but_last s.pieces)

-- Where each item is decided with its last byte, all of what was read before the last piece had been returned.
abbrev pub HadGiven : {q : Sequence} → StreamProgress q → StreamProgress q → Type 0
HadGiven {q} s t = IsPrompt q s.built.dictionary → s.given ≡ items_of q s.built.dictionary (read_before t)

-- An item that is returned after reads is due to the last piece, since nothing is read while a decided one is left.
-- One that is decided with its last byte ends in that piece. What followed the bytes before that piece could still change it.
pub record IsDueToLastPiece {q : Sequence} (s t : StreamProgress q) (o : Occurrence) : Type 0 where
  pub all : HadGiven s t
  pub ends : IsPrompt q s.built.dictionary → length (read_before t) < o.end
  pub open_ : StaysOpen q s.built.dictionary (read_before t) s.given

-- What was read for an item: pieces that aren't empty; where an item may wait the last one may be empty, and say that no
-- more comes.
abbrev pub IsReadForItem : {q : Sequence} → StreamProgress q → StreamProgress q → List (List ℕ) → Type 0
IsReadForItem {q} s t gained =
    (AreFilled gained × (t.closed ≡ s.closed))
    ⊎ (¬ IsPrompt q t.built.dictionary × AreWhole gained × (t.closed ≡ true))

-- The next item was returned, one of what was read by then. Under standard the automaton had not read the last byte of
-- a match before.
pub record ReturnsNext {R : Type 0} {q : Sequence} (remaining : R → Option (List ℕ)) (s t : StreamProgress q)
    (before after : Watched R) (o : Occurrence) : Type 0 where
  pub gained : List (List ℕ)
  pub has : HasGained remaining s t before after gained 0
  pub read : IsReadForItem s t gained
  pub given : t.given ≡ s.given ++ o ∷ []
  pub come : (t.last ≡ o.end) × (t.at ≡ o.end)
  pub pattern : o.pattern < length s.built.dictionary.patterns
  pub behind : s.last ≤ place_of q o
  pub some : o.start < o.end
  pub new : q ≡ Picks → s.built.dictionary.kind ≡ Standard → s.at < o.end
  pub within : o.end ≤ length (read_by t)
  pub countable : CanBeCounted (read_by t)
  pub due : gained ≢ [] → IsDueToLastPiece s t o

-- A read failed, after all decided items were returned.
pub record ReadFails {R : Type 0} {q : Sequence} (remaining : R → Option (List ℕ)) (s t : StreamProgress q)
    (before after : Watched R) : Type 0 where
  pub filled : List (List ℕ)
  pub has : HasGained remaining s t before after (filled ++ [] ∷ []) 1
  pub read : AreFilled filled
  pub given : t.given ≡ s.given
  pub ended : after.ended ≡ true
  pub all : AreAllGiven t

-- After the last read there are more bytes than places. All decided items were returned before it.
pub record PassesPlaces {R : Type 0} {q : Sequence} (remaining : R → Option (List ℕ)) (s t : StreamProgress q)
    (before after : Watched R) : Type 0 where
  pub gained : List (List ℕ)
  pub has : HasGained remaining s t before after gained 0
  pub read : AreFilled gained
  pub given : t.given ≡ s.given
  pub all : HadGiven s t
  pub many : ¬ CanBeCounted (read_by t)

-- No item is left. If anything was read, the input was read to its end, and all items were returned.
pub record HasNoneLeft {R : Type 0} {q : Sequence} (remaining : R → Option (List ℕ)) (s t : StreamProgress q)
    (before after : Watched R) : Type 0 where
  pub gained : List (List ℕ)
  pub has : HasGained remaining s t before after gained 0
  pub read : ((gained ≡ []) × (t.closed ≡ s.closed))
      ⊎ (AreWhole gained × AreAllGiven t × EachIsDecided t × IsAtEnd (remaining after.inner))
  pub given : t.given ≡ s.given
  pub stopped : IsStopped t after

-- what the next item is, or the error, and what was read for it
abbrev pub NextGives : {R : Type 0} {q : Sequence} → (R → Option (List ℕ)) → StreamProgress q → StreamProgress q
    → Watched R → Watched R → Option (Result Occurrence StreamError) → Type 0
NextGives remaining s t before after (Some (Ok o)) = ReturnsNext remaining s t before after o
NextGives remaining s t before after (Some (Err (Read error))) = ReadFails remaining s t before after
NextGives remaining s t before after (Some (Err Position)) = PassesPlaces remaining s t before after
NextGives remaining s t before after None = HasNoneLeft remaining s t before after
NextGives remaining s t before after (Some (Err other)) = ⊥

-- if no item was left, none is returned, and the reader is unchanged
abbrev pub StaysStopped : {R : Type 0} {q : Sequence} → StreamProgress q → StreamProgress q → Watched R → Watched R
    → Option (Result Occurrence StreamError) → Type 0
StaysStopped s t before after r =
    IsStopped s before → (r ≡ None) × (t.pieces ≡ s.pieces) × (t.given ≡ s.given) × (after ≡ before)

-- ---- one turn

-- All that was read before was searched, and all items that it decides were returned. Then one read returned this
-- piece.
pub record TurnReads {R : Type 0} {q : Sequence} (remaining : R → Option (List ℕ)) (s t : StreamProgress q)
    (before after : Watched R) (piece : List ℕ) (failed : ℕ) : Type 0 where
  pub mid : StreamProgress q
  pub few : CanBeCounted (read_by mid)
  pub nothing : ReadsNothing s mid
  pub given : mid.given ≡ s.given
  pub unclosed : mid.closed ≡ false
  pub all : AreAllGiven mid
  pub read : HasRead remaining mid t before after piece failed

-- The outcome of one turn: an item of what was read; or else one read, which returned some bytes, or none at the end,
-- or failed; or nothing, if no item is left.
abbrev pub TurnGives : {R : Type 0} {q : Sequence} → (R → Option (List ℕ)) → StreamProgress q → StreamProgress q
    → Watched R → Watched R → Turn → Type 0
TurnGives remaining s t before after (Found o) = FindsHeld s (Some o) t × (after ≡ before)
TurnGives remaining s t before after More =
    (piece : List ℕ) × TurnReads remaining s t before after piece 0 × (piece ≢ []) × CanBeCounted (read_by t)
TurnGives {R} {q} remaining s t before after Ended =
    (u : StreamProgress q) × TurnReads remaining s u before after [] 0 × (t ≡ closed_by u)
TurnGives remaining s t before after Over =
    ReadsNothing s t × (t.given ≡ s.given) × (after ≡ before) × IsStopped t after
TurnGives remaining s t before after (Failed (Read error)) = TurnReads remaining s t before after [] 1
TurnGives remaining s t before after (Failed Position) =
    (piece : List ℕ) × TurnReads remaining s t before after piece 0 × (piece ≢ []) × ¬ CanBeCounted (read_by t)
TurnGives remaining s t before after (Failed other) = ⊥

-- ---- how many items are left

-- How many matches are left at most after so many bytes were read, if the search last began anew at `last`. Each match
-- left ends at another place after that: in what was read, if the reader has ended; otherwise wherever places can be
-- counted, and an error may follow. None is left once places can't be counted.
abbrev pub matches_left : ℕ → ℕ → Bool → ℕ
matches_left read last ended =
    if nat_le read usize_max
    then (if ended then read - last else usize_max - last + 1)
    else 0

-- How many items of a listing are left at most after `read` bytes were read, which have `listed` of them, of which `given`
-- were returned. If the reader has ended, the others are left. Otherwise up to `most` in all may be returned, and an
-- error may follow. None is left once places can't be counted.
abbrev pub occurrences_left : ℕ → ℕ → ℕ → ℕ → Bool → ℕ
occurrences_left read listed given most ended =
    if nat_le read usize_max
    then (if ended then listed - given else most - given + 1)
    else 0

-- how many items of a listing are left at most
abbrev pub listed_left : {q : Sequence} → StreamProgress q → Bool → ℕ
listed_left {q} s ended =
    occurrences_left (length (read_by s)) (length (items_of q s.built.dictionary (read_by s))) (length s.given)
    ((length s.built.dictionary.patterns) * 18446744073709551616) ended

-- how many items are left at most
abbrev pub items_left : (q : Sequence) → StreamProgress q → Bool → ℕ
items_left Picks s ended = matches_left (length (read_by s)) s.last ended
items_left Words s ended = matches_left (length (read_by s)) s.last ended
items_left Occurrences s ended = listed_left s ended
items_left AllWords s ended = listed_left s ended

-- ---- the iterator

module _ {S R : Type 0} where
  -- its search
  abbrev pub search_of : StreamIter S R → S
  search_of i = i.stream

  -- the reader
  abbrev pub reader_of : StreamIter S R → Watched R
  reader_of i = i.reader.now

  -- the ghost name of the reference to the reader
  abbrev pub reader_name : StreamIter S R → GName
  reader_name i = i.reader.ghost_name

  -- the reader is unchanged, and held by the same reference
  abbrev pub KeepsReader : StreamIter S R → StreamIter S R → Type 0
  KeepsReader i j = (reader_of j ≡ reader_of i) × (reader_name j ≡ reader_name i)

  module _ {q : Sequence} (progress : S → StreamProgress q) where
    -- how many items are left at most
    abbrev pub most_left : StreamIter S R → ℕ
    most_left i = items_left q (progress i.stream) (reader_of i).ended

    -- the next item, what was read for it by the same reference, and that nothing comes after the end
    abbrev pub GivesItem : (R → Option (List ℕ)) → StreamIter S R → StreamIter S R
        → Option (Result Occurrence StreamError) → Type 0
    GivesItem remaining i j r =
        NextGives remaining (progress i.stream) (progress j.stream) (reader_of i) (reader_of j) r
        × StaysStopped (progress i.stream) (progress j.stream) (reader_of i) (reader_of j) r
        × (reader_name j ≡ reader_name i)

-- how far the search of an iterator over matches, or over occurrences, has come
abbrev pub progress_of : {R : Type 0} {q : Sequence} → StreamIter (StreamProgress q) R → StreamProgress q
progress_of i = i.stream

-- The iterator has read nothing yet, and holds the reader that it borrowed, by the same reference.
abbrev pub IsStreamOver : {R : Type 0} {q : Sequence} → Built → MutBor (Watched R) → StreamIter (StreamProgress q) R
    → Type 0
IsStreamOver b lent i =
    (progress_of i ≡ fresh_progress b) × (reader_of i ≡ lent.now) × (reader_name i ≡ lent.ghost_name)

-- an iterator over the matches of a stream was made; or the error says why not
abbrev pub FindsStream : {R : Type 0} → StreamKinds → Built → (Anchored → Type 0) → MutBor (Watched R)
    → Result (StreamIter (StreamProgress Picks) R) StreamError → Type 0
FindsStream kinds b supports lent (Ok i) = CanStream kinds b supports × IsStreamOver b lent i
FindsStream kinds b supports lent (Err error) = IsStreamRefusal kinds b supports error

-- an iterator over the occurrences in a stream was made; or the error says why not
abbrev pub AnswersStreamListing : {R : Type 0} → Built → (Anchored → Type 0) → MutBor (Watched R)
    → Result (StreamIter (StreamProgress Occurrences) R) StreamError → Type 0
AnswersStreamListing b supports lent (Ok i) = CanStream OnlyStandard b supports × IsStreamOver b lent i
AnswersStreamListing b supports lent (Err error) = IsListingRefusal b supports error

-- If no iterator was made, the reader is unchanged. Otherwise the iterator holds the reference to it, and the reader's
-- final value is the last one under that name.
abbrev pub RestsIfRefused : (R : RattleType) {S E : Type 0} → MutBor (Watched R.Denot) → Result (StreamIter S R.Denot) E
    → Fml
RestsIfRefused R reader result = RestsIfErr (the_row R) reader reader_name result (λ last. last ≡ reader.now)
