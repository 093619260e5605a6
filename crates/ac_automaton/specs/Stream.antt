-- A search of a stream: how far it has come, what its calls do, and what it costs.
pub mod Answer
pub mod Devices
pub mod Iter
pub mod Laws
pub mod Mask
pub mod Overlapping
pub mod Pump
pub mod Push
pub mod Replace
pub mod ReplaceWith
pub mod Replacer
pub mod ReplacerNext
pub mod ReplacerWrite
pub mod Search
pub mod SinkLaws
pub mod Texts
pub mod WholeWords
use Rattle.std.specs.Prelude.{◌≡◌, ◌≢◌, ◌⊎◌, ℕ, ◌+◌, ◌-◌, ◌*◌, ◌<◌, ◌≤◌, max, if◌then◌else◌, Bool, List, [], ◌∷◌, ◌++◌, length, drop, take, false, true, Option, None, Some, Result, Ok, Err}
use Rattle.std.specs.List.{All, Contains, concat}
use Rattle.ac_input.specs.Number.{usize_max}
use Rattle.ac_input.specs.declared.search.Anchored.{Anchored}
use Rattle.ac_input.specs.declared.search.Anchored.TheVariants.{No}
use Rattle.ac_input.specs.declared.search.MatchKind.{MatchKind}
use Rattle.ac_input.specs.declared.search.MatchKind.TheVariants.{Standard, LeftmostFirst, LeftmostLongest}
use Rattle.ac_input.specs.declared.steps.Steps.{Steps}
use Rattle.ac_input.specs.Laws.BeginningLaws.{IsBeginning}
use Rattle.ac_input.specs.Best.{IsLeast}
use Rattle.ac_input.specs.Computed.{listing_among, listing_of, walk_among, walk_of}
use Rattle.ac_input.specs.Cut.{IsCut}
use Rattle.ac_input.specs.Dictionary.{Dictionary, IsLive, whole}
use Rattle.ac_input.specs.Occurrence.{Occurrence}
use Rattle.ac_input.specs.Steps.{Done}
use Rattle.ac_input.specs.Word.{OccursWhole, whole_occurrences}
use Rattle.ac_input.specs.Work.{longest, shortest, lookups_per_byte}
use Rattle.ac_automaton.specs.Ahead.{most_ahead}
use Rattle.ac_automaton.specs.Automaton.{Built, refusal_of}
use Rattle.ac_automaton.specs.Stream.Devices.Buffer.{least_room, room_for}
use Rattle.ac_automaton.specs.Stream.Devices.Moved.{AllFit, HasGiven}
use Rattle.ac_automaton.specs.Words.Before.{WordsBefore}
use Rattle.ac_automaton.specs.declared.error.MatchErrorKind.{MatchErrorKind}
use Rattle.ac_automaton.specs.declared.error.MatchErrorKind.TheVariants.{UnsupportedStream, UnsupportedEmpty}
use Rattle.ac_automaton.specs.declared.error.StreamError.{StreamError}
use Rattle.ac_automaton.specs.declared.error.StreamError.TheVariants.{Config, Read, Memory, Position}
use Rattle.ac_automaton.specs.declared.stream.StreamKinds.{StreamKinds}
use Rattle.ac_automaton.specs.declared.stream.StreamKinds.TheVariants.{AnyKind, OnlyStandard}
use Rattle.ac_automaton.specs.declared.stream.devices.watched.Watched.{Watched}

-- ---- what a search of a stream returns

-- the matches under a kind, one after another; or all occurrences; or the whole words under a kind, one after another; or all whole
-- words
pub data Sequence : Type 0 where
  Picks : Sequence
  Occurrences : Sequence
  Words : Sequence
  AllWords : Sequence

-- the items of a text
abbrev pub items_of : Sequence → Dictionary → List ℕ → List Occurrence
items_of Picks m x = walk_of m.kind (whole m x false)
items_of Occurrences m x = listing_of (whole m x false)
items_of Words m x = walk_among whole_occurrences m.kind (whole m x false) 0 None
items_of AllWords m x = listing_among whole_occurrences (whole m x false)

-- the place of an item by which its sequence goes on: where it starts, or in a listing, where it ends
abbrev pub place_of : Sequence → Occurrence → ℕ
place_of Picks o = o.start
place_of Occurrences o = o.end
place_of Words o = o.start
place_of AllWords o = o.end

-- how many bytes the buffer has room for; the byte before a word counts, too
abbrev pub room_of : Sequence → Built → ℕ
room_of Picks b = room_for (max (longest b.dictionary.patterns) 1)
room_of Occurrences b = least_room
room_of Words b = room_for (max (longest b.dictionary.patterns) 1 + 1)
room_of AllWords b = room_for (max (longest b.dictionary.patterns) 1 + 1)

-- whether a match may wait to be decided: under a leftmost kind
abbrev pub may_wait : MatchKind → Bool
may_wait Standard = false
may_wait LeftmostFirst = true
may_wait LeftmostLongest = true

-- the items lie one after another, and their bytes are held
abbrev pub LieApart : Sequence → Type 0
LieApart Picks = Unit {0}
LieApart Occurrences = ⊥
LieApart Words = Unit {0}
LieApart AllWords = ⊥

-- An item is decided with its last byte: under standard. A word waits for the byte after it.
abbrev pub IsPrompt : Sequence → Dictionary → Type 0
IsPrompt Picks m = m.kind ≡ Standard
IsPrompt Occurrences m = m.kind ≡ Standard
IsPrompt Words m = ⊥
IsPrompt AllWords m = ⊥

-- whether an item may wait for what follows it
abbrev pub waits_for : Sequence → Dictionary → Bool
waits_for Picks m = may_wait m.kind
waits_for Occurrences m = may_wait m.kind
waits_for Words m = true
waits_for AllWords m = true

-- what the automaton is made from: words of each kind are found by one of the standard kind
abbrev pub made_from : Sequence → Dictionary → Dictionary
made_from Picks m = m
made_from Occurrences m = m
made_from Words m = record m { kind = Standard }
made_from AllWords m = m

-- ---- how far it has come

-- How far a search of a stream has come: its automaton; the pieces that its reads returned; whether it was told that no
-- more comes; the items that it returned; where the held bytes begin, which reach to the end of what was read; up to
-- which place the automaton has read; before which place it needs no byte any more; and how many states it looked at,
-- places it scanned and bytes it moved. For matches `last` is where it last began anew: at first, after a match, and
-- where nothing of what was read is live. For a listing it is `at`. Places are counted from the first byte that was read.
pub record StreamProgress (sequence : Sequence) : Type 0 where
  pub built : Built
  pub pieces : List (List ℕ)
  pub closed : Bool
  pub given : List Occurrence
  pub from : ℕ
  pub at : ℕ
  pub last : ℕ
  pub looked : ℕ
  pub scanned : ℕ
  pub moved : ℕ

-- a search that has read nothing yet
abbrev pub fresh_progress : {q : Sequence} → Built → StreamProgress q
fresh_progress b =
    record {
      built = b;
      pieces = [];
      closed = false;
      given = [];
      from = 0;
      at = 0;
      last = 0;
      looked = 0;
      scanned = 0;
      moved = 0;
    }

-- the bytes that were read
abbrev pub read_by : {q : Sequence} → StreamProgress q → List ℕ
read_by s = concat s.pieces

-- The place up to which everything is decided: each match not returned yet begins there or later, and each item of a listing
-- ends there or later, whatever is still read.
abbrev pub cut_of : {q : Sequence} → StreamProgress q → ℕ
cut_of s = max s.last (s.at - max (longest s.built.dictionary.patterns) 1)

-- few enough bytes that each place is a `usize`
abbrev pub CanBeCounted : List ℕ → Type 0
CanBeCounted x = length x ≤ usize_max

-- the automaton has read all that was read
abbrev pub IsSearched : {q : Sequence} → StreamProgress q → Type 0
IsSearched s = s.at ≡ length (read_by s)

-- ---- when everything is decided

-- where the last of some matches ends; 0 where there is none
abbrev pub end_of : List Occurrence → ℕ
end_of [] = 0
end_of (o ∷ []) = o.end
end_of (o ∷ (next ∷ os)) = end_of (next ∷ os)

-- nothing of a text is live
abbrev pub NothingIsLive : Dictionary → List ℕ → Type 0
NothingIsLive m text = IsLive m false text (Some (length text))

-- What follows a text may still change the item that comes next after some: the rest of the text isn't dead. The best word
-- there waits, under a leftmost kind, until those that begin as early can't end later, or nothing is live. Where all words are
-- asked for, only one that ends with the text waits.
abbrev pub StaysOpen : Sequence → Dictionary → List ℕ → List Occurrence → Type 0
StaysOpen Picks m x os = ¬ IsLive m false (drop (end_of os) x) None
StaysOpen Occurrences m x os = ¬ IsLive m false (drop (end_of os) x) None
StaysOpen Words m x os =
    (best : Occurrence) → IsLeast m.kind (WordsBefore m x (end_of os) (length x)) (Some best)
    → (m.kind ≢ Standard) × (length x ≤ best.start + longest m.patterns)
    × ¬ NothingIsLive (made_from Words m) (drop (end_of os) x)
StaysOpen AllWords m x os =
    (o : Occurrence) → OccursWhole (whole m x false) o → o.end < length x → Contains os o

-- The items that a text decides: however it goes on, they are the first ones. Where each is decided with its last byte, they
-- are all items of the text. What follows may still change the next one.
pub record DecidesItems (items : List ℕ → List Occurrence) (prompt : Type 0) (stays : List Occurrence → Type 0)
    (x : List ℕ) (os : List Occurrence) : Type 0 where
  pub first : ((more : List ℕ) → IsBeginning os (items (x ++ more)))
  pub all : prompt → os ≡ items x
  pub open_ : stays os

-- the matches that a text decides: under standard all of them; what follows them isn't dead
abbrev pub DecidesMatches : Dictionary → List ℕ → List Occurrence → Type 0
DecidesMatches m x os =
    DecidesItems (λ y. walk_of m.kind (whole m y false)) (m.kind ≡ Standard)
    (λ l. ¬ IsLive m false (drop (end_of l) x) None) x os

-- the items of a sequence that a text decides
abbrev pub Decides : Sequence → Dictionary → List ℕ → List Occurrence → Type 0
Decides q m x os = DecidesItems (λ y. items_of q m y) (IsPrompt q m) (λ l. StaysOpen q m x l) x os

-- After a place, a text has at most as many bytes left as the longest pattern has, or one byte; and none, if all of it
-- is decided: nothing of what follows the decided items is live.
pub record LeavesFew (decides : List Occurrence → Type 0) (m made : Dictionary) (x : List ℕ) (place : ℕ) : Type 0 where
  pub kept : length x ≤ place + max (longest m.patterns) 1
  pub all : ((os : List Occurrence) → decides os → NothingIsLive made (drop (end_of os) x)) → length x ≤ place

-- the same of the items of a sequence
abbrev pub IsNear : Sequence → Dictionary → List ℕ → ℕ → Type 0
IsNear q m x place = LeavesFew (λ os. Decides q m x os) m (made_from q m) x place

-- the front of a text up to a cut, as far as it can be written
pub record IsFront (m : Dictionary) (output : List ℕ → List ℕ) (x text : List ℕ) : Type 0 where
  pub cut : ℕ
  pub is_cut : IsCut m x cut
  pub near : LeavesFew (λ os. DecidesMatches m x os) m m x cut
  pub front : text ≡ output (take cut x)

-- ---- whether a stream can be searched

-- there is a start for a search that isn't anchored, the kind is the standard one unless any is accepted, and no
-- pattern is empty
abbrev pub CanStream : StreamKinds → Built → (Anchored → Type 0) → Type 0
CanStream OnlyStandard b supports = supports No × (b.dictionary.kind ≡ Standard) × (1 ≤ shortest b.dictionary.patterns)
CanStream AnyKind b supports = supports No × (1 ≤ shortest b.dictionary.patterns)

-- the error of a search that isn't supported: there is no start, or else the kind isn't accepted, or else a pattern is
-- empty
abbrev pub IsConfigRefusal : StreamKinds → Built → (Anchored → Type 0) → MatchErrorKind → Type 0
IsConfigRefusal OnlyStandard b supports error =
    (¬ supports No × (error ≡ refusal_of No))
    ⊎ (supports No × (b.dictionary.kind ≢ Standard) × (error ≡ UnsupportedStream b.dictionary.kind))
    ⊎ (supports No × (b.dictionary.kind ≡ Standard) × (shortest b.dictionary.patterns ≡ 0) × (error ≡ UnsupportedEmpty))
IsConfigRefusal AnyKind b supports error =
    (¬ supports No × (error ≡ refusal_of No))
    ⊎ (supports No × (shortest b.dictionary.patterns ≡ 0) × (error ≡ UnsupportedEmpty))

-- the error says what failed: the search, or the memory for the buffer
abbrev pub IsStreamRefusal : StreamKinds → Built → (Anchored → Type 0) → StreamError → Type 0
IsStreamRefusal kinds b supports (Config error) = IsConfigRefusal kinds b supports error
IsStreamRefusal kinds b supports Memory = CanStream kinds b supports
IsStreamRefusal kinds b supports other = ⊥

-- ---- what holds wherever a search stands

-- Whatever is still read, the items that were returned are the first ones, and the places of all others are at the cut
-- or later.
abbrev pub IsDecided : {q : Sequence} → StreamProgress q → Type 0
IsDecided {q} s =
    (more : List ℕ) → (s.closed ≡ true → more ≡ [])
    → (rest : List Occurrence) × (items_of q s.built.dictionary (read_by s ++ more) ≡ s.given ++ rest)
    × All (λ o. cut_of s ≤ place_of q o) rest

-- How many of n bytes may be read ahead in vain: none without lanes, since nothing is read ahead; nor of whole words, which
-- never read ahead, nor of all occurrences, which lose nothing of it.
abbrev pub in_vain : Sequence → Built → ℕ → ℕ
in_vain Picks b n = if b.lanes then n else 0
in_vain Occurrences b n = 0
in_vain Words b n = 0
in_vain AllWords b n = 0

-- How many bytes may be looked at again, with so many matches: none under standard; under a leftmost kind those that were
-- read ahead in vain, and after each match as many as the longest pattern has, and one.
abbrev pub again_for : MatchKind → ℕ → ℕ → ℕ → ℕ
again_for Standard longest vain matches = 0
again_for LeftmostFirst longest vain matches = vain + (longest + 1) * matches
again_for LeftmostLongest longest vain matches = vain + (longest + 1) * matches

-- how many bytes may be looked at again, by the dictionary's kind and patterns
abbrev pub read_again : Dictionary → ℕ → ℕ → ℕ
read_again m vain matches = again_for m.kind (longest m.patterns) vain matches

-- how many looks at n bytes and at those looked at again may be made, where each takes one
abbrev pub looked_in_all : Sequence → Built → ℕ → ℕ → ℕ
looked_in_all q b n matches = n + read_again b.dictionary (in_vain q b n) matches

-- how many bytes a search may have looked at, those that it looked at again included
abbrev pub read_in_all : {q : Sequence} → StreamProgress q → ℕ
read_in_all {q} s = looked_in_all q s.built (length (read_by s)) (length s.given)

-- What a search has cost. It made at least one look for each byte that it has passed. In total it made at most one, or
-- two if the automaton isn't deterministic, for each byte that was read, those looked at again included. Under standard
-- it made at most as many for the bytes that it has passed, and one for each byte that was read ahead. It scanned
-- nothing, and moved at most a seventh of the bytes that were read. A search for occurrences moved none.
pub record IsWithinStreamBudget {q : Sequence} (s : StreamProgress q) : Type 0 where
  pub some : s.at ≤ s.looked
  pub looked : s.looked ≤ lookups_per_byte s.built.deterministic * read_in_all s
  pub near : s.built.dictionary.kind ≡ Standard → s.looked ≤ lookups_per_byte s.built.deterministic * s.at + most_ahead
  pub scanned : s.scanned ≡ 0
  pub moved : 7 * s.moved ≤ length (read_by s)
  pub unmoved : q ≡ Occurrences → s.moved ≡ 0

-- What holds of a search wherever it stands. No read returned more than the buffer has room for. The items that it
-- returned are the first of those of what was read. Only a search under standard returns occurrences, and it needs
-- nothing of what it has passed.
pub record IsOnCourse {q : Sequence} (s : StreamProgress q) : Type 0 where
  pub standard : q ≡ Occurrences → s.built.dictionary.kind ≡ Standard
  pub passed : q ≡ Occurrences → s.last ≡ s.at
  pub unclosed : IsPrompt q s.built.dictionary → s.closed ≡ false
  pub filled : 1 ≤ shortest s.built.dictionary.patterns
  pub ordered : (s.last ≤ s.at) × (s.at ≤ length (read_by s))
  pub kept : (s.from ≤ cut_of s) × (s.from ≤ s.at) × (length (read_by s) ≤ s.from + room_of q s.built)
  pub short : AllFit (room_of q s.built) s.pieces
  pub begun : IsBeginning s.given (items_of q s.built.dictionary (read_by s))
  pub ended : end_of s.given ≤ s.last
  pub decided : IsDecided s
  pub paid : IsWithinStreamBudget s

-- A search of a stream was made, which has read nothing yet; or the error says why not.
abbrev pub AnswersNew : StreamKinds → Built → (Anchored → Type 0) → Result (StreamProgress Picks) StreamError → Type 0
AnswersNew kinds b supports (Ok s) = CanStream kinds b supports × (s ≡ fresh_progress b) × IsOnCourse s
AnswersNew kinds b supports (Err error) = IsStreamRefusal kinds b supports error

-- the error is that there is no memory
abbrev pub IsOutOfMemory : StreamError → Type 0
IsOutOfMemory Memory = Unit {0}
IsOutOfMemory other = ⊥

-- ---- what a call does

-- a search after it was told that no more comes; where no item waits, that changes nothing
abbrev pub closed_by : {q : Sequence} → StreamProgress q → StreamProgress q
closed_by {q} s = record s { closed = waits_for q s.built.dictionary }

-- the search counted exactly what was done in between
abbrev pub StreamCounts : {q : Sequence} → StreamProgress q → StreamProgress q → Steps → Steps → Type 0
StreamCounts s t before after =
    (states places bytes : ℕ) × Done states places bytes before after × (t.looked ≡ s.looked + states)
    × (t.scanned ≡ s.scanned + places) × (t.moved ≡ s.moved + bytes)

-- what was done was counted, and the search is on its course
abbrev pub GoesOn : {q : Sequence} → StreamProgress q → StreamProgress q → Steps → Steps → Type 0
GoesOn s t before after = StreamCounts s t before after × IsOnCourse t

-- nothing was counted in between
pub record CountsNothing {q : Sequence} (s t : StreamProgress q) : Type 0 where
  pub looked : t.looked ≡ s.looked
  pub scanned : t.scanned ≡ s.scanned
  pub moved : t.moved ≡ s.moved

-- everything is unchanged, except that bytes before the cut may have been dropped
pub record IsRolled {q : Sequence} (s t : StreamProgress q) : Type 0 where
  pub from : (s.from ≤ t.from) × (t.from ≤ cut_of s)
  pub same : t ≡ record s { from = t.from; moved = t.moved }

-- Nothing was read in between, and the same bytes are held. Under standard a search doesn't go back.
pub record ReadsNothing {q : Sequence} (s t : StreamProgress q) : Type 0 where
  pub on : s.built.dictionary.kind ≡ Standard → s.at ≤ t.at
  pub last : s.last ≤ t.last
  pub closed : t.closed ≡ s.closed
  pub built : t.built ≡ s.built
  pub pieces : t.pieces ≡ s.pieces
  pub from : t.from ≡ s.from

-- An item among the bytes that were read. The bytes of a match are held; under standard the automaton had not read the
-- last of them before. Nor had it read the last of an occurrence, if all occurrences in what it had read were returned.
pub record IsHeldItem {q : Sequence} (s : StreamProgress q) (o : Occurrence) : Type 0 where
  pub pattern : o.pattern < length s.built.dictionary.patterns
  pub held : LieApart q → s.from ≤ o.start
  pub behind : s.last ≤ place_of q o
  pub some : o.start < o.end
  pub new : q ≡ Picks → s.built.dictionary.kind ≡ Standard → s.at < o.end
  pub past : q ≡ Occurrences → s.given ≡ items_of q s.built.dictionary (take s.at (read_by s)) → s.at < o.end
  pub within : o.end ≤ length (read_by s)

-- All items of what was read are decided: always where each is decided with its last byte, else once no more comes.
abbrev pub EachIsDecided : {q : Sequence} → StreamProgress q → Type 0
EachIsDecided {q} s = IsPrompt q s.built.dictionary ⊎ (s.closed ≡ true)

-- All that was read was searched, and all items that it decides were returned. What follows may change the next one, unless
-- no more comes. If nothing after the last of them is live, the search began anew at its end.
pub record AreAllGiven {q : Sequence} (s : StreamProgress q) : Type 0 where
  pub searched : IsSearched s
  pub all : EachIsDecided s → s.given ≡ items_of q s.built.dictionary (read_by s)
  pub open_ : StaysOpen q s.built.dictionary (read_by s) s.given
  pub anew : NothingIsLive (made_from q s.built.dictionary) (drop (end_of s.given) (read_by s)) → s.last ≡ s.at

-- This is the next item of what was read; or there is none, and all decided ones were returned if places can be
-- counted.
abbrev pub FindsHeld : {q : Sequence} → StreamProgress q → Option Occurrence → StreamProgress q → Type 0
FindsHeld s None t = ReadsNothing s t × (t.given ≡ s.given) × (CanBeCounted (read_by s) → AreAllGiven t)
FindsHeld s (Some o) t =
    ReadsNothing s t × (t.given ≡ s.given ++ o ∷ []) × (t.last ≡ o.end) × (t.at ≡ o.end) × IsHeldItem s o
    × CanBeCounted (read_by s) × ¬ AreAllGiven s

-- One read returned a piece, which the search appended to what it had read. Bytes before the cut may have been dropped.
pub record HasRead {R : Type 0} {q : Sequence} (remaining : R → Option (List ℕ)) (s t : StreamProgress q)
    (before after : Watched R) (piece : List ℕ) (failed : ℕ) : Type 0 where
  pub built : t.built ≡ s.built
  pub pieces : t.pieces ≡ s.pieces ++ piece ∷ []
  pub closed : t.closed ≡ s.closed
  pub given : t.given ≡ s.given
  pub at : t.at ≡ s.at
  pub last : t.last ≡ s.last
  pub from : t.from ≤ cut_of s
  pub short : length piece ≤ room_of q s.built
  pub read : HasGiven remaining before after (piece ∷ []) failed

-- The result of a read: how many bytes it returned, none at the end; or the error of a failed read; or that there are
-- more bytes than places.
abbrev pub ReadsMore : {R : Type 0} {q : Sequence} → (R → Option (List ℕ)) → StreamProgress q → StreamProgress q
    → Watched R → Watched R → Result ℕ StreamError → Type 0
ReadsMore remaining s t before after (Ok n) =
    (piece : List ℕ) × HasRead remaining s t before after piece 0 × (length piece ≡ n) × CanBeCounted (read_by t)
ReadsMore remaining s t before after (Err (Read error)) = HasRead remaining s t before after [] 1
ReadsMore remaining s t before after (Err Position) =
    (piece : List ℕ) × HasRead remaining s t before after piece 0 × ¬ CanBeCounted (read_by t)
ReadsMore remaining s t before after (Err other) = ⊥
