-- A stream that is pumped: its items are passed to a sink, with the text between them, and the sink passes what it makes
-- of them to a writer.
use Rattle.std.specs.Prelude.{◌≡◌, ◌⊎◌, ℕ, ◌≤◌, List, [], ◌∷◌, ◌++◌, length, slice_range, Option, Result, Ok, Err}
use Rattle.std.specs.List.{All, concat}
use Rattle.ac_input.specs.declared.search.Anchored.{Anchored}
use Rattle.ac_input.specs.declared.steps.Steps.{Steps}
use Rattle.ac_input.specs.Occurrence.{Occurrence}
use Rattle.ac_automaton.specs.Automaton.{Built}
use Rattle.ac_automaton.specs.Stream.Devices.Moved.{AllFit, AreWhole, HasGiven, but_last}
use Rattle.ac_automaton.specs.InMemory.Replace.{LieInOrder}
use Rattle.ac_automaton.specs.Stream.{AllWords, CanBeCounted, CanStream, Decides, IsNear, IsStreamRefusal, LieApart, Occurrences, Picks, ReadsNothing, Sequence, StreamProgress, Words, items_of, place_of, read_by, room_of}
use Rattle.ac_automaton.specs.Stream.Overlapping.{IsListingRefusal}
use Rattle.ac_automaton.specs.Stream.Replace.{CostsItems, IsAtCut, IsPlaced}
use Rattle.ac_automaton.specs.declared.error.StreamError.{StreamError}
use Rattle.ac_automaton.specs.declared.error.StreamError.TheVariants.{Read, Position}
use Rattle.ac_automaton.specs.declared.stream.StreamKinds.{StreamKinds}
use Rattle.ac_automaton.specs.declared.stream.StreamKinds.TheVariants.{OnlyStandard}
use Rattle.ac_automaton.specs.declared.stream.devices.watched.Watched.{Watched}

-- the bytes between two places, as a sink is passed them; none for occurrences, which may overlap
abbrev pub bytes_between : Sequence → List ℕ → ℕ → ℕ → List ℕ
bytes_between Picks x start end = slice_range x start end
bytes_between Occurrences x start end = []
bytes_between Words x start end = slice_range x start end
bytes_between AllWords x start end = []

-- the bytes between two places are held
pub record LiesHeld {q : Sequence} (s : StreamProgress q) (start end : ℕ) : Type 0 where
  pub held : s.from ≤ start
  pub order : start ≤ end
  pub within : end ≤ length (read_by s)

-- What a sink and its writer do. They take bytes of the text; or the bytes before an item, the item, and its bytes. They
-- stop at either, with an error. For which patterns the sink is ready, and when it holds nothing back.
pub record Handling (Z : Type 0) : Type 1 where
  pub takes : Z → List ℕ → Z → Type 0
  pub passes : Z → List ℕ → Occurrence → List ℕ → Z → Type 0
  pub stops : Z → List ℕ → StreamError → Z → Type 0
  pub refuses : Z → List ℕ → Occurrence → List ℕ → StreamError → Z → Type 0
  pub ready : ℕ → Z → Type 0
  pub settled : Z → Type 0

module _ {Z : Type 0} (h : Handling Z) where
  -- bytes were taken, and nothing is held back; or the sink stopped at them
  abbrev pub AnswersTake : Z → List ℕ → Z → Result (Unit {0}) StreamError → Type 0
  AnswersTake z bytes last (Ok done) = h.takes z bytes last × h.settled last
  AnswersTake z bytes last (Err error) = h.stops z bytes error last

  -- an item was passed, and the bytes before it; or the sink stopped at it
  abbrev pub AnswersPass : Z → List ℕ → Occurrence → List ℕ → Z → Result (Unit {0}) StreamError → Type 0
  AnswersPass z before o matched last (Ok done) = h.passes z before o matched last
  AnswersPass z before o matched last (Err error) = h.refuses z before o matched error last

  -- the sink is ready for what it was ready for before
  abbrev pub StaysReady : Z → Z → Type 0
  StaysReady z last = (patterns : ℕ) → h.ready patterns z → h.ready patterns last

  module _ (q : Sequence) where
    -- The sink and the writer, from one place of a text to another, over the items in between: each is passed with the
    -- bytes before it, and at the end the bytes that are left are taken.
    abbrev pub IsSinkChain : List ℕ → ℕ → List Occurrence → ℕ → Z → Z → Type 0
    IsSinkChain x at [] to z last = h.takes z (bytes_between q x at to) last
    IsSinkChain x at (o ∷ os) to z last =
        (mid : Z) × h.passes z (bytes_between q x at o.start) o (bytes_between q x o.start o.end) mid
        × IsSinkChain x o.end os to mid last

    -- All that a text decides was passed: the chain has come to its cut, before which these items lie and no other, however
    -- the text goes on, and nothing is held back. After the cut the text has at most as many bytes left as the longest pattern has, or one; and
    -- none, if all of it is decided.
    pub record HasComeToCut (b : Built) (x : List ℕ) (cut : ℕ) (done : List Occurrence) (z last : Z) : Type 0 where
      pub decides : Decides q b.dictionary x done
      pub within : cut ≤ length x
      pub later : (more : List ℕ) → (rest : List Occurrence) × (items_of q b.dictionary (x ++ more) ≡ done ++ rest)
          × All (λ o. cut ≤ place_of q o) rest
      pub near : IsNear q b.dictionary x cut
      pub lies : LieApart q → LieInOrder (length b.dictionary.patterns) cut 0 done
      pub chain : IsSinkChain x 0 done cut z last
      pub settled : h.settled last

    -- The sink stopped at the bytes between a place and another one, where no item that is left begins before that.
    pub record StopsAtBytes (x : List ℕ) (at : ℕ) (rest : List Occurrence) (z : Z) (error : StreamError)
        (last : Z) : Type 0 where
      pub end : ℕ
      pub order : (at ≤ end) × (end ≤ length x)
      pub later : All (λ o. end ≤ place_of q o) rest
      pub stopped : h.stops z (bytes_between q x at end) error last

    -- The sink stopped at the first item that is left.
    pub record StopsAtItem (x : List ℕ) (at : ℕ) (rest : List Occurrence) (z : Z) (error : StreamError)
        (last : Z) : Type 0 where
      pub found : Occurrence
      pub others : List Occurrence
      pub first : rest ≡ found ∷ others
      pub order : LieApart q → at ≤ found.start
      pub refused : h.refuses z (bytes_between q x at found.start) found (bytes_between q x found.start found.end) error
          last

    -- Of a text whose first items were passed up to a place, the chain went on to a later place, and stopped there.
    pub record StopsFrom (b : Built) (x : List ℕ) (from : ℕ) (done : List Occurrence) (z : Z) (error : StreamError)
        (last : Z) : Type 0 where
      pub more : List Occurrence
      pub rest : List Occurrence
      pub all : items_of q b.dictionary x ≡ done ++ (more ++ rest)
      pub at : ℕ
      pub on : from ≤ at
      pub lies : LieApart q → LieInOrder (length b.dictionary.patterns) at from more
      pub there : Z
      pub chain : IsSinkChain x from more at z there
      pub stop : StopsAtBytes x at rest there error last ⊎ StopsAtItem x at rest there error last

    -- ---- what each result means

    -- The input was read to its end, and the chain went through all of it.
    pub record PumpedWhole (b : Built) (pieces : List (List ℕ)) (z last : Z) : Type 0 where
      pub whole : AreWhole pieces
      pub chain : IsSinkChain (concat pieces) 0 (items_of q b.dictionary (concat pieces)) (length (concat pieces)) z last
      pub settled : h.settled last

    -- All that was decided before the last read was passed. Then the chain went on, and the sink stopped.
    pub record StoppedAtSink (b : Built) (pieces : List (List ℕ)) (z : Z) (error : StreamError) (last : Z) : Type 0 where
      pub cut : ℕ
      pub done : List Occurrence
      pub mid : Z
      pub came : HasComeToCut b (concat (but_last pieces)) cut done z mid
      pub stops : StopsFrom b (concat pieces) cut done mid error last

    -- all that a text decides was passed, and no more
    abbrev pub HasPassedDecided : Built → List ℕ → Z → Z → Type 0
    HasPassedDecided b x z last = (cut : ℕ) × (done : List Occurrence) × HasComeToCut b x cut done z last

    -- an error that is not the sink's: a read failed, or there are more bytes than places; and how far the chain came
    abbrev pub IsReadFault : Built → List (List ℕ) → ℕ → Z → Z → StreamError → Type 0
    IsReadFault b pieces failed z last (Read error) =
        (failed ≡ 1) × AreWhole pieces × HasPassedDecided b (concat pieces) z last
    IsReadFault b pieces failed z last Position =
        (failed ≡ 0) × (¬ CanBeCounted (concat pieces)) × HasPassedDecided b (concat (but_last pieces)) z last
    IsReadFault b pieces failed z last other = ⊥

    -- what a result after the first read means for the pieces that were read, and the number of failed reads
    abbrev pub AnswersPump : Built → List (List ℕ) → ℕ → Z → Z → Result (Unit {0}) StreamError → Type 0
    AnswersPump b pieces failed z last (Ok done) = (failed ≡ 0) × PumpedWhole b pieces z last
    AnswersPump b pieces failed z last (Err error) =
        ((failed ≡ 0) × StoppedAtSink b pieces z error last) ⊎ IsReadFault b pieces failed z last error

    -- what was read of a stream, no piece longer than the buffer, and how far the chain came
    abbrev pub Pumps : {R : Type 0} → (R → Option (List ℕ)) → Built → Watched R → Watched R → Z → Z
        → Result (Unit {0}) StreamError → Type 0
    Pumps remaining b before after z last result =
        (pieces : List (List ℕ)) × (failed : ℕ) × HasGiven remaining before after pieces failed
        × AllFit (room_of q b) pieces × AnswersPump b pieces failed z last result

    -- the stream could be searched, and was pumped, at this cost
    abbrev pub PumpsAt : {R : Type 0} → (R → Option (List ℕ)) → Built → Watched R → Watched R → Z → Z → Steps → Steps
        → Result (Unit {0}) StreamError → Type 0
    PumpsAt remaining b before after z last steps counted result =
        Pumps remaining b before after z last result × CostsItems q b before after steps counted result

  -- nothing happened
  abbrev pub IsUntouched : {R : Type 0} → Watched R → Watched R → Z → Z → Steps → Steps → Type 0
  IsUntouched before after z last steps counted = (after ≡ before) × (last ≡ z) × (counted ≡ steps)

  -- The matches of a stream were pumped; or it could not be searched, and nothing happened.
  abbrev pub PumpsMatches : {R : Type 0} → (R → Option (List ℕ)) → StreamKinds → Built → (Anchored → Type 0)
      → Watched R → Watched R → Z → Z → Steps → Steps → Result (Unit {0}) StreamError → Type 0
  PumpsMatches remaining kinds b supports before after z last steps counted (Ok done) =
      CanStream kinds b supports × PumpsAt Picks remaining b before after z last steps counted (Ok done)
  PumpsMatches remaining kinds b supports before after z last steps counted (Err error) =
      (IsStreamRefusal kinds b supports error × IsUntouched before after z last steps counted)
      ⊎ (CanStream kinds b supports × PumpsAt Picks remaining b before after z last steps counted (Err error))

  -- all occurrences in a stream were pumped; or it could not be searched for them, and nothing happened
  abbrev pub PumpsOccurrences : {R : Type 0} → (R → Option (List ℕ)) → Built → (Anchored → Type 0)
      → Watched R → Watched R → Z → Z → Steps → Steps → Result (Unit {0}) StreamError → Type 0
  PumpsOccurrences remaining b supports before after z last steps counted (Ok done) =
      CanStream OnlyStandard b supports × PumpsAt Occurrences remaining b before after z last steps counted (Ok done)
  PumpsOccurrences remaining b supports before after z last steps counted (Err error) =
      (IsListingRefusal b supports error × IsUntouched before after z last steps counted)
      ⊎ (CanStream OnlyStandard b supports
      × PumpsAt Occurrences remaining b before after z last steps counted (Err error))

  -- ---- what holds at each point

  module _ {q : Sequence} where
    -- In between nothing was read, and the chain went on from one place to another, over the items that were found.
    pub record PassesItems (s t : StreamProgress q) (from to : ℕ) (z last : Z) : Type 0 where
      pub same : ReadsNothing s t
      pub placed : IsPlaced t to
      pub on : from ≤ to
      pub more : List Occurrence
      pub given : t.given ≡ s.given ++ more
      pub lies : LieApart q → LieInOrder (length s.built.dictionary.patterns) to from more
      pub chain : IsSinkChain q (read_by s) from more to z last
      pub ready : StaysReady z last

    -- In between nothing was read, and the chain went on from a place and stopped.
    abbrev pub StopsPassing : StreamProgress q → StreamProgress q → ℕ → Z → StreamError → Z → Type 0
    StopsPassing s t from z error last =
        ReadsNothing s t × StopsFrom q s.built (read_by s) from s.given z error last

    -- All that is decided was passed, and nothing is held back; or the sink stopped.
    abbrev pub PassesDecided : StreamProgress q → StreamProgress q → ℕ → Z → Z → Result ℕ StreamError → Type 0
    PassesDecided s t from z last (Ok to) = PassesItems s t from to z last × IsAtCut t to × h.settled last
    PassesDecided s t from z last (Err error) = StopsPassing s t from z error last
