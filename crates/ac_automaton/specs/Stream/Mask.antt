-- Masking of a stream: how far it has come, what its calls do, and what each result means for what was read and written.
use Rattle.std.specs.Prelude.{◌≡◌, ◌≢◌, ◌⊎◌, ℕ, ◌+◌, ◌-◌, ◌*◌, ◌<◌, ◌≤◌, max, Bool, false, true, IsTrue, List, [], ◌∷◌, ◌++◌, length, take, drop, slice_range, Option, Result, Ok, Err, IfErr, OnOk}
use Rattle.std.specs.List.{concat}
use Rattle.ac_input.specs.Number.{StateID}
use Rattle.ac_input.specs.declared.search.Anchored.{Anchored}
use Rattle.ac_input.specs.declared.search.Anchored.TheVariants.{No}
use Rattle.ac_input.specs.declared.search.MatchKind.TheVariants.{Standard}
use Rattle.ac_input.specs.declared.steps.Steps.{Steps}
use Rattle.ac_input.specs.Dictionary.{Dictionary, IsLive, live_len}
use Rattle.ac_input.specs.Mask.{IsFinalBefore}
use Rattle.ac_input.specs.Steps.{Done}
use Rattle.ac_input.specs.Work.{longest, lookups_per_byte, shortest}
use Rattle.ac_automaton.specs.Automaton.{Built}
use Rattle.ac_automaton.specs.Masking.{masked_in}
use Rattle.ac_automaton.specs.Stream.{CanBeCounted, CanStream, NothingIsLive, Picks, room_of}
use Rattle.ac_automaton.specs.Stream.Answer.{WritesStream}
use Rattle.ac_automaton.specs.Stream.Devices.Buffer.{Held, IsRollPaid}
use Rattle.ac_automaton.specs.Stream.Devices.Moved.{AllFit, HasGiven, NoneTouched}
use Rattle.ac_automaton.specs.Stream.Overlapping.{IsListingRefusal}
use Rattle.ac_automaton.specs.Stream.Push.{as_piece}
use Rattle.ac_automaton.specs.Stream.Replace.{IsBegun}
use Rattle.ac_automaton.specs.declared.automaton.Automaton.{Ghosts}
use Rattle.ac_automaton.specs.declared.error.StreamError.{StreamError}
use Rattle.ac_automaton.specs.declared.error.StreamError.TheVariants.{Position, Read}
use Rattle.ac_automaton.specs.declared.stream.StreamKinds.TheVariants.{OnlyStandard}
use Rattle.ac_automaton.specs.declared.stream.devices.watched.Watched.{Watched}

-- ---- how far it has come

-- How far a masking of a stream has come: its automaton and its mask; the pieces that it was passed; whether nothing more
-- comes; where the held bytes begin, which reach to the end of what was passed; up to which place it has masked them; which
-- masked bytes are ready, from one place to another, where those before were handed out earlier; and what it has cost.
pub record MaskProgress : Type 0 where
  pub built : Built
  pub mask : ℕ
  pub pieces : List (List ℕ)
  pub closed : Bool
  pub from : ℕ
  pub at : ℕ
  pub out : ℕ
  pub cut : ℕ
  pub looked : ℕ
  pub scanned : ℕ
  pub moved : ℕ

-- a masking that was passed nothing yet
abbrev pub fresh_mask : Built → ℕ → MaskProgress
fresh_mask b mask =
    record {
      built = b;
      mask = mask;
      pieces = [];
      closed = false;
      from = 0;
      at = 0;
      out = 0;
      cut = 0;
      looked = 0;
      scanned = 0;
      moved = 0;
    }

-- the bytes that were passed
abbrev pub passed_to : MaskProgress → List ℕ
passed_to s = concat s.pieces

-- those that the automaton has read
abbrev pub front_of : MaskProgress → List ℕ
front_of s = take s.at (passed_to s)

-- their masked text
abbrev pub masked_of : MaskProgress → List ℕ
masked_of s = masked_in s.built s.mask (front_of s)

-- the masked bytes that are ready
abbrev pub ready_of : MaskProgress → List ℕ
ready_of s = slice_range (masked_of s) s.out s.cut

-- all that was passed is masked
abbrev pub IsAllMasked : MaskProgress → Type 0
IsAllMasked s = s.at ≡ length (passed_to s)

-- Before the place the masked text is final. After it are fewer bytes than the longest pattern has; and none, if nothing of
-- the text is live.
pub record IsMaskCut (m : Dictionary) (x : List ℕ) (cut : ℕ) : Type 0 where
  pub final : IsFinalBefore m x cut
  pub near : length x < cut + max (longest m.patterns) 1
  pub all : NothingIsLive m x → cut ≡ length x

-- What a masking has cost. It made at least one look for each byte that it has masked, and at most one, or two if the
-- automaton isn't deterministic. It scanned nothing, and moved at most a seventh of so many bytes.
pub record IsWithinMaskBudget (bytes : ℕ) (s : MaskProgress) : Type 0 where
  pub some : s.at ≤ s.looked
  pub looked : s.looked ≤ lookups_per_byte s.built.deterministic * s.at
  pub scanned : s.scanned ≡ 0
  pub moved : 7 * s.moved ≤ bytes

-- What holds of a masking wherever it stands, by what a cut of its text is, how long a piece may be, and of how many
-- bytes a seventh may be moved. The bytes before the cut are final; once nothing more comes, all are.
pub record IsOnMaskBy (IsCut : Dictionary → List ℕ → ℕ → Type 0) (room bytes : ℕ) (s : MaskProgress) : Type 0 where
  pub standard : s.built.dictionary.kind ≡ Standard
  pub filled : 1 ≤ shortest s.built.dictionary.patterns
  pub ready : (s.from ≤ s.out) × (s.out ≤ s.cut)
  pub ordered : (s.cut ≤ s.at) × (s.at ≤ length (passed_to s))
  pub open_ : s.closed ≡ false → IsCut s.built.dictionary (front_of s) s.cut
  pub closed_ : s.closed ≡ true → s.cut ≡ s.at
  pub short : AllFit room s.pieces
  pub paid : IsWithinMaskBudget bytes s

-- so it is of a masking of all occurrences
abbrev pub IsOnMask : MaskProgress → Type 0
IsOnMask s = IsOnMaskBy IsMaskCut (room_of Picks s.built) (length (passed_to s)) s

-- A masking was made, which was passed nothing yet and is on its course; or the error says why not.
abbrev pub AnswersNewMaskBy : (MaskProgress → Type 0) → Built → (Anchored → Type 0) → ℕ
    → Result MaskProgress StreamError → Type 0
AnswersNewMaskBy IsOn b supports mask (Ok s) = CanStream OnlyStandard b supports × (s ≡ fresh_mask b mask) × IsOn s
AnswersNewMaskBy IsOn b supports mask (Err error) = IsListingRefusal b supports error

-- so it is of a masking of all occurrences
abbrev pub AnswersNewMask : Built → (Anchored → Type 0) → ℕ → Result MaskProgress StreamError → Type 0
AnswersNewMask = AnswersNewMaskBy IsOnMask

-- ---- what its calls do

-- the masking counted exactly what was done in between
abbrev pub MaskCounts : MaskProgress → MaskProgress → Steps → Steps → Type 0
MaskCounts s t before after =
    (states places bytes : ℕ) × Done states places bytes before after × (t.looked ≡ s.looked + states)
    × (t.scanned ≡ s.scanned + places) × (t.moved ≡ s.moved + bytes)

-- What was ready before is no longer held, and nothing is ready.
pub record HasMadeRoom (s t : MaskProgress) : Type 0 where
  pub from : s.from ≤ t.from
  pub same : t ≡ record s { from = t.from; out = s.cut; moved = t.moved }

-- all that was passed is masked, and a later cut may be ready
abbrev pub HasMaskedAll : MaskProgress → MaskProgress → Type 0
HasMaskedAll s t = t ≡ record s { at = length (passed_to s); cut = t.cut; looked = t.looked; scanned = t.scanned }

-- These pieces came after the others, and what was ready before isn't any more.
pub record HasTakenIn (s t : MaskProgress) (more : List (List ℕ)) : Type 0 where
  pub built : t.built ≡ s.built
  pub mask : t.mask ≡ s.mask
  pub pieces : t.pieces ≡ s.pieces ++ more
  pub closed : t.closed ≡ s.closed
  pub out : t.out ≡ s.cut

-- They came, and aren't masked, since there are more bytes than places.
abbrev pub HasOutrun : MaskProgress → MaskProgress → List (List ℕ) → Type 0
HasOutrun s t more = HasTakenIn s t more × (t.cut ≡ s.cut) × ¬ CanBeCounted (passed_to t)

-- They came, and all is masked.
abbrev pub HasMasked : MaskProgress → MaskProgress → List (List ℕ) → Type 0
HasMasked s t more = HasTakenIn s t more × IsAllMasked t × CanBeCounted (passed_to t)

-- The result of a read: how many bytes it returned; none at the end, when nothing gets ready; or the error of a failed
-- read; or that there are more bytes than places.
abbrev pub MasksRead : {R : Type 0} → (R → Option (List ℕ)) → MaskProgress → MaskProgress → Watched R → Watched R
    → Result ℕ StreamError → Type 0
MasksRead remaining s t before after (Ok n) =
    (piece : List ℕ) × HasMasked s t (piece ∷ []) × HasGiven remaining before after (piece ∷ []) 0 × (length piece ≡ n)
    × (n ≡ 0 → t.cut ≡ s.cut)
MasksRead remaining s t before after (Err (Read error)) =
    HasMasked s t ([] ∷ []) × HasGiven remaining before after ([] ∷ []) 1 × (t.cut ≡ s.cut)
MasksRead remaining s t before after (Err Position) =
    (piece : List ℕ) × HasOutrun s t (piece ∷ []) × HasGiven remaining before after (piece ∷ []) 0
MasksRead remaining s t before after (Err other) = ⊥

-- Nothing waits to be masked, more may come, and there is room for it.
pub record IsOpenWithin (size : ℕ) (s : MaskProgress) : Type 0 where
  pub unclosed : s.closed ≡ false
  pub masked : IsAllMasked s
  pub none : s.out ≡ s.cut
  pub room : length (passed_to s) < s.from + size

-- so it is of a masking of all occurrences
abbrev pub IsOpenFor : MaskProgress → Type 0
IsOpenFor s = IsOpenWithin (room_of Picks s.built) s

-- Of each text that leads to the state: nothing is live, and all is final up to its end; or something is, and all is final
-- up to `keep` bytes before the end, less one, or up to where it was.
abbrev pub CutsAfter : {S : Type 0} → Ghosts S → S → StateID → ℕ → ℕ → ℕ → ℕ → Type 0
CutsAfter A automaton sid cut keep end place =
    (x : List ℕ) → A.Reaches automaton No x sid
    → (NothingIsLive (A.built automaton).dictionary x × (place ≡ end))
    ⊎ (¬ NothingIsLive (A.built automaton).dictionary x × (place ≡ max cut (end - (keep - 1))))

-- These bytes came, and aren't masked yet.
abbrev pub TakesPiece : MaskProgress → MaskProgress → List ℕ → Type 0
TakesPiece s t piece = t ≡ record s { pieces = s.pieces ++ piece ∷ [] }

-- one read: its piece came, or it failed
abbrev pub FillsMask : {R : Type 0} → (R → Option (List ℕ)) → MaskProgress → MaskProgress → Watched R → Watched R
    → Result ℕ StreamError → Type 0
FillsMask remaining s t before after (Ok n) =
    (piece : List ℕ) × TakesPiece s t piece × HasGiven remaining before after (piece ∷ []) 0 × (length piece ≡ n)
    × CanBeCounted (passed_to t)
FillsMask remaining s t before after (Err (Read error)) =
    TakesPiece s t [] × HasGiven remaining before after ([] ∷ []) 1
FillsMask remaining s t before after (Err Position) =
    (piece : List ℕ) × TakesPiece s t piece × HasGiven remaining before after (piece ∷ []) 0 × ¬ CanBeCounted (passed_to t)
FillsMask remaining s t before after (Err other) = ⊥

-- How many bytes of a piece were taken: at least one, if there is one, and all of them unless the room is full.
pub record MasksFront (room : ℕ) (t : MaskProgress) (piece : List ℕ) (n : ℕ) : Type 0 where
  pub within : n ≤ length piece
  pub some : piece ≢ [] → 0 < n
  pub full : n < length piece → length (passed_to t) ≡ t.from + room

-- The result of a push, by how much room there is: how many bytes were taken from the front of the piece; or that there
-- are more bytes than places.
abbrev pub MasksPushedWithin : (Built → ℕ) → MaskProgress → MaskProgress → List ℕ → Result ℕ StreamError → Type 0
MasksPushedWithin room s t piece (Ok n) = HasMasked s t (as_piece (take n piece)) × MasksFront (room t.built) t piece n
MasksPushedWithin room s t piece (Err Position) = (n : ℕ) × HasOutrun s t (as_piece (take n piece))
MasksPushedWithin room s t piece (Err other) = ⊥

-- so it is of a masking of all occurrences
abbrev pub MasksPushed : MaskProgress → MaskProgress → List ℕ → Result ℕ StreamError → Type 0
MasksPushed = MasksPushedWithin (room_of Picks)

-- the first bytes of a piece, of which there are some, came
abbrev pub AppendsFront : (Built → ℕ) → MaskProgress → MaskProgress → List ℕ → Result ℕ StreamError → Type 0
AppendsFront room s t piece (Ok n) =
    TakesPiece s t (take n piece) × MasksFront (room t.built) t piece n × CanBeCounted (passed_to t)
AppendsFront room s t piece (Err Position) =
    (n : ℕ) × (0 < n) × TakesPiece s t (take n piece) × ¬ CanBeCounted (passed_to t)
AppendsFront room s t piece (Err other) = ⊥

-- a masking that was told that nothing more comes: the rest is ready
abbrev pub finished_mask : MaskProgress → MaskProgress
finished_mask s = record s { closed = true; out = s.cut; cut = s.at }

-- ---- what it keeps

-- the looks that were made, and one more for each live byte, are paid for by the bytes
abbrev pub IsMaskPaid : MaskProgress → Type 0
IsMaskPaid s =
    (live : Option ℕ) → IsLive s.built.dictionary false (front_of s) live
    → (s.looked + live_len (front_of s) live ≤ 2 * s.at) × (IsTrue s.built.deterministic → s.looked ≤ s.at)

-- The state that a masking keeps between its calls is right: the automaton's, that of the buffer, which holds the end of the
-- masked text and what isn't masked yet, and whether there are more bytes than places.
pub record IsStreamMask (Reaches : List ℕ → StateID → Type 0) (s : MaskProgress) (sid : StateID) (buffer : Held)
    (over : Bool) : Type 0 where
  pub course : IsOnMask s
  pub reads : Reaches (front_of s) sid
  pub bytes : buffer.bytes ≡ drop s.from (masked_of s) ++ drop s.at (passed_to s)
  pub keep : buffer.keep ≡ max (longest s.built.dictionary.patterns) 1
  pub read : buffer.read ≡ length (passed_to s)
  pub roll : IsRollPaid buffer
  pub lookups : IsMaskPaid s
  pub countable : over ≡ false → CanBeCounted (passed_to s)
  pub uncountable : over ≡ true → ¬ CanBeCounted (passed_to s)

-- where the held bytes begin, up to where they are masked, and which of them are ready
pub record MaskPlaces : Type 0 where
  pub from : ℕ
  pub at : ℕ
  pub out : ℕ
  pub cut : ℕ

-- how far a masking has come, from what it keeps
abbrev pub mask_at : Built → ℕ → List (List ℕ) → Bool → MaskPlaces → Steps → Held → MaskProgress
mask_at b mask pieces closed p sums buffer =
    record {
      built = b;
      mask = mask;
      pieces = pieces;
      closed = closed;
      from = p.from;
      at = p.at;
      out = p.out;
      cut = p.cut;
      looked = sums.looked.value;
      scanned = sums.scanned.value;
      moved = buffer.moved;
    }

-- ---- a stream that is masked to its end

-- the front of a masked text up to a cut, as far as it can be written
abbrev pub IsMaskFront : Built → ℕ → List ℕ → List ℕ → Type 0
IsMaskFront b mask x text = (cut : ℕ) × IsMaskCut b.dictionary x cut × (text ≡ take cut (masked_in b mask x))

-- what a masking of a stream read, no piece longer than the buffer, what it wrote, and what it returned
abbrev pub WritesMasked : {R W : Type 0} → (R → Option (List ℕ)) → (W → Option (List ℕ)) → Built → ℕ → Watched R
    → Watched R → Watched W → Watched W → Result (Unit {0}) StreamError → Type 0
WritesMasked remaining contents b mask =
    WritesStream remaining contents (room_of Picks b) (masked_in b mask) (IsMaskFront b mask)

-- The same; an error before the first read leaves both devices unchanged.
abbrev pub MasksStream : {R W : Type 0} → (R → Option (List ℕ)) → (W → Option (List ℕ)) → Built → ℕ → Watched R
    → Watched R → Watched W → Watched W → Result (Unit {0}) StreamError → Type 0
MasksStream remaining contents b mask reader_before reader_after writer_before writer_after result =
    WritesMasked remaining contents b mask reader_before reader_after writer_before writer_after result
    × IfErr result (λ error. IsBegun error ⊎ NoneTouched reader_before reader_after writer_before writer_after)

-- What it costs, by the bytes that were read: at most one look for each, or two if the automaton isn't deterministic, and
-- a seventh of them moved. If it reached the end, it looked at each byte. An error before the first read cost nothing.
pub record CostsMaskStream {R : Type 0} (b : Built) (reader_before reader_after : Watched R) (before after : Steps)
    (result : Result (Unit {0}) StreamError) : Type 0 where
  pub pieces : List (List ℕ)
  pub read : reader_after.pieces.items ≡ reader_before.pieces.items ++ pieces
  pub looked : after.looked.value ≤ before.looked.value + lookups_per_byte b.deterministic * length (concat pieces)
  pub some : OnOk result (before.looked.value + length (concat pieces) ≤ after.looked.value)
  pub scanned : after.scanned.value ≡ before.scanned.value
  pub moved : 7 * after.moved.value ≤ 7 * before.moved.value + length (concat pieces)
