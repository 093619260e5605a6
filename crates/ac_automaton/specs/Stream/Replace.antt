-- Replacement over streams: what each result means for what was read and written, and what a replacement costs.
use Rattle.std.specs.Prelude.{◌≡◌, ◌⊎◌, ℕ, ◌+◌, ◌*◌, ◌≤◌, max, List, ◌++◌, length, Option, Result, Err, IfErr, OnOk}
use Rattle.std.specs.List.{concat}
use Rattle.ac_input.specs.declared.search.Anchored.{Anchored}
use Rattle.ac_input.specs.declared.steps.Steps.{Steps}
use Rattle.ac_input.specs.Occurrence.{Occurrence}
use Rattle.ac_input.specs.Text.{replaced_from}
use Rattle.ac_input.specs.Work.{longest, lookups_per_byte}
use Rattle.ac_automaton.specs.Automaton.{Built}
use Rattle.ac_automaton.specs.Stream.Devices.Buffer.{room_for}
use Rattle.ac_automaton.specs.Stream.Devices.Moved.{NoneTouched}
use Rattle.ac_automaton.specs.InMemory.Replace.{LieInOrder, matches_in}
use Rattle.ac_automaton.specs.Stream.{AreAllGiven, CanBeCounted, CanStream, IsConfigRefusal, IsFront, IsOnCourse, IsSearched, LieApart, StreamCounts, StreamProgress, cut_of, items_of, looked_in_all, read_by, Sequence, Picks}
use Rattle.ac_automaton.specs.Stream.Answer.{WritesStream}
use Rattle.ac_automaton.specs.declared.error.StreamError.{StreamError}
use Rattle.ac_automaton.specs.declared.error.StreamError.TheVariants.{Config, Memory}
use Rattle.ac_automaton.specs.declared.stream.StreamKinds.{StreamKinds}
use Rattle.ac_automaton.specs.declared.stream.devices.watched.Watched.{Watched}

-- the text with each match replaced by its pattern's replacement
abbrev pub replaced_in : Built → List (List ℕ) → List ℕ → List ℕ
replaced_in b replacements x = replaced_from 0 x replacements (matches_in b x)

-- ---- what each result means

-- the error is one that comes after the first read
abbrev pub IsBegun : StreamError → Type 0
IsBegun (Config error) = ⊥
IsBegun Memory = ⊥
IsBegun other = Unit {0}

-- What a replacement over a stream read, no piece longer than the buffer, what it wrote, and what it returned. An error
-- before the first read leaves both devices unchanged.
abbrev pub ReplacesStream : {R W : Type 0} → (R → Option (List ℕ)) → (W → Option (List ℕ)) → Built → List (List ℕ)
    → Watched R → Watched R → Watched W → Watched W → Result (Unit {0}) StreamError → Type 0
ReplacesStream remaining contents b replacements reader_before reader_after writer_before writer_after result =
    WritesStream remaining contents (room_for (max (longest b.dictionary.patterns) 1)) (replaced_in b replacements)
    (IsFront b.dictionary (replaced_in b replacements)) reader_before reader_after writer_before writer_after result
    × IfErr result (λ error. IsBegun error ⊎ NoneTouched reader_before reader_after writer_before writer_after)

-- an error of the search says why the stream can't be searched; any other result means that it can be
abbrev pub AcceptsStream : StreamKinds → Built → (Anchored → Type 0) → Result (Unit {0}) StreamError → Type 0
AcceptsStream kinds b supports (Err (Config error)) = IsConfigRefusal kinds b supports error
AcceptsStream kinds b supports result = CanStream kinds b supports

-- ---- what a replacement costs

-- What a search of this many bytes of a stream, with so many items, may cost. Under standard no byte is looked at
-- again.
pub record IsStreamCost (q : Sequence) (b : Built) (n matches : ℕ) (before after : Steps) : Type 0 where
  pub looked : after.looked.value
      ≤ before.looked.value + lookups_per_byte b.deterministic * looked_in_all q b n matches
  pub scanned : after.scanned.value ≡ before.scanned.value
  pub moved : 7 * after.moved.value ≤ 7 * before.moved.value + n

-- What the search for the items of a sequence costs, by the bytes that were read and by the items in them. If it reached
-- the end, it looked at each byte.
abbrev pub CostsItems : {R E : Type 0} → Sequence → Built → Watched R → Watched R → Steps → Steps → Result (Unit {0}) E
    → Type 0
CostsItems q b reader_before reader_after before after result =
    (pieces : List (List ℕ)) × (reader_after.pieces.items ≡ reader_before.pieces.items ++ pieces)
    × IsStreamCost q b (length (concat pieces)) (length (items_of q b.dictionary (concat pieces))) before after
    × OnOk result (before.looked.value + length (concat pieces) ≤ after.looked.value)

-- what the search for matches costs
abbrev pub CostsSearch : {R E : Type 0} → Built → Watched R → Watched R → Steps → Steps → Result (Unit {0}) E → Type 0
CostsSearch b reader_before reader_after before after result =
    CostsItems Picks b reader_before reader_after before after result

-- the cost of a replacement: an error before the first read cost nothing
abbrev pub CostsStream : {R : Type 0} → Built → Watched R → Watched R → Steps → Steps → Result (Unit {0}) StreamError
    → Type 0
CostsStream b reader_before reader_after before after result =
    CostsSearch b reader_before reader_after before after result
    × IfErr result (λ error. IsBegun error ⊎ (after ≡ before))

-- ---- what holds at each point of a search whose items are passed on

-- The text may be passed on up to this place: the items returned lie before it, the places of all others are there or
-- later, and the bytes after it are held.
pub record IsPlaced {q : Sequence} (s : StreamProgress q) (at : ℕ) : Type 0 where
  pub course : IsOnCourse s
  pub countable : CanBeCounted (read_by s)
  pub held : s.from ≤ at
  pub cut : at ≤ cut_of s
  pub lies : LieApart q → LieInOrder (length s.built.dictionary.patterns) at 0 s.given

-- Every decided item was returned, and this place is the cut.
pub record IsAtCut {q : Sequence} (s : StreamProgress q) (at : ℕ) : Type 0 where
  pub placed : IsPlaced s at
  pub cut : at ≡ cut_of s
  pub all : AreAllGiven s

-- What a search read and counted in between. If it reached the end, all that was read was searched.
pub record HasSearched {R : Type 0} {q : Sequence} (s t : StreamProgress q) (reader_before reader_after : Watched R)
    (before after : Steps) (result : Result (Unit {0}) StreamError) : Type 0 where
  pub built : t.built ≡ s.built
  pub read : reader_after.pieces.items ≡ reader_before.pieces.items ++ t.pieces
  pub counts : StreamCounts s t before after
  pub course : IsOnCourse t
  pub searched : OnOk result (IsSearched t)
