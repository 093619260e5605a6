-- Masking the whole words of a stream: what it keeps, what its calls do, and what each result means for what was read and
-- written.
use Rattle.std.specs.Prelude.{◌≡◌, ◌⊎◌, ℕ, ◌+◌, ◌-◌, ◌*◌, ◌<◌, ◌≤◌, List, [], ◌∷◌, ◌++◌, length, take, drop, Option, Result, Ok, Err, IfErr, OnOk}
use Rattle.std.specs.List.{concat}
use Rattle.ac_input.specs.Number.{StateID, usize_max}
use Rattle.ac_input.specs.declared.search.Anchored.{Anchored}
use Rattle.ac_input.specs.declared.steps.Steps.{Steps}
use Rattle.ac_input.specs.Dictionary.{Dictionary}
use Rattle.ac_input.specs.Laws.WordLaws.{AreWordsFinalBefore}
use Rattle.ac_input.specs.Work.{longest, lookups_per_byte}
use Rattle.ac_automaton.specs.Automaton.{Built}
use Rattle.ac_automaton.specs.Masking.Words.{HasMaskedWords, HoldsWords, masked_words_in}
use Rattle.ac_automaton.specs.Stream.{CanStream, NothingIsLive}
use Rattle.ac_automaton.specs.Stream.Answer.{WritesStream}
use Rattle.ac_automaton.specs.Stream.Devices.Buffer.{IsRollPaid, nothing_held, room_for, rolled, taken_into}
use Rattle.ac_automaton.specs.Stream.Devices.Moved.{HasGiven, NoneTouched}
use Rattle.ac_automaton.specs.Stream.Overlapping.{IsListingRefusal}
use Rattle.ac_automaton.specs.Stream.Replace.{IsBegun}
use Rattle.ac_automaton.specs.declared.error.StreamError.{StreamError}
use Rattle.ac_automaton.specs.declared.error.StreamError.TheVariants.{Position, Read}
use Rattle.ac_automaton.specs.declared.stream.StreamKinds.TheVariants.{OnlyStandard}
use Rattle.ac_automaton.specs.declared.stream.devices.watched.Watched.{Watched}
use Rattle.ac_automaton.specs.declared.stream.mask.words.WordMasker.{WordMasker}

-- ---- what it keeps

-- a masking that was passed nothing yet
abbrev pub fresh_word_masker : ℕ → StateID → WordMasker
fresh_word_masker longest start =
    record {
      plain = nothing_held (longest + 1);
      masked = nothing_held (longest + 1);
      from = 0;
      out = 0;
      place = record { sid = start; at = 0 };
    }

-- The two buffers hold as many bytes, in as much room.
pub record AreAlike (s : WordMasker) : Type 0 where
  pub keep : s.masked.keep ≡ s.plain.keep
  pub len : length s.masked.bytes ≡ length s.plain.bytes
  pub read : s.masked.read ≡ s.plain.read
  pub plain : IsRollPaid s.plain
  pub masked : IsRollPaid s.masked

-- What it keeps is right for a text that it was passed: the end of the text, as it was, and masked up to the place where it
-- stands. What isn't written yet is held.
pub record IsWordMasker (b : Built) (Reaches : List ℕ → StateID → Type 0) (mask : ℕ) (x : List ℕ) (s : WordMasker)
    : Type 0 where
  pub alike : AreAlike s
  pub keep : s.plain.keep ≡ longest b.dictionary.patterns + 1
  pub read : s.plain.read ≡ length x
  pub within : s.from ≤ length x
  pub shown : s.plain.bytes ≡ drop s.from x
  pub has : HasMaskedWords b.dictionary Reaches mask s.from s.place.at x s.place s.masked.bytes
  pub near : HoldsWords b s.from s.place.at
  pub held : s.from ≤ s.out

-- A masking was made, which was passed nothing yet; or the error says why not.
abbrev pub AnswersNewWordMask : Built → (Anchored → Type 0) → (List ℕ → StateID → Type 0) → Result WordMasker StreamError
    → Type 0
AnswersNewWordMask b supports Reaches (Ok s) =
    CanStream OnlyStandard b supports
    × ((start : StateID) × Reaches [] start × (s ≡ fresh_word_masker (longest b.dictionary.patterns) start)) × AreAlike s
AnswersNewWordMask b supports Reaches (Err error) = IsListingRefusal b supports error

-- ---- what its calls do

-- the last bytes were moved to the front, as many as are kept
abbrev pub rolled_words : WordMasker → WordMasker
rolled_words s =
    record s {
      plain = rolled s.plain (length s.plain.bytes - s.plain.keep);
      masked = rolled s.masked (length s.plain.bytes - s.plain.keep);
      from = s.from + (length s.plain.bytes - s.plain.keep);
    }

-- that was done, since there was no room; or nothing
abbrev pub IsMaskerRolled : WordMasker → WordMasker → Type 0
IsMaskerRolled s t = (t ≡ s) ⊎ ((length s.plain.bytes ≡ s.plain.room) × (t ≡ rolled_words s))

-- there is room for a read
pub record HasMadeRoomFor (s : WordMasker) : Type 0 where
  pub alike : AreAlike s
  pub room : length s.plain.bytes < s.plain.room

-- each byte that was moved was counted, and nothing else
pub record CountsMoves (s t : WordMasker) (before after : Steps) : Type 0 where
  pub looked : after.looked.value ≡ before.looked.value
  pub scanned : after.scanned.value ≡ before.scanned.value
  pub moved : after.moved.value + (s.plain.moved + s.masked.moved) ≡ before.moved.value + (t.plain.moved + t.masked.moved)

-- a piece came, and isn't masked yet
abbrev pub words_grown : WordMasker → List ℕ → WordMasker
words_grown s piece = record s { plain = taken_into s.plain piece; masked = taken_into s.masked piece }

-- one read: its piece came, or it failed, or there are more bytes than places
abbrev pub FillsBoth : {R : Type 0} → (R → Option (List ℕ)) → WordMasker → WordMasker → Watched R → Watched R
    → Result ℕ StreamError → Type 0
FillsBoth remaining s t before after (Ok n) =
    (piece : List ℕ) × (t ≡ words_grown s piece) × HasGiven remaining before after (piece ∷ []) 0 × (length piece ≡ n)
    × AreAlike t × (t.from + length t.plain.bytes ≤ usize_max)
FillsBoth remaining s t before after (Err (Read error)) = HasGiven remaining before after ([] ∷ []) 1
FillsBoth remaining s t before after (Err Position) =
    (piece : List ℕ) × HasGiven remaining before after (piece ∷ []) 0 × (length piece ≤ s.plain.room)
    × (usize_max < s.from + (length s.plain.bytes + length piece))
FillsBoth remaining s t before after (Err other) = ⊥

-- ---- a stream that is masked to its end

-- how much room each of the two buffers has
abbrev pub word_mask_room : Built → ℕ
word_mask_room b = room_for (longest b.dictionary.patterns + 1)

-- Before the place the words of the text are final. After it are no more bytes than the longest pattern has; and none, if
-- nothing of the text is live.
pub record IsWordMaskCut (m : Dictionary) (x : List ℕ) (cut : ℕ) : Type 0 where
  pub final : AreWordsFinalBefore m x cut
  pub near : length x ≤ cut + longest m.patterns
  pub all : NothingIsLive m x → cut ≡ length x

-- the front of a masked text up to a cut, as far as it can be written
abbrev pub IsWordMaskFront : Built → ℕ → List ℕ → List ℕ → Type 0
IsWordMaskFront b mask x text = (cut : ℕ) × IsWordMaskCut b.dictionary x cut × (text ≡ take cut (masked_words_in b mask x))

-- what a masking of whole words read, no piece longer than a buffer, what it wrote, and what it returned
abbrev pub WritesMaskedWords : {R W : Type 0} → (R → Option (List ℕ)) → (W → Option (List ℕ)) → Built → ℕ → Watched R
    → Watched R → Watched W → Watched W → Result (Unit {0}) StreamError → Type 0
WritesMaskedWords remaining contents b mask =
    WritesStream remaining contents (word_mask_room b) (masked_words_in b mask) (IsWordMaskFront b mask)

-- The same; an error before the first read leaves both devices unchanged.
abbrev pub MasksWordsStream : {R W : Type 0} → (R → Option (List ℕ)) → (W → Option (List ℕ)) → Built → ℕ → Watched R
    → Watched R → Watched W → Watched W → Result (Unit {0}) StreamError → Type 0
MasksWordsStream remaining contents b mask reader_before reader_after writer_before writer_after result =
    WritesMaskedWords remaining contents b mask reader_before reader_after writer_before writer_after result
    × IfErr result (λ error. IsBegun error ⊎ NoneTouched reader_before reader_after writer_before writer_after)

-- What it costs, by the bytes that were read: at most one look for each, or two if the automaton isn't deterministic, and in each
-- buffer a seventh of them moved. If it reached the end, it looked at each byte. An error before the first read cost nothing.
pub record CostsMaskWordsStream {R : Type 0} (b : Built) (reader_before reader_after : Watched R) (before after : Steps)
    (result : Result (Unit {0}) StreamError) : Type 0 where
  pub pieces : List (List ℕ)
  pub read : reader_after.pieces.items ≡ reader_before.pieces.items ++ pieces
  pub looked : after.looked.value ≤ before.looked.value + lookups_per_byte b.deterministic * length (concat pieces)
  pub some : OnOk result (before.looked.value + length (concat pieces) ≤ after.looked.value)
  pub scanned : after.scanned.value ≡ before.scanned.value
  pub moved : 7 * after.moved.value ≤ 7 * before.moved.value + 2 * length (concat pieces)
