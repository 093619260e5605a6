-- Masking the whole words of a stream whose pieces are pushed: how far it has come, what its calls do, what it keeps.
use Rattle.std.specs.Prelude.{◌≡◌, ℕ, ◌+◌, ◌*◌, Bool, true, false, List, length, slice_range, take, ◌++◌, Result}
use Rattle.ac_input.specs.Number.{StateID}
use Rattle.ac_input.specs.declared.search.Anchored.{Anchored}
use Rattle.ac_input.specs.declared.steps.Steps.{Steps}
use Rattle.ac_automaton.specs.Automaton.{Built}
use Rattle.ac_automaton.specs.Masking.Words.{ShowsMasked, known_to, masked_words_in}
use Rattle.ac_automaton.specs.Masking.Words.Stream.{IsWordMaskCut, IsWordMasker, word_mask_room}
use Rattle.ac_automaton.specs.Stream.{CanBeCounted}
use Rattle.ac_automaton.specs.Stream.Mask.{AnswersNewMaskBy, HasMasked, IsAllMasked, IsMaskPaid, IsOnMaskBy, MaskProgress, MasksPushedWithin, finished_mask, front_of, passed_to}
use Rattle.ac_automaton.specs.declared.error.StreamError.{StreamError}
use Rattle.ac_automaton.specs.declared.stream.mask.words.WordMasker.{WordMasker}

-- ---- how far it has come

-- the masked text of what was read, where whole words alone count
abbrev pub masked_words_of : MaskProgress → List ℕ
masked_words_of s = masked_words_in s.built s.mask (front_of s)

-- the masked bytes that are ready
abbrev pub ready_words_of : MaskProgress → List ℕ
ready_words_of s = slice_range (masked_words_of s) s.out s.cut

-- it is on its course as a masking of all occurrences is, but with its own cut, and with two buffers of its own room
abbrev pub IsOnWordMask : MaskProgress → Type 0
IsOnWordMask s = IsOnMaskBy IsWordMaskCut (word_mask_room s.built) (2 * length (passed_to s)) s

-- a masking of whole words was made, which was passed nothing yet; or the error says why not
abbrev pub AnswersNewWordMasking : Built → (Anchored → Type 0) → ℕ → Result MaskProgress StreamError → Type 0
AnswersNewWordMasking = AnswersNewMaskBy IsOnWordMask

-- the result of a push
abbrev pub MasksWordsPushed : MaskProgress → MaskProgress → List ℕ → Result ℕ StreamError → Type 0
MasksWordsPushed = MasksPushedWithin word_mask_room

-- ---- one text, cut in any way

-- what was handed out before, with what is ready
abbrev pub handed_words_of : MaskProgress → List ℕ
handed_words_of s = take s.cut (masked_words_of s)

-- What is ready after pieces came goes on where the masking was. What is ready once nothing more comes ends the masked
-- text of all that was passed.
abbrev pub PiecesChangeNoMaskedWords : Type 0
PiecesChangeNoMaskedWords =
    ((s t : MaskProgress) (more : List (List ℕ)) → IsOnWordMask s → IsAllMasked s → s.closed ≡ false
    → HasMasked s t more → IsOnWordMask t → handed_words_of s ++ ready_words_of t ≡ handed_words_of t)
    × ((s t : MaskProgress) → IsOnWordMask s → IsAllMasked s → t ≡ finished_mask s
    → handed_words_of s ++ ready_words_of t ≡ masked_words_in s.built s.mask (passed_to s))

-- ---- what it keeps

-- how far a masking has come, from what it keeps
abbrev pub word_mask_at : Built → ℕ → List (List ℕ) → Bool → ℕ → Steps → WordMasker → MaskProgress
word_mask_at b mask pieces closed cut sums w =
    record {
      built = b;
      mask = mask;
      pieces = pieces;
      closed = closed;
      from = w.from;
      at = w.place.at;
      out = w.out;
      cut = cut;
      looked = sums.looked.value;
      scanned = sums.scanned.value;
      moved = w.plain.moved + w.masked.moved;
    }

-- What it keeps between its calls is right: its buffers, while more may come, or with each word masked once nothing does;
-- and whether there are more bytes than places.
pub record IsStreamWordMask (Reaches : List ℕ → StateID → Type 0) (s : MaskProgress) (w : WordMasker) (over : Bool)
    : Type 0 where
  pub course : IsOnWordMask s
  pub open_ : s.closed ≡ false → IsWordMasker s.built Reaches s.mask (passed_to s) w
  pub all : s.closed ≡ true → IsAllMasked s
  pub shows : s.closed ≡ true
      → ShowsMasked s.built.dictionary s.mask w.from (known_to true (passed_to s)) (passed_to s) w.masked.bytes
  pub lookups : IsMaskPaid s
  pub countable : over ≡ false → CanBeCounted (passed_to s)
  pub uncountable : over ≡ true → ¬ CanBeCounted (passed_to s)
