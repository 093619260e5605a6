-- A walk over the whole words of a text: where it stands, what is left of it, and what it costs.
pub mod Replace
use Rattle.std.specs.Prelude.{◌≡◌, ◌⊎◌, ℕ, ◌+◌, ◌-◌, ◌*◌, ◌≤◌, List, [], length, Option, None, Some, Result, Ok, Err, false}
use Rattle.ac_input.specs.Number.{StateID}
use Rattle.ac_input.specs.declared.search.Anchored.{Anchored}
use Rattle.ac_input.specs.declared.search.Anchored.TheVariants.{No}
use Rattle.ac_input.specs.declared.search.MatchKind.{MatchKind}
use Rattle.ac_input.specs.declared.search.MatchKind.TheVariants.{Standard}
use Rattle.ac_input.specs.declared.steps.Steps.{Steps}
use Rattle.ac_input.specs.Computed.{walk_among}
use Rattle.ac_input.specs.Dictionary.{whole}
use Rattle.ac_input.specs.Input.{whole_of}
use Rattle.ac_input.specs.Occurrence.{Occurrence, Search}
use Rattle.ac_input.specs.Steps.{Done}
use Rattle.ac_input.specs.Walk.{IsPickAmong}
use Rattle.ac_input.specs.Word.{OccursWhole, whole_occurrences}
use Rattle.ac_input.specs.Work.{lookups_per_byte, shortest}
use Rattle.ac_automaton.specs.Automaton.{Built}
use Rattle.ac_automaton.specs.InMemory.Overlapping.{IsOverlappingRefusal}
use Rattle.ac_automaton.specs.Words.{StandsForWords, word_reach}
use Rattle.ac_automaton.specs.declared.error.MatchErrorKind.{MatchErrorKind}
use Rattle.ac_automaton.specs.declared.error.MatchErrorKind.TheVariants.{UnsupportedEmpty}
use Rattle.ac_automaton.specs.declared.words.WordPlace.{WordPlace}

-- A walk: the automaton, the kind and the text; the place from which the words that are left begin; up to which place it has read;
-- and how many states it looked at, places it scanned and bytes it moved so far.
pub record WordWalk : Type 0 where
  pub built : Built
  pub kind : MatchKind
  pub haystack : List ℕ
  pub at : ℕ
  pub read : ℕ
  pub looked : ℕ
  pub scanned : ℕ
  pub moved : ℕ

-- a walk that stands at a place, with the steps that it took
abbrev pub word_walk_at : Built → List ℕ → WordPlace → Steps → WordWalk
word_walk_at b haystack p sums =
    record {
      built = b;
      kind = p.kind;
      haystack = haystack;
      at = p.last;
      read = p.at;
      looked = sums.looked.value;
      scanned = sums.scanned.value;
      moved = sums.moved.value;
    }

-- a walk that has not begun
abbrev pub fresh_words : Built → MatchKind → List ℕ → WordWalk
fresh_words b kind haystack =
    record { built = b; kind = kind; haystack = haystack; at = 0; read = 0; looked = 0; scanned = 0; moved = 0 }

-- the search of its text
abbrev pub word_search : WordWalk → Search
word_search w = whole w.built.dictionary w.haystack false

-- the remaining words
abbrev pub words_left : WordWalk → List Occurrence
words_left w = walk_among whole_occurrences w.kind (word_search w) w.at None

-- What a walk keeps is right: it stands for the words of the text that are left, which aren't empty; and once it stands at the end
-- without one, none is left.
pub record StandsInText (b : Built) (Reaches : List ℕ → StateID → Type 0) (haystack : List ℕ) (p : WordPlace) : Type 0 where
  pub standard : b.dictionary.kind ≡ Standard
  pub filled : 1 ≤ shortest b.dictionary.patterns
  pub stands : StandsForWords b.dictionary Reaches 0 haystack p

-- whole words can be searched for: there is a start, the kind is the standard one, and no pattern is empty
abbrev pub CanFindWords : Built → (Anchored → Type 0) → Type 0
CanFindWords b supports = supports No × (b.dictionary.kind ≡ Standard) × (1 ≤ shortest b.dictionary.patterns)

-- the error says why not: there is no start, the kind isn't the standard one, or a pattern is empty, in this order
abbrev pub IsWordsRefusal : Built → (Anchored → Type 0) → MatchErrorKind → Type 0
IsWordsRefusal b supports error =
    IsOverlappingRefusal b supports (whole_of []) error
    ⊎ (supports No × (b.dictionary.kind ≡ Standard) × (shortest b.dictionary.patterns ≡ 0) × (error ≡ UnsupportedEmpty))

-- a walk over the words was made, which stands at a place; or the error says why not
abbrev pub AnswersWordsFrom : Built → (Anchored → Type 0) → MatchKind → List ℕ → ℕ → Result WordWalk MatchErrorKind → Type 0
AnswersWordsFrom b supports kind haystack at (Ok w) =
    supports No × (b.dictionary.kind ≡ Standard) × (1 ≤ shortest b.dictionary.patterns)
    × (w ≡ record (fresh_words b kind haystack) { at = at; read = at })
AnswersWordsFrom b supports kind haystack at (Err error) = IsWordsRefusal b supports error

-- a walk over the words that has not begun was made; or the error says why not
abbrev pub AnswersWords : Built → (Anchored → Type 0) → MatchKind → List ℕ → Result WordWalk MatchErrorKind → Type 0
AnswersWords b supports kind haystack r = AnswersWordsFrom b supports kind haystack 0 r

-- a walk after its next word: it stands at the word's end
abbrev pub word_walk_after : WordWalk → Option Occurrence → WordWalk
word_walk_after w None = w
word_walk_after w (Some o) = record w { at = o.end }

-- the result is the first walk's next word, and the second walk is the first one after it
abbrev pub GivesWord : WordWalk → Option Occurrence → WordWalk → Type 0
GivesWord w r v =
    IsPickAmong OccursWhole w.kind (word_search w) w.at None r
    × (v ≡ record (word_walk_after w r) { read = v.read; looked = v.looked; scanned = v.scanned; moved = v.moved })

-- how far a walk may read for its next word
abbrev pub words_reach : WordWalk → Option Occurrence → ℕ
words_reach w None = length w.haystack
words_reach w (Some o) = word_reach w.kind w.built.dictionary.patterns o

-- The walk counts exactly what was done in between: at most one look for each byte from where it stood to where it may read for the
-- word, or two if the automaton isn't deterministic. Where there is no word it has read all, and once it has it counts nothing.
pub record CostsNextWord (w v : WordWalk) (before after : Steps) (r : Option Occurrence) : Type 0 where
  pub counts : (states places bytes : ℕ) × Done states places bytes before after × (v.looked ≡ w.looked + states)
      × (v.scanned ≡ w.scanned + places) × (v.moved ≡ w.moved + bytes)
  pub looked : after.looked.value ≤ before.looked.value + lookups_per_byte w.built.deterministic * (words_reach w r - w.at)
  pub scanned : after.scanned.value ≡ before.scanned.value
  pub moved : after.moved.value ≡ before.moved.value
  pub ends : r ≡ None → v.read ≡ length w.haystack
  pub over : w.read ≡ length w.haystack → after.looked.value ≡ before.looked.value
