-- Whole words: the occurrences with no word byte beside them.
use Rattle.std.specs.Prelude.{ℕ, ◌-◌, Bool, true, false, not, ◌&&◌, ◌||◌, ◌==◌, nat_le, nat_lt, List, length, IsTrue, slice_index}
use Rattle.std.specs.Char.{is_ascii_alphanumeric}
use Rattle.std.specs.List.{filter}
use Rattle.ac_input.specs.Occurrence.{Search, Occurrence, Occurs}
use Rattle.ac_input.specs.Computed.{occurrences}

-- A word byte is an ASCII letter, a digit, `_`, or any byte that isn't ASCII.
abbrev pub is_word_byte : ℕ → Bool
is_word_byte byte = is_ascii_alphanumeric byte || (byte == 95) || nat_le 128 byte

-- whether the text has a word byte at a place; after its end it has none
abbrev pub is_word_at : List ℕ → ℕ → Bool
is_word_at text at = nat_lt at (length text) && is_word_byte (slice_index text at)

-- whether the text has a word byte just before a place; before its start it has none
abbrev pub is_word_before : List ℕ → ℕ → Bool
is_word_before text place = nat_lt 0 place && is_word_at text (place - 1)

-- whether an occurrence is a whole word of a text: neither the byte before it nor the one after it is a word byte
abbrev pub is_whole_word : List ℕ → Occurrence → Bool
is_whole_word text o = not (is_word_before text o.start) && not (is_word_at text o.end)

-- The occurrence is a whole word of the haystack, whose bytes beside the span count, too.
abbrev pub OccursWhole : Search → Occurrence → Type 0
OccursWhole s o = Occurs s o × IsTrue (is_whole_word s.haystack o)

-- all whole words of the search, by start and number
abbrev pub whole_occurrences : Search → List Occurrence
whole_occurrences s = filter (is_whole_word s.haystack) (occurrences s)

-- the occurrences that count: those that are whole words where these alone are asked for, else all
abbrev pub OccursAsked : Bool → Search → Occurrence → Type 0
OccursAsked true = OccursWhole
OccursAsked false = Occurs

-- the list of the occurrences that count
abbrev pub asked_occurrences : Bool → Search → List Occurrence
asked_occurrences true = whole_occurrences
asked_occurrences false = occurrences
