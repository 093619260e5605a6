-- The words in which the contiguous automaton stores a state.
--
-- A state is a few 32-bit words: its kind, its failure, the classes of sparse transitions, the transitions, and its
-- patterns if any.
use Rattle.std.specs.Prelude.{◌≡◌, ℕ, zero, suc, ◌+◌, ◌*◌, ◌/◌, ◌<◌, ◌≤◌, nat_lt, ◌==◌, ◌&&◌, ◌||◌, Bool, if◌then◌else◌, map, List, [], ◌∷◌, ◌++◌, length, take, drop}
use Rattle.std.specs.List.{All, range_with_len}
use Rattle.ac_automaton.specs.Named.{nowhere}
use Rattle.ac_input.specs.Number.{greatest_number}

-- The parts of a state: whether it is shallow enough to have an entry for each class, the place of its failure, the
-- class of each transition with the place of the next state, and the patterns that match.
pub record StateParts : Type 0 where
  pub shallow : Bool
  pub fail : ℕ
  pub edges : List (ℕ × ℕ)
  pub matches : List ℕ

-- how a state's transitions are stored: an entry for each class, a single transition, or only those that it has
pub data Form : Type 0 where
  Dense : Form
  One : Form
  Sparse : Form

-- a state with more transitions than this is dense
abbrev pub most_sparse : ℕ
most_sparse = 127

-- a state with one transition and no pattern
abbrev pub is_single : StateParts → Bool
is_single s = (length s.edges == 1) && (length s.matches == 0)

-- the form in which a state's transitions are stored
abbrev pub form_of : StateParts → Form
form_of s = if s.shallow || nat_lt most_sparse (length s.edges) then Dense else if is_single s then One else Sparse

-- where a class leads by the transitions: the first that has it
abbrev pub next_by : List (ℕ × ℕ) → ℕ → ℕ
next_by [] wanted = nowhere
next_by (edge ∷ edges) wanted = if edge.0 == wanted then edge.1 else next_by edges wanted

-- four classes in one word, the first in its lowest bits
abbrev pub word_of : ℕ → ℕ → ℕ → ℕ → ℕ
word_of a b c d = a + 256 * b + 65536 * c + 16777216 * d

-- classes, four in a word; the last one fills the last word
abbrev pub packed : List ℕ → List ℕ
packed [] = []
packed (a ∷ []) = word_of a a a a ∷ []
packed (a ∷ b ∷ []) = word_of a b b b ∷ []
packed (a ∷ b ∷ c ∷ []) = word_of a b c c ∷ []
packed (a ∷ b ∷ c ∷ d ∷ rest) = word_of a b c d ∷ packed rest

-- the number at a place; the last one where there are fewer
abbrev pub near : List ℕ → ℕ → ℕ
near [] k = 0
near (c ∷ []) k = c
near (c ∷ d ∷ cs) zero = c
near (c ∷ d ∷ cs) (suc k) = near (d ∷ cs) k

abbrev pub classes_of : List (ℕ × ℕ) → List ℕ
classes_of edges = map (λ edge. edge.0) edges

-- the next states of the transitions
abbrev pub nexts_of : List (ℕ × ℕ) → List ℕ
nexts_of edges = map (λ edge. edge.1) edges

-- the class of a single transition
abbrev pub first_class : List (ℕ × ℕ) → ℕ
first_class [] = 0
first_class (edge ∷ edges) = edge.0

-- the kind of a dense state, and that of one with a single transition; that of a sparse state is how many transitions
-- it has
abbrev pub dense_kind : ℕ
dense_kind = 255

abbrev pub one_kind : ℕ
one_kind = 254

-- how many kinds there may be: the kind of a state stands in the low eight bits of its first word
abbrev pub kind_count : ℕ
kind_count = 256

-- the first word of a state: its kind; with a single transition its class stands above that
abbrev pub kind_word : Form → List (ℕ × ℕ) → ℕ
kind_word Dense edges = dense_kind
kind_word One edges = one_kind + kind_count * first_class edges
kind_word Sparse edges = length edges

-- the words of the transitions, with their classes where they are sparse
abbrev pub transition_words : Form → ℕ → List (ℕ × ℕ) → List ℕ
transition_words Dense alphabet edges = map (next_by edges) (range_with_len 0 alphabet)
transition_words One alphabet edges = nexts_of edges
transition_words Sparse alphabet edges = packed (classes_of edges) ++ nexts_of edges

-- an entry for each class was put after the words
abbrev pub AppendsRow : List (ℕ × ℕ) → ℕ → List ℕ → List ℕ → Type 0
AppendsRow edges alphabet before after = after ≡ before ++ transition_words Dense alphabet edges

-- bit 31 of a word: it is a list of one pattern
abbrev pub one_pattern : ℕ
one_pattern = 2147483648

-- the words of the patterns: one has a word with the bit set; several have their count and then their numbers
abbrev pub match_words : List ℕ → List ℕ
match_words [] = []
match_words (n ∷ []) = (one_pattern + n) ∷ []
match_words (n ∷ o ∷ ns) = length (n ∷ o ∷ ns) ∷ n ∷ o ∷ ns

-- the words of a state
abbrev pub words_of : ℕ → StateParts → List ℕ
words_of alphabet s =
    kind_word (form_of s) s.edges ∷ s.fail ∷ (transition_words (form_of s) alphabet s.edges ++ match_words s.matches)

-- how many words stand before the transitions: the kind and the failure
abbrev pub head_len : ℕ
head_len = 2

-- How many words a state takes: its head, its transitions by their form, and its patterns, which are counted where
-- there are several.
abbrev pub word_count : ℕ → Bool → ℕ → ℕ → ℕ
word_count alphabet shallow transitions matches =
    head_len
    + (if shallow || nat_lt most_sparse transitions then alphabet else if (transitions == 1) && (matches == 0) then 1
    else (transitions + 3) / 4 + transitions)
    + (if nat_lt 1 matches then matches + 1 else matches)

-- the words of a state but for its patterns
abbrev pub leading_words : ℕ → StateParts → List ℕ
leading_words alphabet s = kind_word (form_of s) s.edges ∷ s.fail ∷ transition_words (form_of s) alphabet s.edges

-- A state's words can be written: each transition's class is one of the alphabet, and the count of patterns isn't too
-- great.
pub record CanBeWritten (alphabet : ℕ) (s : StateParts) : Type 0 where
  pub fits : All (λ edge. edge.0 < alphabet) s.edges
  pub few : length s.matches ≤ greatest_number + 1

-- these words stand at a place
abbrev pub AreWordsAt : List ℕ → ℕ → List ℕ → Type 0
AreWordsAt words at part = (at + length part ≤ length words) × (take (length part) (drop at words) ≡ part)
