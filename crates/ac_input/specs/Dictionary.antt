-- What an automaton is made from, which patterns it enters, and what of a text is still live.
use Rattle.std.specs.Prelude.{◌≡◌, ℕ, ◌-◌, ◌<◌, ◌≤◌, Bool, List, [], ◌∷◌, length, IsTrue, Option, Some, None, slice_get, drop, take, ◌⊎◌, false}
use Rattle.ac_input.specs.declared.search.MatchKind.{MatchKind}
use Rattle.ac_input.specs.declared.search.MatchKind.TheVariants.{Standard, LeftmostFirst}
use Rattle.ac_input.specs.Same.{same_text}
use Rattle.ac_input.specs.Occurrence.{Search, Occurrence}
use Rattle.ac_input.specs.Best.{IsBest}

-- what an automaton is made from
pub record Dictionary : Type 0 where
  pub patterns : List (List ℕ)
  pub pairing : List ℕ
  pub kind : MatchKind

-- the dictionary of these patterns, this pairing and this kind
abbrev pub dictionary_of : List (List ℕ) → List ℕ → MatchKind → Dictionary
dictionary_of patterns pairing kind = record { patterns = patterns; pairing = pairing; kind = kind }

-- pattern number n is p
abbrev pub IsPattern : Dictionary → ℕ → List ℕ → Type 0
IsPattern m n p = slice_get m.patterns n ≡ Some p

-- one text is a prefix of another, where paired bytes count as the same
abbrev pub Begins : List ℕ → List ℕ → List ℕ → Type 0
Begins pairing front whole =
    (length front ≤ length whole) × IsTrue (same_text pairing front (take (length front) whole))

-- p is pattern n, and some earlier pattern is a proper prefix of it
abbrev pub IsShadowed : Dictionary → ℕ → List ℕ → Type 0
IsShadowed m n p =
    (earlier : ℕ) × (q : List ℕ) × (earlier < n) × IsPattern m earlier q × (length q < length p) × Begins m.pairing q p

-- The trie has p, which is pattern n. It has all patterns, but under leftmost-first only those that no earlier one
-- shadows.
abbrev pub IsEntered : Dictionary → ℕ → List ℕ → Type 0
IsEntered m n p = IsPattern m n p × (m.kind ≡ LeftmostFirst → ¬ IsShadowed m n p)

-- the text is a prefix of an entered pattern; the empty text always counts as one
abbrev pub BeginsEntered : Dictionary → List ℕ → Type 0
BeginsEntered m [] = Unit {0}
BeginsEntered m (b ∷ bs) = (n : ℕ) × (p : List ℕ) × IsEntered m n p × Begins m.pairing (b ∷ bs) p

-- the search of a whole text for the patterns of a dictionary
abbrev pub whole : Dictionary → List ℕ → Bool → Search
whole m text anchored =
    record {
      patterns = m.patterns;
      pairing = m.pairing;
      haystack = text;
      start = 0;
      end = length text;
      anchored = anchored;
    }

-- the text from a place on may still grow into the match
pub record IsAlive (m : Dictionary) (anchored : Bool) (text : List ℕ) (from : ℕ) : Type 0 where
  pub within : from ≤ length text
  pub begins : BeginsEntered m (drop from text)
  pub anchor : IsTrue anchored → from ≡ 0
  pub no_later : IsTrue anchored ⊎ (m.kind ≡ Standard)
      ⊎ ((best : Occurrence) → IsBest m.kind (whole m text false) (Some best) → from ≤ best.start)

-- where the live prefix of a text begins: the longest live suffix; none where the search is over
abbrev pub IsLive : Dictionary → Bool → List ℕ → Option ℕ → Type 0
IsLive m anchored text (Some from) =
    IsAlive m anchored text from × ((another : ℕ) → IsAlive m anchored text another → from ≤ another)
IsLive m anchored text None = (from : ℕ) → ¬ IsAlive m anchored text from

-- how many bytes of the text are still live
abbrev pub live_len : List ℕ → Option ℕ → ℕ
live_len text (Some from) = length text - from
live_len text None = 0
