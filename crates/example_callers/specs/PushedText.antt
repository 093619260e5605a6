-- What the callers know of a replacement whose pieces they push.
use Rattle.std.specs.Prelude.{◌≡◌, Bool, false, true, ℕ, List, ◌++◌, None, Some}
use Rattle.ac_automaton.specs.Automaton.{Built}
use Rattle.ac_automaton.specs.Stream.{CanBeCounted, read_by}
use Rattle.ac_automaton.specs.Stream.Replacer.{GivesText, HandsOut, IsAllOut, IsReady, ReplacerProgress, handed_out}

-- the next slice of the text was appended; or there was none
abbrev pub AppendsNext : ReplacerProgress → ReplacerProgress → List (List ℕ) → List ℕ → List ℕ → Bool → Type 0
AppendsNext r t replacements before after true =
    (slice : List ℕ) × GivesText r t replacements (Some slice) × (after ≡ before ++ slice)
AppendsNext r t replacements before after false = GivesText r t replacements None × (after ≡ before)

-- all of the text that is decided, and wasn't handed out before, was appended
abbrev pub AppendsDecided : ReplacerProgress → ReplacerProgress → List (List ℕ) → List ℕ → List ℕ → Type 0
AppendsDecided r t replacements before after =
    (bytes : List ℕ) × HandsOut r t replacements bytes × (after ≡ before ++ bytes) × IsAllOut t replacements

-- The replacement isn't finished, and is ready for more. This is the text that it has handed out.
pub record IsTextSoFar (r : ReplacerProgress) (replacements : List (List ℕ)) (text : List ℕ) : Type 0 where
  pub few : CanBeCounted (read_by r.search)
  pub ready : IsReady r
  pub unfinished : r.finished ≡ false
  pub handed : text ≡ handed_out r replacements

-- these bytes were pushed in between
pub record TextWentOn (r t : ReplacerProgress) (bytes : List ℕ) : Type 0 where
  pub built : t.search.built ≡ r.search.built
  pub read : read_by t.search ≡ read_by r.search ++ bytes

-- a part of the piece was pushed, and `rest` is still to be pushed
pub record PushingText (r t : ReplacerProgress) (replacements : List (List ℕ)) (piece rest text : List ℕ) : Type 0 where
  pub appended : IsTextSoFar t replacements text
  pub built : t.search.built ≡ r.search.built
  pub left : read_by t.search ++ rest ≡ read_by r.search ++ piece

-- these bytes were pushed to a replacement by this automaton, and its text was appended
pub record IsTextOfPieces (b : Built) (read : List ℕ) (r : ReplacerProgress) (replacements : List (List ℕ))
    (text : List ℕ) : Type 0 where
  pub appended : IsTextSoFar r replacements text
  pub built : r.search.built ≡ b
  pub all : read_by r.search ≡ read
