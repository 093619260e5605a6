-- A replacement over a stream that is passed its pieces: what text it hands out, and when.
use Rattle.std.specs.Prelude.{◌≡◌, ℕ, ◌-◌, ◌<◌, ◌≤◌, ◌&&◌, if◌then◌else◌, Bool, false, true, List, [], ◌∷◌, ◌++◌, length, take, get_or, slice_range, Option, None, Some, Result, Ok, Err}
use Rattle.ac_input.specs.declared.search.Anchored.{Anchored}
use Rattle.ac_input.specs.Occurrence.{Occurrence}
use Rattle.ac_input.specs.Text.{replaced_from}
use Rattle.ac_automaton.specs.Automaton.{Built}
use Rattle.ac_automaton.specs.InMemory.Replace.{LieInOrder}
use Rattle.ac_automaton.specs.Stream.{AreAllGiven, CanBeCounted, CanStream, IsStreamRefusal, IsOnCourse, IsSearched, ReadsNothing, StreamProgress, cut_of, fresh_progress, may_wait, read_by, IsFront, Picks}
use Rattle.ac_automaton.specs.Stream.Push.{Pushes}
use Rattle.ac_automaton.specs.Stream.Replace.{IsPlaced, replaced_in}
use Rattle.ac_automaton.specs.declared.error.StreamError.{StreamError}
use Rattle.ac_automaton.specs.declared.stream.replacer.Part.{Part}
use Rattle.ac_automaton.specs.declared.stream.replacer.Part.TheVariants.{Text, Replacement}
use Rattle.ac_automaton.specs.declared.stream.StreamKinds.TheVariants.{AnyKind}

-- How far a replacement has come: its search; up to which place of the stream its text was handed out; the match that
-- was found and isn't replaced yet; whether it was told that no more comes; and whether the whole text was handed out
-- after that.
pub record ReplacerProgress : Type 0 where
  pub search : StreamProgress Picks
  pub at : ℕ
  pub met : Option Occurrence
  pub finished : Bool
  pub over : Bool

-- a replacement that has read nothing yet
abbrev pub fresh_replacer : Built → ReplacerProgress
fresh_replacer b = record { search = fresh_progress b; at = 0; met = None; finished = false; over = false }

-- the matches whose replacements were handed out: all that were found, except one that is met and not replaced yet
abbrev pub replaced_by : StreamProgress Picks → Option Occurrence → List Occurrence
replaced_by s None = s.given
replaced_by s (Some o) = take (length s.given - 1) s.given

-- The text that was handed out: what was read up to the place, with these matches replaced.
abbrev pub handed_out : ReplacerProgress → List (List ℕ) → List ℕ
handed_out r replacements = replaced_from 0 (take r.at (read_by r.search)) replacements (replaced_by r.search r.met)

-- the place up to which the text is decided: the start of the match that was met; or the cut; or the end, where no more
-- comes
abbrev pub decided_to : StreamProgress Picks → Option Occurrence → Bool → ℕ
decided_to s (Some o) finished = o.start
decided_to s None finished = if finished then length (read_by s) else cut_of s

-- whether the text ends where it is decided to: no match is met, and no more comes
abbrev pub ends_there : Option Occurrence → Bool → Bool
ends_there None finished = finished
ends_there (Some o) finished = false

-- all that is decided was handed out
pub record IsHandedOut (r : ReplacerProgress) : Type 0 where
  pub met : r.met ≡ None
  pub all : AreAllGiven r.search
  pub at : r.at ≡ decided_to r.search None r.finished

-- a replacement may take more: what was pushed was searched, and handed out up to the cut
pub record IsReady (r : ReplacerProgress) : Type 0 where
  pub searched : IsSearched r.search
  pub met : r.met ≡ None
  pub at : r.at ≡ cut_of r.search

-- ---- what holds wherever a replacement stands

-- The match that was met is the last one that was found; the text was handed out up to a place before it.
pub record IsMatchMet (s : StreamProgress Picks) (at : ℕ) (o : Occurrence) : Type 0 where
  pub given : s.given ≡ replaced_by s (Some o) ++ o ∷ []
  pub placed : IsPlaced s o.end
  pub pattern : o.pattern < length s.built.dictionary.patterns
  pub some : o.start < o.end
  pub held : s.from ≤ at
  pub before : at ≤ o.start
  pub within : o.end ≤ length (read_by s)
  pub lies : LieInOrder (length s.built.dictionary.patterns) at 0 (replaced_by s (Some o))

-- the text may be handed out from this place on
abbrev pub IsPlacedAt : StreamProgress Picks → ℕ → Option Occurrence → Type 0
IsPlacedAt s at None = IsPlaced s at
IsPlacedAt s at (Some o) = IsMatchMet s at o

-- What holds of a replacement wherever it stands.
pub record IsReplacing (r : ReplacerProgress) : Type 0 where
  pub course : IsOnCourse r.search
  pub closed : r.search.closed ≡ (r.finished && may_wait r.search.built.dictionary.kind)
  pub within : r.at ≤ length (read_by r.search)
  pub placed : r.over ≡ false → CanBeCounted (read_by r.search) → IsPlacedAt r.search r.at r.met
  pub ended : r.over ≡ true → (r.finished ≡ true) × IsHandedOut r

-- ---- what a call does

-- a replacement was made, which has read nothing yet; or the error says why not
abbrev pub AnswersReplacer : Built → (Anchored → Type 0) → Result ReplacerProgress StreamError → Type 0
AnswersReplacer b supports (Ok r) = CanStream AnyKind b supports × (r ≡ fresh_replacer b)
AnswersReplacer b supports (Err error) = IsStreamRefusal AnyKind b supports error

-- nothing was handed out in between, and the text goes on at the same place
pub record KeepsText (r t : ReplacerProgress) : Type 0 where
  pub at : t.at ≡ r.at
  pub met : t.met ≡ r.met
  pub finished : t.finished ≡ r.finished
  pub over : t.over ≡ r.over
  pub text : (replacements : List (List ℕ)) → handed_out t replacements ≡ handed_out r replacements

-- the result of a push, in which nothing is handed out
abbrev pub PushesText : ReplacerProgress → ReplacerProgress → List ℕ → Result ℕ StreamError → Type 0
PushesText r t piece result = KeepsText r t × Pushes (IsReady r) r.search t.search piece result

-- In between nothing was pushed, and the text goes on by these bytes.
pub record HandsOut (r t : ReplacerProgress) (replacements : List (List ℕ)) (bytes : List ℕ) : Type 0 where
  pub same : ReadsNothing r.search t.search
  pub finished : t.finished ≡ r.finished
  pub text : handed_out t replacements ≡ handed_out r replacements ++ bytes

-- All that is decided was handed out: the front of what was pushed, replaced; or all of it, where no more comes.
pub record IsAllOut (t : ReplacerProgress) (replacements : List (List ℕ)) : Type 0 where
  pub out : IsHandedOut t
  pub front : t.finished ≡ false
      → IsFront t.search.built.dictionary (replaced_in t.search.built replacements) (read_by t.search)
      (handed_out t replacements)
  pub whole : t.finished ≡ true → handed_out t replacements ≡ replaced_in t.search.built replacements (read_by t.search)

-- This is the next slice of the text, after which the replacement has come further; or there is none, and all that is
-- decided was handed out if places can be counted.
abbrev pub GivesText : ReplacerProgress → ReplacerProgress → List (List ℕ) → Option (List ℕ) → Type 0
GivesText r t replacements None =
    HandsOut r t replacements [] × (CanBeCounted (read_by r.search) → IsAllOut t replacements)
GivesText r t replacements (Some bytes) =
    HandsOut r t replacements bytes × (r.at < t.at) × (t.at ≤ length (read_by t.search))

-- Two replacements of one text by equal automata, however it is cut into pieces, hand out the same text.
abbrev pub PiecesChangeNoText : Type 0
PiecesChangeNoText =
    (r t : ReplacerProgress) (replacements : List (List ℕ)) → r.search.built ≡ t.search.built
    → read_by r.search ≡ read_by t.search → r.finished ≡ true → t.finished ≡ true
    → IsAllOut r replacements → IsAllOut t replacements → handed_out r replacements ≡ handed_out t replacements

-- ---- how the next slice is found

-- the bytes of a slice: of what was read, or of a replacement
abbrev pub part_bytes : List ℕ → List (List ℕ) → Part → List ℕ
part_bytes x replacements (Text start end) = slice_range x start end
part_bytes x replacements (Replacement pattern) = get_or replacements pattern []

-- a slice can be lent: its bytes are held, or it is the replacement of one of the patterns
abbrev pub CanBeLent : StreamProgress Picks → Part → Type 0
CanBeLent s (Text start end) = (s.from ≤ start) × (start ≤ end) × (end ≤ length (read_by s))
CanBeLent s (Replacement pattern) = pattern < length s.built.dictionary.patterns

-- the search went on to the next match, if none was met
pub record LooksForMatch (r t : ReplacerProgress) : Type 0 where
  pub same : ReadsNothing r.search t.search
  pub at : t.at ≡ r.at
  pub finished : t.finished ≡ r.finished
  pub over : t.over ≡ r.over
  pub text : (replacements : List (List ℕ)) → handed_out t replacements ≡ handed_out r replacements
  pub all : t.met ≡ None → AreAllGiven t.search

-- the next slice is this one; or there is none, and all that is decided was handed out
abbrev pub TakesPart : ReplacerProgress → ReplacerProgress → Option Part → Type 0
TakesPart r t None =
    (t.search ≡ r.search) × (t.finished ≡ r.finished) × (t.at ≡ r.at) × (t.met ≡ r.met)
    × ((replacements : List (List ℕ)) → IsAllOut t replacements)
TakesPart r t (Some part) =
    (t.search ≡ r.search) × (t.finished ≡ r.finished) × (r.at < t.at) × (t.at ≤ length (read_by t.search))
    × CanBeLent t.search part
    × ((replacements : List (List ℕ))
    → handed_out t replacements ≡ handed_out r replacements ++ part_bytes (read_by t.search) replacements part)

-- This is the next slice, which was handed out and can be lent; or there is none, and all that is decided was handed
-- out if places can be counted.
abbrev pub FindsPart : ReplacerProgress → ReplacerProgress → Option Part → Type 0
FindsPart r t None =
    (replacements : List (List ℕ))
    → HandsOut r t replacements [] × (CanBeCounted (read_by r.search) → IsAllOut t replacements)
FindsPart r t (Some part) =
    ((replacements : List (List ℕ)) → HandsOut r t replacements (part_bytes (read_by t.search) replacements part))
    × (r.at < t.at) × (t.at ≤ length (read_by t.search)) × CanBeLent t.search part
