-- Replacement in memory: which matches are replaced, what it returns, and when it returns an error.
use Rattle.std.specs.Prelude.{◌≡◌, false, ℕ, ◌<◌, ◌≤◌, ◌==◌, ◌&&◌, ◌||◌, nat_lt, nat_le, Bool, List, [], ◌∷◌, length, map, slice_index, Some, None, Result, Ok, Err, String}
use Rattle.std.specs.Fn.{Called, Mut}
use Rattle.std.specs.List.{filter}
use Rattle.std.specs.Global.{Global, Vec}
use Rattle.std.specs.String.{string_bytes}
use Rattle.std.specs.declared.alloc.AllocError.{AllocError}
use denote.Ref.{Bor, MutBor}
use Rattle.ac_input.specs.Chain.{Calls, IsChain, IsRefusedChain}
use Rattle.ac_input.specs.declared.search.Anchored.{Anchored}
use Rattle.ac_input.specs.declared.search.Anchored.TheVariants.{No}
use Rattle.ac_input.specs.Occurrence.{Occurrence}
use Rattle.ac_input.specs.Text.{replaced_from}
use Rattle.ac_input.specs.Computed.{walk_of}
use Rattle.ac_input.specs.Dictionary.{whole}
use Rattle.ac_automaton.specs.Automaton.{Built, refusal_of}
use Rattle.ac_automaton.specs.InMemory.Iter.{Walk, left_of}
use Rattle.ac_automaton.specs.declared.error.ReplaceError.{ReplaceError}
use Rattle.ac_automaton.specs.declared.error.ReplaceError.TheVariants.{Match, Memory}

-- the matches of a whole haystack, one after another, wherever they start
abbrev pub matches_in : Built → List ℕ → List Occurrence
matches_in b haystack = walk_of b.dictionary.kind (whole b.dictionary haystack false)

-- whether a character of the text begins at the place, or the text ends there
abbrev pub is_boundary : List ℕ → ℕ → Bool
is_boundary text at =
    (at == length text)
    || (nat_lt at (length text) && (nat_lt (slice_index text at) 128 || nat_le 192 (slice_index text at)))

-- whether an occurrence begins and ends between characters of the text
abbrev pub cuts_none : List ℕ → Occurrence → Bool
cuts_none text o = is_boundary text o.start && is_boundary text o.end

-- the matches of a text that cut no character
abbrev pub text_matches_in : Built → List ℕ → List Occurrence
text_matches_in b text = filter (cuts_none text) (matches_in b text)

-- the remaining matches that cut no character
abbrev pub text_left_of : List ℕ → Walk → List Occurrence
text_left_of text w = filter (cuts_none text) (left_of w)

-- Occurrences of patterns with numbers below `patterns`, in a text of this length. The first begins at `at` or later,
-- and each other one where the one before it ended or later.
abbrev pub LieInOrder : ℕ → ℕ → ℕ → List Occurrence → Type 0
LieInOrder patterns len at [] = Unit {0}
LieInOrder patterns len at (o ∷ os) =
    (o.pattern < patterns) × (at ≤ o.start) × (o.start ≤ o.end) × (o.end ≤ len) × LieInOrder patterns len o.end os

-- The error says what failed: the search, exactly if unanchored searches have no start; otherwise memory.
abbrev pub IsReplaceRefusal : (Anchored → Type 0) → ReplaceError → Type 0
IsReplaceRefusal supports (Match error) = (¬ supports No × (error ≡ refusal_of No))
IsReplaceRefusal supports Memory = supports No

-- The result holds the haystack with each of its matches replaced by its pattern's replacement; or it says what failed.
abbrev pub AnswersReplaceAll : {D : Type 0} → (D → List ℕ) → (Built → List ℕ → List Occurrence) → Built
    → (Anchored → Type 0) → List ℕ → List (Bor (List ℕ)) → Result D ReplaceError → Type 0
AnswersReplaceAll held matches b supports haystack replacements (Ok d) =
    supports No × (held d ≡ replaced_from 0 haystack (map (λ r. r.now) replacements) (matches b haystack))
AnswersReplaceAll held matches b supports haystack replacements (Err error) = IsReplaceRefusal supports error

-- the result of replacing the matches that cut no character in a text, and of replacing all matches in bytes
abbrev pub ReplacesText : Built → (Anchored → Type 0) → List ℕ → List (Bor (List ℕ))
    → Result (String Global) ReplaceError → Type 0
ReplacesText b supports haystack replacements r =
    AnswersReplaceAll string_bytes text_matches_in b supports haystack replacements r

abbrev pub ReplacesBytes : Built → (Anchored → Type 0) → List ℕ → List (Bor (List ℕ)) → Result (Vec ℕ) ReplaceError
    → Type 0
ReplacesBytes b supports haystack replacements r =
    AnswersReplaceAll (λ v. v.items) matches_in b supports haystack replacements r

-- What a closure of replacement takes and returns: a match, its bytes and the destination; its result, and the
-- destination.
abbrev pub Replacer : Type 0 → Type 0 → Type 0 → Type 1
Replacer F D A = Mut F (Bor Occurrence × (Bor (List ℕ) × (MutBor D × Unit {0}))) (A × (MutBor D × Unit {0}))

-- in this state the closure may be called at every match of a pattern whose number is below `patterns`, whatever else
-- it is passed
abbrev pub TakesMatches : {F D A : Type 0} → Replacer F D A → ℕ → F → Type 0
TakesMatches {F} {D} g patterns f =
    (found : Bor Occurrence) (bytes : Bor (List ℕ)) (dst : MutBor D) → found.now.pattern < patterns
    → g.pre f (found, (bytes, (dst, tt)))

-- the closure may be called at every match, and may be called at every match again after each call
pub record IsForMatches {F D A : Type 0} (g : Replacer F D A) (patterns : ℕ) (f : F) : Type 0 where
  pub takes : TakesMatches g patterns f
  pub keeps : (state : F) (found : Bor Occurrence) (bytes : Bor (List ℕ)) (dst : MutBor D) (r : A) (left : MutBor D)
      (after : F)
      → TakesMatches g patterns state → found.now.pattern < patterns
      → Called g state (found, (bytes, (dst, tt))) (r, (left, tt)) after → TakesMatches g patterns after

-- One call: passed an occurrence, its bytes and a destination, the closure may return `r`. It leaves itself as `after`
-- and the destination as `new`.
pub record RepliesAt {F D A : Type 0} (g : Replacer F D A) (f : F) (o : Occurrence) (bytes : List ℕ) (old : D) (r : A)
    (after : F) (new : D) : Type 0 where
  pub found : Bor Occurrence
  pub text : Bor (List ℕ)
  pub dst : MutBor D
  pub shows : (found.now ≡ o) × (text.now ≡ bytes) × (dst.now ≡ old)
  pub left : MutBor D
  pub called : Called g f (found, (text, (dst, tt))) (r, (left, tt)) after
  pub leaves : left.now ≡ new

-- the closure of a replacement in memory: it returns whether to go on, or an error
abbrev pub MemoryReplacer : Type 0 → Type 0 → Type 1
MemoryReplacer F D = Replacer F D (Result Bool AllocError)

-- the calls of a closure on destinations that hold these bytes
abbrev pub calls_of : {F D : Type 0} → (D → List ℕ) → MemoryReplacer F D → Calls F
calls_of {F} {D} held g f o bytes old (Some more) after new =
    (from to : D) × (held from ≡ old) × (held to ≡ new) × RepliesAt g f o bytes from (Ok more) after to
calls_of {F} {D} held g f o bytes old None after new =
    (from to : D) × (error : AllocError) × (held from ≡ old) × (held to ≡ new)
    × RepliesAt g f o bytes from (Err error) after to

-- what the closure makes of the occurrences of a haystack, one after another, to the end or to its first false
abbrev pub IsReplacedWith : {F D : Type 0} → (D → List ℕ) → MemoryReplacer F D → List ℕ → List Occurrence → F → D → D
    → Type 0
IsReplacedWith {F} held g haystack os f old new =
    (last : F) × IsChain (calls_of held g) haystack 0 os f (held old) last (held new)

-- what the closure has made of the occurrences of a haystack when memory ran out
abbrev pub IsBrokenOff : {F D : Type 0} → (D → List ℕ) → MemoryReplacer F D → List ℕ → List Occurrence → F → D → D
    → Type 0
IsBrokenOff {F} held g haystack os f old new =
    (last : F) × IsRefusedChain (calls_of held g) haystack 0 os f (held old) last (held new)

-- The error says what failed. If the search failed, the destination is unchanged. If memory ran out, it holds what the
-- closure has made so far.
abbrev pub IsRefusedWith : {F D : Type 0} → (D → List ℕ) → MemoryReplacer F D → List ℕ → List Occurrence → F → D → D
    → (Anchored → Type 0) → ReplaceError → Type 0
IsRefusedWith held g haystack os f old new supports (Match error) =
    IsReplaceRefusal supports (Match error) × (new ≡ old)
IsRefusedWith held g haystack os f old new supports Memory = supports No × IsBrokenOff held g haystack os f old new

-- The destination holds what the closure makes of the matches of the haystack; or the error says what failed.
abbrev pub AnswersReplaceAllWith : {F D : Type 0} → (D → List ℕ) → (Built → List ℕ → List Occurrence)
    → MemoryReplacer F D → Built → (Anchored → Type 0) → List ℕ → F → D → D → Result (Unit {0}) ReplaceError → Type 0
AnswersReplaceAllWith held matches g b supports haystack f old new (Ok done) =
    supports No × IsReplacedWith held g haystack (matches b haystack) f old new
AnswersReplaceAllWith held matches g b supports haystack f old new (Err error) =
    IsRefusedWith held g haystack (matches b haystack) f old new supports error

-- what the closure makes of the matches that cut no character in a text, and of all matches in bytes
abbrev pub ReplacesTextWith : {F : Type 0} → MemoryReplacer F (String Global) → Built → (Anchored → Type 0) → List ℕ → F
    → String Global → String Global → Result (Unit {0}) ReplaceError → Type 0
ReplacesTextWith g b supports haystack f old new r =
    AnswersReplaceAllWith string_bytes text_matches_in g b supports haystack f old new r

abbrev pub ReplacesBytesWith : {F : Type 0} → MemoryReplacer F (Vec ℕ) → Built → (Anchored → Type 0) → List ℕ → F
    → Vec ℕ → Vec ℕ → Result (Unit {0}) ReplaceError → Type 0
ReplacesBytesWith g b supports haystack f old new r =
    AnswersReplaceAllWith (λ v. v.items) matches_in g b supports haystack f old new r
