-- What a walk over whole words returns, from a place that C keeps.
use Rattle.std.specs.Prelude.{◌≡◌, ◌≢◌, ◌⊎◌, ℕ, zero, suc, ◌+◌, ◌-◌, ◌*◌, ◌<◌, ◌≤◌, List, length, drop, Option, Some, None, Result, Ok, Err, slice_get}
use Rattle.std.specs.Global.{Vec}
use denote.Ref.{Bor}
use Rattle.ac_input.specs.Occurrence.{Occurrence}
use Rattle.ac_input.specs.Work.{longest, lookups_per_byte}
use Rattle.ac_input.specs.declared.search.MatchKind.{MatchKind}
use Rattle.ac_input.specs.declared.search.MatchKind.TheVariants.{Standard}
use Rattle.ac_input.specs.declared.steps.Steps.{Steps}
use Rattle.ac_automaton.specs.InMemory.Words.{AnswersWordsFrom, WordWalk, fresh_words, words_left}
use Rattle.ac_automaton.specs.InMemory.Words.Replace.{ReplacesWholeWords}
use Rattle.ac_automaton.specs.declared.error.MatchErrorKind.{MatchErrorKind}
use Rattle.ac_automaton.specs.declared.error.ReplaceError.{ReplaceError}
use Rattle.ac_automaton.specs.declared.error.ReplaceError.TheVariants.{Match, Memory}
use Rattle.aho_corasick.specs.AhoCorasick.{as_built, pattern_count, supported_by}
use Rattle.aho_corasick.specs.declared.ahocorasick.AhoCorasick.{AhoCorasick}
use Rattle.ac_c.specs.Build.{kind_by}
use Rattle.ac_c.specs.Replace.{HoldsText}
use Rattle.ac_c.specs.Status.{bad_cursor, bad_kind, no_memory, refusal_status, wrong_count}
use Rattle.ac_c.specs.Text.{HeldText}
use Rattle.ac_c.specs.Walk.{AreGiven, given_status}
use Rattle.ac_c.specs.declared.found.Found.{Found}
use Rattle.ac_c.specs.declared.words.Words.{Words}

-- the walk over the words of a text that stands at a place
abbrev pub words_from : AhoCorasick → MatchKind → List ℕ → ℕ → WordWalk
words_from ac kind haystack from = record (fresh_words (as_built ac) kind haystack) { at = from; read = from }

-- the words that are left from a place on
abbrev pub left_of_words : AhoCorasick → MatchKind → List ℕ → ℕ → List Occurrence
left_of_words ac kind haystack from = words_left (words_from ac kind haystack from)

-- what the library's walk over words from a place returns
abbrev pub AnswersFrom : AhoCorasick → MatchKind → List ℕ → ℕ → Result WordWalk MatchErrorKind → Type 0
AnswersFrom ac kind haystack from r = AnswersWordsFrom (as_built ac) (supported_by ac) kind haystack from r

-- from where a walk goes on after n of the buffer's entries were given: from the end of the last one
abbrev pub from_after : ℕ → List Found → ℕ → ℕ
from_after from out zero = from
from_after from out (suc n) = elim (slice_get out n) [ None ↦ from | Some f ↦ f.end ]

-- The next words of a walk went to the buffer, as many as it has room for, and the second walk is the first one after them.
pub record GivesWords (w v : WordWalk) (old new : List Found) (n : ℕ) : Type 0 where
  pub given : AreGiven (words_left w) old new n
  pub rest : words_left v ≡ drop n (words_left w)
  pub same : v ≡ record w
      { at = from_after w.at new n; read = v.read; looked = v.looked; scanned = v.scanned; moved = v.moved }

-- how far past the end of a word its search may read
abbrev pub past_word : MatchKind → List (List ℕ) → ℕ
past_word Standard patterns = 0
past_word kind patterns = longest patterns + 1

-- A walk that gave n words and has come to a place: it looked at most once, or twice if the automaton isn't deterministic, at each
-- byte up to there and at the bytes that it read past a word. Nothing is scanned or moved.
pub record PaysWords (w : WordWalk) (to n : ℕ) (before after : Steps) : Type 0 where
  pub order : w.at ≤ to
  pub looked : after.looked.value ≤ before.looked.value
      + lookups_per_byte w.built.deterministic * (to - w.at + n * past_word w.kind w.built.dictionary.patterns)
  pub scanned : after.scanned.value ≡ before.scanned.value
  pub moved : after.moved.value ≡ before.moved.value

-- A walk that filled the buffer pays up to the end of its last word. One that met its end pays up to the end of the text.
pub record CostsFilled (w : WordWalk) (to room n : ℕ) (before after : Steps) : Type 0 where
  pub full : n ≡ room → PaysWords w to n before after
  pub over : n < room → PaysWords w (length w.haystack) n before after

-- why a walk over words doesn't go on: its place is past the end of the text, or the library's walk is refused
abbrev pub AreRefusedWords : AhoCorasick → MatchKind → List ℕ → ℕ → ℕ → Type 0
AreRefusedWords ac kind haystack from status = ((status ≡ bad_cursor) × (length haystack < from))
    ⊎ ((from ≤ length haystack) × (error : MatchErrorKind) × AnswersFrom ac kind haystack from (Err error)
    × (status ≡ refusal_status error))

-- how many words come next, and from where the walk goes on; or why it doesn't, and the buffer is unchanged
abbrev pub AreWordsBy : AhoCorasick → MatchKind → List ℕ → ℕ → List Found → List Found → Result (ℕ × ℕ) ℕ → Type 0
AreWordsBy ac kind haystack from old new (Ok given) =
    (from ≤ length haystack) × AnswersFrom ac kind haystack from (Ok (words_from ac kind haystack from))
    × AreGiven (left_of_words ac kind haystack from) old new given.0 × (given.1 ≡ from_after from new given.0)
    × (left_of_words ac kind haystack given.1 ≡ drop given.0 (left_of_words ac kind haystack from))
AreWordsBy ac kind haystack from old new (Err status) = AreRefusedWords ac kind haystack from status × (new ≡ old)

-- what the next words cost; a call that is refused costs nothing
abbrev pub CostsWords : AhoCorasick → MatchKind → List ℕ → ℕ → ℕ → Steps → Steps → Result (ℕ × ℕ) ℕ → Type 0
CostsWords ac kind haystack from room before after (Ok given) =
    CostsFilled (words_from ac kind haystack from) given.1 room given.0 before after
CostsWords ac kind haystack from room before after (Err status) = after ≡ before

-- as C sees it
abbrev pub given_words : ℕ → ℕ → Result (ℕ × ℕ) ℕ → Words
given_words from room (Ok given) = record { from = given.1; count = given.0; status = given_status room given.0 }
given_words from room (Err status) = record { from = from; count = 0; status = status }

-- under the kind of a number; or the number names no kind, and the buffer is unchanged
abbrev pub AreWordsUnder : AhoCorasick → Option MatchKind → List ℕ → ℕ → List Found → List Found → Result (ℕ × ℕ) ℕ → Type 0
AreWordsUnder ac (Some kind) haystack from old new r = AreWordsBy ac kind haystack from old new r
AreWordsUnder ac None haystack from old new r = (r ≡ Err bad_kind) × (new ≡ old)

abbrev pub AnswersSomeWords : AhoCorasick → ℕ → List ℕ → ℕ → List Found → List Found → Words → Type 0
AnswersSomeWords ac kind haystack from old new words =
    (r : Result (ℕ × ℕ) ℕ) × AreWordsUnder ac (kind_by kind) haystack from old new r × (words ≡ given_words from (length old) r)

-- ---- replaced

-- What the library's replacement of words returns, as C sees it: the text, or the status.
abbrev pub given_text : Result (Vec ℕ) ReplaceError → Result (Vec ℕ) ℕ
given_text (Ok text) = Ok text
given_text (Err (Match error)) = Err (refusal_status error)
given_text (Err Memory) = Err no_memory

-- the text with each of its whole words under the kind of a number replaced; or the status: the number names no kind, there isn't one
-- replacement for each pattern, or the library's replacement is refused
abbrev pub AreWordsReplaced : AhoCorasick → Option MatchKind → List ℕ → List (Bor (List ℕ)) → Result (Vec ℕ) ℕ → Type 0
AreWordsReplaced ac None haystack replacements r = r ≡ Err bad_kind
AreWordsReplaced ac (Some kind) haystack replacements r =
    ((length replacements ≢ pattern_count ac) × (r ≡ Err wrong_count))
    ⊎ ((length replacements ≡ pattern_count ac) × (made : Result (Vec ℕ) ReplaceError)
    × ReplacesWholeWords (as_built ac) (supported_by ac) kind haystack replacements made × (r ≡ given_text made))

-- that text is held; or the status says why not
abbrev pub AnswersWordText : AhoCorasick → ℕ → List ℕ → List (Bor (List ℕ)) → HeldText → HeldText → ℕ → Type 0
AnswersWordText ac kind haystack replacements old new status =
    (r : Result (Vec ℕ) ℕ) × AreWordsReplaced ac (kind_by kind) haystack replacements r × HoldsText r old new status
