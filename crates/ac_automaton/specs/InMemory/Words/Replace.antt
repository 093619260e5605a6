-- Whole words in memory, replaced: what the text is then, and when there is an error.
use Rattle.std.specs.Prelude.{◌≡◌, ℕ, List, map, Result, Ok, Err}
use Rattle.std.specs.Global.{Vec}
use denote.Ref.{Bor}
use Rattle.ac_input.specs.declared.search.Anchored.{Anchored}
use Rattle.ac_input.specs.declared.search.MatchKind.{MatchKind}
use Rattle.ac_input.specs.Text.{replaced_from}
use Rattle.ac_automaton.specs.Automaton.{Built}
use Rattle.ac_automaton.specs.InMemory.Words.{CanFindWords, IsWordsRefusal, fresh_words, words_left}
use Rattle.ac_automaton.specs.declared.error.ReplaceError.{ReplaceError}
use Rattle.ac_automaton.specs.declared.error.ReplaceError.TheVariants.{Match, Memory}

-- The result holds the haystack with each of its whole words under a kind replaced by its pattern's replacement; or it says what
-- failed: the search, or memory.
abbrev pub ReplacesWholeWords : Built → (Anchored → Type 0) → MatchKind → List ℕ → List (Bor (List ℕ))
    → Result (Vec ℕ) ReplaceError → Type 0
ReplacesWholeWords b supports kind haystack replacements (Ok made) =
    CanFindWords b supports
    × (made.items ≡ replaced_from 0 haystack (map (λ r. r.now) replacements) (words_left (fresh_words b kind haystack)))
ReplacesWholeWords b supports kind haystack replacements (Err (Match error)) = IsWordsRefusal b supports error
ReplacesWholeWords b supports kind haystack replacements (Err Memory) = CanFindWords b supports
