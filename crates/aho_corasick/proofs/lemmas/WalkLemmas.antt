-- How many matches a walk has, and which are left before it begins.
use Rattle.std.proofs.Common.{◌≡◌, ℕ, List, Result, Ok, ◌∙◌, ap, subst}
use Rattle.ac_input.specs.declared.search.Anchored.{Anchored}
use Rattle.ac_input.specs.Input.{Asked, whole_of}
pub use Rattle.ac_automaton.proofs.in_memory.iter.ItemsLemmas.{matches-few}
use Rattle.ac_automaton.specs.Automaton.{Built, walk_in}
use Rattle.ac_automaton.specs.InMemory.Iter.{AnswersFindIter, Walk, left_of}
use Rattle.ac_automaton.specs.declared.error.MatchErrorKind.{MatchErrorKind}
use Rattle.ac_automaton.specs.InMemory.Replace.{matches_in}

-- a walk that has not begun has all matches of the text left
pub left-all : (b : Built) (supports : Anchored → Type 0) (text : List ℕ) (asked : Asked)
    (result : Result Walk MatchErrorKind) (w : Walk) → AnswersFindIter b supports asked result → result ≡ Ok w
    → asked ≡ whole_of text → left_of w ≡ matches_in b text
left-all b supports text asked result w answers is whole_text =
    let all = subst (λ q. AnswersFindIter b supports asked q) is answers in
    all.2 ∙ ap (walk_in b) whole_text
