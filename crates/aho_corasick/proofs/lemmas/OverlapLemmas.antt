-- What overlapping searches over a whole text show.
use Rattle.std.proofs.Common.{◌≡◌, ℕ, false, List, Result, Ok, ap, sym, ◌∙◌, subst, arith}
use Rattle.ac_input.specs.declared.search.Anchored.{Anchored}
use Rattle.ac_input.specs.Dictionary.{whole}
use Rattle.ac_input.specs.Input.{Asked, whole_of}
use Rattle.ac_input.specs.Listing.{IsListing}
use Rattle.ac_input.specs.Occurrence.{Occurrence}
use Rattle.ac_input.proofs.lemmas.ListingLemmas.{listing_of-lists}
use Rattle.ac_automaton.specs.Automaton.{Built, listing_in}
use Rattle.ac_automaton.specs.InMemory.Overlapping.OverlappingIter.{AnswersListing, Run, rest_of}
use Rattle.ac_automaton.specs.declared.error.MatchErrorKind.{MatchErrorKind}

-- a run that has not begun has the whole listing of the text left
pub left-listing : (b : Built) (supports : Anchored → Type 0) (text : List ℕ) (asked : Asked)
    (result : Result Run MatchErrorKind) (run : Run) → AnswersListing b supports asked result → result ≡ Ok run
    → asked ≡ whole_of text → rest_of run ≡ listing_in b (whole_of text)
left-listing b supports text asked result run answers is whole_text =
    let all = subst (λ q. AnswersListing b supports asked q) is answers in
    all.2 ∙ ap (listing_in b) whole_text

-- occurrences that are the computed listing of a text are its listing by definition
pub collected-listing : (b : Built) (text : List ℕ) (os : List Occurrence) → os ≡ listing_in b (whole_of text)
    → IsListing (whole b.dictionary text false) os
collected-listing b text os is =
    subst (IsListing (whole b.dictionary text false)) (sym is)
    (listing_of-lists (omega arith))
