-- What a listing returns, from a place that C keeps.
use Rattle.std.specs.Prelude.{◌≡◌, ◌⊎◌, ℕ, zero, suc, ◌+◌, ◌-◌, ◌<◌, ◌==◌, ◌&&◌, ◌||◌, not, Bool, true, false, if◌then◌else◌, min, max, List, length, Option, Some, None, Result, Ok, Err, slice_get, filter, drop}
use Rattle.ac_input.specs.Computed.{is_after, listing_after}
use Rattle.ac_input.specs.Input.{Asked}
use Rattle.ac_input.specs.Occurrence.{Occurrence}
use Rattle.ac_input.specs.Word.{is_whole_word}
use Rattle.ac_input.specs.Work.{longest}
use Rattle.ac_input.specs.declared.steps.Steps.{Steps}
use Rattle.ac_automaton.specs.Automaton.{searched}
use Rattle.ac_automaton.specs.InMemory.Overlapping.OverlappingIter.{CountsRun, IsWithinOneWalk, LooksNear, Run, RunCounts, fresh_run, rest_of}
use Rattle.ac_automaton.specs.declared.error.MatchErrorKind.{MatchErrorKind}
use Rattle.ac_automaton.specs.InMemory.Overlapping.{CanOverlap, IsOverlappingRefusal}
use Rattle.ac_automaton.specs.InMemory.Words.{CanFindWords, IsWordsRefusal}
use Rattle.aho_corasick.specs.AhoCorasick.{as_built, patterns_of, supported_by}
use Rattle.aho_corasick.specs.declared.ahocorasick.AhoCorasick.{AhoCorasick}
use Rattle.ac_c.specs.declared.find.Bounds.{Bounds}
use Rattle.ac_c.specs.declared.found.Found.{Found}
use Rattle.ac_c.specs.declared.list.Listed.{Listed}
use Rattle.ac_c.specs.declared.list.Place.{Place}
use Rattle.ac_c.specs.declared.list.Wanted.{Wanted}
use Rattle.ac_c.specs.Find.{IsSpanIn, asked_by}
use Rattle.ac_c.specs.Status.{bad_cursor, refusal_status}
use Rattle.ac_c.specs.Walk.{AreGiven, given_status}

abbrev pub place : ℕ → ℕ → Found → ℕ → Place
place start end last begun = record { start = start; end = end; last = last; begun = begun }

-- the occurrence that C's match stands for
abbrev pub seen : Found → Occurrence
seen f = record { pattern = f.pattern; start = f.start; end = f.end }

-- the occurrence that was returned last, if there was one
abbrev pub before_of : Place → Option Occurrence
before_of p = if p.begun == 0 then None else Some (seen p.last)

-- the bounds of the listing's span, with this start
abbrev pub bounds_from : Place → ℕ → Bounds
bounds_from p from = record { start = from; end = p.end; anchored = 0; earliest = 0 }

-- the search of the listing's span, with this start
abbrev pub asked_from : List ℕ → Place → ℕ → Asked
asked_from haystack p from = asked_by haystack (bounds_from p from)

-- the listing's span is a span of the haystack
abbrev pub IsPlaceOver : List ℕ → Place → Type 0
IsPlaceOver haystack p = IsSpanIn haystack (bounds_from p p.start)

-- Where the next search starts: the longest pattern's length before the end of the last occurrence.
abbrev pub begins_at : Place → ℕ → ℕ
begins_at p longest = if p.begun == 0 then p.start else min (max (p.last.end - longest) p.start) (p.end + 1)

-- whether a listing gives an occurrence: it comes after the last one, and is a whole word where only these are wanted
abbrev pub is_wanted : List ℕ → Wanted → Occurrence → Bool
is_wanted haystack w o = is_after (before_of w.place) o && (not w.words || is_whole_word haystack o)

-- the remaining occurrences of a run that a listing gives
abbrev pub wanted_of : List ℕ → Wanted → Run → List Occurrence
wanted_of haystack w run = filter (is_wanted haystack w) (rest_of run)

-- the occurrences that are left of the listing
abbrev pub left_of_listing : AhoCorasick → List ℕ → Place → List Occurrence
left_of_listing ac haystack p = listing_after (searched (as_built ac) (asked_from haystack p p.start)) (before_of p)

-- the whole words that are left of it: the bytes beside the span count, too
abbrev pub left_of_word_listing : AhoCorasick → List ℕ → Place → List Occurrence
left_of_word_listing ac haystack p = filter (is_whole_word haystack) (left_of_listing ac haystack p)

-- the listing's place after n of the buffer's entries were returned
abbrev pub place_after : Place → List Found → ℕ → Place
place_after p out zero = p
place_after p out (suc n) = elim (slice_get out n) [ None ↦ p | Some f ↦ record p { last = f; begun = 1 } ]

-- why a listing doesn't go on: its span isn't one of the haystack, or the automaton lists no occurrences
abbrev pub IsRefusedListing : AhoCorasick → List ℕ → Place → ℕ → Type 0
IsRefusedListing ac haystack p status = ((status ≡ bad_cursor) × ¬ IsPlaceOver haystack p)
    ⊎ (IsPlaceOver haystack p × (error : MatchErrorKind)
    × IsOverlappingRefusal (as_built ac) (supported_by ac) (asked_from haystack p p.start) error
    × (status ≡ refusal_status error))

-- the same of a listing of words; an empty pattern comes last
abbrev pub IsRefusedWordListing : AhoCorasick → List ℕ → Place → ℕ → Type 0
IsRefusedWordListing ac haystack p status = ((status ≡ bad_cursor) × ¬ IsPlaceOver haystack p)
    ⊎ (IsPlaceOver haystack p × (error : MatchErrorKind) × IsWordsRefusal (as_built ac) (supported_by ac) error
    × (status ≡ refusal_status error))

-- what is left of a listing of occurrences, or of words
abbrev pub left_of_wanted : Bool → AhoCorasick → List ℕ → Place → List Occurrence
left_of_wanted false = left_of_listing
left_of_wanted true = left_of_word_listing

-- the next of those left are in the buffer, and the place after them has the rest; `left` is what is left at a place
abbrev pub AreNextListed : (Place → List Occurrence) → Place → List Found → List Found → ℕ → Type 0
AreNextListed left p old new n = AreGiven (left p) old new n × (left (place_after p new n) ≡ drop n (left p))

-- the next occurrences of a listing, and its place after them; or why it doesn't go on, and the buffer is unchanged
abbrev pub IsListedBy : AhoCorasick → List ℕ → Place → List Found → List Found → Result ℕ ℕ → Type 0
IsListedBy ac haystack p old new (Ok count) =
    IsPlaceOver haystack p × CanOverlap (as_built ac) (supported_by ac) (asked_from haystack p p.start)
    × AreNextListed (left_of_listing ac haystack) p old new count
IsListedBy ac haystack p old new (Err status) = IsRefusedListing ac haystack p status × (new ≡ old)

-- the next words of a listing of words
abbrev pub AreWordsListedBy : AhoCorasick → List ℕ → Place → List Found → List Found → Result ℕ ℕ → Type 0
AreWordsListedBy ac haystack p old new (Ok count) =
    IsPlaceOver haystack p × CanFindWords (as_built ac) (supported_by ac)
    × AreNextListed (left_of_word_listing ac haystack) p old new count
AreWordsListedBy ac haystack p old new (Err status) = IsRefusedWordListing ac haystack p status × (new ≡ old)

-- the one or the other
abbrev pub AreWantedBy : Bool → AhoCorasick → List ℕ → Place → List Found → List Found → Result ℕ ℕ → Type 0
AreWantedBy false = IsListedBy
AreWantedBy true = AreWordsListedBy

-- A run went on to where the second one stands, and counted exactly what it did. So far it costs no more than one walk
-- over its span.
pub record RunsTo (run later : Run) (before after : Steps) : Type 0 where
  pub built : later.built ≡ run.built
  pub asked : later.asked ≡ run.asked
  pub counts : RunCounts run later before after
  pub paid : IsWithinOneWalk later

-- the run through all occurrences from where the next search starts
abbrev pub run_from : AhoCorasick → List ℕ → Place → Run
run_from ac haystack p = fresh_run (as_built ac) (asked_from haystack p (begins_at p (longest (patterns_of ac))))

-- A run that filled a buffer has counted each byte up to the end of the last occurrence given, and has looked not far
-- ahead of it; or it has counted every byte of its span, if there is room left after n of them.
pub record CountsFilled (later : Run) (p : Place) (out : List Found) (n : ℕ) : Type 0 where
  pub last : 0 < n → n ≡ length out → CountsRun later (before_of (place_after p out n))
  pub near : 0 < n → n ≡ length out → LooksNear later (before_of (place_after p out n))
  pub all : n < length out → CountsRun later None

-- The next occurrences cost what the run does from where it starts, and each byte that it passes is counted. A call
-- that is refused costs nothing.
abbrev pub CostsListing : AhoCorasick → List ℕ → Place → List Found → Steps → Steps → Result ℕ ℕ → Type 0
CostsListing ac haystack p new before after (Ok count) =
    (later : Run) × RunsTo (run_from ac haystack p) later before after × CountsFilled later p new count
CostsListing ac haystack p new before after (Err status) = after ≡ before

-- the result of a listing as C sees it, with the place after what was returned
abbrev pub listed_of : Place → List Found → Result ℕ ℕ → Listed
listed_of p new (Ok count) =
    record { place = place_after p new count; count = count; status = given_status (length new) count }
listed_of p new (Err status) = record { place = p; count = 0; status = status }

-- what the next call of a listing returns, or of one of words
abbrev pub AnswersListed : Bool → AhoCorasick → List ℕ → Place → List Found → List Found → Listed → Type 0
AnswersListed words ac haystack p old new listed =
    (r : Result ℕ ℕ) × AreWantedBy words ac haystack p old new r × (listed ≡ listed_of p new r)
