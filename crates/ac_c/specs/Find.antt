-- What a search for one match returns.
use Rattle.std.specs.Prelude.{◌≡◌, ◌⊎◌, ℕ, ◌==◌, if◌then◌else◌, Bool, true, false, List, Option, Some, None, Result, Ok, Err}
use Rattle.ac_input.specs.declared.search.Anchored.{Anchored}
use Rattle.ac_input.specs.declared.search.Anchored.TheVariants.{No, Yes}
use Rattle.ac_input.specs.declared.search.Span.{Span}
use Rattle.ac_input.specs.declared.steps.Steps.{Steps}
use Rattle.ac_input.specs.Input.{Asked, IsSpanOf}
use Rattle.ac_input.specs.Occurrence.{Occurrence}
use Rattle.ac_automaton.specs.Automaton.{IsFindCost, IsFound, refusal_of}
use Rattle.aho_corasick.specs.AhoCorasick.{as_built, supported_by}
use Rattle.aho_corasick.specs.declared.ahocorasick.AhoCorasick.{AhoCorasick}
use Rattle.ac_c.specs.declared.find.Answer.{Answer}
use Rattle.ac_c.specs.declared.find.Bounds.{Bounds}
use Rattle.ac_c.specs.Found.{shown, nothing}
use Rattle.ac_c.specs.Status.{ok, none, bad_span, refusal_status}

-- a flag of C is set unless it is 0
abbrev pub is_set : ℕ → Bool
is_set flag = if flag == 0 then false else true

abbrev pub anchoring : ℕ → Anchored
anchoring flag = if flag == 0 then No else Yes

abbrev pub bounds : ℕ → ℕ → ℕ → ℕ → Bounds
bounds start end anchored earliest = record { start = start; end = end; anchored = anchored; earliest = earliest }

abbrev pub span_of : Bounds → Span
span_of b = record { start = b.start; end = b.end }

-- The bounds are a span of the haystack. The span may start one past the haystack's end, where nothing is left.
abbrev pub IsSpanIn : List ℕ → Bounds → Type 0
IsSpanIn haystack b = IsSpanOf haystack (span_of b)

-- the search of the haystack that the bounds ask for
abbrev pub asked_by : List ℕ → Bounds → Asked
asked_by haystack b =
    record { haystack = haystack; span = span_of b; anchored = anchoring b.anchored; earliest = is_set b.earliest }

-- the status of a search for which the automaton has no start
abbrev pub IsRefusedStart : AhoCorasick → Asked → ℕ → Type 0
IsRefusedStart ac asked status =
    (¬ supported_by ac asked.anchored) × (status ≡ refusal_status (refusal_of asked.anchored))

-- the match within the bounds, if there is one; or why nothing was searched: the span is bad, or the automaton has no
-- start for the search
abbrev pub IsFoundBy : AhoCorasick → List ℕ → Bounds → Result (Option Occurrence) ℕ → Type 0
IsFoundBy ac haystack b (Ok r) =
    IsSpanIn haystack b × supported_by ac (anchoring b.anchored) × IsFound (as_built ac) (asked_by haystack b) r
IsFoundBy ac haystack b (Err status) =
    ((status ≡ bad_span) × ¬ IsSpanIn haystack b)
    ⊎ (IsSpanIn haystack b × IsRefusedStart ac (asked_by haystack b) status)

-- what a search within bounds may cost; one that is refused costs nothing
abbrev pub CostsFindIn : AhoCorasick → List ℕ → Bounds → Steps → Steps → Result (Option Occurrence) ℕ → Type 0
CostsFindIn ac haystack b before after (Ok r) = IsFindCost (as_built ac) (asked_by haystack b) before after r
CostsFindIn ac haystack b before after (Err status) = after ≡ before

-- the result of a search, as C sees it
abbrev pub answer_of : Result (Option Occurrence) ℕ → Answer
answer_of (Ok (Some o)) = record { found = shown o; status = ok }
answer_of (Ok None) = record { found = nothing; status = none }
answer_of (Err status) = record { found = nothing; status = status }

abbrev pub AnswersFindIn : AhoCorasick → List ℕ → Bounds → Answer → Type 0
AnswersFindIn ac haystack b answer =
    (r : Result (Option Occurrence) ℕ) × IsFoundBy ac haystack b r × (answer ≡ answer_of r)
