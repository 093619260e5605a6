-- The input of a search.
use Rattle.std.specs.Prelude.{ℕ, ◌+◌, ◌≤◌, Bool, true, false, List, length}
use Rattle.ac_input.specs.declared.search.Span.{Span}
use Rattle.ac_input.specs.declared.search.Anchored.{Anchored}
use Rattle.ac_input.specs.declared.search.Anchored.TheVariants.{No, Yes}
use Rattle.ac_input.specs.Occurrence.{Search}
use Rattle.ac_input.specs.Dictionary.{Dictionary}

-- an input: the haystack, the span that is searched, whether a match must start where the span does, and whether the
-- earliest end is taken
pub record Asked : Type 0 where
  pub haystack : List ℕ
  pub span : Span
  pub anchored : Anchored
  pub earliest : Bool

-- The span ends within the haystack. It may start one past its end: then the search is over, as after its last match.
abbrev pub IsSpanOf : List ℕ → Span → Type 0
IsSpanOf haystack span = (span.start ≤ span.end + 1) × (span.end ≤ length haystack)

-- the initial input: the whole haystack, a match may start anywhere, and the kind decides which one is returned
abbrev pub whole_of : List ℕ → Asked
whole_of haystack =
    record { haystack = haystack; span = record { start = 0; end = length haystack }; anchored = No; earliest = false }

-- whether a search has to match at its start
abbrev pub is_anchored : Anchored → Bool
is_anchored No = false
is_anchored Yes = true

-- the search of a span of a haystack for the patterns of a dictionary
abbrev pub search_of : Dictionary → Anchored → List ℕ → Span → Search
search_of m anchored haystack span =
    record {
      patterns = m.patterns;
      pairing = m.pairing;
      haystack = haystack;
      start = span.start;
      end = span.end;
      anchored = is_anchored anchored;
    }
