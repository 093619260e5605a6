-- What a search looks for, and what an occurrence is.
use Rattle.std.specs.Prelude.{◌≡◌, ℕ, ◌≤◌, Bool, List, IsTrue, Some, slice_get, slice_range}
use Rattle.ac_input.specs.Same.{same_text}

-- where a pattern lies: its number, the place of its first byte, and the place after its last
pub record Occurrence : Type 0 where
  pub pattern : ℕ
  pub start : ℕ
  pub end : ℕ

-- What is searched for, and where: a span of a haystack. An anchored search takes only what begins at the span's start.
pub record Search : Type 0 where
  pub patterns : List (List ℕ)
  pub pairing : List ℕ
  pub haystack : List ℕ
  pub start : ℕ
  pub end : ℕ
  pub anchored : Bool

-- A pattern that lies whole in the span. An empty pattern lies at every place of it, its end included.
pub record Occurs (s : Search) (o : Occurrence) : Type 0 where
  pub within : (s.start ≤ o.start) × (o.start ≤ o.end) × (o.end ≤ s.end)
  pub same : (p : List ℕ) × (slice_get s.patterns o.pattern ≡ Some p)
      × IsTrue (same_text s.pairing p (slice_range s.haystack o.start o.end))
  pub anchor : IsTrue s.anchored → o.start ≡ s.start

-- the same search, with a span that starts at another place
abbrev pub starting_at : Search → ℕ → Search
starting_at s at = record s { start = at }

-- an occurrence of the search that starts at a place
abbrev pub StartsAt : Search → ℕ → Occurrence → Type 0
StartsAt s at o = Occurs s o × (o.start ≡ at)
