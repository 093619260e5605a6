-- The whole words of a text that begin at a place or later, and end before another.
use Rattle.std.specs.Prelude.{ℕ, ◌<◌, List, false}
use Rattle.ac_input.specs.Dictionary.{Dictionary, whole}
use Rattle.ac_input.specs.Occurrence.{Occurrence, Search, starting_at}
use Rattle.ac_input.specs.Word.{OccursWhole}

-- the search of a text from a place on
abbrev pub text_from : Dictionary → List ℕ → ℕ → Search
text_from m x at = starting_at (whole m x false) at

-- a whole word of the text that begins at a place or later, and ends before another
abbrev pub WordsBefore : Dictionary → List ℕ → ℕ → ℕ → Occurrence → Type 0
WordsBefore m x from end o = OccursWhole (text_from m x from) o × (o.end < end)
