-- A match, as C sees it.
use Rattle.std.specs.Prelude.{ℕ}
use Rattle.ac_input.specs.Occurrence.{Occurrence}
use Rattle.ac_c.specs.declared.found.Found.{Found}

abbrev pub shown : Occurrence → Found
shown o = record { start = o.start; end = o.end; pattern = o.pattern }

-- the entry that stands for no match
abbrev pub nothing : Found
nothing = record { start = 0; end = 0; pattern = 0 }

abbrev pub found : ℕ → ℕ → ℕ → Found
found start end pattern = record { start = start; end = end; pattern = pattern }
