-- The numbers of grams.
use Rattle.std.specs.Prelude.{ℕ, ◌+◌, ◌*◌, ◌/◌, ◌%◌, ◌^◌, List, [], ◌∷◌, slice_index}
use Rattle.std.specs.Int.{w64, from_le_bytes}

-- the eight bytes from a place on, as one number
abbrev pub word_at : List ℕ → ℕ → ℕ
word_at text at =
    from_le_bytes w64
    (slice_index text at ∷ slice_index text (at + 1) ∷ slice_index text (at + 2) ∷ slice_index text (at + 3)
    ∷ slice_index text (at + 4) ∷ slice_index text (at + 5) ∷ slice_index text (at + 6) ∷ slice_index text (at + 7) ∷ [])

-- the number of the gram at a place
unfoldable pub gram_number : List ℕ → ℕ → ℕ
gram_number text at = (word_at text at * 11400714819323198485) % 2 ^ 64 / 2 ^ 48
