-- How much memory the rows of a contiguous automaton take, and whether that is little enough.
use Rattle.std.specs.Prelude.{ℕ, ◌+◌, ◌-◌, ◌*◌, ◌/◌, ◌≤◌, List, length, slice_index}
use Rattle.ac_input.specs.Alphabet.{alphabet_len, IsLeastPowerOfTwo}
use Rattle.ac_input.specs.Number.{greatest_number}

-- how many bytes an entry of a row takes, and how many words share an entry of the index
abbrev pub entry_bytes : ℕ
entry_bytes = 4

abbrev pub index_block : ℕ
index_block = 4

-- how many entries the index has, of rows whose states have these places: one for each block of words, up to that of
-- the last place
abbrev pub index_entries : List ℕ → ℕ
index_entries places = slice_index places (length places - 1) / index_block + 1

-- how many bytes rows with `stride` entries take, with the places of their states and the index
abbrev pub rows_bytes : ℕ → List ℕ → ℕ
rows_bytes stride places = entry_bytes * (length places * stride + length places + index_entries places)

-- such rows are small: each begins at a number, and they take at most `memory` bytes
abbrev pub AreSmall : ℕ → List ℕ → ℕ → Type 0
AreSmall stride places memory = (length places * stride ≤ greatest_number) × (rows_bytes stride places ≤ memory)

-- they are small if each has as many entries as the least power of two that is enough for the classes
abbrev pub AreRowsSmall : List ℕ → List ℕ → ℕ → Type 0
AreRowsSmall classes places memory =
    (stride : ℕ) × IsLeastPowerOfTwo (alphabet_len classes) stride × AreSmall stride places memory
