-- Numbers that fit the tables of an automaton.
use Rattle.std.specs.Prelude.{◌≡◌, ◌≤◌, ◌↔◌, ℕ, Result, IsOk, IfOk, IfErr}

-- the greatest place, of a processor of 64 bits
abbrev pub usize_max : ℕ
usize_max = 18446744073709551615

-- the greatest number of a pattern, of a state, or of anything else in a table
abbrev pub greatest_number : ℕ
greatest_number = 2147483646

-- the number of a state, as contracts see it
abbrev pub StateID : Type 0
StateID = ℕ

-- the number is made exactly if it is at most the greatest; otherwise the error holds it
abbrev pub IsTried : ℕ → Result ℕ ℕ → Type 0
IsTried number result =
    (IsOk result ↔ (number ≤ greatest_number)) × IfOk result (λ made. made ≡ number)
    × IfErr result (λ error. error ≡ number)
