-- The number of a gram is made of its eight bytes.
use Rattle.std.proofs.Common.{◌*◌, ◌/◌, ◌%◌, ◌^◌, ap}
use Rattle.ac_literal.specs.Grams.Numbers.{gram_number}
use Rattle.ac_literal.proofs.grams.number_at.Goals as goal

pub returns-clause-value : goal.returns-clause-value
unfolding gram_number
returns-clause-value c = ap (λ w. w * 11400714819323198485 % 2 ^ 64 / 2 ^ 48) c.from_le_bytes-word.ensures
