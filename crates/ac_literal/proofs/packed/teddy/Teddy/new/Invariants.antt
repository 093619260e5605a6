use Rattle.ac_literal.specs.Packed.Teddy.{LooksBefore, HasPattern}
use Rattle.ac_literal.proofs.packed.teddy.Teddy.new.Given as goal
use Rattle.std.specs.Prelude.{ℕ, ◌<◌, get_or, []}

abbrev pub invariant-loop-number : goal.invariant-loop-number
invariant-loop-number l = record {
  near : LooksBefore l.len l.teddy;
  all : ((number : ℕ) → number < l.number → (bucket : ℕ) × HasPattern l.teddy (get_or l.patterns number []) bucket);
}
