-- The patterns so far are in buckets.
use Rattle.ac_literal.specs.Openings.Marks.{HaveOpened}
use Rattle.ac_literal.specs.Packed.{bytes_of}
use Rattle.ac_literal.specs.Packed.Teddy.{LooksBefore}
use Rattle.ac_literal.proofs.openings.fronts.buckets_of.Given as goal

abbrev pub invariant-loop-number : goal.invariant-loop-number
invariant-loop-number l = record {
  near : LooksBefore l.len l.teddy;
  all : HaveOpened l.pairing l.len (bytes_of l.patterns) l.number l.teddy;
}
