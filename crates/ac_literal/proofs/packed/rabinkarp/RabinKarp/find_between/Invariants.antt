use Rattle.std.proofs.Common.{◌≡◌, ◌+◌, ◌-◌, ◌≤◌}
use Rattle.std.specs.Prelude.{slice_range}
use Rattle.ac_literal.specs.Packed.{part_search}
use Rattle.ac_literal.specs.Packed.RabinKarp.{hash_of, NoneBefore}
use Rattle.ac_literal.proofs.packed.rabinkarp.RabinKarp.find_between.Given as goal

abbrev pub invariant-loop-at : goal.invariant-loop-at
invariant-loop-at l = record {
  first : l.from ≤ l.at;
  last : l.at ≤ l.last;
  hash : l.hash ≡ hash_of (slice_range l.haystack l.at (l.at + l.self.hash_len));
  none : NoneBefore (part_search l.patterns l.haystack l.span.start l.span.end) l.at;
}

abbrev pub decreases-loop-at : goal.decreases-loop-at
decreases-loop-at l = l.last - l.at
