-- The set has the fingerprints of the patterns so far.
use Rattle.ac_literal.specs.Openings.Fingerprints.{ArePrinted}
use Rattle.ac_literal.specs.Packed.{bytes_of}
use Rattle.ac_literal.proofs.openings.fronts.prints_of.Given as goal

abbrev pub invariant-loop-pattern : goal.invariant-loop-pattern
invariant-loop-pattern l = ArePrinted l.pairing l.len (bytes_of l.patterns) l.pattern-index l.prints
