-- Each byte of the set so far shares its class with another.
use Rattle.ac_tables.specs.Source.{ShareClasses}
use Rattle.ac_tables.proofs.source.unused.Given as goal

abbrev pub invariant-loop-byte : goal.invariant-loop-byte
invariant-loop-byte l = ShareClasses l.classes l.unused
