use Rattle.ac_literal.specs.Packed.RabinKarp.{bucket_of}
use Rattle.ac_literal.proofs.packed.TableLemmas.{IsOpen}
use Rattle.ac_literal.proofs.packed.rabinkarp.RabinKarp.find_at.Given as goal

abbrev pub invariant-loop-link : goal.invariant-loop-link
invariant-loop-link l =
    IsOpen l.patterns l.haystack l.span.start l.span.end l.at l.self.entries.items (bucket_of l.hash) l.link

abbrev pub decreases-loop-link : goal.decreases-loop-link
decreases-loop-link l = l.link
