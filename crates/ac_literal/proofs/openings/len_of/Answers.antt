-- One more pattern is no shorter than the length.
use Rattle.std.proofs.Common.{ℕ, List, [], length, ap, arith}
use Rattle.std.specs.Borrow.{Bor}
use Rattle.ac_literal.specs.Packed.{bytes_of}
use Rattle.ac_literal.proofs.openings.OpeningLemmas.{pattern-lent, short-more}
use Rattle.ac_literal.proofs.openings.len_of.Goals as goal

pub loop-pattern-preserved : goal.loop-pattern-preserved
loop-pattern-preserved c =
    let patterns = c.args.patterns.now in
    let number = c.loop-pattern.pattern-index in
    let d : Bor (List ℕ) = record { ref_ptr = (0, 0); now = [] } in
    let least = c.min-len.ensures in
    let same = ap length (pattern-lent patterns d number c.loop-pattern-test.true) in
    let few = c.loop-pattern.invariant.few in
    record {
      few = omega (arith, least, few);
      short = short-more (bytes_of patterns) c.loop-pattern.invariant.short (omega (arith, least))
          (omega (arith, least, same));
    }
