-- One more pattern is in its bucket, and so are its partners.
use Rattle.std.proofs.Common.{ℕ, List, [], length, ap, arith}
use Rattle.std.proofs.lemmas.List.{length-map}
use Rattle.std.specs.Borrow.{Bor}
use Rattle.ac_literal.specs.Packed.{bytes_of}
use Rattle.ac_literal.proofs.openings.OpeningLemmas.{pattern-lent, opened-more}
use Rattle.ac_literal.proofs.packed.TeddyLemmas.{keeps-near}
use Rattle.ac_literal.proofs.openings.fronts.buckets_of.Goals as goal

pub add-requires-clause-long : goal.add-requires-clause-long
add-requires-clause-long c =
    let patterns = c.args.patterns.now in
    let d : Bor (List ℕ) = record { ref_ptr = (0, 0); now = [] } in
    let count = length-map patterns (λ (p : Bor (List ℕ)). p.now) in
    let short = c.requires.short c.loop-number.number (omega (arith, count, c.loop-number-test.true)) in
    let same = ap length (pattern-lent patterns d c.loop-number.number c.loop-number-test.true) in
    omega (arith, short, same)

pub loop-number-preserved : goal.loop-number-preserved
loop-number-preserved c =
    let patterns = c.args.patterns.now in
    let all = bytes_of patterns in
    let number = c.loop-number.number in
    let d : Bor (List ℕ) = record { ref_ptr = (0, 0); now = [] } in
    record {
      near = keeps-near c.add.ensures.kept c.loop-number.invariant.near;
      all = opened-more all (pattern-lent patterns d number c.loop-number-test.true) c.loop-number.invariant.all
          c.add.ensures.kept c.add.ensures.own;
    }
