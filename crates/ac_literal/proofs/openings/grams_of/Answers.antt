-- One more pattern has a window in the map.
use Rattle.std.proofs.Common.{subst, sym, take, arith}
use Rattle.ac_literal.specs.Grams.{HasWindow}
use Rattle.ac_literal.specs.Packed.{bytes_of}
use Rattle.ac_literal.proofs.grams.GramLemmas.{windows-more}
use Rattle.ac_literal.proofs.openings.OpeningLemmas.{front-lent, nothing_lent, pattern-lent}
use Rattle.ac_literal.proofs.openings.grams_of.Goals as goal

pub slice_bounds-add_rarest-end : goal.slice_bounds-add_rarest-end
slice_bounds-add_rarest-end c =
    let i = c.loop-pattern.pattern-index in
    sym (front-lent c.args.patterns.now c.args.len i c.requires.short c.loop-pattern-test.true)

pub add_rarest-requires : goal.add_rarest-requires
add_rarest-requires c =
    let i = c.loop-pattern.pattern-index in
    let all = front-lent c.args.patterns.now c.args.len i c.requires.short c.loop-pattern-test.true in
    let short = c.loop-pattern.invariant.short in
    omega (arith, short, all)

pub loop-pattern-preserved : goal.loop-pattern-preserved
loop-pattern-preserved c =
    let patterns = c.args.patterns.now in
    let lent = pattern-lent patterns nothing_lent c.loop-pattern.pattern-index c.loop-pattern-test.true in
    let own = subst (λ p. HasWindow c.add_rarest.new.self (take c.args.len p)) (sym lent) c.add_rarest.ensures.own in
    let step = c.add_rarest.ensures.kept.step in
    let short = c.loop-pattern.invariant.short in
    record {
      short = omega (arith, step, short);
      all = windows-more c.args.len (bytes_of patterns) c.add_rarest.ensures.kept c.loop-pattern.invariant.all own;
    }
