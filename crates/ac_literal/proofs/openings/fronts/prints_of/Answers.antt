-- The set has the fingerprint of one more pattern.
use Rattle.std.proofs.Common.{sym, arith}
use Rattle.ac_literal.specs.Packed.{bytes_of}
use Rattle.ac_literal.proofs.openings.OpeningLemmas.{front-lent, nothing_lent, pattern-lent, printed-more}
use Rattle.ac_literal.proofs.openings.fronts.prints_of.Goals as goal

pub slice_bounds-add-end : goal.slice_bounds-add-end
slice_bounds-add-end c =
    let i = c.loop-pattern.pattern-index in
    sym (front-lent c.args.patterns.now c.args.len i c.requires.short c.loop-pattern-test.true)

pub add-requires : goal.add-requires
add-requires c =
    let i = c.loop-pattern.pattern-index in
    let all = front-lent c.args.patterns.now c.args.len i c.requires.short c.loop-pattern-test.true in
    let wide = c.requires.wide in
    omega (arith, wide, all)

pub loop-pattern-preserved : goal.loop-pattern-preserved
loop-pattern-preserved c =
    let patterns = c.args.patterns.now in
    let lent = pattern-lent patterns nothing_lent c.loop-pattern.pattern-index c.loop-pattern-test.true in
    printed-more c.args.len (bytes_of patterns) lent c.loop-pattern.invariant c.add.ensures.kept c.add.ensures.own
