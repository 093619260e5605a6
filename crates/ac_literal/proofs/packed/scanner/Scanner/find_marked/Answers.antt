-- The lowest mark at which a pattern lies has the match.
use Rattle.std.proofs.Common.{◌≢◌, ◌+◌, true, sym, ◌∙◌, arith}
use Rattle.std.specs.Prelude.{is_some}
use Rattle.ac_literal.specs.Packed.{part_search}
use Rattle.ac_literal.proofs.packed.FindLemmas.{found-first, starts-later}
use Rattle.ac_literal.proofs.packed.TeddyLemmas.{none-lowest, marks-left}
use Rattle.ac_literal.proofs.packed.scanner.Scanner.find_marked.Goals as goal

pub returns-then-is_some : goal.returns-then-is_some
returns-then-is_some c =
    let s = part_search c.args.patterns.now c.args.haystack.now c.args.span.start c.args.span.end in
    let place = c.lowest-place.ensures in
    let none = none-lowest c.loop-left.left place.within c.requires.none c.loop-left.invariant.marks place.below in
    found-first c.args.self.now.table.kind (c.args.at + 32) c.find_place-found.result
    (sym c.is_some.ensures ∙ c.if-is_some.true) none c.find_place-found.ensures

pub loop-left-preserved : goal.loop-left-preserved
loop-left-preserved c =
    let s = part_search c.args.patterns.now c.args.haystack.now c.args.span.start c.args.span.end in
    let place = c.lowest-place.ensures in
    let none = none-lowest c.loop-left.left place.within c.requires.none c.loop-left.invariant.marks place.below in
    let absent : is_some c.find_place-found.result ≢ true = λ e. cc in
    let later =
    starts-later c.args.self.now.table.kind c.find_place-found.result absent none c.find_place-found.ensures in
    record {
      few = omega (arith, c.without-left.ensures.less, c.loop-left.invariant.few);
      marks = marks-left c.args.at c.loop-left.left c.without-left.result later c.loop-left.invariant.marks
          c.without-left.ensures.kept;
    }
