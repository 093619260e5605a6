-- The first place at which a pattern lies has the match.
use Rattle.std.proofs.Common.{◌≢◌, true, sym, ◌∙◌, arith}
use Rattle.std.specs.Prelude.{is_some}
use Rattle.std.proofs.lemmas.Grind.{common_steps}
use Rattle.ac_literal.specs.Packed.{part_search}
use Rattle.ac_literal.proofs.packed.FindLemmas.{found-first, found-place, starts-later, hash-roll}
use Rattle.ac_literal.proofs.packed.rabinkarp.RabinKarp.find_between.Goals as goal

pub returns-then-is_some : goal.returns-then-is_some
returns-then-is_some c =
    found-first c.args.self.now.kind c.args.to c.find_at-found.result (sym c.is_some.ensures ∙ c.if-is_some.true)
    c.loop-at.invariant.none c.find_at-found.ensures

pub loop-at-preserved : goal.loop-at-preserved
loop-at-preserved c =
    let s = part_search c.args.patterns.now c.args.haystack.now c.args.span.start c.args.span.end in
    let absent : is_some c.find_at-found.result ≢ true = λ e. cc in
    record {
      first = omega (arith, c.loop-at.invariant.first);
      last = omega arith;
      hash = c.roll-hash.ensures ∙ hash-roll c.args.haystack.now c.loop-at.at c.requires.table.some (omega arith)
          c.requires.table.power c.loop-at.invariant.hash;
      none = starts-later c.args.self.now.kind c.find_at-found.result absent c.loop-at.invariant.none
          c.find_at-found.ensures;
    }

pub returns : goal.returns
returns c =
    let s = part_search c.args.patterns.now c.args.haystack.now c.args.span.start c.args.span.end in
    found-place c.args.self.now.kind c.find_at.result (omega arith) c.loop-at.invariant.none c.find_at.ensures

pub find_at-requires-clause-hash : goal.find_at-requires-clause-hash
find_at-requires-clause-hash c = grind (arith, common_steps)
