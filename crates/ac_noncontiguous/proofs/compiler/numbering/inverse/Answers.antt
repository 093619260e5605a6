-- From the last state back, so that the first one that stands for a trie state gives it its number.
use Rattle.std.proofs.Common.{◌≡◌, ◌+◌, ◌-◌, ◌<◌, length, subst, ◌∙◌, arith, length-set}
use Rattle.std.proofs.lemmas.List.{get_or_read}
use Rattle.ac_noncontiguous.specs.Compiler.Numbering.{AreFirstNumbers}
use Rattle.ac_noncontiguous.proofs.compiler.NumberingLemmas.{first-none, first-set}
use Rattle.ac_noncontiguous.proofs.compiler.numbering.inverse.Goals as goal

pub loop-from-init : goal.loop-from-init
loop-from-init c =
    record {
      some = c.requires.some;
      within = omega arith;
      counted = omega (arith, c.in_ok-of.ensures.len);
      first = first-none (omega arith);
    }

pub loop-from-preserved : goal.loop-from-preserved
loop-from-preserved c =
    let at = c.args.at.now in
    let from = c.loop-from.from - 1 in
    let within : from < length at = omega (arith, c.loop-from.invariant.within) in
    let back : c.loop-from.from ≡ from + 1 = omega arith in
    let read = get_or_read at from c.index-at-from.result within c.index-at-from.is 0 in
    let f = subst (λ n. AreFirstNumbers at n c.loop-from.of.items) back c.loop-from.invariant.first in
    record {
      some = omega arith;
      within = omega (arith, c.loop-from.invariant.within);
      counted = length-set c.loop-from.of.items c.as_usize.result c.must.result ∙ c.loop-from.invariant.counted;
      first = first-set within
          (omega (arith, c.loop-from.invariant.counted, c.requires.within from within, read, c.as_usize.ensures.value))
          (c.as_usize.ensures.value ∙ read) c.must.ensures f;
    }

pub returns : goal.returns
returns c =
    let two : c.loop-from.from ≡ 2 = omega (arith, c.loop-from.invariant.some) in (
      c.loop-from.invariant.counted,
      subst (λ n. AreFirstNumbers c.args.at.now n c.loop-from.of.items) two c.loop-from.invariant.first,
    )
