-- Each failure that is followed is shallower, and the byte leads from it to where it leads from the first state.
use Rattle.std.proofs.Common.{◌∙◌, sym, None, subst, arith}
use Rattle.ac_noncontiguous.specs.Links.Failures.{IsToldBy}
use Rattle.ac_noncontiguous.proofs.trie.FailLemmas.{fail-read, follows-more, left-less, failure-within, told-returns, stands-of, none-of}
use Rattle.ac_noncontiguous.proofs.trie.Trie.next.Goals as goal

pub told_by-told-requires-clause-within : goal.told_by-told-requires-clause-within
told_by-told-requires-clause-within c = (c.loop-at.invariant.shallow c.in-Some.id c.in-Some.is).0

pub returns-then-is_some-clause-leads : goal.returns-then-is_some-clause-leads
returns-then-is_some-clause-leads c m t goes settled known =
    let at = c.loop-at.invariant.shallow c.in-Some.id c.in-Some.is in
    let s = stands-of t in
    told-returns s goes c.args.from c.told_by-told.result at.0 settled
    (sym c.is_some.ensures ∙ c.if-is_some.true) c.told_by-told.ensures
    (rw c.in-Some.is at (c.loop-at.invariant.follows m t goes settled known))

pub bounds-fails-as_usize : goal.bounds-fails-as_usize
bounds-fails-as_usize c =
    let at = c.loop-at.invariant.shallow c.in-Some.id c.in-Some.is in
    omega (arith, at.0, c.requires.shallower.counted, c.as_usize.ensures.value)

pub loop-at-smaller : goal.loop-at-smaller
loop-at-smaller c =
    let at = c.loop-at.invariant.shallow c.in-Some.id c.in-Some.is in
    let given = fail-read c.args.fails.now (omega (arith, at.0, c.requires.shallower.counted)) c.as_usize.ensures.value
    c.index-fails-as_usize.is in
    left-less c.loop-at.at _ c.requires.shallower c.in-Some.is given

pub loop-at-preserved : goal.loop-at-preserved
loop-at-preserved c =
    let states = c.args.self.now.states.items in
    let fails = c.args.fails.now in
    let at = c.loop-at.invariant.shallow c.in-Some.id c.in-Some.is in
    let given = fail-read c.args.fails.now (omega (arith, at.0, c.requires.shallower.counted)) c.as_usize.ensures.value
    c.index-fails-as_usize.is in
    let untold : IsToldBy states c.in-Some.id c.args.byte None = subst (IsToldBy states c.in-Some.id c.args.byte)
    (none-of c.told_by-told.result (sym c.is_some.ensures ∙ c.if-is_some.false)) c.told_by-told.ensures in
    record {
      shallow = failure-within c.in-Some.id c.requires.shallower at.1 given;
      follows = λ m t goes settled known.
          let s = stands-of t in
          follows-more fails s c.args.from _ at.0 at.1 settled known given untold
          (rw c.in-Some.is at (c.loop-at.invariant.follows m t goes settled known));
    }
