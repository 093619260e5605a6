-- The walk that enters a pattern, byte by byte.
use Rattle.std.proofs.Common.{◌∙◌, subst, rules, arith}
use Rattle.std.proofs.lemmas.Result.{err_from_is_err_and}
use Rattle.std.proofs.lemmas.Grind.{common_steps}
use Rattle.ac_noncontiguous.specs.Trie.Entering.{IsChildRefused}
use Rattle.ac_noncontiguous.proofs.trie.WalkLemmas.{canonical-read, walk-start, walk-step}
use Rattle.ac_noncontiguous.proofs.trie.Trie.enter.Goals as goal

pub loop-byte-init : goal.loop-byte-init
loop-byte-init c = (search rules, walk-start c.args.self.now.tree)

pub loop-byte-preserved : goal.loop-byte-preserved
loop-byte-preserved c =
    let kept = c.loop-byte.invariant.0 in
    let rest = c.in_ok-at.ensures.rest in
    let read = canonical-read c.args.pattern.now c.loop-byte-test.true kept.pairing c.canonical-byte.ensures in (
      record { pairing = rest.pairing ∙ kept.pairing; kind = rest.kind ∙ kept.kind; ends = rest.ends ∙ kept.ends },
      walk-step c.loop-byte.self.tree c.child_for.new.self.tree c.loop-byte.invariant.1
          (λ first. c.is_shadowing.ensures.no c.if-is_shadowing.false (kept.kind ∙ first)) read.0 read.1
          c.in_ok-at.ensures.step,
    )

pub returns-in_err-at-clause-stuck : goal.returns-in_err-at-clause-stuck
returns-in_err-at-clause-stuck c =
    let kept = c.loop-byte.invariant.0 in
    let read = canonical-read c.args.pattern.now c.loop-byte-test.true kept.pairing c.canonical-byte.ensures in
    let p = err_from_is_err_and c.from_residual.result c.from_residual.ensures.1 in
    rw (p.1, p.2) (
      c.loop-byte.self.states.items,
      c.loop-byte.byte-index,
      c.loop-byte.at,
      c.loop-byte.self.tree,
      read.0,
      c.loop-byte.invariant.1,
      (λ first. c.is_shadowing.ensures.no c.if-is_shadowing.false (kept.kind ∙ first)),
      subst (λ b. IsChildRefused c.loop-byte.self.states.items c.loop-byte.at b c.in_err-at.field-0.0) read.1
          c.in_err-at.ensures.refused,
    )

pub returns-then-is_shadowing-clause-ended : goal.returns-then-is_shadowing-clause-ended
returns-then-is_shadowing-clause-ended c = grind (arith, common_steps)

pub returns-clause-ended : goal.returns-clause-ended
returns-clause-ended c = grind (arith, common_steps)
