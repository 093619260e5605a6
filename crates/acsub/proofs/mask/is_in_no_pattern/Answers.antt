-- No rule up to the last has the byte or its partner in its pattern.
use Rattle.std.proofs.Common.{◌∙◌, below_more, refl, sym, arith}
use Rattle.std.proofs.lemmas.Bool.{false≢true}
use Rattle.acsub.specs.Rules.Lines.{rule_at}
use Rattle.acsub.proofs.mask.UnusedLemmas.{LacksByte, has-found, lacks-all, lacks-found, scan-of}
use Rattle.acsub.proofs.mask.is_in_no_pattern.Goals as goal

pub loop-i-preserved : goal.loop-i-preserved
loop-i-preserved c =
    let pairing = c.args.settings.now.pairing in
    let byte = c.args.byte in
    let text = (rule_at c.args.rules.now c.loop-i.i).0 in
    let found = c.memchr2.result in
    below_more (λ k. LacksByte pairing byte (rule_at c.args.rules.now k).0) c.loop-i.i c.loop-i.invariant
    (lacks-found pairing byte text found
    (scan-of pairing byte c.other-partner.result c.pattern.result.now text found c.other-partner.ensures.value
    c.pattern.ensures c.memchr2.ensures) (sym c.is_some.ensures ∙ c.if-is_some.false))

pub returns-then-is_some : goal.returns-then-is_some
returns-then-is_some c =
    let pairing = c.args.settings.now.pairing in
    let byte = c.args.byte in
    let text = (rule_at c.args.rules.now c.loop-i.i).0 in
    let found = c.memchr2.result in (
      λ is. absurd (false≢true is),
      λ unused.
          absurd (has-found c.args.settings.now c.args.rules.now byte c.loop-i.i found
          (omega (arith, c.len-i-end.ensures))
          (scan-of pairing byte c.other-partner.result c.pattern.result.now text found c.other-partner.ensures.value
          c.pattern.ensures c.memchr2.ensures) (sym c.is_some.ensures ∙ c.if-is_some.true) unused),
    )

pub returns : goal.returns
returns c = (
  λ is. lacks-all c.args.settings.now c.args.rules.now c.args.byte
      (λ k lt. c.loop-i.invariant k (omega (arith, lt, c.loop-i-test.false, c.loop-i.auto.i-end, c.len-i-end.ensures))),
  λ unused. refl,
)
