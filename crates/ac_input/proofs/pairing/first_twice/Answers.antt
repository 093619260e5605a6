-- Each byte is marked once it has been read, so a byte that is marked stood before.
use Rattle.std.proofs.Common.{arith, rules, false, length-set, ◌∙◌, sym}
use Rattle.std.proofs.lemmas.Bool.{false≢true}
use Rattle.std.proofs.lemmas.List.{get_or-replicate}
use Rattle.ac_input.proofs.pairing.PairingLemmas.{IsFirstTwice-first, IsFirstTwice-second, IsDistinct-more, Marks-more, Marks-push}
use Rattle.ac_input.proofs.pairing.first_twice.Goals as goal

pub loop-a-init : goal.loop-a-init
loop-a-init c =
    record {
      len = search rules;
      distinct = tt;
      marks = λ b h.
          (λ t. absurd (false≢true (sym (get_or-replicate 256 b false false h) ∙ t)), λ k. absurd (omega (arith, k.1)));
    }

pub returns-then-seen-a : goal.returns-then-seen-a
returns-then-seen-a c =
    IsFirstTwice-first c.args.pairs.now (omega arith) c.loop-a.invariant.distinct
    ((c.loop-a.invariant.marks _ (omega arith)).0 c.if-seen-a.true)

pub returns-then-seen-b : goal.returns-then-seen-b
returns-then-seen-b c =
    let pairs = c.args.pairs.now in let i = c.loop-a.a-index in let seen = c.loop-a.seen in
    let marks = c.loop-a.invariant.marks in
    let both = Marks-push seen _ c.loop-a.invariant.len (omega arith) marks in
    IsFirstTwice-second pairs i (omega arith) c.loop-a.invariant.distinct
    (λ k. false≢true (sym c.if-seen-a.false ∙ (marks _ (omega arith)).1 k))
    ((both _ (omega arith)).0 c.if-seen-b.true)

pub loop-a-preserved : goal.loop-a-preserved
loop-a-preserved c =
    let pairs = c.args.pairs.now in let i = c.loop-a.a-index in let seen = c.loop-a.seen in
    let marks = c.loop-a.invariant.marks in
    let both = Marks-push seen _ c.loop-a.invariant.len (omega arith) marks in
    record {
      len = length-set _ _ _ ∙ length-set _ _ _ ∙ c.loop-a.invariant.len;
      distinct = IsDistinct-more pairs i (omega arith) c.loop-a.invariant.distinct
          (λ k. false≢true (sym c.if-seen-a.false ∙ (marks _ (omega arith)).1 k))
          (λ k. false≢true (sym c.if-seen-b.false ∙ (both _ (omega arith)).1 k));
      marks = Marks-more seen pairs i (omega arith) c.loop-a.invariant.len (omega arith) (omega arith) marks;
    }
