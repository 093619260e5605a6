use Rattle.std.proofs.Common.{ap, sym, ◌∙◌, ◌∷◌, [], ◌++◌, length, arith}
use Rattle.ac_input.specs.Work.{longest, shortest}
use Rattle.ac_literal.proofs.packed.PatternLemmas.{shortest-push}
use Rattle.ac_noncontiguous.proofs.nfa.PatternLensLemmas.{longest-more, lens-more}
use Rattle.ac_noncontiguous.proofs.nfa.pattern_lens.PatternLens.add.Goals as goal
use Rattle.std.specs.Prelude.{map}

pub invariant_of-self-2 : goal.invariant_of-self-2
invariant_of-self-2 c =
    let old = c.self.inside.patterns.items in
    let p = c.args.pattern.now in
    let kept = c.self.invariant in
    let new = c.and-self-inside.ensures in
    record {
      lens = c.in_ok-push.ensures.items
          ∙ (ap (λ xs. xs ++ length p ∷ []) kept.lens ∙ sym (ap (map (λ p. length p)) new ∙ lens-more old p));
      no_shorter =
          let before = kept.no_shorter in
          let min = c.min-self-inside.ensures in
          let more = shortest-push old p in
          let same = ap shortest new in
          omega (arith, before, min, more, same);
      no_longer =
          let before = kept.no_longer in
          let max = c.max-self-inside.ensures in
          let more = longest-more old p in
          let same = ap longest new in
          omega (arith, before, max, more, same);
    }
