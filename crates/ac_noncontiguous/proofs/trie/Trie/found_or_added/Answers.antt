use Rattle.std.proofs.Common.{◌<◌, ap, ◌∙◌, sym, arith}
use Rattle.std.proofs.lemmas.Bool.Decides.{nat_tests}
use Rattle.ac_noncontiguous.proofs.trie.StepLemmas.{step-found}
use Rattle.ac_noncontiguous.proofs.trie.Trie.found_or_added.Goals as goal

pub returns-then-state-byte-clause-step : goal.returns-then-state-byte-clause-step
returns-then-state-byte-clause-step c =
    let some : 0 < c.place-place.result.at = grind (arith, nat_tests) in
    step-found _ _ _ _ _ c.args.self.now.tree c.requires c.place-place.ensures some
    (sym (ap (λ s. s.byte) c.state.ensures) ∙ c.if-state-byte.true)
