use Rattle.std.proofs.Common.{map, ◌∙◌}
use Rattle.std.proofs.lemmas.Result.{IfOk-weaker}
use Rattle.aho_corasick.specs.AhoCorasick.{as_built}
use Rattle.aho_corasick.proofs.lemmas.ReplaceLemmas.{replaced-none}
use Rattle.example_callers.proofs.replace.replaced_text.Goals as goal

pub returns : goal.returns
returns c =
    let same = replaced-none (as_built c.args.ac.now) c.args.text.now (map (λ p. p.now) c.args.replacements.now) in
    IfOk-weaker c.replace_all.result _ _ (λ t is none. is ∙ same none) c.replace_all.ensures
