use Rattle.std.proofs.Common.{map, ◌∙◌}
use Rattle.std.proofs.lemmas.Result.{IfOk-weaker}
use Rattle.aho_corasick.specs.AhoCorasick.{as_built}
use Rattle.aho_corasick.proofs.lemmas.ReplaceLemmas.{replaced-same}
use Rattle.example_callers.proofs.replace.replaced_by_itself.Goals as goal

pub returns : goal.returns
returns c =
    let same = replaced-same (as_built c.args.ac.now) c.args.bytes.now (map (λ p. p.now) c.args.patterns.now)
    c.requires.unpaired c.requires.same in
    IfOk-weaker c.replace_all_bytes.result _ _ (λ v is. is ∙ same) c.replace_all_bytes.ensures
