use Rattle.std.proofs.Common.{◌∙◌}
use Rattle.std.proofs.lemmas.Result.{IfOk-weaker}
use Rattle.ac_literal.specs.Packed.{bytes_of}
use Rattle.aho_corasick.specs.AhoCorasick.{as_built}
use Rattle.aho_corasick.proofs.lemmas.ReplaceLemmas.{replaced-none}
use Rattle.example_callers.proofs.replace.try_replaced_text.Goals as goal

pub returns : goal.returns
returns c =
    let same = replaced-none (as_built c.args.ac.now) c.args.text.now (bytes_of c.args.replacements.now) in
    IfOk-weaker c.try_replace_all.result _ _ (λ t is none. is ∙ same none) c.try_replace_all.ensures.replaced
