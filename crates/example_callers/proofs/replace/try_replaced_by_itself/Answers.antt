use Rattle.std.proofs.Common.{◌∙◌}
use Rattle.std.proofs.lemmas.Result.{IfOk-weaker}
use Rattle.ac_literal.specs.Packed.{bytes_of}
use Rattle.aho_corasick.specs.AhoCorasick.{as_built}
use Rattle.aho_corasick.proofs.lemmas.ReplaceLemmas.{replaced-same}
use Rattle.example_callers.proofs.replace.try_replaced_by_itself.Goals as goal

pub returns : goal.returns
returns c =
    let same = replaced-same (as_built c.args.ac.now) c.args.bytes.now (bytes_of c.args.patterns.now)
    c.requires.unpaired c.requires.same in
    IfOk-weaker c.try_replace_all_bytes.result _ _ (λ v is. is ∙ same) c.try_replace_all_bytes.ensures.replaced
