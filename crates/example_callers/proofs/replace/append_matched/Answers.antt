-- The closure appends what matched.
use Rattle.std.proofs.Common.{rules}
use Rattle.std.proofs.lemmas.Result.{on_ok_weaker}
use Rattle.aho_corasick.specs.AhoCorasick.{as_built}
use Rattle.aho_corasick.proofs.lemmas.FrontLemmas.{if-appended}
use Rattle.aho_corasick.proofs.lemmas.ReplaceLemmas.{replaced-copies}
use Rattle.example_callers.proofs.replace.append_matched.Goals as goal

pub returns : goal.returns
returns c =
    let b = as_built c.args.ac.now in
    on_ok_weaker c.replace_all_with_bytes.result
    (λ is. replaced-copies (λ v. v.items) _ b c.args.bytes.now _ c.args.dst.now c.replace_all_with_bytes.new.dst
    (λ f after found text dst left more called. search rules) is)
    (if-appended _ c.args.ac.now c.args.bytes.now _ c.args.dst.now c.replace_all_with_bytes.new.dst
    c.replace_all_with_bytes.result c.replace_all_with_bytes.ensures)
