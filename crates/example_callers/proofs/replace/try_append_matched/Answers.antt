-- The closure appends what matched.
use Rattle.std.proofs.Common.{rules}
use Rattle.std.proofs.lemmas.Result.{on_ok_weaker}
use Rattle.ac_automaton.specs.InMemory.Replace.{matches_in}
use Rattle.aho_corasick.specs.AhoCorasick.{as_built, supported_by}
use Rattle.aho_corasick.proofs.lemmas.ReplaceLemmas.{if-replaced_with, replaced-copies}
use Rattle.example_callers.proofs.replace.try_append_matched.Goals as goal

pub returns : goal.returns
returns c =
    let b = as_built c.args.ac.now in
    let replaced = if-replaced_with (λ v. v.items) matches_in _ b (supported_by c.args.ac.now) c.args.bytes.now _
    c.args.dst.now c.try_replace_all_with_bytes.new.dst c.try_replace_all_with_bytes.result
    c.try_replace_all_with_bytes.ensures in
    on_ok_weaker c.try_replace_all_with_bytes.result
    (λ is. replaced-copies (λ v. v.items) _ b c.args.bytes.now _ c.args.dst.now c.try_replace_all_with_bytes.new.dst
    (λ f after found text dst left more called. search rules) is)
    replaced
