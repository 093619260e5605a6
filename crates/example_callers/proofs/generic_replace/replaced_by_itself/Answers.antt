use Rattle.std.proofs.Common.{map, ◌∙◌}
use Rattle.std.proofs.lemmas.Result.{IfOk-weaker}
use Rattle.ac_automaton.specs.InMemory.Replace.{matches_in}
use Rattle.aho_corasick.proofs.lemmas.ReplaceLemmas.{if-replaced, replaced-same}
use Rattle.example_callers.proofs.generic_replace.replaced_by_itself.Goals as goal

pub returns : goal.returns
returns g c =
    let b = g.A.Automaton.built c.args.automaton.now in
    let same =
    replaced-same b c.args.bytes.now (map (λ p. p.now) c.args.patterns.now) c.requires.unpaired c.requires.same in
    IfOk-weaker c.try_replace_all_bytes.result _ _ (λ v is. is ∙ same)
    (if-replaced (λ v. v.items) matches_in b (g.A.Automaton.supports c.args.automaton.now) c.args.bytes.now
    c.args.patterns.now c.try_replace_all_bytes.result c.try_replace_all_bytes.ensures)
