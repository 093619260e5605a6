use Rattle.std.proofs.Common.{map, ◌∙◌}
use Rattle.std.proofs.lemmas.Result.{IfOk-weaker}
use Rattle.std.specs.String.{string_bytes}
use Rattle.ac_automaton.specs.InMemory.Replace.{text_matches_in}
use Rattle.aho_corasick.proofs.lemmas.ReplaceLemmas.{if-replaced, replaced-none}
use Rattle.example_callers.proofs.generic_replace.replaced_text.Goals as goal

pub returns : goal.returns
returns g c =
    let b = g.A.Automaton.built c.args.automaton.now in
    let same = replaced-none b c.args.text.now (map (λ p. p.now) c.args.replacements.now) in
    IfOk-weaker c.try_replace_all.result _ _ (λ t is none. is ∙ same none)
    (if-replaced string_bytes text_matches_in b (g.A.Automaton.supports c.args.automaton.now) c.args.text.now
    c.args.replacements.now c.try_replace_all.result c.try_replace_all.ensures)
