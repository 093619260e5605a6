-- The first match is of some pattern, and as long as that pattern.
use Rattle.std.proofs.Common.{ℕ, ◌-◌, [], length, get_or, Some, ap, sym, ◌∙◌}
use Rattle.std.specs.Prelude.{option_map}
use Rattle.ac_input.specs.Occurrence.{Occurrence}
use Rattle.aho_corasick.proofs.lemmas.FindLemmas.{first-known}
use Rattle.example_callers.proofs.generic_find.match_len.Goals as goal

pub pattern_len-requires : goal.pattern_len-requires
pattern_len-requires g c =
    let m = (g.A.Automaton.built c.args.automaton.now).dictionary in
    let known = first-known m c.args.text.now c.in_ok-found.found (sym c.first_match.ensures ∙ c.in_ok-found.was) in
    rw c.pattern.ensures known.0

pub returns : goal.returns
returns g c =
    let m = (g.A.Automaton.built c.args.automaton.now).dictionary in
    let is = sym c.first_match.ensures ∙ c.in_ok-found.was in
    let known = first-known m c.args.text.now c.in_ok-found.found is in
    ap Some (c.pattern_len.ensures ∙ ap (λ n. length (get_or m.patterns n [])) c.pattern.ensures ∙ known.1)
    ∙ ap (option_map (λ (o : Occurrence). o.end - o.start)) (sym is)
