-- The automaton that was built finds the patterns byte for byte.
use Rattle.std.proofs.Common.{false}
use Rattle.ac_input.specs.Dictionary.{whole}
use Rattle.ac_input.specs.Input.{whole_of}
use Rattle.ac_noncontiguous.specs.Nfa.Reads.{built_as}
use Rattle.example_callers.proofs.automata.BuildLemmas.{best-some, first-bytes}
use Rattle.aho_corasick.proofs.lemmas.FindLemmas.{found-for}
use Rattle.example_callers.proofs.automata.occurs_in.Goals as goal

pub returns : goal.returns
returns c =
    let b = built_as c.in_ok-nfa.nfa in
    let found = found-for b (λ anchored. Unit {0}) _ (whole_of c.args.text.now) _ _ c.try_find.ensures.answer
    c.unwrap.ensures c.new-2.ensures in (
      b.dictionary,
      first-bytes c.args.patterns.now b c.in_ok-nfa.ensures.built,
      best-some b.dictionary.kind (whole b.dictionary c.args.text.now false) _ _ found c.is_some.ensures,
    )
