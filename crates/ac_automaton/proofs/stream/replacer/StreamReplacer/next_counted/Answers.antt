-- There is still a replacement for each pattern, as the search keeps its automaton.
use Rattle.std.proofs.Common.{[], length, ap, sym, ◌∙◌}
use Rattle.ac_automaton.proofs.stream.replacer.StreamReplacer.next_counted.Goals as goal

pub bytes-requires-clause-one_each : goal.bytes-requires-clause-one_each
bytes-requires-clause-one_each g c =
    c.requires.one_each ∙ ap (λ b. length b.dictionary.patterns) (sym (c.in_ok-slice.ensures.advances.0 []).same.built)
