-- The next slice is handed out and written; or there is none.
use Rattle.std.proofs.Common.{[], length, ap, sym, ◌∙◌}
use Rattle.ac_literal.specs.Packed.{bytes_of}
use Rattle.ac_automaton.proofs.stream.devices.OutputLemmas.{Sent-none}
use Rattle.ac_automaton.proofs.stream.replacer.StreamReplacer.write_next.Goals as goal

pub returns-in_default-clause-writes : goal.returns-in_default-clause-writes
returns-in_default-clause-writes g c = (c.in_default.ensures.advances (bytes_of c.args.replacements.now), Sent-none)

pub bytes-requires-clause-one_each : goal.bytes-requires-clause-one_each
bytes-requires-clause-one_each g c =
    c.requires.one_each ∙ ap (λ b. length b.dictionary.patterns) (sym (c.in-Some.ensures.advances.0 []).same.built)
