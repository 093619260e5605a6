-- A read that returned some bytes hasn't ended the reader.
use Rattle.std.proofs.Common.{ap, ◌∙◌}
use Rattle.ac_automaton.specs.Automaton.{Built}
use Rattle.ac_automaton.specs.Stream.Iter.{reader_of}
use Rattle.ac_automaton.proofs.stream.devices.MovedLemmas.{turns-filled}
use Rattle.example_callers.proofs.generic_stream.StreamLemmas.{filled-standard}
use Rattle.example_callers.proofs.generic_stream.next_match.Goals as goal

pub returns-in-Some-Ok-clause-open : goal.returns-in-Some-Ok-clause-open
returns-in-Some-Ok-clause-open g c =
    let gives = rw c.in-Some-Ok.field-0-is at c.in-Some-Ok.ensures.gives.0 in
    let standard = ap (λ b. b.dictionary.kind) gives.has.built ∙ c.requires.standard in
    turns-filled gives.gained gives.has.read.turns
    (filled-standard c.args.matches.now.stream c.next_counted.new.self.stream gives.gained standard gives.read)
    ∙ c.requires.unended
