use Rattle.ac_input.specs.Dictionary.{dictionary_of}
use Rattle.ac_tables.proofs.dfa.IdleLemmas.{start-row}
use Rattle.ac_tables.proofs.dfa.DFA.from_parts.Goals as goal

pub starters-requires : goal.starters-requires
starters-requires c =
    start-row (dictionary_of c.args.lens c.args.pairing c.args.kind) c.args.table c.requires.parts.stands

pub invariant_of-result-clause-idle : goal.invariant_of-result-clause-idle
invariant_of-result-clause-idle c = ∣ c.starters.ensures ∣₁

pub invariant_of-result-clause-shared : goal.invariant_of-result-clause-shared
invariant_of-result-clause-shared c = ∣ c.unused-unused.ensures ∣₁
