-- The trie is that of the patterns under the settings.
use Rattle.std.proofs.Common.{subst}
use Rattle.ac_input.specs.Limits.{IsWithinLimits}
use Rattle.ac_noncontiguous.specs.Builder.{AreCompiled, dictionary_by}
use Rattle.ac_noncontiguous.proofs.trie.TrieLemmas.{trie-within}
use Rattle.ac_noncontiguous.proofs.builder.Builder.build_tables.Goals as goal

pub returns-clause-made : goal.returns-clause-made
returns-clause-made c =
    subst (λ s. AreCompiled (dictionary_by s c.args.patterns.now) c.in_ok-tables_of.field-0) c.self.view_is
    (c.in_ok-tables_of.ensures.made _ c.in_ok-trie.ensures.made)

pub returns-clause-within : goal.returns-clause-within
returns-clause-within c =
    subst (λ s. IsWithinLimits (dictionary_by s c.args.patterns.now)) c.self.view_is
    (trie-within c.in_ok-trie.ensures.made)
