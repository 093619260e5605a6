-- The bytes that are ready are held.
use Rattle.std.proofs.Common.{ap, ◌∙◌}
use Rattle.ac_automaton.specs.Masking.Words.Pushed.{ready_words_of}
use Rattle.ac_automaton.proofs.stream.mask.words.WordPushLemmas.{pushed-ready}
use Rattle.ac_automaton.proofs.stream.mask.words.pushed.WordMasking.ready.Goals as goal

pub returns-clause-ready : goal.returns-clause-ready
returns-clause-ready g c =
    c.between.ensures ∙ pushed-ready g.A.Automaton c.self.inside c.self.invariant ∙ ap ready_words_of c.self.view_is
