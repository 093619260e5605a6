-- Nothing else changes.
use Rattle.std.proofs.Common.{sym, subst}
use Rattle.ac_automaton.specs.Stream.WholeWords.Held.{TextRead}
use Rattle.ac_automaton.proofs.stream.words.WordKeptLemmas.{closed-kept}
use Rattle.ac_automaton.proofs.stream.words.WordSearchLemmas.{IsRight}
use Rattle.ac_automaton.proofs.stream.words.WordSearch.finish.Goals as goal

pub invariant_of-self : goal.invariant_of-self
invariant_of-self g c =
    subst (λ (t : TextRead). IsRight g.A.Automaton (record c.self.inside { text = t })) (sym c.close.ensures)
    (closed-kept g.A.Automaton c.self.inside c.self.invariant)

pub returns-clause-kept : goal.returns-clause-kept
returns-clause-kept g c = (invariant_of-self g c).0
