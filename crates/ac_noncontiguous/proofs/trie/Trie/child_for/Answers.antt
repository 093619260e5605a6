-- A child that is known already needs no walk.
use Rattle.ac_noncontiguous.proofs.trie.StepLemmas.{step-known}
use Rattle.ac_noncontiguous.proofs.trie.Trie.child_for.Goals as goal

pub returns-in-Some-clause-step : goal.returns-in-Some-clause-step
returns-in-Some-clause-step c = step-known (c.known.ensures _ c.in-Some.is)
