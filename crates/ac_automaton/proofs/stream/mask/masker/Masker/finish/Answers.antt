-- After the last piece all that is masked is ready.
use Rattle.ac_automaton.proofs.stream.StreamMaskLemmas.{course-finished, mask-still, mask_by}
use Rattle.std.proofs.Common.{true}
use Rattle.ac_automaton.proofs.stream.mask.masker.Masker.finish.Goals as goal

pub invariant_of-self : goal.invariant_of-self
invariant_of-self g c =
    let i = c.self.inside in
    mask-still true i.cut i.at c.self.invariant (course-finished (mask_by g.A.Automaton i) c.self.invariant.course)

pub returns-then-not-self-clause-kept : goal.returns-then-not-self-clause-kept
returns-then-not-self-clause-kept g c = (invariant_of-self g c).course
