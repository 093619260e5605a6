use Rattle.std.proofs.Common.{ap, length, arith}
use Rattle.ac_noncontiguous.proofs.nfa.LookupLemmas.{kept-span}
use Rattle.ac_noncontiguous.proofs.nfa.ReadCallLemmas.{below-kept, edges-lead}
use Rattle.ac_noncontiguous.proofs.nfa.NFA.iter_trans.Goals as goal

pub overflow_sub-end : goal.overflow_sub-end
overflow_sub-end c =
    (kept-span (below-kept c.args.self.now c.requires) c.as_usize-at.ensures.value c.index.ensures c.index-2.ensures).2

pub slice_from-requires : goal.slice_from-requires
slice_from-requires c =
    let kept = below-kept c.args.self.now c.requires in
    let span = kept-span kept c.as_usize-at.ensures.value c.index.ensures c.index-2.ensures in
    omega (arith, span.2, span.3, ap length c.deref.ensures.value)

pub returns-clause-lead : goal.returns-clause-lead
returns-clause-lead c = edges-lead c.args.sid c.requires
