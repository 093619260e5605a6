-- The depth is the one that is kept at the state.
use Rattle.std.proofs.Common.{ap, subst}
use Rattle.ac_noncontiguous.specs.Nfa.ReadCalls.{IsDeepIn}
use Rattle.ac_noncontiguous.proofs.nfa.LookupLemmas.{kept-read}
use Rattle.ac_noncontiguous.proofs.nfa.ReadCallLemmas.{below-kept, deep-in}
use Rattle.ac_noncontiguous.proofs.nfa.NFA.depth.Goals as goal

pub returns-clause-deep : goal.returns-clause-deep
returns-clause-deep c =
    let a = c.args.self.now in
    let here = kept-read (below-kept a c.requires) c.as_usize.ensures.value c.index.ensures in
    subst (IsDeepIn a c.args.sid) (ap (λ s. s.depth) here) (deep-in a c.args.sid c.requires)
