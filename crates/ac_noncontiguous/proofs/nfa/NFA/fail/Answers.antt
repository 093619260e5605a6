use Rattle.std.proofs.Common.{◌≡◌, ap, subst}
use Rattle.ac_noncontiguous.specs.Nfa.ReadCalls.{fail_in, FailsIn}
use Rattle.ac_noncontiguous.proofs.nfa.LookupLemmas.{kept-read}
use Rattle.ac_noncontiguous.proofs.nfa.ReadCallLemmas.{below-kept, fails-in}
use Rattle.ac_noncontiguous.proofs.nfa.NFA.fail.Goals as goal

pub returns-clause-fails : goal.returns-clause-fails
returns-clause-fails c =
    let a = c.args.self.now in
    let h = below-kept a c.requires in
    let kept : fail_in a c.args.sid ≡ c.index.result.now.fail =
    ap (λ s. s.fail) (kept-read h c.as_usize.ensures.value c.index.ensures) in
    subst (FailsIn a c.args.sid) kept (fails-in a c.args.sid c.requires)
