use Rattle.std.proofs.Common.{arith}
use Rattle.std.proofs.lemmas.Bool.{leb-true, le-leb}
use Rattle.ac_noncontiguous.proofs.nfa.ReadLemmas.{state-matches, state-many}
use Rattle.ac_noncontiguous.proofs.nfa.automaton.NFAAutomaton.is_match.Goals as goal

pub returns-then-as_usize-gt-FAIL : goal.returns-then-as_usize-gt-FAIL
returns-then-as_usize-gt-FAIL c =
    let a = c.args.self.now in
    let at = c.as_usize.ensures.value in
    let low = c.as_u32.ensures.value in
    let top = c.as_u32-then-as_usize-gt-FAIL.ensures.value in
    let past = c.if-as_usize-gt-FAIL.true in (
      λ e. let le = leb-true c.as_u32.result c.as_u32-then-as_usize-gt-FAIL.result e in
          state-many a c.requires (omega (arith, at, past)) (omega (arith, le, low, top)),
      λ some. let m = (state-matches a c.requires some).1 in
          le-leb c.as_u32.result c.as_u32-then-as_usize-gt-FAIL.result (omega (arith, m, low, top)),
    )

pub returns-else-as_usize-gt-FAIL : goal.returns-else-as_usize-gt-FAIL
returns-else-as_usize-gt-FAIL c =
    let a = c.args.self.now in
    let at = c.as_usize.ensures.value in
    let past = c.if-as_usize-gt-FAIL.false in (
      λ e. let lt = leb-true 2 c.as_usize.result e in absurd (omega (arith, lt, past)),
      λ some. let m = (state-matches a c.requires some).0 in absurd (omega (arith, m, at, past)),
    )
