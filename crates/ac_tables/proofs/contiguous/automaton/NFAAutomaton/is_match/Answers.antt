use Rattle.std.proofs.Common.{arith}
use Rattle.std.proofs.lemmas.Bool.{leb-true, le-leb}
use Rattle.ac_tables.proofs.contiguous.NameLemmas.{state-matches, state-many}
use Rattle.ac_tables.proofs.contiguous.automaton.NFAAutomaton.is_match.Goals as goal

pub returns-then-as_u32-gt-NOWHERE : goal.returns-then-as_u32-gt-NOWHERE
returns-then-as_u32-gt-NOWHERE c =
    let a = c.args.self.now in
    let at = c.as_u32.ensures.value in
    let low = c.as_u32-then-as_u32-gt-NOWHERE.ensures.value in
    let top = c.as_u32-then-as_u32-gt-NOWHERE-2.ensures.value in
    let past = c.if-as_u32-gt-NOWHERE.true in (
      λ e. let le = leb-true c.as_u32-then-as_u32-gt-NOWHERE.result c.as_u32-then-as_u32-gt-NOWHERE-2.result e in
          state-many a c.args.sid c.requires (omega (arith, at, past)) (omega (arith, le, low, top)),
      λ some. let m = (state-matches a c.args.sid c.requires some).1 in
          le-leb c.as_u32-then-as_u32-gt-NOWHERE.result c.as_u32-then-as_u32-gt-NOWHERE-2.result
          (omega (arith, m, low, top)),
    )

pub returns-else-as_u32-gt-NOWHERE : goal.returns-else-as_u32-gt-NOWHERE
returns-else-as_u32-gt-NOWHERE c =
    let a = c.args.self.now in
    let at = c.as_u32.ensures.value in
    let past = c.if-as_u32-gt-NOWHERE.false in (
      λ e. let lt = leb-true 2 c.as_u32.result e in absurd (omega (arith, lt, past)),
      λ some. let m = (state-matches a c.args.sid c.requires some).0 in absurd (omega (arith, m, at, past)),
    )
