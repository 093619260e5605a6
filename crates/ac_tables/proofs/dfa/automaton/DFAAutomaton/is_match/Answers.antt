use Rattle.std.proofs.Common.{◌∙◌, arith}
use Rattle.std.proofs.lemmas.Bool.{leb-true, le-leb}
use Rattle.ac_tables.proofs.dfa.ReadLemmas.{listed-within, state-matches}
use Rattle.ac_tables.proofs.dfa.automaton.DFAAutomaton.is_match.Goals as goal

pub returns-then-as_u32-ne0 : goal.returns-then-as_u32-ne0
returns-then-as_u32-ne0 c =
    let a = c.args.self.now in
    let at = c.as_u32.ensures.value in
    let low = c.as_u32-then-as_u32-ne0.ensures.value in
    let top = c.as_u32-then-as_u32-ne0-2.ensures.value in (
      λ e. let le = leb-true c.as_u32-then-as_u32-ne0.result c.as_u32-then-as_u32-ne0-2.result e in
          state-matches a c.args.sid c.requires (λ zero. c.if-as_u32-ne0.true (at ∙ zero))
          (omega (arith, le, low, top)),
      λ some. let m = (listed-within a.table c.args.sid some).1 in
          le-leb c.as_u32-then-as_u32-ne0.result c.as_u32-then-as_u32-ne0-2.result (omega (arith, m, low, top)),
    )
