-- Each byte so far is idle, leading from the start back to it, or is one of the starters.
use Rattle.std.proofs.Common.{◌≡◌, ◌+◌, sym, subst, arith}
use Rattle.ac_automaton.specs.Starters.{SkipsBelow}
use Rattle.ac_automaton.proofs.skip.IdleLemmas.{skips-add, skips-idle}
use Rattle.ac_noncontiguous.specs.Nfa.Lookups.{StepsTo, IsIdle}
use Rattle.ac_noncontiguous.proofs.nfa.tables.Tables.starters.Goals as goal
use Rattle.ac_noncontiguous.proofs.nfa.tables.Tables.starters.Goals.{then-as_u32-start, else-as_u32-start}

pub loop-byte-preserved : goal.loop-byte-preserved
loop-byte-preserved c =
    let tables = c.args.self.now in
    elim c.if-as_u32-start.branch [
      | then-as_u32-start w ↦
          subst (SkipsBelow (IsIdle tables) (c.loop-byte.byte + 1)) (sym w.starters-is)
          (skips-add c.loop-byte.starters w.with-starters.result c.loop-byte.invariant w.with-starters.ensures)
      | else-as_u32-start w ↦
          let to : c.step.result ≡ tables.start = let a = c.as_u32-in-loop-byte.ensures.value in
          let b = c.as_u32-start.ensures.value in let d = w.if-as_u32-start.false in omega (arith, a, b, d) in
          let plain = c.if-start-as_u32.false in
          let top = c.as_u32.ensures.value in
          let first = c.as_u32-start.ensures.value in
          let idle : IsIdle tables c.loop-byte.byte = record {
            plain = omega (arith, plain, top, first);
            leads = subst (StepsTo tables tables.start c.loop-byte.byte) to c.step.ensures;
          } in
          subst (SkipsBelow (IsIdle tables) (c.loop-byte.byte + 1)) (sym w.starters-is)
          (skips-idle c.loop-byte.starters c.loop-byte.invariant idle)
    ]
