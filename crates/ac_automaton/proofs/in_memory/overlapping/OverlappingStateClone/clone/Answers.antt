-- The clone has the counts of the original.
use Rattle.std.proofs.Common.{ap₂, arith}
use Rattle.ac_automaton.specs.declared.in_memory.overlapping.OverlappingState.{OverlappingState}
use Rattle.ac_automaton.proofs.in_memory.overlapping.OverlappingStateLemmas.{count-same, steps-same}
use Rattle.ac_automaton.proofs.in_memory.overlapping.OverlappingStateClone.clone.Goals as goal

pub returns : goal.returns
returns c =
    let state = c.args.self.now in
    let none = c.new-sums.ensures in
    let sums = c.add.ensures in
    let a = none.looked in
    let b = none.scanned in
    let d = none.moved in
    let e = sums.looked in
    let f = sums.scanned in
    let h = sums.moved in
    record {
      cases = ap₂
          (λ shown steps. let r : OverlappingState =
          record { place = state.place; found = state.found; shown = shown; sums = steps } in r)
          (count-same c.more.result state.shown (omega (arith, c.more.ensures)))
          (steps-same c.add.new.self state.sums (omega arith) (omega arith) (omega arith));
    }
