-- The states of one run are ordered by depth, whatever texts they stand for.
use Rattle.std.proofs.Common.{◌≤◌, ℕ, List, arith}
use Rattle.std.specs.Coded.{le_prop}
use Rattle.std.proofs.Math.Logic.{∥∥₁_elim}
use Rattle.ac_noncontiguous.specs.Nfa.ReadCalls.{depth_in}
use Rattle.ac_noncontiguous.specs.Nfa.Reads.{dictionary}
use Rattle.ac_noncontiguous.specs.Nfa.{AreTables}
use Rattle.example_callers.proofs.nfa.is_deeper.Goals as goal

pub returns : goal.returns
returns c =
    let nfa = c.args.nfa.now in
    let deeper : depth_in nfa c.args.before ≤ depth_in nfa c.args.sid =
    ∥∥₁_elim c.states_stand.ensures.some le_prop
    (λ (w : (text : ℕ → List ℕ) × AreTables (dictionary nfa) text nfa.tables).
    (c.states_are_ordered.ensures w.0 w.1).deeper c.args.before c.args.sid c.requires.before c.requires.within
    c.requires.run) in
    let low = c.depth.ensures.value in
    let high = c.depth-2.ensures.value in
    grind (arith, deeper, low, high)
