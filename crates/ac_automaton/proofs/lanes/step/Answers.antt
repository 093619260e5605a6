-- An automaton that looks at one state for a byte makes one look.
use Rattle.ac_input.proofs.lemmas.SomeLemmas.{live-some}
use Rattle.std.proofs.Common.{List, ℕ, arith}
use Rattle.std.proofs.Math.Logic.{∥∥₁_elim}
use Rattle.std.specs.Coded.{Coded-set, coded_ℕ}
use Rattle.ac_input.specs.declared.search.Anchored.TheVariants.{No}
use Rattle.ac_automaton.proofs.lanes.step.Goals as goal

pub returns-clause-cost : goal.returns-clause-cost
returns-clause-cost g c =
    let a = c.args.automaton.now in
    let cost = λ (text : List ℕ) (reads : g.A.LookUp.Reaches a No text c.args.sid).
    let before = live-some in
    let after = live-some in
    c.look_up.ensures.cost text before.0 after.0 reads before.1 after.1 in
    record {
      looked = ∥∥₁_elim c.requires.reached (Coded-set coded_ℕ _ _) (λ w. (cost w.0 w.1).one c.requires.one);
      scanned =
          ∥∥₁_elim c.requires.reached (Coded-set coded_ℕ _ _) (λ w. let e = (cost w.0 w.1).scanned in omega (arith, e));
      moved = ∥∥₁_elim c.requires.reached (Coded-set coded_ℕ _ _)
          (λ w. let e = (cost w.0 w.1).moved in omega (arith, e));
    }
