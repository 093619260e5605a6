-- Some text leads to the state, and one byte more takes one look-up more.
use Rattle.std.proofs.Common.{◌++◌, ◌∷◌, []}
use Rattle.std.proofs.Math.Logic.{∥∥₁_elim}
use Rattle.std.specs.Coded.{Coded-set, coded_ℕ}
use Rattle.ac_input.specs.Input.{is_anchored}
use Rattle.ac_input.proofs.lemmas.SomeLemmas.{live-some}
use Rattle.example_callers.proofs.states.next_by_one_look.Goals as goal

pub returns : goal.returns
returns g c =
    ∥∥₁_elim c.requires.reached (Coded-set coded_ℕ _ _) (λ w.
    let before = live-some in
    let after = live-some in
    (c.next_state_counted.ensures.cost w.0 before.0 after.0 w.1 before.1 after.1).one c.requires.deterministic)
