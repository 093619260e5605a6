-- The automaton is the one in the handle.
use Rattle.std.proofs.Common.{refl, inl, inr}
use Rattle.ac_c.proofs.dado_raw_build.Goals as goal

pub returns-in-Ok : goal.returns-in-Ok
returns-in-Ok c = inl (c.in-Ok.ac.value, c.in-Ok.ensures.built, c.from_box.ensures, refl, c.nothing.ensures)

pub returns-in-Err : goal.returns-in-Err
returns-in-Err c = inr (c.in-Err.ensures.refused, refl)
