-- The copy is the one in the handle.
use Rattle.std.proofs.Common.{Some, ap, ◌∙◌, refl, inl}
use Rattle.ac_c.proofs.build.share.Goals as goal

pub returns-in-Ok-new : goal.returns-in-Ok-new
returns-in-Ok-new c = inl (c.in-Ok.copy, c.in-Ok.ensures, c.from_box.ensures ∙ ap Some c.in-Ok-new.ensures.ok, refl)
