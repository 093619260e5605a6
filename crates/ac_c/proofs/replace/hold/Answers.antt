-- The text is the one in the handle.
use Rattle.std.proofs.Common.{Some, ap, ◌∙◌, refl, inl}
use Rattle.ac_c.proofs.replace.hold.Goals as goal

pub returns : goal.returns
returns c = rw c.in-Ok.is (inl (refl, c.from_box.ensures ∙ ap Some c.in-Ok-new.ensures.ok))
