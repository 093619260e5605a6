-- The front is what the bytes begin with.
use Rattle.std.proofs.Common.{length, drop}
use Rattle.std.proofs.lemmas.Bool.Decides.{Decides-eqb}
use Rattle.std.proofs.lemmas.Slice.Eq.{starts_is}
use Rattle.acsub.proofs.rules.text.begins_with.Goals as goal

pub returns : goal.returns
returns c =
    let (begins, is) = starts_is Decides-eqb c.args.bytes.now c.args.front.now c.starts_with.result c.starts_with.ensures.value in
    (λ yes. (drop (length c.args.front.now) c.args.bytes.now, begins yes), λ (more, split). is more split)
