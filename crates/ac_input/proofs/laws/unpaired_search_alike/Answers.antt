use Rattle.std.proofs.Common.{None}
use Rattle.ac_input.proofs.lemmas.UnpairedLemmas.{best-unpaired, walk_after-unpaired}
use Rattle.ac_input.proofs.laws.unpaired_search_alike.Goals as goal

pub returns : goal.returns
returns c =
    λ kind s one another f g. (
      best-unpaired kind s one another f g,
      walk_after-unpaired kind s one another f g,
      walk_after-unpaired kind s one another f g s.start None,
    )
