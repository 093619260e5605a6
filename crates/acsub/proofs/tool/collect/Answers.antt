-- The iterator returns the words that it holds, in order.
use Rattle.std.proofs.Common.{ℕ, Ok, refl}
use Rattle.std.specs.Vec.Iter.{into_iter_items}
use Rattle.std.proofs.lemmas.Iterator.{items_from_collect}
use Rattle.std.proofs.lemmas.Iterator.Adapters.{YieldsList-from_vec}
use Rattle.acsub.proofs.tool.collect.Goals as goal

pub returns-in-Ok-collect : goal.returns-in-Ok-collect
returns-in-Ok-collect c =
    let words = c.in-Ok.words in
    rw c.in-Ok.is
    (items_from_collect {E = ℕ} (Ok c.in-Ok-collect.words) c.in-Ok-collect.ensures.ran
    (YieldsList-from_vec (into_iter_items words) refl words.rest.ok.0))
