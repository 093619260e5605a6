-- What the replacement is once no slice of it is lent.
use Rattle.std.proofs.Common.{refl}
use Rattle.example_callers.proofs.pushed_text.append_next.Goals as goal

pub returns-in-None : goal.returns-in-None
returns-in-None g c = (rw c.in-None.is at c.next_counted.follows.holds-at-none.0, refl)
