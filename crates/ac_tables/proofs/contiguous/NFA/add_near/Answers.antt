-- What is known of the rows of an automaton is known of the one that has them.
use Rattle.std.proofs.Common.{sym, subst}
use Rattle.std.specs.Prelude.{IfSome}
use Rattle.ac_tables.specs.Contiguous.NearReads.{AreNearWithin}
use Rattle.ac_tables.proofs.contiguous.NearPlacesLemmas.{near-same-any}
use Rattle.ac_tables.proofs.contiguous.NFA.add_near.Goals as goal

pub returns-clause-within : goal.returns-clause-within
returns-clause-within c =
    subst (λ near. IfSome near (AreNearWithin c.set_near.new.self c.args.memory)) (sym c.set_near.ensures.near)
    (near-same-any c.args.self.now c.set_near.new.self c.args.memory c.in_ok-near.near c.set_near.ensures.made
    c.in_ok-near.ensures.within)
