-- What the byte splits has it.
use Rattle.std.proofs.Common.{Contains, refl, sym, subst}
use Rattle.std.proofs.lemmas.Bool.{false≢true}
use Rattle.ac_input.proofs.lemmas.RuleOrderLemmas.{Contains-between}
use Rattle.acsub.proofs.rules.text.has_byte.Goals as goal

pub returns-in-Some : goal.returns-in-Some
returns-in-Some c =
    let (split, before) = c.in-Some.ensures.some in
    (λ yes. subst (λ t. Contains t c.args.byte) (sym split) (Contains-between _ _), λ has. refl)

pub returns-in-None : goal.returns-in-None
returns-in-None c = (λ yes. absurd (false≢true yes), λ has. absurd (c.in-None.ensures.none has))
