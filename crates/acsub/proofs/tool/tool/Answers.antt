-- Where something is said at status 0, the words ask for it.
use Rattle.std.proofs.Common.{inl, inr, ⊎_elim, map, subst}
use Rattle.std.specs.Prelude.{string_bytes}
use Rattle.acsub.specs.Args.Words.{Reads}
use Rattle.acsub.proofs.tool.tool.Goals as goal

pub returns-in-Ok-clause-quiet : goal.returns-in-Ok-clause-quiet
returns-in-Ok-clause-quiet g c = λ zero.
    ⊎_elim (λ same. inl same)
    (λ speaks. inr
    (c.in-Ok.asked, subst (Reads (map string_bytes c.args.words.now)) c.in-Ok.is c.read_words.ensures, speaks))
    (c.serve.ensures.quiet zero)
