-- The byte that was stripped is a CR at the end.
use Rattle.std.proofs.Common.{Some, inl}
use Rattle.std.proofs.lemmas.Bool.Decides.{Decides-eqb}
use Rattle.std.proofs.lemmas.Slice.Eq.{strip_suffix_is}
use Rattle.acsub.proofs.rules.text.without_return.Goals as goal

pub returns-in-Some : goal.returns-in-Some
returns-in-Some c = inl (strip_suffix_is Decides-eqb c.args.written.now _ (Some c.in-Some.line) c.in-Some.ensures.cases)
