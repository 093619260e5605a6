use Rattle.ac_literal.specs.Packed.{search_kind}
use Rattle.ac_literal.proofs.packed.OnlyLemmas.{needle-best, needle-none}
use Rattle.ac_literal.proofs.prefilter.MemmemLemmas.{made-there}
use Rattle.ac_literal.proofs.packed.needle.find_needle.Goals as goal

pub returns-in_default : goal.returns-in_default
returns-in_default c =
    λ kind. needle-none c.requires.ordered c.requires.within c.of.ensures c.requires.full c.in_default.ensures
    (search_kind kind)

pub returns : goal.returns
returns c =
    λ kind. needle-best c.requires.ordered c.requires.within c.of.ensures c.requires.full c.in-Some.ensures
    (made-there c.new.ensures c.must.ensures c.needle.ensures) (search_kind kind)
