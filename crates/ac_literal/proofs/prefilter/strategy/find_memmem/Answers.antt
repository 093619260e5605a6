use Rattle.ac_literal.proofs.prefilter.MemmemLemmas.{made-there, memmem_found, memmem_none}
use Rattle.ac_literal.proofs.prefilter.strategy.find_memmem.Goals as goal

pub returns-in_default : goal.returns-in_default
returns-in_default c =
    λ m memmem.
    memmem_none m c.args.needle.now c.args.haystack.now c.args.span c.of.result.now c.requires.ordered c.requires.within
    c.of.ensures memmem c.in_default.ensures

pub returns : goal.returns
returns c =
    λ m memmem.
    memmem_found m c.args.needle.now c.args.haystack.now c.args.span c.of.result.now c.requires.ordered
    c.requires.within c.of.ensures memmem c.in-Some.ensures
    (made-there c.new.ensures c.must.ensures c.needle.ensures)
