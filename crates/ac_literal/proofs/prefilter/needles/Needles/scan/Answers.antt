use Rattle.ac_literal.specs.Prefilter.Needles.{is_needle}
use Rattle.ac_literal.proofs.prefilter.SpanLemmas.{none_in_span, first_in_span}
use Rattle.ac_literal.proofs.prefilter.needles.Needles.scan.Goals as goal

pub returns-in_default-clause-found : goal.returns-in_default-clause-found
returns-in_default-clause-found c =
    none_in_span (is_needle c.args.self.now) c.args.haystack.now c.requires.ordered c.requires.within c.of.ensures
    (c.in_default.ensures)

pub returns-clause-found : goal.returns-clause-found
returns-clause-found c =
    first_in_span (is_needle c.args.self.now) c.args.haystack.now c.requires.ordered c.requires.within c.of.ensures
    (c.in-Some.ensures)
