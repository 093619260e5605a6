-- The pattern is in the bucket, and so are its partners.
use Rattle.std.proofs.Common.{refl}
use Rattle.ac_literal.proofs.openings.OpeningLemmas.{has-both, keeps-twice}
use Rattle.ac_literal.proofs.packed.TeddyLemmas.{keeps-near}
use Rattle.ac_literal.proofs.openings.fronts.add.Goals as goal

pub returns-clause-own : goal.returns-clause-own
returns-clause-own c =
    let near = keeps-near c.add-2.ensures.kept (keeps-near c.add.ensures.kept c.requires.near) in
    has-both refl near c.requires.long c.partners.ensures c.add.ensures.own c.add-2.ensures.kept c.add-2.ensures.own

pub returns-clause-kept : goal.returns-clause-kept
returns-clause-kept c = keeps-twice c.add.ensures.kept c.add-2.ensures.kept
