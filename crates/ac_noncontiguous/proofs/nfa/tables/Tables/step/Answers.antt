use Rattle.std.proofs.Common.{◌+◌, sym, subst, arith}
use Rattle.ac_noncontiguous.specs.Nfa.{kept_of}
use Rattle.ac_noncontiguous.specs.Nfa.Lookups.{AreRisingIn, IsNextIn}
use Rattle.ac_noncontiguous.proofs.nfa.LookupLemmas.{kept-within, kept-span, kept-rises, leads-range}
use Rattle.ac_noncontiguous.proofs.nfa.tables.Tables.step.Goals as goal

pub index-requires : goal.index-requires
index-requires c = let k = kept-within c.requires in let e = c.as_usize-at.ensures.value in omega arith

pub index-requires-2 : goal.index-requires-2
index-requires-2 c = let k = kept-within c.requires in let e = c.as_usize-at.ensures.value in omega arith

pub find-requires-clause-ordered : goal.find-requires-clause-ordered
find-requires-clause-ordered c =
    (kept-span c.requires c.as_usize-at.ensures.value c.index.ensures c.index-2.ensures).2

pub find-requires-clause-within : goal.find-requires-clause-within
find-requires-clause-within c = (kept-span c.requires c.as_usize-at.ensures.value c.index.ensures c.index-2.ensures).3

pub find-requires-clause-rising : goal.find-requires-clause-rising
find-requires-clause-rising c =
    let span = kept-span c.requires c.as_usize-at.ensures.value c.index.ensures c.index-2.ensures in
    subst (λ a. AreRisingIn c.args.self.now.transitions.items a c.index-2.result.now.transitions) span.0
    (subst (λ b. AreRisingIn c.args.self.now.transitions.items
    (kept_of c.args.self.now.states.items c.args.sid).transitions b) span.1 (kept-rises c.requires))

pub returns : goal.returns
returns c =
    let span = kept-span c.requires c.as_usize-at.ensures.value c.index.ensures c.index-2.ensures in
    leads-range c.ranges.byte.fits
    (subst (λ a. IsNextIn c.args.self.now.transitions.items a
    (kept_of c.args.self.now.states.items (c.args.sid + 1)).transitions c.args.byte c.find.result) (sym span.0)
    (subst (λ b. IsNextIn c.args.self.now.transitions.items c.index.result.now.transitions b c.args.byte c.find.result)
    (sym span.1) c.find.ensures))
