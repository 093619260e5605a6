-- The own patterns come first, and then a copy of the rest. No pattern is there twice, so the length of the list fits.
use Rattle.std.proofs.Common.{arith}
use Rattle.std.proofs.lemmas.Grind.{common_steps}
use Rattle.ac_noncontiguous.proofs.links.ListLemmas.{list-fits, listed-shared, listed-copied}
use Rattle.ac_noncontiguous.proofs.links.push_list.Goals as goal

pub overflow_cast-len : goal.overflow_cast-len
overflow_cast-len c =
    let a = c.in_ok-push_own.ensures in
    let fits = list-fits c.args.matches.now.items c.args.rest.now a.1 c.requires.above a.2
    c.in_ok-extend_from_within.ensures.items c.requires.inside in
    let counted = c.args.trie.now.counted in
    omega (arith, fits, counted, c.len-2.ensures, c.len-from.ensures)

pub returns : goal.returns
returns c =
    let a = c.in_ok-push_own.ensures in
    listed-copied a.1 a.2 c.in_ok-extend_from_within.ensures.items c.requires.inside (omega arith) (omega arith)

pub returns-then-len-from : goal.returns-then-len-from
returns-then-len-from c =
    let a = c.in_ok-push_own.ensures in
    listed-shared a.1 a.2 (omega arith) c.requires.inside

pub extend_from_within-requires-clause-in_bounds : goal.extend_from_within-requires-clause-in_bounds
extend_from_within-requires-clause-in_bounds c = grind (arith, common_steps)

pub overflow_sub-len : goal.overflow_sub-len
overflow_sub-len c = grind (arith, common_steps)
