-- The occurrences collected are those of the listing.
use Rattle.std.proofs.lemmas.Iterator.{items_from_collect}
use Rattle.std.proofs.lemmas.Iterator.Consumers.{YieldsList-from_first}
use Rattle.std.proofs.lemmas.Result.{IfOk-weaker}
use Rattle.ac_input.specs.Input.{whole_of}
use Rattle.ac_automaton.specs.Automaton.{listing_in}
use Rattle.ac_automaton.specs.InMemory.Overlapping.OverlappingIter.{rest_of}
use Rattle.aho_corasick.proofs.lemmas.OverlapLemmas.{collected-listing, left-listing}
use Rattle.example_callers.proofs.generic_overlap.all_occurrences.Goals as goal

pub returns : goal.returns
returns g c =
    let b = g.A.Automaton.built c.args.automaton.now in
    let x = c.args.text.now in
    let left = left-listing b (g.A.Automaton.supports c.args.automaton.now) x _ _ _
    c.try_find_overlapping_iter.ensures.answer c.unwrap.ensures c.new.ensures in
    let all = items_from_collect c.collect.result c.collect.ensures.ran
    (YieldsList-from_first (λ y. y) rest_of (listing_in b (whole_of x)) left) in
    IfOk-weaker c.collect.result _ _ (λ v is. collected-listing b x v.items is) all
