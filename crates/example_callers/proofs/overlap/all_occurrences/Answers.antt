-- The occurrences collected are those of the listing.
use Rattle.std.proofs.Common.{ap, ◌∙◌}
use Rattle.std.proofs.lemmas.Iterator.{items_from_collect}
use Rattle.std.proofs.lemmas.Iterator.Consumers.{YieldsList-from_first}
use Rattle.std.proofs.lemmas.Result.{IfOk-weaker}
use Rattle.ac_input.specs.Input.{whole_of}
use Rattle.ac_automaton.specs.Automaton.{listing_in}
use Rattle.ac_automaton.specs.InMemory.Overlapping.OverlappingIter.{rest_of}
use Rattle.aho_corasick.specs.AhoCorasick.{as_built}
use Rattle.aho_corasick.proofs.lemmas.OverlapLemmas.{collected-listing}
use Rattle.example_callers.proofs.overlap.all_occurrences.Goals as goal

pub returns : goal.returns
returns c =
    let b = as_built c.args.ac.now in
    let x = c.args.text.now in
    let left = c.find_overlapping_iter.ensures.over.1 ∙ ap (listing_in b) c.new.ensures in
    let all = items_from_collect c.collect.result c.collect.ensures.ran
    (YieldsList-from_first (λ y. y) rest_of (listing_in b (whole_of x)) left) in
    IfOk-weaker c.collect.result _ _ (λ v is. collected-listing b x v.items is) all
