-- Both walks return one list, of at most one match more than the text has bytes.
use Rattle.std.proofs.Common.{ap, inl, length, ◌∙◌, sym, arith}
use Rattle.std.proofs.lemmas.Iterator.Consumers.{YieldsList-from_first, count_from_yields_List}
use Rattle.ac_input.specs.Input.{whole_of}
use Rattle.ac_literal.specs.Packed.{matches_of}
use Rattle.ac_automaton.specs.Automaton.{walk_in}
use Rattle.ac_automaton.specs.InMemory.Iter.{left_of}
use Rattle.aho_corasick.specs.AhoCorasick.{as_built}
use Rattle.aho_corasick.proofs.lemmas.WalkLemmas.{matches-few}
use Rattle.example_callers.proofs.iterate.count_by_both.Goals as goal

pub count-found-requires-clause-fits : goal.count-found-requires-clause-fits
count-found-requires-clause-fits c =
    let b = as_built c.args.ac.now in
    let left = ap length (c.find_iter.ensures.over.1 ∙ ap (walk_in b) c.new.ensures) in
    let few = matches-few b c.args.text.now in
    inl (omega arith)

pub count-requires-clause-fits : goal.count-requires-clause-fits
count-requires-clause-fits c =
    let b = as_built c.args.ac.now in
    let alike = c.packed_walks_alike.ensures c.args.searcher.now b c.args.text.now (sym c.requires.same)
    (sym c.requires.kind) c.requires.unpaired in
    let left = ap length (c.find_iter-2.ensures ∙ alike) in
    let few = matches-few b c.args.text.now in
    inl (omega arith)

pub returns : goal.returns
returns c =
    let b = as_built c.args.ac.now in
    let alike = c.packed_walks_alike.ensures c.args.searcher.now b c.args.text.now (sym c.requires.same)
    (sym c.requires.kind) c.requires.unpaired in
    let left = c.find_iter.ensures.over.1 ∙ ap (walk_in b) c.new.ensures in
    let walked = count_from_yields_List c.find_iter.result c.count-found.result c.count-found.ensures.ran
    (YieldsList-from_first (λ y. y) left_of (walk_in b (whole_of c.args.text.now)) left) in
    let packed = count_from_yields_List c.find_iter-2.result c.count.result c.count.ensures.ran
    (YieldsList-from_first (λ y. y) (λ rest. rest) (matches_of c.args.searcher.now c.args.text.now)
    c.find_iter-2.ensures) in
    packed ∙ ap length alike ∙ sym walked
