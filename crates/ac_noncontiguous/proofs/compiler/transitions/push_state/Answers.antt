-- A state gets the transitions to its only child, or those of its edges; the fail state gets none.
use Rattle.std.proofs.Common.{◌<◌, length, sym, subst, arith}
use Rattle.std.proofs.lemmas.List.{get_or_read}
use Rattle.std.proofs.lemmas.Result.{IfOk-weaker}
use Rattle.ac_noncontiguous.specs.Compiler.Layout.{HasAll, IsAppended}
use Rattle.ac_noncontiguous.proofs.compiler.ChildrenLemmas.{laid-children}
use Rattle.ac_noncontiguous.proofs.compiler.LayoutLemmas.{laid-edges, laid-fail}
use Rattle.ac_noncontiguous.proofs.compiler.OnlyLemmas.{laid-only}
use Rattle.ac_noncontiguous.proofs.compiler.transitions.push_state.Goals as goal

pub has_one_at_most-requires : goal.has_one_at_most-requires
has_one_at_most-requires c =
    let read = get_or_read c.args.numbering.now.at.items c.args.state c.index-of.result.now c.requires.within
    c.index-of.ensures 0 in
    omega (arith, c.requires.numbering.places.within c.args.state c.requires.within)

pub push_only-requires-clause-within : goal.push_only-requires-clause-within
push_only-requires-clause-within c =
    let read = get_or_read c.args.numbering.now.at.items c.args.state c.index-of.result.now c.requires.within
    c.index-of.ensures 0 in
    omega (arith, c.requires.numbering.places.within c.args.state c.requires.within)

pub push_children-requires-clause-within : goal.push_children-requires-clause-within
push_children-requires-clause-within c =
    let read = get_or_read c.args.numbering.now.at.items c.args.state c.index-of.result.now c.requires.within
    c.index-of.ensures 0 in
    omega (arith, c.requires.numbering.places.within c.args.state c.requires.within)

pub returns-then-unpaired : goal.returns-then-unpaired
returns-then-unpaired c =
    let read = get_or_read c.args.numbering.now.at.items c.args.state c.index-of.result.now c.requires.within
    c.index-of.ensures 0 in
    let part : ¬ HasAll c.args.numbering.now.start c.args.state = λ has. let all = c.has_all-all.ensures.yes has in
    let not = c.if-not-all.true in absurd (cc) in
    IfOk-weaker c.push_children.result _ _
    (λ _ h. laid-children (c.requires.unpaired c.if-unpaired.true) c.requires.numbering c.if-state-eq1.false part read h)
    c.push_children.ensures

pub returns-then-has_one_at_most : goal.returns-then-has_one_at_most
returns-then-has_one_at_most c =
    let read = get_or_read c.args.numbering.now.at.items c.args.state c.index-of.result.now c.requires.within
    c.index-of.ensures 0 in
    let within : c.index-of.result.now < length c.args.trie.now.states.items =
    omega (arith, c.requires.numbering.places.within c.args.state c.requires.within) in
    let part : ¬ HasAll c.args.numbering.now.start c.args.state = λ has. let all = c.has_all-all.ensures.yes has in
    let not = c.if-not-all-2.true in absurd (cc) in
    let one = c.has_one_at_most.ensures c.if-has_one_at_most.true in
    IfOk-weaker c.push_only.result _ _
    (λ _ items.
    subst (λ xs.
    IsAppended c.args.trie.now c.args.numbering.now c.args.back c.args.state c.args.transitions.now.items xs)
    (sym items.0)
    (laid-only c.requires.numbering c.if-state-eq1.false part within read one items.1))
    c.push_only.ensures

pub returns : goal.returns
returns c =
    IfOk-weaker c.push_edges.result _ _
    (λ _ h. laid-edges c.if-state-eq1.false c.has_all-all.ensures.yes c.has_all-all.ensures.no c.edges-edges.ensures h)
    c.push_edges.ensures

pub returns-then-state-eq1 : goal.returns-then-state-eq1
returns-then-state-eq1 c = laid-fail c.if-state-eq1.true c.requires.numbering
