-- Each byte leads to the trie state's child for it, or to the number given for no child.
use Rattle.std.proofs.Common.{◌≡◌, ◌<◌, ◌∙◌, sym, subst, arith, slice_index, length}
use Rattle.std.proofs.lemmas.List.{get_or_read}
use Rattle.ac_noncontiguous.specs.Compiler.Edges.{missing, IsEdgeTo}
use Rattle.ac_noncontiguous.proofs.compiler.EdgeLemmas.{edge-target, edge-dead, missing-start, missing-other}
use Rattle.ac_noncontiguous.proofs.compiler.edges.edges.Goals as goal
use Rattle.ac_noncontiguous.proofs.compiler.edges.edges.Goals.{then-state-as_usize, else-state-as_usize}

pub returns-then-state-eq0 : goal.returns-then-state-eq0
returns-then-state-eq0 c b small =
    subst (λ i. IsEdgeTo c.args.trie.now c.args.numbering.now c.args.back i b (slice_index c.filled.result b))
    (sym c.if-state-eq0.true)
    (edge-dead c.requires.numbering (c.filled.ensures b small))

pub targets-requires-clause-within : goal.targets-requires-clause-within
targets-requires-clause-within c =
    let read =
    get_or_read c.args.numbering.now.at.items c.args.state c.index.result.now c.requires.within c.index.ensures 0 in
    omega (arith, c.requires.numbering.places.within c.args.state c.requires.within)

pub returns : goal.returns
returns c b small =
    let n = c.requires.numbering in
    let of =
    get_or_read c.args.numbering.now.at.items c.args.state c.index.result.now c.requires.within c.index.ensures 0 in
    let is_start = c.as_usize.ensures.value in
    let other : c.if-state-as_usize.other ≡ missing c.args.numbering.now.start c.args.back c.args.state =
    elim c.if-state-as_usize.branch [
      | then-state-as_usize w ↦ missing-start (w.if-state-as_usize.true ∙ is_start) w.other-is
      | else-state-as_usize w ↦
          missing-other _ (λ same. w.if-state-as_usize.false (same ∙ sym is_start)) (w.other-is ∙ w.must-other.ensures)
    ] in
    let within : c.if-state-as_usize.other < length c.args.numbering.now.at.items =
    elim c.if-state-as_usize.branch [
      | then-state-as_usize w ↦ omega (arith, c.requires.back, w.other-is)
      | else-state-as_usize w ↦ omega (arith, n.places.starts.1, w.other-is, w.must-other.ensures)
    ] in
    edge-target n within (λ _. of) (λ _. other) (omega arith) small (c.for_both.ensures b small) c.targets.ensures
