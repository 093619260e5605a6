-- The state that is pushed and linked in is one more state of the trie.
use Rattle.std.proofs.Common.{◌≡◌, ◌<◌, ◌+◌, ◌++◌, ◌∷◌, [], length, length-append, arith, rules, ap, sym, subst, ◌∙◌}
use Rattle.std.proofs.lemmas.Bool.Decides.{nat_tests}
use Rattle.std.proofs.lemmas.Grind.{common_steps}
use Rattle.ac_noncontiguous.specs.Trie.Tree.{depth, IsAdded}
use Rattle.ac_noncontiguous.proofs.trie.OwnLemmas.{ends-set}
use Rattle.ac_noncontiguous.proofs.trie.GrownLemmas.{tree-grown, added-grown, no-such}
use Rattle.ac_noncontiguous.proofs.trie.LinkedLemmas.{fresh, linked-child, linked-sibling, depth-le, few-set}
use Rattle.ac_noncontiguous.proofs.trie.Trie.add_child.Goals as goal
use Rattle.ac_noncontiguous.proofs.trie.Trie.add_child.Goals.{then-eq, else-eq}

pub overflow_add-state : goal.overflow_add-state
overflow_add-state c =
    let deep = depth-le c.args.self.now.states.items c.args.self.now.tree c.args.of (omega arith) c.requires.within in
    let was = ap (λ s. s.depth) c.state.ensures in
    omega arith

pub invariant_of-self-then-eq : goal.invariant_of-self-then-eq
invariant_of-self-then-eq c =
    let old = c.args.self.now.states.items in
    let pushed : c.push.new.self.items
    ≡ old ++ fresh c.args.of c.args.byte c.args.place.at (c.state.result.depth + 1) ∷ [] = search rules in
    let len = ap length pushed ∙ length-append old (fresh _ _ _ _ ∷ []) in
    let deeper : c.state.result.depth + 1 ≡ depth old c.args.of + 1 = ap (λ s. s.depth + 1) c.state.ensures in
    let last : c.must-id.result ≡ length old = omega arith in
    let none : c.args.place.before ≡ 0 = grind (arith, nat_tests) in
    let g = linked-child c.requires.within none pushed deeper c.as_usize.ensures.value last c.index_mut.ensures.value in
    record {
      tree = tree-grown g c.args.self.now.tree c.requires.within c.requires.place c.requires.missing;
      few = few-set _ _ _ (omega arith);
      counted = c.args.self.now.counted;
      paired = c.args.self.now.paired;
      placed = ends-set _ _ _ _ (omega arith) c.args.self.now.placed;
    }

pub invariant_of-self-else-eq : goal.invariant_of-self-else-eq
invariant_of-self-else-eq c =
    let old = c.args.self.now.states.items in
    let pushed : c.push.new.self.items
    ≡ old ++ fresh c.args.of c.args.byte c.args.place.at (c.state.result.depth + 1) ∷ [] = search rules in
    let len = ap length pushed ∙ length-append old (fresh _ _ _ _ ∷ []) in
    let deeper : c.state.result.depth + 1 ≡ depth old c.args.of + 1 = ap (λ s. s.depth + 1) c.state.ensures in
    let last : c.must-id.result ≡ length old = omega arith in
    let some : 0 < c.args.place.before = grind (arith, nat_tests) in
    let w = c.requires.place.way.next some in
    let g = linked-sibling c.requires.within w.0 some pushed deeper c.as_usize-else-eq.ensures.value last
    c.index_mut-else-eq.ensures.value in
    record {
      tree = tree-grown g c.args.self.now.tree c.requires.within c.requires.place c.requires.missing;
      few = few-set _ _ _ (omega arith);
      counted = c.args.self.now.counted;
      paired = c.args.self.now.paired;
      placed = ends-set _ _ _ _ (omega arith) c.args.self.now.placed;
    }

pub returns-clause-added : goal.returns-clause-added
returns-clause-added c =
    let old = c.args.self.now.states.items in
    let pushed : c.push.new.self.items
    ≡ old ++ fresh c.args.of c.args.byte c.args.place.at (c.state.result.depth + 1) ∷ [] = search rules in
    let deeper : c.state.result.depth + 1 ≡ depth old c.args.of + 1 = ap (λ s. s.depth + 1) c.state.ensures in
    let last : c.must-id.result ≡ length old = omega arith in
    elim c.if-eq.branch [
      | then-eq w ↦
          let none : c.args.place.before ≡ 0 = grind (arith, nat_tests) in
          let g = linked-child c.requires.within none pushed deeper w.as_usize.ensures.value last
          w.index_mut.ensures.value in
          let a = added-grown g last in
          subst (λ xs. IsAdded old xs c.args.of c.args.byte c.must-id.result) (sym (ap (λ t. t.states.items) w.self-is))
          a
      | else-eq w ↦
          let some : 0 < c.args.place.before = grind (arith, nat_tests) in
          let v = c.requires.place.way.next some in
          let g = linked-sibling c.requires.within v.0 some pushed deeper w.as_usize-else-eq.ensures.value last
          w.index_mut-else-eq.ensures.value in
          let a = added-grown g last in
          subst (λ xs. IsAdded old xs c.args.of c.args.byte c.must-id.result) (sym (ap (λ t. t.states.items) w.self-is))
          a
    ]

pub returns-then-len-ge-MOST_STATES-clause-refused : goal.returns-then-len-ge-MOST_STATES-clause-refused
returns-then-len-ge-MOST_STATES-clause-refused c =
    rw c.state_id_overflow.ensures (
      c.as_u64.ensures.value,
      omega (arith, c.as_u64.ensures.value),
      omega arith,
      no-such c.args.self.now.tree c.requires.within c.requires.place c.requires.missing,
    )

pub invariant_of-self : goal.invariant_of-self
invariant_of-self c = grind (arith, common_steps)
