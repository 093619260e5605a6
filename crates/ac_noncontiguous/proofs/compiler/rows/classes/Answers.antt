-- Each byte of a state, and its partner, is parted from all others, and no other byte is.
use Rattle.std.proofs.Common.{◌≡◌, ap, subst, ◌∙◌, ℕ, length, arith}
use Rattle.ac_noncontiguous.specs.Trie.Tree.{byte}
use Rattle.ac_noncontiguous.specs.Compiler.Layout.{AreStateEdges}
use Rattle.ac_noncontiguous.proofs.compiler.RowLemmas.{parted-more, parted-all}
use Rattle.ac_noncontiguous.proofs.nfa.ByteLemmas.{edges-more}
use Rattle.ac_noncontiguous.proofs.compiler.rows.classes.Goals as goal
use Rattle.std.specs.Prelude.{◌<◌}
use Rattle.ac_input.specs.Alphabet.Classes.{IsParted}
use Rattle.ac_input.specs.Same.{other}

pub loop-id-preserved : goal.loop-id-preserved
loop-id-preserved c =
    let trie = c.args.trie.now in
    let id = c.loop-id.id in
    let b = c.state-byte.result.byte in
    let o = c.other.result in
    let old = c.loop-id.set in
    let mid = c.set_apart.new.set in
    let new = c.set_apart-in-loop-id.new.set in
    let low : b ≡ byte trie.states.items id = ap (λ s. s.byte) c.state-byte.ensures
    ∙ ap (byte trie.states.items) c.must.ensures in
    record {
      parted = parted-more trie id b o old mid new c.loop-id.invariant.parted low (omega arith) c.other.ensures
          c.set_apart.ensures.parted c.set_apart.ensures.kept c.set_apart-in-loop-id.ensures.parted
          c.set_apart-in-loop-id.ensures.kept;
      edges = edges-more trie id b o old mid new c.loop-id.invariant.edges (omega arith) low c.other.ensures
          c.set_apart.ensures.edges c.set_apart-in-loop-id.ensures.edges;
    }

pub returns-clause-alone : goal.returns-clause-alone
returns-clause-alone c =
    let trie = c.args.trie.now in
    let some = trie.tree.start.0 in
    let all : c.loop-id.id ≡ length trie.states.items = omega (arith, c.len-id-end.ensures) in
    parted-all trie c.byte_classes.ensures
    (subst (λ n.
    ((c′ : ℕ) → 0 < c′ → c′ < n → (byte trie.states.items c′ < 256) × IsParted c.loop-id.set (byte trie.states.items c′)
    × IsParted c.loop-id.set (other trie.pairing (byte trie.states.items c′)))) all c.loop-id.invariant.parted)

pub returns-clause-made : goal.returns-clause-made
returns-clause-made c =
    let trie = c.args.trie.now in
    let some = trie.tree.start.0 in
    let all : c.loop-id.id ≡ length trie.states.items = omega (arith, c.len-id-end.ensures) in (
      c.loop-id.set,
      c.byte_classes.ensures,
      subst (λ n. AreStateEdges trie n c.loop-id.set) all c.loop-id.invariant.edges,
    )
