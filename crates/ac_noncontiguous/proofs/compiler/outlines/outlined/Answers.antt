-- A state's outline is read from the numbering, the links and the trie.
use Rattle.std.proofs.Common.{◌≡◌, ℕ, ◌<◌, length, slice_index, slice_index_or, ap, subst, ◌∙◌, arith}
use Rattle.std.proofs.lemmas.List.{get_or_read}
use Rattle.ac_noncontiguous.specs.Trie.Tree.{depth}
use Rattle.ac_noncontiguous.specs.Compiler.Numbering.{IsNumbering}
use Rattle.ac_noncontiguous.specs.Compiler.Assembly.{IsFailureOf}
use Rattle.ac_noncontiguous.specs.declared.compiler.numbering.Numbering.{Numbering}
use Rattle.ac_noncontiguous.proofs.compiler.outlines.outlined.Goals as goal

-- the trie state that is read for a state
read : (states : ℕ) (n : Numbering) (j id : ℕ) → IsNumbering states n → j < length n.at.items
    → id ≡ slice_index_or n.at.items j id → (id ≡ slice_index n.at.items j) × (id < states)
read states n j id numbering within at =
    let is : id ≡ slice_index n.at.items j = get_or_read n.at.items j id within at 0 in
    (is, omega (arith, is, numbering.places.within j within))

pub failure-requires-clause-within : goal.failure-requires-clause-within
failure-requires-clause-within c =
    let id = read _ _ _ _ c.requires.numbering c.requires.within c.index-id.ensures in
    omega (arith, id.1, c.requires.numbering.numbers.counted)

pub state-requires : goal.state-requires
state-requires c = (read _ _ _ _ c.requires.numbering c.requires.within c.index-id.ensures).1

pub returns : goal.returns
returns c =
    let states = c.args.trie.now.states.items in
    let id = read _ _ _ _ c.requires.numbering c.requires.within c.index-id.ensures in
    record {
      flat = λ low. absurd (omega arith);
      deep = λ high. ap (λ s. s.depth) c.state.ensures ∙ ap (depth states) id.0;
      fails = λ high. subst (λ i. IsFailureOf c.args.numbering.now c.args.links.now i c.failure.result) id.0
          c.failure.ensures;
    }
