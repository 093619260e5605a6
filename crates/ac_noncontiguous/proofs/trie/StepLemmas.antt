-- One step down the trie, to a child that is there or is added.
use Rattle.std.proofs.Common.{◌≡◌, ℕ, ◌<◌, List, length, refl, ◌∙◌, inl, arith}
use Rattle.ac_noncontiguous.specs.declared.trie.State.{State}
use Rattle.ac_noncontiguous.specs.Trie.Tree.{IsTree, IsChildPlace, Extends, byte}
use Rattle.ac_noncontiguous.specs.Trie.Entering.{IsChildStep}
use Rattle.ac_noncontiguous.specs.Compiler.Edges.{IsChildFor}
use Rattle.ac_noncontiguous.proofs.trie.TreeLemmas.{way-at}

-- a trie extends itself
pub extends-itself : {states : List State} → Extends states states
extends-itself = record { longer = omega arith; same = λ i within. (refl, refl, refl, refl) }

-- extension is transitive
pub extends-further : {a b c : List State} → Extends a b → Extends b c → Extends a c
extends-further g h =
    record {
      longer = omega (arith, g.longer, h.longer);
      same = λ i within.
          let s = g.same i within in
          let t = h.same i (omega (arith, g.longer)) in
          (t.0 ∙ s.0, t.1 ∙ s.1, t.2 ∙ s.2, t.3 ∙ s.3);
    }

-- a child that is known already is a step
pub step-known : {states : List State} {of low id : ℕ} → IsChildFor states of low id
    → IsChildStep states states of low id
step-known h = record { extends = extends-itself; child = h; added = inl refl }

-- a child that is found by walking along the children is a step
pub step-found : (states : List State) (of low before at : ℕ) → IsTree states → of < length states
    → IsChildPlace states of low before at → 0 < at → byte states at ≡ low → IsChildStep states states of low at
step-found states of low before at tree within place some same =
    let h = way-at tree within place.way some in
    record { extends = extends-itself; child = (some, h.0, h.1, same); added = inl refl }
