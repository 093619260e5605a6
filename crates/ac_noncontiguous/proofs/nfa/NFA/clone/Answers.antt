use Rattle.std.proofs.Common.{sym, subst, ◌∙◌, List, ℕ}
use Rattle.ac_input.specs.Alphabet.Classes.{AreByteClasses}
use Rattle.ac_input.specs.Dictionary.{dictionary_of}
use Rattle.ac_input.specs.Limits.{IsWithinLimits}
use Rattle.ac_noncontiguous.specs.Nfa.{AreTables}
use Rattle.ac_noncontiguous.specs.Nfa.Reads.{dictionary}
use Rattle.ac_noncontiguous.proofs.lemmas.CopyLemmas.{opened-copied, opened-same, held-same}
use Rattle.ac_noncontiguous.proofs.nfa.ReadCallLemmas.{same-tables}
use Rattle.ac_noncontiguous.proofs.nfa.NFA.clone.Goals as goal

pub from_parts-requires-clause-parts : goal.from_parts-requires-clause-parts
from_parts-requires-clause-parts c =
    let a = c.args.self.now in
    let same = sym c.in_ok-lens.ensures in
    record {
      within = subst (λ patterns. ∥ IsWithinLimits (dictionary_of patterns a.pairing a.kind) ∥₁) same a.within;
      stands =
          subst (λ patterns.
          ∥ ((text : ℕ → List ℕ) × AreTables (dictionary_of patterns a.pairing a.kind) text c.in_ok-tables.tables) ∥₁)
          same
          (same-tables c.in_ok-tables.ensures a.stands);
      classed =
          subst (λ patterns.
          ∥ AreByteClasses (dictionary_of patterns a.pairing a.kind) c.in_ok-tables.tables.classes ∥₁) same
          (subst (λ classes. ∥ AreByteClasses (dictionary a) classes ∥₁) (sym c.in_ok-tables.ensures.classes)
          a.classed);
      held = held-same a.pairing a.kind c.in_ok-lens.ensures (c.in_ok-prefilter.ensures ∙ c.as_ref.ensures.value)
          a.held;
      paired = a.paired;
    }

pub from_parts-requires-clause-opened : goal.from_parts-requires-clause-opened
from_parts-requires-clause-opened c = let a = c.args.self.now in
    opened-same c.in_ok-openings.openings a.pairing a.kind c.in_ok-lens.ensures
    (opened-copied _ _ _ c.in_ok-openings.ensures a.opened)
