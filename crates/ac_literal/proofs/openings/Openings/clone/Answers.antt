-- A place is open to the copy where it is open.
use Rattle.std.proofs.Common.{◌∙◌, sym, subst}
use Rattle.ac_literal.specs.Openings.{CannotOpen}
use Rattle.ac_literal.proofs.grams.GramLemmas.{same-start}
use Rattle.ac_literal.proofs.openings.Openings.clone.Goals as goal
use Rattle.ac_literal.proofs.openings.Openings.clone.Goals.{in-Fronts, in-Grams+in_ok-clone-in-Grams}

pub returns : goal.returns
returns c m are = record {
  short = are.short;
  marks = λ text at opens. elim c.match-self.branch [
    | in-Fronts w ↦
        subst (λ way. ¬ CannotOpen way text at) (w.in-Fronts.is ∙ sym w.way'-is) (are.marks text at opens)
    | in-Grams+in_ok-clone-in-Grams w ↦
        let own = subst (λ way. ¬ CannotOpen way text at) w.in-Grams.is (are.marks text at opens) in
        subst (λ way. ¬ CannotOpen way text at) (sym w.way'-is)
        (λ cannot. own (λ may. cannot (same-start w.in_ok-clone-in-Grams.ensures may)))
  ];
}
