-- How the counts of a stream's search add up.
use Rattle.std.proofs.Common.{◌+◌, sym, ap, ◌∙◌, add_assoc, add-zero}
use Rattle.ac_input.specs.declared.steps.Steps.{Steps}
use Rattle.ac_automaton.specs.Stream.{CountsNothing, Sequence, StreamCounts, StreamProgress}

-- nothing was done yet
pub StreamCounts-none : {q : Sequence} (s : StreamProgress q) (steps : Steps) → StreamCounts s s steps steps
StreamCounts-none s steps = (
  0,
  0,
  0,
  record { looked = sym (add-zero _); scanned = sym (add-zero _); moved = sym (add-zero _) },
  sym (add-zero _),
  sym (add-zero _),
  sym (add-zero _),
)

-- nothing was counted in between
pub StreamCounts-nothing : {q : Sequence} {s t : StreamProgress q} (steps : Steps) → CountsNothing s t
    → StreamCounts s t steps steps
StreamCounts-nothing steps none = (
  0,
  0,
  0,
  record { looked = sym (add-zero _); scanned = sym (add-zero _); moved = sym (add-zero _) },
  none.looked ∙ sym (add-zero _),
  none.scanned ∙ sym (add-zero _),
  none.moved ∙ sym (add-zero _),
)

-- the counts of two steps in turn add up
pub StreamCounts-then : {q : Sequence} (s t u : StreamProgress q) (before between after : Steps)
    → StreamCounts s t before between → StreamCounts t u between after → StreamCounts s u before after
StreamCounts-then s t u before between after a b = (
  a.0 + b.0,
  a.1 + b.1,
  a.2 + b.2,
  record {
    looked = b.3.looked ∙ ap (λ n. n + b.0) a.3.looked ∙ add_assoc _ a.0 b.0;
    scanned = b.3.scanned ∙ ap (λ n. n + b.1) a.3.scanned ∙ add_assoc _ a.1 b.1;
    moved = b.3.moved ∙ ap (λ n. n + b.2) a.3.moved ∙ add_assoc _ a.2 b.2;
  },
  b.4 ∙ ap (λ n. n + b.0) a.4 ∙ add_assoc s.looked a.0 b.0,
  b.5 ∙ ap (λ n. n + b.1) a.5 ∙ add_assoc s.scanned a.1 b.1,
  b.6 ∙ ap (λ n. n + b.2) a.6 ∙ add_assoc s.moved a.2 b.2,
)
