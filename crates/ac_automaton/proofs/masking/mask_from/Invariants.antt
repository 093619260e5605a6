-- What the walk has masked of the bytes that it has read.
use Rattle.std.proofs.Common.{◌≡◌, ℕ, ◌+◌, ◌-◌, ◌≤◌, false, List, ◌++◌, length, take, drop, None}
use Rattle.ac_input.specs.declared.search.Anchored.TheVariants.{No}
use Rattle.ac_automaton.specs.Ahead.{IsPaid}
use Rattle.ac_automaton.specs.InMemory.Find.Ahead.{IsAheadOf}
use Rattle.ac_automaton.specs.Masking.{IsMaskedStretch, masked_in}
use Rattle.ac_automaton.proofs.lemmas.CursorLemmas.{HasAdvanced}
use Rattle.ac_automaton.proofs.masking.mask_from.Given as goal

abbrev pub invariant-loop-read : goal.invariant-loop-read
invariant-loop-read g l = record {
  within : l.read ≤ length l.bytes - l.from;
  len : length l.bytes ≡ length l.fn.bytes;
  rest : drop (l.from + l.read) l.bytes ≡ drop (l.from + l.read) l.fn.bytes;
  has : IsPaid l.initial.ahead l.ahead l.steps
      (λ paid. HasAdvanced (g.A.Automaton.built l.automaton) (g.A.Automaton.Reaches l.automaton) No (λ next. false) l.fn.sid
      (drop l.from l.fn.bytes) l.read l.current l.initial.steps paid);
  ahead : IsAheadOf g.A.Automaton l.automaton None l.bytes (l.from + l.read) l.current l.ahead;
  last : IsMaskedStretch l.mask l.bytes (l.from + l.read) l.last;
  masked : (x : List ℕ) (base : ℕ) → g.A.Automaton.Reaches l.automaton No x l.fn.sid → length x ≡ base + l.from
      → take l.from l.fn.bytes ≡ drop base (masked_in (g.A.Automaton.built l.automaton) l.mask x)
      → take (l.from + l.read) l.bytes
      ≡ drop base (masked_in (g.A.Automaton.built l.automaton) l.mask (x ++ take l.read (drop l.from l.fn.bytes)));
}

abbrev pub decreases-loop-read : goal.decreases-loop-read
decreases-loop-read g l = length l.bytes - l.from - l.read
