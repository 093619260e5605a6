-- How much of a text the matches of a walk cover, and what it costs to go over them.
use Rattle.std.proofs.Common.{◌≡◌, ℕ, ◌+◌, ◌-◌, ◌≤◌, List, [], ◌∷◌, length, ap, arith}
use Rattle.ac_input.specs.Occurrence.{Occurrence}
use Rattle.ac_input.specs.declared.steps.Steps.{Steps}
use Rattle.ac_input.specs.Input.{whole_of}
use Rattle.ac_automaton.specs.Automaton.{Built}
use Rattle.ac_automaton.specs.InMemory.Iter.{IsOnItsWay, Walk}
use Rattle.ac_automaton.specs.InMemory.Replace.{LieInOrder, matches_in}
use Rattle.ac_automaton.proofs.lemmas.ReplaceLemmas.{matches-lie}
use Rattle.example_callers.specs.Callers.{bytes_in}

-- occurrences in order after a place cover no more bytes than are left after it
pub lies-bytes : (patterns len at : ℕ) (os : List Occurrence) → at ≤ len → LieInOrder patterns len at os
    → at + bytes_in os ≤ len
lies-bytes patterns len at [] within lies = omega arith
lies-bytes patterns len at (o ∷ os) within lies =
    omega (arith, lies-bytes patterns len o.end os lies.3 lies.4, lies.1, lies.2)

-- the matches of a text cover no more bytes than it has
pub matches-bytes : (b : Built) (text : List ℕ) → bytes_in (matches_in b text) ≤ length text
matches-bytes b text =
    omega (
      arith,
      lies-bytes (length b.dictionary.patterns) (length text) 0 (matches_in b text) (omega arith) (matches-lie b text),
    )

-- the bytes that one more match covers
pub bytes-step : (os rest : List Occurrence) (o : Occurrence) → os ≡ o ∷ rest
    → bytes_in os ≡ (o.end - o.start) + bytes_in rest
bytes-step os rest o is = ap bytes_in is

-- A walk over the matches of a text, at any point, and how many look-ups it made.
pub record HasPassed (b : Built) (text : List ℕ) (begun now : Steps) (w : Walk) : Type 0 where
  pub built : w.built ≡ b
  pub asked : w.asked ≡ whole_of text
  pub way : IsOnItsWay w
  pub told : now.looked.value ≡ begun.looked.value + w.looked
