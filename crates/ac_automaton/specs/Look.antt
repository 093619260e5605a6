-- Reading on over bytes, to the first state between two numbers.
use Rattle.std.specs.Prelude.{◌≡◌, ℕ, ◌<◌, ◌&&◌, nat_le, Bool, false, List, [], ◌∷◌, take}
use Rattle.ac_input.specs.Number.{StateID}
use Rattle.ac_input.specs.declared.search.Anchored.{Anchored}
use Rattle.ac_input.specs.declared.steps.Steps.{Steps}
use Rattle.ac_automaton.specs.Automaton.{Built, Advances, IsReadCost, Leads}
use Rattle.ac_automaton.specs.Starters.{is_starter}
use Rattle.ac_automaton.specs.declared.automaton.Advance.{Advance}
use Rattle.ac_automaton.specs.declared.look.Between.{Between}
use Rattle.ac_automaton.specs.declared.starters.Starters.{Starters}

-- whether a state's number lies between two, both included
abbrev pub is_between : Between → ℕ → Bool
is_between two sid = nat_le two.first sid && nat_le sid two.last

-- Reading on stops at the first state whose number lies between two, or after the last byte; and its cost.
pub record ReadsTo (b : Built) (Reaches : Anchored → List ℕ → StateID → Type 0) (anchored : Anchored) (two : Between)
    (sid : StateID) (bytes : List ℕ) (stop : Advance) (before after : Steps) : Type 0 where
  pub goes : Advances (Reaches anchored) (is_between two) sid bytes stop
  pub cost : IsReadCost b Reaches anchored sid (take stop.taken bytes) before after

-- each byte that is no starter leads from the start to itself
abbrev pub StaysBut : (List ℕ → StateID → Type 0) → Starters → StateID → Type 0
StaysBut Reaches starters start =
    (byte : ℕ) → byte < 256 → is_starter starters byte ≡ false → Leads Reaches start (byte ∷ []) start
