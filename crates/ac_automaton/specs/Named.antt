-- An automaton over named states: what its numbers stand for, and what follows for its calls.
--
-- A number of an automaton stands for a state of the definitions: a text of canonical bytes, or the dead state. How the
-- number is made differs between automata; what follows from it doesn't. So an automaton proves three things of its
-- own: for which states its numbers stand, that the list and the tests of a number are those of its state, and that one
-- look-up is one step. The lemmas are in NamedLemmas, and those of automata that follow failures in LinkedLemmas.
use Rattle.std.specs.Prelude.{◌≡◌, ◌≢◌, ◌↔◌, ℕ, ◌+◌, ◌<◌, ◌≤◌, Bool, true, false, IsTrue, map, List, [], ◌∷◌, ◌++◌, length, Option, Some, None}
use Rattle.ac_input.specs.declared.search.Anchored.{Anchored}
use Rattle.ac_input.specs.declared.steps.Steps.{Steps}
use Rattle.ac_input.specs.Dictionary.{Dictionary, BeginsEntered}
use Rattle.ac_input.specs.Input.{is_anchored}
use Rattle.ac_input.specs.Laws.LiveLaws.{canonical}
use Rattle.ac_input.specs.States.{LeadsTo, FailsTo}
use Rattle.ac_input.specs.Steps.{Done}
use Rattle.ac_input.specs.Tells.{Tells}
use Rattle.ac_automaton.specs.Automaton.{Built, IsSpecial}

-- The text for which each number stands, none for the dead state; and which numbers a search of either anchoring may
-- reach.
pub record Naming : Type 0 where
  pub text : ℕ → Option (List ℕ)
  pub met : Bool → ℕ → Bool

-- a text leads from a start to the state for which the number stands
pub record IsNamed (m : Dictionary) (names : Naming) (anchored : Bool) (text : List ℕ) (sid : ℕ) : Type 0 where
  pub met : IsTrue (names.met anchored sid)
  pub leads : LeadsTo m anchored text (names.text sid)

-- a property holds of every naming by which the automaton is laid out, if a search of this anchoring may reach the
-- number
abbrev pub OfNames : (Naming → Type 0) → Bool → ℕ → (Naming → Type 0) → Type 0
OfNames Fits anchored sid P = (names : Naming) → Fits names → IsTrue (names.met anchored sid) → P names

-- ---- one look-up

-- A byte leads from the state of one number to that of another; from the dead state to itself.
pub record IsStep (m : Dictionary) (names : Naming) (anchored : Bool) (sid byte next : ℕ) : Type 0 where
  pub met : IsTrue (names.met anchored next)
  pub dead : names.text sid ≡ None → names.text next ≡ None
  pub leads : (text : List ℕ) → names.text sid ≡ Some text → LeadsTo m anchored (text ++ byte ∷ []) (names.text next)

-- how many bytes a state has; the dead one has none
abbrev pub text_len : Option (List ℕ) → ℕ
text_len None = 0
text_len (Some text) = length text

-- At least one state was looked at, after `done` for the same byte. In total these are at most two more than the bytes
-- given up.
abbrev pub IsLooked : ℕ → ℕ → ℕ → Steps → Steps → Type 0
IsLooked done bytes next before after =
    (looks : ℕ) × Done looks 0 0 before after × (1 ≤ looks) × (done + looks + next ≤ bytes + 2)

-- A byte leads from one number to another, and this is the cost of the look-up, after this many looks for the same
-- byte.
abbrev pub IsPaidStep : Dictionary → Naming → Bool → ℕ → ℕ → ℕ → ℕ → Steps → Steps → Type 0
IsPaidStep m names anchored done sid byte next before after =
    IsStep m names anchored sid byte next
    × IsLooked done (text_len (names.text sid)) (text_len (names.text next)) before after

-- ---- the start of a search

-- the number stands for the empty text, and a search of this anchoring may reach it
pub record IsFirst (names : Naming) (anchored : Bool) (sid : ℕ) : Type 0 where
  pub met : IsTrue (names.met anchored sid)
  pub empty : names.text sid ≡ Some []

-- ---- what a search reads

-- An automaton over named states: what it is built as, which namings fit it, the patterns that match at a number, and
-- the tests whether a number is a start and whether it is special.
pub record NamedStates : Type 1 where
  pub built : Built
  pub Fits : Naming → Type 0
  pub matches : ℕ → List ℕ
  pub starts : ℕ → Bool
  pub special : ℕ → Bool

-- A search reaches a number by a text: the text leads to the state for which the number stands, under some naming of
-- the automaton.
-- The number's list and tests are those of that state.
pub record IsReadBy (states : NamedStates) (anchored : Anchored) (text : List ℕ) (sid : ℕ) : Type 0 where
  pub reached : ∥
      ((names : Naming) × states.Fits names × IsNamed states.built.dictionary names (is_anchored anchored) text sid) ∥₁
  pub tells : Tells states.built.dictionary anchored text (states.matches sid)
  pub stops : IsTrue (states.special sid)
      ↔ IsSpecial states.built (states.matches sid) (states.starts sid) anchored text

-- ---- automata that follow failures

-- the number that stands for no state: a byte that leads nowhere leads to it
abbrev pub nowhere : ℕ
nowhere = 1

-- Where a byte leads from a number without a look at its failure: to the state that is one byte longer, or else
-- nowhere. From the unanchored start it leads where the byte alone leads, and from the dead state to itself.
pub record IsEdgeBy (m : Dictionary) (names : Naming) (start sid byte next : ℕ) : Type 0 where
  pub dead : names.text sid ≡ None
      → IsTrue (names.met true next) × IsTrue (names.met false next) × (next ≢ nowhere) × (names.text next ≡ None)
  pub child : (text : List ℕ) → names.text sid ≡ Some text → BeginsEntered m (text ++ byte ∷ [])
      → IsTrue (names.met true next) × IsTrue (names.met false next) × (next ≢ nowhere)
      × (names.text next ≡ Some (text ++ canonical m.pairing byte ∷ []))
  pub none : (text : List ℕ) → names.text sid ≡ Some text → sid ≢ start → ¬ BeginsEntered m (text ++ byte ∷ [])
      → next ≡ nowhere
  pub back : (text : List ℕ) → names.text sid ≡ Some text → sid ≡ start → ¬ BeginsEntered m (text ++ byte ∷ [])
      → IsTrue (names.met false next) × (next ≢ nowhere) × (text_len (names.text next) ≡ 0)
      × LeadsTo m false (text ++ byte ∷ []) (names.text next)

-- The failure of a number stands for the failure of its text; unanchored searches may reach it.
pub record IsFailureBy (m : Dictionary) (names : Naming) (sid fail : ℕ) : Type 0 where
  pub met : IsTrue (names.met false fail)
  pub fails : (text : List ℕ) → names.text sid ≡ Some text → FailsTo m text (names.text fail)

-- The numbers of an automaton stand for texts of canonical bytes that begin entered patterns. Of those that unanchored
-- searches
-- reach, only the unanchored start stands for the empty text. Anchored searches don't reach it, and no search reaches
-- `nowhere`.
pub record AreNumbers (m : Dictionary) (names : Naming) (start : ℕ) : Type 0 where
  pub apart : (anchored : Bool) (sid : ℕ) → IsTrue (names.met anchored sid) → sid ≢ nowhere
  pub unanchored : names.met true start ≡ false
  pub only : (sid : ℕ) → IsTrue (names.met false sid) → names.text sid ≡ Some [] → sid ≡ start
  pub begin : (anchored : Bool) (sid : ℕ) (text : List ℕ) → IsTrue (names.met anchored sid) → names.text sid ≡ Some text
      → BeginsEntered m text × (map (canonical m.pairing) text ≡ text)

-- The edges and failures of an automaton are right: to which number each byte leads from a number, and to which a
-- number fails.
pub record AreLinked (m : Dictionary) (names : Naming) (start : ℕ) (edge : ℕ → ℕ → ℕ) (fail : ℕ → ℕ) : Type 0 where
  pub numbers : AreNumbers m names start
  pub edges : (anchored : Bool) (sid byte : ℕ) → IsTrue (names.met anchored sid) → byte < 256
      → IsEdgeBy m names start sid byte (edge sid byte)
  pub failures : (sid : ℕ) → IsTrue (names.met false sid) → IsFailureBy m names sid (fail sid)

-- ---- bytes that a search in the start may pass over
