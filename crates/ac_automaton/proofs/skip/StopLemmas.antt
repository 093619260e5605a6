-- The numbers of the states that match, and where a search stops that reads on to a state between two numbers.
use Rattle.std.proofs.Common.{◌≡◌, ◌≢◌, ⊎_elim, ℕ, ◌<◌, ◌≤◌, false, IsTrue, List, [], Option, None, Some, ◌∙◌, arith}
use Rattle.std.specs.Prelude.{nat_le}
use Rattle.std.proofs.lemmas.Bool.{cases_lt, leb-true, le-leb}
use Rattle.ac_input.specs.Number.{StateID}
use Rattle.ac_input.specs.declared.search.Anchored.{Anchored}
use Rattle.ac_input.specs.declared.search.Anchored.TheVariants.{No}
use Rattle.ac_input.specs.Candidate.{Filter}
use Rattle.ac_input.specs.Dictionary.{IsLive}
use Rattle.ac_automaton.specs.Automaton.{IsReached, IsState, Advances, is_matching}
use Rattle.ac_automaton.specs.Skip.{last_special_of}
use Rattle.ac_automaton.specs.Look.{is_between}
use Rattle.ac_automaton.specs.declared.automaton.Advance.{Advance}
use Rattle.ac_automaton.specs.declared.look.Between.{Between}
use Rattle.ac_automaton.specs.declared.look.LookUp.{Ghosts}
use Rattle.ac_automaton.proofs.automaton.PassLemmas.{matching-some, some-matching}
use Rattle.ac_automaton.proofs.lemmas.CursorLemmas.{reached-state}
use Rattle.ac_automaton.proofs.skip.IdleLemmas.{advances-alike}
use Rattle.ac_automaton.proofs.skip.ReadOnLemmas.{between}

-- The states that match have the numbers from the first to the greatest; a number before the first is the dead state's.
pub record AreMatching {S : Type 0} (A : Ghosts S) (automaton : S) (first greatest : ℕ) : Type 0 where
  pub some : (sid : StateID) → IsState (A.Reaches automaton) sid → first ≤ sid → sid ≤ greatest
      → A.matches automaton sid ≢ []
  pub within : (sid : StateID) → IsState (A.Reaches automaton) sid → A.matches automaton sid ≢ []
      → (first ≤ sid) × (sid ≤ greatest)
  pub dead : (text : List ℕ) (sid : StateID) → A.Reaches automaton No text sid → sid < first
      → IsLive (A.built automaton).dictionary false text None

-- ---- where a search stops

-- Stopping at a number from the first to the greatest that matches is stopping at a state that matches.
pub between-matching : {S : Type 0} (A : Ghosts S) (automaton : S) (first greatest : ℕ) (two : Between)
    (anchored : Anchored) (sid : StateID) (bytes : List ℕ) (stop : Advance)
    → AreMatching A automaton first greatest → two.first ≡ first → two.last ≡ greatest
    → IsReached (A.Reaches automaton anchored) sid
    → Advances (A.Reaches automaton anchored) (is_between two) sid bytes stop
    → Advances (A.Reaches automaton anchored) (is_matching (A.matches automaton)) sid bytes stop
between-matching A automaton first greatest two anchored sid bytes stop are from to reached =
    advances-alike (is_matching (A.matches automaton))
    reached (λ i there.
    let state = reached-state (A.Reaches automaton) anchored i there in (
      (λ e. let w = (between {two = two} {i = i}).0 e in
          matching-some (A.matches automaton i) (are.some i state (omega (arith, w.0, from)) (omega (arith, w.1, to)))),
      (λ e. let m = are.within i state (some-matching (A.matches automaton i) e) in
          (between {two = two} {i = i}).1 (omega (arith, m.0, from), omega (arith, m.1, to))),
    ))

-- Stopping at a number up to the last special one is stopping at a special state.
pub between-special : (Reaches : List ℕ → StateID → Type 0) (last : ℕ) (two : Between) (sid : StateID) (bytes : List ℕ)
    (stop : Advance)
    → two.first ≡ 0 → two.last ≡ last → IsReached Reaches sid
    → Advances Reaches (is_between two) sid bytes stop → Advances Reaches (λ i. nat_le i last) sid bytes stop
between-special Reaches last two sid bytes stop from to reached =
    advances-alike (λ i. nat_le i last) reached (λ i there. (
      (λ e. let w = (between {two = two} {i = i}).0 e in le-leb i last (omega (arith, w.1, to))),
      (λ e. let le = leb-true i last e in (between {two = two} {i = i}).1 (omega (arith, from), omega (arith, le, to))),
    ))

-- A live state at which nothing matches is not between two numbers of which the last is at most the greatest that
-- matches.
pub quiet : {S : Type 0} (A : Ghosts S) (automaton : S) (first greatest : ℕ) (two : Between) (sid : StateID)
    (text : List ℕ)
    → AreMatching A automaton first greatest → two.last ≤ greatest → A.Reaches automaton No text sid
    → A.matches automaton sid ≡ []
    → ¬ IsLive (A.built automaton).dictionary false text None → ¬ IsTrue (is_between two sid)
quiet A automaton first greatest two sid text are below reads none alive e =
    let w = (between {two = two} {i = sid}).0 e in
    ⊎_elim
    (λ (early : sid < first). alive (are.dead text sid reads early))
    (λ (late : first ≤ sid). are.some sid ∣ (No, text, reads) ∣₁ late (omega (arith, w.1, below)) none)
    (cases_lt sid first)

-- ---- up to which number a search stops

-- A search whose last stop is before the start stops last at the greatest state that matches.
abbrev pub StopsBefore : StateID → ℕ → StateID → Type 0
StopsBefore start last greatest = last < start → last ≡ greatest

-- The last special number is past the last that matches only where a prefilter is held; then the starts are special.
pub special-below : (held : Option Filter) (start start_anchored greatest special last : ℕ)
    → start ≤ start_anchored → special ≡ last_special_of held start_anchored greatest → last ≡ special
    → StopsBefore start last greatest
special-below None start start_anchored greatest special last ordered at is lt = is ∙ at
special-below (Some f) start start_anchored greatest special last ordered at is lt =
    absurd (omega (arith, at, is, ordered, lt))
