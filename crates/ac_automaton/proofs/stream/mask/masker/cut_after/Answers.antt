-- Where nothing is live, all is final.
use Rattle.std.proofs.Common.{◌≡◌, ◌≢◌, [], List, ℕ, IsTrue, inl, inr, refl, sym, ◌∙◌, arith}
use Rattle.std.proofs.lemmas.Bool.{false≢true}
use Rattle.ac_input.specs.declared.search.Anchored.TheVariants.{No}
use Rattle.ac_automaton.specs.Stream.{NothingIsLive}
use Rattle.ac_automaton.proofs.lemmas.CursorLemmas.{list-none, reached-state}
use Rattle.ac_automaton.proofs.stream.StreamMaskLemmas.{idle-live}
use Rattle.ac_automaton.proofs.stream.mask.masker.cut_after.Given.{Over}
use Rattle.ac_automaton.proofs.stream.mask.masker.cut_after.Goals as goal
use Rattle.ac_automaton.proofs.stream.mask.masker.cut_after.Goals.{After-is_start, else-is_start-via-else-is_start, else-is_start-via-then-is_start+else-not-is_match}

pub is_start-requires : goal.is_start-requires
is_start-requires g c = reached-state (g.A.Automaton.Reaches c.args.automaton.now) No c.args.sid c.requires.reached

pub is_match-requires : goal.is_match-requires
is_match-requires g c = reached-state (g.A.Automaton.Reaches c.args.automaton.now) No c.args.sid c.requires.reached

-- what the tests say of a text that leads to the state
tested : (g : Over) (c : After-is_start g) (x : List ℕ) → g.A.Automaton.Reaches c.args.automaton.now No x c.args.sid
    → (IsTrue c.is_start.result → g.A.Automaton.matches c.args.automaton.now c.args.sid ≡ []
    → NothingIsLive (g.A.Automaton.built c.args.automaton.now).dictionary x)
    × ((IsTrue c.is_start.result → g.A.Automaton.matches c.args.automaton.now c.args.sid ≢ [])
    → ¬ NothingIsLive (g.A.Automaton.built c.args.automaton.now).dictionary x)
tested g c x reads =
    let a = c.args.automaton.now in
    idle-live (g.A.Automaton.built a) x (g.A.Automaton.matches a c.args.sid) c.requires.standard c.requires.filled
    (g.met.A.Automaton.tells a No x c.args.sid reads) (c.is_start.ensures.tells No x reads)

pub returns-then-not-is_match : goal.returns-then-not-is_match
returns-then-not-is_match g c = λ x reads.
    let none = list-none (g.A.Automaton.matches c.args.automaton.now c.args.sid)
    (λ some. false≢true (sym c.if-not-is_match.true ∙ c.is_match.ensures.1 some)) in
    inl (
      (tested g (goal.at.returns-then-not-is_match g c).After-is_start x reads).0 c.if-is_start.true none,
      refl,
    )

pub returns : goal.returns
returns g c = λ x reads.
    inr (
      (tested g (goal.at.returns g c).After-is_start x reads).1
          (λ start. elim c.else-is_start.branch [
            | else-is_start-via-then-is_start+else-not-is_match w ↦ w.is_match.ensures.0 w.if-not-is_match.false
            | else-is_start-via-else-is_start w ↦ absurd (false≢true (sym w.if-is_start.false ∙ start))
          ]),
      omega (arith, c.max.ensures, c.saturating_sub.ensures),
    )
