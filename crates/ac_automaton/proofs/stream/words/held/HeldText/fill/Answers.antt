-- The bytes of a read are held after the bytes held before.
use Rattle.std.proofs.lemmas.Grind.{common_steps}
use Rattle.std.proofs.Common.{[], ◌-◌, length, nat_lt, subst, arith}
use Rattle.std.proofs.lemmas.List.{take_rest}
use Rattle.ac_input.specs.Number.{usize_max}
use Rattle.ac_automaton.specs.Stream.WholeWords.Held.{Grows}
use Rattle.ac_automaton.specs.declared.stream.words.held.HeldText.TheInside.{Inside}
use Rattle.ac_automaton.proofs.stream.words.held.HeldTextLemmas.{IsRight, come_to, fill-failed, fill-gave, grown_to}
use Rattle.ac_automaton.proofs.stream.words.held.HeldText.fill.Given.{Over}
use Rattle.ac_automaton.proofs.stream.words.held.HeldText.fill.Goals as goal
use Rattle.ac_automaton.proofs.stream.words.held.HeldText.fill.Goals.{After-and-self-inside-2}

-- after a failed read
failed : (g : Over) (c : goal.After-self-1 g)
    → IsRight (grown_to c.self.inside c.and-self-inside.result.items c.fill.new.self c.self.inside.over)
    × Grows c.self.inside.from (come_to c.self.inside)
    (come_to (grown_to c.self.inside c.and-self-inside.result.items c.fill.new.self c.self.inside.over)) []
failed g c =
    fill-failed c.self.inside c.self.invariant c.and-self-inside.result.items c.in-Err.ensures.gave.1 c.in-Err.ensures.paid
    c.and-self-inside.ensures

pub invariant_of-self : goal.invariant_of-self
invariant_of-self g c = (failed g c).0

pub returns-in-Err-clause-read : goal.returns-in-Err-clause-read
returns-in-Err-clause-read g c = (
  subst (λ s. Grows s.from s
      (come_to (grown_to c.self.inside c.and-self-inside.result.items c.fill.new.self c.self.inside.over)) []) c.self.view_is
      (failed g c).1,
  c.in-Err.ensures.gave.0,
)

-- what is kept after some bytes were read
abbrev after : (g : Over) → After-and-self-inside-2 g → Inside
after g c =
    grown_to c.self.inside c.and-self-inside-2.result.items c.fill.new.self
    (nat_lt (usize_max - c.self.inside.from) (length c.held-held.result.now))

-- it is right, and these bytes were added
gave : (g : Over) (c : After-and-self-inside-2 g)
    → IsRight (after g c) × Grows c.self.inside.from (come_to c.self.inside) (come_to (after g c)) c.in-Ok.ensures.gave.piece
gave g c =
    fill-gave c.self.inside c.self.invariant c.and-self-inside-2.result.items c.held-held.result.now c.in-Ok.ensures.gave
    c.in-Ok.ensures.paid c.held-held.ensures (rw take_rest at c.and-self-inside-2.ensures) (omega arith)

-- the same, by the text as it was
added : (g : Over) (c : After-and-self-inside-2 g)
    → Grows c.args.self.now.from c.args.self.now (come_to (after g c)) c.in-Ok.ensures.gave.piece
added g c =
    subst (λ s. Grows s.from s (come_to (after g c)) c.in-Ok.ensures.gave.piece) c.self.view_is (gave g c).1

pub invariant_of-self-then-self : goal.invariant_of-self-then-self
invariant_of-self-then-self g c = (gave g (goal.at.invariant_of-self-then-self g c).After-and-self-inside-2).0

pub returns-then-self-clause-read : goal.returns-then-self-clause-read
returns-then-self-clause-read g c =
    let d = (goal.at.returns-then-self-clause-read g c).After-and-self-inside-2 in
    (c.in-Ok.ensures.gave.piece, added g d, c.in-Ok.ensures.gave.read, (gave g d).0.uncountable c.if-self.true)

pub invariant_of-self-2 : goal.invariant_of-self-2
invariant_of-self-2 g c = (gave g (goal.at.invariant_of-self-2 g c).After-and-self-inside-2).0

pub returns-clause-read : goal.returns-clause-read
returns-clause-read g c =
    let d = (goal.at.returns-clause-read g c).After-and-self-inside-2 in (
      c.in-Ok.ensures.gave.piece,
      added g d,
      c.in-Ok.ensures.gave.read,
      c.in-Ok.ensures.gave.count,
      (gave g d).0.countable c.if-self.false,
    )

pub fill-requires-clause-room : goal.fill-requires-clause-room
fill-requires-clause-room g c = grind (arith, common_steps)

pub fill-requires-clause-open : goal.fill-requires-clause-open
fill-requires-clause-open g c = grind (arith, common_steps)

pub returns-in-Err-clause-still : goal.returns-in-Err-clause-still
returns-in-Err-clause-still g c = grind (arith, common_steps)

pub overflow_sub-held : goal.overflow_sub-held
overflow_sub-held g c = grind (arith, common_steps)

pub slice_bounds-and-count : goal.slice_bounds-and-count
slice_bounds-and-count g c = grind (arith, common_steps)

pub slice_bounds-and-start : goal.slice_bounds-and-start
slice_bounds-and-start g c = grind (arith, common_steps)

pub slice_bounds-and-end-2 : goal.slice_bounds-and-end-2
slice_bounds-and-end-2 g c = grind (arith, common_steps)

pub overflow_sub-self : goal.overflow_sub-self
overflow_sub-self g c = grind (arith, common_steps)

pub returns-then-self-clause-still : goal.returns-then-self-clause-still
returns-then-self-clause-still g c = grind (arith, common_steps)

pub returns-clause-still : goal.returns-clause-still
returns-clause-still g c = grind (arith, common_steps)
