-- The next occurrence is the next of the state's list, or the first that ends later.
use Rattle.std.proofs.Common.{subst, sym, arith}
use Rattle.ac_input.specs.declared.search.Anchored.TheVariants.{No}
use Rattle.ac_automaton.specs.Stream.Overlapping.Walk.{IsAheadFor}
use Rattle.ac_automaton.proofs.in_memory.overlapping.OverlappingAheadLemmas.{settles-none}
use Rattle.ac_automaton.proofs.stream.StreamListingLemmas.{gives-next, listed-there, lists-none, lists-there}
use Rattle.ac_automaton.proofs.stream.overlapping.search.next_listed.Goals as goal

pub returns-then-place-clause-lists : goal.returns-then-place-clause-lists
returns-then-place-clause-lists g c = (
  c.args.steps.now,
  settles-none c.args.ahead.now c.args.steps.now,
  λ s is.
      let a = c.args.automaton.now in
      let given = c.give.ensures in
      gives-next c.give.result given.0 c.args.steps.now
      (g.met.A.Automaton.tells a No) is given.1 given.2 given.3 given.4,
)

pub returns-then-place-clause-ahead : goal.returns-then-place-clause-ahead
returns-then-place-clause-ahead g c =
    subst (λ there. IsAheadFor g.A.Automaton c.args.automaton.now c.args.held.now there c.args.ahead.now)
    (sym c.give.ensures.2) c.requires.ahead

pub give-requires-then-there : goal.give-requires-then-there
give-requires-then-there g c =
    let a = c.args.automaton.now in
    let is = c.requires.stands.1 in
    let reads = c.read_on-there.ensures.reads in (
      (
        c.args.held.now,
        (
          _,
          listed-there is (reads.2 _ is),
        ),
      ),
      c.if-there.true,
    )

pub returns-then-there-clause-lists : goal.returns-then-there-clause-lists
returns-then-there-clause-lists g c =
    let a = c.args.automaton.now in
    let given = c.give-then-there.ensures in
    let reads = c.read_on-there.ensures.reads in (
      reads.0,
      reads.1,
      λ s is.
          let on = reads.2 s is in
          lists-there _ is.stands.course on c.if-there.true given.1
          (gives-next c.give-then-there.result given.0 reads.0
          (g.met.A.Automaton.tells a No)
          (listed-there is on) given.1 given.2 given.3 given.4),
    )

pub returns-then-there-clause-ahead : goal.returns-then-there-clause-ahead
returns-then-there-clause-ahead g c =
    subst (λ there. IsAheadFor g.A.Automaton c.args.automaton.now c.args.held.now there c.read_on-there.new.ahead)
    (sym c.give-then-there.ensures.2) c.read_on-there.ensures.ahead

pub returns-clause-lists : goal.returns-clause-lists
returns-clause-lists g c =
    let a = c.args.automaton.now in
    let reads = c.read_on-there.ensures.reads in (
      reads.0,
      reads.1,
      λ s is. lists-none (g.A.Automaton.Reaches a No) (g.A.Automaton.matches a) s c.args.place.now
          c.read_on-there.result _ reads.0 is.stands.course (reads.2 s is) (omega (arith, c.if-there.false)),
    )
