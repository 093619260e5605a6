-- The first bytes of a piece are held after the bytes held before.
use Rattle.std.proofs.Common.{◌-◌, length, nat_lt, take, ap, subst, sym, ◌∙◌, arith}
use Rattle.std.specs.Prelude.{◌+◌, ◌<◌}
use Rattle.ac_input.specs.Number.{usize_max}
use Rattle.ac_automaton.specs.Stream.{IsSearched, read_by, room_of, Picks}
use Rattle.ac_automaton.specs.Stream.Push.{TakesBytes, TakesFront}
use Rattle.ac_automaton.specs.declared.stream.search.StreamSearch.TheInside.{Inside}
use Rattle.ac_automaton.proofs.stream.StreamAheadLemmas.{IsKept, forgotten-kept, taken-longer}
use Rattle.ac_automaton.proofs.stream.StreamPushLemmas.{HasPushed, not-empty, push-gave}
use Rattle.ac_automaton.proofs.stream.StreamSearchLemmas.{come_by, grown_to}
use Rattle.ac_automaton.proofs.stream.search.StreamSearch.append.Given.{Over}
use Rattle.ac_automaton.proofs.stream.search.StreamSearch.append.Goals as goal
use Rattle.ac_automaton.proofs.stream.search.StreamSearch.append.Goals.{After-held-2}

-- what the search keeps, what was read ahead of it left aside
abbrev after : (g : Over) → After-held-2 g → Inside g.row.A.Denot
after g c =
    grown_to c.self.inside c.and-self-inside.result.items c.take-n.new.self
    (nat_lt (usize_max - c.self.inside.progress.from) (length c.held-2.result.now))

-- what the push took
pushed : (g : Over) (c : After-held-2 g)
    → HasPushed g.A.Automaton c.self.inside (after g c) c.args.piece.now c.take-n.result
pushed g c =
    push-gave g.A.Automaton c.self.inside c.and-self-inside.result.items c.held-2.result.now c.self.invariant (ap
    (λ t. t.closed) c.self.view_is ∙ c.requires.unclosed)
    (not-empty c.args.piece.now c.requires.some) (subst IsSearched (sym c.self.view_is) c.requires.searched)
    (subst (λ s. length (read_by s) < s.from + room_of Picks s.built) (sym c.self.view_is) c.requires.room)
    (record { many = c.take-n.ensures.many; took = c.take-n.ensures.took; paid = c.take-n.ensures.paid })
    c.held-2.ensures c.and-self-inside.ensures (omega arith)

-- what the search keeps is right
kept : (g : Over) (c : After-held-2 g) → IsKept g.A.Automaton (record (after g c) { ahead = c.forget.new.self })
kept g c =
    let i = c.self.inside in
    let long = taken-longer i.buffer c.take-n.new.self (take c.take-n.result c.args.piece.now) c.take-n.ensures.took in
    forgotten-kept g.A.Automaton i c.and-self-inside.result.items i.progress.from c.take-n.new.self
    (nat_lt (usize_max - i.progress.from) (length c.held-2.result.now)) (length c.held.result.now) c.forget.new.self
    c.self.invariant (subst IsSearched (sym c.self.view_is) c.requires.searched) (pushed g c).right c.forget.ensures
    (omega (arith, long, ap length c.held.ensures))

-- it took these bytes
taken : (g : Over) (c : After-held-2 g)
    → TakesBytes c.args.self.now (come_by g.A.Automaton (after g c)) (take c.take-n.result c.args.piece.now)
taken g c =
    subst (λ s. TakesBytes s (come_by g.A.Automaton (after g c)) (take c.take-n.result c.args.piece.now)) c.self.view_is
    (pushed g c).taken

pub invariant_of-self : goal.invariant_of-self
invariant_of-self g c = kept g (goal.at.invariant_of-self g c).After-held-2

pub returns-then-self-clause-pushes : goal.returns-then-self-clause-pushes
returns-then-self-clause-pushes g c =
    let d = (goal.at.returns-then-self-clause-pushes g c).After-held-2 in
    (c.take-n.result, taken g d, (pushed g d).right.uncountable c.if-self.true)

pub returns-then-self-clause-kept : goal.returns-then-self-clause-kept
returns-then-self-clause-kept g c = (kept g (goal.at.returns-then-self-clause-kept g c).After-held-2).0

pub invariant_of-self-2 : goal.invariant_of-self-2
invariant_of-self-2 g c = kept g (goal.at.invariant_of-self-2 g c).After-held-2

pub returns-clause-pushes : goal.returns-clause-pushes
returns-clause-pushes g c =
    let d = (goal.at.returns-clause-pushes g c).After-held-2 in (
      taken g d,
      subst (λ s. TakesFront (IsSearched s) s (come_by g.A.Automaton (after g d)) c.args.piece.now c.take-n.result)
          c.self.view_is (pushed g d).front,
      (pushed g d).right.countable c.if-self.false,
    )

pub returns-clause-kept : goal.returns-clause-kept
returns-clause-kept g c = (kept g (goal.at.returns-clause-kept g c).After-held-2).0
