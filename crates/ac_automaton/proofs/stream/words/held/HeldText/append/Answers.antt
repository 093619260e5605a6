-- The first bytes of a piece are held after the bytes held before.
use Rattle.std.proofs.Common.{◌-◌, length, nat_lt, sym, subst, arith}
use Rattle.std.specs.Prelude.{◌+◌, ◌<◌}
use Rattle.ac_input.specs.Number.{usize_max}
use Rattle.ac_automaton.specs.Stream.Devices.Buffer.{room_for}
use Rattle.ac_automaton.specs.Stream.WholeWords.Held.{AddsFront, text_of}
use Rattle.ac_automaton.specs.declared.stream.words.held.HeldText.TheInside.{Inside}
use Rattle.ac_automaton.proofs.stream.StreamPushLemmas.{not-empty}
use Rattle.ac_automaton.proofs.stream.words.held.HeldTextLemmas.{IsRight, come_to, grown_to, push-gave}
use Rattle.ac_automaton.proofs.stream.words.held.HeldText.append.Goals as goal
use Rattle.ac_automaton.proofs.stream.words.held.HeldText.append.Goals.{After-held}

-- what is kept then
abbrev after : After-held → Inside
after c =
    grown_to c.self.inside c.and-self-inside.result.items c.take-n.new.self
    (nat_lt (usize_max - c.self.inside.from) (length c.held.result.now))

-- it is right, and these bytes were added
pushed : (c : After-held)
    → IsRight (after c)
    × AddsFront c.self.inside.from (come_to c.self.inside) (come_to (after c)) c.args.piece.now c.take-n.result
pushed c =
    push-gave c.self.inside c.self.invariant c.and-self-inside.result.items c.held.result.now
    (not-empty c.args.piece.now c.requires.some)
    (subst (λ s. length (text_of s) < s.from + room_for s.keep) (sym c.self.view_is) c.requires.room)
    (record { many = c.take-n.ensures.many; took = c.take-n.ensures.took; paid = c.take-n.ensures.paid })
    c.held.ensures c.and-self-inside.ensures (omega arith)

-- the same, by the text as it was
added : (c : After-held) → AddsFront c.args.self.now.from c.args.self.now (come_to (after c)) c.args.piece.now c.take-n.result
added c =
    subst (λ s. AddsFront s.from s (come_to (after c)) c.args.piece.now c.take-n.result) c.self.view_is (pushed c).1

pub invariant_of-self : goal.invariant_of-self
invariant_of-self c = (pushed (goal.at.invariant_of-self c).After-held).0

pub returns-then-self-clause-takes : goal.returns-then-self-clause-takes
returns-then-self-clause-takes c =
    let d = (goal.at.returns-then-self-clause-takes c).After-held in
    (c.take-n.result, added d, (pushed d).0.uncountable c.if-self.true)

pub invariant_of-self-2 : goal.invariant_of-self-2
invariant_of-self-2 c = (pushed (goal.at.invariant_of-self-2 c).After-held).0

pub returns-clause-takes : goal.returns-clause-takes
returns-clause-takes c =
    let d = (goal.at.returns-clause-takes c).After-held in (added d, (pushed d).0.countable c.if-self.false)
