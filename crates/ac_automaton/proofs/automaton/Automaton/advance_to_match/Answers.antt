-- One byte more is read, and reading on stops or goes on.
use Rattle.std.proofs.Common.{IsTrue, sym, ◌∙◌}
use Rattle.std.proofs.lemmas.Bool.{false≢true}
use Rattle.std.proofs.lemmas.Option.{slice_get-get_or}
use Rattle.ac_automaton.specs.Automaton.{is_matching}
use Rattle.ac_automaton.proofs.lemmas.CursorLemmas.{advanced-cost, advanced-more, advances-there, reached-on, reached-state}
use Rattle.ac_automaton.proofs.automaton.PassLemmas.{matching-some, some-matching}
use Rattle.ac_automaton.proofs.automaton.Automaton.advance_to_match.Goals as goal

pub next_state_counted-current-requires : goal.next_state_counted-current-requires
next_state_counted-current-requires g c =
    reached-on (g.Self.Automaton.Reaches c.args.self.now c.args.anchored) c.args.sid _ c.loop-read.current c.requires
    c.loop-read.invariant.reads

pub is_match-requires : goal.is_match-requires
is_match-requires g c =
    let R = g.Self.Automaton.Reaches c.args.self.now in
    let current =
    reached-on (R c.args.anchored) c.args.sid _ c.loop-read.current c.requires c.loop-read.invariant.reads in
    reached-state R c.args.anchored c.next_state_counted-current.result
    (reached-on (R c.args.anchored) c.loop-read.current _ c.next_state_counted-current.result current
    c.next_state_counted-current.ensures.next)

pub returns-then-is_match-clause-cost : goal.returns-then-is_match-clause-cost
returns-then-is_match-clause-cost g c =
    let a = c.args.self.now in
    let is = slice_get-get_or c.args.bytes.now c.loop-read.read 0 c.loop-read-test.true in
    advanced-cost (g.Self.Automaton.built a) (g.Self.Automaton.Reaches a) c.args.anchored
    (is_matching (g.Self.Automaton.matches a)) c.args.sid c.args.bytes.now c.loop-read.read _ c.loop-read.current _ _ _
    is c.loop-read.invariant c.next_state_counted-current.ensures.cost

pub loop-read-preserved : goal.loop-read-preserved
loop-read-preserved g c =
    let a = c.args.self.now in
    let is = slice_get-get_or c.args.bytes.now c.loop-read.read 0 c.loop-read-test.true in
    let plain : ¬ IsTrue (is_matching (g.Self.Automaton.matches a) c.next_state_counted-current.result) = λ e.
    false≢true
    (sym c.if-is_match.false ∙ c.is_match.ensures.1
    (some-matching (g.Self.Automaton.matches a c.next_state_counted-current.result) e)) in
    advanced-more (g.Self.Automaton.built a) (g.Self.Automaton.Reaches a) c.args.anchored
    (is_matching (g.Self.Automaton.matches a)) c.args.sid c.args.bytes.now c.loop-read.read _ c.loop-read.current _ _ _
    _ is c.loop-read.invariant c.next_state_counted-current.ensures.next c.next_state_counted-current.ensures.cost plain

pub returns-then-is_match-clause-goes : goal.returns-then-is_match-clause-goes
returns-then-is_match-clause-goes g c =
    let a = c.args.self.now in
    let is = slice_get-get_or c.args.bytes.now c.loop-read.read 0 c.loop-read-test.true in
    advances-there (g.Self.Automaton.built a) (g.Self.Automaton.Reaches a) c.args.anchored
    (is_matching (g.Self.Automaton.matches a)) c.args.sid c.args.bytes.now c.loop-read.read _ c.loop-read.current
    c.next_state_counted-current.result _ _ is c.loop-read-test.true c.loop-read.invariant
    c.next_state_counted-current.ensures.next
    (matching-some (g.Self.Automaton.matches a c.next_state_counted-current.result)
    (c.is_match.ensures.0 c.if-is_match.true))
