-- One byte more is read, and reading on stops or goes on.
use Rattle.std.proofs.Common.{IsTrue, sym, ◌∙◌, arith}
use Rattle.std.proofs.lemmas.Grind.{common_steps}
use Rattle.std.proofs.lemmas.Bool.{false≢true}
use Rattle.std.proofs.lemmas.Option.{slice_get-get_or}
use Rattle.ac_automaton.proofs.lemmas.CursorLemmas.{advanced-cost, advanced-more, reached-on, reached-state}
use Rattle.ac_automaton.proofs.automaton.Automaton.advance.Goals as goal

pub next_state_counted-current-requires : goal.next_state_counted-current-requires
next_state_counted-current-requires g c =
    reached-on (g.Self.Automaton.Reaches c.args.self.now c.args.anchored) c.args.sid _ c.loop-read.current c.requires
    c.loop-read.invariant.reads

pub is_special-requires : goal.is_special-requires
is_special-requires g c =
    let R = g.Self.Automaton.Reaches c.args.self.now in
    let current =
    reached-on (R c.args.anchored) c.args.sid _ c.loop-read.current c.requires c.loop-read.invariant.reads in
    reached-state R c.args.anchored c.next_state_counted-current.result
    (reached-on (R c.args.anchored) c.loop-read.current _ c.next_state_counted-current.result current
    c.next_state_counted-current.ensures.next)

pub returns-then-is_special-clause-cost : goal.returns-then-is_special-clause-cost
returns-then-is_special-clause-cost g c =
    let a = c.args.self.now in
    let is = slice_get-get_or c.args.bytes.now c.loop-read.read 0 c.loop-read-test.true in
    advanced-cost (g.Self.Automaton.built a) (g.Self.Automaton.Reaches a) c.args.anchored (g.Self.Automaton.special a)
    c.args.sid c.args.bytes.now c.loop-read.read _ c.loop-read.current _ _ _ is c.loop-read.invariant
    c.next_state_counted-current.ensures.cost

pub loop-read-preserved : goal.loop-read-preserved
loop-read-preserved g c =
    let a = c.args.self.now in
    let is = slice_get-get_or c.args.bytes.now c.loop-read.read 0 c.loop-read-test.true in
    let plain : ¬ IsTrue (g.Self.Automaton.special a c.next_state_counted-current.result) =
    λ e. false≢true (sym (sym c.is_special.ensures ∙ c.if-is_special.false) ∙ e) in
    advanced-more (g.Self.Automaton.built a) (g.Self.Automaton.Reaches a) c.args.anchored (g.Self.Automaton.special a)
    c.args.sid c.args.bytes.now c.loop-read.read _ c.loop-read.current _ _ _ _ is c.loop-read.invariant
    c.next_state_counted-current.ensures.next c.next_state_counted-current.ensures.cost plain

pub returns-then-is_special-clause-goes : goal.returns-then-is_special-clause-goes
returns-then-is_special-clause-goes g c = grind (arith, common_steps)
