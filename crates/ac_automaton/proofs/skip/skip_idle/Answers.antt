-- Reading on goes by the automaton's own loop, and over a run of bytes that leaves the search in the start.
use Rattle.std.proofs.Common.{◌+◌, refl, arith}
use Rattle.std.proofs.lemmas.List.{take_rest}
use Rattle.ac_automaton.specs.Look.{is_between}
use Rattle.ac_automaton.proofs.lemmas.CursorLemmas.{advanced-none, reached-on}
use Rattle.ac_automaton.proofs.skip.ReadOnLemmas.{advanced-idle, after-some, past-between, reads-all}
use Rattle.ac_automaton.proofs.skip.skip_idle.Goals as goal

pub loop-read-init : goal.loop-read-init
loop-read-init g c = (
  omega arith,
  advanced-none (g.A.LookUp.built c.args.automaton.now) (g.A.LookUp.Reaches c.args.automaton.now) c.args.anchored
      (is_between c.args.to) c.args.sid c.args.bytes.now c.args.steps.now,
)

pub read_some-stop-requires-clause-reached : goal.read_some-stop-requires-clause-reached
read_some-stop-requires-clause-reached g c =
    reached-on (g.A.LookUp.Reaches c.args.automaton.now c.args.anchored) c.args.sid _ c.loop-read.current
    c.requires.reached c.loop-read.invariant.1.reads

pub returns-then-has : goal.returns-then-has
returns-then-has g c =
    let a = c.args.automaton.now in
    (after-some g.A.LookUp a c.args.anchored c.args.to c.args.sid c.args.bytes.now c.loop-read.current _
    c.loop-read.read c.read_some-stop.result c.has.result _ _ _ (take_rest c.args.bytes.now c.loop-read.read)
    c.loop-read.invariant.0 c.read_some-stop.ensures c.loop-read.invariant.1 c.has.ensures).0 c.if-has.true

pub loop-read-preserved : goal.loop-read-preserved
loop-read-preserved g c =
    let a = c.args.automaton.now in
    let more =
    (after-some g.A.LookUp a c.args.anchored c.args.to c.args.sid c.args.bytes.now c.loop-read.current _
    c.loop-read.read c.read_some-stop.result c.has.result _ _ _ (take_rest c.args.bytes.now c.loop-read.read)
    c.loop-read.invariant.0 c.read_some-stop.ensures c.loop-read.invariant.1 c.has.ensures).1 c.if-has.false in
    advanced-idle c.pass-read.result (past-between c.args.to c.requires.before) c.requires.stays
    (λ k. (c.type_inv.bytes k).fits) (take_rest c.args.bytes.now (c.loop-read.read + c.read_some-stop.result.taken))
    more.0 c.pass-read.ensures more.1

pub returns : goal.returns
returns g c =
    let done = c.loop-read-test.false in
    reads-all refl (omega (arith, c.loop-read.invariant.0)) c.loop-read.invariant.1
