-- One byte more is read, and reading on stops or goes on.
use Rattle.std.proofs.Common.{arith}
use Rattle.ac_automaton.specs.Look.{is_between}
use Rattle.ac_automaton.proofs.lemmas.CursorLemmas.{advanced-none, reached-on}
use Rattle.ac_automaton.proofs.skip.ReadOnLemmas.{after-byte, reads-all}
use Rattle.ac_automaton.proofs.look.LookUp.read_until.Goals as goal

pub loop-read-init : goal.loop-read-init
loop-read-init g c = let a = c.args.self.now in
    advanced-none (g.Self.LookUp.built a) (g.Self.LookUp.Reaches a) c.args.anchored (is_between c.args.to) c.args.sid
    c.args.bytes.now c.args.steps.now

pub look_up-current-requires : goal.look_up-current-requires
look_up-current-requires g c =
    reached-on (g.Self.LookUp.Reaches c.args.self.now c.args.anchored) c.args.sid _ c.loop-read.current c.requires
    c.loop-read.invariant.reads

pub returns-then-has : goal.returns-then-has
returns-then-has g c =
    (after-byte c.loop-read-test.true c.loop-read.invariant c.look_up-current.ensures.next
    c.look_up-current.ensures.cost c.has.ensures).0 c.if-has.true

pub loop-read-preserved : goal.loop-read-preserved
loop-read-preserved g c =
    (after-byte c.loop-read-test.true c.loop-read.invariant c.look_up-current.ensures.next
    c.look_up-current.ensures.cost c.has.ensures).1 c.if-has.false

pub returns : goal.returns
returns g c =
    let done = c.loop-read-test.false in
    reads-all (omega arith) (omega arith) c.loop-read.invariant
