use Rattle.std.proofs.Common.{arith}
use Rattle.ac_automaton.proofs.lemmas.CursorLemmas.{advanced-none, reached-on}
use Rattle.ac_automaton.proofs.skip.ReadOnLemmas.{after-byte, reads-all}
use Rattle.ac_automaton.specs.Look.{is_between}
use Rattle.ac_tables.specs.Dfa.Reads.{dfa_built_as, IsDfaRead}
use Rattle.ac_tables.proofs.dfa.automaton.DFALookUp.read_until.Goals as goal

pub loop-read-init : goal.loop-read-init
loop-read-init c = let a = c.args.self.now in
    advanced-none (dfa_built_as a) (IsDfaRead a) c.args.anchored (is_between c.args.to) c.args.sid c.args.bytes.now
    c.args.steps.now

pub step-current-requires-clause-reached : goal.step-current-requires-clause-reached
step-current-requires-clause-reached c =
    reached-on (IsDfaRead c.args.self.now c.args.anchored) c.args.sid _ c.loop-read.current c.requires
    c.loop-read.invariant.reads

pub returns-then-has : goal.returns-then-has
returns-then-has c =
    (after-byte c.loop-read-test.true c.loop-read.invariant c.step-current.ensures.next c.step-current.ensures.cost
    c.has.ensures).0 c.if-has.true

pub loop-read-preserved : goal.loop-read-preserved
loop-read-preserved c =
    (after-byte c.loop-read-test.true c.loop-read.invariant c.step-current.ensures.next c.step-current.ensures.cost
    c.has.ensures).1 c.if-has.false

pub returns : goal.returns
returns c =
    let done = c.loop-read-test.false in
    reads-all (omega arith) (omega arith) c.loop-read.invariant
