-- What is known after one more byte, and where reading on stops.
use Rattle.std.proofs.Common.{◌+◌, length, sym, subst, arith}
use Rattle.ac_input.specs.declared.search.Anchored.TheVariants.{No}
use Rattle.ac_automaton.specs.Look.{is_between, ReadsTo}
use Rattle.ac_automaton.proofs.lemmas.CursorLemmas.{HasAdvanced, advanced-none, reached-on}
use Rattle.ac_automaton.proofs.skip.ReadOnLemmas.{after-byte, reads-all}
use Rattle.ac_tables.specs.Contiguous.Reads.{contiguous_built_as, IsContiguousRead}
use Rattle.ac_tables.proofs.contiguous.NearLemmas.{near-fits}
use Rattle.ac_tables.proofs.contiguous.NFA.read_past.Goals as goal

pub number_of-number-requires : goal.number_of-number-requires
number_of-number-requires c = near-fits c.args.self.now c.args.near.now c.args.sid c.requires.held c.requires.reached

pub loop-read-init : goal.loop-read-init
loop-read-init c = let a = c.args.self.now in
    record {
      one = c.number_of-number.ensures.0;
      so_far =
          subst (λ sid. HasAdvanced (contiguous_built_as a) (IsContiguousRead a) No (is_between c.args.to) c.args.sid
          c.args.bytes.now 0 sid c.args.steps.now c.args.steps.now) (sym c.number_of-number.ensures.1)
          (advanced-none (contiguous_built_as a) (IsContiguousRead a) No (is_between c.args.to) c.args.sid
          c.args.bytes.now c.args.steps.now);
    }

pub step_near-number-requires-clause-reached : goal.step_near-number-requires-clause-reached
step_near-number-requires-clause-reached c =
    reached-on (IsContiguousRead c.args.self.now No) c.args.sid _ _ c.requires.reached
    c.loop-read.invariant.so_far.reads

pub returns-then-is_in : goal.returns-then-is_in
returns-then-is_in c =
    let a = c.args.self.now in
    subst (λ sid. ReadsTo (contiguous_built_as a) (IsContiguousRead a) No c.args.to c.args.sid c.args.bytes.now
    (record { sid = sid; taken = c.loop-read.read + 1 }) c.args.steps.now c.step_near-number.new.steps)
    (sym c.place_of.ensures)
    ((after-byte c.loop-read-test.true c.loop-read.invariant.so_far c.step_near-number.ensures.leads
    c.step_near-number.ensures.cost c.is_in.ensures).0 c.if-is_in.true)

pub loop-read-preserved : goal.loop-read-preserved
loop-read-preserved c =
    record {
      one = c.step_near-number.ensures.one;
      so_far = (after-byte c.loop-read-test.true c.loop-read.invariant.so_far c.step_near-number.ensures.leads
          c.step_near-number.ensures.cost c.is_in.ensures).1 c.if-is_in.false;
    }

pub returns : goal.returns
returns c =
    let a = c.args.self.now in
    let done = c.loop-read-test.false in
    subst (λ sid. ReadsTo (contiguous_built_as a) (IsContiguousRead a) No c.args.to c.args.sid c.args.bytes.now
    (record { sid = sid; taken = length c.args.bytes.now }) c.args.steps.now c.loop-read.steps)
    (sym c.place_of-2.ensures)
    (reads-all (omega arith) (omega arith) c.loop-read.invariant.so_far)
