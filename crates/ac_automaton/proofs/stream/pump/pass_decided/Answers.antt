-- One item after another is passed, and then the text up to the cut.
use Rattle.std.proofs.Common.{arith}
use Rattle.std.proofs.lemmas.Grind.{common_steps}
use Rattle.std.proofs.lemmas.Result.{err_from_is_err_and}
use Rattle.ac_automaton.proofs.stream.PumpLemmas.{PassesItems-none, PassesItems-then, StopsPassing-then, cut-passed, cut-stopped, item-held, item-passed, item-refused, none-passed}
use Rattle.ac_automaton.proofs.stream.PlacedLemmas.{cut-placed}
use Rattle.ac_automaton.proofs.stream.SinkChainLemmas.{IsLawful}
use Rattle.ac_automaton.proofs.stream.StreamCountLemmas.{StreamCounts-none, StreamCounts-then}
use Rattle.ac_automaton.proofs.stream.pump.pass_decided.Given.{Over}
use Rattle.ac_automaton.proofs.stream.pump.pass_decided.Goals as goal

-- what a sink takes one after another, it takes
lawful : (g : Over) → IsLawful g.K.Sink.handling
lawful g = record { begins = g.met.K.Sink.begins; joins = g.met.K.Sink.joins; precedes = g.met.K.Sink.precedes }

pub loop-item-init : goal.loop-item-init
loop-item-init g c =
    record {
      passed = PassesItems-none (lawful g) (g.S.ItemSearch.progress c.args.stream.now) c.args.at
          (c.args.sink.now, c.args.writer.now) c.requires.placed;
      counted = StreamCounts-none (g.S.ItemSearch.progress c.args.stream.now) c.args.steps.now;
    }

pub between-before-requires : goal.between-before-requires
between-before-requires g c = record {
  held = λ e. rw c.start.ensures.value
      (item-held (g.S.ItemSearch.progress c.loop-item.stream) (g.S.ItemSearch.progress c.next_held.new.self)
      c.in-Some.item c.in-Some.ensures.goes.1 c.in-Some.ensures.finds c.loop-item.passed
      c.loop-item.invariant.passed.placed e).0;
}

pub returns-in_err-pass-clause-passes : goal.returns-in_err-pass-clause-passes
returns-in_err-pass-clause-passes g c =
    let p = err_from_is_err_and c.from_residual.result c.from_residual.ensures.1 in
    let t = g.S.ItemSearch.progress c.next_held.new.self in
    rw (p.1, p.2)
    (StopsPassing-then (lawful g) _ _ t _ _ _ _ _ c.loop-item.invariant.passed _
    (item-refused (lawful g) (g.S.ItemSearch.progress c.loop-item.stream) t
    c.in-Some.item c.in-Some.ensures.goes.1 c.in-Some.ensures.finds c.loop-item.passed
    c.loop-item.invariant.passed.placed _ _
    (rw c.start.ensures.value at c.between-before.ensures)
    (rw (c.start-in-Some.ensures.value, c.end.ensures.value) at c.between-matched.ensures)
    (c.loop-item.sink, c.loop-item.writer) (c.pass.new.self, c.pass.new.writer) _ c.in_err-pass.ensures.passes))

pub returns-in_err-pass-clause-goes : goal.returns-in_err-pass-clause-goes
returns-in_err-pass-clause-goes g c = (
  StreamCounts-then (g.S.ItemSearch.progress c.args.stream.now) (g.S.ItemSearch.progress c.loop-item.stream)
      (g.S.ItemSearch.progress c.next_held.new.self) c.args.steps.now c.loop-item.steps c.next_held.new.steps
      c.loop-item.invariant.counted c.in-Some.ensures.goes.0,
  c.in-Some.ensures.goes.1,
)

pub loop-item-preserved : goal.loop-item-preserved
loop-item-preserved g c =
    let t = g.S.ItemSearch.progress c.next_held.new.self in
    let found =
    item-passed (lawful g) (g.S.ItemSearch.progress c.loop-item.stream) t
    c.in-Some.item c.in-Some.ensures.goes.1 c.in-Some.ensures.finds c.loop-item.passed
    c.loop-item.invariant.passed.placed _ _
    (rw c.start.ensures.value at c.between-before.ensures)
    (rw (c.start-in-Some.ensures.value, c.end.ensures.value) at c.between-matched.ensures)
    (c.loop-item.sink, c.loop-item.writer) (c.pass.new.self, c.pass.new.writer) c.in_ok-pass.ensures.passes
    c.in_ok-pass.ensures.ready in
    record {
      passed = rw c.end-passed.ensures.value
          (PassesItems-then (lawful g) _ _ t _ _ _ _ _ c.loop-item.invariant.passed _ found.0);
      counted = StreamCounts-then (g.S.ItemSearch.progress c.args.stream.now)
          (g.S.ItemSearch.progress c.loop-item.stream) t
          c.args.steps.now c.loop-item.steps c.next_held.new.steps c.loop-item.invariant.counted
          c.in-Some.ensures.goes.0;
    }

pub returns-in_err-take-clause-passes : goal.returns-in_err-take-clause-passes
returns-in_err-take-clause-passes g c =
    let p = err_from_is_err_and c.from_residual-in_err-take.result c.from_residual-in_err-take.ensures.1 in
    let t = g.S.ItemSearch.progress c.next_held.new.self in
    let none = none-passed (lawful g) (g.S.ItemSearch.progress c.loop-item.stream) t c.loop-item.passed
    (c.loop-item.sink, c.loop-item.writer) c.loop-item.invariant.passed.placed c.in_default.ensures.goes.1
    c.in_default.ensures.finds in
    let passed = PassesItems-then (lawful g) _ _ t _ _ _ _ _ c.loop-item.invariant.passed _ none.0 in
    rw (p.1, p.2)
    (StopsPassing-then (lawful g) _ _ t _ _ _ _ _ passed _
    (cut-stopped (lawful g) t c.loop-item.passed c.cut-cut.result (c.loop-item.sink, c.loop-item.writer)
    (c.take.new.self, c.take.new.writer) _ none.0.placed c.cut-cut.ensures.cut c.between.ensures _
    c.in_err-take.ensures.takes))

pub returns-in_err-take-clause-goes : goal.returns-in_err-take-clause-goes
returns-in_err-take-clause-goes g c = (
  StreamCounts-then (g.S.ItemSearch.progress c.args.stream.now) (g.S.ItemSearch.progress c.loop-item.stream)
      (g.S.ItemSearch.progress c.next_held.new.self) c.args.steps.now c.loop-item.steps c.next_held.new.steps
      c.loop-item.invariant.counted c.in_default.ensures.goes.0,
  c.in_default.ensures.goes.1,
)

pub returns-clause-passes : goal.returns-clause-passes
returns-clause-passes g c =
    let t = g.S.ItemSearch.progress c.next_held.new.self in
    let none = none-passed (lawful g) (g.S.ItemSearch.progress c.loop-item.stream) t c.loop-item.passed
    (c.loop-item.sink, c.loop-item.writer) c.loop-item.invariant.passed.placed c.in_default.ensures.goes.1
    c.in_default.ensures.finds in
    let passed = PassesItems-then (lawful g) _ _ t _ _ _ _ _ c.loop-item.invariant.passed _ none.0 in
    let is = c.cut-cut.ensures.cut in (
      PassesItems-then (lawful g) _ _ t _ _ _ _ _ passed _
          (cut-passed (lawful g) t c.loop-item.passed c.cut-cut.result (c.loop-item.sink, c.loop-item.writer)
          (c.take.new.self, c.take.new.writer) _ none.0.placed is c.between.ensures c.in_ok-take.ensures.takes.0
          c.in_ok-take.ensures.ready),
      record { placed = cut-placed t c.loop-item.passed c.cut-cut.result none.0.placed is; cut = is; all = none.1 },
      c.in_ok-take.ensures.takes.1,
    )

pub returns-clause-goes : goal.returns-clause-goes
returns-clause-goes g c = (
  StreamCounts-then (g.S.ItemSearch.progress c.args.stream.now) (g.S.ItemSearch.progress c.loop-item.stream)
      (g.S.ItemSearch.progress c.next_held.new.self) c.args.steps.now c.loop-item.steps c.next_held.new.steps
      c.loop-item.invariant.counted c.in_default.ensures.goes.0,
  c.in_default.ensures.goes.1,
)

pub between-requires : goal.between-requires
between-requires g c = grind (arith, common_steps)

pub loop-item-smaller : goal.loop-item-smaller
loop-item-smaller g c = grind (arith, common_steps)

pub pass-requires : goal.pass-requires
pass-requires g c = grind (arith, common_steps)

pub between-matched-requires : goal.between-matched-requires
between-matched-requires g c = grind (arith, common_steps)
