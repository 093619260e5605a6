-- All that is decided is passed before each read, and the rest at the end.
use Rattle.std.proofs.Common.{◌≡◌, ◌++◌, ap, refl, subst, sym, arith}
use Rattle.std.proofs.lemmas.Grind.{common_steps}
use Rattle.std.proofs.lemmas.Result.{err_from_is_err_and}
use Rattle.ac_automaton.specs.Stream.{StreamCounts, StreamProgress}
use Rattle.ac_automaton.proofs.stream.devices.MovedLemmas.{still-open}
use Rattle.ac_automaton.proofs.stream.PlacedLemmas.{given-closed, less-left, nothing-read, piece-none, piece-some}
use Rattle.ac_automaton.proofs.stream.PumpReadLemmas.{closing, filled-read, pumped-fresh, pumped-on, read-kept, read-on, read-stopped, rest-answered, searched-all, searched-since, stopped-on, unclosed-read, whole-read}
use Rattle.ac_automaton.proofs.stream.SinkChainLemmas.{IsLawful}
use Rattle.ac_automaton.proofs.stream.StreamCountLemmas.{StreamCounts-none, StreamCounts-then}
use Rattle.ac_automaton.proofs.stream.pump.pump.Given.{Over}
use Rattle.ac_automaton.proofs.stream.pump.pump.Goals as goal

-- what a sink takes one after another, it takes
lawful : (g : Over) → IsLawful g.K.Sink.handling
lawful g = record { begins = g.met.K.Sink.begins; joins = g.met.K.Sink.joins; precedes = g.met.K.Sink.precedes }

pub loop-stream-init : goal.loop-stream-init
loop-stream-init g c =
    let s = g.S.ItemSearch.progress c.args.stream.now in
    record {
      pumped = pumped-fresh (lawful g) g.S.ItemSearch.sequence g.R.Read.remaining s.built s c.args.reader.now
          (c.args.sink.now, c.args.writer.now) c.requires.fresh c.requires.course c.requires.settled c.requires.ready;
      counted = StreamCounts-none s c.args.steps.now;
      more = c.requires.open;
    }

pub returns-in_err-read_on-clause-pumps : goal.returns-in_err-read_on-clause-pumps
returns-in_err-read_on-clause-pumps g c =
    let p = err_from_is_err_and c.from_residual.result c.from_residual.ensures.1 in
    rw (p.1, p.2)
    (read-stopped (lawful g) (g.S.ItemSearch.progress c.loop-stream.stream) (g.S.ItemSearch.progress c.read_on.new.self)
    c.loop-stream.at c.loop-stream.reader c.read_on.new.reader _ c.loop-stream.invariant.pumped _
    c.in_err-read_on.ensures.goes.1 c.in_err-read_on.ensures.read)

pub returns-in_err-read_on-clause-read : goal.returns-in_err-read_on-clause-read
returns-in_err-read_on-clause-read g c =
    let p = err_from_is_err_and c.from_residual.result c.from_residual.ensures.1 in
    let s = g.S.ItemSearch.progress c.args.stream.now in
    let t = g.S.ItemSearch.progress c.read_on.new.self in
    rw p.1
    (searched-since s t t c.args.reader.now c.read_on.new.reader c.args.steps.now c.read_on.new.steps p.0
    (read-kept (lawful g) (g.S.ItemSearch.progress c.loop-stream.stream) t c.loop-stream.at c.loop-stream.reader
    c.read_on.new.reader _ c.loop-stream.invariant.pumped _ c.read_on.ensures.read) (nothing-read t)
    (StreamCounts-then s (g.S.ItemSearch.progress c.loop-stream.stream) t c.args.steps.now c.loop-stream.steps
    c.read_on.new.steps c.loop-stream.invariant.counted c.read_on.ensures.goes.0) c.read_on.ensures.goes.1)

pub returns-in_err-at-clause-pumps : goal.returns-in_err-at-clause-pumps
returns-in_err-at-clause-pumps g c =
    let p = err_from_is_err_and c.from_residual-in_err-at.result c.from_residual-in_err-at.ensures.1 in
    let t = g.S.ItemSearch.progress c.read_on.new.self in
    let read = c.in_ok-read_on.ensures.read in
    let now = read-on (lawful g) (g.S.ItemSearch.progress c.loop-stream.stream) t c.loop-stream.at c.loop-stream.reader
    c.read_on.new.reader (c.loop-stream.sink, c.loop-stream.writer) read.0 0 c.loop-stream.invariant.pumped read.1
    c.in_ok-read_on.ensures.goes.1 read.3 refl in
    rw (p.1, p.2)
    (stopped-on (lawful g) t (g.S.ItemSearch.progress c.pass_decided.new.stream) c.loop-stream.at c.read_on.new.reader
    (c.loop-stream.sink, c.loop-stream.writer) (c.pass_decided.new.sink, c.pass_decided.new.writer) now _
    c.in_err-at.ensures.passes)

pub returns-in_err-at-clause-read : goal.returns-in_err-at-clause-read
returns-in_err-at-clause-read g c =
    let p = err_from_is_err_and c.from_residual-in_err-at.result c.from_residual-in_err-at.ensures.1 in
    let s = g.S.ItemSearch.progress c.args.stream.now in
    let t = g.S.ItemSearch.progress c.read_on.new.self in
    let u = g.S.ItemSearch.progress c.pass_decided.new.stream in
    rw p.1
    (searched-since s t u c.args.reader.now c.read_on.new.reader c.args.steps.now c.pass_decided.new.steps p.0
    (read-kept (lawful g) (g.S.ItemSearch.progress c.loop-stream.stream) t c.loop-stream.at c.loop-stream.reader
    c.read_on.new.reader _ c.loop-stream.invariant.pumped _ c.read_on.ensures.read) c.in_err-at.ensures.passes.0
    (StreamCounts-then s t u c.args.steps.now c.read_on.new.steps c.pass_decided.new.steps
    (StreamCounts-then s (g.S.ItemSearch.progress c.loop-stream.stream) t c.args.steps.now c.loop-stream.steps
    c.read_on.new.steps c.loop-stream.invariant.counted c.read_on.ensures.goes.0) c.pass_decided.ensures.goes.0)
    c.pass_decided.ensures.goes.1)

pub loop-stream-smaller : goal.loop-stream-smaller
loop-stream-smaller g c =
    let read = c.in_ok-read_on.ensures.read in
    less-left (g.S.ItemSearch.progress c.loop-stream.stream) (g.S.ItemSearch.progress c.read_on.new.self)
    (g.S.ItemSearch.progress c.pass_decided.new.stream) read.0 read.1.pieces c.in_ok-at.ensures.passes.0.same.pieces
    (piece-some read.0 _ read.2 c.if-branch-gt0.true) read.3

pub loop-stream-preserved : goal.loop-stream-preserved
loop-stream-preserved g c =
    let before = g.S.ItemSearch.progress c.args.stream.now in
    let s = g.S.ItemSearch.progress c.loop-stream.stream in
    let t = g.S.ItemSearch.progress c.read_on.new.self in
    let u = g.S.ItemSearch.progress c.pass_decided.new.stream in
    let read = c.in_ok-read_on.ensures.read in
    let some = piece-some read.0 _ read.2 c.if-branch-gt0.true in
    let pumped = c.loop-stream.invariant.pumped in
    let now = read-on (lawful g) s t c.loop-stream.at c.loop-stream.reader c.read_on.new.reader (c.loop-stream.sink, c.loop-stream.writer) read.0 0 pumped read.1
    c.in_ok-read_on.ensures.goes.1 read.3 refl in
    let passes = c.in_ok-at.ensures.passes in
    record {
      pumped = pumped-on (lawful g) t u c.loop-stream.at c.in_ok-at.at c.read_on.new.reader (c.loop-stream.sink, c.loop-stream.writer)
          (c.pass_decided.new.sink, c.pass_decided.new.writer) now passes.0
          (filled-read (lawful g) s t c.loop-stream.at c.loop-stream.reader c.read_on.new.reader (c.loop-stream.sink, c.loop-stream.writer) read.0 0 pumped read.1
          some)
          (unclosed-read (lawful g) s t c.loop-stream.at c.loop-stream.reader c.read_on.new.reader (c.loop-stream.sink, c.loop-stream.writer) read.0 0 pumped read.1)
          passes.1 passes.2;
      counted = StreamCounts-then before t u c.args.steps.now c.read_on.new.steps c.pass_decided.new.steps
          (StreamCounts-then before s t c.args.steps.now c.loop-stream.steps c.read_on.new.steps
          c.loop-stream.invariant.counted c.read_on.ensures.goes.0) c.pass_decided.ensures.goes.0;
      more = still-open read.0 read.1.read.turns.1 some;
    }

pub returns-in_err-cut-clause-pumps : goal.returns-in_err-cut-clause-pumps
returns-in_err-cut-clause-pumps g c =
    let p = err_from_is_err_and c.from_residual-in_err-cut.result c.from_residual-in_err-cut.ensures.1 in
    let t = g.S.ItemSearch.progress c.read_on.new.self in
    let v = g.S.ItemSearch.progress c.close.new.self in
    let read = c.in_ok-read_on.ensures.read in
    let now = read-on (lawful g) (g.S.ItemSearch.progress c.loop-stream.stream) t c.loop-stream.at c.loop-stream.reader
    c.read_on.new.reader (c.loop-stream.sink, c.loop-stream.writer) read.0 0 c.loop-stream.invariant.pumped read.1 c.in_ok-read_on.ensures.goes.1 read.3 refl in
    let over = closing (lawful g) t v c.loop-stream.at c.read_on.new.reader (c.loop-stream.sink, c.loop-stream.writer) c.close.ensures.closed c.close.ensures.kept
    now in
    rw (p.1, p.2)
    (stopped-on (lawful g) v (g.S.ItemSearch.progress c.pass_decided-2.new.stream) c.loop-stream.at c.read_on.new.reader
    (c.loop-stream.sink, c.loop-stream.writer) (c.pass_decided-2.new.sink, c.pass_decided-2.new.writer) over _ c.in_err-cut.ensures.passes)

pub returns-in_err-cut-clause-read : goal.returns-in_err-cut-clause-read
returns-in_err-cut-clause-read g c =
    let p = err_from_is_err_and c.from_residual-in_err-cut.result c.from_residual-in_err-cut.ensures.1 in
    let s = g.S.ItemSearch.progress c.args.stream.now in
    let t = g.S.ItemSearch.progress c.read_on.new.self in
    let v = g.S.ItemSearch.progress c.close.new.self in
    let u = g.S.ItemSearch.progress c.pass_decided-2.new.stream in
    let kept = read-kept (lawful g) (g.S.ItemSearch.progress c.loop-stream.stream) t c.loop-stream.at
    c.loop-stream.reader c.read_on.new.reader _ c.loop-stream.invariant.pumped _ c.read_on.ensures.read in
    let counts = StreamCounts-then s (g.S.ItemSearch.progress c.loop-stream.stream) t c.args.steps.now
    c.loop-stream.steps c.read_on.new.steps c.loop-stream.invariant.counted c.read_on.ensures.goes.0 in
    rw p.1
    (searched-since s v u c.args.reader.now c.read_on.new.reader c.args.steps.now c.pass_decided-2.new.steps p.0
    (subst (λ (w : StreamProgress g.S.ItemSearch.sequence). (w.built ≡ s.built)
    × (c.read_on.new.reader.pieces.items ≡ c.args.reader.now.pieces.items ++ w.pieces))
    (sym c.close.ensures.closed) kept)
    c.in_err-cut.ensures.passes.0
    (StreamCounts-then s v u c.args.steps.now c.read_on.new.steps c.pass_decided-2.new.steps
    (subst (λ w. StreamCounts s w c.args.steps.now c.read_on.new.steps) (sym c.close.ensures.closed) counts)
    c.pass_decided-2.ensures.goes.0) c.pass_decided-2.ensures.goes.1)

pub returns-clause-pumps : goal.returns-clause-pumps
returns-clause-pumps g c =
    let s = g.S.ItemSearch.progress c.loop-stream.stream in
    let t = g.S.ItemSearch.progress c.read_on.new.self in
    let v = g.S.ItemSearch.progress c.close.new.self in
    let u = g.S.ItemSearch.progress c.pass_decided-2.new.stream in
    let read = c.in_ok-read_on.ensures.read in
    let pumped = c.loop-stream.invariant.pumped in
    let now = read-on (lawful g) s t c.loop-stream.at c.loop-stream.reader c.read_on.new.reader (c.loop-stream.sink, c.loop-stream.writer) read.0 0 pumped read.1
    c.in_ok-read_on.ensures.goes.1 read.3 refl in
    let over = closing (lawful g) t v c.loop-stream.at c.read_on.new.reader (c.loop-stream.sink, c.loop-stream.writer) c.close.ensures.closed c.close.ensures.kept
    now in
    let passes = c.in_ok-cut.ensures.passes in
    let whole = whole-read (lawful g) s t c.loop-stream.at c.loop-stream.reader c.read_on.new.reader (c.loop-stream.sink, c.loop-stream.writer) read.0 0 pumped
    read.1 (piece-none read.0 _ read.2 c.if-branch-gt0.false) in
    rest-answered (lawful g) v u c.loop-stream.at c.in_ok-cut.cut c.read_on.new.reader (c.loop-stream.sink, c.loop-stream.writer)
    (c.pass_decided-2.new.sink, c.pass_decided-2.new.writer) over passes.0
    (rw (ap (λ w. w.pieces) c.close.ensures.closed) whole)
    (given-closed t v u c.close.ensures.closed passes.0.same passes.1.all) (c.take.new.self, c.take.new.writer) _
    (rw c.end.ensures at c.between.ensures) c.take.result c.take.ensures.takes

pub returns-clause-read : goal.returns-clause-read
returns-clause-read g c =
    let s = g.S.ItemSearch.progress c.args.stream.now in
    let t = g.S.ItemSearch.progress c.read_on.new.self in
    let v = g.S.ItemSearch.progress c.close.new.self in
    let u = g.S.ItemSearch.progress c.pass_decided-2.new.stream in
    let kept = read-kept (lawful g) (g.S.ItemSearch.progress c.loop-stream.stream) t c.loop-stream.at
    c.loop-stream.reader c.read_on.new.reader _ c.loop-stream.invariant.pumped _ c.read_on.ensures.read in
    let counts = StreamCounts-then s (g.S.ItemSearch.progress c.loop-stream.stream) t c.args.steps.now
    c.loop-stream.steps c.read_on.new.steps c.loop-stream.invariant.counted c.read_on.ensures.goes.0 in
    searched-all s v u c.args.reader.now c.read_on.new.reader c.args.steps.now c.pass_decided-2.new.steps c.take.result
    (subst (λ (w : StreamProgress g.S.ItemSearch.sequence). (w.built ≡ s.built)
    × (c.read_on.new.reader.pieces.items ≡ c.args.reader.now.pieces.items ++ w.pieces))
    (sym c.close.ensures.closed) kept)
    c.in_ok-cut.ensures.passes.0.same
    (StreamCounts-then s v u c.args.steps.now c.read_on.new.steps c.pass_decided-2.new.steps
    (subst (λ w. StreamCounts s w c.args.steps.now c.read_on.new.steps) (sym c.close.ensures.closed) counts)
    c.pass_decided-2.ensures.goes.0) c.pass_decided-2.ensures.goes.1 c.in_ok-cut.ensures.passes.1.all.searched

pub pass_decided-requires-2-clause-placed : goal.pass_decided-requires-2-clause-placed
pass_decided-requires-2-clause-placed g c = grind (arith, common_steps)

pub pass_decided-requires-clause-placed : goal.pass_decided-requires-clause-placed
pass_decided-requires-clause-placed g c = grind (arith, common_steps)

pub read_on-requires-clause-open : goal.read_on-requires-clause-open
read_on-requires-clause-open g c = grind (arith, common_steps)

pub read_on-requires-clause-unclosed : goal.read_on-requires-clause-unclosed
read_on-requires-clause-unclosed g c = grind (arith, common_steps)

pub read_on-requires-clause-searched : goal.read_on-requires-clause-searched
read_on-requires-clause-searched g c = grind (arith, common_steps)

pub pass_decided-requires-clause-ready : goal.pass_decided-requires-clause-ready
pass_decided-requires-clause-ready g c = grind (arith, common_steps)

pub close-requires : goal.close-requires
close-requires g c = grind (arith, common_steps)

pub pass_decided-requires-2-clause-ready : goal.pass_decided-requires-2-clause-ready
pass_decided-requires-2-clause-ready g c = grind (arith, common_steps)

pub end-requires : goal.end-requires
end-requires g c = grind (arith, common_steps)

pub between-requires : goal.between-requires
between-requires g c = grind (arith, common_steps)
