-- One read after another is masked and written, up to the end.
use Rattle.std.proofs.Common.{◌≡◌, ◌≢◌, ◌<◌, [], length, Err, refl, ap, subst, ◌∙◌, arith, length-append}
use Rattle.std.proofs.lemmas.Grind.{common_steps}
use Rattle.std.proofs.lemmas.Bool.Decides.{nat_tests}
use Rattle.std.proofs.lemmas.Result.{err_from_is_err_and}
use Rattle.ac_automaton.specs.Stream.Devices.Moved.{HasTaken}
use Rattle.ac_automaton.specs.Stream.Devices.Watched.{WritesWhole}
use Rattle.ac_automaton.specs.Stream.Mask.{passed_to, ready_of}
use Rattle.ac_automaton.proofs.stream.StreamMaskEndLemmas.{costs-then, on-any, passed-next, read-begun, stop-came, taken-all, write-begun, written-fresh, written-next, wrote-begun, wrote-to_end, wrote-to_ready, wrote-to_stop}
use Rattle.ac_automaton.proofs.stream.StreamMaskLemmas.{mask-counts-none, mask-counts-then}
use Rattle.ac_automaton.proofs.stream.devices.MovedLemmas.{still-open}
use Rattle.ac_automaton.proofs.stream.mask.mask_to_end.Goals as goal

pub loop-writer-init : goal.loop-writer-init
loop-writer-init g c = record {
  written = written-fresh g.R.Read.remaining g.W.Write.contents c.args.stream.now.built c.args.stream.now.mask
      c.args.reader.now c.args.writer.now c.args.stream.now c.requires.fresh c.requires.course;
  counted = mask-counts-none c.args.stream.now c.args.stream.now c.args.steps.now refl refl refl;
  more = c.requires.open;
}

pub returns-in_err-read_more-clause-writes : goal.returns-in_err-read_more-clause-writes
returns-in_err-read_more-clause-writes g c =
    let p = err_from_is_err_and c.from_residual.result c.from_residual.ensures.1 in
    rw (p.1, p.2)
    (wrote-to_stop g.R.Read.remaining g.W.Write.contents c.args.stream.now.built c.args.stream.now.mask
    c.loop-writer.invariant.written c.read_more.ensures.kept _ c.in_err-read_more.ensures.read)

pub returns-in_err-read_more-clause-cost : goal.returns-in_err-read_more-clause-cost
returns-in_err-read_more-clause-cost g c =
    let p = err_from_is_err_and c.from_residual.result c.from_residual.ensures.1 in
    let R = g.R.Read.remaining in
    let W = g.W.Write.contents in
    let b = c.args.stream.now.built in
    let k = c.args.stream.now.mask in
    let is = c.loop-writer.invariant.written in
    let came = stop-came R W b k is c.read_more.ensures.kept _ c.in_err-read_more.ensures.read in
    rw p.1
    (costs-then R W b k is c.read_more.ensures.kept c.args.stream.now (Err p.0) c.requires.fresh came.2 came.3
    c.loop-writer.invariant.counted c.read_more.ensures.counts tt)

pub loop-writer-smaller : goal.loop-writer-smaller
loop-writer-smaller g c =
    let read = c.in_ok-read_more.ensures.read in
    let more = ap length (passed-next g.R.Read.remaining g.W.Write.contents c.args.stream.now.built
    c.args.stream.now.mask c.args.reader.now c.args.writer.now c.loop-writer.stream c.read_more.new.self
    c.loop-writer.reader c.loop-writer.writer c.loop-writer.invariant.written read.1.0 c.read_more.ensures.kept) in
    let both = length-append (passed_to c.loop-writer.stream) read.0 in
    let count = read.3 in
    let few = read.1.2 in
    let some : 0 < c.in_ok-read_more.field-0 = grind (arith, nat_tests) in
    omega (arith, more, both, count, few, some)

pub loop-writer-preserved : goal.loop-writer-preserved
loop-writer-preserved g c =
    let read = c.in_ok-read_more.ensures.read in
    let count = read.3 in
    let any : 0 < c.in_ok-read_more.field-0 = grind (arith, nat_tests) in
    let some : read.0 ≢ [] = λ none. let e = ap length none in omega (arith, e, count, any) in
    let wrote = subst
    (λ l. HasTaken g.W.Write.contents c.loop-writer.writer c.write_whole.new.writer l 0 0) c.ready.ensures.ready
    (taken-all c.in_ok-write_whole.ensures.took c.write_whole.ensures.reads) in
    record {
      written = written-next g.R.Read.remaining g.W.Write.contents c.args.stream.now.built c.args.stream.now.mask
          c.args.reader.now c.args.writer.now c.loop-writer.stream c.read_more.new.self c.loop-writer.reader
          c.loop-writer.writer c.loop-writer.invariant.written read.1.0 c.read_more.ensures.kept read.1.1 read.1.2
          some read.2 wrote;
      counted = mask-counts-then c.args.stream.now c.loop-writer.stream c.read_more.new.self
          c.loop-writer.invariant.counted c.read_more.ensures.counts;
      more = still-open read.0 read.2.turns.1 some;
    }

pub returns-in_err-write_whole-clause-writes : goal.returns-in_err-write_whole-clause-writes
returns-in_err-write_whole-clause-writes g c =
    let p = err_from_is_err_and c.from_residual-in_err-write_whole.result
    c.from_residual-in_err-write_whole.ensures.1 in
    let read = c.in_ok-read_more.ensures.read in
    rw (p.1, p.2)
    (wrote-to_ready g.R.Read.remaining g.W.Write.contents c.args.stream.now.built c.args.stream.now.mask
    c.args.reader.now c.args.writer.now c.loop-writer.stream c.read_more.new.self c.loop-writer.reader
    c.loop-writer.writer c.loop-writer.invariant.written read.1.0 c.read_more.ensures.kept _ read.1.1 read.2
    (subst (λ l. WritesWhole g.W.Write.contents c.loop-writer.writer c.write_whole.new.writer l (Err c.in_err-write_whole.field-0.0))
    c.ready.ensures.ready c.in_err-write_whole.ensures.took)
    c.write_whole.ensures.reads)

pub returns-clause-writes : goal.returns-clause-writes
returns-clause-writes g c =
    let read = c.in_ok-read_more.ensures.read in
    let none : c.in_ok-read_more.field-0 ≡ 0 = grind (arith, nat_tests) in
    wrote-to_end g.R.Read.remaining g.W.Write.contents c.args.stream.now.built c.args.stream.now.mask
    c.loop-writer.invariant.written c.read_more.ensures.kept c.ready-2.result.now c.write_whole-2.result read none
    (c.ready-2.ensures.ready ∙ ap ready_of (c.finish.ensures.finished read.1.2)) c.write_whole-2.ensures.took
    c.write_whole-2.ensures.reads

pub returns-clause-cost : goal.returns-clause-cost
returns-clause-cost g c =
    let read = c.in_ok-read_more.ensures.read in
    costs-then g.R.Read.remaining g.W.Write.contents c.args.stream.now.built c.args.stream.now.mask
    c.loop-writer.invariant.written c.read_more.ensures.kept c.args.stream.now c.write_whole-2.result c.requires.fresh
    read.1.0 read.2 c.loop-writer.invariant.counted c.read_more.ensures.counts (on-any c.write_whole-2.result read.1.1)

pub returns-in_err-read_more-clause-begun : goal.returns-in_err-read_more-clause-begun
returns-in_err-read_more-clause-begun g c =
    let p = err_from_is_err_and c.from_residual.result c.from_residual.ensures.1 in
    rw (p.1, p.2)
    (read-begun g.R.Read.remaining c.loop-writer.stream c.read_more.new.self c.loop-writer.reader c.read_more.new.reader _
    c.in_err-read_more.ensures.read)

pub returns-in_err-write_whole-clause-begun : goal.returns-in_err-write_whole-clause-begun
returns-in_err-write_whole-clause-begun g c =
    let p = err_from_is_err_and c.from_residual-in_err-write_whole.result
    c.from_residual-in_err-write_whole.ensures.1 in
    rw (p.1, p.2)
    (write-begun c.loop-writer.writer c.write_whole.new.writer _ c.in_err-write_whole.ensures.took.1)

pub returns-clause-begun : goal.returns-clause-begun
returns-clause-begun g c =
    wrote-begun g.W.Write.contents c.loop-writer.writer c.write_whole-2.new.writer c.ready-2.result.now
    c.write_whole-2.result c.write_whole-2.ensures.took

pub returns-in_err-write_whole-clause-cost : goal.returns-in_err-write_whole-clause-cost
returns-in_err-write_whole-clause-cost g c = grind (arith, common_steps)

pub read_more-requires-clause-open : goal.read_more-requires-clause-open
read_more-requires-clause-open g c = grind (arith, common_steps)

pub read_more-requires-clause-unclosed : goal.read_more-requires-clause-unclosed
read_more-requires-clause-unclosed g c = grind (arith, common_steps)

pub read_more-requires-clause-masked : goal.read_more-requires-clause-masked
read_more-requires-clause-masked g c = grind (arith, common_steps)

pub read_more-requires-clause-countable : goal.read_more-requires-clause-countable
read_more-requires-clause-countable g c = grind (arith, common_steps)
