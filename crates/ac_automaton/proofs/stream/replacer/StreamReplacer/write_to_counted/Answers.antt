-- One slice after another is written, up to the last one that is decided.
use Rattle.std.proofs.lemmas.Result.{err_from_is_err_and}
use Rattle.ac_literal.specs.Packed.{bytes_of}
use Rattle.std.proofs.Common.{Ok, subst}
use Rattle.ac_automaton.specs.Stream.ReplacerWrite.{WritesNext}
use Rattle.ac_automaton.proofs.stream.ReplacerWriteLemmas.{out-counts, out-more, out-none, out-stopped}
use Rattle.ac_automaton.proofs.stream.replacer.StreamReplacer.write_to_counted.Goals as goal

pub loop-init : goal.loop-init
loop-init g c =
    out-none g.W.Write.contents (bytes_of c.args.replacements.now) c.args.self.now c.args.writer.now c.args.steps.now

pub returns-in_err-write_next-clause-writes : goal.returns-in_err-write_next-clause-writes
returns-in_err-write_next-clause-writes g c =
    let p = err_from_is_err_and c.from_residual.result c.from_residual.ensures.1 in
    rw (p.1, p.2)
    (out-stopped g.W.Write.contents (bytes_of c.args.replacements.now) c.loop.invariant c.write_next.new.self
    c.write_next.new.writer c.write_next.new.steps c.write_next.ensures.counts _ c.in_err-write_next.ensures.writes)

pub returns-in_err-write_next-clause-counts : goal.returns-in_err-write_next-clause-counts
returns-in_err-write_next-clause-counts g c =
    out-counts g.W.Write.contents (bytes_of c.args.replacements.now) c.loop.invariant c.write_next.new.self
    c.write_next.new.writer c.write_next.new.steps c.write_next.ensures.counts

pub loop-preserved : goal.loop-preserved
loop-preserved g c =
    out-more g.W.Write.contents (bytes_of c.args.replacements.now) c.loop.invariant c.write_next.new.self
    c.write_next.new.writer c.write_next.new.steps c.write_next.ensures.counts
    (subst
    (λ more. WritesNext g.W.Write.contents (bytes_of c.args.replacements.now) c.loop.self c.write_next.new.self
    c.loop.writer c.write_next.new.writer (Ok more)) c.if-branch.true c.in_ok-write_next.ensures.writes)

pub returns-clause-counts : goal.returns-clause-counts
returns-clause-counts g c =
    out-counts g.W.Write.contents (bytes_of c.args.replacements.now) c.loop.invariant c.write_next.new.self
    c.write_next.new.writer c.write_next.new.steps c.write_next.ensures.counts
