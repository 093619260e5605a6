-- The buffer of the lines is taken first; then the matches are pumped into it.
use Rattle.std.proofs.lemmas.Result.{err_from_is_err_and}
use Rattle.ac_automaton.specs.Stream.{Picks}
use Rattle.aho_corasick.specs.AhoCorasick.{as_built, supported_by}
use Rattle.acsub.proofs.stream.StreamListLemmas.{lists-nothing, matches-listed}
use Rattle.acsub.proofs.stream.list.list_stream.Goals as goal

pub returns-in_err-output-clause-lists : goal.returns-in_err-output-clause-lists
returns-in_err-output-clause-lists g c =
    let p = err_from_is_err_and c.from_residual.result c.from_residual.ensures.1 in
    rw (p.1, p.2)
    (lists-nothing Picks g.R.Read.remaining g.W.Write.contents (as_built c.args.engine.now)
    (c.args.reader.now, c.args.writer.now))

pub returns-clause-lists : goal.returns-clause-lists
returns-clause-lists g c =
    let pumped = c.try_stream_pump_matches-listed in
    (matches-listed g.W.Write.contents (λ k. k.output) (λ k. k.tally) (λ patterns k. Unit {0})
    (record { output = c.in_ok-output.output; tally = c.args.tally.now }, c.args.writer.now) c.in_ok-output.ensures g.R.Read.remaining
    (as_built c.args.engine.now) (supported_by c.args.engine.now) c.args.reader.now pumped.new.reader
    (pumped.new.sink, pumped.new.writer) c.args.steps.now pumped.new.steps c.requires.can pumped.result
    pumped.ensures).lists

pub returns-clause-costs : goal.returns-clause-costs
returns-clause-costs g c =
    let pumped = c.try_stream_pump_matches-listed in
    (matches-listed g.W.Write.contents (λ k. k.output) (λ k. k.tally) (λ patterns k. Unit {0})
    (record { output = c.in_ok-output.output; tally = c.args.tally.now }, c.args.writer.now) c.in_ok-output.ensures g.R.Read.remaining
    (as_built c.args.engine.now) (supported_by c.args.engine.now) c.args.reader.now pumped.new.reader
    (pumped.new.sink, pumped.new.writer) c.args.steps.now pumped.new.steps c.requires.can pumped.result
    pumped.ensures).costs

pub returns-clause-counts : goal.returns-clause-counts
returns-clause-counts g c =
    let pumped = c.try_stream_pump_matches-listed in
    (matches-listed g.W.Write.contents (λ k. k.output) (λ k. k.tally) (λ patterns k. Unit {0})
    (record { output = c.in_ok-output.output; tally = c.args.tally.now }, c.args.writer.now) c.in_ok-output.ensures g.R.Read.remaining
    (as_built c.args.engine.now) (supported_by c.args.engine.now) c.args.reader.now pumped.new.reader
    (pumped.new.sink, pumped.new.writer) c.args.steps.now pumped.new.steps c.requires.can pumped.result
    pumped.ensures).counts

pub returns-clause-memory : goal.returns-clause-memory
returns-clause-memory g c =
    let pumped = c.try_stream_pump_matches-listed in
    (matches-listed g.W.Write.contents (λ k. k.output) (λ k. k.tally) (λ patterns k. Unit {0})
    (record { output = c.in_ok-output.output; tally = c.args.tally.now }, c.args.writer.now) c.in_ok-output.ensures g.R.Read.remaining
    (as_built c.args.engine.now) (supported_by c.args.engine.now) c.args.reader.now pumped.new.reader
    (pumped.new.sink, pumped.new.writer) c.args.steps.now pumped.new.steps c.requires.can pumped.result
    pumped.ensures).memory

pub returns-clause-accepted : goal.returns-clause-accepted
returns-clause-accepted g c =
    let pumped = c.try_stream_pump_matches-listed in
    (matches-listed g.W.Write.contents (λ k. k.output) (λ k. k.tally) (λ patterns k. Unit {0})
    (record { output = c.in_ok-output.output; tally = c.args.tally.now }, c.args.writer.now) c.in_ok-output.ensures g.R.Read.remaining
    (as_built c.args.engine.now) (supported_by c.args.engine.now) c.args.reader.now pumped.new.reader
    (pumped.new.sink, pumped.new.writer) c.args.steps.now pumped.new.steps c.requires.can pumped.result
    pumped.ensures).accepted
