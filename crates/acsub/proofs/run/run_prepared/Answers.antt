-- The result is that of the stream, or of the whole input's text.
use Rattle.std.proofs.Common.{◌≡◌, ◌↔◌, false, true, refl, ◌∙◌}
use Rattle.std.proofs.lemmas.Bool.{false≢true}
use Rattle.std.proofs.lemmas.Result.{err_from_is_err_and}
use Rattle.acsub.specs.Plan.{Plan}
use Rattle.acsub.specs.Run.Transformed.{IsStreamed}
use Rattle.acsub.specs.Tally.{plan_matches}
use Rattle.acsub.proofs.run.CountLemmas.{held-cost, nothing_cost, unread-cost}
use Rattle.acsub.proofs.run.RunLemmas.{held_answer, memory_ran, read_answer, sends-accepted}
use Rattle.acsub.proofs.tally.TallyLemmas.{counts-held}
use Rattle.acsub.proofs.run.run_prepared.Goals as goal

-- ---- the text is written while the input is read

pub stream_text-requires-clause-accepted : goal.stream_text-requires-clause-accepted
stream_text-requires-clause-accepted g c = c.requires.prepared.0

pub stream_text-requires-clause-streamed : goal.stream_text-requires-clause-streamed
stream_text-requires-clause-streamed g c = c.in-Some.ensures.some.0 refl

-- ---- the input is held

-- a plan whose automaton isn't asked to stream holds its input
held_by : (plan : Plan) → ((false ≡ true) ↔ IsStreamed plan) → ¬ IsStreamed plan
held_by plan some streamed = false≢true (some.1 streamed)

pub returns-in_err-output-in-None-clause-answered : goal.returns-in_err-output-in-None-clause-answered
returns-in_err-output-in-None-clause-answered g c =
    let p = err_from_is_err_and c.from_residual.result c.from_residual.ensures.1 in
    rw (p.1, p.2)
    (memory_ran g.R.Read.remaining g.W.Write.contents (c.args.reader.now, c.args.writer.now) c.args.prepared.now
    c.requires.prepared.0)

pub returns-in_err-output-in-None-clause-cost : goal.returns-in_err-output-in-None-clause-cost
returns-in_err-output-in-None-clause-cost g c =
    let p = err_from_is_err_and c.from_residual.result c.from_residual.ensures.1 in
    rw p.1 (nothing_cost c.args.prepared.now c.args.reader.now c.args.steps.now p.0)

pub returns-in_err-input-in-None-clause-answered : goal.returns-in_err-input-in-None-clause-answered
returns-in_err-input-in-None-clause-answered g c =
    let p = err_from_is_err_and c.from_residual-in_err-input-in-None.result
    c.from_residual-in_err-input-in-None.ensures.1 in
    rw (p.1, p.2)
    (read_answer g.R.Read.remaining g.W.Write.contents c.args.prepared.now c.args.reader.now c.read_whole.new.reader
    c.args.writer.now c.in_err-input-in-None.field-0.0 c.requires.prepared.0 c.requires.prepared.1
    (held_by c.args.prepared.now c.in-None.ensures.some) c.in_err-input-in-None.ensures)

pub returns-in_err-input-in-None-clause-cost : goal.returns-in_err-input-in-None-clause-cost
returns-in_err-input-in-None-clause-cost g c =
    let p = err_from_is_err_and c.from_residual-in_err-input-in-None.result
    c.from_residual-in_err-input-in-None.ensures.1 in
    rw (p.1, p.2)
    (unread-cost g.R.Read.remaining c.args.prepared.now c.args.reader.now c.read_whole.new.reader c.args.steps.now
    c.in_err-input-in-None.field-0.0 (held_by c.args.prepared.now c.in-None.ensures.some) c.in_err-input-in-None.ensures)

pub write_text-text-requires-clause-accepted : goal.write_text-text-requires-clause-accepted
write_text-text-requires-clause-accepted g c = c.requires.prepared.0

pub told-requires : goal.told-requires
told-requires g c =
    let text = c.write_text-text in
    sends-accepted g.W.Write.contents c.args.writer.now text.new.writer _ text.result text.ensures.sent

pub returns-in_ok-input-in-None-clause-answered : goal.returns-in_ok-input-in-None-clause-answered
returns-in_ok-input-in-None-clause-answered g c =
    let text = c.write_text-text in
    let read = c.in_ok-input-in-None.ensures in
    held_answer g.R.Read.remaining g.W.Write.contents (c.args.reader.now, c.args.writer.now)
    (c.read_whole.new.reader, text.new.writer) c.args.prepared.now read.0 c.as_slice.result.now c.requires.prepared.0
    c.requires.prepared.1 (held_by c.args.prepared.now c.in-None.ensures.some) read.1 read.2
    (c.as_slice.ensures.value ∙ read.3) text.result c.told.result c.told.ensures text.ensures.sent

pub returns-in_ok-input-in-None-clause-cost : goal.returns-in_ok-input-in-None-clause-cost
returns-in_ok-input-in-None-clause-cost g c =
    let text = c.write_text-text in
    let read = c.in_ok-input-in-None.ensures in
    held-cost c.args.prepared.now c.args.reader.now c.read_whole.new.reader c.args.steps.now text.new.steps c.told.result
    read.0 c.as_slice.result.now (held_by c.args.prepared.now c.in-None.ensures.some) read.1.pieces
    (c.as_slice.ensures.value ∙ read.3) text.ensures.cost

pub returns-in_ok-input-in-None-clause-counts : goal.returns-in_ok-input-in-None-clause-counts
returns-in_ok-input-in-None-clause-counts g c =
    let text = c.write_text-text in
    let read = c.in_ok-input-in-None.ensures in
    counts-held g.R.Read.remaining (plan_matches c.args.prepared.now) c.args.reader.now c.read_whole.new.reader
    c.args.tally.now text.new.tally read.0 c.as_slice.result.now 0 read.1 (c.as_slice.ensures.value ∙ read.3) text.result
    c.told.result c.told.ensures text.ensures.counts
