-- A line goes out alone where it goes on with one, and else after its label.
use Rattle.std.proofs.lemmas.Result.{err_from_is_err_and}
use Rattle.acsub.proofs.labelled.LabelledLemmas.{label-stopped, line-sent, part-sent}
use Rattle.acsub.proofs.labelled.send_line.Goals as goal

pub returns-then-not-begins : goal.returns-then-not-begins
returns-then-not-begins g c =
    part-sent g.W.Write.contents c.args.writer.now c.send.new.writer c.args.output.now c.send.new.self c.args.label.now
    c.args.line.now c.requires.filled c.requires.one c.args.begins c.send.result
    c.if-not-begins.true c.send.ensures.sent

pub returns-in_err-send_exchanged : goal.returns-in_err-send_exchanged
returns-in_err-send_exchanged g c =
    let p = err_from_is_err_and c.from_residual.result c.from_residual.ensures.1 in
    let stopped = rw c.as_bytes.ensures.value at c.in_err-send_exchanged.ensures.sent in
    rw (p.1, p.2)
    (label-stopped g.W.Write.contents c.args.writer.now c.send_exchanged.new.writer c.args.output.now
    c.send_exchanged.new.self c.args.label.now c.args.line.now c.requires.filled c.requires.one c.args.begins
    c.in_err-send_exchanged.field-0.0 c.if-not-begins.false stopped)

pub returns : goal.returns
returns g c =
    line-sent g.W.Write.contents c.args.writer.now c.send-2.new.writer c.args.output.now c.send-2.new.self
    c.args.label.now c.args.line.now c.requires.filled c.requires.one c.args.begins c.send_exchanged.new.writer
    c.send_exchanged.new.self c.send-2.result c.if-not-begins.false
    (rw c.as_bytes.ensures.value at c.in_ok-send_exchanged.ensures.sent) c.send-2.ensures.sent
