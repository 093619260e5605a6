-- The bytes that the first send held back are written by the second.
use Rattle.std.proofs.Common.{refl}
use Rattle.std.proofs.lemmas.Result.{err_from_is_err_and}
use Rattle.ac_automaton.proofs.stream.devices.OutputLemmas.{Sends-and_held}
use Rattle.ac_automaton.proofs.stream.devices.output.Output.send_all.Goals as goal

pub returns-in_err-send-clause-sent : goal.returns-in_err-send-clause-sent
returns-in_err-send-clause-sent g c =
    let p = err_from_is_err_and c.from_residual.result c.from_residual.ensures.1 in
    let stopped = c.in_err-send.ensures.sent in
    rw (p.1, p.2) (stopped.0, stopped.1, refl)

pub returns-clause-sent : goal.returns-clause-sent
returns-clause-sent g c =
    Sends-and_held c.send_held.new.writer _ c.send_held.result c.in_ok-send.ensures.sent
    (rw c.send_held.ensures.none at c.send_held.ensures.sent)
