-- The second send follows the first.
use Rattle.std.proofs.lemmas.Result.{err_from_is_err_and}
use Rattle.ac_automaton.proofs.stream.devices.OutputLemmas.{Sends-more, Sends-then}
use Rattle.ac_automaton.proofs.stream.devices.output.Output.send_both.Goals as goal

pub returns-in_err-send : goal.returns-in_err-send
returns-in_err-send g c =
    let p = err_from_is_err_and c.from_residual.result c.from_residual.ensures.1 in
    rw (p.1, p.2) (record { sent = Sends-more c.args.replacement.now _ c.in_err-send.ensures.sent })

pub returns : goal.returns
returns g c = record {
  sent = Sends-then c.send-2.new.writer c.send-2.new.self c.args.replacement.now c.send-2.result
      c.in_ok-send.ensures.sent c.send-2.ensures.sent;
}
