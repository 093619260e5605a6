-- Where the held bytes could not be written, neither were the others.
use Rattle.std.proofs.Common.{[]}
use Rattle.std.proofs.lemmas.Result.{err_from_is_err_and}
use Rattle.ac_automaton.proofs.stream.devices.OutputLemmas.{Sends-more, Sends-then, Sends-whole}
use Rattle.ac_automaton.proofs.stream.devices.output.Output.send_past.Goals as goal

pub returns-in_err-send_held : goal.returns-in_err-send_held
returns-in_err-send_held g c =
    let p = err_from_is_err_and c.from_residual.result c.from_residual.ensures.1 in
    rw (p.1, p.2) (record { sent = Sends-more c.args.bytes.now _ c.in_err-send_held.ensures.sent })

pub returns : goal.returns
returns g c =
    let sent = rw c.in_ok-send_held.ensures.none at c.in_ok-send_held.ensures.sent in
    rw c.in_ok-send_held.ensures.none (record {
      sent = Sends-then c.write_whole.new.writer [] c.args.bytes.now c.write_whole.result sent
          (Sends-whole g.W.Write.contents c.args.bytes.now c.write_whole.result c.write_whole.ensures.took
          c.write_whole.ensures.reads);
    })
