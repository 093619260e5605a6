-- What was held back is written unchanged.
use Rattle.ac_automaton.proofs.stream.devices.OutputLemmas.{Sends-held, Sends-whole}
use Rattle.ac_automaton.proofs.stream.devices.output.Output.send_held.Goals as goal

pub returns-clause-sent : goal.returns-clause-sent
returns-clause-sent g c =
    let took = rw (c.as_slice.ensures.value, c.self.view_is) at c.write_whole-sent.ensures.took in
    Sends-held g.W.Write.contents c.args.writer.now c.write_whole-sent.new.writer c.args.self.now
    c.write_whole-sent.result
    (Sends-whole g.W.Write.contents c.args.self.now c.write_whole-sent.result took c.write_whole-sent.ensures.reads)
