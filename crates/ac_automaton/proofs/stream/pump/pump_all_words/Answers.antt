-- The buffer is allocated first; then the stream is pumped.
use Rattle.std.proofs.Common.{ap}
use Rattle.ac_automaton.proofs.stream.PumpCostLemmas.{all_words-pumped, cost-searched}
use Rattle.ac_automaton.proofs.stream.pump.pump_all_words.Goals as goal

pub returns : goal.returns
returns g c =
    let b = g.A.Automaton.built c.args.automaton.now in
    let made = c.in_ok-stream.ensures in
    all_words-pumped g.K.Sink.handling g.R.Read.remaining b c.args.reader.now c.pump.new.reader (c.args.sink.now, c.args.writer.now)
    (c.pump.new.sink, c.pump.new.writer) c.args.steps.now c.pump.new.steps (g.A.Automaton.supports c.args.automaton.now) c.pump.result made.0 (
      rw (ap (λ s. s.built) made.1) at c.pump.ensures.pumps,
      cost-searched b c.in_ok-stream.stream c.pump.new.stream c.args.reader.now c.pump.new.reader c.args.steps.now
          c.pump.new.steps c.pump.result made.1 c.pump.ensures.read,
    )
