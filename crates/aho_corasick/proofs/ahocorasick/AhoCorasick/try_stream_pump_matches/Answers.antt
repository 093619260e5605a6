-- It holds of the front since it does of the automaton that serves, if the start kind has unanchored searches.
use Rattle.std.proofs.Common.{subst, sym}
use Rattle.ac_automaton.specs.Stream.Pump.{PumpsMatches}
use Rattle.aho_corasick.specs.AhoCorasick.{as_built, serving_engine}
use Rattle.aho_corasick.specs.Engine.{engine_supported_by}
use Rattle.aho_corasick.proofs.lemmas.PumpLemmas.{matches-served}
use Rattle.aho_corasick.proofs.ahocorasick.AhoCorasick.try_stream_pump_matches.Goals as goal

pub returns-in-Noncontiguous : goal.returns-in-Noncontiguous
returns-in-Noncontiguous g c =
    let ac = c.args.self.now in
    let pumped = c.try_stream_pump_matches in
    let pumps =
    subst (λ b. PumpsMatches g.K.Sink.handling g.R.Read.remaining c.args.kinds b (engine_supported_by (serving_engine ac))
    c.args.reader.now pumped.new.reader (c.args.sink.now, c.args.writer.now) (pumped.new.sink, pumped.new.writer)
    c.args.steps.now pumped.new.steps pumped.result) (sym c.serving.ensures.built)
    (rw (c.serving.ensures.engine, c.in-Noncontiguous.is) pumped.ensures) in
    matches-served (serving_engine ac) ac.start_kind ac.starts c.in_ok-enforce_anchored_consistency.ensures.served
    (as_built ac) g.K.Sink.handling g.R.Read.remaining c.args.reader.now pumped.new.reader
    (c.args.sink.now, c.args.writer.now) (pumped.new.sink, pumped.new.writer) c.args.steps.now pumped.new.steps
    c.args.kinds pumped.result pumps

pub returns-in-Contiguous : goal.returns-in-Contiguous
returns-in-Contiguous g c =
    let ac = c.args.self.now in
    let pumped = c.try_stream_pump_matches-in-Contiguous in
    let pumps =
    subst (λ b. PumpsMatches g.K.Sink.handling g.R.Read.remaining c.args.kinds b (engine_supported_by (serving_engine ac))
    c.args.reader.now pumped.new.reader (c.args.sink.now, c.args.writer.now) (pumped.new.sink, pumped.new.writer)
    c.args.steps.now pumped.new.steps pumped.result) (sym c.serving.ensures.built)
    (rw (c.serving.ensures.engine, c.in-Contiguous.is) pumped.ensures) in
    matches-served (serving_engine ac) ac.start_kind ac.starts c.in_ok-enforce_anchored_consistency.ensures.served
    (as_built ac) g.K.Sink.handling g.R.Read.remaining c.args.reader.now pumped.new.reader
    (c.args.sink.now, c.args.writer.now) (pumped.new.sink, pumped.new.writer) c.args.steps.now pumped.new.steps
    c.args.kinds pumped.result pumps

pub returns-in-Dfa : goal.returns-in-Dfa
returns-in-Dfa g c =
    let ac = c.args.self.now in
    let pumped = c.try_stream_pump_matches-in-Dfa in
    let pumps =
    subst (λ b. PumpsMatches g.K.Sink.handling g.R.Read.remaining c.args.kinds b (engine_supported_by (serving_engine ac))
    c.args.reader.now pumped.new.reader (c.args.sink.now, c.args.writer.now) (pumped.new.sink, pumped.new.writer)
    c.args.steps.now pumped.new.steps pumped.result) (sym c.serving.ensures.built)
    (rw (c.serving.ensures.engine, c.in-Dfa.is) pumped.ensures) in
    matches-served (serving_engine ac) ac.start_kind ac.starts c.in_ok-enforce_anchored_consistency.ensures.served
    (as_built ac) g.K.Sink.handling g.R.Read.remaining c.args.reader.now pumped.new.reader
    (c.args.sink.now, c.args.writer.now) (pumped.new.sink, pumped.new.writer) c.args.steps.now pumped.new.steps
    c.args.kinds pumped.result pumps
