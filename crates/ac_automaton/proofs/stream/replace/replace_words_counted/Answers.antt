-- Both buffers are allocated first, and then the words are pumped.
use Rattle.std.proofs.lemmas.Grind.{common_steps}
use Rattle.std.proofs.Common.{map, refl, arith}
use Rattle.std.proofs.lemmas.Result.{err_from_is_err_and}
use Rattle.ac_automaton.specs.Stream.SinkLaws.{replacing-piecewise}
use Rattle.ac_automaton.specs.Stream.Texts.{replacing}
use Rattle.ac_automaton.specs.Stream.WholeWords.{asked_for}
use Rattle.ac_automaton.specs.declared.error.StreamError.TheVariants.{Config, Memory}
use Rattle.ac_automaton.proofs.stream.StreamAnswerLemmas.{words-cost, words-cost_none, words-replaced, words-unmoved}
use Rattle.ac_automaton.proofs.stream.replace.replace_words_counted.Goals as goal

pub returns-in_err-configured-clause-replaced : goal.returns-in_err-configured-clause-replaced
returns-in_err-configured-clause-replaced g c =
    let p = err_from_is_err_and c.from_residual.result c.from_residual.ensures.1 in
    rw (p.1, p.2)
    (words-unmoved g.R.Read.remaining g.W.Write.contents c.args.kind (g.A.Automaton.built c.args.automaton.now)
    (g.A.Automaton.supports c.args.automaton.now) (map (λ r. r.now) c.args.replacements.now) c.args.reader.now
    c.args.writer.now (Config c.in_err-configured.field-0.0) c.in_err-configured.ensures.error)

pub returns-in_err-configured-clause-cost : goal.returns-in_err-configured-clause-cost
returns-in_err-configured-clause-cost g c =
    let p = err_from_is_err_and c.from_residual.result c.from_residual.ensures.1 in
    rw p.1
    (words-cost_none (asked_for c.args.kind (g.A.Automaton.built c.args.automaton.now)) c.args.reader.now c.args.steps.now
    p.0)

pub returns-in_err-output-clause-replaced : goal.returns-in_err-output-clause-replaced
returns-in_err-output-clause-replaced g c =
    let p = err_from_is_err_and c.from_residual-in_err-output.result c.from_residual-in_err-output.ensures.1 in
    rw (p.1, p.2)
    (words-unmoved g.R.Read.remaining g.W.Write.contents c.args.kind (g.A.Automaton.built c.args.automaton.now)
    (g.A.Automaton.supports c.args.automaton.now) (map (λ r. r.now) c.args.replacements.now) c.args.reader.now
    c.args.writer.now Memory c.in_ok-configured.ensures.can)

pub returns-in_err-output-clause-cost : goal.returns-in_err-output-clause-cost
returns-in_err-output-clause-cost g c =
    let p = err_from_is_err_and c.from_residual-in_err-output.result c.from_residual-in_err-output.ensures.1 in
    rw p.1
    (words-cost_none (asked_for c.args.kind (g.A.Automaton.built c.args.automaton.now)) c.args.reader.now c.args.steps.now
    p.0)

pub returns-clause-replaced : goal.returns-clause-replaced
returns-clause-replaced g c =
    words-replaced g.W.Write.contents (λ k. k.output) (λ k. replacing (map (λ r. r.now) k.replacements.now)) _
    (λ k. replacing-piecewise _)
    (record { replacements = c.args.replacements; output = c.in_ok-output.output }, c.args.writer.now)
    c.in_ok-output.ensures (map (λ r. r.now) c.args.replacements.now) refl g.R.Read.remaining c.args.kind
    (g.A.Automaton.built c.args.automaton.now) (g.A.Automaton.supports c.args.automaton.now) c.args.reader.now
    c.pump_words.new.reader (c.pump_words.new.sink, c.pump_words.new.writer) c.args.steps.now
    c.pump_words.new.steps c.pump_words.result c.pump_words.ensures

pub returns-clause-cost : goal.returns-clause-cost
returns-clause-cost g c =
    words-cost g.W.Write.contents (λ k. k.output) (λ k. replacing (map (λ r. r.now) k.replacements.now)) _
    (λ k. replacing-piecewise _)
    (record { replacements = c.args.replacements; output = c.in_ok-output.output }, c.args.writer.now)
    c.in_ok-output.ensures (map (λ r. r.now) c.args.replacements.now) refl g.R.Read.remaining c.args.kind
    (g.A.Automaton.built c.args.automaton.now) (g.A.Automaton.supports c.args.automaton.now) c.args.reader.now
    c.pump_words.new.reader (c.pump_words.new.sink, c.pump_words.new.writer) c.args.steps.now
    c.pump_words.new.steps c.pump_words.result c.pump_words.ensures

pub returns-in_err-configured-clause-accepted : goal.returns-in_err-configured-clause-accepted
returns-in_err-configured-clause-accepted g c = grind (arith, common_steps)

pub returns-in_err-output-clause-accepted : goal.returns-in_err-output-clause-accepted
returns-in_err-output-clause-accepted g c = grind (arith, common_steps)

pub pump_words-requires-clause-open : goal.pump_words-requires-clause-open
pump_words-requires-clause-open g c = grind (arith, common_steps)

pub pump_words-requires-clause-ready : goal.pump_words-requires-clause-ready
pump_words-requires-clause-ready g c = grind (arith, common_steps)

pub pump_words-requires-clause-settled : goal.pump_words-requires-clause-settled
pump_words-requires-clause-settled g c = grind (arith, common_steps)

pub returns-clause-accepted : goal.returns-clause-accepted
returns-clause-accepted g c = grind (arith, common_steps)
