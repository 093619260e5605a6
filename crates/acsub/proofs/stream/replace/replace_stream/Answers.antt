-- Both buffers are taken first; then the matches are pumped into the sink, which replaces and counts them.
use Rattle.std.proofs.Common.{◌≡◌, ap, length, map, ◌∙◌}
use Rattle.std.proofs.lemmas.Result.{err_from_is_err_and}
use Rattle.ac_automaton.specs.Stream.{Picks}
use Rattle.ac_automaton.specs.Stream.SinkLaws.{replacing-piecewise}
use Rattle.ac_automaton.specs.Stream.Texts.{replacing}
use Rattle.ac_automaton.specs.declared.stream.StreamKinds.TheVariants.{AnyKind}
use Rattle.ac_automaton.specs.declared.error.StreamError.TheVariants.{Memory}
use Rattle.ac_automaton.proofs.stream.StreamAnswerLemmas.{nothing-moved}
use Rattle.ac_literal.specs.Packed.{bytes_of}
use Rattle.aho_corasick.specs.AhoCorasick.{as_built, supported_by}
use Rattle.acsub.specs.Rules.Sides.{replacements_of}
use Rattle.acsub.proofs.stream.ReplacedLemmas.{has-replaced}
use Rattle.acsub.proofs.stream.StreamedLemmas.{cost-nothing}
use Rattle.acsub.proofs.stream.replace.replace_stream.Goals as goal

pub returns-in_err-replacements-clause-replaced : goal.returns-in_err-replacements-clause-replaced
returns-in_err-replacements-clause-replaced g c =
    let p = err_from_is_err_and c.from_residual.result c.from_residual.ensures.1 in
    rw (p.1, p.2)
    (nothing-moved g.R.Read.remaining g.W.Write.contents AnyKind (as_built c.args.engine.now) (supported_by c.args.engine.now)
    (replacements_of c.args.rules.now) c.args.reader.now c.args.writer.now Memory c.requires.can)

pub returns-in_err-replacements-clause-costs : goal.returns-in_err-replacements-clause-costs
returns-in_err-replacements-clause-costs g c =
    let p = err_from_is_err_and c.from_residual.result c.from_residual.ensures.1 in
    rw p.1 (cost-nothing Picks (as_built c.args.engine.now) c.args.reader.now c.args.steps.now p.0)

pub returns-in_err-output-clause-replaced : goal.returns-in_err-output-clause-replaced
returns-in_err-output-clause-replaced g c =
    let p = err_from_is_err_and c.from_residual-in_err-output.result c.from_residual-in_err-output.ensures.1 in
    rw (p.1, p.2)
    (nothing-moved g.R.Read.remaining g.W.Write.contents AnyKind (as_built c.args.engine.now) (supported_by c.args.engine.now)
    (replacements_of c.args.rules.now) c.args.reader.now c.args.writer.now Memory c.requires.can)

pub returns-in_err-output-clause-costs : goal.returns-in_err-output-clause-costs
returns-in_err-output-clause-costs g c =
    let p = err_from_is_err_and c.from_residual-in_err-output.result c.from_residual-in_err-output.ensures.1 in
    rw p.1 (cost-nothing Picks (as_built c.args.engine.now) c.args.reader.now c.args.steps.now p.0)

pub returns-clause-replaced : goal.returns-clause-replaced
returns-clause-replaced g c =
    let pumped = c.try_stream_pump_matches-replaced in
    (has-replaced g.W.Write.contents (λ k. k.output) (λ k. k.tally)
    (λ k. replacing (map (λ r. r.now) k.replacements.now)) (λ patterns k. length k.replacements.now ≡ patterns)
    (λ k. replacing-piecewise _)
    (record { replacements = c.as_slice.result; output = c.in_ok-output.output; tally = c.args.tally.now }, c.args.writer.now)
    c.in_ok-output.ensures (replacements_of c.args.rules.now)
    (ap replacing (ap bytes_of c.as_slice.ensures.value ∙ c.in_ok-replacements.ensures)) g.R.Read.remaining
    (as_built c.args.engine.now) (supported_by c.args.engine.now) c.args.reader.now pumped.new.reader
    (pumped.new.sink, pumped.new.writer) c.args.steps.now pumped.new.steps c.requires.can pumped.result
    pumped.ensures).replaced

pub returns-clause-costs : goal.returns-clause-costs
returns-clause-costs g c =
    let pumped = c.try_stream_pump_matches-replaced in
    (has-replaced g.W.Write.contents (λ k. k.output) (λ k. k.tally)
    (λ k. replacing (map (λ r. r.now) k.replacements.now)) (λ patterns k. length k.replacements.now ≡ patterns)
    (λ k. replacing-piecewise _)
    (record { replacements = c.as_slice.result; output = c.in_ok-output.output; tally = c.args.tally.now }, c.args.writer.now)
    c.in_ok-output.ensures (replacements_of c.args.rules.now)
    (ap replacing (ap bytes_of c.as_slice.ensures.value ∙ c.in_ok-replacements.ensures)) g.R.Read.remaining
    (as_built c.args.engine.now) (supported_by c.args.engine.now) c.args.reader.now pumped.new.reader
    (pumped.new.sink, pumped.new.writer) c.args.steps.now pumped.new.steps c.requires.can pumped.result
    pumped.ensures).costs

pub returns-clause-counts : goal.returns-clause-counts
returns-clause-counts g c =
    let pumped = c.try_stream_pump_matches-replaced in
    (has-replaced g.W.Write.contents (λ k. k.output) (λ k. k.tally)
    (λ k. replacing (map (λ r. r.now) k.replacements.now)) (λ patterns k. length k.replacements.now ≡ patterns)
    (λ k. replacing-piecewise _)
    (record { replacements = c.as_slice.result; output = c.in_ok-output.output; tally = c.args.tally.now }, c.args.writer.now)
    c.in_ok-output.ensures (replacements_of c.args.rules.now)
    (ap replacing (ap bytes_of c.as_slice.ensures.value ∙ c.in_ok-replacements.ensures)) g.R.Read.remaining
    (as_built c.args.engine.now) (supported_by c.args.engine.now) c.args.reader.now pumped.new.reader
    (pumped.new.sink, pumped.new.writer) c.args.steps.now pumped.new.steps c.requires.can pumped.result
    pumped.ensures).counts

pub returns-clause-accepted : goal.returns-clause-accepted
returns-clause-accepted g c =
    let pumped = c.try_stream_pump_matches-replaced in
    (has-replaced g.W.Write.contents (λ k. k.output) (λ k. k.tally)
    (λ k. replacing (map (λ r. r.now) k.replacements.now)) (λ patterns k. length k.replacements.now ≡ patterns)
    (λ k. replacing-piecewise _)
    (record { replacements = c.as_slice.result; output = c.in_ok-output.output; tally = c.args.tally.now }, c.args.writer.now)
    c.in_ok-output.ensures (replacements_of c.args.rules.now)
    (ap replacing (ap bytes_of c.as_slice.ensures.value ∙ c.in_ok-replacements.ensures)) g.R.Read.remaining
    (as_built c.args.engine.now) (supported_by c.args.engine.now) c.args.reader.now pumped.new.reader
    (pumped.new.sink, pumped.new.writer) c.args.steps.now pumped.new.steps c.requires.can pumped.result
    pumped.ensures).accepted
