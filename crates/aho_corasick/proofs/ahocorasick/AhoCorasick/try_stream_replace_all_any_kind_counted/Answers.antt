-- A start kind without unanchored searches refuses a stream; otherwise the automaton that serves decides.
use Rattle.std.proofs.Common.{subst, sym}
use Rattle.std.proofs.lemmas.Result.{err_from_is_err_and}
use Rattle.ac_literal.specs.Packed.{bytes_of}
use Rattle.ac_automaton.specs.Stream.Replace.{AcceptsStream}
use Rattle.ac_automaton.specs.declared.error.StreamError.TheVariants.{Config}
use Rattle.ac_automaton.specs.declared.stream.StreamKinds.TheVariants.{AnyKind}
use Rattle.ac_automaton.proofs.stream.StreamAnswerLemmas.{nothing-moved}
use Rattle.aho_corasick.specs.AhoCorasick.{as_built, serving_engine, supported_by}
use Rattle.aho_corasick.specs.Engine.{engine_supported_by}
use Rattle.aho_corasick.proofs.lemmas.PumpLemmas.{accepts-served, config-refused}
use Rattle.aho_corasick.proofs.ahocorasick.AhoCorasick.try_stream_replace_all_any_kind_counted.Goals as goal

pub returns-in_err-enforce_anchored_consistency-clause-moved : goal.returns-in_err-enforce_anchored_consistency-clause-moved
returns-in_err-enforce_anchored_consistency-clause-moved g c =
    let p = err_from_is_err_and c.from_residual.result c.from_residual.ensures.1 in
    let ac = c.args.self.now in
    rw (p.1, p.2)
    (nothing-moved g.R.Read.remaining g.W.Write.contents AnyKind (as_built ac) (supported_by ac)
    (bytes_of c.args.replacements.now) c.args.reader.now c.args.writer.now
    (Config c.in_err-enforce_anchored_consistency.field-0.0)
    (config-refused AnyKind (as_built ac) (supported_by ac) c.in_err-enforce_anchored_consistency.field-0.0
    c.in_err-enforce_anchored_consistency.ensures.refused))

pub returns-in-Dfa-clause-accepted : goal.returns-in-Dfa-clause-accepted
returns-in-Dfa-clause-accepted g c =
    let ac = c.args.self.now in
    let replaced = c.try_stream_replace_all_any_kind_counted-in-Dfa in
    let accepts =
    subst (λ b. AcceptsStream AnyKind b (engine_supported_by (serving_engine ac)) replaced.result)
    (sym c.serving.ensures.built) (rw (c.serving.ensures.engine, c.in-Dfa.is) replaced.ensures.accepted) in
    accepts-served (serving_engine ac) ac.start_kind ac.starts c.in_ok-enforce_anchored_consistency.ensures.served
    (as_built ac) AnyKind replaced.result accepts
