-- The check or the build says why nothing was prepared.
use Rattle.std.proofs.Common.{refl}
use Rattle.std.proofs.lemmas.Result.{err_from_is_err_and}
use Rattle.acsub.specs.WordRun.{word_demand}
use Rattle.acsub.proofs.early.EarlyLemmas.{unbuilt-unready, unmet-unready}
use Rattle.acsub.proofs.word.prepare_words.Goals as goal

pub returns-in_err-check_words-clause-refused : goal.returns-in_err-check_words-clause-refused
returns-in_err-check_words-clause-refused c =
    let p = err_from_is_err_and c.from_residual.result c.from_residual.ensures.1 in
    rw (p.1, p.2)
    (unmet-unready (word_demand c.args.settings.now c.args.rules.now) c.in_err-check_words.field-0.0
    c.in_err-check_words.ensures.refused)

pub returns-in_err-automaton-clause-refused : goal.returns-in_err-automaton-clause-refused
returns-in_err-automaton-clause-refused c =
    let p = err_from_is_err_and c.from_residual-in_err-automaton.result c.from_residual-in_err-automaton.ensures.1 in
    rw (p.1, p.2)
    (unbuilt-unready (word_demand c.args.settings.now c.args.rules.now) c.in_ok-check_words.ensures.accepted
    c.in_err-automaton.field-0.0 (rw c.for_words.ensures at c.in_err-automaton.ensures.fails))

pub returns-clause-ready : goal.returns-clause-ready
returns-clause-ready c =
    record {
      searchable = c.in_ok-check_words.ensures.accepted;
      serves = rw c.for_words.ensures at c.in_ok-automaton.ensures.serves;
      same = (refl, refl);
    }
