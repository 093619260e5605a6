-- The check or the build says why nothing was prepared.
use Rattle.std.proofs.Common.{refl}
use Rattle.std.proofs.lemmas.Result.{err_from_is_err_and}
use Rattle.acsub.specs.Masked.{mask_demand}
use Rattle.acsub.proofs.early.EarlyLemmas.{unbuilt-unready}
use Rattle.acsub.proofs.mask.prepare_mask.Goals as goal

pub returns-in_err-check_mask-clause-refused : goal.returns-in_err-check_mask-clause-refused
returns-in_err-check_mask-clause-refused c =
    let p = err_from_is_err_and c.from_residual.result c.from_residual.ensures.1 in
    rw (p.1, p.2) c.in_err-check_mask.ensures.refused

pub automaton_for-requires : goal.automaton_for-requires
automaton_for-requires c = c.in_ok-check_mask.ensures.accepted.automaton

pub returns-in_err-automaton-clause-refused : goal.returns-in_err-automaton-clause-refused
returns-in_err-automaton-clause-refused c =
    let p = err_from_is_err_and c.from_residual-in_err-automaton.result c.from_residual-in_err-automaton.ensures.1 in
    rw (p.1, p.2)
    (unbuilt-unready (mask_demand c.args.settings.now c.args.rules.now c.args.mask.byte)
    c.in_ok-check_mask.ensures.accepted c.in_err-automaton.field-0.0 c.in_err-automaton.ensures.fails)

pub returns-clause-ready : goal.returns-clause-ready
returns-clause-ready c =
    record {
      maskable = c.in_ok-check_mask.ensures.accepted;
      serves = c.in_ok-automaton.ensures.serves;
      same = (refl, refl, refl);
    }
