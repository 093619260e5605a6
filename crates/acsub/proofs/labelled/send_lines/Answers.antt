-- Each turn sends the next line. At the end nothing is held back.
use Rattle.std.proofs.Common.{[], length, refl, sym}
use Rattle.std.proofs.lemmas.Bool.{eqb-true}
use Rattle.std.proofs.lemmas.Result.{err_from_is_err_and}
use Rattle.ac_automaton.proofs.stream.devices.OutputLemmas.{Sent-none, Sent-then}
use Rattle.acsub.specs.Labelled.{label_of}
use Rattle.acsub.proofs.rewrite.SendingLemmas.{sends-last, sends-stopped}
use Rattle.acsub.proofs.labelled.LabelledLemmas.{begins-end, begins-step, labelled-end, labelled-step}
use Rattle.acsub.proofs.labelled.send_lines.Goals as goal

pub loop-rest-init : goal.loop-rest-init
loop-rest-init g c = record { front = []; sent = Sent-none; order = refl; begins = refl }

pub returns-in_err-send_line-clause-sent : goal.returns-in_err-send_line-clause-sent
returns-in_err-send_line-clause-sent g c =
    let p = err_from_is_err_and c.from_residual.result c.from_residual.ensures.1 in
    let before = c.loop-rest.invariant in
    rw (p.1, p.2)
    (sends-stopped _ _ _ _ _ _ before.front _ _ before.sent _ _ _
    (labelled-step _ _ _ _ c.split_line-ended.ensures.line _ (label_of c.args.label.now) before.front _ before.order)
    c.in_err-send_line.ensures)

pub returns-in_err-send_line-clause-none : goal.returns-in_err-send_line-clause-none
returns-in_err-send_line-clause-none g c = c.in_err-send_line.ensures.2

pub loop-rest-preserved : goal.loop-rest-preserved
loop-rest-preserved g c =
    let before = c.loop-rest.invariant in
    let split = c.split_line-ended.ensures in
    record {
      front = _;
      sent = Sent-then before.sent c.in_ok-send_line.ensures;
      order = labelled-step _ _ _ _ split.line _ (label_of c.args.label.now) before.front _ before.order;
      begins = begins-step _ _ _ _ split.line _ _ before.begins;
    }

pub returns-clause-sent : goal.returns-clause-sent
returns-clause-sent g c =
    let before = c.loop-rest.invariant in
    let label = label_of c.args.label.now in
    let none = eqb-true (length c.loop-rest.rest.now) 0 (sym c.loop-rest-test.ensures) in
    sends-last _ _ _ _ _ _ before.front [] _ before.sent _ c.send_held.result
    (labelled-end label before.front _ c.loop-rest.rest.now c.loop-rest.begins none before.order)
    c.send_held.ensures.sent

pub returns-clause-begins : goal.returns-clause-begins
returns-clause-begins g c =
    let none = eqb-true (length c.loop-rest.rest.now) 0 (sym c.loop-rest-test.ensures) in
    begins-end c.loop-rest.rest.now c.loop-rest.begins _ c.send_held.result none c.loop-rest.invariant.begins
