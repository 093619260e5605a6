-- Each turn sends the line of the next match. At the end nothing is held back.
use Rattle.std.proofs.Common.{◌++◌, [], refl, ◌∙◌}
use Rattle.std.proofs.lemmas.List.{append-nil}
use Rattle.std.proofs.lemmas.Result.{err_from_is_err_and}
use Rattle.ac_input.specs.Text.{line, listed}
use Rattle.ac_automaton.proofs.stream.devices.OutputLemmas.{Sent-none, Sent-then}
use Rattle.acsub.specs.Matches.{left_in}
use Rattle.acsub.proofs.rewrite.RewriteLemmas.{counted-end, counted-step, listed-end, listed-step, on-ok}
use Rattle.acsub.proofs.rewrite.SendingLemmas.{sends-last, sends-stopped}
use Rattle.acsub.proofs.rewrite.send_list.Goals as goal

pub loop-found-init : goal.loop-found-init
loop-found-init g c = record { front = []; sent = rw c.requires Sent-none; order = refl; counted = λ plan n begun h. h; found = refl }

pub returns-in_err-send-clause-sent : goal.returns-in_err-send-clause-sent
returns-in_err-send-clause-sent g c =
    let p = err_from_is_err_and c.from_residual.result c.from_residual.ensures.1 in
    let before = c.loop-found.invariant in
    let found = c.in-Some.found in
    let stopped = rw (c.as_bytes.ensures, c.new.ensures) at c.in_err-send.ensures.sent in
    rw (p.1, p.2)
    (sends-stopped _ _ _ _ _ _ before.front (line found) _ before.sent (listed (left_in c.next_counted.new.self)) [] _
    (listed-step found _ _ before.front _ c.in-Some.ensures.yields before.order) (stopped.0, stopped.1, refl))

pub returns-in_err-send-clause-cost : goal.returns-in_err-send-clause-cost
returns-in_err-send-clause-cost g c =
    λ plan n begun h. c.next_counted.ensures.counts plan n begun (c.loop-found.invariant.counted plan n begun h)

pub loop-found-preserved : goal.loop-found-preserved
loop-found-preserved g c =
    let before = c.loop-found.invariant in
    let found = c.in-Some.found in
    let sent = rw (c.as_bytes.ensures, c.new.ensures) at c.in_ok-send.ensures.sent in
    record {
      front = before.front ++ line found;
      sent = Sent-then before.sent sent;
      order = listed-step found _ _ before.front _ c.in-Some.ensures.yields before.order;
      counted = λ plan n begun h. c.next_counted.ensures.counts plan n begun (before.counted plan n begun h);
      found = counted-step _ _ _ c.in-Some.found _ _ c.in-Some.ensures.yields c.add.ensures before.found;
    }

pub returns-clause-sent : goal.returns-clause-sent
returns-clause-sent g c =
    let before = c.loop-found.invariant in
    let end = listed-end _ before.front _ c.in_default.ensures.yields.0 before.order in
    sends-last _ _ _ _ _ _ before.front [] _ before.sent [] c.send_held.result (append-nil before.front ∙ end)
    (rw c.send_held.ensures.none at c.send_held.ensures.sent)

pub returns-clause-cost : goal.returns-clause-cost
returns-clause-cost g c =
    λ plan n begun h. c.next_counted.ensures.counts plan n begun (c.loop-found.invariant.counted plan n begun h)

pub returns-clause-counts : goal.returns-clause-counts
returns-clause-counts g c =
    on-ok _ c.send_held.result
    (counted-end _ _ _ c.in_default.ensures.yields.0 c.loop-found.invariant.found)
