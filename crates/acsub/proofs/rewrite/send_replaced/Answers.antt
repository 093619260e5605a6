-- Each turn sends the bytes before the next match, and then its replacement.
use Rattle.std.proofs.Common.{◌++◌, [], refl, ap, ◌∙◌, arith}
use Rattle.std.specs.Prelude.{slice_range}
use Rattle.std.proofs.lemmas.Result.{err_from_is_err_and}
use Rattle.std.proofs.lemmas.List.{take_rest}
use Rattle.acsub.specs.Rules.Lines.{rule_at}
use Rattle.acsub.specs.Matches.{left_in}
use Rattle.acsub.specs.Rules.Sides.{replacements_of}
use Rattle.ac_automaton.proofs.stream.devices.OutputLemmas.{Sent-none, Sent-then}
use Rattle.acsub.proofs.rewrite.RewriteLemmas.{counted-end, counted-step, on-ok, replaced-step, replacement_of_rule}
use Rattle.ac_automaton.proofs.lemmas.ReplaceLemmas.{lies-first, replaced-end}
use Rattle.acsub.proofs.rewrite.SendingLemmas.{sends-last, sends-stopped}
use Rattle.acsub.proofs.rewrite.send_replaced.Goals as goal

pub loop-found-init : goal.loop-found-init
loop-found-init g c =
    record {
      front = [];
      sent = rw c.requires.fresh Sent-none;
      order = refl;
      lies = c.requires.lie;
      within = omega arith;
      counted = λ plan n begun h. h;
      found = refl;
    }

pub replacement-requires : goal.replacement-requires
replacement-requires g c =
    let number = c.as_usize.ensures.value ∙ c.pattern.ensures in
    omega (arith, number, (lies-first c.in-Some.ensures.yields c.loop-found.invariant.lies).0)

pub returns-in_err-send_exchanged-clause-sent : goal.returns-in_err-send_exchanged-clause-sent
returns-in_err-send_exchanged-clause-sent g c =
    let p = err_from_is_err_and c.from_residual.result c.from_residual.ensures.1 in
    let before = c.loop-found.invariant in
    let seen = c.in-Some.ensures.yields in
    let lies = lies-first seen before.lies in
    let number = c.as_usize.ensures.value ∙ c.pattern.ensures in
    let stopped = c.in_err-send_exchanged.ensures.sent in
    rw (p.1, p.2) (sends-stopped _ _ _ _ _ _ before.front _ _ before.sent _ [] _
    (replaced-step c.loop-found.at c.in-Some.found (left_in c.loop-found.picks) (left_in c.next_counted.new.self)
    c.args.input.now (replacements_of c.args.rules.now) before.front _ _ _ seen
    (ap (λ k. slice_range c.args.input.now c.loop-found.at k) c.start.ensures.value)
    (c.replacement.ensures ∙ ap (λ n. (rule_at c.args.rules.now n).1) number
    ∙ replacement_of_rule c.args.rules.now _ lies.0) before.order)
    (stopped.0, stopped.1, refl))

pub returns-in_err-send_exchanged-clause-cost : goal.returns-in_err-send_exchanged-clause-cost
returns-in_err-send_exchanged-clause-cost g c =
    λ plan n begun h. c.next_counted.ensures.counts plan n begun (c.loop-found.invariant.counted plan n begun h)

pub loop-found-preserved : goal.loop-found-preserved
loop-found-preserved g c =
    let before = c.loop-found.invariant in
    let seen = c.in-Some.ensures.yields in
    let lies = lies-first seen before.lies in
    let number = c.as_usize.ensures.value ∙ c.pattern.ensures in
    let end = c.end-at.ensures.value in
    record {
      front = _;
      sent = Sent-then before.sent c.in_ok-send_exchanged.ensures.sent;
      order = rw end
          (replaced-step c.loop-found.at c.in-Some.found (left_in c.loop-found.picks) (left_in c.next_counted.new.self)
          c.args.input.now (replacements_of c.args.rules.now) before.front _ _ _ seen
          (ap (λ k. slice_range c.args.input.now c.loop-found.at k) c.start.ensures.value)
          (c.replacement.ensures ∙ ap (λ n. (rule_at c.args.rules.now n).1) number
          ∙ replacement_of_rule c.args.rules.now _ lies.0) before.order);
      lies = rw end lies.4;
      within = omega (arith, end, lies.3);
      counted = λ plan n begun h. c.next_counted.ensures.counts plan n begun (before.counted plan n begun h);
      found = counted-step _ _ _ c.in-Some.found _ _ c.in-Some.ensures.yields c.add.ensures before.found;
    }

pub returns-clause-sent : goal.returns-clause-sent
returns-clause-sent g c =
    let before = c.loop-found.invariant in
    let end = replaced-end c.loop-found.at c.args.input.now (replacements_of c.args.rules.now) before.front
    c.in_default.ensures.yields.0 before.order in
    sends-last _ _ _ _ _ _ before.front _ _ before.sent [] c.send_all.result
    (ap (λ t. before.front ++ t) (take_rest c.args.input.now c.loop-found.at) ∙ end) c.send_all.ensures.sent

pub returns-clause-cost : goal.returns-clause-cost
returns-clause-cost g c =
    λ plan n begun h. c.next_counted.ensures.counts plan n begun (c.loop-found.invariant.counted plan n begun h)

pub returns-clause-counts : goal.returns-clause-counts
returns-clause-counts g c =
    on-ok _ c.send_all.result
    (counted-end _ _ _ c.in_default.ensures.yields.0 c.loop-found.invariant.found)
