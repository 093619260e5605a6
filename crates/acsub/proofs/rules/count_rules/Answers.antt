use Rattle.std.proofs.Common.{◌≢◌, ◌+◌, length, refl, sym, ◌∙◌, arith}
use Rattle.std.proofs.lemmas.Bool.{false≢true, eqb-true, eq-eqb}
use Rattle.acsub.proofs.rules.GrammarLemmas.{bad_foreign, count_all, count_bad, count_bound, count_more, line_shorter}
use Rattle.acsub.proofs.rules.count_rules.Goals as goal

pub returns-then-refuses : goal.returns-then-refuses
returns-then-refuses c = bad_foreign c.args.form c.args.bytes.now (c.if-refuses.ensures.0 refl)

pub loop-line-smaller : goal.loop-line-smaller
loop-line-smaller c =
    line_shorter c.args.form c.args.bytes.now c.loop-line.rest.now c.in-Some.line
    (c.in-Some.ensures c.args.bytes.now c.first_line_has-tabbed.ensures)

pub loop-line-preserved : goal.loop-line-preserved
loop-line-preserved c =
    count_more c.args.form c.args.bytes.now c.loop-line.rest.now c.loop-line.count c.loop-line.invariant c.in-Some.line
    (c.in-Some.ensures c.args.bytes.now c.first_line_has-tabbed.ensures)

pub overflow_add-count : goal.overflow_add-count
overflow_add-count c =
    let next = count_more c.args.form c.args.bytes.now c.loop-line.rest.now c.loop-line.count c.loop-line.invariant
    c.in-Some.line (c.in-Some.ensures c.args.bytes.now c.first_line_has-tabbed.ensures) in
    let bound = count_bound c.args.form c.args.bytes.now c.in-Some.line.rest.now (c.loop-line.count + 1) next in
    omega arith

pub overflow_add-result : goal.overflow_add-result
overflow_add-result c =
    let rest = c.loop-line.rest.now in
    let bound = count_bound c.args.form c.args.bytes.now rest c.loop-line.count c.loop-line.invariant in
    let filled : length rest ≢ 0 = λ empty. false≢true (c.if-is_empty.ensures ∙ eq-eqb (length rest) 0 empty) in
    omega arith

pub returns-then-is_empty : goal.returns-then-is_empty
returns-then-is_empty c =
    let rest = c.loop-line.rest.now in
    count_all c.args.form c.args.bytes.now rest c.loop-line.count c.loop-line.invariant
    (λ foreign. false≢true (c.if-refuses.ensures.1 foreign))
    (eqb-true (length rest) 0 (sym c.if-is_empty.ensures))

pub returns-else-is_empty : goal.returns-else-is_empty
returns-else-is_empty c =
    let rest = c.loop-line.rest.now in
    count_bad c.args.form c.args.bytes.now rest c.loop-line.count c.loop-line.invariant
    (λ foreign. false≢true (c.if-refuses.ensures.1 foreign))
    (λ empty. false≢true (c.if-is_empty.ensures ∙ eq-eqb (length rest) 0 empty))
    (c.in_default.ensures c.args.bytes.now c.first_line_has-tabbed.ensures)
