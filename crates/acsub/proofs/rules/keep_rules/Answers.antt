use Rattle.acsub.specs.Rules.Sides.{rules_of}
use Rattle.acsub.proofs.rules.GrammarLemmas.{keep_more, kept_all, line_shorter}
use Rattle.acsub.proofs.rules.keep_rules.Goals as goal

pub loop-line-smaller : goal.loop-line-smaller
loop-line-smaller c =
    line_shorter c.args.form c.args.bytes.now c.loop-line.rest.now c.in-Some.line
    (c.in-Some.ensures c.args.bytes.now c.first_line_has-tabbed.ensures)

pub keep_line-requires : goal.keep_line-requires
keep_line-requires c =
    let line = c.in-Some.ensures c.args.bytes.now c.first_line_has-tabbed.ensures in (line.0, line.1)

pub loop-line-preserved : goal.loop-line-preserved
loop-line-preserved c =
    rw c.in_ok-push.ensures.items
    (keep_more c.args.form c.args.bytes.now c.loop-line.rest.now c.in-Some.line c.loop-line.sides.items
    c.in_ok-keep_line.field-0 c.loop-line.invariant
    (c.in-Some.ensures c.args.bytes.now c.first_line_has-tabbed.ensures) c.in_ok-keep_line.ensures.sides)

pub returns-clause-rules : goal.returns-clause-rules
returns-clause-rules c =
    kept_all c.args.form c.args.bytes.now c.requires.0 (rules_of c.loop-line.sides.items) c.loop-line.rest.now
    c.requires.1 c.loop-line.invariant (c.in_default.ensures c.args.bytes.now c.first_line_has-tabbed.ensures)
