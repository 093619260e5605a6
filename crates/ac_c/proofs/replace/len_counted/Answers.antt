-- The matches of the walk are those of the haystack, and the walk is the one over it.
use Rattle.std.proofs.Common.{false, true, length, rules}
use Rattle.std.proofs.lemmas.Bool.{le-leb, lt-leb}
use Rattle.ac_c.specs.Replace.{is_long}
use Rattle.ac_c.proofs.replace.ReplaceLemmas.{len-answers, len-cost, matches-in_order, refused-cost}
use Rattle.ac_c.proofs.replace.len_counted.Goals as goal

pub text_len-requires-clause-lie : goal.text_len-requires-clause-lie
text_len-requires-clause-lie c =
    matches-in_order c.args.ac.now c.args.haystack.now (length c.args.replacements.now) _ (search rules)
    (rw c.new.ensures at c.in-Ok.ensures.answer.2)

pub returns-in-Ok-clause-len : goal.returns-in-Ok-clause-len
returns-in-Ok-clause-len c =
    len-answers c.args.ac.now c.args.haystack.now c.args.replacements.now _ c.text_len.result (search rules)
    (rw c.new.ensures at c.in-Ok.ensures.answer.2) c.text_len.ensures.len

pub returns-in-Ok-clause-cost : goal.returns-in-Ok-clause-cost
returns-in-Ok-clause-cost c =
    len-cost false c.args.ac.now c.args.haystack.now _ _ _ c.text_len.result
    (rw c.new.ensures at c.in-Ok.ensures.answer.1) c.text_len.ensures.cost
    (lt-leb 4096 (length c.args.haystack.now) (search rules))

pub returns-then-replacements-patterns_len-clause-cost : goal.returns-then-replacements-patterns_len-clause-cost
returns-then-replacements-patterns_len-clause-cost c =
    refused-cost (is_long c.args.haystack.now) c.args.ac.now c.args.haystack.now c.args.steps.now

pub returns-in-Err-clause-cost : goal.returns-in-Err-clause-cost
returns-in-Err-clause-cost c =
    refused-cost (is_long c.args.haystack.now) c.args.ac.now c.args.haystack.now c.args.steps.now

pub returns-in-Err-try_find_iter_ahead-clause-cost : goal.returns-in-Err-try_find_iter_ahead-clause-cost
returns-in-Err-try_find_iter_ahead-clause-cost c =
    refused-cost (is_long c.args.haystack.now) c.args.ac.now c.args.haystack.now c.args.steps.now

pub returns-in-Ok-try_find_iter_ahead-clause-cost : goal.returns-in-Ok-try_find_iter_ahead-clause-cost
returns-in-Ok-try_find_iter_ahead-clause-cost c =
    let begun = c.in-Ok-try_find_iter_ahead in let t = c.text_len-in-Ok-try_find_iter_ahead in
    len-cost true c.args.ac.now c.args.haystack.now _ _ _ t.result (rw c.new-2.ensures at begun.ensures.answer.1)
    t.ensures.cost (le-leb 4096 (length c.args.haystack.now) (search rules))
