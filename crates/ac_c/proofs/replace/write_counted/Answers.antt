-- The matches of the walk are those of the haystack.
use Rattle.std.proofs.Common.{length, rules}
use Rattle.ac_c.proofs.replace.ReplaceLemmas.{matches-in_order}
use Rattle.ac_c.proofs.replace.write_counted.Goals as goal

pub write_text-requires-clause-lie : goal.write_text-requires-clause-lie
write_text-requires-clause-lie c =
    matches-in_order c.args.ac.now c.args.haystack.now (length c.args.replacements.now) _ (search rules)
    (rw c.new-input.ensures at c.find_iter.ensures.over.1)
