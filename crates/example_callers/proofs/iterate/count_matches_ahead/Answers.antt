-- There is at most one match more than the text has bytes.
use Rattle.std.proofs.Common.{Ok, ap, inl, length, refl, arith}
use Rattle.aho_corasick.specs.AhoCorasick.{as_built, supported_by}
use Rattle.aho_corasick.proofs.lemmas.WalkLemmas.{left-all, matches-few}
use Rattle.example_callers.proofs.iterate.count_matches_ahead.Goals as goal

pub count-requires-clause-fits : goal.count-requires-clause-fits
count-requires-clause-fits c =
    let b = as_built c.args.ac.now in
    let left =
    ap length
    (left-all b (supported_by c.args.ac.now) c.args.text.now _ (Ok c.in_ok-try_find_iter_ahead.field-0) _
    c.in_ok-try_find_iter_ahead.ensures.answer refl c.new.ensures) in
    let few = matches-few b c.args.text.now in
    inl (omega arith)
