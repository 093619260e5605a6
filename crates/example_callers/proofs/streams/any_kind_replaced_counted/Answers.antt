-- What was read is the text.
use Rattle.std.proofs.Common.{List, ℕ, Some, map, ap}
use Rattle.std.specs.Borrow.{Bor}
use Rattle.aho_corasick.specs.AhoCorasick.{as_built}
use Rattle.aho_corasick.proofs.lemmas.StreamLemmas.{stream-costs}
use Rattle.example_callers.proofs.streams.any_kind_replaced_counted.Goals as goal

pub returns : goal.returns
returns c =
    let reads = ap (λ r. Some r.now) c.new-reader.ensures.device in
    let called = c.try_stream_replace_all_any_kind_counted in
    stream-costs _ (λ v. Some v.items) (as_built c.args.ac.now) (map (λ r. r.now) c.args.replacements.now)
    c.args.text.now c.new-reader.result called.new.reader c.args.writer.now called.new.writer c.args.steps.now
    called.new.steps called.result reads called.ensures.moved called.ensures.cost
