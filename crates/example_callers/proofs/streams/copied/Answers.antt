-- The closure writes what matched.
use Rattle.std.proofs.Common.{ℕ, List, Some, ap, rules}
use Rattle.std.specs.Borrow.{Bor}
use Rattle.aho_corasick.specs.AhoCorasick.{as_built, supported_by}
use Rattle.aho_corasick.proofs.lemmas.StreamLemmas.{stream-writes}
use Rattle.example_callers.proofs.streams.copied.Goals as goal

pub returns : goal.returns
returns c =
    let ac = c.args.ac.now in
    let reads = ap (λ r. Some r.now) c.new-reader.ensures.device in
    let called = c.try_stream_replace_all_with in
    stream-writes _ (λ v. v.items) _ (as_built ac) (supported_by ac) _ c.args.text.now c.new-reader.result
    called.new.reader c.args.writer.now called.new.writer called.result reads
    (λ f after found text dst left called. search rules) called.ensures
