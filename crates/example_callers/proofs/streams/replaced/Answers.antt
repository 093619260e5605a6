-- All bytes of the reader are written, with each match replaced.
use Rattle.std.proofs.Common.{List, ℕ, Some, map, ap}
use Rattle.std.specs.Borrow.{Bor}
use Rattle.aho_corasick.specs.AhoCorasick.{as_built}
use Rattle.aho_corasick.proofs.lemmas.StreamLemmas.{stream-replaces}
use Rattle.example_callers.proofs.streams.replaced.Goals as goal

pub returns-in-OnlyStandard : goal.returns-in-OnlyStandard
returns-in-OnlyStandard c =
    let reads = ap (λ r. Some r.now) c.new-reader.ensures.device in
    let called = c.try_stream_replace_all in
    stream-replaces _ (λ v. v.items) (as_built c.args.ac.now) (map (λ r. r.now) c.args.replacements.now) c.args.text.now
    c.new-reader.result called.new.reader c.args.writer.now called.new.writer called.result reads called.ensures.moved

pub returns-in-AnyKind : goal.returns-in-AnyKind
returns-in-AnyKind c =
    let reads = ap (λ r. Some r.now) c.new-reader.ensures.device in
    let called = c.try_stream_replace_all_any_kind_counted in
    stream-replaces _ (λ v. v.items) (as_built c.args.ac.now) (map (λ r. r.now) c.args.replacements.now) c.args.text.now
    c.new-reader.result called.new.reader c.args.writer.now called.new.writer called.result reads called.ensures.moved
