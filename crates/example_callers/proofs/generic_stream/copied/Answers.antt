-- The closure writes what matched.
use Rattle.std.proofs.Common.{ℕ, List, Some, ap, rules}
use Rattle.std.specs.Borrow.{Bor}
use Rattle.aho_corasick.proofs.lemmas.StreamLemmas.{stream-writes}
use Rattle.example_callers.proofs.generic_stream.copied.Goals as goal

pub returns : goal.returns
returns g c =
    let a = c.args.automaton.now in
    let reads = ap (λ r. Some r.now) c.new-reader.ensures.device in
    stream-writes _ (λ v. v.items) _ (g.A.Automaton.built a) (g.A.Automaton.supports a) _ c.args.text.now
    c.new-reader.result c.try_stream_replace_all_with.new.reader c.args.writer.now
    c.try_stream_replace_all_with.new.writer c.try_stream_replace_all_with.result reads
    (λ f after found text dst left called. search rules) c.try_stream_replace_all_with.ensures
