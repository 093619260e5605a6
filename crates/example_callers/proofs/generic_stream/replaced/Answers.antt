-- All bytes of the reader are written, with each match replaced.
use Rattle.std.proofs.Common.{List, ℕ, Some, map, ap}
use Rattle.std.specs.Borrow.{Bor}
use Rattle.aho_corasick.proofs.lemmas.StreamLemmas.{stream-replaces}
use Rattle.example_callers.proofs.generic_stream.replaced.Goals as goal

pub returns : goal.returns
returns g c =
    let reads = ap (λ r. Some r.now) c.new-reader.ensures.device in
    stream-replaces _ (λ v. v.items) (g.A.Automaton.built c.args.automaton.now)
    (map (λ r. r.now) c.args.replacements.now) c.args.text.now c.new-reader.result c.try_stream_replace_all.new.reader
    c.args.writer.now c.try_stream_replace_all.new.writer c.try_stream_replace_all.result reads
    c.try_stream_replace_all.ensures.replaced
