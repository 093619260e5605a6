-- A replacement that succeeds has written all that was read, with each match replaced.
use Rattle.ac_literal.specs.Packed.{bytes_of}
use Rattle.aho_corasick.proofs.lemmas.StreamLemmas.{stream-replaced}
use Rattle.aho_corasick.proofs.ahocorasick.AhoCorasick.try_stream_replace_all.Goals as goal

pub returns-clause-replaced : goal.returns-clause-replaced
returns-clause-replaced g c =
    stream-replaced g.R.Read.remaining g.W.Write.contents c.args.self.now (bytes_of c.args.replacements.now)
    c.args.reader.now c.try_stream_replace_all_counted.new.reader c.args.writer.now c.try_stream_replace_all_counted.new.writer
    c.try_stream_replace_all_counted.result c.try_stream_replace_all_counted.ensures.moved
