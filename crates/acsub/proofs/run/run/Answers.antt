-- What was read, and the text of it that was written.
use Rattle.acsub.proofs.run.RunLemmas.{wrote-text_by}
use Rattle.acsub.proofs.run.run.Goals as goal

pub returns-clause-written : goal.returns-clause-written
returns-clause-written g c =
    let ran = c.run_counted in
    wrote-text_by g.R.Read.remaining g.W.Write.contents (c.args.reader.now, c.args.writer.now)
    (ran.new.reader, ran.new.writer) c.args.settings.now c.args.rules.now ran.result ran.ensures.answered
