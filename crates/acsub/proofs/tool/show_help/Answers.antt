-- The text was written, and then the writer was flushed.
use Rattle.acsub.proofs.tool.OutcomeLemmas.{help-failed, help-shown}
use Rattle.acsub.proofs.tool.show_help.Goals as goal

pub returns-in-Ok-write_text : goal.returns-in-Ok-write_text
returns-in-Ok-write_text g c =
    help-shown g.W.Write.contents c.args.writer.now c.write_text.new.writer c.finish.new.writer c.as_str.result.now
    c.in-Ok-write_text.ensures c.finish.result c.finish.ensures

pub returns : goal.returns
returns g c =
    help-failed g.W.Write.contents c.args.writer.now c.write_text.new.writer c.finish-in-Err.new.writer
    c.as_str.result.now c.in-Err.error c.in-Err.ensures c.finish-in-Err.result c.finish-in-Err.ensures
