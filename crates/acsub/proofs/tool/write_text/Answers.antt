-- A failed write of the text is no refused search, and the run returns it.
use Rattle.acsub.proofs.tool.OutcomeLemmas.{write-accepted}
use Rattle.acsub.proofs.tool.write_text.Goals as goal

pub told-requires : goal.told-requires
told-requires g c =
    write-accepted g.W.Write.contents c.args.writer.now c.write_whole.new.writer _ c.write_whole.result
    c.write_whole.ensures.took
