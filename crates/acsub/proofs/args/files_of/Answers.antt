use Rattle.std.proofs.Common.{◌∙◌, ap}
use Rattle.clap.specs.Walk.{texts}
use Rattle.acsub.proofs.args.ValueLemmas.{joined-texts}
use Rattle.acsub.proofs.args.files_of.Goals as goal

pub returns : goal.returns
returns c =
    joined-texts c.in_ok-files.files.items c.as_slice.result.now c.extend_from_slice.new.self.items _ _
    c.in_ok-extend_from_slice.ensures.items c.in_ok-files.ensures (ap texts c.as_slice.ensures.value ∙ c.in_ok-more.ensures)
