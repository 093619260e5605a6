use Rattle.std.proofs.Common.{◌∙◌, ap, length}
use Rattle.clap.specs.Words.{found_of}
use Rattle.clap.proofs.WalkLemmas.{raw_values-rows}
use Rattle.acsub.proofs.args.ValueLemmas.{found-values, no-values, same-length}
use Rattle.acsub.proofs.args.count_of.Goals as goal

pub returns-in-Some : goal.returns-in-Some
returns-in-Some c =
    same-length c.in-Some.values.now _
    (found-values c.get_strs.result c.in-Some.values _
    (c.get_strs.ensures ∙ raw_values-rows (found_of c.args.matches.now) c.args.id.now) c.in-Some.is)

pub returns-in-None : goal.returns-in-None
returns-in-None c =
    ap length
    (no-values c.get_strs.result _
    (c.get_strs.ensures ∙ raw_values-rows (found_of c.args.matches.now) c.args.id.now) c.in-None.is)
