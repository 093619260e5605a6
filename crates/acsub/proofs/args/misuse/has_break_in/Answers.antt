use Rattle.std.proofs.Common.{◌∙◌, ap}
use Rattle.clap.specs.Words.{found_of}
use Rattle.clap.proofs.WalkLemmas.{raw_values-rows}
use Rattle.acsub.specs.Args.Misuse.{has_break}
use Rattle.acsub.proofs.args.ValueLemmas.{found-values, no-values}
use Rattle.acsub.proofs.args.misuse.has_break_in.Goals as goal

pub returns-in-Some : goal.returns-in-Some
returns-in-Some c =
    c.has_break.ensures
    ∙ ap has_break
    (found-values c.get_strs.result c.in-Some.sides _
    (c.get_strs.ensures ∙ raw_values-rows (found_of c.args.matches.now) c.args.id.now) c.in-Some.is)

pub returns-in-None : goal.returns-in-None
returns-in-None c =
    ap has_break
    (no-values c.get_strs.result _
    (c.get_strs.ensures ∙ raw_values-rows (found_of c.args.matches.now) c.args.id.now) c.in-None.is)
