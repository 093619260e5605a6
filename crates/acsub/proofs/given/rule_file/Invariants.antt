use Rattle.std.proofs.Common.{◌≡◌, ◌++◌, length}
use Rattle.clap.specs.Walk.{texts}
use Rattle.acsub.specs.Given.{given_file}
use Rattle.acsub.proofs.given.rule_file.Given as goal

abbrev pub invariant-loop-rest : goal.invariant-loop-rest
invariant-loop-rest l =
    l.file.items ++ given_file (texts l.rest) (texts l.by) ≡ given_file (texts l.patterns) (texts l.replacements)

abbrev pub decreases-loop-rest : goal.decreases-loop-rest
decreases-loop-rest l = length l.rest
