use Rattle.std.proofs.Common.{false}
use Rattle.ac_input.specs.Dictionary.{whole}
use Rattle.example_callers.proofs.packed.PackedLemmas.{candidate-skips}
use Rattle.example_callers.proofs.packed.skip.Goals as goal

pub returns-in-Match : goal.returns-in-Match
returns-in-Match c =
    let m = c.args.prefilter.now.dictionary in
    candidate-skips m.kind (whole m c.args.text.now false) c.in-Match.found c.start.result c.in-Match.ensures.candidate
    c.start.ensures.value
