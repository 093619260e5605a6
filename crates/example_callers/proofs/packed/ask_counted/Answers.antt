use Rattle.std.proofs.Common.{length, arith}
use Rattle.ac_input.specs.declared.search.Anchored.TheVariants.{No}
use Rattle.ac_input.specs.Input.{search_of}
use Rattle.example_callers.proofs.packed.PackedLemmas.{asked-scans}
use Rattle.example_callers.proofs.packed.ask_counted.Goals as goal

pub returns : goal.returns
returns c =
    let f = c.args.prefilter.now in
    let x = c.args.text.now in
    let scans = asked-scans f.needles (search_of f.dictionary No x (record { start = 0; end = length x })) _
    c.args.steps.now _ (omega arith) c.find_in_counted.ensures.counted in
    omega arith
