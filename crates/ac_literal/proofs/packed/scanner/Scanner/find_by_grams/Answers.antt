-- No pattern begins where no window stands.
use Rattle.std.proofs.Common.{arith}
use Rattle.ac_literal.proofs.packed.GramScanLemmas.{none-passed}
use Rattle.ac_literal.proofs.packed.scanner.Scanner.find_by_grams.Goals as goal

pub find_between-found-requires-clause-none : goal.find_between-found-requires-clause-none
find_between-found-requires-clause-none c =
    let near = c.min-from.ensures in
    none-passed c.requires.windows c.requires.scanner.table.short c.requires.within c.requires.none
    c.pass-passed.ensures.passed (omega (arith, near))
