-- Where no pattern has room any more, none can occur.
use Rattle.std.proofs.Common.{arith}
use Rattle.ac_literal.proofs.packed.FindLemmas.{occurs-long}
use Rattle.ac_literal.proofs.packed.scanner.Scanner.find_in.Goals as goal

pub returns-then-span-len : goal.returns-then-span-len
returns-then-span-len c = λ o h.
    let long = occurs-long c.requires.scanner.table c.requires.within h in
    omega (arith, h.within)

pub returns : goal.returns
returns c = λ o h.
    let long = occurs-long c.requires.scanner.table c.requires.within h in
    let late = c.loop-at.invariant.none o h in
    omega (arith, h.within)
