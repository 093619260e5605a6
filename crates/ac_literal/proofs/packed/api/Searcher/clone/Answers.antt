-- The copy serves the same patterns.
use Rattle.std.proofs.Common.{sym, subst}
use Rattle.ac_literal.specs.Packed.{AreServed}
use Rattle.ac_literal.specs.Packed.Scanner.{IsScanner}
use Rattle.ac_literal.proofs.packed.CopyLemmas.{same-scanner}
use Rattle.ac_literal.proofs.packed.api.Searcher.clone.Goals as goal

pub invariant_of-result : goal.invariant_of-result
invariant_of-result c =
    let same = c.in_ok-clone.ensures in
    let made = subst (λ ps. AreServed ps × IsScanner ps c.self.inside.scanner) (sym same) c.self.invariant in
    (made.0, same-scanner c.in_ok-clone-2.ensures made.1)
