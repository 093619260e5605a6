-- Nothing begins before the last block, and its marks include all that begins in it.
use Rattle.std.proofs.Common.{ℕ, ◌+◌, ◌-◌, ◌∙◌, arith}
use Rattle.ac_literal.proofs.packed.TeddyLemmas.{has-marks}
use Rattle.ac_literal.proofs.packed.scanner.Scanner.find_last.Goals as goal

pub find_marked-requires-clause-none : goal.find_marked-requires-clause-none
find_marked-requires-clause-none c = λ o h.
    let later = c.requires.none o h in
    let short = c.requires.short in
    omega (arith, later, short)

-- of the marks those are left that no earlier block had
pub find_marked-requires-clause-marks : goal.find_marked-requires-clause-marks
find_marked-requires-clause-marks c o h within =
    let short = c.requires.short in
    let later = c.requires.none o h in
    let size = c.hash_len-len.ensures in
    let block : ℕ = c.args.span.end - c.hash_len-len.result + 1 - 32 in
    let all = has-marks c.requires.scanner.teddy c.requires.scanner.table.short c.requires.within c.marks_at.result
    (λ p occurs. let after = c.requires.none p occurs in omega (arith, after, short, size)) c.marks_at.ensures.set in
    c.from_place-marks.ensures.kept (o.start - block) (omega (arith, later)) (omega (arith, within, later, short, size))
    ∙ all o h within
