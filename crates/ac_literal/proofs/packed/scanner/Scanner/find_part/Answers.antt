-- Blocks without marks are passed. The marks of the next block include all that starts in it.
use Rattle.std.proofs.Common.{◌≡◌, [], ◌∷◌, sym, subst}
use Rattle.ac_input.specs.Best.{IsBest}
use Rattle.ac_literal.specs.Packed.{search_kind, part_search}
use Rattle.ac_literal.specs.Packed.Scanner.{IsOnlyPattern}
use Rattle.ac_literal.proofs.packed.OnlyLemmas.{found-from}
use Rattle.ac_literal.proofs.packed.TeddyLemmas.{none-passed, has-marks}
use Rattle.ac_literal.proofs.packed.scanner.Scanner.find_part.Goals as goal

pub find_last-requires-clause-none : goal.find_last-requires-clause-none
find_last-requires-clause-none c =
    let next = c.next_marks-block in
    none-passed c.requires.scanner.teddy c.requires.scanner.table.short c.requires.within c.requires.none
    next.ensures.passed

pub find_marked-found-requires-clause-none : goal.find_marked-found-requires-clause-none
find_marked-found-requires-clause-none c =
    let next = c.next_marks-block in
    none-passed c.requires.scanner.teddy c.requires.scanner.table.short c.requires.within c.requires.none
    next.ensures.passed

pub find_marked-found-requires-clause-marks : goal.find_marked-found-requires-clause-marks
find_marked-found-requires-clause-marks c =
    let next = c.next_marks-block in
    let none = none-passed c.requires.scanner.teddy c.requires.scanner.table.short c.requires.within c.requires.none
    next.ensures.passed in
    has-marks c.requires.scanner.teddy c.requires.scanner.table.short c.requires.within next.result.1 none
    (next.ensures.set c.if-marks-eq0.false)

pub returns-in-Some-clause-found : goal.returns-in-Some-clause-found
returns-in-Some-clause-found c =
    let patterns = c.args.patterns.now in
    let kind = c.args.self.now.table.kind in
    let needle = c.in-Some.needle in
    let only : patterns ≡ needle ∷ [] = subst (IsOnlyPattern patterns) c.in-Some.is c.requires.scanner.only in
    let best =
    subst (λ ps. IsBest (search_kind kind) (part_search ps c.args.haystack.now c.args.at c.args.span.end)
    c.find_needle-found.result) (sym only) (c.find_needle-found.ensures kind) in
    found-from patterns c.args.haystack.now c.args.span.start c.args.at c.args.span.end c.requires.none c.requires.start
    (search_kind kind) _ c.find_needle-found.result best
