-- A place has at most 20 digits, and a pattern's number at most 10.
use Rattle.std.proofs.Common.{ℕ, ◌<◌, ◌≤◌, length, decimal, arith, rules}
use Rattle.std.proofs.lemmas.Fmt.{length-decimal-le}
use Rattle.acsub.proofs.line.Line.new.Goals as goal

place : (n : ℕ) → n < 18446744073709551616 → length (decimal n) ≤ 20
place n small = search (rules, length-decimal-le 20)

number : (n : ℕ) → n ≤ 2147483646 → length (decimal n) ≤ 10
number n small = search (rules, length-decimal-le 10)

pub put_number-end-requires-clause-room : goal.put_number-end-requires-clause-room
put_number-end-requires-clause-room c = omega (arith, place c.end.result (omega arith))

pub put_number-start-requires-clause-room : goal.put_number-start-requires-clause-room
put_number-start-requires-clause-room c =
    let end = place c.end.result (omega arith) in
    omega (arith, place c.start.result (omega arith), c.put_number-end.ensures.begins)

pub put_number-pattern-requires-clause-room : goal.put_number-pattern-requires-clause-room
put_number-pattern-requires-clause-room c =
    let end = place c.end.result (omega arith) in
    let start = place c.start.result (omega arith) in
    let used = c.put_number-end.ensures.begins in
    omega (arith, number c.as_usize.result c.as_usize.ensures.fits, c.put_number-start.ensures.begins)
