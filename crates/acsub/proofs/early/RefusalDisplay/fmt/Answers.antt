-- The two digits of the byte are one text.
use Rattle.std.proofs.Common.{ℕ, List, ◌++◌, Option, Some, append_assoc, codes, false, subst, sym, ◌/◌, ◌%◌}
use Rattle.std.specs.Fmt.{DisplaysOnOk, WritesOnOk, ◌++?◌, digits_output, radix_digits}
use Rattle.acsub.proofs.early.RefusalDisplay.fmt.Goals as goal

pub returns-in-Occurs-clause-writes : goal.returns-in-Occurs-clause-writes
returns-in-Occurs-clause-writes g c =
    let gives = g.W.Write.write_str_gives in
    let byte = c.in-Occurs.byte in
    let high = radix_digits 16 false (byte / 16) in
    let low = radix_digits 16 false (byte % 16) in
    let rest : Option (List ℕ) = Some (codes " occurs in a pattern") in
    let one = subst (λ o. DisplaysOnOk gives c.args.f.now c.write-in-Occurs.result
    (Some (codes "mask: byte ") ++? (o ++? (digits_output c.in_radix-in-Occurs.result ++? rest))) c.write-in-Occurs.new.self)
    c.in_radix.ensures c.write-in-Occurs.ensures.writes in
    let both = subst (λ o. DisplaysOnOk gives c.args.f.now c.write-in-Occurs.result
    (Some (codes "mask: byte ") ++? (Some high ++? (o ++? rest))) c.write-in-Occurs.new.self)
    c.in_radix-in-Occurs.ensures one in
    rw c.in-Occurs.is
    (subst (λ text. WritesOnOk gives c.args.f.now c.write-in-Occurs.result (codes "mask: byte " ++ text)
    c.write-in-Occurs.new.self) (sym (append_assoc high low (codes " occurs in a pattern"))) both)
