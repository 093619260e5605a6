-- The rows take no more entries than there is room for.
use Rattle.std.proofs.Common.{◌≡◌, ◌+◌, ◌*◌, ◌^◌, ◌<◌, ◌/◌, ◌%◌, ap, arith}
use Rattle.std.proofs.lemmas.Nat.{pow_below, pow_pos}
use Rattle.ac_tables.proofs.contiguous.NearPlacesLemmas.{room-near}
use Rattle.ac_tables.proofs.contiguous.NFA.most_near.Goals as goal

pub returns : goal.returns
returns c = λ some.
    let stride2 = c.args.stride2 in
    let numbers = c.saturating_sub.result in
    let entries = c.saturating_sub-entries.result in
    let low : 2 ^ stride2 < 18446744073709551616 = pow_below stride2 64 (let h = c.requires in omega (arith, h)) in
    let stride : 1 * 2 ^ stride2 % 18446744073709551616 ≡ 2 ^ stride2 = omega (arith, low) in
    let least = c.min.ensures in
    let below = c.saturating_sub.ensures in
    let beside = c.saturating_sub-entries.ensures in
    let len = c.len-words.ensures in
    let same = ap (λ n. numbers / n) stride in
    let other = ap (λ n. entries / (n + 1)) stride in
    room-near c.args.self.now (2 ^ stride2) c.args.memory numbers entries c.min.result some (pow_pos stride2)
    (omega (arith, least, same)) (omega (arith, least, other)) (λ left. omega (arith, left, below, len))
    (λ left. omega (arith, left, beside, len))
