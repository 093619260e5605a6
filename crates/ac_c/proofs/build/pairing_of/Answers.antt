-- The first pairs tell whether all name a byte twice.
use Rattle.std.proofs.Common.{◌≡◌, ◌<◌, length, length-set, refl, ◌∙◌, rules, arith}
use Rattle.ac_c.proofs.build.PairLemmas.{bytes-copied, copied-more, pairs-all, twice-told}
use Rattle.ac_c.proofs.build.pairing_of.Goals as goal

pub loop-at-init : goal.loop-at-init
loop-at-init c = record { copied = refl; bytes = λ b has. absurd (omega (arith, has.1)); room = refl }

pub loop-at-preserved : goal.loop-at-preserved
loop-at-preserved c =
    let i = c.loop-at.invariant in
    let room : c.loop-at.at < length c.loop-at.first = omega (arith, i.room) in
    record {
      copied = copied-more c.args.pairs.now c.loop-at.first c.loop-at.at _ room (omega arith) i.copied;
      bytes = bytes-copied c.loop-at.first c.loop-at.at _ room i.bytes (omega arith) (omega arith);
      room = length-set _ _ _ ∙ i.room;
    }

pub returns-in-Ok : goal.returns-in-Ok
returns-in-Ok c =
    let i = c.loop-at.invariant in
    let all : c.loop-at.at ≡ c.min-count.result = omega (arith, c.loop-at.auto.at-end, c.loop-at-test.false) in
    let same = pairs-all c.args.pairs.now _ c.min-count.result c.min-count.ensures (rw all at i.copied)
    (rw all at i.bytes) c.in-Ok.ensures.made.0 in
    rw same c.in-Ok.ensures.made

pub returns-in-Err-Twice : goal.returns-in-Err-Twice
returns-in-Err-Twice c =
    let i = c.loop-at.invariant in
    let all : c.loop-at.at ≡ c.min-count.result = omega (arith, c.loop-at.auto.at-end, c.loop-at-test.false) in
    let told = twice-told c.args.pairs.now _ c.min-count.result _ (rw all at i.copied) c.in-Err-Twice.ensures.twice in
    search (rules, told)
