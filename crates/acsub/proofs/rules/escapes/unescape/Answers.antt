-- Bytes are read up to the end of the side, which stands for some.
use Rattle.std.proofs.Common.{sym, subst}
use Rattle.ac_input.specs.Rules.{Unescapes}
use Rattle.ac_input.proofs.lemmas.EscapeLemmas.{BeginsWithByte-length}
use Rattle.acsub.proofs.rules.EscapedLemmas.{bytes-push, bytes-stuck}
use Rattle.acsub.proofs.rules.escapes.unescape.Goals as goal

pub loop-byte-preserved : goal.loop-byte-preserved
loop-byte-preserved c =
    rw c.in_ok-push.ensures.items
    (bytes-push c.args.side.now c.loop-byte.bytes.items c.loop-byte.rest.now c.in-Some.byte c.in-Some.after.now
    c.loop-byte.invariant c.in-Some.ensures)

pub loop-byte-smaller : goal.loop-byte-smaller
loop-byte-smaller c =
    BeginsWithByte-length c.loop-byte.rest.now c.in-Some.byte c.in-Some.after.now c.in-Some.ensures

pub returns : goal.returns
returns c =
    let (all, stands) = c.requires in
    let stuck =
    bytes-stuck c.args.side.now c.loop-byte.bytes.items c.loop-byte.rest.now all c.loop-byte.invariant
    c.in_default.ensures stands in
    subst (Unescapes c.args.side.now) (sym stuck.1) stands
