-- The bytes that wait are moved to the front, if no room is left.
use Rattle.std.proofs.Common.{◌≡◌, ⊎_elim, ◌<◌, ◌≤◌, length, sym, ap, subst, ◌∙◌, arith}
use Rattle.std.proofs.lemmas.Bool.{cases_lt, false≢true}
use Rattle.ac_automaton.specs.Stream.{Picks, room_of}
use Rattle.ac_automaton.specs.Stream.Devices.Buffer.{room_for}
use Rattle.ac_automaton.specs.Stream.Mask.{IsAllMasked}
use Rattle.ac_automaton.proofs.stream.StreamMaskLemmas.{held-length, mask-rolled, mask_by, waiting-few}
use Rattle.ac_automaton.proofs.stream.mask.masker.Masker.make_room.Goals as goal

pub roll-requires-clause-from : goal.roll-requires-clause-from
roll-requires-clause-from g c =
    let is = c.self.invariant in
    let long = held-length (mask_by g.A.Automaton c.self.inside) c.self.inside.buffer.bytes is.course is.bytes in
    omega (arith, long, is.course.ready.0, is.course.ready.1, is.course.ordered.0, is.course.ordered.1)

pub roll-requires-clause-kept : goal.roll-requires-clause-kept
roll-requires-clause-kept g c =
    let is = c.self.invariant in
    let long = held-length (mask_by g.A.Automaton c.self.inside) c.self.inside.buffer.bytes is.course is.bytes in
    let few = waiting-few is (ap (λ t. t.closed) c.self.view_is ∙ c.requires.unclosed)
    (subst IsAllMasked (sym c.self.view_is) c.requires.masked) in
    omega (arith, long, few, is.course.ready.0, is.course.ready.1)

pub invariant_of-self : goal.invariant_of-self
invariant_of-self g c = mask-rolled c.self.invariant c.roll.ensures.rolled c.roll.ensures.paid

pub returns-else-is_full-clause-room : goal.returns-else-is_full-clause-room
returns-else-is_full-clause-room g c =
    let i = c.self.inside in
    let is = c.self.invariant in
    let long = held-length (mask_by g.A.Automaton i) i.buffer.bytes is.course is.bytes in
    let room : i.buffer.room ≡ room_of Picks (mask_by g.A.Automaton i).built = is.roll.room ∙ ap room_for is.keep in
    let le = is.roll.within in
    ⊎_elim
    (λ (lt : length i.buffer.bytes < i.buffer.room). omega (arith, long, room, lt))
    (λ (full : i.buffer.room ≤ length i.buffer.bytes).
    absurd (false≢true (sym c.if-is_full.false ∙ c.is_full.ensures.1 (omega (arith, le, full)))))
    (cases_lt (length i.buffer.bytes) i.buffer.room)

pub returns-else-is_full-clause-counts : goal.returns-else-is_full-clause-counts
returns-else-is_full-clause-counts g c =
    let looked = ap (λ t. t.looked) c.self.view_is in
    let scanned = ap (λ t. t.scanned) c.self.view_is in
    let moved = ap (λ t. t.moved) c.self.view_is in (
      0,
      0,
      0,
      record { looked = omega arith; scanned = omega arith; moved = omega arith },
      omega (arith, looked),
      omega (arith, scanned),
      omega (arith, moved),
    )
