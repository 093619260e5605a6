-- The bytes of a read lie after those held.
use Rattle.std.proofs.Common.{◌≡◌, ◌+◌, ◌-◌, ◌≤◌, length, take, length-take, length-drop, sym, ap, ◌∙◌, arith}
use Rattle.std.proofs.lemmas.Grind.{common_steps}
use Rattle.std.proofs.lemmas.List.{length-take-le}
use Rattle.ac_automaton.proofs.stream.devices.BufferLemmas.{filled-by, front-more}
use Rattle.ac_automaton.proofs.stream.devices.MovedLemmas.{given-gave}
use Rattle.ac_automaton.proofs.stream.devices.buffer.Buffer.fill.Goals as goal

pub returns-clause-gave : goal.returns-clause-gave
returns-clause-gave g c =
    let buffer = c.deref_mut.result.now in
    let filled = c.self.inside.filled in
    let n = c.in_ok-n.n in
    let held : filled ≤ c.self.inside.bytes.len = c.self.invariant.0 in
    let len : length buffer ≡ c.self.inside.bytes.len = omega (arith, c.deref_mut.ensures.len) in
    let rest : length c.read.new.buf ≡ length buffer - filled = c.read.auto.buf
    ∙ simp (length-take, length-drop) (omega arith) in
    let within : n ≤ length c.read.new.buf = c.in_ok-n.ensures.gave.within in
    let is = c.self.view_is in
    let front : length c.args.self.now.bytes ≡ filled = sym (ap (λ h. length h.bytes) is)
    ∙ ap (λ l. length (take filled l)) (sym c.deref_mut.ensures.value) ∙ length-take-le filled buffer (omega arith) in
    let room : c.self.inside.bytes.len ≡ c.args.self.now.room = ap (λ h. h.room) is in
    let open_ = c.requires.room in
    filled-by c.read.new.buf within
    (given-gave c.requires.open c.in_ok-n.ensures.gave c.read.ensures.writes c.in_ok-n.ensures.device.0
    (λ z. c.in_ok-n.ensures.device.1 z (omega arith)))
    (sym (ap (λ h. h.bytes) is) ∙ ap (take filled) (sym c.deref_mut.ensures.value))
    (front-more buffer c.read.new.buf _ _ (omega arith) (omega arith) within)
    (ap (λ h. h.room) is)
    (ap (λ h. h.keep) is)
    (c.more-self-inside.ensures ∙ ap (λ h. h.read + n) is)
    (ap (λ h. h.moved) is)

pub overflow_add-self : goal.overflow_add-self
overflow_add-self g c = grind (arith, common_steps)

pub returns-clause-paid : goal.returns-clause-paid
returns-clause-paid g c = grind (arith, common_steps)

pub invariant_of-self : goal.invariant_of-self
invariant_of-self g c = grind (arith, common_steps)

pub invariant_of-self-2 : goal.invariant_of-self-2
invariant_of-self-2 g c = grind (arith, common_steps)

pub returns-in_err-n-clause-gave : goal.returns-in_err-n-clause-gave
returns-in_err-n-clause-gave g c = grind (arith, common_steps)

pub returns-in_err-n-clause-paid : goal.returns-in_err-n-clause-paid
returns-in_err-n-clause-paid g c = grind (arith, common_steps)

pub slice_bounds-read-count : goal.slice_bounds-read-count
slice_bounds-read-count g c = grind (arith, common_steps)

pub slice_bounds-read-start : goal.slice_bounds-read-start
slice_bounds-read-start g c = grind (arith, common_steps)

pub slice_bounds-read-end : goal.slice_bounds-read-end
slice_bounds-read-end g c = grind (arith, common_steps)

pub read-requires-clause-room : goal.read-requires-clause-room
read-requires-clause-room g c = grind (arith, common_steps)

pub read-requires-clause-open : goal.read-requires-clause-open
read-requires-clause-open g c = grind (arith, common_steps)
