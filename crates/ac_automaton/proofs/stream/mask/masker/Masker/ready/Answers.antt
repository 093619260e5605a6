-- The bytes that are ready are held.
use Rattle.std.proofs.Common.{◌≡◌, ◌-◌, length, take, drop, ap, ◌∙◌, arith}
use Rattle.ac_automaton.specs.Stream.Mask.{ready_of}
use Rattle.ac_automaton.proofs.stream.StreamMaskLemmas.{held-length, held-ready, mask_by}
use Rattle.ac_automaton.proofs.stream.mask.masker.Masker.ready.Goals as goal

pub slice_bounds-result-end : goal.slice_bounds-result-end
slice_bounds-result-end g c =
    let is = c.self.invariant in
    let long = held-length (mask_by g.A.Automaton c.self.inside) c.self.inside.buffer.bytes is.course is.bytes in
    let ready = is.course.ready in
    let ordered = is.course.ordered in
    let held = ap length c.held.ensures in
    omega (arith, long, ready.0, ready.1, ordered.0, ordered.1, held)

pub returns-clause-ready : goal.returns-clause-ready
returns-clause-ready g c =
    let i = c.self.inside in
    let is = c.self.invariant in
    let ready = is.course.ready in
    let few : i.cut - i.from - (i.out - i.from) ≡ i.cut - i.out = omega (arith, ready.0, ready.1) in
    ap (λ n. take n (drop (i.out - i.from) c.held.result.now)) few
    ∙ ap (λ l. take (i.cut - i.out) (drop (i.out - i.from) l)) c.held.ensures
    ∙ held-ready (mask_by g.A.Automaton i) i.buffer.bytes is.course is.bytes ∙ ap ready_of c.self.view_is
