-- What came is masked.
use Rattle.std.proofs.Common.{◌≡◌, ◌+◌, ◌≤◌, length, refl, sym, ap, subst, ◌∙◌, arith}
use Rattle.std.proofs.lemmas.Grind.{common_steps}
use Rattle.ac_input.specs.declared.search.Anchored.TheVariants.{No}
use Rattle.ac_input.specs.Steps.{AreNone}
use Rattle.ac_input.proofs.lemmas.SomeLemmas.{live-some}
use Rattle.ac_automaton.specs.Stream.Mask.{CutsAfter, IsStreamMask, mask_at, passed_to}
use Rattle.ac_automaton.proofs.stream.StreamMaskLemmas.{held-length, mask-all, mask-cut, mask_by, masked_all, new-paid}
use Rattle.ac_automaton.proofs.stream.mask.masker.Masker.mask_new.Given.{Over}
use Rattle.ac_automaton.proofs.stream.mask.masker.Masker.mask_new.Goals as goal
use Rattle.ac_automaton.proofs.stream.mask.masker.Masker.mask_new.Goals.{After-mask-stop}

pub mask-stop-requires-clause-within : goal.mask-stop-requires-clause-within
mask-stop-requires-clause-within g c =
    let i = c.self.inside in
    let is = c.self.invariant in
    let long = held-length (mask_by g.A.Automaton i) i.buffer.bytes is.course is.bytes in
    omega (arith, long, is.course.ordered.1)

-- the place after the last byte
there : (g : Over) (c : After-mask-stop g)
    → c.self.inside.at + c.mask-stop.result.taken ≡ length (passed_to (mask_by g.A.Automaton c.self.inside))
there g c =
    let i = c.self.inside in
    let is = c.self.invariant in
    let long = held-length (mask_by g.A.Automaton i) i.buffer.bytes is.course is.bytes in
    omega (arith, long, is.course.ready.0, is.course.ready.1, is.course.ordered.0, c.mask-stop.ensures.masked.taken)

pub overflow_add-self : goal.overflow_add-self
overflow_add-self g c =
    let few = subst (λ s. length (passed_to s) ≤ _) (sym c.self.view_is) c.requires.countable in
    omega (arith, there g (goal.at.overflow_add-self g c).After-mask-stop, few)

pub cut_after-self-inside-requires-clause-reached : goal.cut_after-self-inside-requires-clause-reached
cut_after-self-inside-requires-clause-reached g c =
    ∣ (_, c.mask-stop.ensures.masked.masks.reads _ c.self.invariant.reads) ∣₁

-- no step was counted before
fresh : (g : Over) (c : After-mask-stop g) → AreNone c.new-taken.result
fresh g c =
    record {
      looked = c.new-taken.ensures.looked;
      scanned = c.new-taken.ensures.scanned;
      moved = c.new-taken.ensures.moved;
    }

-- how far it has come then
view : (g : Over) (c : goal.After-self-3-1 g)
    → mask_at (g.A.Automaton.built c.self.inside.automaton) c.self.inside.mask c.self.inside.pieces.items
    c.self.inside.closed
    (record {
      from = c.self.inside.from;
      at = c.self.inside.at + c.mask-stop.result.taken;
      out = c.self.inside.out;
      cut = c.cut_after-self-inside.result;
    })
    c.add-2.new.self c.mask-stop.new.self
    ≡ masked_all (mask_by g.A.Automaton c.self.inside) c.cut_after-self-inside.result c.mask-stop.new.steps
view g c = λ j. record {
  built = g.A.Automaton.built c.self.inside.automaton;
  mask = c.self.inside.mask;
  pieces = c.self.inside.pieces.items;
  closed = c.self.inside.closed;
  from = c.self.inside.from;
  at = there g (goal.at.invariant_of-self g c).After-mask-stop j;
  out = c.self.inside.out;
  cut = c.cut_after-self-inside.result;
  looked = c.add-2.ensures.looked j;
  scanned = c.add-2.ensures.scanned j;
  moved = ap (λ h. h.moved) c.mask-stop.ensures.masked.same j;
}

pub invariant_of-self : goal.invariant_of-self
invariant_of-self g c =
    let i = c.self.inside in
    let is = c.self.invariant in
    let s = mask_by g.A.Automaton i in
    let stop = c.mask-stop in
    let before = (goal.at.invariant_of-self g c).After-mask-stop in
    let unclosed = ap (λ t. t.closed) c.self.view_is ∙ c.requires.unclosed in
    let cut = mask-cut g.A.Automaton i.automaton s i.sid i.buffer i.over refl is stop.result.sid stop.ensures.masked.masks
    (c.keep.ensures ∙ ap (λ h. h.keep) stop.ensures.masked.same ∙ is.keep) unclosed
    (subst (λ n. CutsAfter g.A.Automaton i.automaton stop.result.sid i.cut c.keep.result n c.cut_after-self-inside.result)
    (there g before) c.cut_after-self-inside.ensures) in
    subst (λ t. IsStreamMask (g.A.Automaton.Reaches i.automaton No) t stop.result.sid stop.new.self i.over)
    (sym (view g c))
    (mask-all g.A.Automaton i.automaton s i.sid i.buffer i.over refl is (fresh g before) stop.ensures.cost stop.new.self
    stop.result.sid c.cut_after-self-inside.result stop.ensures.masked.masks stop.ensures.masked.same unclosed
    (omega (arith, is.course.ready.1, cut.0)) cut.1)

pub returns-clause-masked : goal.returns-clause-masked
returns-clause-masked g c =
    let looked = sym c.add-2.ensures.looked in
    let scanned = sym c.add-2.ensures.scanned in
    view g c ∙ (λ j. record (c.self.view_is j) {
      at = length (passed_to (c.self.view_is j));
      cut = c.cut_after-self-inside.result;
      looked = looked j;
      scanned = scanned j;
    })

pub returns-clause-counts : goal.returns-clause-counts
returns-clause-counts g c =
    let i = c.self.inside in
    let paid = new-paid g.A.Automaton i.automaton (mask_by g.A.Automaton i) i.sid i.buffer i.over refl c.self.invariant
    (fresh g (goal.at.returns-clause-counts g c).After-mask-stop) c.mask-stop.ensures.cost (live-some).0 (live-some).1 in
    let looked = ap (λ t. t.looked) c.self.view_is in
    let scanned = ap (λ t. t.scanned) c.self.view_is in
    let moved = ap (λ t. t.moved) c.self.view_is in
    let same = ap (λ h. h.moved) c.mask-stop.ensures.masked.same in (
      c.mask-stop.new.steps.looked.value,
      c.mask-stop.new.steps.scanned.value,
      c.mask-stop.new.steps.moved.value,
      record { looked = c.add.ensures.looked; scanned = c.add.ensures.scanned; moved = c.add.ensures.moved },
      omega (arith, looked, c.add-2.ensures.looked),
      omega (arith, scanned, c.add-2.ensures.scanned),
      omega (arith, moved, same, paid.4),
    )

pub returns-clause-kept : goal.returns-clause-kept
returns-clause-kept g c = (invariant_of-self g c).course

pub add-requires : goal.add-requires
add-requires g c = grind (arith, common_steps)

pub mask-stop-requires-clause-reached : goal.mask-stop-requires-clause-reached
mask-stop-requires-clause-reached g c = grind (arith, common_steps)
