-- The bytes of a read are held after the others.
use Rattle.std.proofs.Common.{◌≡◌, ◌+◌, ◌-◌, ◌<◌, [], ◌∷◌, ◌++◌, length, nat_lt, refl, sym, ap, subst, ◌∙◌, arith, append-nil}
use Rattle.std.proofs.lemmas.Grind.{common_steps}
use Rattle.std.proofs.lemmas.List.{take_rest}
use Rattle.ac_input.specs.Number.{usize_max}
use Rattle.ac_input.specs.declared.search.Anchored.TheVariants.{No}
use Rattle.ac_automaton.specs.Stream.{CanBeCounted, Picks, room_of}
use Rattle.ac_automaton.specs.Stream.Devices.Buffer.{room_for}
use Rattle.ac_automaton.specs.Stream.Mask.{IsStreamMask, TakesPiece, passed_to}
use Rattle.ac_automaton.proofs.stream.StreamMaskLemmas.{after_piece, held-length, mask-grown, mask-over, mask-view, mask_by, mask_with, nothing-grown, read-last}
use Rattle.ac_automaton.proofs.stream.StreamSearchLemmas.{IsGrown}
use Rattle.ac_automaton.proofs.stream.mask.masker.Masker.fill.Given.{Over}
use Rattle.ac_automaton.proofs.stream.mask.masker.Masker.fill.Goals as goal
use Rattle.ac_automaton.proofs.stream.mask.masker.Masker.fill.Goals.{After-and-self-inside-2}

pub fill-requires-clause-room : goal.fill-requires-clause-room
fill-requires-clause-room g c =
    let i = c.self.inside in
    let is = c.self.invariant in
    let long = held-length (mask_by g.A.Automaton i) i.buffer.bytes is.course is.bytes in
    let roomy : i.buffer.room ≡ room_of Picks (mask_by g.A.Automaton i).built = is.roll.room ∙ ap room_for is.keep in
    let room = subst (λ s. length (passed_to s) < s.from + room_of Picks s.built) (sym c.self.view_is)
    c.requires.open.room in
    omega (arith, long, roomy, room)

pub invariant_of-self : goal.invariant_of-self
invariant_of-self g c =
    let i = c.self.inside in
    let is = c.self.invariant in
    let s = mask_by g.A.Automaton i in
    let grown = nothing-grown c.in-Err.ensures.gave.1 c.in-Err.ensures.paid in
    subst (λ t. IsStreamMask (g.A.Automaton.Reaches i.automaton No) t i.sid c.fill.new.self i.over)
    (sym (mask-view g.A.Automaton i c.and-self-inside.result.items c.fill.new.self [] c.and-self-inside.ensures grown.moved))
    (mask-grown [] is grown i.over (λ no. subst CanBeCounted (sym (append-nil (passed_to s))) (is.countable no))
    (λ yes. subst (λ l. ¬ CanBeCounted l) (sym (append-nil (passed_to s))) (is.uncountable yes)))

pub returns-in-Err-clause-kept : goal.returns-in-Err-clause-kept
returns-in-Err-clause-kept g c = (invariant_of-self g c).course

-- the buffer holds the bytes that the read returned, too
grown : (g : Over) (c : After-and-self-inside-2 g)
    → IsGrown c.self.inside.buffer c.fill.new.self c.in-Ok.ensures.gave.piece
grown g c =
    let gave = c.in-Ok.ensures.gave in
    let count = gave.count in
    let read = ap (λ h. h.read) gave.held in
    record {
      bytes = ap (λ h. h.bytes) gave.held;
      read = read ∙ ap (λ n. c.self.inside.buffer.read + n) (sym count);
      keep = ap (λ h. h.keep) gave.held;
      moved = ap (λ h. h.moved) gave.held;
      paid = c.in-Ok.ensures.paid;
    }

-- how far it has come then
view : (g : Over) (c : After-and-self-inside-2 g)
    → mask_with g.A.Automaton c.self.inside c.and-self-inside-2.result.items c.fill.new.self
    ≡ after_piece (mask_by g.A.Automaton c.self.inside) c.in-Ok.ensures.gave.piece
view g c =
    let gave = c.in-Ok.ensures.gave in
    let last = read-last c.self.inside.buffer.bytes gave.piece c.held-held.result.now c.in-Ok.n
    (c.held-held.ensures ∙ ap (λ h. h.bytes) gave.held) gave.count in
    mask-view g.A.Automaton c.self.inside c.and-self-inside-2.result.items c.fill.new.self gave.piece
    ((rw take_rest at c.and-self-inside-2.ensures) ∙ ap (λ l. c.self.inside.pieces.items ++ l ∷ []) last)
    (grown g c).moved

-- what it keeps is right
kept : (g : Over) (c : After-and-self-inside-2 g)
    → IsStreamMask (g.A.Automaton.Reaches c.self.inside.automaton No)
    (mask_with g.A.Automaton c.self.inside c.and-self-inside-2.result.items c.fill.new.self) c.self.inside.sid
    c.fill.new.self (nat_lt (usize_max - c.self.inside.from) (length c.held-held.result.now))
kept g c =
    let over = nat_lt (usize_max - c.self.inside.from) (length c.held-held.result.now) in
    subst (λ t. IsStreamMask (g.A.Automaton.Reaches c.self.inside.automaton No) t c.self.inside.sid c.fill.new.self over)
    (sym (view g c))
    (mask-over c.in-Ok.ensures.gave.piece c.self.invariant (grown g c) c.held-held.result.now c.held-held.ensures
    (omega arith) over refl)

-- what came
taken : (g : Over) (c : After-and-self-inside-2 g)
    → TakesPiece c.args.self.now
    (mask_with g.A.Automaton c.self.inside c.and-self-inside-2.result.items c.fill.new.self)
    c.in-Ok.ensures.gave.piece
taken g c = view g c ∙ ap (λ s. after_piece s c.in-Ok.ensures.gave.piece) c.self.view_is

pub invariant_of-self-then-self : goal.invariant_of-self-then-self
invariant_of-self-then-self g c = kept g (goal.at.invariant_of-self-then-self g c).After-and-self-inside-2

pub returns-then-self-clause-filled : goal.returns-then-self-clause-filled
returns-then-self-clause-filled g c =
    let d = (goal.at.returns-then-self-clause-filled g c).After-and-self-inside-2 in
    (c.in-Ok.ensures.gave.piece, taken g d, c.in-Ok.ensures.gave.read, (kept g d).uncountable c.if-self.true)

pub returns-then-self-clause-kept : goal.returns-then-self-clause-kept
returns-then-self-clause-kept g c = (invariant_of-self-then-self g c).course

pub invariant_of-self-2 : goal.invariant_of-self-2
invariant_of-self-2 g c = kept g (goal.at.invariant_of-self-2 g c).After-and-self-inside-2

pub returns-clause-filled : goal.returns-clause-filled
returns-clause-filled g c =
    let d = (goal.at.returns-clause-filled g c).After-and-self-inside-2 in
    let gave = c.in-Ok.ensures.gave in
    (gave.piece, taken g d, gave.read, gave.count, (kept g d).countable c.if-self.false)

pub returns-clause-kept : goal.returns-clause-kept
returns-clause-kept g c = (invariant_of-self-2 g c).course

pub overflow_sub-held : goal.overflow_sub-held
overflow_sub-held g c = grind (arith, common_steps)

pub fill-requires-clause-open : goal.fill-requires-clause-open
fill-requires-clause-open g c = grind (arith, common_steps)

pub returns-in-Err-clause-filled : goal.returns-in-Err-clause-filled
returns-in-Err-clause-filled g c = grind (arith, common_steps)

pub slice_bounds-and-count : goal.slice_bounds-and-count
slice_bounds-and-count g c = grind (arith, common_steps)

pub slice_bounds-and-start : goal.slice_bounds-and-start
slice_bounds-and-start g c = grind (arith, common_steps)

pub slice_bounds-and-end-2 : goal.slice_bounds-and-end-2
slice_bounds-and-end-2 g c = grind (arith, common_steps)

pub overflow_sub-self : goal.overflow_sub-self
overflow_sub-self g c = grind (arith, common_steps)
