-- The first bytes of a piece are held after the others.
use Rattle.std.proofs.Common.{◌≡◌, ◌+◌, ◌-◌, ◌<◌, length, nat_lt, take, refl, sym, ap, subst, ◌∙◌, arith}
use Rattle.ac_input.specs.Number.{usize_max}
use Rattle.ac_input.specs.declared.search.Anchored.TheVariants.{No}
use Rattle.ac_automaton.specs.Stream.Mask.{IsStreamMask, MasksFront, TakesPiece, passed_to}
use Rattle.ac_automaton.specs.Stream.{Picks, room_of}
use Rattle.ac_automaton.proofs.stream.StreamPushLemmas.{not-empty}
use Rattle.ac_automaton.proofs.stream.StreamMaskLemmas.{after_piece, mask-over, mask-view, mask_by, mask_with, taken-front}
use Rattle.ac_automaton.proofs.stream.StreamSearchLemmas.{IsGrown}
use Rattle.ac_automaton.proofs.stream.mask.masker.Masker.append.Given.{Over}
use Rattle.ac_automaton.proofs.stream.mask.masker.Masker.append.Goals as goal
use Rattle.ac_automaton.proofs.stream.mask.masker.Masker.append.Goals.{After-held}

-- the buffer holds the bytes that it took, too
grown : (g : Over) (c : After-held g)
    → IsGrown c.self.inside.buffer c.take-n.new.self (take c.take-n.result c.args.piece.now)
grown g c =
    record {
      bytes = ap (λ h. h.bytes) c.take-n.ensures.took;
      read = ap (λ h. h.read) c.take-n.ensures.took;
      keep = ap (λ h. h.keep) c.take-n.ensures.took;
      moved = ap (λ h. h.moved) c.take-n.ensures.took;
      paid = c.take-n.ensures.paid;
    }

-- how far it has come then
view : (g : Over) (c : After-held g)
    → mask_with g.A.Automaton c.self.inside c.and-self-inside.result.items c.take-n.new.self
    ≡ after_piece (mask_by g.A.Automaton c.self.inside) (take c.take-n.result c.args.piece.now)
view g c =
    mask-view g.A.Automaton c.self.inside c.and-self-inside.result.items c.take-n.new.self
    (take c.take-n.result c.args.piece.now) c.and-self-inside.ensures (grown g c).moved

-- what it keeps is right
kept : (g : Over) (c : After-held g)
    → IsStreamMask (g.A.Automaton.Reaches c.self.inside.automaton No)
    (mask_with g.A.Automaton c.self.inside c.and-self-inside.result.items c.take-n.new.self)
    c.self.inside.sid c.take-n.new.self (nat_lt (usize_max - c.self.inside.from) (length c.held.result.now))
kept g c =
    let over = nat_lt (usize_max - c.self.inside.from) (length c.held.result.now) in
    subst (λ t. IsStreamMask (g.A.Automaton.Reaches c.self.inside.automaton No) t c.self.inside.sid c.take-n.new.self over)
    (sym (view g c))
    (mask-over (take c.take-n.result c.args.piece.now) c.self.invariant (grown g c) c.held.result.now c.held.ensures
    (omega arith) over refl)

-- what came
taken : (g : Over) (c : After-held g)
    → TakesPiece c.args.self.now
    (mask_with g.A.Automaton c.self.inside c.and-self-inside.result.items c.take-n.new.self)
    (take c.take-n.result c.args.piece.now)
taken g c = view g c ∙ ap (λ s. after_piece s (take c.take-n.result c.args.piece.now)) c.self.view_is

-- how many bytes came
front : (g : Over) (c : After-held g)
    → (0 < c.take-n.result)
    × MasksFront (room_of Picks (g.A.Automaton.built c.self.inside.automaton))
    (mask_with g.A.Automaton c.self.inside c.and-self-inside.result.items c.take-n.new.self)
    c.args.piece.now c.take-n.result
front g c =
    let is = taken-front c.args.piece.now c.take-n.result c.self.invariant c.take-n.ensures.many
    (subst (λ s. length (passed_to s) < s.from + room_of Picks s.built) (sym c.self.view_is) c.requires.open.room)
    (not-empty c.args.piece.now c.requires.some) in
    (is.0, subst (λ t. MasksFront (room_of Picks t.built) t c.args.piece.now c.take-n.result) (sym (view g c)) is.1)

pub invariant_of-self : goal.invariant_of-self
invariant_of-self g c = kept g (goal.at.invariant_of-self g c).After-held

pub returns-then-self-clause-appended : goal.returns-then-self-clause-appended
returns-then-self-clause-appended g c =
    let d = (goal.at.returns-then-self-clause-appended g c).After-held in
    (c.take-n.result, (front g d).0, taken g d, (kept g d).uncountable c.if-self.true)

pub returns-then-self-clause-kept : goal.returns-then-self-clause-kept
returns-then-self-clause-kept g c = (invariant_of-self g c).course

pub invariant_of-self-2 : goal.invariant_of-self-2
invariant_of-self-2 g c = kept g (goal.at.invariant_of-self-2 g c).After-held

pub returns-clause-appended : goal.returns-clause-appended
returns-clause-appended g c =
    let d = (goal.at.returns-clause-appended g c).After-held in
    (taken g d, (front g d).1, (kept g d).countable c.if-self.false)

pub returns-clause-kept : goal.returns-clause-kept
returns-clause-kept g c = (invariant_of-self-2 g c).course
