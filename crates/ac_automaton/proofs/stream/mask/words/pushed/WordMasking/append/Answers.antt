-- The first bytes of a piece are held after the others.
use Rattle.std.proofs.Common.{◌≡◌, ◌+◌, ◌-◌, ◌<◌, false, length, nat_lt, take, refl, sym, ap, subst, ◌∙◌, arith}
use Rattle.ac_input.specs.Number.{usize_max}
use Rattle.ac_input.specs.declared.search.Anchored.TheVariants.{No}
use Rattle.ac_automaton.specs.Masking.Words.Pushed.{IsStreamWordMask, word_mask_at}
use Rattle.ac_automaton.specs.Masking.Words.Stream.{word_mask_room}
use Rattle.ac_automaton.specs.Stream.Mask.{IsAllMasked, MaskProgress, MasksFront, TakesPiece, passed_to}
use Rattle.ac_automaton.proofs.stream.StreamMaskLemmas.{after_piece}
use Rattle.ac_automaton.proofs.stream.StreamPushLemmas.{not-empty}
use Rattle.ac_automaton.proofs.stream.mask.words.WordPushLemmas.{grown-front, grown-over, grown-view, word_mask_by}
use Rattle.ac_automaton.proofs.stream.mask.words.pushed.WordMasking.append.Given.{Over}
use Rattle.ac_automaton.proofs.stream.mask.words.pushed.WordMasking.append.Goals as goal
use Rattle.ac_automaton.proofs.stream.mask.words.pushed.WordMasking.append.Goals.{After-held}

-- more may come
unclosed : (g : Over) (c : After-held g) → c.self.inside.closed ≡ false
unclosed g c = ap (λ t. t.closed) c.self.view_is ∙ c.requires.open.unclosed

-- all that came before is masked
masked : (g : Over) (c : After-held g) → IsAllMasked (word_mask_by g.A.Automaton c.self.inside)
masked g c = subst IsAllMasked (sym c.self.view_is) c.requires.open.masked

-- how far it has come then
abbrev after : (g : Over) → After-held g → MaskProgress
after g c =
    word_mask_at (g.A.Automaton.built c.self.inside.automaton) c.self.inside.mask c.and-self-inside.result.items
    c.self.inside.closed c.self.inside.cut c.self.inside.sums c.take-n.new.self

view : (g : Over) (c : After-held g)
    → after g c ≡ after_piece (word_mask_by g.A.Automaton c.self.inside) (take c.take-n.result c.args.piece.now)
view g c =
    grown-view g.A.Automaton c.self.inside c.self.invariant (unclosed g c) (masked g c)
    (take c.take-n.result c.args.piece.now) c.take-n.ensures.took c.take-n.ensures.alike c.and-self-inside.result.items
    c.and-self-inside.ensures

-- what it keeps is right
kept : (g : Over) (c : After-held g)
    → IsStreamWordMask (g.A.Automaton.Reaches c.self.inside.automaton No) (after g c) c.take-n.new.self
    (nat_lt (usize_max - c.take-n.new.self.from) (length c.held.result.now))
kept g c =
    let over = nat_lt (usize_max - c.take-n.new.self.from) (length c.held.result.now) in
    subst (λ t. IsStreamWordMask (g.A.Automaton.Reaches c.self.inside.automaton No) t c.take-n.new.self over)
    (sym (view g c))
    (grown-over g.A.Automaton c.self.inside c.self.invariant (unclosed g c) (masked g c)
    (take c.take-n.result c.args.piece.now) c.take-n.ensures.took c.take-n.ensures.alike c.held.result.now
    c.held.ensures (omega arith) over refl)

-- what came
taken : (g : Over) (c : After-held g)
    → TakesPiece c.args.self.now (after g c) (take c.take-n.result c.args.piece.now)
taken g c = view g c ∙ ap (λ s. after_piece s (take c.take-n.result c.args.piece.now)) c.self.view_is

-- how many bytes came
front : (g : Over) (c : After-held g)
    → (0 < c.take-n.result)
    × MasksFront (word_mask_room (g.A.Automaton.built c.self.inside.automaton)) (after g c) c.args.piece.now
    c.take-n.result
front g c =
    let room = word_mask_room (g.A.Automaton.built c.self.inside.automaton) in
    let is = grown-front g.A.Automaton c.self.inside c.self.invariant (unclosed g c) (masked g c)
    (take c.take-n.result c.args.piece.now) c.take-n.ensures.took c.take-n.ensures.alike c.args.piece.now
    c.take-n.result refl c.take-n.ensures.many
    (subst (λ s. length (passed_to s) < s.from + word_mask_room s.built) (sym c.self.view_is) c.requires.open.room)
    (not-empty c.args.piece.now c.requires.some) in
    (is.0, subst (λ t. MasksFront room t c.args.piece.now c.take-n.result) (sym (view g c)) is.1)

pub invariant_of-self : goal.invariant_of-self
invariant_of-self g c = kept g (goal.at.invariant_of-self g c).After-held

pub returns-then-self-clause-appended : goal.returns-then-self-clause-appended
returns-then-self-clause-appended g c =
    let d = (goal.at.returns-then-self-clause-appended g c).After-held in
    (c.take-n.result, (front g d).0, taken g d, (kept g d).uncountable c.if-self.true)

pub returns-then-self-clause-kept : goal.returns-then-self-clause-kept
returns-then-self-clause-kept g c = (invariant_of-self g c).course

pub invariant_of-self-2 : goal.invariant_of-self-2
invariant_of-self-2 g c = kept g (goal.at.invariant_of-self-2 g c).After-held

pub returns-clause-appended : goal.returns-clause-appended
returns-clause-appended g c =
    let d = (goal.at.returns-clause-appended g c).After-held in
    (taken g d, (front g d).1, (kept g d).countable c.if-self.false)

pub returns-clause-kept : goal.returns-clause-kept
returns-clause-kept g c = (invariant_of-self-2 g c).course
