-- Bytes are masked but for those that the last stretch has masked.
use Rattle.std.proofs.Common.{◌≡◌, ◌≤◌, length, refl, ap, ◌∙◌, arith}
use Rattle.std.proofs.lemmas.Grind.{common_steps}
use Rattle.ac_automaton.specs.Masking.{masked_between}
use Rattle.ac_automaton.proofs.masking.BetweenLemmas.{between-filled, between-length, stretch-back, stretch-grown, stretch-new}
use Rattle.ac_automaton.proofs.masking.mask_between.Goals as goal

pub returns-then-last-start-2-clause-masked : goal.returns-then-last-start-2-clause-masked
returns-then-last-start-2-clause-masked c =
    let bytes = c.args.bytes.now in
    let from : c.max.result ≡ c.args.last.end = omega (arith, c.max.ensures, c.if-last-start.false) in
    let grown = between-filled c.args.mask bytes c.fill.new.self c.max.result
    (omega (arith, c.max.ensures, c.requires.order, c.requires.last.within)) c.requires.within refl
    (c.fill.ensures.after (λ y h. h)) in
    grown ∙ ap (λ n. masked_between c.args.mask bytes n c.args.end) from
    ∙ (stretch-grown c.args.mask bytes c.args.last c.args.start c.args.end c.requires.order c.requires.within
    c.requires.last c.if-last-start.false c.if-last-start-2.true).0

pub returns-clause-masked : goal.returns-clause-masked
returns-clause-masked c =
    let bytes = c.args.bytes.now in
    let last = c.args.last in
    let mask = c.args.mask in
    let within = c.requires.last.within in
    let from : c.max.result ≡ last.end = omega (arith, c.max.ensures, c.if-last-start.false) in
    let grown = between-filled mask bytes c.fill.new.self c.max.result
    (omega (arith, c.max.ensures, c.requires.order, within)) c.requires.within refl
    (c.fill.ensures.after (λ y h. h))
    ∙ ap (λ n. masked_between mask bytes n c.args.end) from in
    let long = between-length mask bytes last.end c.args.end within c.requires.within in
    let later : c.args.start ≤ last.start = omega (arith, c.if-last-start-2.false) in
    let size = ap length grown in
    between-filled mask _ c.fill-2.new.self c.args.start later
    (omega (arith, size, long, c.requires.last.order, within, c.requires.within)) refl
    (c.fill-2.ensures.after (λ y h. h))
    ∙ ap (λ l. masked_between mask l c.args.start last.start) grown
    ∙ stretch-back mask bytes last c.args.start c.args.end c.requires.order c.requires.within c.requires.last
    c.if-last-start.false later

pub returns-clause-last : goal.returns-clause-last
returns-clause-last c =
    stretch-new c.args.mask c.args.bytes.now c.args.last c.args.start c.args.end c.requires.order c.requires.within
    c.requires.last _ (returns-clause-masked c)

pub returns-then-last-start-2-clause-last : goal.returns-then-last-start-2-clause-last
returns-then-last-start-2-clause-last c = grind (arith, common_steps)

pub returns-then-last-start-clause-masked : goal.returns-then-last-start-clause-masked
returns-then-last-start-clause-masked c = grind (arith, common_steps)

pub slice_bounds-fill-count : goal.slice_bounds-fill-count
slice_bounds-fill-count c = grind (arith, common_steps)

pub slice_bounds-fill-start : goal.slice_bounds-fill-start
slice_bounds-fill-start c = grind (arith, common_steps)

pub slice_bounds-fill-end : goal.slice_bounds-fill-end
slice_bounds-fill-end c = grind (arith, common_steps)

pub slice_bounds-fill-count-2 : goal.slice_bounds-fill-count-2
slice_bounds-fill-count-2 c = grind (arith, common_steps)

pub slice_bounds-fill-start-2 : goal.slice_bounds-fill-start-2
slice_bounds-fill-start-2 c = grind (arith, common_steps)

pub slice_bounds-fill-end-2 : goal.slice_bounds-fill-end-2
slice_bounds-fill-end-2 c = grind (arith, common_steps)
