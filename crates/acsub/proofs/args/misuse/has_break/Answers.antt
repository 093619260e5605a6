-- One more text, and whether it has such a byte.
use Rattle.std.proofs.Common.{◌≡◌, ◌∙◌, ◌<◌, ◌+◌, ◌||◌, ℕ, true, false, List, [], length, get_or, take, arith, sym, ap, ap₂}
use Rattle.std.specs.List.{list_any}
use Rattle.std.specs.Borrow.{Bor}
use Rattle.std.proofs.lemmas.List.{get_or-map, length-map}
use Rattle.std.proofs.lemmas.List.Folds.{list_any_at, list_any_more}
use Rattle.clap.specs.Walk.{Text, texts}
use Rattle.acsub.specs.Args.Misuse.{ends_side, has_break}
use Rattle.acsub.proofs.args.misuse.has_break.Goals as goal

-- a text of the list has such a byte
some-breaks : (sides : List (Bor Text)) (i : ℕ) (d : Bor Text) → i < length sides
    → list_any ends_side (get_or sides i d).now ≡ true → has_break (texts sides) ≡ true
some-breaks sides i d low breaks =
    list_any_at (list_any ends_side) (texts sides) i [] (let same = length-map sides (λ (s : Bor Text). s.now) in omega (arith, low, same))
    (ap (list_any ends_side) (get_or-map (λ (s : Bor Text). s.now) sides i d [] low) ∙ breaks)

-- none so far, and not the next one
none-more : (sides : List (Bor Text)) (i : ℕ) (d : Bor Text) → i < length sides
    → list_any (list_any ends_side) (take i (texts sides)) ≡ false → list_any ends_side (get_or sides i d).now ≡ false
    → list_any (list_any ends_side) (take (i + 1) (texts sides)) ≡ false
none-more sides i d low before here =
    list_any_more (list_any ends_side) (texts sides) i []
    (let same = length-map sides (λ (s : Bor Text). s.now) in omega (arith, low, same))
    ∙ ap₂ (λ a b. a || b) before
    (ap (list_any ends_side) (get_or-map (λ (s : Bor Text). s.now) sides i d [] low) ∙ here)

pub returns-then-breaks : goal.returns-then-breaks
returns-then-breaks c =
    sym (some-breaks c.args.sides.now c.loop-side.side-index _ c.loop-side-test.true
    (ap (list_any ends_side) (sym c.as_bytes.ensures.value) ∙ sym c.breaks.ensures ∙ c.if-breaks.true))

pub loop-side-preserved : goal.loop-side-preserved
loop-side-preserved c =
    none-more c.args.sides.now c.loop-side.side-index _ c.loop-side-test.true c.loop-side.invariant
    (ap (list_any ends_side) (sym c.as_bytes.ensures.value) ∙ sym c.breaks.ensures ∙ c.if-breaks.false)
