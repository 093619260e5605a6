-- A walk over patterns that aren't empty never repeats, so it doesn't matter where the last pick ended.
use Rattle.std.proofs.Common.{◌≡◌, ℕ, ◌<◌, List, [], ◌∷◌, length, Option, Some, None, refl, sym, ap, ◌∙◌, arith}
use Rattle.ac_input.specs.declared.search.MatchKind.{MatchKind}
use Rattle.ac_input.specs.Occurrence.{Search, Occurrence, Occurs, starting_at}
use Rattle.ac_input.specs.Best.{IsBest}
use Rattle.ac_input.specs.Walk.{IsPick, Here, Further}
use Rattle.ac_input.specs.Computed.{pick_of, walk_after}
use Rattle.ac_input.proofs.lemmas.WalkLemmas.{pick_of-pick, walk_after-none, walk_after-some}
use Rattle.ac_literal.specs.Packed.{part_search, AreServed}
use Rattle.ac_literal.proofs.packed.TextLemmas.{starts-lying}

-- where no pick came before, the best is the next pick
pub pick-best : {kind : MatchKind} {s : Search} {at : ℕ} {r : Option Occurrence} → IsBest kind (starting_at s at) r
    → IsPick kind s at None r
pick-best h = Here h (λ n. n)

module _ (kind : MatchKind) (patterns : List (List ℕ)) (haystack : List ℕ) (served : AreServed patterns) where
  abbrev s : Search
  s = part_search patterns haystack 0 (length haystack)

  -- no occurrence is empty
  occurs-some : (start : ℕ) (o : Occurrence) → Occurs (starting_at s start) o → o.start < o.end
  occurs-some start o h =
      let own = starts-lying (omega arith) (h, refl) in
      let some = served.full o.pattern own.0 in
      let long = ap (λ q. q.end) own.1 in
      omega arith

  -- a pick stays the pick, wherever the last one ended
  pick-last : {at last : ℕ} (r : Option Occurrence) → IsPick kind s at None r → IsPick kind s at (Some last) r
  pick-last None (Here h n) = Here h (λ m. m)
  pick-last {at} (Some o) (Here h n) = Here h (λ m. let some = occurs-some at o h.0 in omega (arith, m.0, m.1))
  pick-last r (Further b h rep k) = absurd rep

  -- the walk doesn't depend on where the last pick ended
  pub walk-last : (at last : ℕ) → walk_after kind s at (Some last) ≡ walk_after kind s at None
  walk-last at last = by (pick_of kind s at None) (pick_of-pick (omega arith))
    where
      by : (r : Option Occurrence) → IsPick kind s at None r
          → walk_after kind s at (Some last) ≡ walk_after kind s at None
      by None h = walk_after-none (omega arith) (pick-last None h) ∙ sym (walk_after-none (omega arith) h)
      by (Some o) h = walk_after-some (omega arith) (pick-last (Some o) h) ∙ sym (walk_after-some (omega arith) h)

  -- the walk takes the best from its place, and goes on after it
  pub walk-some : {at : ℕ} {o : Occurrence} → IsBest kind (starting_at s at) (Some o)
      → walk_after kind s at None ≡ o ∷ walk_after kind s o.end None
  walk-some {o} h = walk_after-some (omega arith) (pick-best h) ∙ ap (λ os. o ∷ os) (walk-last o.end o.end)

  -- where there is no best the walk is over
  pub walk-none : (at : ℕ) → IsBest kind (starting_at s at) None → walk_after kind s at None ≡ []
  walk-none at h = walk_after-none (omega arith) (pick-best h)
