-- A walk that goes on, step by step: what it has counted.
use Rattle.std.proofs.Common.{◌≡◌, ℕ, ◌+◌, ◌-◌, ◌≤◌, min, Bool, false, true, length, Option, None, Some, refl, ap, ◌∙◌, arith}
use Rattle.ac_input.specs.declared.steps.Steps.{Steps}
use Rattle.ac_input.specs.Input.{Asked}
use Rattle.ac_input.specs.Occurrence.{Occurrence}
use Rattle.ac_automaton.specs.Automaton.{Built}
use Rattle.ac_automaton.specs.InMemory.Iter.{CountsWalk, GivesPick, IsOnItsWay, Walk, WalkCounts, fresh_walk, walk_after_pick}
use Rattle.ac_c.specs.Walking.{IsAccounted, IsPaidWalk, WalksTo, WalksToEnd}

-- the next match of a walk changes neither its automaton nor its input
pub after-same : (w : Walk) (r : Option Occurrence) (v : Walk)
    → (v ≡ record (walk_after_pick w r) { looked = v.looked; scanned = v.scanned; moved = v.moved })
    → (v.built ≡ w.built) × (v.asked ≡ w.asked)
after-same w None v h = (ap (λ z. z.built) h, ap (λ z. z.asked) h)
after-same w (Some o) v h = (ap (λ z. z.built) h, ap (λ z. z.asked) h)

-- a walk whose next match is taken goes on, and counts what that costs
pub walks-pick : (ahead : Bool) (w v : Walk) (r : Option Occurrence) (before after : Steps) → GivesPick w r v
    → WalkCounts w v before after → IsOnItsWay v → IsPaidWalk ahead v → CountsWalk v → WalksTo ahead w v before after
walks-pick ahead w v r before after gives counts way paid least =
    let same = after-same w r v gives.1 in
    record { built = same.0; asked = same.1; counts = counts; accounted = (way, paid, least) }

-- a walk that makes no step counts nothing
pub walks-none : (ahead : Bool) (w : Walk) (steps : Steps) → IsAccounted ahead w → WalksTo ahead w w steps steps
walks-none ahead w steps is = record {
  built = refl;
  asked = refl;
  counts = (
    0,
    0,
    0,
    record { looked = omega arith; scanned = omega arith; moved = omega arith },
    omega arith,
    omega arith,
    omega arith,
  );
  accounted = is;
}

counts-on : (w u v : Walk) (before between after : Steps) → WalkCounts w u before between → WalkCounts u v between after
    → WalkCounts w v before after
counts-on w u v before between after (s, p, b, done, looked, scanned, moved)
    (s', p', b', done', looked', scanned', moved') = (
      s + s',
      p + p',
      b + b',
      record {
        looked = omega (arith, done.looked, done'.looked);
        scanned = omega (arith, done.scanned, done'.scanned);
        moved = omega (arith, done.moved, done'.moved);
      },
      omega arith,
      omega arith,
      omega arith,
    )

-- a walk that goes on in two parts counts both
pub walks-on : (ahead : Bool) (w u v : Walk) (before between after : Steps) → WalksTo ahead w u before between
    → WalksTo ahead u v between after → WalksTo ahead w v before after
walks-on ahead w u v before between after a b = record {
  built = b.built ∙ a.built;
  asked = b.asked ∙ a.asked;
  counts = counts-on w u v before between after a.counts b.counts;
  accounted = b.accounted;
}

-- past the last match a walk stands at its end
pub none-at_end : (w v : Walk) → GivesPick w None v → v.at ≡ w.asked.span.end + 1
none-at_end w v gives = ap (λ z. z.at) gives.1

-- a walk whose last match was taken has gone on to its end
pub walks-ended : (ahead : Bool) (w u v : Walk) (before between after : Steps) → WalksTo ahead w u before between
    → GivesPick u None v → WalksTo ahead u v between after → WalksToEnd ahead w before after
walks-ended ahead w u v before between after a gives b = (
  v,
  walks-on ahead w u v before between after a b,
  none-at_end u v gives
      ∙ ap (λ z. z.span.end + 1) a.asked,
)

-- no byte lies before a place and after it
nothing-passed : (at end : ℕ) → min at end - at ≡ 0
nothing-passed at end = omega arith

-- a walk that has not begun is within its budget
begun-paid : (ahead : Bool) (b : Built) (asked : Asked) → IsPaidWalk ahead (fresh_walk b asked)
begun-paid false b asked =
    record { looked = λ kind. omega arith; leftmost = λ some. omega arith; scanned = omega arith; moved = refl }
begun-paid true b asked =
    record {
      looked = λ kind. omega arith;
      near = λ kind. omega arith;
      leftmost = λ some. omega arith;
      scanned = omega arith;
      moved = refl;
    }

-- a walk that has not begun is on its way, and has counted nothing
pub begun-accounted : (ahead : Bool) (b : Built) (asked : Asked) → asked.span.start ≤ asked.span.end + 1
    → asked.span.end ≤ length asked.haystack → IsAccounted ahead (fresh_walk b asked)
begun-accounted ahead b asked begins ends = (
  record { begun = omega arith; within = (begins, ends); last = tt },
  begun-paid ahead b asked,
  λ free some counts. let none = nothing-passed asked.span.start asked.span.end in omega arith,
)
