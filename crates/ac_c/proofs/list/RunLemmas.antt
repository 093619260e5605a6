-- A run through a listing that goes on, step by step: what it has counted.
use Rattle.std.proofs.Common.{◌≡◌, ℕ, ◌+◌, ◌<◌, List, length, None, Some, set, add-one, refl, sym, ap, ◌∙◌, arith, length-set, get_or-set_same}
use Rattle.std.proofs.lemmas.Option.{slice_get_read}
use Rattle.ac_input.specs.declared.steps.Steps.{Steps}
use Rattle.ac_input.specs.Occurrence.{Occurrence}
use Rattle.ac_automaton.specs.InMemory.Overlapping.OverlappingIter.{IsWithinOneWalk, Run}
use Rattle.ac_c.specs.declared.found.Found.{Found}
use Rattle.ac_c.specs.declared.list.Place.{Place}
use Rattle.ac_c.specs.Found.{shown}
use Rattle.ac_c.specs.List.{RunsTo, before_of, place_after}

-- a run that takes no step counts nothing
pub runs-none : (run : Run) (steps : Steps) → IsWithinOneWalk run → RunsTo run run steps steps
runs-none run steps paid =
    record {
      built = refl;
      asked = refl;
      counts =
          record { looked = omega arith; scanned = omega arith; moved = omega arith };
      paid = paid;
    }

-- an occurrence that was just written is the one that was given last
pub last-written : (p : Place) (out : List Found) (at : ℕ) (o : Occurrence) → at < length out
    → before_of (place_after p (set out at (shown o)) (at + 1)) ≡ Some o
last-written p out at o room =
    ap (λ n. before_of (place_after p (set out at (shown o)) n)) (add-one at)
    ∙ ap (λ f. before_of
    (elim f as (λ _. Place) [ None ↦ p | Some g ↦ record p { last = g; begun = 1 } ]))
    (slice_get_read (set out at (shown o)) (length out) at (shown o) (sym (length-set out at (shown o))) room
    (sym (get_or-set_same out at (shown o) (shown o) room)))

-- a run that goes on in two parts counts both
pub runs-on : (run mid later : Run) (before between after : Steps) → RunsTo run mid before between
    → RunsTo mid later between after → RunsTo run later before after
runs-on run mid later before between after a b = record {
  built = b.built ∙ a.built;
  asked = b.asked ∙ a.asked;
  counts = let c = a.counts in let d = b.counts in record {
    looked = omega (arith, c.looked, d.looked);
    scanned = omega (arith, c.scanned, d.scanned);
    moved = omega (arith, c.moved, d.moved);
  };
  paid = b.paid;
}
