-- Where no pattern occurs in the bytes of a span, its search has no match.
use Rattle.std.proofs.Common.{◌≡◌, ℕ, ◌-◌, ◌*◌, ◌≤◌, Bool, true, false, length, None, if◌then◌else◌, slice_range, ap, sym, subst, refl, arith}
use Rattle.ac_input.specs.declared.search.Anchored.TheVariants.{No}
use Rattle.ac_input.specs.declared.steps.Steps.{Steps}
use Rattle.ac_input.specs.Input.{Asked, is_anchored}
use Rattle.ac_input.specs.Opening.{HasNoOccurrence}
use Rattle.ac_input.specs.Steps.{Done}
use Rattle.ac_input.specs.Work.{HasCounted, come_at_least, lookups_per_byte}
use Rattle.ac_input.proofs.lemmas.SpanLemmas.{rest-whole}
use Rattle.ac_automaton.specs.Automaton.{Built, IsFindCost, IsFound, prefilter_for, searched}
use Rattle.ac_automaton.proofs.in_memory.find.CountedLemmas.{walk-counts}

-- one look for each byte is within the bound
one-look : (deterministic : Bool) (n : ℕ) → n ≤ lookups_per_byte deterministic * n
one-look true n = omega arith
one-look false n = omega arith

module _ (b : Built) (asked : Asked) (free : asked.anchored ≡ No)
    (ordered : asked.span.start ≤ asked.span.end) where
  -- there is no match
  pub ruled-found : asked.span.end ≤ length asked.haystack
      → HasNoOccurrence b.dictionary (slice_range asked.haystack asked.span.start asked.span.end) → IsFound b asked None
  ruled-found inside none o occurs =
      let rest = rest-whole b.dictionary (searched b asked) asked.span.start o (refl, refl) (ap is_anchored free) (omega arith)
      ordered inside in
      let inner = rest.0 (occurs, occurs.within.0) in
      none inner.0 inner.1

  -- and each byte was counted
  pub ruled-cost : (x y : Steps) → Done (asked.span.end - asked.span.start) 0 0 x y → IsFindCost b asked x y None
  ruled-cost x y done =
      let n : ℕ = asked.span.end - asked.span.start in
      let looks = one-look b.deterministic n in
      let looked = done.looked in
      let scanned = done.scanned in
      let moved = done.moved in
      let come : asked.span.end ≡ come_at_least (searched b asked) None =
      sym (ap (λ k. if is_anchored k then asked.span.start else asked.span.end) free) in
      record {
        work = record {
          looked = omega (arith, looks, looked);
          standard = λ standard. omega (arith, looks, looked);
          leftmost = λ o some. cc;
          scanned = omega (arith, scanned);
          moved = omega (arith, moved);
        };
        counted = subst (λ end. HasCounted (prefilter_for b asked.anchored) (end - asked.span.start) x y) come
            (walk-counts (prefilter_for b asked.anchored) n x y (omega (arith, scanned)) (omega (arith, looked)));
      }
