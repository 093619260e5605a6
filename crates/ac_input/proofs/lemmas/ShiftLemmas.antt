-- The best of a text is the best of its live prefix, shifted.
use Rattle.std.proofs.Common.{◌≡◌, ◌≢◌, ◌↔◌, ⊎_elim, ℕ, ◌+◌, ◌-◌, ◌≤◌, false, List, length, take, drop, Option, Some, None, IsTrue, slice_range, Greater, nat_cmp, sym, ap, ap₂, subst, refl, ◌∙◌, arith, length-drop}
use Rattle.std.specs.Ordering.{ordering_then}
use Rattle.std.proofs.lemmas.Bool.{false≢true}
use Rattle.std.proofs.lemmas.Bool.Decides.{nat_tests}
use Rattle.std.proofs.lemmas.List.{drop-drop}
use Rattle.ac_input.specs.declared.search.MatchKind.{MatchKind}
use Rattle.ac_input.specs.declared.search.MatchKind.TheVariants.{Standard, LeftmostFirst, LeftmostLongest}
use Rattle.ac_input.specs.Same.{same_text}
use Rattle.ac_input.specs.Occurrence.{Occurrence, Occurs}
use Rattle.ac_input.specs.Best.{preference, IsBest}
use Rattle.ac_input.specs.Dictionary.{Dictionary, whole, IsAlive}
use Rattle.ac_input.specs.Laws.LiveLaws.{shifted, shifted_best}
use Rattle.ac_input.proofs.lemmas.OrderLemmas.{occurrence_from_parts}
use Rattle.ac_input.proofs.lemmas.LiveLemmas.{leftmost-no_later, whole-best_some}

-- two numbers compare as they do with the same number added to both
nat_cmp-shifted : (n x y : ℕ) → nat_cmp (n + x) (n + y) ≡ nat_cmp x y
nat_cmp-shifted n x y = grind (arith, nat_tests)

-- shifting both occurrences by the same number of bytes keeps the preference
pub preference-shifted : (kind : MatchKind) (n : ℕ) (a b : Occurrence)
    → preference kind (shifted n a) (shifted n b) ≡ preference kind a b
preference-shifted Standard n a b =
    ap₂ (λ x y. ordering_then x (ordering_then y (nat_cmp a.pattern b.pattern))) (nat_cmp-shifted n a.end b.end)
    (nat_cmp-shifted n a.start b.start)
preference-shifted LeftmostFirst n a b =
    ap (λ x. ordering_then x (nat_cmp a.pattern b.pattern)) (nat_cmp-shifted n a.start b.start)
preference-shifted LeftmostLongest n a b =
    ap₂ (λ x y. ordering_then x (ordering_then y (nat_cmp a.pattern b.pattern))) (nat_cmp-shifted n a.start b.start)
    (nat_cmp-shifted n b.end a.end)

-- a part of a suffix is a part of the text
slice_range-drop : (text : List ℕ) (from a b : ℕ)
    → slice_range (drop from text) a b ≡ slice_range text (from + a) (from + b)
slice_range-drop text from a b =
    let span : b - a ≡ from + b - (from + a) = omega arith in
    ap₂ (λ n xs. take n xs) span (drop-drop a from text)

-- what occurs in a suffix occurs in the text, shifted
pub occurs-shifted : (m : Dictionary) {text : List ℕ} {from : ℕ} {o : Occurrence} → from ≤ length text
    → Occurs (whole m (drop from text) false) o → Occurs (whole m text false) (shifted from o)
occurs-shifted m {text} {from} {o} inside h =
    let w = h.within in
    let long = length-drop from text in
    record {
      within = (omega arith, omega arith, omega arith);
      same = (
        h.same.0,
        h.same.1,
        subst (λ xs. IsTrue (same_text m.pairing h.same.0 xs)) (slice_range-drop text from o.start o.end) h.same.2,
      );
      anchor = λ a. absurd (false≢true a);
    }

-- what occurs in the text, once shifted, occurs in the suffix
pub occurs-from_shifted : (m : Dictionary) {text : List ℕ} {from : ℕ} {o : Occurrence} → from ≤ length text
    → Occurs (whole m text false) (shifted from o) → Occurs (whole m (drop from text) false) o
occurs-from_shifted m {text} {from} {o} inside h =
    let w = h.within in
    let long = length-drop from text in
    record {
      within = (omega arith, omega arith, omega arith);
      same = (
        h.same.0,
        h.same.1,
        subst (λ xs. IsTrue (same_text m.pairing h.same.0 xs)) (sym (slice_range-drop text from o.start o.end))
            h.same.2,
      );
      anchor = λ a. absurd (false≢true a);
    }

-- an occurrence, shifted back
abbrev pub back_by : ℕ → Occurrence → Occurrence
back_by bytes o = record { pattern = o.pattern; start = o.start - bytes; end = o.end - bytes }

-- an occurrence, shifted back and then forth, is unchanged
pub shifted-back_by : {from : ℕ} {o : Occurrence} → from ≤ o.start → o.start ≤ o.end → shifted from (back_by from o) ≡ o
shifted-back_by g h = occurrence_from_parts refl (omega arith) (omega arith)

-- an occurrence of the text that starts at a place or later occurs in the suffix from there, shifted back
pub occurs-back_by : (m : Dictionary) {text : List ℕ} {from : ℕ} {o : Occurrence} → from ≤ length text → from ≤ o.start
    → Occurs (whole m text false) o → Occurs (whole m (drop from text) false) (back_by from o)
occurs-back_by m {text} inside le h =
    occurs-from_shifted m inside (subst (Occurs (whole m text false)) (sym (shifted-back_by le h.within.1)) h)

-- where nothing occurs before a place, the best of the suffix from there, shifted, is the best of the text
pub best-shifted : (kind : MatchKind) (m : Dictionary) {text : List ℕ} {from : ℕ} (r : Option Occurrence)
    → from ≤ length text → ((o : Occurrence) → Occurs (whole m text false) o → from ≤ o.start)
    → IsBest kind (whole m (drop from text) false) r ↔ IsBest kind (whole m text false) (shifted_best from r)
best-shifted kind m {from} None inside behind = (
  λ none. λ o h. none (back_by from o) (occurs-back_by m inside (behind o h) h),
  λ none. λ o h. none (shifted from o) (occurs-shifted m inside h),
)
best-shifted kind m {from} (Some b) inside behind = (
  λ best. (
    occurs-shifted m inside best.0,
    λ o h.
        let le = best.1 (back_by from o) (occurs-back_by m inside (behind o h) h) in
        subst (λ x. preference kind (shifted from b) x ≢ Greater) (shifted-back_by (behind o h) h.within.1)
        (λ g. le (sym (preference-shifted kind from b (back_by from o)) ∙ g)),
  ),
  λ best. (
    occurs-from_shifted m inside best.0,
    λ o h. λ g. best.1 (shifted from o) (occurs-shifted m inside h) (preference-shifted kind from b o ∙ g),
  ),
)

-- under a leftmost kind nothing occurs before a place that is alive
pub alive-first : {m : Dictionary} {text : List ℕ} {from : ℕ} {o : Occurrence} → m.kind ≢ Standard
    → IsAlive m false text from → Occurs (whole m text false) o → from ≤ o.start
alive-first {m} {o} leftmost alive h =
    let best = whole-best_some m.kind m h in
    let le = leftmost-no_later m.kind best.0 o leftmost (best.1.1 o h) in
    ⊎_elim
    (λ anchor. absurd (false≢true anchor))
    (λ unanchored. ⊎_elim (λ standard. absurd (leftmost standard))
    (λ before. let first = before best.0 best.1 in omega arith) unanchored)
    alive.no_later

-- under a leftmost kind, the best of a suffix that is alive, shifted, is the best of the text
pub alive-best : (m : Dictionary) (kind : MatchKind) (text : List ℕ) (from : ℕ) (r : Option Occurrence)
    → m.kind ≢ Standard → IsAlive m false text from
    → IsBest kind (whole m (drop from text) false) r ↔ IsBest kind (whole m text false) (shifted_best from r)
alive-best m kind text from r leftmost alive = best-shifted kind m r alive.within (λ o h. alive-first leftmost alive h)
