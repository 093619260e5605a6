-- The best match of a text as it is read on, from the lists of the states on the way.
use Rattle.std.proofs.Common.{◌≡◌, ◌≢◌, ℕ, zero, suc, ◌+◌, ◌-◌, ◌<◌, ◌≤◌, List, [], ◌∷◌, length, Option, None, Some, slice_get, slice_range, sym, ap, subst, refl, ◌∙◌, arith, false}
use Rattle.std.specs.Option.{option_map, option_or}
use Rattle.std.proofs.lemmas.Option.{same_Some}
use Rattle.ac_input.specs.declared.search.Anchored.TheVariants.{No}
use Rattle.ac_input.specs.declared.search.MatchKind.TheVariants.{Standard}
use Rattle.ac_input.specs.Best.{IsBest}
use Rattle.ac_input.specs.Dictionary.{Dictionary, whole}
use Rattle.ac_input.specs.Laws.LiveLaws.{shifted}
use Rattle.ac_input.specs.Occurrence.{Occurrence}
use Rattle.ac_input.specs.Tells.{Tells, ending, ending_at}
use Rattle.ac_input.proofs.lemmas.OrderLemmas.{occurrence_from_parts}
use Rattle.ac_automaton.proofs.in_memory.find.TakenLemmas.{first-counts}
use Rattle.ac_automaton.proofs.in_memory.find.ToldLemmas.{IsEarlier, ending-fits, told}
use Rattle.ac_automaton.proofs.lemmas.WalkEndLemmas.{earlier-read}

-- One byte further on, the best match is the first entry of the state's list, or else the best match before that byte.
best-next : (m : Dictionary) (x ns : List ℕ) (last at : ℕ) (r : Option Occurrence) → last ≤ at → at < length x
    → (m.kind ≡ Standard → r ≡ None) → Tells m No (slice_range x last (at + 1)) ns
    → IsBest m.kind (whole m (slice_range x last at) false) r
    → IsBest m.kind (whole m (slice_range x last (at + 1)) false)
    (option_or (option_map (ending m (slice_range x last (at + 1))) (slice_get ns 0)) r)
best-next m x ns last at r behind inside fresh tells best =
    let text = slice_range x last (at + 1) in
    let earlier : IsEarlier m.kind m false text r =
    earlier-read m.kind m false x (record { start = last; end = length x }) at r behind inside best in
    subst (λ o. IsBest m.kind (whole m text false) (option_or (option_map (ending m text) o) r))
    (first-counts m (length text) ns)
    (told No false ns earlier fresh tells)

-- where the lists on the way are empty, the best match stays
pub best-stays : (bytes : ℕ) (m : Dictionary) (x : List ℕ) (last at : ℕ) (r : Option Occurrence) → last ≤ at
    → at + bytes ≤ length x → (m.kind ≡ Standard → r ≡ None)
    → ((k : ℕ) → at < k → k ≤ at + bytes → Tells m No (slice_range x last k) [])
    → IsBest m.kind (whole m (slice_range x last at) false) r
    → IsBest m.kind (whole m (slice_range x last (at + bytes)) false) r
best-stays zero m x last at r behind inside fresh quiet best = let same : at ≡ at + 0 = omega arith in
    subst (λ n. IsBest m.kind (whole m (slice_range x last n) false) r) same best
best-stays (suc bytes) m x last at r behind inside fresh quiet best =
    let before = best-stays bytes m x last at r behind (omega arith) fresh (λ k lt le. quiet k lt (omega arith)) best in
    let next : at + bytes + 1 ≡ at + suc bytes = omega arith in
    subst (λ n. IsBest m.kind (whole m (slice_range x last n) false) r) next
    (best-next m x [] last (at + bytes) r (omega arith) (omega arith) fresh
    (quiet (at + bytes + 1) (omega arith) (omega arith)) before)

-- Where only the last list on the way may hold entries, the best match is its first entry, or else the best match
-- before.
pub best-told : (m : Dictionary) (x ns : List ℕ) (last at to : ℕ) (r : Option Occurrence) → last ≤ at → at < to
    → to ≤ length x → (m.kind ≡ Standard → r ≡ None)
    → ((k : ℕ) → at < k → k < to → Tells m No (slice_range x last k) []) → Tells m No (slice_range x last to) ns
    → IsBest m.kind (whole m (slice_range x last at) false) r
    → IsBest m.kind (whole m (slice_range x last to) false)
    (option_or (option_map (ending m (slice_range x last to)) (slice_get ns 0)) r)
best-told m x ns last at to r behind further inside fresh quiet tells best = by (to - at - 1) (omega arith)
  where
    by : (bytes : ℕ) → at + bytes + 1 ≡ to
        → IsBest m.kind (whole m (slice_range x last to) false)
        (option_or (option_map (ending m (slice_range x last to)) (slice_get ns 0)) r)
    by bytes is =
        let before =
        best-stays bytes m x last at r behind (omega arith) fresh (λ k lt le. quiet k lt (omega arith)) best in
        let there : Tells m No (slice_range x last (at + bytes + 1)) ns =
        subst (λ n. Tells m No (slice_range x last n) ns) (sym is) tells in
        subst (λ n. IsBest m.kind (whole m (slice_range x last n) false)
        (option_or (option_map (ending m (slice_range x last n)) (slice_get ns 0)) r)) is
        (best-next m x ns last (at + bytes) r (omega arith) (omega arith) fresh there before)

-- A match of the state, counted from where the searched text begins, is the best match of that text.
pub best-met : (m : Dictionary) (text ns : List ℕ) (last at : ℕ) (r : Option Occurrence) (o : Occurrence)
    → last + length text ≡ at → ns ≢ []
    → IsBest m.kind (whole m text false) (option_or (option_map (ending m text) (slice_get ns 0)) r)
    → Some o ≡ option_map (ending_at m at) (slice_get ns 0)
    → (b : Occurrence) × IsBest m.kind (whole m text false) (Some b) × (shifted last b ≡ o) × (o.end ≡ at)
best-met m text [] last at r o long some best is = absurd (some refl)
best-met m text (n ∷ ns) last at r o long some best is =
    let fits = ending-fits m best.0 in
    let same : ending_at m at n ≡ o = sym (same_Some o (ending_at m at n) is) in
    (ending m text n, best, occurrence_from_parts refl (omega arith) long ∙ same, sym (ap (λ q. q.end) same))
