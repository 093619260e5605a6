-- A search of a span is a search of the whole of that part of the haystack, shifted.
use Rattle.std.proofs.Common.{◌≡◌, ◌≢◌, ◌↔◌, ℕ, ◌+◌, ◌-◌, ◌≤◌, false, List, length, take, drop, Option, Some, None, IsTrue, slice_range, Greater, sym, ap, ap₂, subst, refl, ◌∙◌, arith}
use Rattle.std.proofs.lemmas.Bool.{false≢true}
use Rattle.std.proofs.lemmas.List.{drop-take, drop-drop, take-take}
use Rattle.ac_input.specs.declared.search.MatchKind.{MatchKind}
use Rattle.ac_input.specs.Same.{same_text}
use Rattle.ac_input.specs.Occurrence.{Search, Occurrence, Occurs, starting_at}
use Rattle.ac_input.specs.Best.{preference, IsLeast, IsBest}
use Rattle.ac_input.specs.Dictionary.{Dictionary, whole}
use Rattle.ac_input.specs.Laws.LiveLaws.{shifted, shifted_best}
use Rattle.ac_input.proofs.lemmas.OrderLemmas.{occurrence_from_parts, slice_range-length}
use Rattle.ac_input.proofs.lemmas.ShiftLemmas.{back_by, shifted-back_by, preference-shifted}

-- the search is for the dictionary's patterns, under its pairing
abbrev pub IsSearchBy : Dictionary → Search → Type 0
IsSearchBy m s = (s.patterns ≡ m.patterns) × (s.pairing ≡ m.pairing)

-- a part of a part of a text is a part of the text
pub slice_range-within : (text : List ℕ) (from to : ℕ) {a b : ℕ} → a ≤ b → b ≤ to - from
    → slice_range (slice_range text from to) a b ≡ slice_range text (from + a) (from + b)
slice_range-within text from to {a} {b} g h =
    let m : ℕ = to - from - a in
    let long : to - from ≡ a + m = omega arith in
    let span : b - a ≡ from + b - (from + a) = omega arith in
    let short : b - a ≤ m = omega arith in
    ap (λ k. take (b - a) (drop a (take k (drop from text)))) long
    ∙ ap (take (b - a)) (drop-take a m (drop from text))
    ∙ take-take (b - a) m (drop a (drop from text)) short
    ∙ ap₂ (λ n xs. take n xs) span (drop-drop a from text)

-- ---- what occurs

-- the search of a haystack that is the span's text up to a place
abbrev pub part_to : Search → ℕ → Search
part_to s at =
    record {
      patterns = s.patterns;
      pairing = s.pairing;
      haystack = slice_range s.haystack s.start at;
      start = 0;
      end = length (slice_range s.haystack s.start at);
      anchored = s.anchored;
    }

-- that search is the dictionary's search of the whole part
pub part_to-whole : (m : Dictionary) (s : Search) (at : ℕ) → IsSearchBy m s
    → part_to s at ≡ whole m (slice_range s.haystack s.start at) s.anchored
part_to-whole m s at by =
    ap₂
    (λ patterns pairing. whole (record { patterns = patterns; pairing = pairing; kind = m.kind })
    (slice_range s.haystack s.start at) s.anchored)
    by.0
    by.1

-- what occurs in the part occurs in the search, shifted by the span's start
part_to-occurs : (s : Search) (at : ℕ) (o : Occurrence) → s.start ≤ at → at ≤ s.end → s.end ≤ length s.haystack
    → Occurs (part_to s at) o → Occurs s (shifted s.start o) × (s.start + o.end ≤ at)
part_to-occurs s at o g h inside occurs =
    let w = occurs.within in
    let long = slice_range-length s.haystack s.start g (omega arith) in (
      record {
        within = (omega arith, omega arith, omega arith);
        same = (
          occurs.same.0,
          occurs.same.1,
          subst (λ xs. IsTrue (same_text s.pairing occurs.same.0 xs))
              (slice_range-within s.haystack s.start at w.1 (omega arith)) occurs.same.2,
        );
        anchor = λ a. let first : o.start ≡ 0 = occurs.anchor a in omega arith;
      },
      omega arith,
    )

-- what occurs in the search and ends in the part occurs in the part, shifted back
occurs-part_to : {s : Search} {at : ℕ} {o : Occurrence} → s.start ≤ at → at ≤ s.end → s.end ≤ length s.haystack
    → s.start + o.end ≤ at → Occurs s (shifted s.start o) → Occurs (part_to s at) o
occurs-part_to {s} {at} {o} g h inside ends occurs =
    let w = occurs.within in
    let long = slice_range-length s.haystack s.start g (omega arith) in
    record {
      within = (omega arith, omega arith, omega arith);
      same = (
        occurs.same.0,
        occurs.same.1,
        subst (λ xs. IsTrue (same_text s.pairing occurs.same.0 xs))
            (sym (slice_range-within s.haystack s.start at (omega arith) (omega arith))) occurs.same.2,
      );
      anchor = λ a. let first : s.start + o.start ≡ s.start = occurs.anchor a in omega arith;
    }

-- what occurs in the whole of a part of the span occurs in the search, shifted, and ends in the part
pub whole-occurs_in_span : (m : Dictionary) {s : Search} {at : ℕ} {o : Occurrence} → IsSearchBy m s → s.start ≤ at
    → at ≤ s.end → s.end ≤ length s.haystack → Occurs (whole m (slice_range s.haystack s.start at) s.anchored) o
    → Occurs s (shifted s.start o) × (s.start + o.end ≤ at)
whole-occurs_in_span m {s} {at} {o} by g h inside occurs =
    part_to-occurs s at o g h inside (subst (λ t. Occurs t o) (sym (part_to-whole m s at by)) occurs)

-- what occurs in the search and ends in a part of the span occurs in the whole of that part, shifted back
pub occurs-in_whole_of_span : (m : Dictionary) {s : Search} {at : ℕ} {o : Occurrence} → IsSearchBy m s → s.start ≤ at
    → at ≤ s.end → s.end ≤ length s.haystack → Occurs s o → o.end ≤ at
    → Occurs (whole m (slice_range s.haystack s.start at) s.anchored) (back_by s.start o)
    × (o ≡ shifted s.start (back_by s.start o))
occurs-in_whole_of_span m {s} {at} {o} by g h inside occurs ends =
    let w = occurs.within in
    let there : shifted s.start (back_by s.start o) ≡ o = shifted-back_by w.0 w.1 in
    let part : Occurs (part_to s at) (back_by s.start o) =
    occurs-part_to g h inside (omega arith) (subst (Occurs s) (sym there) occurs) in
    (subst (λ t. Occurs t (back_by s.start o)) (part_to-whole m s at by) part, sym there)

-- the occurrences of the search that end in a part of the span are exactly those of the whole of that part, shifted
pub span-whole : (m : Dictionary) {s : Search} {at : ℕ} {o : Occurrence} → IsSearchBy m s → s.start ≤ at → at ≤ s.end
    → s.end ≤ length s.haystack
    → (Occurs s o × (o.end ≤ at))
    ↔ ((inner : Occurrence) × Occurs (whole m (slice_range s.haystack s.start at) s.anchored) inner
    × (o ≡ shifted s.start inner))
span-whole m {s} {at} {o} by g h inside = (
  λ (occurs, ends). let there = occurs-in_whole_of_span m by g h inside occurs ends in
      (back_by s.start o, there.0, there.1),
  λ (inner, occurs, is). subst (λ x. Occurs s x × (x.end ≤ at)) (sym is) (whole-occurs_in_span m by g h inside occurs),
)

-- ---- the best

-- occurrences that are equal once shifted are equal
shifted-injective : (n : ℕ) {a b : Occurrence} → shifted n a ≡ shifted n b → a ≡ b
shifted-injective n {a} {b} e =
    let start : n + a.start ≡ n + b.start = ap (λ o. o.start) e in
    let end : n + a.end ≡ n + b.end = ap (λ o. o.end) e in
    occurrence_from_parts (ap (λ o. o.pattern) e) (omega arith) (omega arith)

-- where one fact holds of exactly the shifted occurrences of another, its least occurrence is the other's, shifted
pub least-shifted : (kind : MatchKind) (n : ℕ) {P Q : Occurrence → Type 0} → ((o : Occurrence) → P o → Q (shifted n o))
    → ((o : Occurrence) → Q o → (inner : Occurrence) × P inner × (o ≡ shifted n inner)) → (r : Option Occurrence)
    → IsLeast kind P r ↔ IsLeast kind Q (shifted_best n r)
least-shifted kind n f g None = (
  λ none. λ o q. none (g o q).0 (g o q).1,
  λ none. λ o p. none (shifted n o) (f o p),
)
least-shifted kind n {P} f g (Some b) = (
  λ least. (
    f b least.0,
    λ o q.
        let inner = g o q in
        subst (λ x. preference kind (shifted n b) x ≢ Greater) (sym inner.2)
        (λ e. least.1 inner.0 inner.1 (sym (preference-shifted kind n b inner.0) ∙ e)),
  ),
  λ least.
      let inner = g (shifted n b) least.0 in (
        subst P (sym (shifted-injective n inner.2)) inner.1,
        λ o p. λ e. least.1 (shifted n o) (f o p) (preference-shifted kind n b o ∙ e),
      ),
)

-- the best of a search is the best of the whole of its span, shifted
pub best-of_span : (kind : MatchKind) (m : Dictionary) (s : Search) (r : Option Occurrence) → IsSearchBy m s
    → s.start ≤ s.end → s.end ≤ length s.haystack
    → IsBest kind (whole m (slice_range s.haystack s.start s.end) s.anchored) r ↔ IsBest kind s (shifted_best s.start r)
best-of_span kind m s r by g inside =
    let last : s.end ≤ s.end = omega arith in
    least-shifted kind s.start
    (λ o occurs. (whole-occurs_in_span m by g last inside occurs).0)
    (λ o occurs. (span-whole m by g last inside).0 (occurs, occurs.within.2))
    r

-- for each best of a search, the whole of its span has a best of which it is the shifted one
pub best-is_shifted : (kind : MatchKind) (m : Dictionary) (s : Search) (r : Option Occurrence) → IsSearchBy m s
    → s.start ≤ s.end → s.end ≤ length s.haystack → IsBest kind s r
    → (inner : Option Occurrence) × IsBest kind (whole m (slice_range s.haystack s.start s.end) s.anchored) inner
    × (r ≡ shifted_best s.start inner)
best-is_shifted kind m s None by g inside best = (None, (best-of_span kind m s None by g inside).1 best, refl)
best-is_shifted kind m s (Some b) by g inside best =
    let w = best.0.within in
    let there : shifted s.start (back_by s.start b) ≡ b = shifted-back_by w.0 w.1 in (
      Some (back_by s.start b),
      (best-of_span kind m s (Some (back_by s.start b)) by g inside).1
          (subst (λ x. IsBest kind s (Some x)) (sym there) best),
      ap Some (sym there),
    )

-- ---- the rest of a span

-- the occurrences from a later place on are exactly those that start there or later
pub occurs-later : {s : Search} {from : ℕ} {o : Occurrence} → s.anchored ≡ false → s.start ≤ from
    → (Occurs s o × (from ≤ o.start)) ↔ Occurs (starting_at s from) o
occurs-later free le = (
  λ (occurs, later). let w = occurs.within in
      record { within = (later, w.1, w.2); same = occurs.same; anchor = λ a. absurd (false≢true (sym free ∙ a)) },
  λ occurs. let w = occurs.within in (
    record { within = (omega arith, w.1, w.2); same = occurs.same; anchor = λ a. absurd (false≢true (sym free ∙ a)) },
    w.0,
  ),
)

-- the occurrences that start at a place of the span or later are exactly those of the whole of the rest, shifted
pub rest-whole : (m : Dictionary) (s : Search) (from : ℕ) (o : Occurrence) → IsSearchBy m s → s.anchored ≡ false
    → s.start ≤ from → from ≤ s.end → s.end ≤ length s.haystack
    → (Occurs s o × (from ≤ o.start))
    ↔ ((inner : Occurrence) × Occurs (whole m (slice_range s.haystack from s.end) false) inner
    × (o ≡ shifted from inner))
rest-whole m s from o by free le g inside =
    let last : s.end ≤ s.end = omega arith in
    let later = occurs-later free le in
    let rest =
    subst (λ b. (Occurs (starting_at s from) o × (o.end ≤ s.end))
    ↔ ((inner : Occurrence) × Occurs (whole m (slice_range s.haystack from s.end) b) inner × (o ≡ shifted from inner)))
    free (span-whole m by g last inside) in (
      λ h. let there = later.0 h in rest.0 (there, there.within.2),
      λ h. later.1 (rest.1 h).0,
    )

-- the best from a place on is the best of the whole of the rest, shifted
pub best-of_rest : (kind : MatchKind) (m : Dictionary) (s : Search) {from : ℕ} (r : Option Occurrence) → IsSearchBy m s
    → s.anchored ≡ false → from ≤ s.end → s.end ≤ length s.haystack
    → IsBest kind (whole m (slice_range s.haystack from s.end) false) r
    ↔ IsBest kind (starting_at s from) (shifted_best from r)
best-of_rest kind m s {from} r by free g inside =
    subst (λ b. IsBest kind (whole m (slice_range s.haystack from s.end) b) r
    ↔ IsBest kind (starting_at s from) (shifted_best from r)) free
    (best-of_span kind m (starting_at s from) r by g inside)
