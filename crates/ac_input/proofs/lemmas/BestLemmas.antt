-- The best occurrence is unique, and is the computed one: all occurrences are listed, and the preferred one of them is
-- taken.
use Rattle.std.proofs.Common.{◌≡◌, ◌≢◌, ◌↔◌, ⊎_elim, ℕ, zero, suc, ◌+◌, ◌-◌, ◌<◌, ◌≤◌, Bool, true, false, ◌&&◌, cond, List, [], ◌∷◌, length, Option, Some, None, IsTrue, Contains, slice_get, slice_range, leb, Ordering, Less, Equal, Greater, sym, ap, subst, refl, ◌∙◌, arith}
use Rattle.std.proofs.lemmas.List.Elements.{Contains-append_left, Contains-append_right, Contains-append_cases}
use Rattle.std.proofs.lemmas.Bool.{and_parts, and_from, le-leb, leb-true, false≢true}
use Rattle.std.proofs.lemmas.Option.{same_Some, none-some}
use Rattle.ac_input.specs.declared.search.MatchKind.{MatchKind}
use Rattle.ac_input.specs.declared.search.MatchKind.TheVariants.{Standard}
use Rattle.ac_input.specs.Same.{same_text}
use Rattle.ac_input.specs.Occurrence.{Search, Occurrence, Occurs}
use Rattle.ac_input.specs.Best.{preference, IsLeast, IsBest}
use Rattle.ac_input.specs.Computed.{at_place, from_place, occurrences, is_less, least, best_of}
use Rattle.ac_input.proofs.lemmas.ContainsLemmas.{Contains-nil, Contains-head, Contains-tail, Contains-cases, head_kept, tail_kept, kept_cases}
use Rattle.ac_input.proofs.lemmas.OrderLemmas.{standard-equal, preference-tied, preference-itself, preference-transitive, preference-not_less, preference-same, less-not_greater, occurs-end, occurrence_from_parts}

-- a pattern at a place, as an occurrence
abbrev pub lying : ℕ → ℕ → List ℕ → Occurrence
lying n at p = record { pattern = n; start = at; end = at + length p }

-- the pattern lies at the place, within the span
abbrev pub Lies : Search → ℕ → List ℕ → Type 0
Lies s at p = (at + length p ≤ s.end) × IsTrue (same_text s.pairing p (slice_range s.haystack at (at + length p)))

-- where the test of a place passes, the pattern lies there
lies_from_test : (s : Search) (at : ℕ) (p : List ℕ)
    → (leb (at + length p) s.end && same_text s.pairing p (slice_range s.haystack at (at + length p))) ≡ true
    → Lies s at p
lies_from_test s at p h = let e = and_parts _ _ h in (leb-true (at + length p) s.end e.0, e.1)

-- the test of a place passes where the pattern lies there
test_from_lies : (s : Search) (at : ℕ) (p : List ℕ) → Lies s at p
    → (leb (at + length p) s.end && same_text s.pairing p (slice_range s.haystack at (at + length p))) ≡ true
test_from_lies s at p h = and_from _ _ (le-leb (at + length p) s.end h.0) h.1

-- the list of a place has only patterns that lie there, under their numbers
pub at_place-lies : (s : Search) (at : ℕ) (ps : List (List ℕ)) (n : ℕ) (o : Occurrence)
    → Contains (at_place s at ps n) o
    → (i : ℕ) × (p : List ℕ) × (slice_get ps i ≡ Some p) × Lies s at p × (lying (n + i) at p ≡ o)
at_place-lies s at [] n o h = absurd (Contains-nil h)
at_place-lies s at (p ∷ ps) n o h = ⊎_elim
    (λ e. (0, p, refl, lies_from_test s at p e.0, ap (λ m. lying m at p) (let z : n + 0 ≡ n = omega arith in z) ∙ e.1))
    (λ k. let r = at_place-lies s at ps (n + 1) o k in
    (suc r.0, r.1, r.2, r.3, ap (λ m. lying m at r.1) (let z : n + suc r.0 ≡ n + 1 + r.0 = omega arith in z) ∙ r.4))
    (kept_cases _ (at_place s at ps (n + 1)) h)

-- the list of a place has each pattern that lies there
pub lies-at_place : (s : Search) {at : ℕ} (ps : List (List ℕ)) (n i : ℕ) {p : List ℕ} → slice_get ps i ≡ Some p
    → Lies s at p → Contains (at_place s at ps n) (lying (n + i) at p)
lies-at_place s [] n i {p} e h = absurd (none-some p e)
lies-at_place s {at} (q ∷ ps) n zero {p} e h =
    let d : q ≡ p = same_Some q p e in
    let here : Contains (at_place s at (q ∷ ps) n) (lying n at q) =
    head_kept _ (at_place s at ps (n + 1)) (test_from_lies s at q (subst (λ r. Lies s at r) (sym d) h)) in
    let same : lying n at q ≡ lying (n + 0) at p =
    occurrence_from_parts (omega arith) refl (ap (λ r. at + length r) d) in
    subst (λ o. Contains (at_place s at (q ∷ ps) n) o) same here
lies-at_place s {at} (q ∷ ps) n (suc i) {p} e h =
    let z : n + 1 + i ≡ n + suc i = omega arith in
    subst (λ m. Contains (at_place s at (q ∷ ps) n) (lying m at p)) z
    (tail_kept _ (lying n at q) (at_place s at ps (n + 1)) (lies-at_place s ps (n + 1) i e h))

-- what the list of some places has, the list of one of them has
pub from_place-at_place : (s : Search) (at places : ℕ) (o : Occurrence) → Contains (from_place s at places) o
    → (k : ℕ) × (k < places) × Contains (at_place s (at + k) s.patterns 0) o
from_place-at_place s at zero o h = absurd (Contains-nil h)
from_place-at_place s at (suc places) o h = ⊎_elim
    (λ e. (
      0,
      omega arith,
      subst (λ m. Contains (at_place s m s.patterns 0) o) (let z : at ≡ at + 0 = omega arith in z) e,
    ))
    (λ e. let r = from_place-at_place s (at + 1) places o e in let lt = r.1 in (
      suc r.0,
      omega arith,
      subst (λ m. Contains (at_place s m s.patterns 0) o) (let z : at + 1 + r.0 ≡ at + suc r.0 = omega arith in z) r.2,
    ))
    (Contains-append_cases (at_place s at s.patterns 0) (from_place s (at + 1) places) o h)

-- what the list of one of some places has, the list of all of them has
pub at_place-from_place : (s : Search) (at places k : ℕ) (o : Occurrence) → k < places
    → Contains (at_place s (at + k) s.patterns 0) o → Contains (from_place s at places) o
at_place-from_place s at zero k o lt h = absurd (omega arith)
at_place-from_place s at (suc places) zero o lt h =
    Contains-append_left (at_place s at s.patterns 0) (from_place s (at + 1) places) o
    (subst (λ m. Contains (at_place s m s.patterns 0) o) (let z : at + 0 ≡ at = omega arith in z) h)
at_place-from_place s at (suc places) (suc k) o lt h =
    Contains-append_right (at_place s at s.patterns 0) (from_place s (at + 1) places) o
    (at_place-from_place s (at + 1) places k o (omega arith)
    (subst (λ m. Contains (at_place s m s.patterns 0) o) (let z : at + suc k ≡ at + 1 + k = omega arith in z) h))

-- a search looks at this place: one of its span, and only the start if it is anchored
abbrev pub IsPlace : Search → ℕ → Type 0
IsPlace s k = (s.start + k ≤ s.end) × (IsTrue s.anchored → k ≡ 0)

-- an anchored search looks at its start alone, and only if the start is no further than the end
one_place : (b : Bool) {k : ℕ} → k < cond b 1 0 → (b ≡ true) × (k ≡ 0)
one_place true lt = (refl, omega arith)
one_place false lt = absurd (omega arith)

-- an anchored search whose start is no further than its end looks at one place
place_one : (b : Bool) → b ≡ true → 0 < cond b 1 0
place_one true e = omega arith
place_one false e = absurd (false≢true e)

-- each listed occurrence is in the list of a place that the search looks at
pub occurrences-at_place : (s : Search) (o : Occurrence) → Contains (occurrences s) o
    → (k : ℕ) × IsPlace s k × Contains (at_place s (s.start + k) s.patterns 0) o
occurrences-at_place s o h = by s.anchored (λ e. e) h
  where
    by : (b : Bool) → (IsTrue s.anchored → b ≡ true)
        → Contains
        (cond b (from_place s s.start (cond (leb s.start s.end) 1 0)) (from_place s s.start (s.end + 1 - s.start))) o
        → (k : ℕ) × IsPlace s k × Contains (at_place s (s.start + k) s.patterns 0) o
    by true e g =
        let r = from_place-at_place s s.start (cond (leb s.start s.end) 1 0) o g in
        let w = one_place (leb s.start s.end) r.1 in
        let z = w.1 in
        let le = leb-true s.start s.end w.0 in
        (r.0, (omega arith, λ _. w.1), r.2)
    by false e g =
        let r = from_place-at_place s s.start (s.end + 1 - s.start) o g in
        let lt = r.1 in
        (r.0, (omega arith, λ a. absurd (false≢true (e a))), r.2)

-- what is in the list of a place that the search looks at is listed
pub at_place-occurrences : (s : Search) (k : ℕ) (o : Occurrence) → IsPlace s k
    → Contains (at_place s (s.start + k) s.patterns 0) o → Contains (occurrences s) o
at_place-occurrences s k o w h = by s.anchored (λ e. e)
  where
    by : (b : Bool) → (b ≡ true → IsTrue s.anchored)
        → Contains
        (cond b (from_place s s.start (cond (leb s.start s.end) 1 0)) (from_place s s.start (s.end + 1 - s.start))) o
    by true e =
        let z : k ≡ 0 = w.1 (e refl) in
        let le : s.start ≤ s.end = omega (arith, w.0) in
        at_place-from_place s s.start (cond (leb s.start s.end) 1 0) k o
        (subst (λ m. m < cond (leb s.start s.end) 1 0) (sym z)
        (place_one (leb s.start s.end) (le-leb s.start s.end le))) h
    by false e = at_place-from_place s s.start (s.end + 1 - s.start) k o (omega (arith, w.0)) h

-- what is listed occurs
pub occurrences-occurs : (s : Search) (o : Occurrence) → Contains (occurrences s) o → Occurs s o
occurrences-occurs s o h =
    let r = occurrences-at_place s o h in
    let q = at_place-lies s (s.start + r.0) s.patterns 0 o r.2 in
    let w = r.1 in
    let n : 0 + q.0 ≡ q.0 = omega arith in
    let l : Occurs s (lying (0 + q.0) (s.start + r.0) q.1) = record {
      within = (omega arith, omega arith, omega (arith, q.3.0));
      same = (q.1, ap (slice_get s.patterns) n ∙ q.2, q.3.1);
      anchor = λ a. let z : r.0 ≡ 0 = w.1 a in omega arith;
    } in
    subst (Occurs s) q.4 l

-- what occurs within the haystack is listed
pub occurs-occurrences : (s : Search) (o : Occurrence) → s.end ≤ length s.haystack → Occurs s o
    → Contains (occurrences s) o
occurs-occurrences s o inside h =
    let w = h.within in
    let e = occurs-end inside h in
    let k : ℕ = o.start - s.start in
    let z : s.start + k ≡ o.start = omega arith in
    let q : h.same.0 ≡ e.0 = same_Some h.same.0 e.0 (sym h.same.1 ∙ e.1) in
    let text : IsTrue (same_text s.pairing e.0 (slice_range s.haystack o.start o.end)) =
    subst (λ p. IsTrue (same_text s.pairing p (slice_range s.haystack o.start o.end))) q h.same.2 in
    let there : IsTrue (same_text s.pairing e.0 (slice_range s.haystack o.start (o.start + length e.0))) =
    subst (λ m. IsTrue (same_text s.pairing e.0 (slice_range s.haystack o.start m))) e.2 text in
    let lies : Lies s (s.start + k) e.0 = subst (λ at. Lies s at e.0) (sym z) (omega arith, there) in
    let listed = lies-at_place s s.patterns 0 o.pattern e.1 lies in
    let same : lying (0 + o.pattern) (s.start + k) e.0 ≡ o = occurrence_from_parts (omega arith) z (omega arith) in
    at_place-occurrences s k o (omega arith, λ a. let y : o.start ≡ s.start = h.anchor a in omega arith)
    (subst (λ x. Contains (at_place s (s.start + k) s.patterns 0) x) same listed)

-- The list of all occurrences has exactly those that occur, if the span lies within the haystack.
pub occurrences-all : (s : Search) (o : Occurrence) → s.end ≤ length s.haystack
    → Contains (occurrences s) o ↔ Occurs s o
occurrences-all s o inside = (occurrences-occurs s o, occurs-occurrences s o inside)

-- the least occurrence of a fact is that of an equivalent fact
pub IsLeast-like : (kind : MatchKind) {P Q : Occurrence → Type 0} → ((o : Occurrence) → P o ↔ Q o)
    → (r : Option Occurrence) → IsLeast kind P r → IsLeast kind Q r
IsLeast-like kind f None h = λ o q. h o ((f o).1 q)
IsLeast-like kind f (Some b) h = ((f b).0 h.0, λ o q. h.1 o ((f o).1 q))

-- where a fact holds of no occurrence, no stronger fact does
pub IsLeast-none_stronger : (kind : MatchKind) {P Q : Occurrence → Type 0} → ((o : Occurrence) → Q o → P o)
    → IsLeast kind P None → IsLeast kind Q None
IsLeast-none_stronger kind f h = λ o q. h o (f o q)

-- if a stronger fact holds of the least occurrence, too, that is the least one of the stronger fact
pub IsLeast-stronger : (kind : MatchKind) {P Q : Occurrence → Type 0} → ((o : Occurrence) → Q o → P o)
    → {b : Occurrence} → Q b → IsLeast kind P (Some b) → IsLeast kind Q (Some b)
IsLeast-stronger kind f q h = (q, λ o p. h.1 o (f o p))

-- the preferred one of an occurrence and the least of some others
abbrev with_one : MatchKind → Occurrence → Option Occurrence → Option Occurrence
with_one kind o r = elim r [ None ↦ Some o | Some b ↦ cond (is_less (preference kind b o)) (Some b) (Some o) ]

-- where the test of less passes, the result is less
pub less_from_test : (r : Ordering) → is_less r ≡ true → r ≡ Less
less_from_test Less e = refl
less_from_test Equal e = absurd (false≢true e)
less_from_test Greater e = absurd (false≢true e)

-- where the test of less fails, the result isn't less
not_less_from_test : {r : Ordering} → is_less r ≡ false → r ≢ Less
not_less_from_test e h = false≢true (sym e ∙ ap is_less h)

-- an occurrence put in front of a list: the preferred one of it and the least of the list is the least of all
with_one-least : (kind : MatchKind) (o : Occurrence) (os : List Occurrence) (r : Option Occurrence)
    → IsLeast kind (Contains os) r → IsLeast kind (Contains (o ∷ os)) (with_one kind o r)
with_one-least kind o os None h = (
  Contains-head os,
  λ q c. ⊎_elim
      (λ e. subst (λ x. preference kind o x ≢ Greater) e (preference-itself kind o))
      (λ k. absurd (h q k))
      (Contains-cases os c),
)
with_one-least kind o os (Some b) h = by (is_less (preference kind b o)) refl
  where
    by : (t : Bool) → is_less (preference kind b o) ≡ t → IsLeast kind (Contains (o ∷ os)) (cond t (Some b) (Some o))
    by true e = (
      Contains-tail os h.0,
      λ q c. ⊎_elim
          (λ d. subst (λ x. preference kind b x ≢ Greater) d
          (less-not_greater (less_from_test (preference kind b o) e)))
          (λ k. h.1 q k)
          (Contains-cases os c),
    )
    by false e =
        let n : preference kind o b ≢ Greater = preference-not_less kind b o (not_less_from_test e) in (
          Contains-head os,
          λ q c. ⊎_elim
              (λ d. subst (λ x. preference kind o x ≢ Greater) d (preference-itself kind o))
              (λ k. preference-transitive kind o b q n (h.1 q k))
              (Contains-cases os c),
        )

-- the computed least of some occurrences is their least
pub least-least : (kind : MatchKind) (os : List Occurrence) → IsLeast kind (Contains os) (least kind os)
least-least kind [] = λ o h. Contains-nil h
least-least kind (o ∷ os) = with_one-least kind o os (least kind os) (least-least kind os)

-- the computed best is the best
pub best_of-best : (kind : MatchKind) (s : Search) → s.end ≤ length s.haystack → IsBest kind s (best_of kind s)
best_of-best kind s inside =
    IsLeast-like kind (λ o. occurrences-all s o inside) (best_of kind s) (least-least kind (occurrences s))

-- a fact that only occurrences of one search meet has at most one least occurrence
pub least-unique : (kind : MatchKind) {s : Search} {P : Occurrence → Type 0} → s.end ≤ length s.haystack
    → ((o : Occurrence) → P o → Occurs s o) → (a b : Option Occurrence) → IsLeast kind P a → IsLeast kind P b → a ≡ b
least-unique kind inside f None None g h = refl
least-unique kind inside f None (Some y) g h = absurd (g y h.0)
least-unique kind inside f (Some x) None g h = absurd (h x g.0)
least-unique kind {s} inside f (Some x) (Some y) g h =
    ap Some (preference-same kind s x y inside (f x g.0) (f y h.0) (g.1 y h.0) (h.1 x g.0))

-- under standard any fact has at most one least occurrence, since the order distinguishes any two
pub least-unique_standard : (P : Occurrence → Type 0) (a b : Option Occurrence) → IsLeast Standard P a
    → IsLeast Standard P b → a ≡ b
least-unique_standard P None None g h = refl
least-unique_standard P None (Some y) g h = absurd (g y h.0)
least-unique_standard P (Some x) None g h = absurd (h x g.0)
least-unique_standard P (Some x) (Some y) g h =
    ap Some (standard-equal (preference-tied Standard x y (g.1 y h.0) (h.1 x g.0)))

-- a search has at most one best
pub best-unique : (kind : MatchKind) (s : Search) → s.end ≤ length s.haystack → {a b : Option Occurrence}
    → IsBest kind s a → IsBest kind s b → a ≡ b
best-unique kind s inside {a} {b} g h = least-unique kind inside (λ o k. k) a b g h

-- the best is the computed one
pub best-computed : (kind : MatchKind) (s : Search) → s.end ≤ length s.haystack → (r : Option Occurrence)
    → IsBest kind s r → r ≡ best_of kind s
best-computed kind s inside r h = best-unique kind s inside h (best_of-best kind s inside)

-- what equals the computed best is the best
pub best-from_computed : (kind : MatchKind) (s : Search) → s.end ≤ length s.haystack → (r : Option Occurrence)
    → r ≡ best_of kind s → IsBest kind s r
best-from_computed kind s inside r e = subst (IsBest kind s) (sym e) (best_of-best kind s inside)
