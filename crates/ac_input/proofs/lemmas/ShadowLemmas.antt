-- Which patterns are entered, by the own patterns of their beginnings; and that a text has one list.
use Rattle.std.proofs.Common.{◌≡◌, ◌≢◌, ◌↔◌, ⊎_elim, ℕ, ◌+◌, ◌-◌, ◌<◌, ◌≤◌, true, false, List, [], ◌∷◌, ◌++◌, length, drop, take, Some, None, IsTrue, slice_range, Greater, sym, ap, ap₂, subst, refl, ◌∙◌, arith, length-take-le}
use Rattle.std.specs.List.{Contains}
use Rattle.std.proofs.lemmas.Bool.{cases_lt}
use Rattle.std.proofs.lemmas.List.{take-take}
use Rattle.std.proofs.lemmas.Option.{same_Some}
use Rattle.ac_input.specs.declared.search.MatchKind.{MatchKind}
use Rattle.ac_input.specs.declared.search.MatchKind.TheVariants.{Standard, LeftmostFirst, LeftmostLongest}
use Rattle.ac_input.specs.Same.{same_text}
use Rattle.ac_input.specs.Occurrence.{Occurrence, Occurs}
use Rattle.ac_input.specs.Best.{preference, IsBest}
use Rattle.ac_input.specs.Dictionary.{Dictionary, IsPattern, IsEntered, IsShadowed, Begins, whole}
use Rattle.ac_input.specs.Failure.{AreRising, IsOwn, AreOwn, IsList, OwnAlone, OwnThen}
use Rattle.ac_input.proofs.lemmas.ContainsLemmas.{Contains-nil, Contains-head, Contains-tail, Contains-cases}
use Rattle.ac_input.proofs.lemmas.OrderLemmas.{same_text-length}
use Rattle.ac_input.proofs.lemmas.BestLemmas.{lying}
use Rattle.ac_input.proofs.lemmas.LiveLemmas.{whole-best_some, best-entered}
use Rattle.ac_input.proofs.lemmas.LeftmostListLemmas.{first-number}
use Rattle.ac_input.proofs.lemmas.FailureLemmas.{failure-one}

-- ---- shadows

-- a proper beginning of the pattern has an own pattern of a lower number
abbrev pub OwnBefore : Dictionary → ℕ → List ℕ → Type 0
OwnBefore m n p = (bytes earlier : ℕ) × (bytes < length p) × (earlier < n) × IsOwn m (take bytes p) earlier

-- an own pattern of a lower number shadows the pattern
own-shadows : (m : Dictionary) (n : ℕ) (p : List ℕ) → OwnBefore m n p → IsShadowed m n p
own-shadows m n p h =
    let q = h.4.0 in
    let lt = h.2 in
    let long : length q ≡ h.0 = same_text-length m.pairing q (take h.0 p) h.4.2
    ∙ length-take-le h.0 p (omega arith) in (
      h.1,
      q,
      h.3,
      h.4.1.0,
      omega arith,
      (omega arith, subst (λ k. IsTrue (same_text m.pairing q (take k p))) (sym long) h.4.2),
    )

-- where the earlier pattern is entered, it is an own pattern of a beginning of the pattern
entered-own : (m : Dictionary) {n : ℕ} {p : List ℕ} (shadow : IsShadowed m n p) → IsEntered m shadow.0 shadow.1
    → OwnBefore m n p
entered-own m shadow entered = (length shadow.1, shadow.0, shadow.4, shadow.2, (shadow.1, entered, shadow.5.1))

-- an entered pattern that occurs at the start of a beginning of a pattern is an own pattern of some beginning
lies-own : {m : Dictionary} (p : List ℕ) {size : ℕ} {b : Occurrence} (h : Occurs (whole m (take size p) true) b)
    → size ≤ length p → IsEntered m b.pattern h.same.0 → (b.end ≤ size) × IsOwn m (take b.end p) b.pattern
lies-own {m} p {size} {b} h inside entered =
    let w = h.within in
    let long = length-take-le size p inside in
    let start : b.start ≡ 0 = h.anchor refl in
    let span : b.end - b.start ≡ b.end = omega arith in
    let part : slice_range (take size p) b.start b.end ≡ take b.end p =
    ap₂ (λ i j. take i (drop j (take size p))) span start ∙ take-take b.end size p (omega arith) in
    (omega arith, (h.same.0, entered, subst (λ xs. IsTrue (same_text m.pairing h.same.0 xs)) part h.same.2))

-- a pattern that begins another occurs in each beginning of it that is long enough
begins-lies : (m : Dictionary) (p : List ℕ) {size n : ℕ} {q : List ℕ} → IsPattern m n q → Begins m.pairing q p
    → length q ≤ size → size ≤ length p → Occurs (whole m (take size p) true) (lying n 0 q)
begins-lies m p {size} {q} is begins shorter inside =
    let long = length-take-le size p inside in
    let span : length q ≡ 0 + length q - 0 = omega arith in
    let front : take (length q) p ≡ take (0 + length q - 0) (take size p) = sym (take-take (length q) size p shorter)
    ∙ ap (λ i. take i (take size p)) span in
    record {
      within = (omega arith, omega arith, omega arith);
      same = (q, is, subst (λ xs. IsTrue (same_text m.pairing q xs)) front begins.1);
      anchor = λ _. refl;
    }

-- under leftmost-first, a proper beginning of a shadowed pattern has an own pattern of a lower number
first-own : (m : Dictionary) (n : ℕ) (p : List ℕ) → m.kind ≡ LeftmostFirst → IsShadowed m n p → OwnBefore m n p
first-own m n p first shadow = by best.0 best.1
  where
    there : Occurs (whole m (take (length p - 1) p) true) (lying shadow.0 0 shadow.1)
    there = let lt = shadow.4 in begins-lies m p shadow.3 shadow.5 (omega arith) (omega arith)

    best : (b : Occurrence) × IsBest m.kind (whole m (take (length p - 1) p) true) (Some b)
    best = whole-best_some m.kind m there

    by : (b : Occurrence) → IsBest m.kind (whole m (take (length p - 1) p) true) (Some b) → OwnBefore m n p
    by b is =
        let less = shadow.2 in
        let shorter = shadow.4 in
        let entered = best-entered false is is.0.same.1 in
        let no_later : preference LeftmostFirst b (lying shadow.0 0 shadow.1)
        ≢ Greater = subst (λ k. preference k b (lying shadow.0 0 shadow.1) ≢ Greater) first
        (is.1 (lying shadow.0 0 shadow.1) there) in
        let le : b.pattern ≤ shadow.0 =
        ⊎_elim (λ (greater : shadow.0 < b.pattern).
        absurd (no_later (first-number b (lying shadow.0 0 shadow.1) (is.0.anchor refl) greater)))
        (λ (le : b.pattern ≤ shadow.0). le) (cases_lt shadow.0 b.pattern) in
        let own = lies-own p is.0 (omega arith) entered in
        let inside = own.0 in
        (b.end, b.pattern, omega arith, omega arith, own.1)

-- An earlier pattern is a proper beginning of a pattern exactly if a proper beginning of it has an own pattern of a
-- lower number.
pub shadowed-own : (m : Dictionary) (n : ℕ) (p : List ℕ) → IsShadowed m n p ↔ OwnBefore m n p
shadowed-own m n p = (by m.kind refl, own-shadows m n p)
  where
    by : (kind : MatchKind) → m.kind ≡ kind → IsShadowed m n p → OwnBefore m n p
    by Standard is shadow =
        entered-own m shadow (shadow.3, λ first. let e : Standard ≡ LeftmostFirst = sym is ∙ first in cc)
    by LeftmostFirst is shadow = first-own m n p is shadow
    by LeftmostLongest is shadow =
        entered-own m shadow (shadow.3, λ first. let e : LeftmostLongest ≡ LeftmostFirst = sym is ∙ first in cc)

-- ---- own patterns and lists are unique

-- rising lists of the same numbers are equal
rising-one : (xs ys : List ℕ) → AreRising xs → AreRising ys → ((n : ℕ) → Contains xs n ↔ Contains ys n) → xs ≡ ys
rising-one [] [] g h same = refl
rising-one [] (y ∷ ys) g h same = absurd (Contains-nil ((same y).1 (Contains-head ys)))
rising-one (x ∷ xs) [] g h same = absurd (Contains-nil ((same x).0 (Contains-head xs)))
rising-one (x ∷ xs) (y ∷ ys) g h same =
    let e : x ≡ y = heads ((same x).0 (Contains-head xs)) ((same y).1 (Contains-head ys)) in
    ap₂ ◌∷◌ e
    (rising-one xs ys g.1 h.1
    (λ n. (
      λ c. later x xs y ys n e (g.0 n c) ((same n).0 (Contains-tail xs c)),
      λ c. later y ys x xs n (sym e) (h.0 n c) ((same n).1 (Contains-tail ys c)),
    )))
  where
    heads : Contains (y ∷ ys) x → Contains (x ∷ xs) y → x ≡ y
    heads a b =
        ⊎_elim
        (λ (e : y ≡ x). sym e)
        (λ a_later. ⊎_elim (λ (e : x ≡ y). e)
        (λ b_later. let lt = h.0 x a_later in let gt = g.0 y b_later in absurd (omega arith)) (Contains-cases xs b))
        (Contains-cases ys a)

    later : (x : ℕ) (xs : List ℕ) (y : ℕ) (ys : List ℕ) (n : ℕ) → x ≡ y → x < n → Contains (y ∷ ys) n → Contains ys n
    later x xs y ys n e lt c = ⊎_elim (λ (here : y ≡ n). absurd (omega arith)) (λ there. there) (Contains-cases ys c)

-- a text has only one list of its own patterns
pub owns-one : (m : Dictionary) {text xs ys : List ℕ} → AreOwn m text xs → AreOwn m text ys → xs ≡ ys
owns-one m {xs} {ys} g h = rising-one xs ys g.0 h.0 (λ n. (λ c. (h.1 n).1 ((g.1 n).0 c), λ c. (g.1 n).1 ((h.1 n).0 c)))

-- a text has only one list
pub list-one : {m : Dictionary} {text xs : List ℕ} → IsList m text xs → (ys : List ℕ) → IsList m text ys → xs ≡ ys
list-one {m} {text} {xs} (OwnAlone _ _ are failure) ys other = alone ys other
  where
    alone : (ys : List ℕ) → IsList m text ys → xs ≡ ys
    alone ys (OwnAlone _ _ others none) = owns-one m are others
    alone ys (OwnThen _ own rest from others some list) = let e = failure-one m text None (Some from) failure some in cc
list-one {m} {text} (OwnThen _ own rest from are failure list) ys other = then (list-one list) ys other
  where
    then : ((zs : List ℕ) → IsList m (drop from text) zs → rest ≡ zs) → (ys : List ℕ) → IsList m text ys
        → own ++ rest ≡ ys
    then inner ys (OwnAlone _ _ others none) = let e = failure-one m text (Some from) None failure none in cc
    then inner ys (OwnThen _ owned more at others some rests) =
        let e : at ≡ from = same_Some at from (failure-one m text (Some at) (Some from) some failure) in
        ap₂ ◌++◌ (owns-one m are others) (inner more (subst (λ k. IsList m (drop k text) more) e rests))
