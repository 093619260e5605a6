-- What is alive in a text, as it grows.
use Rattle.std.proofs.Common.{◌≡◌, ◌≢◌, ◌⊎◌, ◌↔◌, inl, inr, ⊎_elim, ℕ, ◌+◌, ◌-◌, ◌<◌, ◌≤◌, Bool, true, false, List, [], ◌∷◌, ◌++◌, length, take, drop, Option, Some, None, IsTrue, slice_range, Ordering, Equal, Greater, nat_cmp, sym, ap, subst, refl, ◌∙◌, arith, length-append, length-drop}
use Rattle.std.specs.Ordering.{ordering_then}
use Rattle.std.proofs.lemmas.Bool.{false≢true, cases_lt}
use Rattle.std.proofs.lemmas.Bool.Decides.{nat_tests}
use Rattle.std.proofs.lemmas.List.{take-append-le, drop-append-le, drop_all, take-take, take_all, take_at}
use Rattle.std.proofs.lemmas.Option.{same_Some}
use Rattle.ac_input.specs.declared.search.MatchKind.{MatchKind}
use Rattle.ac_input.specs.declared.search.MatchKind.TheVariants.{Standard, LeftmostFirst, LeftmostLongest}
use Rattle.ac_input.specs.Same.{same_text}
use Rattle.ac_input.specs.Occurrence.{Occurrence, Occurs}
use Rattle.ac_input.specs.Best.{preference, IsBest, asked_kind}
use Rattle.ac_input.specs.Dictionary.{Dictionary, IsPattern, Begins, IsEntered, BeginsEntered, whole, IsAlive, IsLive}
use Rattle.ac_input.specs.Computed.{best_of}
use Rattle.ac_input.proofs.lemmas.OrderLemmas.{preference-same, occurs-end}
use Rattle.ac_input.proofs.lemmas.BeginningLemmas.{occurs-longer, longer-occurs}
use Rattle.ac_input.proofs.lemmas.BestLemmas.{lying, IsLeast-stronger, best_of-best, best-unique}
use Rattle.ac_input.proofs.lemmas.SameLemmas.{same_text-take, same_text-back, same_text-transitive}

-- ---- beginnings

-- a beginning of a text that begins a pattern begins the pattern
pub Begins-front : (pairing front more p : List ℕ) → Begins pairing (front ++ more) p → Begins pairing front p
Begins-front pairing front more p h =
    let n = length front in
    let both : length (front ++ more) ≡ n + length more = length-append front more in
    let within : n ≤ length p = omega (arith, h.0) in
    let shorter : n ≤ length (front ++ more) = omega arith in
    let left : take n (front ++ more) ≡ front = take_at front more n refl in
    let right : take n (take (length (front ++ more)) p) ≡ take n p =
    take-take n (length (front ++ more)) p shorter in (
      within,
      subst (λ xs. IsTrue (same_text pairing xs (take n p))) left
          (subst (λ ys. IsTrue (same_text pairing (take n (front ++ more)) ys)) right
          (same_text-take pairing n (front ++ more) (take (length (front ++ more)) p) h.1)),
    )

-- a beginning of a text that begins an entered pattern begins one, too
pub BeginsEntered-front : (m : Dictionary) (front more : List ℕ) → BeginsEntered m (front ++ more)
    → BeginsEntered m front
BeginsEntered-front m [] more h = tt
BeginsEntered-front m (b ∷ bs) more h = (h.0, h.1, h.2, Begins-front m.pairing (b ∷ bs) more h.1 h.3)

-- a text that begins a given entered pattern begins an entered one
pub BeginsEntered-from : (m : Dictionary) (text : List ℕ) {n : ℕ} {p : List ℕ} → IsEntered m n p
    → Begins m.pairing text p → BeginsEntered m text
BeginsEntered-from m [] e h = tt
BeginsEntered-from m (b ∷ bs) {n} {p} e h = (n, p, e, h)

-- ---- occurrences in a text and more

-- what occurs in a text occurs in a longer text
pub occurs-append : (m : Dictionary) {anchored : Bool} {text : List ℕ} (more : List ℕ) {o : Occurrence}
    → Occurs (whole m text anchored) o → Occurs (whole m (text ++ more) anchored) o
occurs-append m {text} more h = occurs-longer more (omega arith) (omega (arith, length-append text more)) h

-- what occurs in a longer text and ends within the front occurs in the front
pub occurs-front : (m : Dictionary) {anchored : Bool} {text : List ℕ} (more : List ℕ) {o : Occurrence}
    → o.end ≤ length text → Occurs (whole m (text ++ more) anchored) o → Occurs (whole m text anchored) o
occurs-front m more inside h = longer-occurs more (omega arith) inside h

-- the search of a whole text has a best, or none
pub whole-best : (kind : MatchKind) (m : Dictionary) {text : List ℕ} {anchored : Bool}
    → (r : Option Occurrence) × IsBest kind (whole m text anchored) r
whole-best kind m {text} {anchored} =
    (best_of kind (whole m text anchored), best_of-best kind (whole m text anchored) (omega arith))

-- the search of a whole text has a best if something occurs
pub whole-best_some : (kind : MatchKind) (m : Dictionary) {text : List ℕ} {anchored : Bool} {o : Occurrence}
    → Occurs (whole m text anchored) o → (b : Occurrence) × IsBest kind (whole m text anchored) (Some b)
whole-best_some kind m {text} {anchored} {o} h =
    by (best_of kind (whole m text anchored)) (best_of-best kind (whole m text anchored) (omega arith))
  where
    by : (r : Option Occurrence) → IsBest kind (whole m text anchored) r
        → (b : Occurrence) × IsBest kind (whole m text anchored) (Some b)
    by None none = absurd (none o h)
    by (Some b) best = (b, best)

-- ---- what a kind prefers

-- a greater number compares as greater
pub nat_cmp-greater : {x y : ℕ} → y < x → nat_cmp x y ≡ Greater
nat_cmp-greater h = grind (arith, nat_tests)

-- equal numbers compare as equal
pub nat_cmp-equal : {x y : ℕ} → x ≡ y → nat_cmp x y ≡ Equal
nat_cmp-equal h = grind (arith, nat_tests)

-- where the first comparison is no tie, it decides
then-greater : {x y : ℕ} (t : Ordering) → y < x → ordering_then (nat_cmp x y) t ≡ Greater
then-greater t h = ap (λ r. ordering_then r t) (nat_cmp-greater h)

-- where the first comparison ties, the next one decides
then-equal : {x y : ℕ} {t : Ordering} → x ≡ y → ordering_then (nat_cmp x y) t ≡ t
then-equal {t} h = ap (λ r. ordering_then r t) (nat_cmp-equal h)

-- under a leftmost kind, what is no less preferred starts no later
pub leftmost-no_later : (kind : MatchKind) (a b : Occurrence) → kind ≢ Standard → preference kind a b ≢ Greater
    → a.start ≤ b.start
leftmost-no_later Standard a b leftmost h = absurd (leftmost refl)
leftmost-no_later LeftmostFirst a b leftmost h =
    ⊎_elim (λ (later : b.start < a.start). absurd (h (then-greater _ later))) (λ (le : a.start ≤ b.start). le)
    (cases_lt b.start a.start)
leftmost-no_later LeftmostLongest a b leftmost h =
    ⊎_elim (λ (later : b.start < a.start). absurd (h (then-greater _ later))) (λ (le : a.start ≤ b.start). le)
    (cases_lt b.start a.start)

-- under standard, what is no less preferred ends no later
pub standard-no_later : (a b : Occurrence) → preference Standard a b ≢ Greater → a.end ≤ b.end
standard-no_later a b h =
    ⊎_elim (λ (later : b.end < a.end). absurd (h (then-greater _ later))) (λ (le : a.end ≤ b.end). le)
    (cases_lt b.end a.end)

-- a kind is the standard one or a leftmost one
pub kind_cases : (kind : MatchKind) → (kind ≡ Standard) ⊎ (kind ≢ Standard)
kind_cases Standard = inl refl
kind_cases LeftmostFirst = inr (λ e. cc)
kind_cases LeftmostLongest = inr (λ e. cc)

-- the best of a longer text starts no later than the best of its front
pub best-no_later : (kind : MatchKind) (m : Dictionary) {anchored : Bool} {text : List ℕ} (more : List ℕ)
    {before after : Occurrence} → IsBest kind (whole m text anchored) (Some before)
    → IsBest kind (whole m (text ++ more) anchored) (Some after) → after.start ≤ before.start
best-no_later kind m {anchored} {text} more {before} {after} g h =
    let longer = occurs-append m more g.0 in
    ⊎_elim
    (λ (standard : kind ≡ Standard).
    let sooner : after.end ≤ before.end = standard-no_later after before
    (subst (λ k. preference k after before ≢ Greater) standard (h.1 before longer)) in
    let inside = g.0.within in
    let back = occurs-front m more (omega arith) h.0 in
    let one : after ≡ before = preference-same kind (whole m text anchored) after before (omega arith) back g.0
    (h.1 before longer) (g.1 after back) in
    let start : after.start ≡ before.start = ap (λ o. o.start) one in
    omega arith)
    (λ (leftmost : kind ≢ Standard). leftmost-no_later kind after before leftmost (h.1 before longer))
    (kind_cases kind)

-- ---- places that are alive

-- a place of a text that is alive after more bytes is alive before them
pub alive-front : {m : Dictionary} {anchored : Bool} {text : List ℕ} (more : List ℕ) {from : ℕ} → from ≤ length text
    → IsAlive m anchored (text ++ more) from → IsAlive m anchored text from
alive-front {m} {text} more {from} inside h =
    record {
      within = inside;
      begins = BeginsEntered-front m (drop from text) more
          (subst (λ xs. BeginsEntered m xs) (drop-append-le from text more inside) h.begins);
      anchor = h.anchor;
      no_later =
          ⊎_elim inl
          (λ unanchored. ⊎_elim (λ standard. inr (inl standard))
          (λ before.
          inr (inr
          (λ best is. let longer = whole-best_some m.kind m (occurs-append m more is.0) in
          let le = best-no_later m.kind m more is longer.1 in let alive = before longer.0 longer.1 in omega arith)))
          unanchored) h.no_later;
    }

-- the end of a text is alive under standard, or if the best doesn't start before it
pub alive-end : {m : Dictionary} {text : List ℕ}
    → ((m.kind ≡ Standard)
    ⊎ ((best : Occurrence) → IsBest m.kind (whole m text false) (Some best) → length text ≤ best.start))
    → IsAlive m false text (length text)
alive-end {m} {text} no_later =
    record {
      within = omega arith;
      begins = subst (λ xs. BeginsEntered m xs) (sym (drop_all (length text) text (omega arith))) tt;
      anchor = λ a. absurd (false≢true a);
      no_later = inr no_later;
    }

-- A text that is dead from the unanchored start has a best, which starts before its end; the kind is a leftmost one.
pub dead-best : {m : Dictionary} {text : List ℕ} → IsLive m false text None
    → (m.kind ≢ Standard) × ((b : Occurrence) × IsBest m.kind (whole m text false) (Some b) × (b.start < length text))
dead-best {m} {text} dead = (
  λ standard. dead (length text) (alive-end (inl standard)),
  by (best_of m.kind (whole m text false)) (best_of-best m.kind (whole m text false) (omega arith)),
)
  where
    by : (r : Option Occurrence) → IsBest m.kind (whole m text false) r
        → (b : Occurrence) × IsBest m.kind (whole m text false) (Some b) × (b.start < length text)
    by None none = absurd (dead (length text) (alive-end (inr (λ best is. absurd (none best is.0)))))
    by (Some b) best = ⊎_elim
        (λ (before : b.start < length text). let r : (c : Occurrence) × IsBest m.kind (whole m text false) (Some c)
        × (c.start < length text) = (b, best, before) in r)
        (λ (past : length text ≤ b.start).
        absurd (dead (length text)
        (alive-end
        (inr (λ other is. subst (λ c. length text ≤ c.start)
        (same_Some b other (best-unique m.kind (whole m text false) (omega arith) best is)) past)))))
        (cases_lt b.start (length text))

-- a dead text stays dead, whatever follows
pub dead-append : (m : Dictionary) (anchored : Bool) (text more : List ℕ) → IsLive m anchored text None
    → IsLive m anchored (text ++ more) None
dead-append m true text more dead from alive =
    let first : from ≡ 0 = alive.anchor refl in
    dead from (alive-front more (omega arith) alive)
dead-append m false text more dead from alive =
    let had = dead-best dead in
    let longer = whole-best_some m.kind m (occurs-append m more had.1.1.0) in
    let le = best-no_later m.kind m more had.1.1 longer.1 in
    let lt = had.1.2 in
    ⊎_elim
    (λ (past : length text < from).
    ⊎_elim
    (λ anchor. false≢true anchor)
    (λ unanchored. ⊎_elim (λ standard. had.0 standard)
    (λ before. let alive_start = before longer.0 longer.1 in absurd (omega arith)) unanchored)
    alive.no_later)
    (λ (inside : from ≤ length text). dead from (alive-front more inside alive))
    (cases_lt (length text) from)

-- ---- what the best's pattern is, and what is final

-- an earlier pattern at the same start, which ends sooner, is preferred by leftmost-first, and by an earliest search
shadow-greater : {kind : MatchKind} (earliest : Bool) {a b : Occurrence} → kind ≡ LeftmostFirst → a.start ≡ b.start
    → b.pattern < a.pattern → b.end < a.end → preference (asked_kind kind earliest) a b ≡ Greater
shadow-greater true first start pattern end = then-greater _ end
shadow-greater false {a} {b} first start pattern end =
    subst (λ k. preference k a b ≡ Greater) (sym first) (then-equal start ∙ nat_cmp-greater pattern)

-- the front of a part of a text
take-slice_range : (n : ℕ) (text : List ℕ) (a b : ℕ) → n ≤ b - a → take n (slice_range text a b) ≡ take n (drop a text)
take-slice_range n text a b h = take-take n (b - a) (drop a text) h

-- where a pattern occurs, a pattern that begins it occurs, too
begins-occurs : (m : Dictionary) {anchored : Bool} {text : List ℕ} {o : Occurrence} {p : List ℕ} {n : ℕ} {q : List ℕ}
    → Occurs (whole m text anchored) o → IsPattern m o.pattern p → IsPattern m n q → Begins m.pairing q p
    → (o.start + length p ≡ o.end) × Occurs (whole m text anchored) (lying n o.start q)
begins-occurs m {text} {o} {p} {q} h is named begins =
    let w = h.within in
    let found = occurs-end (omega arith) h in
    let one : found.0 ≡ p = same_Some found.0 p (sym found.1 ∙ is) in
    let long : length found.0 ≡ length p = ap length one in
    let end = found.2 in
    let shorter = begins.0 in
    let k = length q in
    let there : IsTrue (same_text m.pairing p (slice_range text o.start o.end)) = subst
    (λ xs. IsTrue (same_text m.pairing xs (slice_range text o.start o.end))) (same_Some h.same.0 p (sym h.same.1 ∙ is))
    h.same.2 in
    let fronts : IsTrue (same_text m.pairing (take k p) (take k (slice_range text o.start o.end))) =
    same_text-take m.pairing k p (slice_range text o.start o.end) there in
    let both : IsTrue (same_text m.pairing q (take k (slice_range text o.start o.end))) =
    same_text-transitive m.pairing q (take k p) (take k (slice_range text o.start o.end)) begins.1 fronts in
    let span : o.start + k - o.start ≡ k = omega arith in
    let part : take k (slice_range text o.start o.end) ≡ slice_range text o.start (o.start + k) =
    take-slice_range k text o.start o.end (omega arith) ∙ ap (λ i. take i (drop o.start text)) (sym span) in (
      omega arith,
      record {
        within = (w.0, omega arith, omega arith);
        same = (q, named, subst (λ xs. IsTrue (same_text m.pairing q xs)) part both);
        anchor = h.anchor;
      },
    )

-- the pattern of the best is entered: one that shadows it would be preferred
pub best-entered : {m : Dictionary} {anchored : Bool} (earliest : Bool) {text : List ℕ} {o : Occurrence} {p : List ℕ}
    → IsBest (asked_kind m.kind earliest) (whole m text anchored) (Some o) → IsPattern m o.pattern p
    → IsEntered m o.pattern p
best-entered {m} earliest {o} best is = (
  is,
  λ first shadow.
      let it = lying shadow.0 o.start shadow.1 in
      let there = begins-occurs m best.0 is shadow.3 shadow.5 in
      let sooner : it.end < o.end = omega (arith, there.0, shadow.4) in
      best.1 it there.1 (shadow-greater earliest first refl shadow.2 sooner),
)

-- Where an occurrence of an entered pattern reaches or crosses the end of a text, the text from its start begins an
-- entered pattern.
pub entered-begins : {m : Dictionary} {anchored : Bool} (text more : List ℕ) {o : Occurrence} {p : List ℕ}
    → Occurs (whole m (text ++ more) anchored) o → IsEntered m o.pattern p → o.start ≤ length text → length text ≤ o.end
    → BeginsEntered m (drop o.start text)
entered-begins {m} text more {o} {p} h entered inside past =
    let w = h.within in
    let rest = drop o.start text in
    let n = length rest in
    let left : n ≡ length text - o.start = length-drop o.start text in
    let found = occurs-end (omega arith) h in
    let one : found.0 ≡ p = same_Some found.0 p (sym found.1 ∙ entered.0) in
    let long : length found.0 ≡ length p = ap length one in
    let end = found.2 in
    let there : IsTrue (same_text m.pairing p (slice_range (text ++ more) o.start o.end)) = subst
    (λ xs. IsTrue (same_text m.pairing xs (slice_range (text ++ more) o.start o.end)))
    (same_Some h.same.0 p (sym h.same.1 ∙ entered.0)) h.same.2 in
    let fronts : IsTrue (same_text m.pairing (take n p) (take n (slice_range (text ++ more) o.start o.end))) =
    same_text-take m.pairing n p (slice_range (text ++ more) o.start o.end) there in
    let part : take n (slice_range (text ++ more) o.start o.end)
    ≡ rest = take-slice_range n (text ++ more) o.start o.end (omega arith)
    ∙ ap (take n) (drop-append-le o.start text more inside) ∙ take-append-le n rest more (omega arith)
    ∙ take_all n rest (omega arith) in
    let same : IsTrue (same_text m.pairing rest (take n p)) = same_text-back m.pairing (take n p) rest
    (subst (λ xs. IsTrue (same_text m.pairing (take n p) xs)) part fronts) in
    BeginsEntered-from m rest entered (omega arith, same)

-- the best of a dead text with more bytes lies in the text
pub dead-lies : {m : Dictionary} {anchored : Bool} (earliest : Bool) {text : List ℕ} (more : List ℕ) {o : Occurrence}
    → IsLive m anchored text None → IsBest (asked_kind m.kind earliest) (whole m (text ++ more) anchored) (Some o)
    → o.end ≤ length text
dead-lies {m} {anchored} earliest {text} more {o} dead best =
    ⊎_elim (λ (past : length text < o.end). absurd (by anchored earliest dead best past))
    (λ (le : o.end ≤ length text). le) (cases_lt (length text) o.end)
  where
    begins : (anchored earliest : Bool) → IsBest (asked_kind m.kind earliest) (whole m (text ++ more) anchored) (Some o)
        → o.start ≤ length text → length text < o.end → BeginsEntered m (drop o.start text)
    begins anchored earliest best inside past =
        entered-begins text more best.0 (best-entered earliest best best.0.same.1) inside (omega arith)

    by : (anchored earliest : Bool) → IsLive m anchored text None
        → IsBest (asked_kind m.kind earliest) (whole m (text ++ more) anchored) (Some o) → length text < o.end → ⊥
    by true earliest dead best past =
        let first : o.start ≡ 0 = best.0.anchor refl in
        let inside : o.start ≤ length text = omega arith in
        dead o.start
        (record {
          within = inside;
          begins = begins true earliest best inside past;
          anchor = λ _. first;
          no_later = inl refl;
        })
    by false true dead best past =
        let had = dead-best dead in
        let within = had.1.1.0.within in
        let sooner = standard-no_later o had.1.0 (best.1 had.1.0 (occurs-append m more had.1.1.0)) in
        absurd (omega arith)
    by false false dead best past =
        let had = dead-best dead in
        let sooner = best-no_later m.kind m more had.1.1 best in
        let before = had.1.2 in
        let inside : o.start ≤ length text = omega arith in
        dead o.start
        (record {
          within = inside;
          begins = begins false false best inside past;
          anchor = λ a. absurd (false≢true a);
          no_later = inr (inr (λ other is. best-no_later m.kind m more is best));
        })

-- where the best of a text with more bytes lies in the text, those bytes don't change the best
pub final-from_lies : (kind : MatchKind) (m : Dictionary) {anchored : Bool} (text more : List ℕ)
    → ((o : Occurrence) → IsBest kind (whole m (text ++ more) anchored) (Some o) → o.end ≤ length text)
    → (r : Option Occurrence) → IsBest kind (whole m text anchored) r ↔ IsBest kind (whole m (text ++ more) anchored) r
final-from_lies kind m {anchored} text more lies r = (
  λ h.
      let longer = whole-best kind m in
      subst (λ x. IsBest kind (whole m (text ++ more) anchored) x)
      (best-unique kind (whole m text anchored) (omega arith) (back longer.0 longer.1) h) longer.1,
  back r,
)
  where
    back : (r : Option Occurrence) → IsBest kind (whole m (text ++ more) anchored) r
        → IsBest kind (whole m text anchored) r
    back None none = λ o h. none o (occurs-append m more h)
    back (Some b) best =
        IsLeast-stronger kind (λ _. occurs-append m more) (occurs-front m more (lies b best) best.0) best

-- the best of a dead text is final
pub dead-final : (m : Dictionary) (anchored earliest : Bool) (text more : List ℕ) (r : Option Occurrence)
    → IsLive m anchored text None
    → IsBest (asked_kind m.kind earliest) (whole m text anchored) r
    ↔ IsBest (asked_kind m.kind earliest) (whole m (text ++ more) anchored) r
dead-final m anchored earliest text more r dead =
    final-from_lies (asked_kind m.kind earliest) m text more (λ o best. dead-lies earliest more dead best) r
