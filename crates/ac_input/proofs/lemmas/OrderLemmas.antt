-- The preference is a total order on the occurrences of a search.
use Rattle.std.proofs.Common.{◌≡◌, ◌≢◌, ℕ, ◌+◌, ◌-◌, ◌<◌, ◌≤◌, false, List, [], ◌∷◌, length, drop, Some, IsTrue, slice_get, slice_range, Ordering, Less, Equal, Greater, nat_cmp, is_gt, sym, ap, refl, ◌∙◌, arith, length-take-le, length-drop}
use Rattle.std.specs.Cmp.{IsTotalOrder, nat_cmp_is}
use Rattle.std.specs.Ordering.{ordering_then, ordering_reverse}
use Rattle.std.proofs.lemmas.Cmp.{nat_cmp_total, on_total, then_total, back_total, tied_itself, alike_right, ranked, upto}
use Rattle.std.proofs.lemmas.Bool.{and_parts, false≢true}
use Rattle.std.proofs.lemmas.Option.{same_Some}
use Rattle.ac_input.specs.declared.search.MatchKind.{MatchKind}
use Rattle.ac_input.specs.declared.search.MatchKind.TheVariants.{Standard, LeftmostFirst, LeftmostLongest}
use Rattle.ac_input.specs.Same.{same_text}
use Rattle.ac_input.specs.Occurrence.{Search, Occurrence, Occurs}
use Rattle.ac_input.specs.Best.{preference}

-- the preference of each kind is a total order
pub preference-total : (kind : MatchKind) → IsTotalOrder (preference kind)
preference-total Standard =
    then_total (on_total (λ (o : Occurrence). o.end) nat_cmp_total)
    (then_total (on_total (λ (o : Occurrence). o.start) nat_cmp_total)
    (on_total (λ (o : Occurrence). o.pattern) nat_cmp_total))
preference-total LeftmostFirst =
    then_total (on_total (λ (o : Occurrence). o.start) nat_cmp_total)
    (on_total (λ (o : Occurrence). o.pattern) nat_cmp_total)
preference-total LeftmostLongest =
    then_total (on_total (λ (o : Occurrence). o.start) nat_cmp_total)
    (then_total (back_total (on_total (λ (o : Occurrence). o.end) nat_cmp_total))
    (on_total (λ (o : Occurrence). o.pattern) nat_cmp_total))

-- a result that isn't `Greater` fails the test of greater
not_greater : (r : Ordering) → r ≢ Greater → is_gt r ≡ false
not_greater Less h = refl
not_greater Equal h = refl
not_greater Greater h = absurd (h refl)

-- a result that fails the test of greater isn't `Greater`
from_not_greater : {r : Ordering} → is_gt r ≡ false → r ≢ Greater
from_not_greater h e = false≢true (sym h ∙ ap is_gt e)

-- an occurrence ties with itself
pub preference-equal_itself : (kind : MatchKind) (a : Occurrence) → preference kind a a ≡ Equal
preference-equal_itself kind a = tied_itself (preference-total kind) a

-- an occurrence isn't greater than itself
pub preference-itself : (kind : MatchKind) (a : Occurrence) → preference kind a a ≢ Greater
preference-itself kind a h = let e = preference-equal_itself kind a in cc

-- being no later is transitive
pub preference-transitive : (kind : MatchKind) (a b c : Occurrence) → preference kind a b ≢ Greater
    → preference kind b c ≢ Greater → preference kind a c ≢ Greater
preference-transitive kind a b c g h =
    from_not_greater
    (upto (preference-total kind) a b c (not_greater (preference kind a b) g) (not_greater (preference kind b c) h))

-- the order of two occurrences, seen from the other one, is the reverse
pub preference-back : (kind : MatchKind) (a b : Occurrence)
    → preference kind b a ≡ ordering_reverse (preference kind a b)
preference-back kind a b = IsTotalOrder.antisymm (preference-total kind) b a

-- if one of two occurrences is greater, the other is less
pub preference-greater : (kind : MatchKind) (a b : Occurrence) → preference kind a b ≡ Greater
    → preference kind b a ≡ Less
preference-greater kind a b h = preference-back kind a b ∙ ap ordering_reverse h

-- if one of two occurrences is less, the other is greater
pub preference-less : (kind : MatchKind) (a b : Occurrence) → preference kind a b ≡ Less → preference kind b a ≡ Greater
preference-less kind a b h = preference-back kind a b ∙ ap ordering_reverse h

-- an order that isn't greater from either side is equal
not_both_greater : (r : Ordering) → r ≢ Greater → ordering_reverse r ≢ Greater → r ≡ Equal
not_both_greater Less g h = absurd (h refl)
not_both_greater Equal g h = refl
not_both_greater Greater g h = absurd (g refl)

-- occurrences tie if neither is preferred to the other
pub preference-tied : (kind : MatchKind) (a b : Occurrence) → preference kind a b ≢ Greater
    → preference kind b a ≢ Greater → preference kind a b ≡ Equal
preference-tied kind a b g h = not_both_greater (preference kind a b) g (λ e. h (preference-back kind a b ∙ e))

-- what is less than one that is no later than a third is less than the third
pub preference-less_then : (kind : MatchKind) (a b c : Occurrence) → preference kind a b ≡ Less
    → preference kind b c ≢ Greater → preference kind a c ≡ Less
preference-less_then kind a b c g h = step (preference kind b c) refl h
  where
    step : (r : Ordering) → preference kind b c ≡ r → r ≢ Greater → preference kind a c ≡ Less
    step Less e n = IsTotalOrder.trans (preference-total kind) a b c g e
    step Equal e n = sym (alike_right (preference-total kind) b c a e) ∙ g
    step Greater e n = absurd (n refl)

-- what is no later than one that is less than a third is less than the third
pub preference-then_less : (kind : MatchKind) (a b c : Occurrence) → preference kind a b ≢ Greater
    → preference kind b c ≡ Less → preference kind a c ≡ Less
preference-then_less kind a b c g h = step (preference kind a b) refl g
  where
    step : (r : Ordering) → preference kind a b ≡ r → r ≢ Greater → preference kind a c ≡ Less
    step Less e n = IsTotalOrder.trans (preference-total kind) a b c e h
    step Equal e n = IsTotalOrder.congr (preference-total kind) a b c e ∙ h
    step Greater e n = absurd (n refl)

-- being less is transitive
pub preference-less_transitive : (kind : MatchKind) (a b c : Occurrence) → preference kind a b ≡ Less
    → preference kind b c ≡ Less → preference kind a c ≡ Less
preference-less_transitive kind a b c g h = IsTotalOrder.trans (preference-total kind) a b c g h

-- less is not greater
pub less-not_greater : {r : Ordering} → r ≡ Less → r ≢ Greater
less-not_greater e h = cc

-- a leftmost kind prefers the earlier start
pub earlier-less : (kind : MatchKind) → kind ≢ Standard → (a b : Occurrence) → a.start < b.start
    → preference kind a b ≡ Less
earlier-less Standard leftmost a b h = absurd (leftmost refl)
earlier-less LeftmostFirst leftmost a b h = let e = nat_cmp_is a.start b.start Less h in rw (← e)
earlier-less LeftmostLongest leftmost a b h = let e = nat_cmp_is a.start b.start Less h in rw (← e)

-- if one occurrence isn't less than another, the other is no later than it
pub preference-not_less : (kind : MatchKind) (a b : Occurrence) → preference kind a b ≢ Less
    → preference kind b a ≢ Greater
preference-not_less kind a b h e = h (preference-greater kind b a e)

-- two comparisons, one after the other, tie only if both do
then_equal : (r : Ordering) {t : Ordering} → ordering_then r t ≡ Equal → (r ≡ Equal) × (t ≡ Equal)
then_equal Less h = absurd (let e : Less ≡ Equal = h in cc)
then_equal Equal h = (refl, h)
then_equal Greater h = absurd (let e : Greater ≡ Equal = h in cc)

-- numbers that tie are equal
tied_numbers : {x y : ℕ} → nat_cmp x y ≡ Equal → x ≡ y
tied_numbers {x} {y} h = ranked x y Equal (sym h)

-- occurrences with the same three numbers are equal
pub occurrence_from_parts : {a b : Occurrence} → a.pattern ≡ b.pattern → a.start ≡ b.start → a.end ≡ b.end → a ≡ b
occurrence_from_parts p q r = λ i. record { pattern = p i; start = q i; end = r i }

-- under standard, occurrences that tie are equal
pub standard-equal : {a b : Occurrence} → preference Standard a b ≡ Equal → a ≡ b
standard-equal {a} {b} h =
    let e = then_equal (nat_cmp a.end b.end) h in
    let f = then_equal (nat_cmp a.start b.start) e.1 in
    occurrence_from_parts (tied_numbers f.1) (tied_numbers f.0) (tied_numbers e.0)

-- under leftmost-longest, occurrences that tie are equal
pub longest-equal : (a b : Occurrence) → preference LeftmostLongest a b ≡ Equal → a ≡ b
longest-equal a b h =
    let e = then_equal (nat_cmp a.start b.start) h in
    let f = then_equal (nat_cmp b.end a.end) e.1 in
    occurrence_from_parts (tied_numbers f.1) (tied_numbers e.0) (sym (tied_numbers f.0))

-- under leftmost-first, occurrences that tie have one start and one number
pub first-equal : (a b : Occurrence) → preference LeftmostFirst a b ≡ Equal
    → (a.start ≡ b.start) × (a.pattern ≡ b.pattern)
first-equal a b h =
    let e = then_equal (nat_cmp a.start b.start) h in
    (tied_numbers e.0, tied_numbers e.1)

-- texts that are the same are as long as each other
pub same_text-length : (pairing a b : List ℕ) → IsTrue (same_text pairing a b) → length a ≡ length b
same_text-length pairing [] [] h = refl
same_text-length pairing [] (y ∷ ys) h = absurd (false≢true h)
same_text-length pairing (x ∷ xs) [] h = absurd (false≢true h)
same_text-length pairing (x ∷ xs) (y ∷ ys) h =
    let e = same_text-length pairing xs ys ((and_parts _ (same_text pairing xs ys) h).1) in omega arith

-- a part within a text is as long as the distance of its places
pub slice_range-length : (x : List ℕ) (a : ℕ) {b : ℕ} → a ≤ b → b ≤ length x → length (slice_range x a b) ≡ b - a
slice_range-length x a {b} g h = let d = length-drop a x in length-take-le (b - a) (drop a x) (omega arith)

-- an occurrence within the haystack ends its pattern's length after its start
pub occurs-end : {s : Search} {o : Occurrence} → s.end ≤ length s.haystack → Occurs s o
    → (p : List ℕ) × (slice_get s.patterns o.pattern ≡ Some p) × (o.end ≡ o.start + length p)
occurs-end {s} {o} inside h =
    let w = h.within in
    let e = same_text-length s.pairing h.same.0 _ h.same.2 in
    let l = slice_range-length s.haystack o.start w.1 (omega arith) in
    (h.same.0, h.same.1, omega arith)

-- an occurrence's number and start fix its end
pub occurs-same_end : {s : Search} {a b : Occurrence} → s.end ≤ length s.haystack → Occurs s a → Occurs s b
    → a.pattern ≡ b.pattern → a.start ≡ b.start → a.end ≡ b.end
occurs-same_end {s} inside g h p q =
    let e = occurs-end inside g in
    let f = occurs-end inside h in
    let o : Some e.0 ≡ Some f.0 = sym e.1 ∙ ap (slice_get s.patterns) p ∙ f.1 in
    let l : length e.0 ≡ length f.0 = ap length (same_Some e.0 f.0 o) in
    omega arith

-- two occurrences of one search are equal if neither is preferred to the other
pub preference-same : (kind : MatchKind) (s : Search) (a b : Occurrence) → s.end ≤ length s.haystack → Occurs s a
    → Occurs s b → preference kind a b ≢ Greater → preference kind b a ≢ Greater → a ≡ b
preference-same Standard s a b inside g h m n = standard-equal (preference-tied Standard a b m n)
preference-same LeftmostFirst s a b inside g h m n =
    let e = first-equal a b (preference-tied LeftmostFirst a b m n) in
    occurrence_from_parts e.1 e.0 (occurs-same_end inside g h e.1 e.0)
preference-same LeftmostLongest s a b inside g h m n = longest-equal a b (preference-tied LeftmostLongest a b m n)
