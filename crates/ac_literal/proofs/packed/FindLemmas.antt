-- The first place at which something is found has the best match. The hash moves one place at a time.
use Rattle.std.proofs.Common.{◌≡◌, ◌≢◌, ℕ, suc, ◌+◌, ◌-◌, ◌*◌, ◌%◌, ◌^◌, ◌<◌, ◌≤◌, inl, inr, List, [], ◌∷◌, ◌++◌, length, take, drop, get_or, Option, Some, None, true, Less, refl, sym, ap, ap₂, ◌∙◌, arith, length-drop, drop-cons}
use Rattle.std.specs.Prelude.{slice_range, is_some}
use Rattle.std.specs.Cmp.{nat_cmp_is}
use Rattle.std.proofs.lemmas.Bool.{cases_lt}
use Rattle.std.proofs.lemmas.List.{take_more, get_or-drop}
use Rattle.ac_input.specs.Occurrence.{Search, Occurrence, Occurs, StartsAt}
use Rattle.ac_input.specs.Best.{preference, IsLeast, IsBest}
use Rattle.ac_input.proofs.lemmas.OrderLemmas.{less-not_greater, slice_range-length}
use Rattle.ac_literal.specs.declared.packed.api.MatchKind.{MatchKind}
use Rattle.ac_literal.specs.declared.packed.api.MatchKind.TheVariants.{LeftmostFirst, LeftmostLongest}
use Rattle.ac_literal.specs.declared.packed.rabinkarp.RabinKarp.{RabinKarp}
use Rattle.ac_literal.specs.Packed.{search_kind, part_search}
use Rattle.ac_literal.specs.Packed.RabinKarp.{hash_of, IsTable, NoneBefore, IsFoundBefore}
use Rattle.ac_literal.proofs.packed.HashLemmas.{hash_of-roll}
use Rattle.ac_literal.proofs.packed.TextLemmas.{starts-lying}

-- the leftmost kinds prefer the earlier start
earlier_start : (kind : MatchKind) (a o : Occurrence) → a.start < o.start → preference (search_kind kind) a o ≡ Less
earlier_start LeftmostFirst a o h = let e = nat_cmp_is a.start o.start Less h in rw (← e)
earlier_start LeftmostLongest a o h = let e = nat_cmp_is a.start o.start Less h in rw (← e)

-- the preferred occurrence at the first place that has one is the best of all
pub best-first : (kind : MatchKind) {s : Search} {at : ℕ} (r : Option Occurrence) → is_some r ≡ true → NoneBefore s at
    → IsLeast (search_kind kind) (StartsAt s at) r → IsBest (search_kind kind) s r
best-first kind None some from least = cc
best-first kind {at} (Some b) some from least = (
  least.0.0,
  λ o h. elim (cases_lt at o.start) [
    | inl later ↦ less-not_greater (earlier_start kind b o (rw least.0.1 later))
    | inr here ↦ least.1 o (h, let lower = from o h in omega arith)
  ],
)

-- if nothing starts before a place or at it, every occurrence starts after it
pub starts-later : (kind : MatchKind) {s : Search} {at : ℕ} (r : Option Occurrence) → is_some r ≢ true → NoneBefore s at
    → IsLeast (search_kind kind) (StartsAt s at) r → (o : Occurrence) → Occurs s o → at + 1 ≤ o.start
starts-later kind (Some b) none from least o h = absurd (none refl)
starts-later kind {at} None none from least o h = elim (cases_lt at o.start) [
  | inl later ↦ omega arith
  | inr here ↦ absurd (least o (h, let lower = from o h in omega arith))
]

-- an occurrence is at least as long as the hashed bytes
pub occurs-long : {patterns : List (List ℕ)} {table : RabinKarp} {haystack : List ℕ} {start end : ℕ} {o : Occurrence}
    → IsTable patterns table → end ≤ length haystack → Occurs (part_search patterns haystack start end) o
    → o.start + table.hash_len ≤ o.end
occurs-long {end} {o} is fits h =
    let own = starts-lying fits (h, refl) in
    let short = is.short o.pattern own.0 in
    let long = ap (λ q. q.end) own.1 in
    omega arith

-- the preferred occurrence at the first place that has one is the result, whatever `to` is
pub found-first : (kind : MatchKind) {s : Search} {at : ℕ} (to : ℕ) (r : Option Occurrence) → is_some r ≡ true
    → NoneBefore s at → IsLeast (search_kind kind) (StartsAt s at) r → IsFoundBefore (search_kind kind) s to r
found-first kind to None some from least = cc
found-first kind to (Some b) some from least = best-first kind (Some b) some from least

-- the preferred occurrence of a place is the result; where there is none, nothing starts before the next place
pub found-place : (kind : MatchKind) {s : Search} {at to : ℕ} (r : Option Occurrence) → to ≡ at + 1 → NoneBefore s at
    → IsLeast (search_kind kind) (StartsAt s at) r → IsFoundBefore (search_kind kind) s to r
found-place kind None next from least = λ o h. let later = starts-later kind None (λ e. cc) from least o h in
    omega arith
found-place kind (Some b) next from least = best-first kind (Some b) refl from least

-- a part is its first byte, followed by the rest
slice_range-first : (xs : List ℕ) {a b : ℕ} → a < b → a < length xs
    → slice_range xs a b ≡ get_or xs a 0 ∷ slice_range xs (a + 1) b
slice_range-first xs {a} {b} h inside =
    let count : b - a ≡ suc (b - (a + 1)) = omega arith in
    let next : suc a ≡ a + 1 = omega arith in
    ap₂ (λ n ys. take n ys) count (drop-cons xs a 0 inside)
    ∙ ap (λ k. get_or xs a 0 ∷ take (b - (a + 1)) (drop k xs)) next

-- a part with the byte after it is the longer part
slice_range-last : (xs : List ℕ) {a b : ℕ} → a ≤ b → b < length xs
    → slice_range xs a (b + 1) ≡ slice_range xs a b ++ get_or xs b 0 ∷ []
slice_range-last xs {a} {b} h inside =
    let count : b + 1 - a ≡ b - a + 1 = omega arith in
    let place : a + (b - a) ≡ b = omega arith in
    ap (λ n. take n (drop a xs)) count ∙ take_more (drop a xs) (b - a) 0 (omega (arith, length-drop a xs))
    ∙ ap (λ x. slice_range xs a b ++ x ∷ []) (get_or-drop a xs (b - a) 0 ∙ ap (λ k. get_or xs k 0) place)

-- the hash at the next place, rolled on from the hash at this one
pub hash-roll : (xs : List ℕ) (at : ℕ) {count power hash : ℕ} → 0 < count → at + count < length xs
    → power ≡ 2 ^ (count - 1) % 2 ^ 64 → hash ≡ hash_of (slice_range xs at (at + count))
    → ((hash + 2 ^ 64 - get_or xs at 0 * power % 2 ^ 64) % 2 ^ 64 * 2 + get_or xs (at + count) 0) % 2 ^ 64
    ≡ hash_of (slice_range xs (at + 1) (at + 1 + count))
hash-roll xs at {count} {power} some inside is_power is_hash =
    let middle = slice_range xs (at + 1) (at + count) in
    let long : length middle ≡ count - 1 = omega (arith, slice_range-length xs (at + 1) {b = at + count}) in
    let first = slice_range-first xs (omega arith) (omega arith) in
    let last = slice_range-last xs (omega arith) inside in
    let end : at + count + 1 ≡ at + 1 + count = omega arith in
    let rolled = hash_of-roll (get_or xs at 0) (get_or xs (at + count) 0) power middle
    (is_power ∙ ap (λ n. 2 ^ n % 2 ^ 64) (sym long)) in
    ap (λ h. ((h + 2 ^ 64 - get_or xs at 0 * power % 2 ^ 64) % 2 ^ 64 * 2 + get_or xs (at + count) 0) % 2 ^ 64)
    (is_hash ∙ ap hash_of first)
    ∙ rolled ∙ ap hash_of (sym last ∙ ap (λ k. slice_range xs (at + 1) k) end)
