-- Where a pattern begins, its bucket is left.
use Rattle.std.proofs.Common.{◌≡◌, ◌≢◌, ℕ, ◌+◌, ◌-◌, ◌/◌, ◌<◌, ◌≤◌, inl, inr, Bool, true, false, List, length, take, drop, get_or, refl, sym, ap, subst, ◌∙◌, arith, bit_and}
use Rattle.std.specs.Prelude.{if◌then◌else◌, []}
use Rattle.std.specs.Int.{bit_at}
use Rattle.std.proofs.lemmas.Bool.{cases_eq, cases_lt}
use Rattle.std.proofs.lemmas.Simd.{get_or-chunk}
use Rattle.ac_input.specs.Occurrence.{Search, Occurrence, Occurs}
use Rattle.ac_literal.specs.declared.packed.teddy.Probe.{Probe}
use Rattle.ac_literal.specs.declared.packed.teddy.Teddy.{Teddy}
use Rattle.ac_literal.specs.Packed.{part_search}
use Rattle.ac_literal.specs.Packed.RabinKarp.{NoneBefore}
use Rattle.ac_literal.specs.Packed.Teddy.{HasBucket, KeepsBuckets, LooksBefore, HasPattern, KeepsPatterns, IsTeddy, HasMarks, low_at, marked_at}
use Rattle.ac_literal.proofs.packed.BucketLemmas.{both-have, left-has, has-some}
use Rattle.ac_literal.proofs.packed.TextLemmas.{starts-lying, lies-bytes}

-- a probe that keeps its buckets keeps a pattern's bucket
keeps-own : {old new : Probe} (pattern : List ℕ) (bucket : ℕ) → KeepsBuckets old new
    → HasBucket old (get_or pattern old.offset 0) bucket → HasBucket new (get_or pattern new.offset 0) bucket
keeps-own {old} {new} pattern bucket keeps has =
    keeps.has (get_or pattern new.offset 0) bucket
    (subst (λ k. HasBucket old (get_or pattern k 0) bucket) (sym keeps.offset) has)

-- a pattern stays in its bucket
pub keeps-pattern : {old new : Teddy} {pattern : List ℕ} {bucket : ℕ} → KeepsPatterns old new
    → HasPattern old pattern bucket → HasPattern new pattern bucket
keeps-pattern {pattern} {bucket} keeps has = record {
  first = keeps-own pattern bucket keeps.first has.first;
  second = keeps-own pattern bucket keeps.second has.second;
  third = keeps-own pattern bucket keeps.third has.third;
  fourth = keeps-own pattern bucket keeps.fourth has.fourth;
}

-- the probes look where they looked before
pub keeps-near : {old new : Teddy} {len : ℕ} → KeepsPatterns old new → LooksBefore len old → LooksBefore len new
keeps-near keeps near = record {
  first = omega (arith, keeps.first.offset, near.first);
  second = omega (arith, keeps.second.offset, near.second);
  third = omega (arith, keeps.third.offset, near.third);
  fourth = omega (arith, keeps.fourth.offset, near.fourth);
}

-- one more pattern is in a bucket
pub has-more : (patterns : List (List ℕ)) {count bucket : ℕ} {old new : Teddy}
    → ((number : ℕ) → number < count → (bucket : ℕ) × HasPattern old (get_or patterns number []) bucket)
    → KeepsPatterns old new → HasPattern new (get_or patterns count []) bucket
    → ((number : ℕ) → number < (count + 1) → (bucket : ℕ) × HasPattern new (get_or patterns number []) bucket)
has-more patterns {count} {bucket} {new} so_far keeps own number within = elim (cases_eq number count) [
  | inl here ↦ (bucket, subst (λ k. HasPattern new (get_or patterns k []) bucket) (sym here) own)
  | inr apart ↦
      let had = so_far number (omega arith) in
      (had.0, keeps-pattern keeps had.1)
]

-- a bucket that three bytes have is in their `and`
three-have : (a b c bucket : ℕ) → bit_at a bucket ≡ 1 → bit_at b bucket ≡ 1 → bit_at c bucket ≡ 1
    → bit_at (bit_and (bit_and a b) c) bucket ≡ 1
three-have a b c bucket p q r = both-have _ c bucket (both-have a b bucket p q) r

four-have : (a b c d bucket : ℕ) → bit_at a bucket ≡ 1 → bit_at b bucket ≡ 1 → bit_at c bucket ≡ 1 → bit_at d bucket ≡ 1
    → bit_at (bit_and (bit_and (bit_and a b) c) d) bucket ≡ 1
four-have a b c d bucket p q r s = both-have _ d bucket (three-have a b c bucket p q r) s

-- a bucket that all four probes leave is left, whichever probes are in use, by low halves or by whole bytes
pub all-leave : (whole few : Bool) (a b c d e f g h bucket : ℕ) → bit_at (bit_and a e) bucket ≡ 1
    → bit_at (bit_and b f) bucket ≡ 1 → bit_at (bit_and c g) bucket ≡ 1 → bit_at (bit_and d h) bucket ≡ 1
    → (if whole
    then (if few then bit_and (bit_and a e) (bit_and b f)
    else bit_and (bit_and (bit_and (bit_and a e) (bit_and b f)) (bit_and c g)) (bit_and d h))
    else (if few then bit_and (bit_and a b) c else bit_and (bit_and (bit_and a b) c) d)) ≢ 0
all-leave true true a b c d e f g h bucket p q r s = has-some bucket (both-have _ _ bucket p q)
all-leave true false a b c d e f g h bucket p q r s = has-some bucket (four-have _ _ _ _ bucket p q r s)
all-leave false true a b c d e f g h bucket p q r s =
    has-some bucket (three-have a b c bucket (left-has a e bucket p) (left-has b f bucket q) (left-has c g bucket r))
all-leave false false a b c d e f g h bucket p q r s =
    has-some bucket
    (four-have a b c d bucket (left-has a e bucket p) (left-has b f bucket q) (left-has c g bucket r)
    (left-has d h bucket s))

module _ {patterns : List (List ℕ)} {len : ℕ} {t : Teddy} (is : IsTeddy patterns len t)
    (short : (number : ℕ) → number < length patterns → len ≤ length (get_or patterns number []))
    {haystack : List ℕ} {start end : ℕ} (fits : end ≤ length haystack) where
  -- the place of an occurrence is marked
  pub occurs-marked : (o : Occurrence) → Occurs (part_search patterns haystack start end) o
      → marked_at t haystack o.start ≢ 0
  occurs-marked o h =
      let own = starts-lying fits (h, refl) in
      let pattern = get_or patterns o.pattern [] in
      let n = length pattern in
      let there = lies-bytes (subst (Occurs (part_search patterns haystack start end)) own.1 h) in
      let rest : o.start + n - o.start ≡ n = omega arith in
      let text : take n (drop o.start haystack) ≡ pattern = ap (λ k. take k (drop o.start haystack)) (sym rest)
      ∙ there.1 in
      let long = short o.pattern own.0 in
      let read = λ (k : ℕ) (within : k < n). ap (λ p. get_or p k 0) (sym text)
      ∙ get_or-chunk o.start n haystack k 0 within in
      let has = is.all o.pattern own.0 in
      let left = λ (probe : Probe) (near : probe.offset < len)
      (bucket : HasBucket probe (get_or pattern probe.offset 0) has.0).
      subst (λ byte. HasBucket probe byte has.0) (read probe.offset (omega arith)) bucket in
      let high = λ (probe : Probe). get_or probe.high (get_or haystack (o.start + probe.offset) 0 / 16) 0 in
      all-leave t.is_whole t.is_few (low_at t.first haystack o.start) (low_at t.second haystack o.start)
      (low_at t.third haystack o.start) (low_at t.fourth haystack o.start) (high t.first) (high t.second) (high t.third)
      (high t.fourth) has.0
      (left t.first is.near.first has.1.first) (left t.second is.near.second has.1.second)
      (left t.third is.near.third has.1.third) (left t.fourth is.near.fourth has.1.fourth)

  -- where no mark is passed, no occurrence is
  pub none-passed : {from block : ℕ} → NoneBefore (part_search patterns haystack start end) from
      → ((place : ℕ) → from ≤ place → place < block → marked_at t haystack place ≡ 0)
      → NoneBefore (part_search patterns haystack start end) block
  none-passed {block} none passed o h = elim (cases_lt o.start block) [
    | inl early ↦ absurd (occurs-marked o h (passed o.start (none o h) early))
    | inr late ↦ late
  ]

  -- each occurrence that starts in a block has its bit among the block's marks
  pub has-marks : {block : ℕ} (marks : ℕ) → NoneBefore (part_search patterns haystack start end) block
      → ((k : ℕ) → k < 32 → marked_at t haystack (block + k) ≢ 0 → bit_at marks k ≡ 1)
      → HasMarks (part_search patterns haystack start end) block marks
  has-marks {block} marks none set o h within =
      let late = none o h in
      let place : o.start ≡ block + (o.start - block) = omega arith in
      set (o.start - block) (omega arith) (subst (λ p. marked_at t haystack p ≢ 0) place (occurs-marked o h))

-- nothing starts before the lowest mark
pub none-lowest : {s : Search} {at : ℕ} (marks : ℕ) {place : ℕ} → place < 32 → NoneBefore s at → HasMarks s at marks
    → ((k : ℕ) → k < place → bit_at marks k ≡ 0) → NoneBefore s (at + place)
none-lowest {at} marks {place} within none has below o h =
    let late = none o h in
    elim (cases_lt o.start (at + place)) [
      | inl early ↦
          let set = has o h (omega arith) in
          let clear = below (o.start - at) (omega arith) in
          absurd (omega arith)
      | inr later ↦ later
    ]

-- where nothing starts up to and including a mark, the other marks are those of all that starts in the block
pub marks-left : {s : Search} (at marks : ℕ) {place : ℕ} (left : ℕ) → NoneBefore s (at + place + 1)
    → HasMarks s at marks → ((k : ℕ) → k < 32 → k ≢ place → bit_at left k ≡ bit_at marks k) → HasMarks s at left
marks-left at marks left none has kept o h within =
    let late = none o h in
    kept (o.start - at) (omega arith) (omega arith) ∙ has o h within

-- a block without marks is passed
pub block-passed : (t : Teddy) (haystack : List ℕ) {from at : ℕ}
    → ((place : ℕ) → from ≤ place → place < at → marked_at t haystack place ≡ 0)
    → ((k : ℕ) → k < 32 → marked_at t haystack (at + k) ≡ 0) → (place : ℕ) → from ≤ place → place < at + 32
    → marked_at t haystack place ≡ 0
block-passed t haystack {at} passed empty place after within = elim (cases_lt place at) [
  | inl early ↦ passed place after early
  | inr late ↦
      let here : place ≡ at + (place - at) = omega arith in
      subst (λ p. marked_at t haystack p ≡ 0) (sym here) (empty (place - at) (omega arith))
]
