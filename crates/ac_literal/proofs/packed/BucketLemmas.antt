-- Buckets of patterns, as the bits of bytes.
use Rattle.std.proofs.Common.{◌≡◌, ◌≢◌, ℕ, ◌*◌, ◌/◌, ◌%◌, ◌^◌, ◌<◌, List, length, get_or, set, refl, sym, ap, subst, ◌∙◌, arith, inl, inr, w8, bit_and, bit_or, get_or-set_same, get_or-set_other}
use Rattle.std.specs.Int.{bit_at}
use Rattle.std.proofs.lemmas.Bool.{cases_eq, cases_lt}
use Rattle.std.specs.Int.{bit_not}
use Rattle.std.proofs.Common.{suc, ◌-◌, w64, pow_pos, pow_mono}
use Rattle.std.proofs.Math.Nat.{two-pow-succ, div-eq_of_lt}
use Rattle.std.proofs.lemmas.Nat.{and-not, and_comm}
use Rattle.std.proofs.lemmas.Nat.Bits.{bit_at_and, bit_at_or, bit_at-lt, bit_at_set_same, bit_at-zero, and_pow}
use Rattle.ac_literal.specs.declared.packed.teddy.Probe.{Probe}
use Rattle.ac_literal.specs.Packed.Teddy.{HasBucket, KeepsBuckets}

-- a bucket that two bytes have is in their `and`
pub both-have : (a b bucket : ℕ) → bit_at a bucket ≡ 1 → bit_at b bucket ≡ 1 → bit_at (bit_and a b) bucket ≡ 1
both-have a b bucket p q = omega (arith, bit_at_and a b bucket)

-- a bucket in the `and` of two bytes is in the first one
pub left-has : (a b bucket : ℕ) → bit_at (bit_and a b) bucket ≡ 1 → bit_at a bucket ≡ 1
left-has a b bucket h = omega (arith, bit_at_and a b bucket, bit_at-lt a bucket, bit_at-lt b bucket)

right-has : (a b bucket : ℕ) → bit_at (bit_and a b) bucket ≡ 1 → bit_at b bucket ≡ 1
right-has a b bucket h = omega (arith, bit_at_and a b bucket, bit_at-lt a bucket, bit_at-lt b bucket)

-- a byte that has a bucket isn't 0
pub has-some : {a : ℕ} (bucket : ℕ) → bit_at a bucket ≡ 1 → a ≢ 0
has-some bucket h none =
    let zero = ap (λ x. bit_at x bucket) none ∙ bit_at-zero bucket in
    omega arith

-- the bit of a bucket
abbrev pub bit_of : ℕ → ℕ
bit_of bucket = 1 * 2 ^ bucket % 256

-- a table with one more bucket at a place
abbrev pub with_bucket : List ℕ → ℕ → ℕ → List ℕ
with_bucket table place bucket = set table place (bit_or (get_or table place 0) (bit_of bucket))

-- the table has the bucket at that place
pub own-there : (table : List ℕ) {place bucket : ℕ} → place < length table → bucket < 8
    → bit_at (get_or (with_bucket table place bucket) place 0) bucket ≡ 1
own-there table {place} {bucket} within few =
    ap (λ x. bit_at x bucket) (get_or-set_same table place (bit_or (get_or table place 0) (bit_of bucket)) 0 within)
    ∙ bit_at_set_same w8 (get_or table place 0) bucket few

-- the table keeps whatever it had
pub kept-there : (table : List ℕ) {place : ℕ} (bucket at other : ℕ) → place < length table
    → bit_at (get_or table at 0) other ≡ 1 → bit_at (get_or (with_bucket table place bucket) at 0) other ≡ 1
kept-there table {place} bucket at other within had =
    let more = bit_or (get_or table place 0) (bit_of bucket) in
    elim (cases_eq at place) [
      | inl here ↦
          let old : bit_at (get_or table place 0) other ≡ 1 =
          subst (λ k. bit_at (get_or table k 0) other ≡ 1) here had in
          let new : bit_at more other ≡ 1 =
          omega (arith, bit_at_or (get_or table place 0) (bit_of bucket) other, bit_at-lt (bit_of bucket) other) in
          subst (λ k. bit_at (get_or (with_bucket table place bucket) k 0) other ≡ 1) (sym here)
          (ap (λ x. bit_at x other) (get_or-set_same table place more 0 within) ∙ new)
      | inr apart ↦ ap (λ x. bit_at x other) (get_or-set_other table place at more 0 apart) ∙ had
    ]

-- a probe with one more bucket for a byte
abbrev pub probe_with : Probe → ℕ → ℕ → ℕ → Probe
probe_with p low high bucket =
    record { low = with_bucket p.low low bucket; high = with_bucket p.high high bucket; offset = p.offset }

module _ (p : Probe) (byte low high bucket : ℕ) (long : length p.low ≡ 16) (tall : length p.high ≡ 16)
    (is_low : low ≡ byte % 16) (is_high : high ≡ byte / 16) (fits : byte < 256) where
  -- the probe has the byte in the bucket
  pub probe-own : bucket < 8 → HasBucket (probe_with p low high bucket) byte bucket
  probe-own few =
      rw (← is_low, ← is_high)
      (both-have _ _ bucket (own-there p.low (omega arith) few) (own-there p.high (omega arith) few))

  -- the probe keeps what it had
  pub probe-kept : KeepsBuckets p (probe_with p low high bucket)
  probe-kept = record {
    offset = refl;
    has = λ other_byte other had.
        let a = left-has _ _ other had in
        let b = right-has _ _ other had in
        both-have _ _ other (kept-there p.low bucket (other_byte % 16) other (omega arith) a)
        (kept-there p.high bucket (other_byte / 16) other (omega arith) b);
  }

-- a bit that is set in a number of 32 bits is one of the 32
pub lowest-few : {marks place : ℕ} → marks < 4294967296 → bit_at marks place ≡ 1 → place < 32
lowest-few {marks} {place} few set = elim (cases_lt place 32) [
  | inl within ↦ within
  | inr past ↦
      let small : marks < 2 ^ place = omega (arith, pow_mono {i = 32} {j = place} past) in
      let zero : bit_at marks place ≡ 0 = ap (λ x. x % 2) (div-eq_of_lt small) in
      absurd (omega arith)
]

-- a number without a bit that it has is less
pub without-less : {marks place : ℕ} → marks < 2 ^ 64 → place < 64 → bit_at marks place ≡ 1
    → bit_and marks (bit_not w64 (1 * 2 ^ place % 2 ^ 64)) < marks
without-less {marks} {place} fits within set =
    let bit = 2 ^ place in
    let small : bit < 2 ^ 64 =
    omega (arith, two-pow-succ place, pow_pos place, pow_mono {i = suc place} {j = 64} (omega arith)) in
    let one : 1 * bit % 2 ^ 64 ≡ bit = omega arith in
    let parts = and-not 64 bit marks small fits in
    let there : bit_and bit marks ≡ 1 * bit = and_comm bit marks ∙ and_pow marks place ∙ ap (λ x. x * bit) set in
    subst (λ x. bit_and marks (2 ^ 64 - 1 - x) < marks) (sym one)
    (omega (arith, and_comm marks (2 ^ 64 - 1 - bit), pow_pos place))
