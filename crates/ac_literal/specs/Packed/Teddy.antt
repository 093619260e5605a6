-- Marks of places at which a pattern may begin: what probes let through.
use Rattle.std.specs.Prelude.{◌≡◌, ◌≢◌, ℕ, ◌+◌, ◌-◌, ◌/◌, ◌%◌, ◌<◌, ◌≤◌, List, length, slice_index, bit_and, if◌then◌else◌, get_or, []}
use Rattle.std.specs.Int.{bit_at}
use Rattle.ac_input.specs.Occurrence.{Search, Occurrence, Occurs}
use Rattle.ac_literal.specs.declared.packed.teddy.Probe.{Probe}
use Rattle.ac_literal.specs.declared.packed.teddy.Teddy.{Teddy}

-- a vector of 32 lanes, where lane k holds f k
pub record HasLanes (v : List ℕ) (f : ℕ → ℕ) : Type 0 where
  pub long : length v ≡ 32
  pub each : (k : ℕ) → k < 32 → slice_index v k ≡ f k

-- the buckets that have a byte at a probe's offset, a bit for each
abbrev pub buckets_of : Probe → ℕ → ℕ
buckets_of probe byte = bit_and (slice_index probe.low (byte % 16)) (slice_index probe.high (byte / 16))

-- the bucket has this byte at the probe's offset
abbrev pub HasBucket : Probe → ℕ → ℕ → Type 0
HasBucket probe byte bucket = bit_at (buckets_of probe byte) bucket ≡ 1

-- the new probe has the old one's offset, and all that the old one had in its buckets
pub record KeepsBuckets (old new : Probe) : Type 0 where
  pub offset : new.offset ≡ old.offset
  pub has : (byte bucket : ℕ) → HasBucket old byte bucket → HasBucket new byte bucket

-- the buckets that a probe leaves for a pattern that begins at a place
abbrev pub left_at : Probe → List ℕ → ℕ → ℕ
left_at probe haystack place = buckets_of probe (slice_index haystack (place + probe.offset))

-- the buckets that a probe leaves by the low half of the byte alone
abbrev pub low_at : Probe → List ℕ → ℕ → ℕ
low_at probe haystack place = slice_index probe.low (slice_index haystack (place + probe.offset) % 16)

-- the buckets that the first three probes leave by low halves
abbrev pub three_at : Teddy → List ℕ → ℕ → ℕ
three_at t haystack place =
    bit_and (bit_and (low_at t.first haystack place) (low_at t.second haystack place)) (low_at t.third haystack place)

-- the buckets that the first two probes leave by whole bytes
abbrev pub two_at : Teddy → List ℕ → ℕ → ℕ
two_at t haystack place = bit_and (left_at t.first haystack place) (left_at t.second haystack place)

-- the buckets that all four probes leave by whole bytes
abbrev pub four_at : Teddy → List ℕ → ℕ → ℕ
four_at t haystack place =
    bit_and (bit_and (two_at t haystack place) (left_at t.third haystack place)) (left_at t.fourth haystack place)

-- the buckets that all four probes leave by low halves
abbrev pub four_low_at : Teddy → List ℕ → ℕ → ℕ
four_low_at t haystack place = bit_and (three_at t haystack place) (low_at t.fourth haystack place)

-- the buckets that the probes in use leave
abbrev pub marked_at : Teddy → List ℕ → ℕ → ℕ
marked_at t haystack place =
    if t.is_whole then (if t.is_few then two_at t haystack place else four_at t haystack place)
    else (if t.is_few then three_at t haystack place else four_low_at t haystack place)

-- each probe's offset is below this length
pub record LooksBefore (len : ℕ) (t : Teddy) : Type 0 where
  pub first : t.first.offset < len
  pub second : t.second.offset < len
  pub third : t.third.offset < len
  pub fourth : t.fourth.offset < len

-- a bucket has a pattern: each probe finds the bucket by the pattern's byte at its offset
pub record HasPattern (t : Teddy) (pattern : List ℕ) (bucket : ℕ) : Type 0 where
  pub first : HasBucket t.first (slice_index pattern t.first.offset) bucket
  pub second : HasBucket t.second (slice_index pattern t.second.offset) bucket
  pub third : HasBucket t.third (slice_index pattern t.third.offset) bucket
  pub fourth : HasBucket t.fourth (slice_index pattern t.fourth.offset) bucket

-- each probe keeps its offset and what its buckets had
pub record KeepsPatterns (old new : Teddy) : Type 0 where
  pub first : KeepsBuckets old.first new.first
  pub second : KeepsBuckets old.second new.second
  pub third : KeepsBuckets old.third new.third
  pub fourth : KeepsBuckets old.fourth new.fourth

-- each pattern is in a bucket, and the probes look only at its first `len` bytes
pub record IsTeddy (patterns : List (List ℕ)) (len : ℕ) (t : Teddy) : Type 0 where
  pub near : LooksBefore len t
  pub all : (number : ℕ) → number < (length patterns) → (bucket : ℕ) × HasPattern t (get_or patterns number []) bucket

-- each of 32 places that is marked has its bit
abbrev pub AreSet : Teddy → List ℕ → ℕ → ℕ → Type 0
AreSet t haystack block marks = (k : ℕ) → k < 32 → marked_at t haystack (block + k) ≢ 0 → bit_at marks k ≡ 1

-- The next block of 32 places before the place `to` that has a mark, and its marks. Where no block has one, the marks
-- are 0, no place before `block` is marked, and fewer places are left than a block has.
pub record IsNextMarks (t : Teddy) (haystack : List ℕ) (from to block marks : ℕ) : Type 0 where
  pub after : from ≤ block
  pub within : block ≤ to
  pub passed : (place : ℕ) → from ≤ place → place < block → marked_at t haystack place ≡ 0
  pub whole : marks ≢ 0 → block + 32 ≤ to
  pub left : marks ≡ 0 → to < block + 32
  pub set : marks ≢ 0 → AreSet t haystack block marks
  pub few : marks < 4294967296

-- each occurrence that starts within 32 places has its bit among the marks
abbrev pub HasMarks : Search → ℕ → ℕ → Type 0
HasMarks s at marks = (o : Occurrence) → Occurs s o → o.start < at + 32 → bit_at marks (o.start - at) ≡ 1
