-- A rank for each occurrence. Ranks rise along the listing, so the listing ends.
use Rattle.std.proofs.Common.{◌≡◌, ℕ, ◌+◌, ◌-◌, ◌*◌, ◌<◌, ◌≤◌, length, Option, Some, None, Ordering, Less, Equal, Greater, nat_cmp, refl, sym, ap, arith}
use Rattle.std.specs.Ordering.{ordering_then}
use Rattle.std.proofs.lemmas.Cmp.{ranked}
use Rattle.std.proofs.lemmas.Nat.{mul-add-lt}
use Rattle.std.proofs.Math.Nat.{mul-le-mul_left}
use Rattle.ac_input.specs.Occurrence.{Occurrence}
use Rattle.ac_input.specs.Best.{IsLeast, IsAfter}
use Rattle.ac_input.specs.declared.search.MatchKind.TheVariants.{Standard}
use Rattle.ac_input.proofs.lemmas.RisingLemmas.{IsBefore, less_by_end}
use Rattle.test_plain.specs.Naive.{Plain, PlainOccurs}
use Rattle.test_plain.proofs.plain.Occurrences.{occurs, pattern_within}

-- a number made of a row and a column rises with the row, and within a row with the column
row_up : (w a b c d : ℕ) (first rest : Ordering) → b < w → first ≡ nat_cmp a c → ordering_then first rest ≡ Less
    → (rest ≡ Less → b < d) → a * w + b < c * w + d
row_up w a b c d Less rest column is e later =
    let row : a < c = ranked a c Less is in
    let more : a + 1 ≤ c = omega arith in
    omega (arith, mul-le-mul_left w more)
row_up w a b c d Equal rest column is e later = omega (arith, ap (λ k. k * w) (ranked a c Equal is), later e)
row_up w a b c d Greater rest column is e later = cc

-- the rank of an occurrence: its number in the order by end, start and pattern
abbrev rank : Plain → Occurrence → ℕ
rank s o =
    o.end * (length s.search.patterns * (s.search.end + 1)) + (o.start * length s.search.patterns + o.pattern)

-- a later occurrence has a higher rank
rank_up : (s : Plain) (o q : Occurrence) → PlainOccurs s o → IsBefore o q → rank s o < rank s q
rank_up s o q h before =
    let number = pattern_within s o h in
    let start : o.start < s.search.end + 1 = omega (arith, (occurs s o h).within) in
    row_up (length s.search.patterns * (s.search.end + 1)) o.end _ q.end _ _ _
    (mul-add-lt o.start (length s.search.patterns) o.pattern (s.search.end + 1) start number) refl before
    (λ starts. row_up (length s.search.patterns) o.start o.pattern q.start q.pattern _ _ number refl starts
    (λ patterns. ranked o.pattern q.pattern Less (sym patterns)))

-- an occurrence that ends after all others
abbrev past : Plain → Occurrence
past s = record { pattern = 0; start = 0; end = s.search.end + 1 }

-- how many ranks are left
abbrev pub ranks_left : Plain → Option Occurrence → ℕ
ranks_left s None = rank s (past s) + 1
ranks_left s (Some o) = rank s (past s) - rank s o

-- with each next occurrence fewer ranks are left
pub ranks_fall : (s : Plain) (before : Option Occurrence) (o : Occurrence)
    → ((b : Occurrence) → before ≡ Some b → PlainOccurs s b)
    → IsLeast Standard (λ o′. PlainOccurs s o′ × IsAfter before o′) (Some o) → ranks_left s (Some o) < ranks_left s before
ranks_fall s None o placed next = omega arith
ranks_fall s (Some b) o placed next =
    let up = rank_up s b o (placed b refl) next.0.1 in
    let top = rank_up s o (past s) next.0.0 (less_by_end o (past s) (omega (arith, (occurs s o next.0.0).within))) in
    omega arith
