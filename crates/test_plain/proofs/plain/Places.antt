-- The first place that has an occurrence has the best one.
use Rattle.std.proofs.Common.{◌≡◌, ◌≢◌, ℕ, ◌+◌, ◌<◌, ◌≤◌, true, Option, Some, None, sym, ◌∙◌, subst, inl, inr, arith}
use Rattle.std.specs.Prelude.{is_some}
use Rattle.std.proofs.lemmas.Bool.{cases_lt}
use Rattle.ac_input.specs.declared.search.MatchKind.{MatchKind}
use Rattle.ac_input.specs.declared.search.MatchKind.TheVariants.{Standard}
use Rattle.ac_input.specs.Occurrence.{Occurrence}
use Rattle.ac_input.specs.Best.{IsLeast}
use Rattle.ac_input.proofs.lemmas.OrderLemmas.{preference-itself, less-not_greater, earlier-less, occurrence_from_parts}
use Rattle.ac_input.proofs.lemmas.RisingLemmas.{less_by_number}
use Rattle.test_plain.specs.Naive.{Plain, PlainOccurs, PlainStartsAt, LiesAlike}

-- under a leftmost kind the best of the first start that has one is the best of all
pub best_at_start : (kind : MatchKind) (s : Plain) (at : ℕ) (r : Option Occurrence) → kind ≢ Standard
    → is_some r ≡ true → ((o : Occurrence) → PlainOccurs s o → at ≤ o.start)
    → IsLeast kind (PlainStartsAt s at) r → IsLeast kind (PlainOccurs s) r
best_at_start kind s at None leftmost some from least = cc
best_at_start kind s at (Some b) leftmost some from least = (
  least.0.0,
  λ o h. elim (cases_lt at o.start) [
    | inl later ↦ less-not_greater (earlier-less kind leftmost b o (rw least.0.1 later))
    | inr here ↦ least.1 o (h, let lower = from o h in omega arith)
  ],
)

module _ (s : Plain) (before : Occurrence) (n start end : ℕ) (same_start : start ≡ before.start)
    (same_end : end ≡ before.end) where
  -- the occurrence of pattern n where the given one lies
  abbrev there : Occurrence
  there = record { pattern = n; start = start; end = end }

  -- an occurrence of pattern n that lies where the given one does is this one
  is_there : (o : Occurrence) → LiesAlike s before o → o.pattern ≡ n → o ≡ there
  is_there o h number = occurrence_from_parts number (h.1 ∙ sym same_start) (h.2 ∙ sym same_end)

  -- where that pattern does not lie there, all that do are of later patterns
  pub alike_more : ¬ PlainOccurs s there → (o : Occurrence) → LiesAlike s before o → n ≤ o.pattern → n + 1 ≤ o.pattern
  alike_more absent o h from =
      elim (cases_lt n o.pattern) [
        | inl later ↦ omega arith
        | inr here ↦ absurd (absent (subst (PlainOccurs s) (is_there o h (omega arith)) h.0))
      ]

  -- the first later pattern that lies where the given one does has the least occurrence there
  pub alike_least : PlainOccurs s there → before.pattern < n → ((o : Occurrence) → LiesAlike s before o → n ≤ o.pattern)
      → IsLeast Standard (LiesAlike s before) (Some there)
  alike_least occurs later from = (
    (occurs, same_start, same_end, later),
    λ o h. elim (cases_lt n o.pattern) [
      | inl lower ↦ less-not_greater (less_by_number o (same_end ∙ sym h.2) (same_start ∙ sym h.1) lower)
      | inr here ↦ rw (is_there o h (let up = from o h in omega arith)) (preference-itself Standard there)
    ],
  )
