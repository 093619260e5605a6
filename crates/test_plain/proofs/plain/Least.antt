-- How the preferred one of some occurrences is found, one candidate at a time.
use Rattle.std.proofs.Common.{◌≡◌, ◌≢◌, ℕ, ◌+◌, ◌<◌, Bool, true, false, Option, Some, None, Greater, cond, refl, sym, ◌∙◌, ap, ◌⊎◌, inl, inr, arith}
use Rattle.std.specs.Ordering.{is_lt}
use Rattle.std.proofs.lemmas.Bool.{cases_lt, false≢true}
use Rattle.ac_input.specs.declared.search.MatchKind.{MatchKind}
use Rattle.ac_input.specs.Occurrence.{Occurrence}
use Rattle.ac_input.specs.Best.{preference, IsLeast}
use Rattle.ac_input.proofs.lemmas.OrderLemmas.{preference-itself, preference-transitive, preference-not_less}
use Rattle.ac_input.proofs.lemmas.BestLemmas.{IsLeast-like}
use Rattle.test_plain.specs.Naive.{IsOnly, preferred}

-- the preferred one of the best so far and a candidate
choose : (kind : MatchKind) (P Q : Occurrence → Type 0) (b c : Occurrence) → IsLeast kind P (Some b) → IsOnly Q (Some c)
    → (less : Bool) → less ≡ is_lt (preference kind c b) → IsLeast kind (λ o. P o ⊎ Q o) (cond less (Some c) (Some b))
choose kind P Q b c least only true e =
    let below : preference kind c b ≢ Greater = λ g. false≢true (sym (ap is_lt g) ∙ sym e) in (
      inr only.0,
      λ o h. elim h [
        | inl p ↦ preference-transitive kind c b o below (least.1 o p)
        | inr q ↦
            rw (only.1 o q) (preference-itself kind c)
      ],
    )
choose kind P Q b c least only false e =
    let above = preference-not_less kind c b (λ l. false≢true (e ∙ ap is_lt l)) in
    (inl least.0, λ o h. elim h [ inl p ↦ least.1 o p | inr q ↦ rw (only.1 o q) above ])

-- The preferred occurrence among those of P or Q, where Q holds of at most one candidate.
least_more : (kind : MatchKind) (P Q : Occurrence → Type 0) (best candidate : Option Occurrence) → IsLeast kind P best
    → IsOnly Q candidate → IsLeast kind (λ o. P o ⊎ Q o) (preferred kind best candidate)
least_more kind P Q None None least only = λ o h. elim h [ inl p ↦ least o p | inr q ↦ only o q ]
least_more kind P Q None (Some c) least only =
    (inr only.0, λ o h. elim h [ inl p ↦ absurd (least o p) | inr q ↦ rw (only.1 o q) (preference-itself kind c) ])
least_more kind P Q (Some b) None least only =
    (inl least.0, λ o h. elim h [ inl p ↦ least.1 o p | inr q ↦ absurd (only o q) ])
least_more kind P Q (Some b) (Some c) least only = choose kind P Q b c least only _ refl

-- a pass over the patterns goes on by one pattern
pub least_step : (kind : MatchKind) (P : Occurrence → Type 0) (n : ℕ) (best candidate : Option Occurrence)
    → IsLeast kind (λ o. P o × (o.pattern < n)) best → IsOnly (λ o. P o × (o.pattern ≡ n)) candidate
    → IsLeast kind (λ o. P o × (o.pattern < n + 1)) (preferred kind best candidate)
least_step kind P n best candidate least only =
    IsLeast-like kind
    (λ o. (
      λ h. elim h [ inl p ↦ (p.0, omega arith) | inr q ↦ (q.0, omega arith) ],
      λ h. elim (cases_lt o.pattern n) [ inl below ↦ inl (h.0, below) | inr above ↦ inr (h.0, omega arith) ],
    ))
    (preferred kind best candidate)
    (least_more kind (λ o. P o × (o.pattern < n)) (λ o. P o × (o.pattern ≡ n)) best candidate least only)

-- after all patterns, the best so far is the best of all
pub least_done : (kind : MatchKind) (P : Occurrence → Type 0) (n : ℕ) (best : Option Occurrence)
    → ((o : Occurrence) → P o → o.pattern < n) → IsLeast kind (λ o. P o × (o.pattern < n)) best → IsLeast kind P best
least_done kind P n best within least = IsLeast-like kind (λ o. (λ h. h.0, λ p. (p, within o p))) best least
