-- The listing, one occurrence at a time.
use Rattle.std.proofs.Common.{List, [], ◌∷◌, ◌++◌, Option, Some, None, subst, inl, inr, arith}
use Rattle.std.specs.Prelude.{Contains}
use Rattle.std.proofs.lemmas.List.Elements.{Contains-push, Contains-push_cases, Contains-append_left}
use Rattle.ac_input.specs.declared.search.MatchKind.TheVariants.{Standard}
use Rattle.ac_input.specs.Occurrence.{Occurrence}
use Rattle.ac_input.specs.Best.{IsAfter, IsLeast}
use Rattle.ac_input.specs.Listing.{ListsAll}
use Rattle.ac_input.proofs.lemmas.OrderLemmas.{preference-then_less, preference-not_less, preference-less}
use Rattle.ac_input.proofs.lemmas.RisingLemmas.{IsBefore, less_itself, less_flip, less_or_same, IsRising-append}
use Rattle.test_plain.specs.Naive.{Plain, PlainOccurs}

-- what is listed up to one occurrence: all occurrences that don't come after it
abbrev pub ListsUpTo : Plain → Option Occurrence → List Occurrence → Type 0
ListsUpTo s before os = ListsAll (λ o. PlainOccurs s o × ¬ IsAfter before o) os

-- an occurrence that doesn't come after `before` comes before each that does
between : (before : Option Occurrence) (o q : Occurrence) → ¬ IsAfter before o → IsAfter before q → IsBefore o q
between None o q not_after after = absurd (not_after tt)
between (Some b) o q not_after after =
    preference-then_less Standard o b q (preference-not_less Standard b o not_after) after

module _ (s : Plain) (before : Option Occurrence) (os : List Occurrence) (q : Occurrence)
    (next : IsLeast Standard (λ o. PlainOccurs s o × IsAfter before o) (Some q)) (lists : ListsUpTo s before os) where
  -- what has been listed comes before the next occurrence
  listed_before : (o : Occurrence) → Contains os o → IsBefore o q
  listed_before o h = between before o q ((lists.1 o).0 h).1 next.0.1

  -- each occurrence that doesn't come after the next one has been listed, or is the next one
  all_listed : (o : Occurrence) → PlainOccurs s o × ¬ IsBefore q o → Contains (os ++ q ∷ []) o
  all_listed o h =
      elim (less_or_same q o) [
        | inl after ↦ absurd (h.1 after)
        | inr not_after ↦ elim not_after [
          | inl same ↦ subst (Contains (os ++ q ∷ [])) same (Contains-push os q)
          | inr less ↦
              Contains-append_left os (q ∷ []) o
              ((lists.1 o).1 (h.0, λ after. next.1 o (h.0, after) (preference-less Standard o q less)))
        ]
      ]

  -- the listing up to the next occurrence is the listing so far, followed by it
  pub lists_more : ListsUpTo s (Some q) (os ++ q ∷ [])
  lists_more = (
    IsRising-append os (q ∷ []) lists.0 tt
        (λ a b old new.
        elim (Contains-push_cases [] q b new) [
          | inl none ↦ absurd (omega (arith, none.1))
          | inr same ↦
              subst (IsBefore a) same (listed_before a old)
        ]),
    λ o. (
      λ h. elim (Contains-push_cases os q o h) [
        | inl old ↦ (((lists.1 o).0 old).0, less_flip o q (listed_before o old))
        | inr same ↦ subst (λ x. PlainOccurs s x × ¬ IsBefore q x) same (next.0.0, less_itself q)
      ],
      all_listed o,
    ),
  )
