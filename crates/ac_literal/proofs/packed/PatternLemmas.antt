-- Patterns that are added one at a time, and what a builder makes of them.
use Rattle.std.proofs.Common.{◌≡◌, ◌≢◌, ◌↔◌, ◌⊎◌, inl, inr, ℕ, zero, suc, ◌<◌, ◌≤◌, Bool, true, false, ◌==◌, cond, List, [], ◌∷◌, ◌++◌, length, get_or, min, Option, refl, sym, ap, subst, ◌∙◌, arith, length-append, append_assoc}
use Rattle.std.specs.Prelude.{IsSome, IfSome}
use Rattle.std.proofs.lemmas.Bool.{or_cases, or_parts, eqb-true, eq-eqb, cases_lt, false≢true}
use Rattle.std.proofs.lemmas.List.{append-nil, get_or_append_left}
use Rattle.std.proofs.Math.Seq.{get_or-append_seam}
use Rattle.ac_input.specs.Work.{shortest}
use Rattle.ac_literal.specs.declared.packed.api.MatchKind.{MatchKind}
use Rattle.ac_literal.specs.Packed.{Building, Packed, fresh, added, added_all, is_too_much, built, AreTaken, AreServed}

-- the shortest length, with one more pattern
pub shortest-push : (patterns : List (List ℕ)) (pattern : List ℕ)
    → shortest (patterns ++ pattern ∷ []) ≡ min (shortest patterns) (length pattern)
shortest-push [] pattern = omega arith
shortest-push (p ∷ patterns) pattern = let e = shortest-push patterns pattern in omega arith

-- no pattern is shorter than the shortest
pub shortest-least : (patterns : List (List ℕ)) (number : ℕ) → number < length patterns
    → shortest patterns ≤ length (get_or patterns number [])
shortest-least [] number h = omega arith
shortest-least (p ∷ patterns) zero h = omega arith
shortest-least (p ∷ patterns) (suc number) h = let e = shortest-least patterns number (omega arith) in omega arith

-- the shortest of patterns that aren't empty has bytes
pub shortest-full : (patterns : List (List ℕ))
    → ((number : ℕ) → number < length patterns → 0 < length (get_or patterns number [])) → 0 < shortest patterns
shortest-full [] h = omega arith
shortest-full (p ∷ patterns) h =
    let first : 0 < length p = h 0 (omega arith) in
    let rest = shortest-full patterns (λ number l. h (suc number) (omega arith)) in
    omega arith

-- patterns added in their order, and then one more
pub added_all-push : (b : Building) (patterns : List (List ℕ)) (pattern : List ℕ)
    → added_all b (patterns ++ pattern ∷ []) ≡ added (added_all b patterns) pattern
added_all-push b [] pattern = refl
added_all-push b (p ∷ patterns) pattern = added_all-push (added b p) patterns pattern

-- a builder that takes no more
abbrev inert : MatchKind → Building
inert kind = record { kind = kind; patterns = []; inert = true }

-- an inert builder stays inert
added_all-inert : {kind : MatchKind} (patterns : List (List ℕ)) → added_all (inert kind) patterns ≡ inert kind
added_all-inert [] = refl
added_all-inert (p ∷ patterns) = added_all-inert patterns

-- a builder that has some patterns
abbrev having : MatchKind → List (List ℕ) → Building
having kind patterns = record { kind = kind; patterns = patterns; inert = false }

-- a builder has taken all of these patterns, or is inert since it can't take them
abbrev Added : MatchKind → List (List ℕ) → Building → Type 0
Added kind all b = (AreTaken all × (b ≡ having kind all)) ⊎ ((AreTaken all → ⊥) × (b ≡ inert kind))

-- no list is taken that has a pattern too much
too_much : (front rest : List (List ℕ)) (pattern : List ℕ) → is_too_much (length front) pattern ≡ true
    → AreTaken (front ++ pattern ∷ rest) → ⊥
too_much front rest pattern h taken =
    let long = length-append front (pattern ∷ rest) in
    elim (or_cases (length pattern == 0) (length front == 128) h) [
      | inl empty ↦
          let full = taken.full (length front) (omega arith) in
          let at = get_or-append_seam front pattern rest [] in
          let none = eqb-true (length pattern) 0 empty in
          omega (arith, ap length at)
      | inr many ↦ let few = taken.few in let e = eqb-true (length front) 128 many in omega arith
    ]

-- patterns that are taken are taken with one more that isn't too much
taken-push : (front : List (List ℕ)) (pattern : List ℕ) → is_too_much (length front) pattern ≡ false → AreTaken front
    → AreTaken (front ++ pattern ∷ [])
taken-push front pattern h taken =
    let long = length-append front (pattern ∷ []) in
    let parts = or_parts (length pattern == 0) (length front == 128) h in
    let some : length pattern ≢ 0 = λ e. false≢true (sym parts.0 ∙ eq-eqb (length pattern) 0 e) in
    let few : length front ≢ 128 = λ e. false≢true (sym parts.1 ∙ eq-eqb (length front) 128 e) in
    record {
      few = let old = taken.few in omega arith;
      full = λ number inside. elim (cases_lt number (length front)) [
        | inl old ↦ rw (get_or_append_left front (pattern ∷ []) [] number old) (taken.full number old)
        | inr new ↦
            let e : number ≡ length front = omega arith in
            let at : get_or (front ++ pattern ∷ []) number [] ≡ pattern =
            ap (λ k. get_or (front ++ pattern ∷ []) k []) e ∙ get_or-append_seam front pattern [] [] in
            rw at (omega arith)
      ];
    }

-- patterns that are added to others are all taken, or the builder is inert
added_all-cases : (kind : MatchKind) {front : List (List ℕ)} (rest : List (List ℕ)) → AreTaken front
    → Added kind (front ++ rest) (added_all (having kind front) rest)
added_all-cases kind {front} [] taken =
    inl (subst AreTaken (sym (append-nil front)) taken, ap (having kind) (sym (append-nil front)))
added_all-cases kind {front} (p ∷ rest) taken =
    by (is_too_much (length front) p) refl (λ more. added_all-cases kind rest more)
  where
    by : (t : Bool) → is_too_much (length front) p ≡ t
        → (AreTaken (front ++ p ∷ [])
        → Added kind ((front ++ p ∷ []) ++ rest) (added_all (having kind (front ++ p ∷ [])) rest))
        → Added kind (front ++ p ∷ rest) (added_all (cond t (inert kind) (having kind (front ++ p ∷ []))) rest)
    by true e next = inr (too_much front rest p e, added_all-inert rest)
    by false e next =
        subst (λ all. Added kind all (added_all (having kind (front ++ p ∷ [])) rest))
        (append_assoc front (p ∷ []) rest) (next (taken-push front p e taken))

-- the empty list is taken
none-taken : AreTaken []
none-taken = record { few = omega arith; full = λ number h. absurd (omega arith) }

-- a searcher for exactly these patterns was built, if packed search serves them; otherwise nothing
abbrev pub BuiltOf : MatchKind → List (List ℕ) → Option Packed → Type 0
BuiltOf kind texts made =
    (IsSome made ↔ AreServed texts) × IfSome made (λ s. s ≡ record { kind = kind; patterns = texts })

-- the searcher that is built for patterns that were all taken
built-taken : (kind : MatchKind) (texts : List (List ℕ)) → AreTaken texts → BuiltOf kind texts (built kind texts)
built-taken kind [] taken = ((λ h. absurd (false≢true h), λ served. let some = served.some in absurd (omega arith)), tt)
built-taken kind (p ∷ texts) taken =
    ((λ h. record { some = omega arith; few = taken.few; full = taken.full }, λ served. refl), refl)

-- a searcher is built of patterns exactly where they are served
pub built-fresh : (kind : MatchKind) (texts : List (List ℕ))
    → BuiltOf kind texts (built (added_all (fresh kind) texts).kind (added_all (fresh kind) texts).patterns)
built-fresh kind texts = elim (added_all-cases kind texts none-taken) [
  | inl all ↦ rw all.1 (built-taken kind texts all.0)
  | inr lost ↦
      rw lost.1
      ((λ h. absurd (false≢true h), λ served. absurd (lost.0 (record { few = served.few; full = served.full }))), tt)
]
