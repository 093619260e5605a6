-- A number in a table names the state whose place it is.
use Rattle.std.proofs.Common.{◌≡◌, ◌≢◌, ℕ, zero, suc, ◌+◌, ◌<◌, Bool, true, false, IsTrue, List, Option, None, Some, ⊎_elim, refl, sym, ap, subst, ◌∙◌, arith}
use Rattle.std.specs.Prelude.{◌==◌, ◌&&◌, is_some, if◌then◌else◌, not}
use Rattle.std.proofs.lemmas.Bool.{cases_eq, cases_Bool, and_parts, and_from, cond-true, cond-false, eqb-true, false≢true, true≢false}
use Rattle.std.proofs.lemmas.Bool.Decides.{nat_tests}
use Rattle.ac_automaton.specs.Named.{Naming}

-- Whether a search of this anchoring may come to a state: not to the fail state, and not to the other start. The
-- unanchored start is `start`, and the anchored one is the next.
abbrev pub is_met : ℕ → Bool → ℕ → Bool
is_met start true i = not (i == 1) && not (i == start)
is_met start false i = not (i == 1) && not (i == start + 1)

-- No two states to which searches may come stand at one place.
abbrev pub AreApartInTable : ℕ → ℕ → (Bool → ℕ → ℕ) → Type 0
AreApartInTable len start places =
    (a b : Bool) (i j : ℕ) → i < len → j < len → IsTrue (is_met start a i) → IsTrue (is_met start b j)
    → places a i ≡ places b j → i ≡ j

-- the last of the first n states that are met and stand at a place
abbrev pub met_state_at : (ℕ → Bool) → (ℕ → ℕ) → ℕ → ℕ → Option ℕ
met_state_at met place zero at = None
met_state_at met place (suc i) at = if met i && (place i == at) then Some i else met_state_at met place i at

-- the first of two results that is there
abbrev pub either_of : Option ℕ → Option ℕ → Option ℕ
either_of None other = other
either_of (Some i) other = Some i

-- what a state stands for, if there is one
abbrev pub text_at : (ℕ → Option (List ℕ)) → Option ℕ → Option (List ℕ)
text_at state None = None
text_at state (Some i) = state i

-- the state that stands at a place for searches of either anchoring
abbrev pub placed_at : ℕ → ℕ → (Bool → ℕ → ℕ) → ℕ → Option ℕ
placed_at len start places at =
    either_of (met_state_at (is_met start false) (places false) len at)
    (met_state_at (is_met start true) (places true) len at)

-- The naming by places. The states stand for these texts, each has a place for either anchoring, and its number in the
-- table is that place.
abbrev pub named_by : (ℕ → Option (List ℕ)) → ℕ → ℕ → (Bool → ℕ → ℕ) → Naming
named_by state len start places = record {
  text = λ at. text_at state (placed_at len start places at);
  met = λ anchored at. is_some (met_state_at (is_met start anchored) (places anchored) len at);
}

-- ---- the state at a place

-- the state that is found is one of them, is met, and stands there
pub at-some : (met : ℕ → Bool) (place : ℕ → ℕ) (len at i : ℕ) → met_state_at met place len at ≡ Some i
    → (i < len) × IsTrue (met i) × (place i ≡ at)
at-some met place zero at i is = absurd (let e : None ≡ Some i = is in cc)
at-some met place (suc n) at i is =
    ⊎_elim
    (λ (yes : (met n && (place n == at)) ≡ true).
    let found : met_state_at met place (suc n) at ≡ Some n =
    cond-true (met n && (place n == at)) (Some n) (met_state_at met place n at) yes in
    let both = and_parts (met n) (place n == at) yes in
    let same : i ≡ n = cc in
    (omega (arith, same), subst (λ k. IsTrue (met k)) (sym same) both.0, ap place same ∙ eqb-true (place n) at both.1))
    (λ (no : (met n && (place n == at)) ≡ false).
    let rest =
    at-some met place n at i
    (sym (cond-false (met n && (place n == at)) (Some n) (met_state_at met place n at) no) ∙ is) in
    let less = rest.0 in
    (omega (arith, less), rest.1, rest.2))
    (cases_Bool (met n && (place n == at)))

-- if no state is found at a place, no state that is met stands there
pub at-none : (met : ℕ → Bool) (place : ℕ → ℕ) (len at : ℕ) → met_state_at met place len at ≡ None → (i : ℕ) → i < len
    → IsTrue (met i) → place i ≢ at
at-none met place zero at is i less met_i e = absurd (omega (arith, less))
at-none met place (suc n) at is i less met_i e =
    ⊎_elim
    (λ (yes : (met n && (place n == at)) ≡ true). let found : met_state_at met place (suc n) at
    ≡ Some n = cond-true (met n && (place n == at)) (Some n) (met_state_at met place n at) yes in
    absurd (let f : None ≡ Some n = sym is ∙ found in cc))
    (λ (no : (met n && (place n == at)) ≡ false).
    let rest : met_state_at met place n at ≡ None =
    sym (cond-false (met n && (place n == at)) (Some n) (met_state_at met place n at) no) ∙ is in
    ⊎_elim
    (λ (last : i ≡ n).
    let here : (place n == at) ≡ true =
    subst (λ k. (place k == at) ≡ true) last (let same : place i ≡ at = e in grind (arith, nat_tests)) in
    let yes = and_from (met n) (place n == at) (subst (λ k. IsTrue (met k)) last met_i) here in
    absurd (true≢false (sym yes ∙ no)))
    (λ (before : i ≢ n). absurd (at-none met place n at rest i (omega (arith, less, before)) met_i e))
    (cases_eq i n))
    (cases_Bool (met n && (place n == at)))

-- some state is found at the place of a state that is met
pub at-found : (met : ℕ → Bool) (place : ℕ → ℕ) (len i : ℕ) → i < len → IsTrue (met i)
    → (j : ℕ) × (met_state_at met place len (place i) ≡ Some j)
at-found met place len i less met_i = by (met_state_at met place len (place i)) refl
  where
    by : (r : Option ℕ) → met_state_at met place len (place i) ≡ r
        → (j : ℕ) × (met_state_at met place len (place i) ≡ Some j)
    by None e = absurd (at-none met place len (place i) e i less met_i refl)
    by (Some j) e = (j, e)

-- ---- what a number names

-- the place of a state that is met is a number that is met
pub named-met : (state : ℕ → Option (List ℕ)) (len start : ℕ) (places : Bool → ℕ → ℕ) (anchored : Bool) (i : ℕ)
    → i < len → IsTrue (is_met start anchored i)
    → IsTrue ((named_by state len start places).met anchored (places anchored i))
named-met state len start places anchored i less met_i =
    let found = at-found (is_met start anchored) (places anchored) len i less met_i in
    ap (λ r. is_some r) found.1

-- a number that is met is the place of a state that is met
pub named-state : (state : ℕ → Option (List ℕ)) (len start : ℕ) (places : Bool → ℕ → ℕ) (anchored : Bool) (at : ℕ)
    → IsTrue ((named_by state len start places).met anchored at)
    → (i : ℕ) × (i < len) × IsTrue (is_met start anchored i) × (places anchored i ≡ at)
named-state state len start places anchored at met_at =
    by (met_state_at (is_met start anchored) (places anchored) len at) refl
  where
    by : (r : Option ℕ) → met_state_at (is_met start anchored) (places anchored) len at ≡ r
        → (i : ℕ) × (i < len) × IsTrue (is_met start anchored i) × (places anchored i ≡ at)
    by None e = absurd (false≢true (sym (ap (λ r. is_some r) e) ∙ met_at))
    by (Some i) e = let s = at-some (is_met start anchored) (places anchored) len at i e in (i, s.0, s.1, s.2)

-- the state at the place of a state that is met is that state
placed-is : (len start : ℕ) (places : Bool → ℕ → ℕ) (anchored : Bool) (i : ℕ) → AreApartInTable len start places
    → i < len → IsTrue (is_met start anchored i) → placed_at len start places (places anchored i) ≡ Some i
placed-is len start places anchored i apart less met_i =
    by (met_state_at (is_met start false) (places false) len (places anchored i))
    (met_state_at (is_met start true) (places true) len (places anchored i)) refl refl
  where
    one : (a : Bool) (j : ℕ) → met_state_at (is_met start a) (places a) len (places anchored i) ≡ Some j → j ≡ i
    one a j e = let s = at-some (is_met start a) (places a) len (places anchored i) j e in
        apart a anchored j i s.0 less s.1 met_i s.2

    lost : (a : Bool) → a ≡ anchored → met_state_at (is_met start a) (places a) len (places anchored i) ≢ None
    lost a same e =
        at-none (is_met start a) (places a) len (places anchored i) e i less
        (subst (λ b. IsTrue (is_met start b i)) (sym same) met_i) (ap (λ b. places b i) same)

    by : (r s : Option ℕ) → met_state_at (is_met start false) (places false) len (places anchored i) ≡ r
        → met_state_at (is_met start true) (places true) len (places anchored i) ≡ s
        → placed_at len start places (places anchored i) ≡ Some i
    by (Some j) s e f =
        ap (λ r. either_of r (met_state_at (is_met start true) (places true) len (places anchored i))) e
        ∙ ap Some (one false j e)
    by None (Some k) e f =
        ap (λ r. either_of r (met_state_at (is_met start true) (places true) len (places anchored i))) e
        ∙ (f ∙ ap Some (one true k f))
    by None None e f = absurd (neither anchored refl)
      where
        neither : (a : Bool) → a ≡ anchored → ⊥
        neither false same = lost false same e
        neither true same = lost true same f

-- the place of a state that is met names what the state stands for
pub named-text : (state : ℕ → Option (List ℕ)) (len start : ℕ) (places : Bool → ℕ → ℕ) (anchored : Bool) (i : ℕ)
    → AreApartInTable len start places → i < len → IsTrue (is_met start anchored i)
    → (named_by state len start places).text (places anchored i) ≡ state i
named-text state len start places anchored i apart less met_i =
    ap (text_at state) (placed-is len start places anchored i apart less met_i)

-- ---- which states are met

-- a state that is met isn't the fail state
pub met-stands : (start : ℕ) (anchored : Bool) (i : ℕ) → IsTrue (is_met start anchored i) → i ≢ 1
met-stands start true i met e = grind (arith, nat_tests)
met-stands start false i met e = grind (arith, nat_tests)

-- a state that is met isn't the other start
pub met-unanchored : (start i : ℕ) → IsTrue (is_met start false i) → i ≢ start + 1
met-unanchored start i met e = grind (arith, nat_tests)

pub met-anchored : (start i : ℕ) → IsTrue (is_met start true i) → i ≢ start
met-anchored start i met e = grind (arith, nat_tests)

-- a state other than the fail state and the starts is met
pub met-other : (start : ℕ) (anchored : Bool) (i : ℕ) → i ≢ 1 → i ≢ start → i ≢ start + 1
    → IsTrue (is_met start anchored i)
met-other start true i stands a b = grind (arith, nat_tests)
met-other start false i stands a b = grind (arith, nat_tests)

-- each start is met by its own searches
pub met-start : (start : ℕ) → 1 < start → IsTrue (is_met start false start)
met-start start past = let e : start ≢ 1 = omega arith in let f : start ≢ start + 1 = omega arith in
    grind (arith, nat_tests)

pub met-start_anchored : (start : ℕ) → 1 < start → IsTrue (is_met start true (start + 1))
met-start_anchored start past = let e : start + 1 ≢ 1 = omega arith in let f : start + 1 ≢ start = omega arith in
    grind (arith, nat_tests)
