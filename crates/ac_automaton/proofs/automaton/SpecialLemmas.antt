-- Which numbers are special, by the order of an automaton's numbers: the dead state, those that match, the starts, the
-- others.
use Rattle.std.proofs.Common.{◌≡◌, ◌≢◌, ◌⊎◌, ◌↔◌, ⊎_elim, inl, inr, refl, ℕ, ◌<◌, ◌≤◌, IsTrue, List, [], Option, None, Some, arith}
use Rattle.std.specs.Prelude.{◌==◌, ◌||◌, nat_le}
use Rattle.std.proofs.lemmas.Bool.{cases_lt, cases_eq}
use Rattle.ac_input.specs.Candidate.{Filter}
use Rattle.ac_automaton.specs.Automaton.{Built}
use Rattle.ac_automaton.specs.Skip.{last_special_of}
use Rattle.ac_automaton.proofs.automaton.NamedLemmas.{IsSpecialState}
use Rattle.ac_automaton.proofs.automaton.TestLemmas.{start-has, start-is, test-le}

-- ---- the last special number

-- it is no less than the greatest that matches, if that isn't past the anchored start,
last-past : (held : Option Filter) (start_anchored greatest : ℕ) → greatest ≤ start_anchored
    → greatest ≤ last_special_of held start_anchored greatest
last-past None start_anchored greatest le = omega arith
last-past (Some f) start_anchored greatest le = le

-- no less than the anchored start, if a prefilter is held,
last-starts : (held : Option Filter) (start_anchored greatest sid : ℕ) → held ≢ None → sid ≤ start_anchored
    → sid ≤ last_special_of held start_anchored greatest
last-starts None start_anchored greatest sid some le = absurd (some refl)
last-starts (Some f) start_anchored greatest sid some le = le

-- and past the greatest that matches only if one is held.
last-held : (held : Option Filter) (start_anchored greatest sid : ℕ) → greatest < sid
    → sid ≤ last_special_of held start_anchored greatest → (held ≢ None) × (sid ≤ start_anchored)
last-held None start_anchored greatest sid past le = absurd (omega (arith, past, le))
last-held (Some f) start_anchored greatest sid past le = (λ e. cc, le)

-- ---- special states

-- A number stands in the order: it is 0 for the dead state, at most the greatest that matches where patterns match, and
-- else a start, if it isn't past the anchored start.
pub record IsRanked (ns : List ℕ) (state : Option (List ℕ)) (start start_anchored greatest sid : ℕ) : Type 0 where
  pub dead : (state ≡ None) ↔ (sid ≡ 0)
  pub matching : sid ≢ 0 → sid ≤ greatest → ns ≢ []
  pub within : ns ≢ [] → sid ≤ greatest
  pub starts : greatest < sid → sid ≤ start_anchored → (sid ≡ start) ⊎ (sid ≡ start_anchored)

-- The numbers up to the last special one are those at which a search has more to do.
pub ranked-special : (b : Built) (ns : List ℕ) (state : Option (List ℕ)) (start start_anchored greatest last sid : ℕ)
    → start ≤ start_anchored → greatest ≤ start_anchored → last ≡ last_special_of b.prefilter start_anchored greatest
    → IsRanked ns state start start_anchored greatest sid
    → IsTrue (nat_le sid last) ↔ IsSpecialState b ns ((sid == start) || (sid == start_anchored)) state
ranked-special b ns state start start_anchored greatest last sid ordered top is r = (
  λ yes.
      let le = (test-le sid last).0 yes in
      ⊎_elim
      (λ (zero : sid ≡ 0). inl (r.dead.1 zero))
      (λ (some : sid ≢ 0).
      ⊎_elim
      (λ (past : greatest < sid).
      let held = last-held b.prefilter start_anchored greatest sid past (omega (arith, le, is)) in
      inr (inr (start-has sid start start_anchored (r.starts past held.1), held.0)))
      (λ (within : sid ≤ greatest). inr (inl (r.matching some within)))
      (cases_lt greatest sid))
      (cases_eq sid 0),
  λ special. (test-le sid last).1 (back special),
)
  where
    back : IsSpecialState b ns ((sid == start) || (sid == start_anchored)) state → sid ≤ last
    back (inl none) = let zero = r.dead.0 none in omega (arith, zero)
    back (inr (inl match)) =
        let within = r.within match in
        let more = last-past b.prefilter start_anchored greatest top in
        omega (arith, within, more, is)
    back (inr (inr held)) =
        let within : sid ≤ start_anchored =
        ⊎_elim
        (λ (at : sid ≡ start). omega (arith, at, ordered))
        (λ (at : sid ≡ start_anchored). omega (arith, at))
        (start-is sid start start_anchored held.0) in
        let more = last-starts b.prefilter start_anchored greatest sid held.1 within in
        omega (arith, more, is)
