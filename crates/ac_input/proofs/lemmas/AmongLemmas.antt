-- What holds of the best, the pick and the walk whichever occurrences count, if a list has exactly these.
use Rattle.std.proofs.Common.{◌≡◌, ◌⊎◌, ◌↔◌, inl, inr, ⊎_elim, ℕ, zero, suc, ◌+◌, ◌-◌, ◌*◌, ◌<◌, ◌≤◌, Bool, true, false, ◌==◌, cond, List, [], ◌∷◌, length, Option, Some, None, IsTrue, Contains, sym, ap, subst, refl, ◌∙◌, arith}
use Rattle.std.proofs.lemmas.Bool.{and_parts, and_from, eqb-true, eq-eqb, cases_eq, false≢true}
use Rattle.std.proofs.lemmas.Option.{same_Some, none-some}
use Rattle.ac_input.specs.declared.search.MatchKind.{MatchKind}
use Rattle.ac_input.specs.Occurrence.{Search, Occurrence, Occurs, starting_at}
use Rattle.ac_input.specs.Best.{IsLeast}
use Rattle.ac_input.specs.Listing.{ListsAll}
use Rattle.ac_input.specs.Walk.{Repeats, IsPickAmong, Here, Further, IsWalkAmong}
use Rattle.ac_input.specs.Computed.{least, occurrences, repeats, pick_among, walk_from, walk_among, listing_among}
use Rattle.ac_input.specs.Laws.{IsApart}
use Rattle.ac_input.proofs.lemmas.ContainsLemmas.{Contains-nil, Contains-cases}
use Rattle.ac_input.proofs.lemmas.RisingLemmas.{IsPairwise}
use Rattle.ac_input.proofs.lemmas.BestLemmas.{IsLeast-like, IsLeast-stronger, least-least, least-unique, occurrences-occurs, occurs-occurrences}
use Rattle.ac_input.proofs.lemmas.ListingLemmas.{IsEarlier, occurrences-pairwise, ListsAll-unique, listing_among-lists}

-- The list has exactly the occurrences that count, by start and number. Whether an occurrence counts doesn't depend on
-- where the span starts.
pub record AreCounted (Is : Search → Occurrence → Type 0) (all : Search → List Occurrence) : Type 0 where
  pub occurs : (s : Search) (o : Occurrence) → Is s o → Occurs s o
  pub counts : (s : Search) (o : Occurrence) → Contains (all s) o → Is s o
  pub listed : (s : Search) (o : Occurrence) → s.end ≤ length s.haystack → Is s o → Contains (all s) o
  pub ordered : (s : Search) → IsPairwise IsEarlier (all s)
  pub moved : (s : Search) (from : ℕ) (o : Occurrence) → Is s o → Occurs (starting_at s from) o
      → Is (starting_at s from) o

-- every occurrence counts
pub all-counted : AreCounted Occurs occurrences
all-counted =
    record {
      occurs = λ s o h. h;
      counts = occurrences-occurs;
      listed = occurs-occurrences;
      ordered = occurrences-pairwise;
      moved = λ s from o h k. k;
    }

-- what occurs from a place on occurs from an earlier place on, unless the search is anchored there
pub occurs-earlier : (s : Search) {at from : ℕ} {o : Occurrence} → at ≤ from → (IsTrue s.anchored → at ≡ from)
    → Occurs (starting_at s from) o → Occurs (starting_at s at) o
occurs-earlier s le a h =
    let w = h.within in
    record {
      within = (omega arith, w.1, w.2);
      same = h.same;
      anchor = λ t. h.anchor t ∙ sym (a t);
    }

-- the absence of a pick repeats nothing
no_repeat_none : (last : Option ℕ) → ¬ Repeats last None
no_repeat_none None h = h
no_repeat_none (Some l) h = h

-- where the test of a repetition passes, the occurrence repeats the last pick
repeats_from_test : (last : Option ℕ) (o : Occurrence) → repeats last o ≡ true → Repeats last (Some o)
repeats_from_test None o h = false≢true h
repeats_from_test (Some l) o h = let e = and_parts (o.start == l) (o.end == l) h in
    (eqb-true o.start l e.0, eqb-true o.end l e.1)

-- where an occurrence repeats the last pick, the test of a repetition passes
test_from_repeats : (last : Option ℕ) (o : Occurrence) → Repeats last (Some o) → repeats last o ≡ true
test_from_repeats None o h = absurd h
test_from_repeats (Some l) o h = and_from (o.start == l) (o.end == l) (eq-eqb o.start l h.0) (eq-eqb o.end l h.1)

-- Where a pick lies: it occurs from the walk's place on and doesn't repeat the last pick, or it occurs from one byte
-- further on.
abbrev pub Picked : Search → ℕ → Option ℕ → Occurrence → Type 0
Picked s at last o =
    (from : ℕ) × Occurs (starting_at s from) o × (((from ≡ at) × ¬ Repeats last (Some o)) ⊎ (from ≡ at + 1))

-- This many turns are enough for the walk from a place: more than two a place, or two a place where the last pick ended
-- there.
abbrev pub IsEnough : Search → ℕ → Option ℕ → ℕ → Type 0
IsEnough s at last turns = (2 * (s.end + 1 - at) < turns) ⊎ ((last ≡ Some at) × (2 * (s.end + 1 - at) ≤ turns))

-- each pick leaves fewer turns to take
pub picked-smaller : (s : Search) {at : ℕ} {last : Option ℕ} {o : Occurrence} {turns : ℕ} → Picked s at last o
    → IsEnough s at last turns → 2 * (s.end + 1 - o.end) < turns
picked-smaller s {at} p (inl lt) =
    let w = p.1.within in
    let above : at ≤ p.0 = ⊎_elim (λ e. let z = e.0 in omega arith) (λ e. omega arith) p.2 in
    omega arith
picked-smaller s {at} {o} p (inr h) =
    let w = p.1.within in
    let le = h.1 in
    let further : at < o.end = ⊎_elim
    (λ e. let z = e.0 in ⊎_elim
    (λ (same : o.end ≡ at). absurd
    (e.1 (subst (λ l. Repeats l (Some o)) (sym h.0) (let y : o.start ≡ at = omega arith in (y, same)))))
    (λ n. omega arith)
    (cases_eq o.end at))
    (λ e. omega arith)
    p.2 in
    omega arith

-- a pick lies in the span, and starts at or after the place of the walk
pub picked-within : (s : Search) (at : ℕ) (last : Option ℕ) (o : Occurrence) → Picked s at last o
    → (at ≤ o.start) × (o.start ≤ o.end) × (o.end ≤ s.end)
picked-within s at last o p =
    let w = p.1.within in
    let above : at ≤ p.0 = ⊎_elim (λ e. let z = e.0 in omega arith) (λ e. omega arith) p.2 in
    (omega arith, w.1, w.2)

-- the number of turns that the walk from a place takes is enough
pub after_enough : (s : Search) {at : ℕ} {last : Option ℕ} → IsEnough s at last (2 * (s.end + 1 - at) + 1)
after_enough s = inl (omega arith)

-- the first pick begins the list, and the walk goes on from its end
pub walk_from-some : (all : Search → List Occurrence) (turns : ℕ) (kind : MatchKind) (s : Search) (at : ℕ)
    (last : Option ℕ) {o : Occurrence} → pick_among all kind s at last ≡ Some o
    → walk_from all (suc turns) kind s at last ≡ o ∷ walk_from all turns kind s o.end (Some o.end)
walk_from-some all turns kind s at last e =
    ap
    (λ r. elim r as (λ _. List Occurrence) [ None ↦ [] | Some q ↦ q ∷ walk_from all turns kind s q.end (Some q.end) ])
    e

-- where there is no pick the walk is over, however many turns it has
pub walk_from-none : (all : Search → List Occurrence) (turns : ℕ) (kind : MatchKind) (s : Search) (at : ℕ)
    (last : Option ℕ) → pick_among all kind s at last ≡ None → walk_from all turns kind s at last ≡ []
walk_from-none all zero kind s at last e = refl
walk_from-none all (suc turns) kind s at last e =
    ap
    (λ r. elim r as (λ _. List Occurrence) [ None ↦ [] | Some o ↦ o ∷ walk_from all turns kind s o.end (Some o.end) ])
    e

module _ {Is : Search → Occurrence → Type 0} {all : Search → List Occurrence} (counted : AreCounted Is all) where
  -- ---- the best

  -- the computed best is the best
  pub among-best : (kind : MatchKind) (s : Search) → s.end ≤ length s.haystack → IsLeast kind (Is s) (least kind (all s))
  among-best kind s inside =
      IsLeast-like kind (λ o. (counted.counts s o, counted.listed s o inside)) (least kind (all s))
      (least-least kind (all s))

  -- there is at most one best
  pub among-best_unique : (kind : MatchKind) (s : Search) → s.end ≤ length s.haystack → {a b : Option Occurrence}
      → IsLeast kind (Is s) a → IsLeast kind (Is s) b → a ≡ b
  among-best_unique kind s inside {a} {b} g h = least-unique kind inside (counted.occurs s) a b g h

  -- an occurrence is the best exactly where it is the computed one
  pub among-best_one : (kind : MatchKind) (s : Search) (r : Option Occurrence) → s.end ≤ length s.haystack
      → IsLeast kind (Is s) r ↔ (r ≡ least kind (all s))
  among-best_one kind s r inside = (
    λ h. among-best_unique kind s inside h (among-best kind s inside),
    λ e. subst (IsLeast kind (Is s)) (sym e) (among-best kind s inside),
  )

  -- ---- the pick

  -- a walk that stands at a place has at most one next pick
  pub among-pick_unique : {kind : MatchKind} {s : Search} {at : ℕ} {last : Option ℕ} → s.end ≤ length s.haystack
      → {a b : Option Occurrence} → IsPickAmong Is kind s at last a → IsPickAmong Is kind s at last b → a ≡ b
  among-pick_unique {kind} {s} {at} inside (Here g n) (Here h m) = among-best_unique kind (starting_at s at) inside g h
  among-pick_unique {kind} {s} {at} {last} inside (Here g n) (Further c h rep k) =
      absurd (n (subst (Repeats last) (among-best_unique kind (starting_at s at) inside h g) rep))
  among-pick_unique {kind} {s} {at} {last} inside (Further c g rep k) (Here h m) =
      absurd (m (subst (Repeats last) (among-best_unique kind (starting_at s at) inside g h) rep))
  among-pick_unique {kind} {s} {at} inside (Further c g rep k) (Further d h rep' l) =
      among-best_unique kind (starting_at s (at + 1)) inside k l

  -- the pick that is computed from the best
  abbrev pick_from : MatchKind → Search → ℕ → Option ℕ → Option Occurrence → Option Occurrence
  pick_from kind s at last r =
      elim r [ None ↦ None | Some b ↦ cond (repeats last b) (least kind (all (starting_at s (at + 1)))) (Some b) ]

  -- the pick that is computed from the best is the next pick
  pick_from-pick : {kind : MatchKind} {s : Search} {at : ℕ} {last : Option ℕ} → s.end ≤ length s.haystack
      → (r : Option Occurrence) → IsLeast kind (Is (starting_at s at)) r
      → IsPickAmong Is kind s at last (pick_from kind s at last r)
  pick_from-pick {last} inside None h = Here h (no_repeat_none last)
  pick_from-pick {kind} {s} {at} {last} inside (Some b) h = by (repeats last b) refl
    where
      by : (t : Bool) → repeats last b ≡ t
          → IsPickAmong Is kind s at last (cond t (least kind (all (starting_at s (at + 1)))) (Some b))
      by true e = Further (Some b) h (repeats_from_test last b e) (among-best kind (starting_at s (at + 1)) inside)
      by false e = Here h (λ n. false≢true (sym e ∙ test_from_repeats last b n))

  -- the computed pick is the next pick
  pub among-pick : {kind : MatchKind} {s : Search} {at : ℕ} {last : Option ℕ} → s.end ≤ length s.haystack
      → IsPickAmong Is kind s at last (pick_among all kind s at last)
  among-pick {kind} {s} {at} inside =
      pick_from-pick inside (least kind (all (starting_at s at))) (among-best kind (starting_at s at) inside)

  -- and the only one
  pub among-pick_one : (kind : MatchKind) (s : Search) (at : ℕ) (last : Option ℕ) (r : Option Occurrence)
      → s.end ≤ length s.haystack → IsPickAmong Is kind s at last r ↔ (r ≡ pick_among all kind s at last)
  among-pick_one kind s at last r inside = (
    λ h. among-pick_unique inside h (among-pick inside),
    λ e. subst (IsPickAmong Is kind s at last) (sym e) (among-pick inside),
  )

  -- each pick lies as `Picked` says
  pub among-picked : {kind : MatchKind} {s : Search} {at : ℕ} {last : Option ℕ} {o : Occurrence}
      → IsPickAmong Is kind s at last (Some o) → Picked s at last o
  among-picked {s} {at} {o} (Here h n) = (at, counted.occurs (starting_at s at) o h.0, inl (refl, n))
  among-picked {s} {at} {o} (Further c h rep k) =
      (at + 1, counted.occurs (starting_at s (at + 1)) o k.0, inr refl)

  -- the computed best occurs
  pub among-occurs : (kind : MatchKind) {s : Search} {o : Occurrence} → least kind (all s) ≡ Some o → Occurs s o
  among-occurs kind {s} {o} e =
      let h : IsLeast kind (Contains (all s)) (Some o) = subst (IsLeast kind (Contains (all s))) e
      (least-least kind (all s)) in counted.occurs s o (counted.counts s o h.0)

  -- the pick that is computed from the best lies as `Picked` says
  pick_from-picked : (kind : MatchKind) (s : Search) (at : ℕ) (last : Option ℕ) (o : Occurrence)
      (r : Option Occurrence) → least kind (all (starting_at s at)) ≡ r → pick_from kind s at last r ≡ Some o
      → Picked s at last o
  pick_from-picked kind s at last o None b e = absurd (none-some o e)
  pick_from-picked kind s at last o (Some c) b e = by (repeats last c) refl e
    where
      by : (t : Bool) → repeats last c ≡ t → cond t (least kind (all (starting_at s (at + 1)))) (Some c) ≡ Some o
          → Picked s at last o
      by true r f = (at + 1, among-occurs kind f, inr refl)
      by false r f =
          let same : c ≡ o = same_Some c o f in (
            at,
            among-occurs kind (b ∙ f),
            inl (refl, λ n. false≢true (sym r ∙ ap (repeats last) same ∙ test_from_repeats last o n)),
          )

  -- the computed pick lies as `Picked` says
  pub among-computed_picked : (kind : MatchKind) (s : Search) {at : ℕ} (last : Option ℕ) {o : Occurrence}
      → pick_among all kind s at last ≡ Some o → Picked s at last o
  among-computed_picked kind s {at} last {o} e =
      pick_from-picked kind s at last o (least kind (all (starting_at s at))) refl e

  -- after the span there is no pick
  pub among-no_pick : (kind : MatchKind) (s : Search) (at : ℕ) (last : Option ℕ) → s.end < at
      → pick_among all kind s at last ≡ None
  among-no_pick kind s at last lt = by (pick_among all kind s at last) refl
    where
      by : (r : Option Occurrence) → pick_among all kind s at last ≡ r → r ≡ None
      by None e = refl
      by (Some o) e =
          absurd (let p = among-computed_picked kind s last e in let w = p.1.within in
          ⊎_elim (λ f. let z = f.0 in omega arith) (λ f. omega arith) p.2)

  -- the next pick of a walk lies in the span, and starts at or after the place of the walk
  pub among-within : {kind : MatchKind} {s : Search} {at : ℕ} {last : Option ℕ} {o : Occurrence}
      → IsPickAmong Is kind s at last (Some o) → (at ≤ o.start) × (o.start ≤ o.end) × (o.end ≤ s.end)
  among-within {s} {at} {last} {o} h = picked-within s at last o (among-picked h)

  -- a pick isn't empty where the pick before it ended, if the walk stands there
  pub among-not_repeats : {kind : MatchKind} {s : Search} {at : ℕ} {o : Occurrence}
      → IsPickAmong Is kind s at (Some at) (Some o) → ¬ ((o.start ≡ at) × (o.end ≡ at))
  among-not_repeats (Here h n) r = n r
  among-not_repeats {s} {at} {o} (Further c h rep k) r =
      let w = (counted.occurs (starting_at s (at + 1)) o k.0).within in
      let e = r.0 in
      omega arith

  -- an empty best is also the best from its own place on
  pub among-from_itself : (kind : MatchKind) (s : Search) (from : ℕ) (o : Occurrence) → o.start ≡ o.end
      → IsLeast kind (Is (starting_at s from)) (Some o) → IsLeast kind (Is (starting_at s o.end)) (Some o)
  among-from_itself kind s from o e h =
      let occurs = counted.occurs (starting_at s from) o h.0 in
      let w = occurs.within in
      let anchored : IsTrue s.anchored → from ≡ o.end = λ t. sym (occurs.anchor t) ∙ e in
      let itself : Occurs (starting_at s o.end) o =
      record { within = (omega arith, w.1, w.2); same = occurs.same; anchor = λ t. e } in
      IsLeast-stronger kind
      (λ q k. counted.moved (starting_at s o.end) from q k
      (occurs-earlier s (omega arith) anchored (counted.occurs (starting_at s o.end) q k)))
      (counted.moved (starting_at s from) o.end o h.0 itself) h

  -- the pick after an empty one begins later
  later_than_empty : {kind : MatchKind} {s : Search} {p q : Occurrence} → s.end ≤ length s.haystack → p.start ≡ p.end
      → IsLeast kind (Is (starting_at s p.end)) (Some p) → IsPickAmong Is kind s p.end (Some p.end) (Some q)
      → p.end < q.start
  later_than_empty {kind} {s} {p} {q} inside e b (Here h n) =
      let same : Some p ≡ Some q = among-best_unique kind (starting_at s p.end) inside b h in
      absurd (n (subst (Repeats (Some p.end)) same (e, refl)))
  later_than_empty {s} {p} {q} inside e b (Further c h rep k) =
      let w = (counted.occurs (starting_at s (p.end + 1)) q k.0).within in omega arith

  -- a pick is the best from some place on
  pub among-pick_best : {kind : MatchKind} {s : Search} {at : ℕ} {last : Option ℕ} {o : Occurrence}
      → IsPickAmong Is kind s at last (Some o)
      → (from : ℕ) × (at ≤ from) × IsLeast kind (Is (starting_at s from)) (Some o)
  among-pick_best {at} (Here h n) = (at, omega arith, h)
  among-pick_best {at} (Further c h rep k) = (at + 1, omega arith, k)

  -- each pick begins later than the one before it
  pub among-later : {kind : MatchKind} {s : Search} {at : ℕ} {last : Option ℕ} {p q : Occurrence}
      → s.end ≤ length s.haystack → IsPickAmong Is kind s at last (Some p)
      → IsPickAmong Is kind s p.end (Some p.end) (Some q) → p.start < q.start
  among-later {kind} {s} {p} inside g h =
      let w = among-within g in
      let v = among-within h in
      let b = among-pick_best g in
      ⊎_elim
      (λ e. let lt = later_than_empty inside e (among-from_itself kind s b.0 p e b.2) h in omega arith)
      (λ n. omega arith)
      (cases_eq p.start p.end)

  -- ---- the walk

  -- there is at most one walk from a place
  pub among-walk_unique : (kind : MatchKind) (s : Search) (at : ℕ) (last : Option ℕ) → s.end ≤ length s.haystack
      → (os qs : List Occurrence) → IsWalkAmong Is kind s at last os → IsWalkAmong Is kind s at last qs → os ≡ qs
  among-walk_unique kind s at last inside [] [] g h = refl
  among-walk_unique kind s at last inside [] (q ∷ qs) g h = absurd (none-some q (among-pick_unique inside g h.0))
  among-walk_unique kind s at last inside (o ∷ os) [] g h = absurd (none-some o (among-pick_unique inside h g.0))
  among-walk_unique kind s at last inside (o ∷ os) (q ∷ qs) g h =
      let e : q ≡ o = same_Some q o (among-pick_unique inside h.0 g.0) in
      let k : IsWalkAmong Is kind s o.end (Some o.end) qs =
      subst (λ x. IsWalkAmong Is kind s x.end (Some x.end) qs) e h.1 in
      let t : os ≡ qs = among-walk_unique kind s o.end (Some o.end) inside os qs g.1 k in
      cc

  -- with no turns left there is no pick
  no_turns : (kind : MatchKind) (s : Search) {at : ℕ} {last : Option ℕ} → IsEnough s at last 0
      → pick_among all kind s at last ≡ None
  no_turns kind s {at} {last} g = by (pick_among all kind s at last) refl
    where
      by : (r : Option Occurrence) → pick_among all kind s at last ≡ r → r ≡ None
      by None e = refl
      by (Some o) e = absurd (let lt = picked-smaller s (among-computed_picked kind s last e) g in omega arith)

  -- turns that are enough for a walk are, less one, enough for the walk after its first pick
  pub among-enough_next : (kind : MatchKind) (s : Search) {at : ℕ} {last : Option ℕ} {o : Occurrence} {turns : ℕ}
      → pick_among all kind s at last ≡ Some o → IsEnough s at last (suc turns) → IsEnough s o.end (Some o.end) turns
  among-enough_next kind s {last} e g =
      let lt = picked-smaller s (among-computed_picked kind s last e) g in inr (refl, omega arith)

  -- one step of the next lemma
  enough_step : (turns more : ℕ) (kind : MatchKind) (s : Search) (at : ℕ) (last : Option ℕ)
      → ((o : Occurrence) → pick_among all kind s at last ≡ Some o
      → walk_from all turns kind s o.end (Some o.end) ≡ walk_from all more kind s o.end (Some o.end))
      → walk_from all (suc turns) kind s at last ≡ walk_from all (suc more) kind s at last
  enough_step turns more kind s at last h = by (pick_among all kind s at last) refl
    where
      by : (r : Option Occurrence) → pick_among all kind s at last ≡ r
          → walk_from all (suc turns) kind s at last ≡ walk_from all (suc more) kind s at last
      by None e =
          walk_from-none all (suc turns) kind s at last e ∙ sym (walk_from-none all (suc more) kind s at last e)
      by (Some o) e =
          walk_from-some all turns kind s at last e ∙ ap (λ qs. o ∷ qs) (h o e)
          ∙ sym (walk_from-some all more kind s at last e)

  -- two numbers of turns that are both enough give the same walk
  pub among-enough : (turns more : ℕ) (kind : MatchKind) (s : Search) {at : ℕ} {last : Option ℕ}
      → IsEnough s at last turns → IsEnough s at last more
      → walk_from all turns kind s at last ≡ walk_from all more kind s at last
  among-enough zero more kind s {at} {last} g h = sym (walk_from-none all more kind s at last (no_turns kind s g))
  among-enough (suc turns) zero kind s {at} {last} g h =
      walk_from-none all (suc turns) kind s at last (no_turns kind s h)
  among-enough (suc turns) (suc more) kind s {at} {last} g h =
      enough_step turns more kind s at last
      (λ o e. among-enough turns more kind s (among-enough_next kind s e g) (among-enough_next kind s e h))

  -- with no computed pick the walk is over
  pub among-computed_none : (kind : MatchKind) (s : Search) (at : ℕ) (last : Option ℕ)
      → pick_among all kind s at last ≡ None → walk_among all kind s at last ≡ []
  among-computed_none kind s at last e = walk_from-none all (2 * (s.end + 1 - at) + 1) kind s at last e

  -- with a computed pick the walk goes on at its end
  pub among-computed_some : (kind : MatchKind) (s : Search) (at : ℕ) (last : Option ℕ) (o : Occurrence)
      → pick_among all kind s at last ≡ Some o
      → walk_among all kind s at last ≡ o ∷ walk_among all kind s o.end (Some o.end)
  among-computed_some kind s at last o e =
      let turns : ℕ = 2 * (s.end + 1 - at) in
      let more : turns + 1 ≡ suc turns = omega arith in
      let g : IsEnough s at last (suc turns) = inl (omega arith) in
      ap (λ n. walk_from all n kind s at last) more
      ∙ walk_from-some all turns kind s at last e
      ∙ ap (λ qs. o ∷ qs)
      (among-enough turns (2 * (s.end + 1 - o.end) + 1) kind s (among-enough_next kind s e g) (after_enough s))

  -- where there is no next pick the walk is over
  pub among-none : {kind : MatchKind} {s : Search} {at : ℕ} {last : Option ℕ} → s.end ≤ length s.haystack
      → IsPickAmong Is kind s at last None → walk_among all kind s at last ≡ []
  among-none {kind} {s} {at} {last} inside h =
      among-computed_none kind s at last (sym ((among-pick_one kind s at last None inside).0 h))

  -- where there is a next pick, the walk goes on at its end
  pub among-some : {kind : MatchKind} {s : Search} {at : ℕ} {last : Option ℕ} {o : Occurrence}
      → s.end ≤ length s.haystack → IsPickAmong Is kind s at last (Some o)
      → walk_among all kind s at last ≡ o ∷ walk_among all kind s o.end (Some o.end)
  among-some {kind} {s} {at} {last} {o} inside h =
      among-computed_some kind s at last o (sym ((among-pick_one kind s at last (Some o) inside).0 h))

  -- with enough turns the computed picks are a walk
  walk_from-walk : (turns : ℕ) (kind : MatchKind) (s : Search) {at : ℕ} {last : Option ℕ}
      → s.end ≤ length s.haystack → IsEnough s at last turns
      → IsWalkAmong Is kind s at last (walk_from all turns kind s at last)
  walk_from-walk zero kind s {at} {last} inside g =
      subst (IsPickAmong Is kind s at last) (no_turns kind s g) (among-pick inside)
  walk_from-walk (suc turns) kind s {at} {last} inside g =
      by (λ o e. walk_from-walk turns kind s inside (among-enough_next kind s e g)) (pick_among all kind s at last) refl
    where
      by : ((o : Occurrence) → pick_among all kind s at last ≡ Some o
          → IsWalkAmong Is kind s o.end (Some o.end) (walk_from all turns kind s o.end (Some o.end)))
          → (r : Option Occurrence) → pick_among all kind s at last ≡ r
          → IsWalkAmong Is kind s at last (walk_from all (suc turns) kind s at last)
      by more None e =
          subst (IsWalkAmong Is kind s at last) (sym (walk_from-none all (suc turns) kind s at last e))
          (subst (IsPickAmong Is kind s at last) e (among-pick inside))
      by more (Some o) e =
          let pick : IsPickAmong Is kind s at last (Some o) =
          subst (IsPickAmong Is kind s at last) e (among-pick inside) in
          subst (IsWalkAmong Is kind s at last) (sym (walk_from-some all turns kind s at last e)) (pick, more o e)

  -- the computed walk from a place is the walk from there
  pub among-walk : (kind : MatchKind) (s : Search) (at : ℕ) (last : Option ℕ) → s.end ≤ length s.haystack
      → IsWalkAmong Is kind s at last (walk_among all kind s at last)
  among-walk kind s at last inside = walk_from-walk (2 * (s.end + 1 - at) + 1) kind s inside (after_enough s)

  -- and the only one
  pub among-walk_one : (kind : MatchKind) (s : Search) (at : ℕ) (last : Option ℕ) (os : List Occurrence)
      → s.end ≤ length s.haystack → IsWalkAmong Is kind s at last os ↔ (os ≡ walk_among all kind s at last)
  among-walk_one kind s at last os inside = (
    λ h. among-walk_unique kind s at last inside os (walk_among all kind s at last) h
        (among-walk kind s at last inside),
    λ e. subst (IsWalkAmong Is kind s at last) (sym e) (among-walk kind s at last inside),
  )

  -- the picks of a walk lie apart
  pub among-apart : (kind : MatchKind) (s : Search) (at : ℕ) (last : Option ℕ) (os : List Occurrence)
      → s.end ≤ length s.haystack → IsWalkAmong Is kind s at last os → IsApart os
  among-apart kind s at last [] inside h = tt
  among-apart kind s at last (p ∷ []) inside h = tt
  among-apart kind s at last (p ∷ q ∷ os) inside h =
      let next = h.1.0 in (
        (among-within next).0,
        among-later inside h.0 next,
        among-not_repeats next,
        among-apart kind s p.end (Some p.end) (q ∷ os) inside h.1,
      )

  -- each pick counts in the search from some place on, at or after the place of the walk
  pub among-somewhere : (kind : MatchKind) (s : Search) {at : ℕ} (last : Option ℕ) (os : List Occurrence)
      {o : Occurrence} → IsWalkAmong Is kind s at last os → Contains os o
      → (from : ℕ) × (at ≤ from) × Is (starting_at s from) o
  among-somewhere kind s last [] h c = absurd (Contains-nil c)
  among-somewhere kind s last (p ∷ os) h c = ⊎_elim
      (λ e. let b = among-pick_best h.0 in (b.0, b.1, subst (Is (starting_at s b.0)) e b.2.0))
      (λ k. let r = among-somewhere kind s (Some p.end) os h.1 k in let w = among-within h.0 in let le = r.1 in
      (r.0, omega arith, r.2))
      (Contains-cases os c)

  -- each pick of an unanchored walk counts in the search from the place of the walk on
  pub among-free : (kind : MatchKind) (s : Search) (at : ℕ) (last : Option ℕ) (os : List Occurrence) (o : Occurrence)
      → s.anchored ≡ false → IsWalkAmong Is kind s at last os → Contains os o → Is (starting_at s at) o
  among-free kind s at last os o free h c =
      let r = among-somewhere kind s last os h c in
      counted.moved (starting_at s r.0) at o r.2
      (occurs-earlier s r.1 (λ t. absurd (false≢true (sym free ∙ t))) (counted.occurs (starting_at s r.0) o r.2))

  -- ---- the listing

  -- a list is the listing of what counts exactly where it is the computed one
  pub among-listing_one : (s : Search) (os : List Occurrence) → s.end ≤ length s.haystack
      → ListsAll (Is s) os ↔ (os ≡ listing_among all s)
  among-listing_one s os inside =
      let lists : ListsAll (Is s) (listing_among all s) =
      listing_among-lists all s (counted.ordered s) (λ o. (counted.counts s o, counted.listed s o inside))
      (λ o h. let w = (counted.occurs s o h).within in (omega arith, omega arith)) in
      (λ h. ListsAll-unique h lists, λ e. subst (ListsAll (Is s)) (sym e) lists)
