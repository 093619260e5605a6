-- A walk that goes on from a cursor: which matches are left, and where it stands.
use Rattle.std.proofs.Common.{◌≡◌, ℕ, zero, suc, ◌+◌, ◌-◌, ◌*◌, ◌^◌, ◌<◌, ◌≤◌, Bool, List, ◌∷◌, length, drop, Option, Some, None, IfSome, Ok, refl, sym, ap, subst, ◌∙◌, arith}
use Rattle.ac_input.specs.declared.search.MatchKind.{MatchKind}
use Rattle.ac_input.specs.Computed.{occurrences, pick_of, walk_from, walk_after}
use Rattle.ac_input.specs.Input.{Asked}
use Rattle.ac_input.specs.Occurrence.{Search, Occurrence, starting_at}
use Rattle.ac_input.specs.declared.steps.Steps.{Steps}
use Rattle.ac_input.proofs.lemmas.WalkLemmas.{walk_from-none, walk_from-some}
use Rattle.ac_automaton.specs.Automaton.{Built, kind_asked, searched}
use Rattle.ac_automaton.specs.InMemory.Iter.{CostsPick, GivesPick, IsOnItsWay, IsPickCost, IsPickWork, IsPlaceIn, PickCounts, Walk, left_of, walk_kind}
use Rattle.ac_automaton.proofs.in_memory.iter.IterLemmas.{pick-yields}
use Rattle.aho_corasick.specs.AhoCorasick.{as_built}
use Rattle.aho_corasick.specs.declared.ahocorasick.AhoCorasick.{AhoCorasick}
use Rattle.ac_c.specs.declared.found.Found.{Found}
use Rattle.ac_c.specs.declared.walk.Cursor.{Cursor}
use Rattle.ac_c.specs.Find.{asked_by}
use Rattle.ac_c.specs.Walk.{AreGiven, CostsSome, Goes, IsCursorAfter, IsCursorIn, IsFirstLeft, TakesSome, are_many, bounds_of, last_of, left_of_walk, no_place, walk_of_cursor}
use Rattle.ac_c.specs.Walking.{WalksTo}
use Rattle.ac_c.proofs.walking.WalkingLemmas.{after-same}

-- the matches of a walk from a place on don't depend on where its search began
one-more : (turns : ℕ) (kind : MatchKind) (s : Search) (begun at : ℕ) (last : Option ℕ) (r : Option Occurrence)
    → pick_of kind s at last ≡ r
    → ((o : Occurrence) → walk_from occurrences turns kind (starting_at s begun) o.end (Some o.end)
    ≡ walk_from occurrences turns kind s o.end (Some o.end))
    → walk_from occurrences (suc turns) kind (starting_at s begun) at last
    ≡ walk_from occurrences (suc turns) kind s at last
one-more turns kind s begun at last None e more =
    walk_from-none occurrences (suc turns) kind (starting_at s begun) at last e
    ∙ sym (walk_from-none occurrences (suc turns) kind s at last e)
one-more turns kind s begun at last (Some o) e more =
    walk_from-some occurrences turns kind (starting_at s begun) at last e
    ∙ (ap (λ os. o ∷ os) (more o) ∙ sym (walk_from-some occurrences turns kind s at last e))

wherever : (turns : ℕ) (kind : MatchKind) (s : Search) (begun at : ℕ) (last : Option ℕ)
    → walk_from occurrences turns kind (starting_at s begun) at last ≡ walk_from occurrences turns kind s at last
wherever zero kind s begun at last = refl
wherever (suc turns) kind s begun at last =
    one-more turns kind s begun at last (pick_of kind s at last) refl
    (λ o. wherever turns kind s begun o.end (Some o.end))

-- a last match that ended within a span ended before the number that stands for no match
small : (last : Option ℕ) (at : ℕ) → at < no_place → IfSome last (λ end. end ≤ at) → IfSome last (λ end. end < no_place)
small None at lt h = tt
small (Some end) at lt h = let le : end ≤ at = h in omega arith

-- a cursor that was moved to where a walk stands is valid, and has the matches that the walk has left
pub cursor-after : (ac : AhoCorasick) (haystack : List ℕ) (c d : Cursor) (v : Walk) → length haystack < 2 ^ 63
    → c.end ≤ length haystack
    → v.built ≡ as_built ac → v.asked ≡ asked_by haystack (bounds_of c)
    → IsPlaceIn v.asked (record { start = v.at; last = v.last }) → Goes c (record { start = v.at; last = v.last }) d
    → IsCursorAfter ac haystack c d (left_of v)
cursor-after ac haystack c d v fits inside built asked within goes =
    let a : Asked = asked_by haystack (bounds_of c) in let b : Built = as_built ac in
    let here : IsPlaceIn a (record { start = v.at; last = v.last }) =
    subst (λ z. IsPlaceIn z (record { start = v.at; last = v.last })) asked within in
    let at_most : v.at ≤ c.end + 1 = here.0 in
    let below : v.at < no_place = omega arith in
    let last : last_of d ≡ v.last = goes.1 (small v.last v.at below here.1) in
    let start : d.start ≡ v.at = ap (λ z. z.start) goes.0 in
    let end : d.end ≡ c.end = ap (λ z. z.end) goes.0 in
    let kind : MatchKind = kind_asked b a in let s : Search = searched b a in
    let moved : Cursor = record c { start = v.at; last = d.last } in
    let same_last : last_of moved ≡ v.last = sym (ap last_of goes.0) ∙ last in
    record {
      valid = (
        (omega arith, omega arith),
        subst (λ o. IfSome o (λ e. e ≤ d.start)) (sym last)
            (subst (λ at. IfSome v.last (λ e. e ≤ at)) (sym start) here.1),
      );
      same = goes.0 ∙ ap (λ at. record c { start = at; last = d.last }) (sym start);
      rest =
          ap (left_of_walk ac haystack) goes.0
          ∙ (ap (λ o. walk_after kind (starting_at s v.at) v.at o) same_last
          ∙ (wherever (2 * (s.end + 1 - v.at) + 1) kind s v.at v.at v.last
          ∙ sym (λ i. walk_after (kind_asked (built i) (asked i)) (searched (built i) (asked i)) v.at v.last)));
    }

-- one step from a cursor gives the first match left, and moves the cursor after it
pub cursor-step : (ac : AhoCorasick) (haystack : List ℕ) (c d : Cursor) (w v : Walk) (r : Option Occurrence)
    → length haystack < 2 ^ 63 → IsCursorIn haystack c
    → w ≡ walk_of_cursor ac haystack c → GivesPick w r v → IsOnItsWay v
    → IsPlaceIn v.asked (record { start = v.at; last = v.last }) → Goes c (record { start = v.at; last = v.last }) d
    → (rest : List Occurrence) × IsFirstLeft (left_of_walk ac haystack c) r rest × IsCursorAfter ac haystack c d rest
cursor-step ac haystack c d w v r fits valid e gives way within goes =
    let same = after-same w r v gives.1 in (
      left_of v,
      subst (λ z. IsFirstLeft (left_of z) r (left_of v)) e (pick-yields w r way.within.1 gives.0 gives.1),
      cursor-after ac haystack c d v fits valid.0.1 (same.0 ∙ ap (λ z. z.built) e)
          (same.1 ∙ ap (λ z. z.asked) e) within goes,
    )

-- one step from a cursor costs what the next pick of its walk may
pub step-cost : (ac : AhoCorasick) (haystack : List ℕ) (c : Cursor) (w v : Walk) (r : Option Occurrence)
    (before after : Steps)
    → w ≡ walk_of_cursor ac haystack c → CostsPick w v before after r
    → IsPickCost (as_built ac) (asked_by haystack (bounds_of c)) before after r
    × PickCounts (as_built ac) (asked_by haystack (bounds_of c)) r before after
step-cost ac haystack c w v r before after e cost = (
  subst (λ z. IsPickWork (walk_kind z) z.built.deterministic (searched z.built z.asked) z.at r before after) e
      cost.1.pick,
  subst (λ (z : Walk). PickCounts z.built (record z.asked { span = record z.asked.span { start = z.at } }) r before
      after) e cost.2.pick,
)

-- several steps from a cursor fill the buffer, and move the cursor after the last match
pub cursor-some : (ahead : Bool) (ac : AhoCorasick) (haystack : List ℕ) (c : Cursor) (w : Walk) (old new : List Found)
    (before after : Steps) (taken : ℕ × Cursor) → length haystack < 2 ^ 63 → IsCursorIn haystack c
    → w ≡ walk_of_cursor ac haystack c → TakesSome ahead w c old new before after taken
    → AreGiven (left_of_walk ac haystack c) old new taken.0
    × IsCursorAfter ac haystack c taken.1 (drop taken.0 (left_of_walk ac haystack c))
cursor-some ahead ac haystack c w old new before after taken fits valid e h =
    let all : left_of w ≡ left_of_walk ac haystack c = ap left_of e in (
      subst (λ os. AreGiven os old new taken.0) all h.given,
      subst (IsCursorAfter ac haystack c taken.1) (h.past.0 ∙ ap (drop taken.0) all)
          (cursor-after ac haystack c taken.1 h.moved fits valid.0.1 (h.cost.built ∙ ap (λ z. z.built) e)
          (h.cost.asked ∙ ap (λ z. z.asked) e) h.within h.goes),
    )

-- and cost what the walk does from one cursor to the other
pub some-cost : (ahead : Bool) (ac : AhoCorasick) (haystack : List ℕ) (c : Cursor) (w : Walk) (old new : List Found)
    (before after : Steps) (taken : ℕ × Cursor)
    → w ≡ walk_of_cursor ac haystack c → TakesSome ahead w c old new before after taken → are_many (length old) ≡ ahead
    → CostsSome ac haystack c (length old) before after (Ok taken)
some-cost ahead ac haystack c w old new before after taken e h many = (
  h.moved,
  rw many (subst (λ z. WalksTo ahead z h.moved before after) e h.cost),
  sym (ap (λ z. z.start) h.goes.0),
  let given = h.past.1 in let none : w.given ≡ 0 = ap (λ z. z.given) e in omega (arith, given, none),
)
