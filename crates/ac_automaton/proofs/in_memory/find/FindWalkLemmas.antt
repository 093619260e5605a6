-- What the walk of a search for one match knows at a state, before and after it takes the state's match.
use Rattle.std.proofs.Common.{◌≡◌, ℕ, ◌<◌, ◌≤◌, List, [], length, Option, Some, None, sym, subst, refl, ◌∙◌, arith}
use Rattle.std.specs.Option.{option_or}
use Rattle.ac_input.specs.Number.{StateID}
use Rattle.ac_input.specs.declared.search.Anchored.TheVariants.{No}
use Rattle.ac_input.specs.declared.search.MatchKind.TheVariants.{Standard}
use Rattle.ac_input.specs.declared.search.Span.{Span}
use Rattle.ac_input.specs.declared.steps.Steps.{Steps}
use Rattle.ac_input.specs.Best.{IsBest}
use Rattle.ac_input.specs.Dictionary.{IsLive, whole}
use Rattle.ac_input.specs.Input.{Asked, is_anchored}
use Rattle.ac_input.specs.Occurrence.{Occurrence}
use Rattle.ac_input.specs.Tells.{Tells}
use Rattle.ac_input.proofs.lemmas.SomeLemmas.{live-some}
use Rattle.ac_automaton.specs.declared.automaton.Automaton.{Ghosts}
use Rattle.ac_automaton.specs.declared.in_memory.find.cursor.Cursor.{Cursor}
use Rattle.ac_automaton.specs.declared.in_memory.find.cursor.End.TheVariants.{Found, Idle}
use Rattle.ac_automaton.specs.Automaton.{kind_asked}
use Rattle.ac_automaton.specs.InMemory.Find.Cursor.{HasNoneYet, IsTaken, ReadsFurther, StandsIn}
use Rattle.ac_automaton.specs.InMemory.Find.{IsWalkCost, WalkLooks, WalkSays}
use Rattle.ac_automaton.proofs.lemmas.CursorLemmas.{part-empty}
use Rattle.ac_automaton.proofs.lemmas.WalkLemmas.{HasTold, HasReadText, read, told-best, walked-none}
use Rattle.ac_automaton.proofs.lemmas.WalkEndLemmas.{IsDone, answer-looks, answer-says, answer-work, back-says, back-work, unshifted-none, walked-on}

-- the rest of the span, from where the walk began
abbrev pub rest : Asked → Cursor → Span
rest asked cursor = record { start = cursor.from; end = asked.span.end }

-- the text that the walk has read
abbrev pub text_read : Asked → Cursor → List ℕ
text_read asked cursor = read asked.haystack (rest asked cursor) cursor.at

module _ {S : Type 0} (A : Ghosts S) (a : S) (asked : Asked) where
  -- Before the state's match is taken: the best of the matches that ended earlier.
  pub record Walks (at : ℕ) (cursor : Cursor) (best : Option Occurrence) (x y : Steps) : Type 0 where
    pub stands : StandsIn (A.built a) (A.Reaches a) asked cursor
    pub begun : cursor.from ≡ at
    pub walked : HasReadText (A.built a).dictionary asked.anchored asked.earliest (A.built a).deterministic
        asked.haystack (rest asked cursor) cursor.at best x y

  -- After the state's match is taken: the best match of the bytes read, and what of them is live.
  pub record HasAsked (at : ℕ) (cursor : Cursor) (best : Option Occurrence) (x y : Steps) : Type 0 where
    pub stands : StandsIn (A.built a) (A.Reaches a) asked cursor
    pub begun : cursor.from ≡ at
    pub told : HasTold (A.built a).dictionary asked.anchored asked.earliest (A.built a).deterministic asked.haystack
        (rest asked cursor) cursor.at best x y

-- at first the walk has read nothing
pub walks-first : {S : Type 0} (A : Ghosts S) (a : S) (asked : Asked) (at : ℕ) (start : StateID) (x : Steps)
    → A.Reaches a asked.anchored [] start → asked.span.start ≤ at → at ≤ asked.span.end
    → asked.span.end ≤ length asked.haystack
    → Walks A a asked at (record { sid = start; from = at; at = at }) None x x
walks-first A a asked at start x starts from to inside = record {
  stands = record {
    behind = from;
    ordered = omega arith;
    within = to;
    inside = inside;
    reads = subst (λ text. A.Reaches a asked.anchored text start) (sym (part-empty asked.haystack at)) starts;
  };
  begun = refl;
  walked = walked-none to;
}

-- the walk takes the match of its state
pub asks : {S : Type 0} (A : Ghosts S) (a : S) (asked : Asked) (at : ℕ) (cursor : Cursor)
    (best new all : Option Occurrence) (x y : Steps)
    → ((text : List ℕ) (state : StateID) → A.Reaches a asked.anchored text state
    → Tells (A.built a).dictionary asked.anchored text (A.matches a state))
    → Walks A a asked at cursor best x y → IsTaken (A.built a) (A.matches a) asked cursor new → all ≡ option_or new best
    → HasAsked A a asked at cursor all x y
asks A a asked at cursor best new all x y tells walks taken or =
    let text = text_read asked cursor in
    let reads = walks.stands.reads in
    record {
      stands = walks.stands;
      begun = walks.begun;
      told = told-best (A.matches a cursor.sid)
          walks.stands.inside walks.walked (tells text cursor.sid reads) taken or;
    }

-- where the walk has no match, nothing occurs in what it has read
pub asked-none : {S : Type 0} {A : Ghosts S} {a : S} {asked : Asked} {at : ℕ} {cursor : Cursor}
    {best : Option Occurrence} {x y : Steps} → HasAsked A a asked at cursor best x y → asked.anchored ≡ No
    → best ≡ None → HasNoneYet (A.built a) asked cursor
asked-none {A} {a} {asked} {cursor} has free none =
    let m = (A.built a).dictionary in
    let text = text_read asked cursor in
    let nothing : IsBest m.kind (whole m text (is_anchored asked.anchored)) None =
    subst (λ r. IsBest (kind_asked (A.built a) asked) (whole m text (is_anchored asked.anchored)) r)
    (unshifted-none cursor.from has.told.found (sym has.told.kept ∙ none)) has.told.told in
    subst (λ k. IsBest m.kind (whole m text (is_anchored k)) None) free nothing

-- where the walk is over, its best match is the result
pub asked-says : {S : Type 0} {A : Ghosts S} {a : S} {asked : Asked} {at : ℕ} {cursor : Cursor}
    {best : Option Occurrence} {x y : Steps} → HasAsked A a asked at cursor best x y
    → IsDone (A.built a).dictionary asked.anchored (kind_asked (A.built a) asked) asked.haystack (rest asked cursor)
    cursor.at best → WalkSays (A.built a) asked at (Found best)
asked-says {A} {a} {asked} {cursor} {best} {x} {y} has done =
    let b = A.built a in
    subst (λ n. WalkSays b asked n (Found best)) has.begun
    (answer-says has.stands.inside has.told done)

-- the cost of a walk that is over
pub asked-work : {S : Type 0} {A : Ghosts S} {a : S} {asked : Asked} {at : ℕ} {cursor : Cursor}
    {best : Option Occurrence} {x y : Steps} → HasAsked A a asked at cursor best x y
    → IsWalkCost (A.built a) asked at (Found best) x y
asked-work {A} {a} {asked} {cursor} {best} {x} {y} has =
    let b = A.built a in
    subst (λ n. IsWalkCost b asked n (Found best) x y) has.begun
    (answer-work has.stands.inside has.told)

-- a walk that is over has looked at a state for each byte that it passed
pub asked-looks : {S : Type 0} {A : Ghosts S} {a : S} {asked : Asked} {at : ℕ} {cursor : Cursor}
    {best : Option Occurrence} {x y : Steps} → HasAsked A a asked at cursor best x y
    → IsDone (A.built a).dictionary asked.anchored (kind_asked (A.built a) asked) asked.haystack (rest asked cursor)
    cursor.at best → WalkLooks (A.built a) asked at (Found best) x y
asked-looks {A} {a} {asked} {cursor} {best} {x} {y} has done =
    let b = A.built a in
    subst (λ n. WalkLooks b asked n (Found best) x y) has.begun
    (answer-looks has.stands.inside has.told done)

-- a walk that is back at the start has looked at a state for each byte that it passed
pub back-looks : {S : Type 0} {A : Ghosts S} {a : S} {asked : Asked} {at : ℕ} {cursor : Cursor}
    {best : Option Occurrence} {x y : Steps} → HasAsked A a asked at cursor best x y
    → WalkLooks (A.built a) asked at (Idle cursor.at) x y
back-looks {A} {a} {asked} {cursor} {x} {y} has =
    let live = live-some in
    let some = (has.told.work live.0 live.1).some in
    subst (λ n. WalkLooks (A.built a) asked n (Idle cursor.at) x y) has.begun some

-- What a walk reports when it is back at the start, and what it costs.
pub asked-back : {S : Type 0} {A : Ghosts S} {a : S} {asked : Asked} {at : ℕ} {cursor : Cursor}
    {best : Option Occurrence} {x y : Steps} → HasAsked A a asked at cursor best x y
    → asked.anchored ≡ No → best ≡ None → at < cursor.at
    → IsLive (A.built a).dictionary (is_anchored asked.anchored) (text_read asked cursor)
    (Some (length (text_read asked cursor)))
    → WalkSays (A.built a) asked at (Idle cursor.at) × IsWalkCost (A.built a) asked at (Idle cursor.at) x y
asked-back {A} {a} {asked} {cursor} {best} {x} {y} has free none further live =
    let b = A.built a in
    let begun = has.begun in (
      subst (λ n. WalkSays b asked n (Idle cursor.at)) begun
          (back-says has.stands.inside has.told free none (omega arith) live),
      subst (λ n. IsWalkCost b asked n (Idle cursor.at) x y) begun
          (back-work has.told),
    )

-- the walk reads on to the next special state
pub asked-on : {S : Type 0} {A : Ghosts S} {a : S} {asked : Asked} {at : ℕ} {cursor : Cursor} (next : Cursor)
    {best : Option Occurrence} {x y : Steps} (z : Steps) → HasAsked A a asked at cursor best x y
    → (kind_asked (A.built a) asked ≡ Standard → best ≡ None)
    → ((from : ℕ) × IsLive (A.built a).dictionary (is_anchored asked.anchored) (text_read asked cursor) (Some from))
    → StandsIn (A.built a) (A.Reaches a) asked next → next.from ≡ cursor.from
    → ReadsFurther (A.built a) asked cursor next y z → Walks A a asked at next best x z
asked-on {A} {a} {asked} {cursor} next {best} {x} {y} z has open_ alive stands same on =
    let b = A.built a in
    record {
      stands = stands;
      begun = same ∙ has.begun;
      walked =
          subst (λ n. HasReadText b.dictionary asked.anchored asked.earliest b.deterministic asked.haystack
          (record { start = n; end = asked.span.end }) next.at best x z) (sym same)
          (walked-on b.dictionary asked.anchored asked.earliest b.deterministic asked.haystack (rest asked cursor)
          cursor.at next.at best x y z has.stands.inside has.told open_ alive on.further stands.within on.quiet
          on.lookups);
    }
