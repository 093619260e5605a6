-- What a turn of the lanes keeps, and what their last notes cover.
use Rattle.std.proofs.Common.{◌≡◌, ⊎_elim, ℕ, ◌+◌, ◌-◌, ◌<◌, ◌≤◌, IsTrue, List, [], length, take, drop, Option, None, Some, sym, ap, subst, refl, ◌∙◌, arith}
use Rattle.std.specs.Prelude.{IfSome, unwrap_or}
use Rattle.std.specs.List.{All}
use Rattle.std.proofs.lemmas.Bool.{cases_lt}
use Rattle.std.proofs.lemmas.List.Elements.{All-nil}
use Rattle.ac_input.specs.Number.{StateID}
use Rattle.ac_input.specs.declared.steps.Steps.{Steps}
use Rattle.ac_automaton.specs.Ahead.{LaneBegins, EachLane, EachPair, HasGone, HasMore, HasNoted, HasWalked, HaveGone, HaveOwnNotes, HaveRead, HaveRoomFor, HaveWalked, IsNote, StoresIf, NoByte, TakesBy, is_up_to, lane_notes, noted_len}
use Rattle.ac_automaton.specs.Automaton.{IsReached, is_matching}
use Rattle.ac_automaton.specs.declared.ahead.Note.{Note}
use Rattle.ac_automaton.specs.declared.lanes.Lane.{Lane}
use Rattle.ac_automaton.specs.declared.lanes.Lanes.{Lanes}
use Rattle.ac_automaton.proofs.lanes.ChainLemmas.{onward-match, onward-quiet}
use Rattle.ac_automaton.proofs.lanes.CountLemmas.{read-join}
use Rattle.ac_automaton.proofs.lanes.LaneLemmas.{up_to-past, walked-none, walked-note, walked-on}
use Rattle.ac_automaton.proofs.lanes.StoreLemmas.{MayStore, all-noted, StoreInTurn}

-- ---- a lane that stores a note stands where it did

stays : (P : Type 0) (next : StateID) (old new : List Note) (before after : Lane)
    → StoresIf P next old new before after → (after.at ≡ before.at) × (after.end ≡ before.end)
stays P next old new before after s = ⊎_elim
    (λ (p : P). let e = (s.stores p).lane in (ap (λ l. l.at) e, ap (λ l. l.end) e))
    (λ (none : ¬ P). let e = (s.keeps none).1 in (ap (λ l. l.at) e, ap (λ l. l.end) e))
    s.either

-- so do all four
pub stay-all : {P : Lane → Type 0} {next : Lane → StateID} {n0 n1 n2 n3 n4 : List Note} {lanes after : Lanes}
    → StoreInTurn P next n0 n1 n2 n3 n4 lanes after
    → EachPair (λ one other. (other.at ≡ one.at) × (other.end ≡ one.end)) lanes after
stay-all stored = record {
  a = stays _ _ _ _ _ _ stored.a;
  b = stays _ _ _ _ _ _ stored.b;
  c = stays _ _ _ _ _ _ stored.c;
  d = stays _ _ _ _ _ _ stored.d;
}

-- so what the lanes have read is the same after it
pub stays-last : {begun before after : Lanes} {s t : Steps} → HaveRead begun before s t
    → EachPair (λ one other. (other.at ≡ one.at) × (other.end ≡ one.end)) before after → HaveRead begun after s t
stays-last one same =
    let each = one.each in
    record {
      read = one.read;
      each = record { a = same.a.0 ∙ each.a; b = same.b.0 ∙ each.b; c = same.c.0 ∙ each.c; d = same.d.0 ∙ each.d };
      counted = one.counted;
    }

-- and after they have read on before it
pub stays-read : {begun before gone after : Lanes} {s t u : Steps} → HaveRead begun before s t
    → HaveRead before gone t u → EachPair (λ one other. (other.at ≡ one.at) × (other.end ≡ one.end)) gone after
    → HaveRead begun after s u
stays-read one two same =
    stays-last (read-join one two) same

-- the state from which a lane goes on after a match is reached
next-reached : (Reaches : List ℕ → StateID → Type 0) (anew : Option StateID) (sid : StateID) → IfSome anew (Reaches [])
    → IsReached Reaches sid → IsReached Reaches (unwrap_or anew sid)
next-reached Reaches None sid begins reached = reached
next-reached Reaches (Some start) sid begins reached = ∣ ([], begins) ∣₁

-- a lane that begins has noted nothing
pub noted-none : (Reaches : List ℕ → StateID → Type 0) (matches : StateID → List ℕ) (anew : Option StateID)
    (sure : Type 0) (bytes : List ℕ) (notes : List Note) (size : ℕ) (lane : Lane)
    → LaneBegins lane.at lane.sid size lane → HasNoted Reaches matches anew sure bytes notes lane lane
noted-none Reaches matches anew sure bytes notes size lane begun =
    let none : lane.slot - lane.slot ≡ 0 = omega arith in
    let list : lane_notes notes lane lane ≡ [] = ap (λ k. take k (drop lane.slot notes)) none in
    let zero : lane.from + 0 ≡ lane.from = omega arith in
    let InLane = λ (n : Note). (lane.from ≤ n.from) × (n.from + n.len ≤ lane.from) in
    record {
      slots = (omega arith, begun.own.0, refl);
      end = refl;
      covered = ap (λ l. lane.from + noted_len l) list ∙ zero;
      are = subst (All (IsNote Reaches matches bytes)) (sym list) (All-nil (IsNote Reaches matches bytes));
      within = subst (All InLane) (sym list) (All-nil InLane);
      taken = λ s. subst (λ l. TakesBy NoByte matches anew bytes lane.from lane.first l lane.from lane.first) (sym list)
          (refl, refl);
      full = λ f. ap (λ l. l.from) begun.is;
    }

module _ (Reaches : List ℕ → StateID → Type 0) (matches : StateID → List ℕ) (anew : Option StateID) (sure : Type 0)
    (bytes : List ℕ) (last : StateID)
    (quiet : (sid : StateID) → last < sid → matches sid ≡ [])
    (some : sure → (sid : StateID) → IsReached Reaches sid → sid ≤ last → IsTrue (is_matching matches sid)) where
  -- ---- a turn of one lane

  -- a lane that has gone on to a match may store a note
  gone-may : (before gone : Lane) (size : ℕ) → HasWalked Reaches (is_up_to last) bytes before
      → HasGone Reaches (is_up_to last) bytes before gone → before.slot < before.slots → before.slots ≤ size
      → gone.sid ≤ last → MayStore Reaches matches anew sure bytes (unwrap_or anew gone.sid) size gone
  gone-may before gone size walked went room own stops =
      let ordered : before.from ≤ before.at = walked.to.ordered in
      let on : before.at < gone.at = went.on in
      let from : gone.from ≡ before.from = ap (λ l. l.from) went.same in
      let slot : gone.slot ≡ before.slot = ap (λ l. l.slot) went.same in
      let slots : gone.slots ≡ before.slots = ap (λ l. l.slots) went.same in
      record {
        room = omega (arith, room, slot, slots);
        own = omega (arith, own, slots);
        some = omega (arith, ordered, on, from);
        is = walked-note matches last quiet went.to (omega (arith, ordered, on, from));
        on = λ s. sym (onward-match matches anew gone.sid (some s gone.sid went.to.reached stops));
      }

  -- a lane that has gone on has noted what it had
  gone-noted : (notes : List Note) (begun before gone : Lane) → HasGone Reaches (is_up_to last) bytes before gone
      → before.slot < before.slots → HasNoted Reaches matches anew sure bytes notes begun before
      → HasNoted Reaches matches anew sure bytes notes begun gone
  gone-noted notes begun before gone went room noted =
      subst (HasNoted Reaches matches anew sure bytes notes begun) (sym went.same)
      (record {
        slots = noted.slots;
        end = noted.end;
        covered = noted.covered;
        are = noted.are;
        within = noted.within;
        taken = noted.taken;
        full = λ f. absurd (omega (arith, room, f));
      })

  -- after it has settled, it walks on
  settled-walked : (old new : List Note) (before gone after : Lane) → IfSome anew (Reaches [])
      → HasWalked Reaches (is_up_to last) bytes before → HasGone Reaches (is_up_to last) bytes before gone
      → StoresIf (gone.sid ≤ last) (unwrap_or anew gone.sid) old new gone after
      → HasWalked Reaches (is_up_to last) bytes after
  settled-walked old new before gone after begins walked went s =
      let end : gone.end ≡ before.end = ap (λ l. l.end) went.same in
      let inside : before.end ≤ length bytes = walked.inside.1 in
      let within : gone.end ≤ length bytes = omega (arith, end, inside) in
      ⊎_elim
      (λ (p : gone.sid ≤ last). subst (HasWalked Reaches (is_up_to last) bytes) (sym (s.stores p).lane)
      (walked-none Reaches (is_up_to last) bytes
      (record gone
      { from = gone.at; first = unwrap_or anew gone.sid; sid = unwrap_or anew gone.sid; slot = gone.slot + 1 })
      refl refl went.within within (next-reached Reaches anew gone.sid begins went.to.reached)))
      (λ (none : ¬ (gone.sid ≤ last)). subst (HasWalked Reaches (is_up_to last) bytes) (sym (s.keeps none).1)
      (walked-on Reaches bytes gone last went.to went.within within
      (⊎_elim (λ (lt : last < gone.sid). lt) (λ (le : gone.sid ≤ last). absurd (none le)) (cases_lt last gone.sid))))
      s.either

  -- ---- the last note of one lane

  -- a lane that has read something since its last note, and has a note left, may store one
  last-may : (lane : Lane) (size : ℕ) → HasWalked Reaches (is_up_to last) bytes lane → lane.slots ≤ size → HasMore lane
      → MayStore Reaches matches anew sure bytes lane.sid size lane
  last-may lane size walked own p = record {
    room = p.1;
    own = own;
    some = p.0;
    is = walked-note matches last quiet walked.to p.0;
    on = λ s. sym (onward-quiet matches anew (quiet lane.sid (up_to-past last lane.sid (walked.quiet p.0))));
  }

  -- after it nothing is left to be noted
  pub last-all : (old new : List Note) (lane after : Lane) → HasWalked Reaches (is_up_to last) bytes lane
      → (lane.slots ≤ lane.slot → lane.from ≡ lane.at) → StoresIf (HasMore lane) lane.sid old new lane after
      → (after.from ≡ after.at) × (after.at ≤ after.end)
  last-all old new lane after walked full s =
      let ordered : lane.from ≤ lane.at = walked.to.ordered in
      let within : lane.at ≤ lane.end = walked.inside.0 in
      ⊎_elim
      (λ (p : HasMore lane). subst (λ l. (l.from ≡ l.at) × (l.at ≤ l.end)) (sym (s.stores p).lane) (refl, within))
      (λ (none : ¬ HasMore lane). subst (λ l. (l.from ≡ l.at) × (l.at ≤ l.end)) (sym (s.keeps none).1) (
        ⊎_elim
            (λ (some : lane.from < lane.at).
            ⊎_elim (λ (room : lane.slot < lane.slots). absurd (none (some, room))) full (cases_lt lane.slot lane.slots))
            (λ (le : lane.at ≤ lane.from). omega (arith, le, ordered))
            (cases_lt lane.from lane.at),
        within,
      ))
      s.either

  -- ---- all four

  -- each lane's part of the notes stays where it was
  pub own-places : (begun lanes : Lanes) (old new : List Note)
      → EachLane (λ lane. LaneBegins lane.at lane.sid (length old) lane) begun
      → EachPair (HasNoted Reaches matches anew sure bytes new) begun lanes → length new ≡ length old
      → EachLane (λ lane. lane.slots ≤ length new) lanes
  own-places begun lanes old new begins noted same = record {
    a = omega (arith, begins.a.own.1, noted.a.slots.2, same);
    b = omega (arith, begins.b.own.1, noted.b.slots.2, same);
    c = omega (arith, begins.c.own.1, noted.c.slots.2, same);
    d = omega (arith, begins.d.own.1, noted.d.slots.2, same);
  }

  module _ (begun lanes after : Lanes) (n0 n1 n2 n3 n4 : List Note) (apart : HaveOwnNotes begun)
      (own : EachLane (λ lane. lane.slots ≤ length n0) lanes) (walked : HaveWalked Reaches (is_up_to last) bytes lanes)
      (noted : EachPair (HasNoted Reaches matches anew sure bytes n0) begun lanes) where
    -- the lanes have gone on, and settle
    pub turn-noted : (gone : Lanes) (len : ℕ) → 0 < len → HaveRoomFor len lanes
        → HaveGone Reaches (is_up_to last) bytes lanes gone
        → StoreInTurn (λ lane. lane.sid ≤ last) (λ lane. unwrap_or anew lane.sid) n0 n1 n2 n3 n4 gone after
        → EachPair (HasNoted Reaches matches anew sure bytes n4) begun after
    turn-noted gone len left_some left went stored =
        all-noted Reaches matches anew sure bytes (λ lane. lane.sid ≤ last) (λ lane. unwrap_or anew lane.sid) n0 n1 n2
        n3 n4 begun gone after apart
        (record {
          a = gone-may lanes.a gone.a (length n0) walked.a went.a (left.a left_some).0 own.a;
          b = gone-may lanes.b gone.b (length n0) walked.b went.b (left.b left_some).0 own.b;
          c = gone-may lanes.c gone.c (length n0) walked.c went.c (left.c left_some).0 own.c;
          d = gone-may lanes.d gone.d (length n0) walked.d went.d (left.d left_some).0 own.d;
        })
        stored
        (record {
          a = gone-noted n0 begun.a lanes.a gone.a went.a (left.a left_some).0 noted.a;
          b = gone-noted n0 begun.b lanes.b gone.b went.b (left.b left_some).0 noted.b;
          c = gone-noted n0 begun.c lanes.c gone.c went.c (left.c left_some).0 noted.c;
          d = gone-noted n0 begun.d lanes.d gone.d went.d (left.d left_some).0 noted.d;
        })

    -- they walk on
    pub turn-walked : (gone : Lanes) → IfSome anew (Reaches []) → HaveGone Reaches (is_up_to last) bytes lanes gone
        → StoreInTurn (λ lane. lane.sid ≤ last) (λ lane. unwrap_or anew lane.sid) n0 n1 n2 n3 n4 gone after
        → HaveWalked Reaches (is_up_to last) bytes after
    turn-walked gone begins went stored = record {
      a = settled-walked n0 n1 lanes.a gone.a after.a begins walked.a went.a stored.a;
      b = settled-walked n1 n2 lanes.b gone.b after.b begins walked.b went.b stored.b;
      c = settled-walked n2 n3 lanes.c gone.c after.c begins walked.c went.c stored.c;
      d = settled-walked n3 n4 lanes.d gone.d after.d begins walked.d went.d stored.d;
    }

    -- they store their last notes
    pub last-noted : StoreInTurn HasMore (λ lane. lane.sid) n0 n1 n2 n3 n4 lanes after
        → EachPair (HasNoted Reaches matches anew sure bytes n4) begun after
    last-noted stored =
        all-noted Reaches matches anew sure bytes HasMore (λ lane. lane.sid) n0 n1 n2 n3 n4 begun lanes after apart
        (record {
          a = last-may lanes.a (length n0) walked.a own.a;
          b = last-may lanes.b (length n0) walked.b own.b;
          c = last-may lanes.c (length n0) walked.c own.c;
          d = last-may lanes.d (length n0) walked.d own.d;
        })
        stored noted
