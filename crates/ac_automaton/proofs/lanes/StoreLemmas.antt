-- What storing a note does to the notes of each lane.
use Rattle.std.proofs.Common.{◌≡◌, ⊎_elim, inl, inr, ℕ, ◌+◌, ◌-◌, ◌<◌, ◌≤◌, List, [], ◌∷◌, ◌++◌, length, take, drop, Option, sym, ap, subst, refl, ◌∙◌, arith, length-drop, length-set}
use Rattle.std.specs.Prelude.{◌⊎◌, slice_set}
use Rattle.std.specs.List.{All}
use Rattle.std.proofs.lemmas.List.{drop-set-add, drop-set-lt, take-set-le, take_more_set}
use Rattle.std.proofs.lemmas.List.Elements.{All-push, All-weaker}
use Rattle.ac_input.specs.Number.{StateID}
use Rattle.ac_automaton.specs.Ahead.{EachLane, EachPair, HasNoted, HasStored, HaveOwnNotes, ComesTo, NoByte, IsNote, StoresIf, TakesBy, lane_notes, note_of, noted_len, onward}
use Rattle.ac_automaton.specs.declared.ahead.Note.{Note}
use Rattle.ac_automaton.specs.declared.lanes.Lane.{Lane}
use Rattle.ac_automaton.specs.declared.lanes.Lanes.{Lanes}
use Rattle.ac_automaton.proofs.lanes.ChainLemmas.{takes-append}

-- ---- lists of notes

-- a note more covers its bytes too
pub noted_len-append : (notes more : List Note) → noted_len (notes ++ more) ≡ noted_len notes + noted_len more
noted_len-append [] more = let e : 0 + noted_len more ≡ noted_len more = omega arith in sym e
noted_len-append (note ∷ notes) more = let e = noted_len-append notes more in omega (arith, e)

-- a note that is stored just after those of a part comes after them
part-push : (notes : List Note) (from at : ℕ) (note : Note) → from ≤ at → at < length notes
    → take (at + 1 - from) (drop from (slice_set notes at note)) ≡ take (at - from) (drop from notes) ++ note ∷ []
part-push notes from at note ordered within =
    let n : ℕ = at - from in
    let there : at ≡ from + n = omega (arith, ordered) in
    let more : at + 1 - from ≡ n + 1 = omega (arith, ordered) in
    let left = length-drop from notes in
    let size : n < length (drop from notes) = omega (arith, left, ordered, within) in
    ap (λ k. take k (drop from (slice_set notes at note))) more
    ∙ ap (λ k. take (n + 1) (drop from (slice_set notes k note))) there
    ∙ ap (λ l. take (n + 1) l) (drop-set-add from notes n note)
    ∙ take_more_set (drop from notes) n note size

-- one that is stored before or after them leaves them as they are
part-same : (notes : List Note) (from n at : ℕ) (note : Note) → (from + n ≤ at) ⊎ (at < from)
    → take n (drop from (slice_set notes at note)) ≡ take n (drop from notes)
part-same notes from n at note where' = ⊎_elim
    (λ (past : from + n ≤ at).
    let k : ℕ = at - from in
    let there : at ≡ from + k = omega (arith, past) in
    let le : n ≤ k = omega (arith, past) in
    ap (λ j. take n (drop from (slice_set notes j note))) there
    ∙ ap (λ l. take n l) (drop-set-add from notes k note)
    ∙ take-set-le n (drop from notes) k note le)
    (λ (before : at < from). ap (λ l. take n l) (drop-set-lt from notes at note before))
    where'

-- storing keeps the number of places
pub length-stores : {P : Type 0} {next : StateID} {old new : List Note} {before after : Lane}
    → StoresIf P next old new before after → length new ≡ length old
length-stores {P} {old} {before} s = ⊎_elim
    (λ (p : P). ap length (s.stores p).notes ∙ length-set old before.slot (note_of before))
    (λ (none : ¬ P). ap length (s.keeps none).0)
    s.either

-- one lane after another stores a note, if a condition holds of it, and goes on from a state
pub record StoreInTurn (P : Lane → Type 0) (next : Lane → StateID) (n0 n1 n2 n3 n4 : List Note)
    (lanes after : Lanes) : Type 0 where
  pub a : StoresIf (P lanes.a) (next lanes.a) n0 n1 lanes.a after.a
  pub b : StoresIf (P lanes.b) (next lanes.b) n1 n2 lanes.b after.b
  pub c : StoresIf (P lanes.c) (next lanes.c) n2 n3 lanes.c after.c
  pub d : StoresIf (P lanes.d) (next lanes.d) n3 n4 lanes.d after.d

module _ (Reaches : List ℕ → StateID → Type 0) (matches : StateID → List ℕ) (anew : Option StateID) (sure : Type 0)
    (bytes : List ℕ) where
  -- what a lane needs to store a note and go on from a state
  pub record MayStore (next : StateID) (size : ℕ) (lane : Lane) : Type 0 where
    pub room : lane.slot < lane.slots
    pub own : lane.slots ≤ size
    pub some : lane.from < lane.at
    pub is : IsNote Reaches matches bytes (note_of lane)
    pub on : sure → next ≡ onward matches anew lane.sid

  -- the note of what a lane has read comes next
  next-taken : (lane : Lane) → ComesTo NoByte bytes lane.from lane.first (note_of lane)
  next-taken lane = record { later = omega arith; here = λ e. refl; freed = λ lt. absurd (omega (arith, lt)) }

  -- a lane stores a note
  lane-stored : (next : StateID) (old new : List Note) (begun before after : Lane) → HasStored next old new before after
      → MayStore next (length old) before → HasNoted Reaches matches anew sure bytes old begun before
      → HasNoted Reaches matches anew sure bytes new begun after
  lane-stored next old new begun before after stored may noted =
      let ns = lane_notes old begun before in
      let note = note_of before in
      let slots = noted.slots in
      let order : begun.slot ≤ before.slot = slots.0 in
      let same : before.slots ≡ begun.slots = slots.2 in
      let room = may.room in
      let own = may.own in
      let some = may.some in
      let covered = noted.covered in
      let end = noted.end in
      let within : before.slot < length old = omega (arith, room, own) in
      let list : lane_notes (slice_set old before.slot note) begun
      (record before { from = before.at; first = next; sid = next; slot = before.slot + 1 }) ≡ ns ++ note ∷ [] =
      part-push old begun.slot before.slot note order within in
      let InLane = λ (to : ℕ) (n : Note). (begun.from ≤ n.from) × (n.from + n.len ≤ to) in
      let len = noted_len-append ns (note ∷ []) in
      let all : note.from + note.len ≡ before.at = omega (arith, some) in
      subst (λ l. HasNoted Reaches matches anew sure bytes l begun after) (sym stored.notes)
      (subst (HasNoted Reaches matches anew sure bytes (slice_set old before.slot note) begun) (sym stored.lane)
      (record {
        slots = (omega (arith, order), omega (arith, room), same);
        end = end;
        covered = let e = ap noted_len list in omega (arith, e, len, covered, some);
        are = subst (All (IsNote Reaches matches bytes)) (sym list)
            (All-push (IsNote Reaches matches bytes) ns note noted.are may.is);
        within = subst (All (InLane before.at)) (sym list)
            (All-push (InLane before.at) ns note
            (All-weaker (InLane before.from) (InLane before.at)
            (λ n w. let past = w.1 in (w.0, omega (arith, past, some))) ns noted.within)
            (omega (arith, covered), omega (arith, some)));
        taken = λ s. subst (λ l. TakesBy NoByte matches anew bytes begun.from begun.first l before.at next) (sym list)
            (takes-append NoByte matches anew bytes begun.from begun.first ns (note ∷ []) before.from before.first
            before.at next (noted.taken s)
            (next-taken before, (sym all, may.on s)));
        full = λ f. refl;
      }))

  -- what a lane has noted depends on its own notes only
  noted-same : (old new : List Note) (begun lane : Lane) → lane_notes new begun lane ≡ lane_notes old begun lane
      → HasNoted Reaches matches anew sure bytes old begun lane
      → HasNoted Reaches matches anew sure bytes new begun lane
  noted-same old new begun lane same noted = record {
    slots = noted.slots;
    end = noted.end;
    covered = subst (λ l. begun.from + noted_len l ≡ lane.from) (sym same) noted.covered;
    are = subst (All (IsNote Reaches matches bytes)) (sym same) noted.are;
    within =
        subst (All (λ note. (begun.from ≤ note.from) × (note.from + note.len ≤ lane.from))) (sym same) noted.within;
    taken = λ s. subst (λ l. TakesBy NoByte matches anew bytes begun.from begun.first l lane.from lane.first) (sym same)
        (noted.taken s);
    full = noted.full;
  }

  -- a lane stores a note, or doesn't
  own : (P : Type 0) (next : StateID) (old new : List Note) (begun before after : Lane)
      → StoresIf P next old new before after → (P → MayStore next (length old) before)
      → HasNoted Reaches matches anew sure bytes old begun before
      → HasNoted Reaches matches anew sure bytes new begun after
  own P next old new begun before after s may noted = ⊎_elim
      (λ (p : P). lane-stored next old new begun before after (s.stores p) (may p) noted)
      (λ (none : ¬ P). let k = s.keeps none in
      subst (λ l. HasNoted Reaches matches anew sure bytes l begun after) (sym k.0)
      (subst (HasNoted Reaches matches anew sure bytes old begun) (sym k.1) noted))
      s.either

  -- another lane stores a note, or doesn't
  other : (P : Type 0) (next : StateID) (old new : List Note) (before after begun lane : Lane)
      → StoresIf P next old new before after → (P → (lane.slot ≤ before.slot) ⊎ (before.slot < begun.slot))
      → HasNoted Reaches matches anew sure bytes old begun lane
      → HasNoted Reaches matches anew sure bytes new begun lane
  other P next old new before after begun lane s apart noted =
      let order : begun.slot ≤ lane.slot = noted.slots.0 in
      let n : ℕ = lane.slot - begun.slot in
      let there : begun.slot + n ≡ lane.slot = omega (arith, order) in
      ⊎_elim
      (λ (p : P). noted-same old new begun lane
      (ap (λ l. lane_notes l begun lane) (s.stores p).notes
      ∙ part-same old begun.slot n before.slot (note_of before)
      (⊎_elim (λ (past : lane.slot ≤ before.slot). inl (omega (arith, past, there)))
      (λ (lt : before.slot < begun.slot). inr lt) (apart p)))
      noted)
      (λ (none : ¬ P). subst (λ l. HasNoted Reaches matches anew sure bytes l begun lane) (sym (s.keeps none).0) noted)
      s.either

  -- the number of places is the same
  resize : (next : StateID) (n m : ℕ) (lane : Lane) → m ≡ n → MayStore next n lane → MayStore next m lane
  resize next n m lane same may = subst (λ k. MayStore next k lane) (sym same) may

  -- the four lanes store notes, one after another
  pub all-noted : (P : Lane → Type 0) (next : Lane → StateID) (n0 n1 n2 n3 n4 : List Note) (begun lanes after : Lanes)
      → HaveOwnNotes begun → EachLane (λ lane. P lane → MayStore (next lane) (length n0) lane) lanes
      → StoreInTurn P next n0 n1 n2 n3 n4 lanes after
      → EachPair (HasNoted Reaches matches anew sure bytes n0) begun lanes
      → EachPair (HasNoted Reaches matches anew sure bytes n4) begun after
  all-noted P next n0 n1 n2 n3 n4 begun lanes after apart may stored noted =
      let sa = stored.a in let sb = stored.b in let sc = stored.c in let sd = stored.d in
      let ab : begun.a.slots ≤ begun.b.slot = apart.0 in
      let bc : begun.b.slots ≤ begun.c.slot = apart.1 in
      let cd : begun.c.slots ≤ begun.d.slot = apart.2 in
      let a0 = noted.a.slots in let b0 = noted.b.slots in let c0 = noted.c.slots in let d0 = noted.d.slots in
      let one = length-stores sa in
      let two = length-stores sb in
      let three = length-stores sc in
      let at_a = other (P lanes.a) (next lanes.a) n0 n1 lanes.a after.a in
      let at_b = other (P lanes.b) (next lanes.b) n1 n2 lanes.b after.b in
      let at_c = other (P lanes.c) (next lanes.c) n2 n3 lanes.c after.c in
      let at_d = other (P lanes.d) (next lanes.d) n3 n4 lanes.d after.d in
      let a1 = own (P lanes.a) (next lanes.a) n0 n1 begun.a lanes.a after.a sa may.a noted.a in
      let b1 = at_a begun.b lanes.b sa (λ p. let r = (may.a p).room in inr (omega (arith, r, a0.2, ab))) noted.b in
      let c1 =
      at_a begun.c lanes.c sa (λ p. let r = (may.a p).room in inr (omega (arith, r, a0.2, ab, b0.0, b0.1, b0.2, bc)))
      noted.c in
      let d1 =
      at_a begun.d lanes.d sa
      (λ p. let r = (may.a p).room in inr (omega (arith, r, a0.2, ab, b0.0, b0.1, b0.2, bc, c0.0, c0.1, c0.2, cd)))
      noted.d in
      let a1s = a1.slots in
      let a2 = at_b begun.a after.a sb (λ p. inl (omega (arith, a1s.1, a1s.2, ab, b0.0))) a1 in
      let b2 = own (P lanes.b) (next lanes.b) n1 n2 begun.b lanes.b after.b sb
      (λ p. resize (next lanes.b) (length n0) (length n1) lanes.b one (may.b p)) b1 in
      let c2 = at_b begun.c lanes.c sb (λ p. let r = (may.b p).room in inr (omega (arith, r, b0.2, bc))) c1 in
      let d2 =
      at_b begun.d lanes.d sb (λ p. let r = (may.b p).room in inr (omega (arith, r, b0.2, bc, c0.0, c0.1, c0.2, cd)))
      d1 in
      let b2s = b2.slots in
      let a3 = at_c begun.a after.a sc (λ p. inl (omega (arith, a1s.1, a1s.2, ab, b0.0, b0.1, b0.2, bc, c0.0))) a2 in
      let b3 = at_c begun.b after.b sc (λ p. inl (omega (arith, b2s.1, b2s.2, bc, c0.0))) b2 in
      let c3 = own (P lanes.c) (next lanes.c) n2 n3 begun.c lanes.c after.c sc
      (λ p. resize (next lanes.c) (length n0) (length n2) lanes.c (two ∙ one) (may.c p)) c2 in
      let d3 = at_c begun.d lanes.d sc (λ p. let r = (may.c p).room in inr (omega (arith, r, c0.2, cd))) d2 in
      let c3s = c3.slots in
      record {
        a = at_d begun.a after.a sd
            (λ p. inl (omega (arith, a1s.1, a1s.2, ab, b0.0, b0.1, b0.2, bc, c0.0, c0.1, c0.2, cd, d0.0))) a3;
        b = at_d begun.b after.b sd (λ p. inl (omega (arith, b2s.1, b2s.2, bc, c0.0, c0.1, c0.2, cd, d0.0))) b3;
        c = at_d begun.c after.c sd (λ p. inl (omega (arith, c3s.1, c3s.2, cd, d0.0))) c3;
        d = own (P lanes.d) (next lanes.d) n3 n4 begun.d lanes.d after.d sd
            (λ p. resize (next lanes.d) (length n0) (length n3) lanes.d (three ∙ two ∙ one) (may.d p)) d3;
      }
