-- What a lane has read, and the note that it makes of it.
use Rattle.std.proofs.Common.{◌≡◌, ⊎_elim, ℕ, suc, ◌+◌, ◌-◌, ◌<◌, ◌≤◌, Bool, IsTrue, List, [], ◌∷◌, ◌++◌, length, take, drop, get_or, sym, ap, subst, refl, ◌∙◌, arith, length-drop}
use Rattle.std.specs.Prelude.{slice_get, Some}
use Rattle.std.proofs.lemmas.Bool.{cases_lt, false≢true, le-leb, leb-true}
use Rattle.std.proofs.lemmas.List.{append_assoc, get_or-drop}
use Rattle.std.proofs.lemmas.Option.{slice_get-get_or}
use Rattle.ac_input.specs.Number.{StateID}
use Rattle.ac_automaton.specs.Ahead.{LaneBegins, HasGone, HasWalked, IsNote, WalkedTo, is_up_to, lane_from, note_of}
use Rattle.ac_automaton.specs.Automaton.{IsReached, Leads, PassesPlain, has_some, is_matching}
use Rattle.ac_automaton.specs.declared.lanes.Lane.{Lane}
use Rattle.ac_automaton.proofs.lemmas.CursorLemmas.{leads-none, reached-on, take-more}

-- ---- how far a lane has read

-- a lane that has read nothing since its last note
pub walked-none : (Reaches : List ℕ → StateID → Type 0) (stops : StateID → Bool) (bytes : List ℕ) (lane : Lane)
    → lane.from ≡ lane.at → lane.first ≡ lane.sid → lane.at ≤ lane.end → lane.end ≤ length bytes
    → IsReached Reaches lane.sid → HasWalked Reaches stops bytes lane
walked-none Reaches stops bytes lane here same ordered inside reached =
    let none : lane.at - lane.from ≡ 0 = omega (arith, here) in
    record {
      to = record {
        ordered = omega (arith, here);
        within = omega (arith, ordered, inside);
        begins = subst (IsReached Reaches) (sym same) reached;
        reads = subst (λ n. Leads Reaches lane.first (take n (drop lane.from bytes)) lane.sid) (sym none)
            (subst (λ i. Leads Reaches lane.first [] i) same (leads-none Reaches lane.first));
        plain = λ at some less. absurd (omega (arith, none, some, less));
        reached = reached;
      };
      quiet = λ lt. absurd (omega (arith, here, lt));
      inside = (ordered, inside);
    }

-- a lane that begins has read nothing
pub walked-begun : (Reaches : List ℕ → StateID → Type 0) (stops : StateID → Bool) (bytes : List ℕ) {at : ℕ}
    {sid : StateID} {slots : ℕ} {lane : Lane} → LaneBegins at sid slots lane → lane.end ≤ length bytes
    → IsReached Reaches sid → HasWalked Reaches stops bytes lane
walked-begun Reaches stops bytes {at} {sid} {lane} begun inside reached =
    let some : at ≤ lane.end = begun.some in
    subst (HasWalked Reaches stops bytes) (sym begun.is)
    (walked-none Reaches stops bytes (lane_from at sid lane.end lane.slot lane.slots) refl refl some inside reached)

-- a lane reads one byte more
pub walked-byte : {Reaches : List ℕ → StateID → Type 0} {stops : StateID → Bool} {bytes : List ℕ} {before : Lane}
    (after : Lane) → HasWalked Reaches stops bytes before → before.at < length bytes
    → Leads Reaches before.sid (get_or bytes before.at 0 ∷ []) after.sid
    → after.from ≡ before.from → after.first ≡ before.first → after.at ≡ before.at + 1
    → WalkedTo Reaches stops bytes after
walked-byte {Reaches} {stops} {bytes} {before} after walked within leads from first at =
    let to = walked.to in
    let ordered = to.ordered in
    let n : ℕ = before.at - before.from in
    let xs = drop before.from bytes in
    let byte = get_or bytes before.at 0 in
    let left = length-drop before.from bytes in
    let there : before.from + n ≡ before.at = omega (arith, ordered) in
    let size : n < length xs = omega (arith, left, ordered, within) in
    let same : get_or xs n 0 ≡ byte = get_or-drop before.from bytes n 0 ∙ ap (λ k. get_or bytes k 0) there in
    let is : slice_get xs n ≡ Some byte = slice_get-get_or xs n 0 size ∙ ap (λ x. Some x) same in
    let more : take (suc n) xs ≡ take n xs ++ byte ∷ [] = take-more xs n byte is in
    let longer : after.at - after.from ≡ suc n = omega (arith, ordered, from, at) in
    let reads : Leads Reaches before.first (take (suc n) xs) after.sid = λ text r.
    subst (λ l. Reaches l after.sid) (append_assoc text (take n xs) (byte ∷ []) ∙ ap (λ l. text ++ l) (sym more))
    (leads (text ++ take n xs) (to.reads text r)) in
    let plain : PassesPlain Reaches stops before.first xs (suc n) = λ k some less. ⊎_elim
    (λ (sooner : k < n). to.plain k some sooner)
    (λ (here : n ≤ k). let e : n ≡ k = omega (arith, here, less) in
    subst (λ i. (mid : StateID) × Leads Reaches before.first (take i xs) mid × ¬ IsTrue (stops mid)) e
    (before.sid, to.reads, walked.quiet (omega (arith, ordered, e, some))))
    (cases_lt k n) in
    record {
      ordered = omega (arith, ordered, from, at);
      within = omega (arith, within, at);
      begins = subst (IsReached Reaches) (sym first) to.begins;
      reads = subst (λ m. Leads Reaches after.first (take m (drop after.from bytes)) after.sid) (sym longer)
          (subst (λ i. Leads Reaches i (take (suc n) (drop after.from bytes)) after.sid) (sym first)
          (subst (λ k. Leads Reaches before.first (take (suc n) (drop k bytes)) after.sid) (sym from) reads));
      plain = subst (λ m. PassesPlain Reaches stops after.first (drop after.from bytes) m) (sym longer)
          (subst (λ i. PassesPlain Reaches stops i (drop after.from bytes) (suc n)) (sym first)
          (subst (λ k. PassesPlain Reaches stops before.first (drop k bytes) (suc n)) (sym from) plain));
      reached = reached-on Reaches before.sid (byte ∷ []) after.sid to.reached leads;
    }

-- no state past the last one is up to it
pub not-up_to : (last sid : StateID) → last < sid → ¬ IsTrue (is_up_to last sid)
not-up_to last sid past e = let le = leb-true sid last e in omega (arith, le, past)

-- a lane that stands past the last state goes on
pub walked-on : (Reaches : List ℕ → StateID → Type 0) (bytes : List ℕ) (lane : Lane) (last : StateID)
    → WalkedTo Reaches (is_up_to last) bytes lane → lane.at ≤ lane.end → lane.end ≤ length bytes → last < lane.sid
    → HasWalked Reaches (is_up_to last) bytes lane
walked-on Reaches bytes lane last to ordered inside past =
    record { to = to; quiet = λ _. not-up_to last lane.sid past; inside = (ordered, inside) }

-- ---- a turn of one lane

module _ (Reaches : List ℕ → StateID → Type 0) (bytes : List ℕ) (last : StateID) (lane : Lane) where
  -- the lane after it has read this many bytes of a turn
  abbrev pub after : ℕ → StateID → Lane
  after read sid = record lane { at = lane.at + read; sid = sid }

  -- before the first byte
  pub turn-none : HasWalked Reaches (is_up_to last) bytes lane
      → HasWalked Reaches (is_up_to last) bytes (after 0 lane.sid)
  turn-none walked =
      let e : lane.at + 0 ≡ lane.at = omega arith in
      subst (λ n. HasWalked Reaches (is_up_to last) bytes (record lane { at = n; sid = lane.sid })) (sym e) walked

  -- the lane reads one byte more
  turn-byte : (read : ℕ) (current next : StateID) → HasWalked Reaches (is_up_to last) bytes (after read current)
      → lane.at + read < length bytes → Leads Reaches current (get_or bytes (lane.at + read) 0 ∷ []) next
      → WalkedTo Reaches (is_up_to last) bytes (after (read + 1) next)
  turn-byte read current next walked within leads =
      walked-byte (after (read + 1) next) walked within leads refl
      refl (omega arith)

  -- after the byte the lane goes on, if its state is past the last one,
  pub turn-on : (read : ℕ) (current next : StateID) → HasWalked Reaches (is_up_to last) bytes (after read current)
      → lane.at + read < lane.end → Leads Reaches current (get_or bytes (lane.at + read) 0 ∷ []) next → last < next
      → HasWalked Reaches (is_up_to last) bytes (after (read + 1) next)
  turn-on read current next walked within leads past =
      let inside : lane.end ≤ length bytes = walked.inside.1 in
      let on : lane.at + (read + 1) ≤ lane.end = omega (arith, within) in
      walked-on Reaches bytes (after (read + 1) next) last
      (turn-byte read current next walked (omega (arith, within, inside)) leads) on inside past

  -- or the turn ends, wherever it stands
  pub turn-ends : (read : ℕ) (current next : StateID) (result : Lane)
      → HasWalked Reaches (is_up_to last) bytes (after read current) → lane.at + read < lane.end
      → Leads Reaches current (get_or bytes (lane.at + read) 0 ∷ []) next → result ≡ after (read + 1) next
      → HasGone Reaches (is_up_to last) bytes lane result
  turn-ends read current next result walked within leads is =
      let inside : lane.end ≤ length bytes = walked.inside.1 in
      let to = turn-byte read current next walked (omega (arith, within, inside)) leads in
      subst (HasGone Reaches (is_up_to last) bytes lane) (sym is)
      (record { to = to; on = omega arith; within = omega (arith, within); same = refl })

  -- without a stop before it, the turn ends after the last byte
  pub turn-all : (read len : ℕ) (current : StateID) (result : Lane)
      → HasWalked Reaches (is_up_to last) bytes (after read current) → read ≡ len → 0 < len → result ≡ after len current
      → HasGone Reaches (is_up_to last) bytes lane result
  turn-all read len current result walked all some is =
      let ordered : lane.at + read ≤ lane.end = walked.inside.0 in
      subst (HasGone Reaches (is_up_to last) bytes lane) (sym is)
      (record {
        to = subst (λ n. WalkedTo Reaches (is_up_to last) bytes (after n current)) all walked.to;
        on = omega (arith, some);
        within = omega (arith, ordered, all);
        same = refl;
      })

-- ---- what is noted

-- a state that isn't up to the last one is past it
pub up_to-past : (last sid : StateID) → ¬ IsTrue (is_up_to last sid) → last < sid
up_to-past last sid past =
    ⊎_elim (λ (lt : last < sid). lt) (λ (le : sid ≤ last). absurd (past (le-leb sid last le))) (cases_lt last sid)

-- a state past the last one matches nothing
past-quiet : (matches : StateID → List ℕ) (last sid : StateID) → ((i : StateID) → last < i → matches i ≡ [])
    → ¬ IsTrue (is_up_to last sid) → ¬ IsTrue (is_matching matches sid)
past-quiet matches last sid quiet past e = false≢true (ap has_some (sym (quiet sid (up_to-past last sid past))) ∙ e)

-- the bytes that a lane has read since its last note make a note
pub walked-note : {Reaches : List ℕ → StateID → Type 0} (matches : StateID → List ℕ) {bytes : List ℕ} {lane : Lane}
    (last : StateID) → ((i : StateID) → last < i → matches i ≡ []) → WalkedTo Reaches (is_up_to last) bytes lane
    → lane.from < lane.at
    → IsNote Reaches matches bytes (note_of lane)
walked-note matches last quiet to more =
    let ordered = to.ordered in
    let within = to.within in
    record {
      some = omega (arith, more);
      within = omega (arith, ordered, within);
      begins = to.begins;
      reads = to.reads;
      plain = λ k some less. let mid = to.plain k some less in
          (mid.0, mid.1, past-quiet matches last mid.0 quiet mid.2);
    }
