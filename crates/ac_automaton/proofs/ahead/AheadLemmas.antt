-- What a search takes from what was read ahead of it, and what its looks pay for.
use Rattle.std.proofs.Common.{◌≡◌, ◌≢◌, ◌↔◌, ℕ, suc, ◌+◌, ◌<◌, ◌≤◌, Bool, true, false, IsTrue, List, [], ◌∷◌, length, take, drop, Option, sym, ap, subst, refl, ◌∙◌, arith, get_or, drop-cons}
use Rattle.std.specs.Prelude.{IfSome, is_some, if◌then◌else◌, nat_le, slice_get}
use Rattle.std.specs.List.{All}
use Rattle.std.proofs.lemmas.Bool.{false≢true, leb-true, le-leb}
use Rattle.std.proofs.lemmas.List.Elements.{All-head, All-tail}
use Rattle.std.proofs.lemmas.List.{drop_all, get_or-take, length-take-le}
use Rattle.ac_input.specs.Number.{StateID}
use Rattle.ac_input.specs.declared.search.MatchKind.TheVariants.{Standard}
use Rattle.ac_input.specs.declared.steps.Steps.{Steps}
use Rattle.ac_input.specs.Steps.{Added, AreNone}
use Rattle.ac_automaton.specs.Ahead.{HasForgotten, HasSkipped, IsAhead, StaysReadOnce, IsNote, Settles, TakesEach, TakesTo, bytes_ahead, left_notes, less_ahead, most_ahead, noted_len, notes_from, onward}
use Rattle.ac_automaton.specs.Automaton.{Built, is_matching}
use Rattle.ac_automaton.specs.declared.ahead.Ahead.{Ahead}
use Rattle.ac_automaton.specs.declared.ahead.Note.{Note}
use Rattle.ac_automaton.proofs.automaton.PassLemmas.{matching-some, some-matching}

-- an automaton's test for a match agrees with the state's list of matches
pub matched-is : (matches : StateID → List ℕ) {sid : StateID} (matched : Bool) → (IsTrue matched ↔ (matches sid ≢ []))
    → matched ≡ is_matching matches sid
matched-is matches {sid} true is = sym (matching-some (matches sid) (is.0 refl))
matched-is matches {sid} false is = by (is_matching matches sid) refl
  where
    by : (r : Bool) → is_matching matches sid ≡ r → false ≡ r
    by false e = refl
    by true e = is.1 (some-matching (matches sid) e)

-- ---- how much was read ahead

module _ {Reaches : List ℕ → StateID → Type 0} {matches : StateID → List ℕ} (anew : Option StateID)
    {bytes : List ℕ} where
  -- notes that a search takes cover bytes between where it stands and the end
  takes-within : (at : ℕ) (sid : StateID) (notes : List Note) {to : ℕ} (next : StateID) → at ≤ length bytes
      → All (IsNote Reaches matches bytes) notes → TakesTo Reaches matches anew bytes at sid notes to next
      → (at + noted_len notes ≤ to) × (to ≤ length bytes)
  takes-within at sid [] next inside are takes = (omega (arith, takes.0), omega (arith, takes.0, inside))
  takes-within at sid (note ∷ notes) next inside are takes =
      let first = All-head (IsNote Reaches matches bytes) note notes are in
      let more = takes-within (note.from + note.len) (onward matches anew note.next) notes next first.within
      (All-tail (IsNote Reaches matches bytes) note notes are) takes.1 in
      (omega (arith, more.0, takes.0.later), more.1)

-- what was read ahead lies within the bytes, and is at most `most_ahead` of them
pub ahead-within : {b : Built} {Reaches : List ℕ → StateID → Type 0} {matches : StateID → List ℕ}
    {anew : Option StateID} {bytes : List ℕ} {at : ℕ} {sid : StateID} {ahead : Ahead}
    → b.dictionary.kind ≡ Standard → at ≤ length bytes → IsAhead b Reaches matches anew bytes at sid ahead
    → (at + bytes_ahead ahead ≤ length bytes) × (bytes_ahead ahead ≤ most_ahead)
ahead-within {anew} {at} {sid} {ahead} standard inside is =
    let taken = is.taken standard in
    let within = takes-within anew at sid (left_notes ahead) taken.1.1 inside is.are taken.1.2 in
    let none = taken.0 in
    (omega (arith, within.0, within.1, none), omega (arith, is.most, none))

-- a note covers some bytes
noted-some : {Reaches : List ℕ → StateID → Type 0} {matches : StateID → List ℕ} {bytes : List ℕ} (notes : List Note)
    → All (IsNote Reaches matches bytes) notes → noted_len notes ≡ 0 → notes ≡ []
noted-some [] are none = refl
noted-some {Reaches} {matches} {bytes} (note ∷ notes) are none =
    let some = (All-head (IsNote Reaches matches bytes) note notes are).some in absurd (omega (arith, some, none))

-- where a search stands at the end of the bytes, nothing is left of what was read ahead
pub ahead-over : {b : Built} {Reaches : List ℕ → StateID → Type 0} {matches : StateID → List ℕ} {anew : Option StateID}
    {bytes : List ℕ} {at : ℕ} {sid : StateID} {ahead : Ahead}
    → b.dictionary.kind ≡ Standard → at ≡ length bytes → IsAhead b Reaches matches anew bytes at sid ahead
    → (left_notes ahead ≡ []) × (bytes_ahead ahead ≡ 0)
ahead-over {ahead} standard over is =
    let within = ahead-within standard (omega (arith, over)) is in
    let taken = is.taken standard in
    let none : bytes_ahead ahead ≡ 0 = omega (arith, within.0, over) in
    (noted-some (left_notes ahead) is.are (omega (arith, none)), none)

-- where no note is left, nothing was read ahead, wherever the search stands
pub ahead-none : {b : Built} {Reaches : List ℕ → StateID → Type 0} {matches : StateID → List ℕ} {anew : Option StateID}
    {bytes : List ℕ} {at : ℕ} {sid : StateID} {ahead : Ahead}
    → ahead.end ≤ length ahead.notes → left_notes ahead ≡ [] → (b.dictionary.kind ≡ Standard → ahead.lost.value ≡ 0)
    → (¬ IsTrue b.lanes → bytes_ahead ahead ≡ 0) → IsAhead b Reaches matches anew bytes at sid ahead
ahead-none {Reaches} {matches} {anew} {bytes} {at} {sid} room none lost nothing = record {
  room = room;
  are = subst (All (IsNote Reaches matches bytes)) (sym none) (λ k d lt. absurd (omega (arith, lt)));
  most = let e = ap noted_len none in omega (arith, e);
  none = nothing;
  taken = λ standard. (
    lost standard,
    (at, sid, subst (λ notes. TakesTo Reaches matches anew bytes at sid notes at sid) (sym none) (refl, refl)),
  );
}

-- where nothing was read ahead, that is so wherever the search stands
pub ahead-fresh : {b : Built} {Reaches : List ℕ → StateID → Type 0} {matches : StateID → List ℕ} {anew : Option StateID}
    {bytes : List ℕ} {at : ℕ} {sid : StateID} {ahead : Ahead}
    → ahead.end ≤ length ahead.notes → left_notes ahead ≡ [] → bytes_ahead ahead ≡ 0
    → IsAhead b Reaches matches anew bytes at sid ahead
ahead-fresh room none nothing = ahead-none room none (λ standard. omega (arith, nothing)) (λ _. nothing)

-- what was read ahead stays so for a search that stands elsewhere, if no note is left
pub ahead-elsewhere : {b : Built} {Reaches : List ℕ → StateID → Type 0} {matches : StateID → List ℕ}
    {anew : Option StateID} (other : Option StateID) {bytes more : List ℕ} {at : ℕ} (place : ℕ) {sid : StateID}
    (state : StateID) {ahead : Ahead}
    → left_notes ahead ≡ [] → IsAhead b Reaches matches anew bytes at sid ahead
    → IsAhead b Reaches matches other more place state ahead
ahead-elsewhere other place state none is = ahead-none is.room none (λ standard. (is.taken standard).0) is.none

-- what was read ahead of a search at the end of the bytes stays so in any state
pub ahead-end : {b : Built} {Reaches : List ℕ → StateID → Type 0} {matches : StateID → List ℕ} {anew : Option StateID}
    {bytes : List ℕ} {at : ℕ} {sid state : StateID} {ahead : Ahead}
    → at ≡ length bytes → IsAhead b Reaches matches anew bytes at sid ahead
    → IsAhead b Reaches matches anew bytes at state ahead
ahead-end {anew} {at} {state} over is = record {
  room = is.room;
  are = is.are;
  most = is.most;
  none = is.none;
  taken = λ standard. (ahead-elsewhere anew at state (ahead-over standard over is).0 is).taken standard;
}

-- whether matches are close changes nothing of what was read ahead
pub ahead-noticed : {b : Built} {Reaches : List ℕ → StateID → Type 0} {matches : StateID → List ℕ} {anew : Option StateID}
    {bytes : List ℕ} {at : ℕ} {sid : StateID} {ahead : Ahead} (close : Bool)
    → IsAhead b Reaches matches anew bytes at sid ahead
    → IsAhead b Reaches matches anew bytes at sid (record ahead { close = close })
ahead-noticed close is = record { room = is.room; are = is.are; most = is.most; none = is.none; taken = is.taken }

-- nor of what it costs
pub paid-noticed : {before after : Ahead} {steps paid : Steps} (close : Bool) → Settles before after steps paid
    → Settles before (record after { close = close }) steps paid
paid-noticed close paid = record { looked = paid.looked; scanned = paid.scanned; moved = paid.moved }

-- after all notes are forgotten, none is left for other bytes; under standard the search stood at the end of the old
-- ones
pub ahead-forgotten : {b : Built} {Reaches : List ℕ → StateID → Type 0} {matches : StateID → List ℕ}
    {anew other : Option StateID} {bytes more : List ℕ} {at place until : ℕ} {sid state : StateID}
    {before after : Ahead}
    → (b.dictionary.kind ≡ Standard → at ≡ length bytes) → IsAhead b Reaches matches anew bytes at sid before
    → HasForgotten before until after → IsAhead b Reaches matches other more place state after
ahead-forgotten over is forgotten =
    ahead-none forgotten.room forgotten.left
    (λ standard.
    let none = (ahead-over standard (over standard) is).1 in
    let same = forgotten.ahead in
    let e = ap noted_len forgotten.left in
    omega (arith, none, same, e))
    (λ lanes. forgotten.ahead ∙ is.none lanes)

-- ---- what looks pay for

-- a call's looks are added to what was counted before: what the bytes cost is added to what they cost before
pub less-added : {before after : Ahead} {fresh taken paid sums more : Steps} → AreNone fresh
    → Settles before after taken paid → Added taken sums more → bytes_ahead before ≤ sums.looked.value
    → Added paid (less_ahead sums before) (less_ahead more after) × (bytes_ahead after ≤ more.looked.value)
less-added none settles added made =
    let a = settles.looked in
    let b = settles.scanned in
    let d = settles.moved in
    let e = added.looked in
    let f = added.scanned in
    let h = added.moved in
    (record { looked = omega arith; scanned = omega arith; moved = omega arith }, omega arith)

-- ---- going through the notes

-- the first note that is left
pub left-first : (ahead : Ahead) (other : Note) → ahead.end ≤ length ahead.notes → ahead.next < ahead.end
    → left_notes ahead ≡ get_or ahead.notes ahead.next other ∷ left_notes (record ahead { next = ahead.next + 1 })
left-first ahead other room more =
    let front = take ahead.end ahead.notes in
    let long : length front ≡ ahead.end = length-take-le ahead.end ahead.notes room in
    drop-cons front ahead.next other (omega (arith, long, more))
    ∙ ap (λ note. note ∷ drop (suc ahead.next) front) (get_or-take ahead.end ahead.notes ahead.next other more)
    ∙ ap (λ n. get_or ahead.notes ahead.next other ∷ drop n front)
    (let e : suc ahead.next ≡ ahead.next + 1 = omega arith in e)

-- where none is left
pub left-over : (ahead : Ahead) → ahead.end ≤ length ahead.notes → ahead.end ≤ ahead.next → left_notes ahead ≡ []
left-over ahead room over =
    let long : length (take ahead.end ahead.notes) ≡ ahead.end = length-take-le ahead.end ahead.notes room in
    drop_all ahead.next (take ahead.end ahead.notes) (omega (arith, long, over))

-- one note is passed over and lost
pub skip-one : (before after : Ahead) (at : ℕ) (other : Note) {lost : ℕ} → before.end ≤ length before.notes
    → before.next < before.end → lost ≡ before.lost.value + (get_or before.notes before.next other).len
    → after.notes ≡ before.notes → after.end ≡ before.end → after.next ≡ before.next + 1 → after.lost.value ≡ lost
    → (bytes_ahead after ≡ bytes_ahead before)
    × ((get_or before.notes before.next other).from < at
    → notes_from at (left_notes after) ≡ notes_from at (left_notes before))
skip-one before after at other room more sum notes end next kept =
    let first = left-first before other room more in
    let rest : left_notes after ≡ left_notes (record before { next = before.next + 1 }) =
    ap (λ notes. drop after.next (take after.end notes)) notes ∙ ap (λ n. drop after.next (take n before.notes)) end
    ∙ ap (λ n. drop n (take before.end before.notes)) next in
    let count = ap noted_len first in
    let all = ap noted_len rest in (
      omega (arith, count, all, sum, kept),
      λ past. ap (notes_from at) rest
          ∙ sym (ap (notes_from at) first
          ∙ passed (nat_le at (get_or before.notes before.next other).from) (get_or before.notes before.next other)
          (left_notes (record before { next = before.next + 1 })) refl past),
    )
  where
    passed : (there : Bool) (note : Note) (notes : List Note) → nat_le at note.from ≡ there → note.from < at
        → notes_from at (note ∷ notes) ≡ notes_from at notes
    passed true note notes is past = let le = leb-true at note.from is in absurd (omega (arith, le, past))
    passed false note notes is past = rw is

-- where the first note begins at the place or later, none is passed over
pub notes-here : {at : ℕ} {note : Note} {notes all : List Note} → all ≡ note ∷ notes → at ≤ note.from
    → all ≡ notes_from at all
notes-here {at} {note} {notes} is le = is ∙ by (nat_le at note.from) refl ∙ sym (ap (notes_from at) is)
  where
    by : (there : Bool) → nat_le at note.from ≡ there → note ∷ notes ≡ notes_from at (note ∷ notes)
    by true e = rw e refl
    by false e = absurd (false≢true (sym e ∙ le-leb at note.from le))

-- where none is left, none is passed over
pub notes-none : (at : ℕ) {all : List Note} → all ≡ [] → all ≡ notes_from at all
notes-none at is = is ∙ sym (ap (notes_from at) is)

-- the notes from a place on, by whether the first begins there or later
by-first : (P : List Note → Type 0) {at : ℕ} {note : Note} {notes : List Note} → (at ≤ note.from → P (note ∷ notes))
    → P (notes_from at notes) → P (notes_from at (note ∷ notes))
by-first P {at} {note} {notes} here later = by (nat_le at note.from) refl
  where
    by : (there : Bool) → nat_le at note.from ≡ there → P (if there then note ∷ notes else notes_from at notes)
    by true e = here (leb-true at note.from e)
    by false e = later

-- what holds of all notes holds of those from a place on
kept-each : (P : Note → Type 0) (at : ℕ) (notes : List Note) → All P notes → All P (notes_from at notes)
kept-each P at [] all = all
kept-each P at (note ∷ notes) all = by-first (All P) (λ le. all) (kept-each P at notes (All-tail P note notes all))

-- the notes from a place on cover no more bytes than all notes
kept-few : (at : ℕ) (notes : List Note) → noted_len (notes_from at notes) ≤ noted_len notes
kept-few at [] = omega arith
kept-few at (note ∷ notes) = let few = kept-few at notes in
    by-first (λ (l : List Note). noted_len l ≤ noted_len (note ∷ notes)) {notes = notes} (λ le. omega arith)
    (omega (arith, few))

-- a search that takes each note passes over none
kept-all : (Reaches : List ℕ → StateID → Type 0) (matches : StateID → List ℕ) (anew : Option StateID) (bytes : List ℕ)
    (at : ℕ) (sid : StateID) (notes : List Note) (to : ℕ) (next : StateID)
    → TakesTo Reaches matches anew bytes at sid notes to next → notes ≡ notes_from at notes
kept-all Reaches matches anew bytes at sid [] to next takes = refl
kept-all Reaches matches anew bytes at sid (note ∷ notes) to next takes = notes-here refl takes.0.later

-- after notes before the place are passed over, what was read ahead of the search is as it was
pub skipped-ahead : {b : Built} {Reaches : List ℕ → StateID → Type 0} {matches : StateID → List ℕ}
    {anew : Option StateID} {bytes : List ℕ} {at : ℕ} {sid : StateID} {before after : Ahead}
    → HasSkipped at before after → IsAhead b Reaches matches anew bytes at sid before
    → IsAhead b Reaches matches anew bytes at sid after
skipped-ahead {Reaches} {matches} {anew} {bytes} {at} {sid} {before} skipped is =
    let left = skipped.left in
    let long = ap length skipped.same.notes in
    record {
      room = omega (arith, is.room, long, skipped.same.end);
      are = subst (All (IsNote Reaches matches bytes)) (sym left)
          (kept-each (IsNote Reaches matches bytes) at (left_notes before) is.are);
      most = let few = kept-few at (left_notes before) in let same = ap noted_len left in
          omega (arith, is.most, few, same);
      none = λ lanes. skipped.ahead ∙ is.none lanes;
      taken = λ standard.
          let taken = is.taken standard in
          let all = kept-all Reaches matches anew bytes at sid (left_notes before) taken.1.0 taken.1.1 taken.1.2 in
          let same = ap noted_len (left ∙ sym all) in
          let ahead = skipped.ahead in (
            omega (arith, ahead, same, taken.0),
            subst (TakesEach Reaches matches anew bytes at sid) (all ∙ sym left) taken.1,
          );
    }

-- the first of the notes from a place on begins there or later
first-later : (at : ℕ) (notes : List Note) → IfSome (slice_get (notes_from at notes) 0) (λ note. at ≤ note.from)
first-later at [] = tt
first-later at (first ∷ notes) =
    by-first (λ (l : List Note). IfSome (slice_get l 0) (λ note. at ≤ note.from)) (λ le. le) (first-later at notes)

pub skipped-later : {at : ℕ} {before after : Ahead} {r : Option Note} → HasSkipped at before after
    → r ≡ slice_get (left_notes after) 0 → IfSome r (λ note. at ≤ note.from)
skipped-later {at} {before} skipped is =
    subst (λ o. IfSome o (λ note. at ≤ note.from)) (sym (is ∙ ap (λ notes. slice_get notes 0) skipped.left))
    (first-later at (left_notes before))

-- where there is no first note, there is none
pub first-none : (notes : List Note) {r : Option Note} → false ≡ is_some r → r ≡ slice_get notes 0 → notes ≡ []
first-none [] none is = refl
first-none (note ∷ notes) none is = absurd (false≢true (none ∙ ap is_some is))

-- passing over notes reads no byte ahead
pub skipped-once : (bytes : List ℕ) {at : ℕ} {before after : Ahead} → HasSkipped at before after
    → StaysReadOnce bytes before after
skipped-once bytes skipped = let same = skipped.ahead in let until = skipped.same.until in omega (arith, same, until)
