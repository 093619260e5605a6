-- One part of the bytes after another: by a note, or by the automaton's own loop; and what the parts cost together.
use Rattle.std.proofs.Common.{◌≡◌, ◌≢◌, ⊎_elim, ℕ, suc, ◌+◌, ◌-◌, ◌<◌, ◌≤◌, Bool, false, List, [], ◌∷◌, ◌++◌, length, take, drop, get_or, Option, None, Some, sym, ap, subst, refl, ◌∙◌, arith, length-drop}
use Rattle.std.specs.Prelude.{slice_get}
use Rattle.std.specs.List.{All}
use Rattle.std.proofs.Math.Logic.{∥∥₁_elim}
use Rattle.std.proofs.Props.{props}
use Rattle.std.specs.Coded.{le_prop}
use Rattle.std.proofs.lemmas.Bool.{cases_lt}
use Rattle.std.proofs.lemmas.List.{append_assoc, drop-drop, get_or-drop, length-take-le}
use Rattle.std.proofs.lemmas.List.Elements.{All-head, All-tail}
use Rattle.std.proofs.lemmas.Option.{slice_get-get_or}
use Rattle.ac_input.specs.Number.{StateID}
use Rattle.ac_input.specs.declared.search.Anchored.{Anchored}
use Rattle.ac_input.specs.declared.search.Anchored.TheVariants.{No}
use Rattle.ac_input.specs.declared.steps.Steps.{Steps}
use Rattle.ac_input.specs.Steps.{Done}
use Rattle.ac_automaton.specs.Ahead.{Frees, IsAhead, IsNext, IsNote, IsPaid, Settles, StaysReadOnce, TakesEach, TakesTo, bytes_ahead, left_notes, noted_len, onward}
use Rattle.ac_automaton.specs.Automaton.{Advances, Built, IsReached, IsReadCost, Leads, PassesPlain, has_some, is_matching}
use Rattle.ac_automaton.specs.Skip.{ReadsPart}
use Rattle.ac_automaton.specs.declared.ahead.Ahead.{Ahead}
use Rattle.ac_automaton.specs.declared.ahead.Note.{Note}
use Rattle.ac_automaton.specs.declared.automaton.Advance.{Advance}
use Rattle.ac_automaton.proofs.ahead.AheadLemmas.{left-first, left-over}
use Rattle.ac_automaton.proofs.automaton.NamedLemmas.{cost-looks}
use Rattle.ac_automaton.proofs.lemmas.CursorLemmas.{HasAdvanced, reached-on, take-more}
use Rattle.ac_automaton.proofs.skip.ReadOnLemmas.{cost-both, part-more, plain-both, read-both}
use Rattle.ac_input.proofs.lemmas.SomeLemmas.{live-some}

-- ---- what parts cost together

-- the cost of a part that is read later, counted from what was paid before it
abbrev pub joined : Steps → Steps → Steps → Steps
joined paid between after =
    record after
    { looked = record after.looked { value = paid.looked.value + (after.looked.value - between.looked.value) } }

-- what two parts in turn settle adds up
pub settles-then : {a b c : Ahead} {s t p q : Steps} → Settles a b s p → Settles b c t q
    → s.looked.value ≤ q.looked.value → Settles a c t (joined p s q)
settles-then first second rose =
    let g = first.looked in
    let h = second.looked in
    record { looked = omega arith; scanned = second.scanned; moved = second.moved }

-- the cost of some bytes is the same, wherever it is counted from
pub cost-then : (b : Built) (Reaches : Anchored → List ℕ → StateID → Type 0) {anchored : Anchored} (sid : StateID)
    {bytes : List ℕ} {s p q : Steps} → p.scanned.value ≡ s.scanned.value → p.moved.value ≡ s.moved.value
    → IsReadCost b Reaches anchored sid bytes s q → IsReadCost b Reaches anchored sid bytes p (joined p s q)
cost-then b Reaches sid scanned moved cost = λ text before after reads g h.
    let run = cost text before after reads g h in
    let some = run.some in
    let bound = run.bound in
    record {
      some = omega arith;
      bound = omega arith;
      one = λ d. let e = run.one d in omega arith;
      scanned = run.scanned ∙ sym scanned;
      moved = run.moved ∙ sym moved;
    }

-- a part read later, counted from what was paid before it
pub part-then : {b : Built} {Reaches : Anchored → List ℕ → StateID → Type 0} {anchored : Anchored}
    {stops : StateID → Bool} {sid : StateID} {bytes : List ℕ} {stop : Advance} {s p q : Steps}
    → p.scanned.value ≡ s.scanned.value → p.moved.value ≡ s.moved.value
    → ReadsPart b Reaches anchored stops sid bytes stop s q
    → ReadsPart b Reaches anchored stops sid bytes stop p (joined p s q)
part-then {b} {Reaches} {sid} scanned moved part = record {
  some = part.some;
  within = part.within;
  reads = part.reads;
  plain = part.plain;
  cost = cost-then b Reaches sid scanned moved part.cost;
}

-- reading on takes no look back
pub cost-rises : (b : Built) (Reaches : Anchored → List ℕ → StateID → Type 0) {anchored : Anchored} {sid next : StateID}
    {bytes : List ℕ} {s t : Steps}
    → IsReached (Reaches anchored) sid → Leads (Reaches anchored) sid bytes next
    → IsReadCost b Reaches anchored sid bytes s t → s.looked.value ≤ t.looked.value
cost-rises b Reaches reached leads cost = ∥∥₁_elim reached le_prop (λ w.
    let before = live-some in
    let after = live-some in
    let some = (cost w.0 before.0 after.0 w.1 before.1 after.1).some in
    omega (arith, some))

-- what was read so far, and one part more
pub parts-join : {b : Built} {Reaches : Anchored → List ℕ → StateID → Type 0} {stops : StateID → Bool}
    {sid current : StateID} (bytes : List ℕ) (from : ℕ) {read : ℕ} {stop : Advance} {a0 a1 a2 : Ahead} {x s t : Steps}
    → IsReached (Reaches No) sid → read ≤ length bytes - from
    → IsPaid a0 a1 s (λ paid. HasAdvanced b Reaches No stops sid (drop from bytes) read current x paid)
    → IsPaid a1 a2 t (λ paid. ReadsPart b Reaches No stops current (drop (from + read) bytes) stop s paid)
    → IsPaid a0 a2 t
    (λ paid. ReadsPart b Reaches No stops sid (drop from bytes) (record { sid = stop.sid; taken = read + stop.taken }) x
    paid)
parts-join {b} {Reaches} {stops} {sid} {current} bytes from {read} {stop} {x} {s} reached inside has part =
    let left = length-drop from bytes in
    let here = reached-on (Reaches No) sid (take read (drop from bytes)) current reached has.2.reads in
    let rest = drop (from + read) bytes in (
      joined has.0 s part.0,
      settles-then has.1 part.1 (cost-rises b Reaches here part.2.reads part.2.cost),
      part-more b Reaches No stops sid (drop from bytes) current rest read stop x has.0 (joined has.0 s part.0)
          (sym (drop-drop read from bytes)) (omega (arith, inside, left))
          (part-then has.1.scanned has.1.moved part.2) has.2,
    )

-- ---- some bytes were passed, and then it was read on

module _ {b : Built} {Reaches : Anchored → List ℕ → StateID → Type 0} {anchored : Anchored} {stops : StateID → Bool}
    {sid current : StateID} (bytes rest : List ℕ) {n : ℕ} {stop : Advance} {s t : Steps}
    (is : rest ≡ drop n bytes) (some : 0 < n) (within : n ≤ length bytes)
    (has : HasAdvanced b Reaches anchored stops sid bytes n current s t)
    (goes : Advances (Reaches anchored) stops current rest stop) where
  rest-len : length rest ≡ length bytes - n
  rest-len = ap length is ∙ length-drop n bytes

  -- it stops where it would have stopped from the first state
  pub advances-on : Advances (Reaches anchored) stops sid bytes (record { sid = stop.sid; taken = n + stop.taken })
  advances-on =
      let R = Reaches anchored in
      let size = rest-len in
      let inside = goes.taken.0 in
      record {
        taken = (omega (arith, size, inside, within), λ _. omega (arith, some));
        reads = read-both R sid current stop.sid bytes n stop.taken has.reads
            (subst (λ l. Leads R current (take stop.taken l) stop.sid) is goes.reads);
        plain = plain-both R sid current bytes n has.plain has.reads
            (subst (λ l. PassesPlain R stops current l stop.taken) is goes.plain);
        stops = λ lt. goes.stops (omega (arith, size, lt, within));
      }

  -- and both cost together what all the bytes cost
  pub cost-on : {u : Steps} → IsReadCost b Reaches anchored current (take stop.taken rest) t u
      → IsReadCost b Reaches anchored sid (take (n + stop.taken) bytes) s u
  cost-on {u} cost =
      let size = rest-len in
      let inside = goes.taken.0 in
      cost-both b Reaches sid current bytes n stop.taken (omega (arith, size, inside, within)) has.reads has.cost
      (subst (λ l. IsReadCost b Reaches anchored current (take stop.taken l) t u) is cost)

-- ---- a note is taken

-- there is a next note
pub left-more : (ahead : Ahead) (note : Note) → ahead.end ≤ length ahead.notes
    → Some note ≡ slice_get (left_notes ahead) 0 → ahead.next < ahead.end
left-more ahead note room is = ⊎_elim
    (λ (lt : ahead.next < ahead.end). lt)
    (λ (over : ahead.end ≤ ahead.next). let e : Some note ≡ None = is
    ∙ ap (λ notes. slice_get notes 0) (left-over ahead room over) in absurd cc)
    (cases_lt ahead.next ahead.end)

-- the notes that are left after the next one is taken
pub left-taken : (ahead : Ahead) (note : Note) → ahead.end ≤ length ahead.notes
    → Some note ≡ slice_get (left_notes ahead) 0
    → left_notes ahead ≡ note ∷ left_notes (record ahead { next = ahead.next + 1 })
left-taken ahead note room is =
    let first = left-first ahead note room (left-more ahead note room is) in
    let same : Some note ≡ Some (get_or ahead.notes ahead.next note) = is ∙ ap (λ notes. slice_get notes 0) first in
    let one : note ≡ get_or ahead.notes ahead.next note = cc in
    first ∙ ap (λ n. n ∷ left_notes (record ahead { next = ahead.next + 1 })) (sym one)

module _ (b : Built) (Reaches : Anchored → List ℕ → StateID → Type 0) (matches : StateID → List ℕ)
    (anew : Option StateID) (bytes : List ℕ) (at : ℕ) (sid : StateID) (ahead : Ahead) (note : Note)
    (is : IsAhead b (Reaches No) matches anew bytes at sid ahead)
    (next : Some note ≡ slice_get (left_notes ahead) 0) where
  abbrev after : Ahead
  after = record ahead { next = ahead.next + 1 }

  left : left_notes ahead ≡ note ∷ left_notes after
  left = left-taken ahead note is.room next

  each : All (IsNote (Reaches No) matches bytes) (note ∷ left_notes after)
  each = subst (All (IsNote (Reaches No) matches bytes)) left is.are

  -- it is a true note
  pub here-note : IsNote (Reaches No) matches bytes note
  here-note = All-head (IsNote (Reaches No) matches bytes) note (left_notes after) each

  -- its bytes are no longer ahead
  pub taken-len : bytes_ahead ahead ≡ note.len + bytes_ahead after
  taken-len = let e = ap noted_len left in omega (arith, e)

  pub taken-settles : (s : Steps)
      → Settles ahead after s (record s { looked = record s.looked { value = s.looked.value + note.len } })
  taken-settles s = record { looked = let e = taken-len in omega (arith, e); scanned = refl; moved = refl }

  pub taken-once : StaysReadOnce bytes ahead after
  taken-once = let e = taken-len in omega (arith, e)

  -- what is left of it was read ahead of the search that has passed it
  pub taken-ahead : note.from ≡ at
      → IsAhead b (Reaches No) matches anew bytes (at + note.len) (onward matches anew note.next) after
  taken-ahead from = record {
    room = is.room;
    are = All-tail (IsNote (Reaches No) matches bytes) note (left_notes after) each;
    most = let e = ap noted_len left in let most = is.most in omega (arith, e, most);
    none = λ lanes. let none = is.none lanes in let e = taken-len in omega (arith, none, e);
    taken = λ standard.
        let taken = is.taken standard in
        let takes : TakesTo (Reaches No) matches anew bytes at sid (note ∷ left_notes after) taken.1.0 taken.1.1 =
        subst (λ notes. TakesTo (Reaches No) matches anew bytes at sid notes taken.1.0 taken.1.1) left taken.1.2 in (
          taken.0,
          (
            taken.1.0,
            taken.1.1,
            subst (λ n. TakesTo (Reaches No) matches anew bytes (n + note.len) (onward matches anew note.next)
                (left_notes after) taken.1.0 taken.1.1) from takes.1,
          ),
        );
  }

  -- A note that begins at this place, in this state, reads a part of the bytes. Its cost is one look for each of its
  -- bytes.
  pub note-part : (s t : Steps) → note.from ≡ at → note.sid ≡ sid → Done note.len 0 0 s t
      → ReadsPart b Reaches No (is_matching matches) sid (drop at bytes) (record { sid = note.next; taken = note.len })
      s t
  note-part s t here same done =
      let it = here-note in
      let within = it.within in
      let left_here = length-drop note.from bytes in
      let long : length (take note.len (drop note.from bytes)) ≡ note.len =
      length-take-le note.len (drop note.from bytes) (omega (arith, within, left_here)) in
      subst (λ i. ReadsPart b Reaches No (is_matching matches) i (drop at bytes)
      (record { sid = note.next; taken = note.len }) s t) same
      (subst (λ n. ReadsPart b Reaches No (is_matching matches) note.sid (drop n bytes)
      (record { sid = note.next; taken = note.len }) s t) here
      (record {
        some = it.some;
        within = omega (arith, within, left_here);
        reads = it.reads;
        plain = it.plain;
        cost = cost-looks b Reaches (take note.len (drop note.from bytes)) long done;
      }))

-- ---- the automaton reads on by itself

equal-prop : {a b : ℕ} → IsProp (a ≡ b)
equal-prop = hlevel props

-- a search that reads on to just after a byte that frees it stands in the note's state, and goes on in it
freed-here : {Reaches : List ℕ → StateID → Type 0} {matches : StateID → List ℕ} (anew : Option StateID) (bytes : List ℕ)
    (at : ℕ) {taken : ℕ} (sid : StateID) {state : StateID} (to : StateID)
    → IsReached Reaches sid → 0 < taken → at + taken ≤ length bytes → Leads Reaches sid (take taken (drop at bytes)) to
    → Frees Reaches matches (get_or bytes (at + taken - 1) 0) state → state ≡ onward matches anew to
freed-here {Reaches} {matches} anew bytes at {taken} sid {state} to reached some within leads frees =
    let xs = drop at bytes in
    let n : ℕ = taken - 1 in
    let left = length-drop at bytes in
    let size : n < length xs = omega (arith, left, within, some) in
    let all : suc n ≡ taken = omega (arith, some) in
    let byte = get_or bytes (at + taken - 1) 0 in
    let same : get_or xs n 0 ≡ byte = get_or-drop at bytes n 0
    ∙ ap (λ k. get_or bytes k 0) (let e : at + n ≡ at + taken - 1 = omega (arith, some) in e) in
    let more : take taken xs ≡ take n xs ++ byte ∷ [] = ap (λ k. take k xs) (sym all)
    ∙ take-more xs n byte (slice_get-get_or xs n 0 size ∙ ap (λ x. Some x) same) in
    let there : to ≡ state = ∥∥₁_elim reached equal-prop
    (λ w. frees.only (w.0 ++ take n xs) to
    (subst (λ l. Reaches l to) (ap (λ l. w.0 ++ l) more ∙ sym (append_assoc w.0 (take n xs) (byte ∷ [])))
    (leads w.0 w.1))) in
    let quiet : is_matching matches to ≡ false = ap (is_matching matches) there ∙ ap has_some frees.quiet in
    sym there ∙ sym (rw quiet refl)

-- a search that has read on alone, up to the next note at most, takes the same notes
alone-takes : (Reaches : List ℕ → StateID → Type 0) (matches : StateID → List ℕ) (anew : Option StateID)
    (bytes : List ℕ) {at taken : ℕ} {sid to : StateID} (notes : List Note) (end : ℕ) (last : StateID)
    → IsReached Reaches sid → 0 < taken → at + taken ≤ length bytes → Leads Reaches sid (take taken (drop at bytes)) to
    → ((note : Note) → Some note ≡ slice_get notes 0 → (at < note.from) × (at + taken ≤ note.from))
    → TakesTo Reaches matches anew bytes at sid notes end last
    → TakesEach Reaches matches anew bytes (at + taken) (onward matches anew to) notes
alone-takes Reaches matches anew bytes {at} {taken} {to} [] end last reached some within leads before takes =
    (at + taken, onward matches anew to, (refl, refl))
alone-takes Reaches matches anew bytes {at} {sid} {to} (note ∷ notes) end last reached some within leads before takes =
    let up = before note refl in
    let frees = takes.0.freed up.0 in (
      end,
      last,
      (
        record {
          later = up.1;
          here = λ there. freed-here anew bytes at sid to reached some within leads
              (subst (λ n. Frees Reaches matches (get_or bytes (n - 1) 0) note.sid) (sym there) frees);
          freed = λ more. frees;
        },
        takes.1,
      ),
    )

-- what was read ahead of a search that has read on alone, up to the next note at most
pub alone-ahead : {b : Built} {Reaches : List ℕ → StateID → Type 0} {matches : StateID → List ℕ} {anew : Option StateID}
    {bytes : List ℕ} {at taken : ℕ} {sid : StateID} (to : StateID) {ahead : Ahead}
    → IsReached Reaches sid → 0 < taken → at + taken ≤ length bytes → Leads Reaches sid (take taken (drop at bytes)) to
    → ((note : Note) → Some note ≡ slice_get (left_notes ahead) 0
    → (note.from ≡ at → note.sid ≢ sid) × (at < note.from → at + taken ≤ note.from))
    → IsAhead b Reaches matches anew bytes at sid ahead
    → IsAhead b Reaches matches anew bytes (at + taken) (onward matches anew to) ahead
alone-ahead {Reaches} {matches} {anew} {bytes} {at} {taken} {sid} to {ahead} reached some within leads before is =
    record {
      room = is.room;
      are = is.are;
      most = is.most;
      none = is.none;
      taken = λ standard.
          let taken_ = is.taken standard in (
            taken_.0,
            alone-takes Reaches matches anew bytes (left_notes ahead) taken_.1.0 taken_.1.1 reached some within leads
                (apart (left_notes ahead) taken_.1.0 taken_.1.1 taken_.1.2 before) taken_.1.2,
          );
    }
  where
    apart : (notes : List Note) (end : ℕ) (last : StateID) → TakesTo Reaches matches anew bytes at sid notes end last
        → ((note : Note) → Some note ≡ slice_get notes 0
        → (note.from ≡ at → note.sid ≢ sid) × (at < note.from → at + taken ≤ note.from))
        → (note : Note) → Some note ≡ slice_get notes 0 → (at < note.from) × (at + taken ≤ note.from)
    apart [] end last takes before note is = let e : Some note ≡ None = is in absurd cc
    apart (first ∷ notes) end last takes before note is =
        let one : note ≡ first = cc in
        let up = before note is in
        let next = subst (IsNext Reaches matches bytes at sid) (sym one) takes.0 in
        let later = next.later in
        let lt : at < note.from = ⊎_elim (λ (lt : at < note.from). lt)
        (λ (le : note.from ≤ at). let same : at ≡ note.from = omega (arith, le, later) in
        absurd (up.0 (sym same) (next.here same))) (cases_lt at note.from) in
        (lt, up.1 lt)
