-- A search takes the notes of one lane after those of another.
use Rattle.std.proofs.Common.{◌≡◌, ⊎_elim, ℕ, suc, ◌+◌, ◌-◌, ◌<◌, ◌≤◌, IsTrue, List, [], ◌∷◌, ◌++◌, length, take, drop, get_or, Option, sym, ap, subst, refl, ◌∙◌, arith, length-drop}
use Rattle.std.specs.Prelude.{slice_get, Some, if◌then◌else◌, unwrap_or}
use Rattle.std.proofs.Math.Logic.{∥∥₁_elim}
use Rattle.std.specs.Coded.{Coded-set, coded_ℕ}
use Rattle.std.specs.List.{All}
use Rattle.std.proofs.lemmas.Bool.{cases_lt}
use Rattle.std.proofs.lemmas.List.{append_assoc, get_or-drop}
use Rattle.std.proofs.lemmas.List.Elements.{All-head, All-tail}
use Rattle.std.proofs.lemmas.Option.{slice_get-get_or}
use Rattle.ac_input.specs.Number.{StateID}
use Rattle.ac_automaton.specs.Ahead.{ComesTo, Frees, IsNote, TakesBy, TakesEachBy, onward}
use Rattle.ac_automaton.specs.Automaton.{has_some, is_matching}
use Rattle.ac_automaton.specs.declared.ahead.Note.{Note}
use Rattle.ac_automaton.proofs.lemmas.CursorLemmas.{take-more}

-- where no pattern matches, a search goes on from the state itself
pub onward-quiet : (matches : StateID → List ℕ) (anew : Option StateID) {sid : StateID} → matches sid ≡ []
    → onward matches anew sid ≡ sid
onward-quiet matches anew {sid} quiet = ap (λ l. if has_some l then unwrap_or anew sid else sid) quiet

-- where one does, it begins anew, if it does that
pub onward-match : (matches : StateID → List ℕ) (anew : Option StateID) (sid : StateID)
    → IsTrue (is_matching matches sid) → onward matches anew sid ≡ unwrap_or anew sid
onward-match matches anew sid matched = ap (λ b. if b then unwrap_or anew sid else sid) matched

-- the bytes of a note end in the byte before the place where they end
note-bytes : (bytes : List ℕ) (note : Note) → 0 < note.len → note.from + note.len ≤ length bytes
    → take note.len (drop note.from bytes)
    ≡ take (note.len - 1) (drop note.from bytes) ++ get_or bytes (note.from + note.len - 1) 0 ∷ []
note-bytes bytes note some within =
    let n : ℕ = note.len - 1 in
    let xs = drop note.from bytes in
    let left = length-drop note.from bytes in
    let size : n < length xs = omega (arith, left, some, within) in
    let there : note.from + n ≡ note.from + note.len - 1 = omega (arith, some) in
    let same : get_or xs n 0 ≡ get_or bytes (note.from + note.len - 1) 0 = get_or-drop note.from bytes n 0
    ∙ ap (λ k. get_or bytes k 0) there in
    let is : slice_get xs n ≡ Some (get_or bytes (note.from + note.len - 1) 0) = slice_get-get_or xs n 0 size
    ∙ ap (λ x. Some x) same in
    let all : note.len ≡ suc n = omega (arith, some) in
    ap (λ k. take k xs) all ∙ take-more xs n _ is

module _ (Free : ℕ → StateID → Type 0) (matches : StateID → List ℕ) (anew : Option StateID) (bytes : List ℕ) where
  -- notes that are taken, and those that are taken after them
  pub takes-append : (at : ℕ) (sid : StateID) (notes more : List Note) (mid : ℕ) (there : StateID) (to : ℕ)
      (next : StateID) → TakesBy Free matches anew bytes at sid notes mid there
      → TakesBy Free matches anew bytes mid there more to next
      → TakesBy Free matches anew bytes at sid (notes ++ more) to next
  takes-append at sid [] more mid there to next takes after =
      subst (λ n. TakesBy Free matches anew bytes n sid more to next) takes.0
      (subst (λ i. TakesBy Free matches anew bytes mid i more to next) takes.1 after)
  takes-append at sid (note ∷ notes) more mid there to next takes after = (
    takes.0,
    takes-append (note.from + note.len) (onward matches anew note.next) notes more mid there to next takes.1 after,
  )

  -- a search that comes to a lane's beginning from before it takes the lane's notes
  from-before : {at : ℕ} {sid : StateID} {place : ℕ} {start : StateID} (notes : List Note) → at ≤ place
      → (at ≡ place → sid ≡ start) → Free (get_or bytes (place - 1) 0) start
      → TakesEachBy Free matches anew bytes place start notes → TakesEachBy Free matches anew bytes at sid notes
  from-before {at} {sid} [] before same frees takes = (at, sid, (refl, refl))
  from-before {at} {sid} {place} {start} (note ∷ notes) before same frees takes =
      let is : ComesTo Free bytes place start note = takes.2.0 in
      let later : place ≤ note.from = is.later in
      let here : at ≡ note.from → note.sid ≡ sid = λ e. let p : at ≡ place = omega (arith, e, before, later) in
      let q : place ≡ note.from = omega (arith, e, before, later) in is.here q ∙ sym (same p) in
      let freed : at < note.from → Free (get_or bytes (note.from - 1) 0) note.sid = λ lt. ⊎_elim
      (λ (past : place < note.from). is.freed past)
      (λ (le : note.from ≤ place). let e : place ≡ note.from = omega (arith, le, later) in
      subst (λ n. Free (get_or bytes (n - 1) 0) note.sid) e
      (subst (λ i. Free (get_or bytes (place - 1) 0) i) (sym (is.here e)) frees))
      (cases_lt place note.from) in
      let all : ComesTo Free bytes at sid note =
      record { later = omega (arith, before, later); here = here; freed = freed } in
      (takes.0, takes.1, (all, takes.2.1))

module _ {Reaches : List ℕ → StateID → Type 0} {matches : StateID → List ℕ} (anew : Option StateID)
    {bytes : List ℕ} where
  -- a note that ends in a byte that leads each search to one state ends in that state
  note-frees : {note : Note} {start : StateID} → IsNote Reaches matches bytes note
      → Frees Reaches matches (get_or bytes (note.from + note.len - 1) 0) start → note.next ≡ start
  note-frees {note} is frees =
      let byte = get_or bytes (note.from + note.len - 1) 0 in
      let front = take (note.len - 1) (drop note.from bytes) in
      ∥∥₁_elim is.begins (Coded-set coded_ℕ _ _) (λ w.
      let there : Reaches (w.0 ++ take note.len (drop note.from bytes)) note.next = is.reads w.0 w.1 in
      let split : w.0 ++ take note.len (drop note.from bytes) ≡ (w.0 ++ front) ++ byte ∷ [] =
      ap (λ l. w.0 ++ l) (note-bytes bytes note is.some is.within) ∙ sym (append_assoc w.0 front (byte ∷ [])) in
      frees.only (w.0 ++ front) note.next (subst (λ l. Reaches l note.next) split there))

  -- notes that end in such a byte leave the search in that state
  pub notes-free : {Free : ℕ → StateID → Type 0} (at : ℕ) {sid : StateID} {note : Note} (notes : List Note) (to : ℕ)
      {next start : StateID} → TakesBy Free matches anew bytes at sid (note ∷ notes) to next
      → All (IsNote Reaches matches bytes) (note ∷ notes) → Frees Reaches matches (get_or bytes (to - 1) 0) start
      → next ≡ start
  notes-free at {note} [] to {start} takes are frees =
      let end : to ≡ note.from + note.len = takes.1.0 in
      let here = subst (λ n. Frees Reaches matches (get_or bytes (n - 1) 0) start) end frees in
      let is = note-frees (All-head (IsNote Reaches matches bytes) note [] are) here in
      takes.1.1 ∙ ap (onward matches anew) is ∙ onward-quiet matches anew frees.quiet
  notes-free at {note} (second ∷ notes) to takes are frees =
      notes-free (note.from + note.len) notes to takes.1
      (All-tail (IsNote Reaches matches bytes) note (second ∷ notes) are) frees

  -- a search takes the notes of a lane, and then those of the lanes after it
  pub takes-lanes : (Free : ℕ → StateID → Type 0) {at : ℕ} (sid : StateID) (notes : List Note) {to : ℕ} (next : StateID)
      {place : ℕ} {start : StateID} (more : List Note)
      → TakesBy Free matches anew bytes at sid notes to next → All (IsNote Reaches matches bytes) notes
      → at < place → to ≤ place → Free (get_or bytes (place - 1) 0) start
      → Frees Reaches matches (get_or bytes (place - 1) 0) start
      → TakesEachBy Free matches anew bytes place start more
      → TakesEachBy Free matches anew bytes at sid (notes ++ more)
  takes-lanes Free {at} sid notes {to} next {place} {start} more takes are some before free frees after =
      let all = from-before Free matches anew bytes more before (ends notes takes are) free after in
      (all.0, all.1, takes-append Free matches anew bytes at sid notes more to next all.0 all.1 takes all.2)
    where
      ends : (ns : List Note) → TakesBy Free matches anew bytes at sid ns to next
          → All (IsNote Reaches matches bytes) ns → to ≡ place → next ≡ start
      ends [] t a e = let here : to ≡ at = t.0 in absurd (omega (arith, here, e, some))
      ends (note ∷ ns) t a e =
          notes-free at ns to t a (subst (λ n. Frees Reaches matches (get_or bytes (n - 1) 0) start) (sym e) frees)

-- where a byte frees a search, it is freed by more
pub takes-weaker : {Free More : ℕ → StateID → Type 0} (matches : StateID → List ℕ) (anew : Option StateID)
    (bytes : List ℕ) → ((byte : ℕ) (state : StateID) → Free byte state → More byte state)
    → (at : ℕ) (sid : StateID) (notes : List Note) (to : ℕ) (next : StateID)
    → TakesBy Free matches anew bytes at sid notes to next → TakesBy More matches anew bytes at sid notes to next
takes-weaker matches anew bytes more at sid [] to next takes = takes
takes-weaker {Free} matches anew bytes more at sid (note ∷ notes) to next takes =
    let is : ComesTo Free bytes at sid note = takes.0 in (
      record {
        later = is.later;
        here = is.here;
        freed = λ past. more (get_or bytes (note.from - 1) 0) note.sid (is.freed past);
      },
      takes-weaker matches anew bytes more (note.from + note.len) (onward matches anew note.next) notes to next takes.1,
    )
