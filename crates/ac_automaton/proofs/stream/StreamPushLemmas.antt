-- What a search of a stream takes from a piece that is pushed.
use Rattle.std.proofs.Common.{◌≡◌, ◌≢◌, ℕ, ◌-◌, ◌<◌, ◌≤◌, min, nat_lt, Bool, false, List, [], ◌∷◌, ◌++◌, length, drop, take, Ok, append-nil, sym, ap, refl, ◌∙◌, arith, length-append, length-drop}
use Rattle.std.proofs.lemmas.List.{length-take-le}
use Rattle.ac_automaton.specs.Stream.Devices.Buffer.{Held, IsRollPaid, room_for, taken_into}
use Rattle.ac_automaton.specs.Stream.{CanBeCounted, IsOnCourse, IsSearched, Sequence, StreamProgress, read_by, room_of, Picks}
use Rattle.ac_automaton.specs.Stream.Push.{TakesBytes, Pushes, TakesFront, as_piece}
use Rattle.ac_automaton.specs.declared.automaton.Automaton.{Ghosts}
use Rattle.ac_automaton.specs.declared.stream.search.StreamSearch.TheInside.{Inside}
use Rattle.ac_automaton.proofs.stream.StreamAheadLemmas.{IsKept}
use Rattle.ac_automaton.proofs.stream.StreamSearchLemmas.{IsGrown, IsSettled, after_read, come_by, grown-right, grown-test, grown_to, read-more}
use Rattle.std.specs.Prelude.{◌+◌}
use Rattle.ac_input.specs.Number.{usize_max}

-- bytes that aren't empty have a length above zero
pub not-empty : (bytes : List ℕ) → bytes ≢ [] → 0 < length bytes
not-empty [] some = absurd (some refl)
not-empty (byte ∷ bytes) some = omega arith

-- bytes that aren't empty are one piece
pub as_piece-some : (bytes : List ℕ) → 0 < length bytes → as_piece bytes ≡ bytes ∷ []
as_piece-some [] some = absurd (omega arith)
as_piece-some (byte ∷ bytes) some = refl

-- where the search stands after it took some bytes
taken-after : {q : Sequence} {s : StreamProgress q} (t : StreamProgress q) (bytes : List ℕ) → IsOnCourse s
    → 0 < length bytes → t ≡ after_read s bytes
    → TakesBytes s t bytes
taken-after {s} t bytes course some is = record {
  built = ap (λ u. u.built) is;
  pieces = ap (λ u. u.pieces) is ∙ ap (λ l. s.pieces ++ l) (sym (as_piece-some bytes some));
  read = ap read_by is ∙ read-more s bytes;
  closed = ap (λ u. u.closed) is;
  given = ap (λ u. u.given) is;
  at = ap (λ u. u.at) is;
  last = ap (λ u. u.last) is;
  from = let from = ap (λ u. u.from) is in let le = course.kept.0 in (omega arith, omega arith);
}

-- a buffer took as many bytes of a piece as there was room for, the first ones
pub record HasTaken (old new : Held) (piece : List ℕ) (n : ℕ) : Type 0 where
  pub many : n ≡ min (length piece) (old.room - length old.bytes)
  pub took : new ≡ taken_into old (take n piece)
  pub paid : IsRollPaid new

-- the buffer holds what it took after what it held
pub taken-grown : {old new : Held} {piece : List ℕ} {n : ℕ} → HasTaken old new piece n → IsGrown old new (take n piece)
taken-grown is = record {
  bytes = ap (λ h. h.bytes) is.took;
  read = ap (λ h. h.read) is.took;
  keep = ap (λ h. h.keep) is.took;
  moved = ap (λ h. h.moved) is.took;
  paid = is.paid;
}

-- where there is room, the search took the first bytes of the piece, up to the room in the buffer
pub front-taken : {q : Sequence} {s : StreamProgress q} (t : StreamProgress q) {old new : Held} {piece : List ℕ} {n : ℕ}
    → IsOnCourse s → 0 < length piece → IsSearched s → length (read_by s) < s.from + room_of q s.built
    → HasTaken old new piece n → old.bytes ≡ drop s.from (read_by s) → old.room ≡ room_of q s.built
    → t ≡ after_read s (take n piece)
    → TakesBytes s t (take n piece) × TakesFront (IsSearched s) s t piece n
front-taken {s} t {piece} {n} course some searched room is holds roomy came =
    let many = is.many in
    let held = ap length holds in
    let dropped = length-drop s.from (read_by s) in
    let behind = course.kept.1 in
    let inside = course.ordered.1 in
    let within : n ≤ length piece = omega (arith, many) in
    let count : length (take n piece) ≡ n = length-take-le n piece within in
    let taken_some : 0 < n = omega (arith, many, some, room, held, dropped, behind, inside, roomy) in
    let taken = taken-after t (take n piece) course (omega (arith, count, taken_some)) came in (
      taken,
      record {
        within = within;
        waits = λ open_. absurd (open_ searched);
        some = λ _ _. taken_some;
        full = λ _ lt. let from = ap (λ u. u.from) came in let read = ap length taken.read in
            let both = length-append (read_by s) (take n piece) in
            omega (arith, many, lt, room, from, read, held, dropped, both, count, behind, inside, roomy);
        none = λ z. absurd (omega (arith, z, taken_some));
      },
    )

-- ---- what is kept by a search for matches

-- After a push: what the search keeps is right, and it has taken the first bytes of the piece.
pub record HasPushed {S : Type 0} (A : Ghosts S) (i j : Inside S) (piece : List ℕ) (n : ℕ) : Type 0 where
  pub right : IsSettled A j
  pub taken : TakesBytes (come_by A i) (come_by A j) (take n piece)
  pub front : TakesFront (IsSearched (come_by A i)) (come_by A i) (come_by A j) piece n

-- a push takes the first bytes of the piece, up to the room in the buffer
pub push-gave : {S : Type 0} (A : Ghosts S) (i : Inside S) (all : List (List ℕ)) {new : Held} {piece : List ℕ} {n : ℕ}
    (held : List ℕ) → IsKept A i → i.progress.closed ≡ false
    → 0 < length piece → IsSearched (come_by A i)
    → (length (read_by (come_by A i)) < (come_by A i).from + room_of Picks (come_by A i).built)
    → HasTaken i.buffer new piece n → held ≡ new.bytes
    → all ≡ i.pieces.items ++ take n piece ∷ [] → i.progress.from ≤ usize_max
    → HasPushed A i (grown_to i all new (nat_lt (usize_max - i.progress.from) (length held))) piece n
push-gave A i all {new} {piece} {n} held kept open_ some searched room is holds more fits =
    let settled = kept.1 in
    let grown = taken-grown is in
    let over : Bool = nat_lt (usize_max - i.progress.from) (length held) in
    let right = grown-right A i all over settled open_ grown more (grown-test A i held settled grown holds fits) in
    let front = front-taken (come_by A (grown_to i all new over)) kept.0 some searched room is settled.holds.bytes
    (settled.holds.paid.room ∙ ap room_for settled.holds.keep) right.1 in
    record { right = right.0; taken = front.0; front = front.1 }

-- ---- nothing taken

-- no byte was taken, and nothing changed
pub took-none : {q : Sequence} {s : StreamProgress q} → IsOnCourse s → TakesBytes s s []
took-none {s} course = record {
  built = refl;
  pieces = sym (append-nil s.pieces);
  read = sym (append-nil (read_by s));
  closed = refl;
  given = refl;
  at = refl;
  last = refl;
  from = (omega arith, course.kept.0);
}

-- where the piece is empty or the search isn't ready, no byte is taken
pub pushes-none : (Ready : Type 0) {q : Sequence} {s : StreamProgress q} (piece : List ℕ) → IsOnCourse s
    → CanBeCounted (read_by s)
    → (Ready → piece ≡ []) → Pushes Ready s s piece (Ok 0)
pushes-none Ready piece course few none = (
  took-none course,
  record {
    within = omega arith;
    waits = λ _. refl;
    some = λ ready some. absurd (some (none ready));
    full = λ ready lt. let len = ap length (none ready) in absurd (omega arith);
    none = λ _. refl;
  },
  few,
)
