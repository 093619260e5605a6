-- A search of a stream that is passed its pieces: what it takes of a piece, and that it doesn't matter how a text is
-- cut into pieces.
use Rattle.std.specs.Prelude.{◌≡◌, ◌≢◌, ℕ, ◌+◌, ◌<◌, ◌≤◌, List, [], ◌∷◌, ◌++◌, length, take, Result, Ok, Err}
use Rattle.ac_automaton.specs.Stream.{AreAllGiven, CanBeCounted, EachIsDecided, Sequence, StreamProgress, cut_of, read_by, room_of}
use Rattle.ac_automaton.specs.declared.error.StreamError.{StreamError}
use Rattle.ac_automaton.specs.declared.error.StreamError.TheVariants.{Position}

-- the bytes as a piece; none, if there are no bytes
abbrev pub as_piece : List ℕ → List (List ℕ)
as_piece [] = []
as_piece (byte ∷ bytes) = (byte ∷ bytes) ∷ []

-- The search took these bytes, and appended them to what it had read. Bytes before the cut may have been dropped.
pub record TakesBytes {q : Sequence} (s t : StreamProgress q) (bytes : List ℕ) : Type 0 where
  pub built : t.built ≡ s.built
  pub pieces : t.pieces ≡ s.pieces ++ as_piece bytes
  pub read : read_by t ≡ read_by s ++ bytes
  pub closed : t.closed ≡ s.closed
  pub given : t.given ≡ s.given
  pub at : t.at ≡ s.at
  pub last : t.last ≡ s.last
  pub from : (s.from ≤ t.from) × (t.from ≤ cut_of s)

-- How many bytes of a piece were taken. A search that isn't ready takes none. A ready one takes at least one, if there
-- is one, and all of them unless the room is full. If none was taken, nothing changed.
pub record TakesFront {q : Sequence} (Ready : Type 0) (s t : StreamProgress q) (piece : List ℕ) (n : ℕ) : Type 0 where
  pub within : n ≤ length piece
  pub waits : ¬ Ready → n ≡ 0
  pub some : Ready → piece ≢ [] → 0 < n
  pub full : Ready → n < length piece → length (read_by t) ≡ t.from + room_of q s.built
  pub none : n ≡ 0 → t ≡ s

-- The result of a push: how many bytes were taken from the front of the piece; or that there are more bytes than
-- places.
abbrev pub Pushes : {q : Sequence} → Type 0 → StreamProgress q → StreamProgress q → List ℕ → Result ℕ StreamError → Type 0
Pushes Ready s t piece (Ok n) = TakesBytes s t (take n piece) × TakesFront Ready s t piece n × CanBeCounted (read_by t)
Pushes Ready s t piece (Err Position) = (n : ℕ) × TakesBytes s t (take n piece) × ¬ CanBeCounted (read_by t)
Pushes Ready s t piece (Err other) = ⊥

-- ---- one text, cut in two ways

-- Two searches of one text for the same sequence by equal automata, however it is cut into pieces, return the same items.
abbrev pub PiecesChangeNothing : Type 0
PiecesChangeNothing =
    (q : Sequence) (s t : StreamProgress q) → s.built ≡ t.built → read_by s ≡ read_by t → (EachIsDecided s × AreAllGiven s)
    → (EachIsDecided t × AreAllGiven t) → s.given ≡ t.given
