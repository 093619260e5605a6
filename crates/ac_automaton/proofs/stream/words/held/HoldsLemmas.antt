-- What a search of a stream has read and taken, by the text that it holds.
use Rattle.std.proofs.Common.{◌≡◌, ⊎_elim, ℕ, ◌+◌, ◌≤◌, List, [], ◌∷◌, ◌++◌, length, take, Option, Result, Ok, Err, sym, ap, subst, refl, ◌∙◌, arith}
use Rattle.std.specs.List.{concat}
use Rattle.std.proofs.lemmas.List.{length-take-le}
use Rattle.ac_input.specs.declared.steps.Steps.{Steps}
use Rattle.ac_automaton.specs.Stream.{HasRead, IsSearched, ReadsMore, Sequence, StreamCounts, StreamProgress, cut_of, room_of}
use Rattle.ac_automaton.specs.Stream.Devices.Buffer.{room_for}
use Rattle.ac_automaton.specs.Stream.Devices.Moved.{HasGiven}
use Rattle.ac_automaton.specs.Stream.Push.{Pushes, TakesBytes, TakesFront}
use Rattle.ac_automaton.specs.Stream.WholeWords.Held.{AddsFront, CanKeepFrom, CountsMoved, Grows, ReadsText, TakesText, TextRead}
use Rattle.ac_automaton.specs.declared.error.StreamError.{StreamError}
use Rattle.ac_automaton.specs.declared.error.StreamError.TheVariants.{Config, Memory, Position, Read, Write, WriteZero}
use Rattle.ac_automaton.specs.declared.stream.devices.watched.Watched.{Watched}
use Rattle.ac_automaton.proofs.stream.StreamPushLemmas.{as_piece-some}
use Rattle.ac_automaton.proofs.stream.words.held.HeldTextLemmas.{text-read}

-- A search holds a text, of which it needs no byte before a place.
pub record Holds {q : Sequence} (s : StreamProgress q) (t : TextRead) (place : ℕ) : Type 0 where
  pub pieces : s.pieces ≡ t.pieces
  pub from : s.from ≡ t.from
  pub moved : s.moved ≡ t.moved
  pub room : room_of q s.built ≡ room_for t.keep
  pub can : CanKeepFrom place t
  pub near : place ≤ cut_of s

-- how far it has come when the text has grown
abbrev pub grown_by : {q : Sequence} → StreamProgress q → TextRead → StreamProgress q
grown_by s t = record s { pieces = t.pieces; from = t.from; moved = t.moved }

module _ {q : Sequence} {s : StreamProgress q} {old : TextRead} (new : TextRead) {place : ℕ} (holds : Holds s old place) where
  -- it dropped no byte from its cut on
  grown-from : {piece : List ℕ} → Grows place old new piece → (s.from ≤ new.from) × (new.from ≤ cut_of s)
  grown-from grows =
      let from = holds.from in
      let can = holds.can.held in
      let near = holds.near in
      ⊎_elim
      (λ (e : new.from ≡ old.from). (omega (arith, e, from), omega (arith, e, can, near)))
      (λ (e : new.from ≡ place). (omega (arith, e, from, can), omega (arith, e, near)))
      grows.from

  -- the pieces that it was given
  grown-pieces : {piece : List ℕ} → Grows place old new piece → new.pieces ≡ s.pieces ++ piece ∷ []
  grown-pieces {piece} grows = grows.pieces ∙ ap (λ l. l ++ piece ∷ []) (sym holds.pieces)

  -- what was moved was counted
  counts-moved : {before after : Steps} → CountsMoved old new before after → StreamCounts s (grown_by s new) before after
  counts-moved (bytes, done, moved) =
      (0, 0, bytes, done, omega arith, omega arith, moved ∙ ap (λ n. n + bytes) (sym holds.moved))

  -- ---- a read

  has-read : {R : Type 0} {remaining : R → Option (List ℕ)} {before after : Watched R} {piece : List ℕ} {failed : ℕ}
      → Grows place old new piece → HasGiven remaining before after (piece ∷ []) failed
      → HasRead remaining s (grown_by s new) before after piece failed
  has-read {piece = piece} grows gave = record {
    built = refl;
    pieces = grown-pieces grows;
    closed = refl;
    given = refl;
    at = refl;
    last = refl;
    from = (grown-from grows).1;
    short = subst (λ n. length piece ≤ n) (sym holds.room) grows.short;
    read = gave;
  }

  -- what a read of the text is to the search
  reads-more : {R : Type 0} (remaining : R → Option (List ℕ)) (before after : Watched R) (result : Result ℕ StreamError)
      → ReadsText remaining place old new before after result → ReadsMore remaining s (grown_by s new) before after result
  reads-more remaining before after (Ok n) (piece, grows, gave, count, few) = (piece, has-read grows gave, count, few)
  reads-more remaining before after (Err (Read error)) (grows, gave) = has-read grows gave
  reads-more remaining before after (Err Position) (piece, grows, gave, many) = (piece, has-read grows gave, many)
  reads-more remaining before after (Err (Config error)) never = absurd never
  reads-more remaining before after (Err (Write error)) never = absurd never
  reads-more remaining before after (Err WriteZero) never = absurd never
  reads-more remaining before after (Err Memory) never = absurd never

  -- ---- a push

  takes-bytes : {piece : List ℕ} {n : ℕ} → AddsFront place old new piece n → TakesBytes s (grown_by s new) (take n piece)
  takes-bytes {piece} {n} adds =
      let count = length-take-le n piece adds.within in
      record {
        built = refl;
        pieces = grown-pieces adds.grows
            ∙ ap (λ l. s.pieces ++ l) (sym (as_piece-some (take n piece) (let some = adds.some in omega (arith, some, count))));
        read = ap concat (grown-pieces adds.grows) ∙ text-read s.pieces (take n piece);
        closed = refl;
        given = refl;
        at = refl;
        last = refl;
        from = grown-from adds.grows;
      }

  takes-front : {piece : List ℕ} {n : ℕ} → IsSearched s → AddsFront place old new piece n
      → TakesFront (IsSearched s) s (grown_by s new) piece n
  takes-front {piece} {n} searched adds = record {
    within = adds.within;
    waits = λ open_. absurd (open_ searched);
    some = λ _ _. adds.some;
    full = λ _ lt. adds.full lt ∙ ap (λ k. new.from + k) (sym holds.room);
    none = λ z. let some = adds.some in absurd (omega (arith, z, some));
  }

  -- what a push to the text is to the search
  pushes-on : (piece : List ℕ) (result : Result ℕ StreamError) → IsSearched s
      → TakesText place old new piece result → Pushes (IsSearched s) s (grown_by s new) piece result
  pushes-on piece (Ok n) searched (adds, few) = (takes-bytes adds, takes-front searched adds, few)
  pushes-on piece (Err Position) searched (n, adds, many) = (n, takes-bytes adds, many)
  pushes-on piece (Err (Config error)) searched never = absurd never
  pushes-on piece (Err (Read error)) searched never = absurd never
  pushes-on piece (Err (Write error)) searched never = absurd never
  pushes-on piece (Err WriteZero) searched never = absurd never
  pushes-on piece (Err Memory) searched never = absurd never

-- ---- the piece that was added

-- by a read
read-grows : {R : Type 0} (remaining : R → Option (List ℕ)) (place : ℕ) (s t : TextRead) (before after : Watched R)
    (result : Result ℕ StreamError) → ReadsText remaining place s t before after result
    → (piece : List ℕ) × Grows place s t piece
read-grows remaining place s t before after (Ok n) (piece, grows, gave, count, few) = (piece, grows)
read-grows remaining place s t before after (Err (Read error)) (grows, gave) = ([], grows)
read-grows remaining place s t before after (Err Position) (piece, grows, gave, many) = (piece, grows)
read-grows remaining place s t before after (Err (Config error)) never = absurd never
read-grows remaining place s t before after (Err (Write error)) never = absurd never
read-grows remaining place s t before after (Err WriteZero) never = absurd never
read-grows remaining place s t before after (Err Memory) never = absurd never

-- by a push
push-grows : (place : ℕ) (s t : TextRead) (piece : List ℕ) (result : Result ℕ StreamError)
    → TakesText place s t piece result → (bytes : List ℕ) × Grows place s t bytes
push-grows place s t piece (Ok n) (adds, few) = (take n piece, adds.grows)
push-grows place s t piece (Err Position) (n, adds, many) = (take n piece, adds.grows)
push-grows place s t piece (Err (Config error)) never = absurd never
push-grows place s t piece (Err (Read error)) never = absurd never
push-grows place s t piece (Err (Write error)) never = absurd never
push-grows place s t piece (Err WriteZero) never = absurd never
push-grows place s t piece (Err Memory) never = absurd never

-- ---- what a search keeps

-- A search that holds a text, where it is known what is right of it when the text has grown, and how far it has come then.
module _ {q : Sequence} {s : StreamProgress q} {old : TextRead} {place : ℕ} (holds : Holds s old place)
    (Right : TextRead → Type 0) (come : TextRead → StreamProgress q)
    (kept : (t : TextRead) (piece : List ℕ) → Grows place old t piece → Right t × (come t ≡ grown_by s t)) where
  -- after a read
  pub read-on : (t : TextRead) {R : Type 0} (remaining : R → Option (List ℕ)) (r0 r1 : Watched R) {before after : Steps}
      (result : Result ℕ StreamError) → ReadsText remaining place old t r0 r1 result → CountsMoved old t before after
      → Right t × ReadsMore remaining s (come t) r0 r1 result × StreamCounts s (come t) before after
  read-on t remaining r0 r1 {before} {after} result reads counts =
      let piece = read-grows remaining place old t r0 r1 result reads in
      let grown = kept t piece.0 piece.1 in (
        grown.0,
        subst (λ z. ReadsMore remaining s z r0 r1 result) (sym grown.1) (reads-more t holds remaining r0 r1 result reads),
        subst (λ z. StreamCounts s z before after) (sym grown.1) (counts-moved t holds counts),
      )

  -- after a push
  pub push-on : (t : TextRead) (piece : List ℕ) {before after : Steps} (result : Result ℕ StreamError) → IsSearched s
      → TakesText place old t piece result → CountsMoved old t before after
      → Right t × Pushes (IsSearched s) s (come t) piece result × StreamCounts s (come t) before after
  push-on t piece {before} {after} result searched takes counts =
      let bytes = push-grows place old t piece result takes in
      let grown = kept t bytes.0 bytes.1 in (
        grown.0,
        subst (λ z. Pushes (IsSearched s) s z piece result) (sym grown.1) (pushes-on t holds piece result searched takes),
        subst (λ z. StreamCounts s z before after) (sym grown.1) (counts-moved t holds counts),
      )
