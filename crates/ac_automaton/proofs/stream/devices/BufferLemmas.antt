-- What a read puts into a buffer.
use Rattle.std.proofs.Common.{◌≡◌, ℕ, ◌+◌, ◌≤◌, List, [], ◌∷◌, ◌++◌, length, take, sym, ap, ◌∙◌, append_assoc, Option}
use Rattle.std.proofs.Math.Seq.{take-append-add}
use Rattle.std.proofs.lemmas.List.{take-take, take-append-le, length-take-le}
use Rattle.ac_automaton.specs.Stream.Devices.Buffer.{Held, Filled}
use Rattle.ac_automaton.specs.Stream.Devices.Moved.{HasGiven}
use Rattle.ac_automaton.specs.declared.stream.devices.watched.Watched.{Watched}

-- two buffers with equal fields are equal
pub held_from_parts : {a b : Held} → a.bytes ≡ b.bytes → a.room ≡ b.room → a.keep ≡ b.keep → a.read ≡ b.read
    → a.moved ≡ b.moved → a ≡ b
held_from_parts p q r s t = λ i. record { bytes = p i; room = q i; keep = r i; read = s i; moved = t i }

-- the front of a buffer after a read has appended bytes to it
pub front-more : (xs ys tail rest : List ℕ) {len filled n : ℕ} → filled + n ≤ len → filled ≤ length xs → n ≤ length ys
    → take (filled + n) (take len ((take filled xs ++ (ys ++ tail)) ++ rest)) ≡ take filled xs ++ take n ys
front-more xs ys tail rest {len} {filled} {n} fits within enough =
    let front : length (take filled xs) ≡ filled = length-take-le filled xs within in
    take-take (filled + n) len ((take filled xs ++ (ys ++ tail)) ++ rest) fits
    ∙ ap (take (filled + n))
    (append_assoc (take filled xs) (ys ++ tail) rest ∙ ap (λ t. take filled xs ++ t) (append_assoc ys tail rest))
    ∙ ap (λ k. take (k + n) (take filled xs ++ (ys ++ (tail ++ rest)))) (sym front)
    ∙ take-append-add (take filled xs) (ys ++ (tail ++ rest)) n
    ∙ ap (λ t. take filled xs ++ t) (take-append-le n ys (tail ++ rest) enough)

-- A read that returned bytes filled the buffer with them.
pub filled-by : {R : Type 0} {remaining : R → Option (List ℕ)} {old new : Held} {before after : Watched R}
    (buf : List ℕ) {front : List ℕ} {n : ℕ} → n ≤ length buf
    → HasGiven remaining before after (take n buf ∷ []) 0
    → old.bytes ≡ front → new.bytes ≡ front ++ take n buf
    → new.room ≡ old.room → new.keep ≡ old.keep → new.read ≡ old.read + n → new.moved ≡ old.moved
    → Filled remaining old new before after n
filled-by buf {n} within given was is room keep read moved = record {
  piece = take n buf;
  count = length-take-le n buf within;
  held = held_from_parts
      (is ∙ ap (λ t. t ++ take n buf) (sym was)) room keep read moved;
  read = given;
}
