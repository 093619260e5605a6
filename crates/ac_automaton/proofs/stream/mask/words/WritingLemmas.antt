-- How a call ends that writes a text while it reads: after one more read, by the end of the input or by an error.
use Rattle.std.proofs.Common.{◌≡◌, ℕ, ◌+◌, ◌≤◌, List, [], ◌∷◌, ◌++◌, length, Option, Ok, Err, refl, sym, ap, subst, ◌∙◌, arith, append-nil, append_assoc}
use Rattle.std.specs.List.{concat}
use Rattle.std.specs.declared.io.Error.{Error}
use Rattle.std.proofs.lemmas.List.Elements.{All-push}
use Rattle.std.proofs.lemmas.List.Folds.{concat-append}
use Rattle.ac_input.specs.Laws.BeginningLaws.{IsBeginning}
use Rattle.ac_automaton.specs.Stream.{CanBeCounted}
use Rattle.ac_automaton.specs.Stream.Answer.{WritesStream, WroteToFailedWrite}
use Rattle.ac_automaton.specs.Stream.Devices.Moved.{AllFit, AreFilled, HasGiven, HasMoved, HasTaken, Moved, but_last}
use Rattle.ac_automaton.specs.Stream.Devices.Watched.{IsOfWrite, NoneRead, WritesWhole}
use Rattle.ac_automaton.specs.declared.error.StreamError.{StreamError}
use Rattle.ac_automaton.specs.declared.error.StreamError.TheVariants.{Config, Read, Write, WriteZero, Memory, Position}
use Rattle.ac_automaton.specs.declared.stream.devices.watched.Watched.{Watched}
use Rattle.ac_automaton.proofs.stream.StreamIterLemmas.{but_last-push}
use Rattle.ac_automaton.proofs.stream.devices.MovedLemmas.{given-push, taken-then}

-- one piece more
pub concat-push : (pieces : List (List ℕ)) (piece : List ℕ) → concat (pieces ++ piece ∷ []) ≡ concat pieces ++ piece
concat-push pieces piece = concat-append pieces (piece ∷ []) ∙ ap (λ l. concat pieces ++ l) (append-nil piece)

module _ {R W : Type 0} (remaining : R → Option (List ℕ)) (contents : W → Option (List ℕ)) (room : ℕ)
    (output : List ℕ → List ℕ) (front : List ℕ → List ℕ → Type 0) {r0 r : Watched R} {w0 w : Watched W}
    (pieces : List (List ℕ)) (filled : AreFilled pieces) (short : AllFit room pieces)
    (read : HasGiven remaining r0 r pieces 0) (text : List ℕ) (written : HasTaken contents w0 w text 0 0) where
  -- with one piece more they still fit
  still-short : (piece : List ℕ) → length piece ≤ room → AllFit room (pieces ++ piece ∷ [])
  still-short piece fits = All-push (λ l. length l ≤ room) pieces piece short fits

  -- all was read, and the rest was written
  pub ended-whole : {r1 : Watched R} {w1 : Watched W} (rest : List ℕ) → HasGiven remaining r r1 ([] ∷ []) 0
      → HasTaken contents w w1 rest 0 0 → text ++ rest ≡ output (concat pieces)
      → WritesStream remaining contents room output front r0 r1 w0 w1 (Ok tt)
  ended-whole {w1 = w1} rest given wrote all = (
    record {
      pieces = pieces ++ [] ∷ [];
      failed_reads = 0;
      taken = output (concat pieces);
      failed_writes = 0;
      stalled_writes = 0;
    },
    record {
      reader = given-push read given;
      writer = subst (λ l. HasTaken contents w0 w1 l 0 0) all (taken-then written wrote);
    },
    still-short [] (omega arith),
    record {
      whole = (pieces, filled, refl);
      written = ap output (sym (concat-push pieces [] ∙ append-nil (concat pieces)));
      failed = (refl, refl, refl);
    },
  )

  -- a read failed
  pub ended-read : {r1 : Watched R} (error : Error) → HasGiven remaining r r1 ([] ∷ []) 1 → front (concat pieces) text
      → WritesStream remaining contents room output front r0 r1 w0 w (Err (Read error))
  ended-read error given is_front = (
    record { pieces = pieces ++ [] ∷ []; failed_reads = 1; taken = text; failed_writes = 0; stalled_writes = 0 },
    record { reader = given-push read given; writer = written },
    still-short [] (omega arith),
    record {
      written = subst (λ x. front x text) (sym (concat-push pieces [] ∙ append-nil (concat pieces))) is_front;
      failed = (refl, refl, refl);
    },
  )

  -- there are more bytes than places
  pub ended-places : {r1 : Watched R} (piece : List ℕ) → HasGiven remaining r r1 (piece ∷ []) 0 → length piece ≤ room
      → ¬ CanBeCounted (concat pieces ++ piece) → IsBeginning text (output (concat pieces ++ piece))
      → WritesStream remaining contents room output front r0 r1 w0 w (Err Position)
  ended-places piece given fits many begins = (
    record { pieces = pieces ++ piece ∷ []; failed_reads = 0; taken = text; failed_writes = 0; stalled_writes = 0 },
    record { reader = given-push read given; writer = written },
    still-short piece fits,
    record {
      long = subst (λ x. ¬ CanBeCounted x) (sym (concat-push pieces piece)) many;
      written = subst (λ x. IsBeginning text (output x)) (sym (concat-push pieces piece)) begins;
      failed = (refl, refl, refl);
    },
  )

  -- a write failed, of some of what follows
  pub ended-write : {r1 : Watched R} {w1 : Watched W} (piece bytes rest : List ℕ) (error : StreamError)
      → HasGiven remaining r r1 (piece ∷ []) 0 → length piece ≤ room → front (concat pieces) text
      → output (concat pieces ++ piece) ≡ (text ++ bytes) ++ rest → WritesWhole contents w w1 bytes (Err error)
      → NoneRead w w1 → WritesStream remaining contents room output front r0 r1 w0 w1 (Err error)
  ended-write {r1} {w1} piece bytes rest error given fits is_front all wrote reads = by error wrote.1
    where
      took : List ℕ
      took = wrote.0.front

      all-of : output (concat (pieces ++ piece ∷ [])) ≡ (text ++ took) ++ (wrote.0.rest ++ rest)
      all-of =
          ap output (concat-push pieces piece) ∙ all ∙ ap (λ l. (text ++ l) ++ rest) wrote.0.split
          ∙ ap (λ l. l ++ rest) (sym (append_assoc text took wrote.0.rest))
          ∙ append_assoc (text ++ took) wrote.0.rest rest

      early : front (concat (but_last (pieces ++ piece ∷ []))) text
      early = subst (λ ps. front (concat ps) text) (sym (but_last-push pieces piece)) is_front

      stopped : (stalls : ℕ) → w1.stalls.value ≡ w.stalls.value + stalls
          → (m : Moved) × HasMoved remaining contents r0 r1 w0 w1 m × AllFit room m.pieces
          × WroteToFailedWrite output front m stalls
      stopped stalls stalled = (
        record {
          pieces = pieces ++ piece ∷ [];
          failed_reads = 0;
          taken = text ++ took;
          failed_writes = 1;
          stalled_writes = stalls;
        },
        record {
          reader = given-push read given;
          writer = taken-then written
              (record {
                taken = wrote.0.taken;
                flushed = wrote.0.flushed;
                failures = wrote.0.failures;
                stalls = stalled;
                reads = reads;
                device = wrote.0.device;
              });
        },
        still-short piece fits,
        record {
          at_least = (text, early, (took, refl));
          at_most = (wrote.0.rest ++ rest, all-of);
          failed = (refl, refl, refl);
        },
      )

      by : (e : StreamError) → IsOfWrite w w1 e → WritesStream remaining contents room output front r0 r1 w0 w1 (Err e)
      by (Write e) kind = stopped 0 (kind ∙ (let z : w.stalls.value ≡ w.stalls.value + 0 = omega arith in z))
      by WriteZero kind = stopped 1 kind
      by (Config e) kind = absurd kind
      by (Read e) kind = absurd kind
      by Memory kind = absurd kind
      by Position kind = absurd kind
