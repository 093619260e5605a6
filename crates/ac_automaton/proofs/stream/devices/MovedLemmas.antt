-- What reads returned and writes took, one call after another.
use Rattle.std.proofs.Common.{◌≡◌, ◌≢◌, ◌↔◌, ℕ, ◌+◌, Bool, true, false, IsTrue, List, [], ◌∷◌, ◌++◌, length, take, Option, None, Some, sym, ap, ◌∙◌, subst, refl, arith, append_assoc, append-nil, add-zero}
use Rattle.std.specs.List.{concat}
use Rattle.std.specs.Io.KnownBytes.{Consumes, IsAtEnd, Keeps}
use Rattle.std.proofs.KnownBytes.{Consumes-nil, Consumes-trans}
use Rattle.std.proofs.lemmas.Bool.{false≢true}
use Rattle.std.proofs.lemmas.List.{length-take-le, same_from_push}
use Rattle.std.proofs.lemmas.List.Folds.{concat-append}
use Rattle.ac_automaton.specs.Stream.Devices.Moved.{AreFilled, AreInTurn, AreWhole, HasGiven, is_empty}
use Rattle.ac_automaton.specs.Stream.Devices.Watched.{ReadGave, ReadFailed, NoneTaken}
use Rattle.ac_automaton.specs.declared.stream.devices.watched.Watched.{Watched}
pub use Rattle.ac_automaton.specs.Stream.Devices.SendLaws.{taken-none, taken-then}

-- ---- pieces

-- one more piece that isn't empty keeps the pieces filled
pub AreFilled-push : (pieces : List (List ℕ)) {piece : List ℕ} → AreFilled pieces → piece ≢ []
    → AreFilled (pieces ++ piece ∷ [])
AreFilled-push [] f n = (n, tt)
AreFilled-push (p ∷ ps) f n = (f.0, AreFilled-push ps f.1 n)

-- of filled pieces, all but the last are filled and the last isn't empty
pub AreFilled-pop : (pieces : List (List ℕ)) {piece : List ℕ} → AreFilled (pieces ++ piece ∷ [])
    → AreFilled pieces × (piece ≢ [])
AreFilled-pop [] f = (tt, f.0)
AreFilled-pop (p ∷ ps) f = let rest = AreFilled-pop ps f.1 in ((f.0, rest.0), rest.1)

-- no pieces are not a whole input
pub none-whole : (filled : List (List ℕ)) → [] ≡ filled ++ [] ∷ [] → ⊥
none-whole [] e = cc
none-whole (p ∷ ps) e = cc

-- filled pieces are not a whole input
filled-whole : {pieces : List (List ℕ)} → AreFilled pieces → AreWhole pieces → ⊥
filled-whole filled w = (AreFilled-pop w.0 (subst AreFilled w.2 filled)).1 refl

-- the last pieces of a whole input are whole
whole-rest : (xs : List (List ℕ)) {y : List ℕ} {ys : List (List ℕ)} → AreWhole (xs ++ y ∷ ys) → AreWhole (y ∷ ys)
whole-rest [] w = w
whole-rest (x ∷ xs) {y} {ys} w = whole-rest xs (tail w.0 w.1 w.2)
  where
    tail : (filled : List (List ℕ)) → AreFilled filled → x ∷ (xs ++ y ∷ ys) ≡ filled ++ [] ∷ []
        → AreWhole (xs ++ y ∷ ys)
    tail [] some e = let none : xs ++ y ∷ ys ≡ [] = cc in absurd (more xs none)
      where
        more : (zs : List (List ℕ)) → zs ++ y ∷ ys ≡ [] → ⊥
        more [] d = cc
        more (z ∷ zs) d = cc
    tail (f ∷ fs) some e = let rest : xs ++ y ∷ ys ≡ fs ++ [] ∷ [] = cc in (fs, some.1, rest)

-- ---- reads in turn

-- reads in turn, and more reads in turn
turns-then : (before mid after : Bool) (xs ys : List (List ℕ)) → AreInTurn before xs mid → AreInTurn mid ys after
    → AreInTurn before (xs ++ ys) after
turns-then before mid after [] ys a b = subst (λ ended. AreInTurn ended ys after) a b
turns-then before mid after (x ∷ xs) ys a b = (a.0, turns-then (is_empty x) mid after xs ys a.1 b)

-- a read's end flag is set exactly when its piece is empty
pub ended-by : (ended : Bool) (piece : List ℕ) → (IsTrue ended ↔ (piece ≡ [])) → ended ≡ is_empty piece
ended-by true [] h = refl
ended-by true (x ∷ xs) h = let d : x ∷ xs ≡ [] = h.0 refl in cc
ended-by false [] h = absurd (false≢true (h.1 refl))
ended-by false (x ∷ xs) h = refl

-- a piece that tests as empty is empty
pub is_empty-none : (piece : List ℕ) → is_empty piece ≡ true → piece ≡ []
is_empty-none [] e = refl
is_empty-none (x ∷ xs) e = absurd (false≢true e)

-- a read that returns bytes does not end the input
pub still-open : {ended : Bool} (piece : List ℕ) → ended ≡ is_empty piece → piece ≢ [] → ended ≡ false
still-open [] is some = absurd (some refl)
still-open (x ∷ xs) is some = is

-- pieces that aren't empty leave `has_ended` unchanged
pub turns-filled : {before after : Bool} (pieces : List (List ℕ)) → AreInTurn before pieces after → AreFilled pieces
    → after ≡ before
turns-filled [] turns filled = turns
turns-filled (p ∷ ps) turns filled = turns-filled ps turns.1 filled.1 ∙ still-open p refl filled.0 ∙ sym turns.0

-- ---- a reader

-- a device that keeps its bytes consumes none
keeps-consumes : (a b : Option (List ℕ)) → Keeps a b → Consumes a b []
keeps-consumes None b h = tt
keeps-consumes (Some x) None h = absurd h
keeps-consumes (Some x) (Some y) h = sym h

module _ {R : Type 0} {remaining : R → Option (List ℕ)} where
  -- nothing was read yet
  pub given-none : {reader : Watched R} → HasGiven remaining reader reader [] 0
  given-none {reader} = record {
    pieces = sym (append-nil _);
    turns = refl;
    failures = sym (add-zero _);
    writes = record { taken = refl; flushed = refl; stalls = refl };
    device = Consumes-nil (remaining reader.inner);
    at_end = λ fine w. absurd (none-whole w.0 w.2);
  }

  -- one read
  pub given-gave : {old new : Watched R} {buffer : List ℕ} {n : ℕ} → old.ended ≡ false → ReadGave old new buffer n
      → NoneTaken old new
      → Consumes (remaining old.inner) (remaining new.inner) (take n buffer) → (n ≡ 0 → IsAtEnd (remaining new.inner))
      → HasGiven remaining old new (take n buffer ∷ []) 0
  given-gave {old} {new} {buffer} {n} unended gave writes consumed end =
      let none = λ (e : take n buffer ≡ []). sym (length-take-le n buffer gave.within) ∙ ap length e in
      record {
        pieces = gave.pieces;
        turns = (
          unended,
          ended-by new.ended (take n buffer)
              (λ e. ap (λ k. take k buffer) (gave.ended.0 e), λ e. gave.ended.1 (none e)),
        );
        failures = gave.failures ∙ sym (add-zero _);
        writes = writes;
        device =
            subst (Consumes (remaining old.inner) (remaining new.inner)) (sym (append-nil (take n buffer))) consumed;
        at_end = λ fine w. end (none (same_from_push [] w.0 (take n buffer) [] w.2).1);
      }

  -- one read that failed
  pub given-failed : {old new : Watched R} → old.ended ≡ false → ReadFailed old new → NoneTaken old new
      → Keeps (remaining old.inner) (remaining new.inner) → HasGiven remaining old new ([] ∷ []) 1
  given-failed {old} {new} unended failed writes kept = record {
    pieces = failed.pieces;
    turns = (unended, failed.ended);
    failures = failed.failures;
    writes = writes;
    device = keeps-consumes (remaining old.inner) (remaining new.inner) kept;
    at_end = λ fine w. absurd (omega (arith, fine));
  }

  -- Some reads and then more. Where there are no more, each of the first returned bytes.
  pub given-then : {old mid new : Watched R} {xs ys : List (List ℕ)} {failed : ℕ} → (ys ≡ [] → AreFilled xs)
      → HasGiven remaining old mid xs 0 → HasGiven remaining mid new ys failed
      → HasGiven remaining old new (xs ++ ys) failed
  given-then {old} {mid} {new} {xs} {ys} {failed} some a b = record {
    pieces = b.pieces ∙ ap (λ ps. ps ++ ys) a.pieces ∙ append_assoc old.pieces.items xs ys;
    turns = turns-then old.ended mid.ended new.ended xs ys a.turns b.turns;
    failures = b.failures ∙ ap (λ n. n + failed) (a.failures ∙ add-zero _);
    writes =
        record {
          taken = b.writes.taken ∙ a.writes.taken;
          flushed = b.writes.flushed ∙ a.writes.flushed;
          stalls = b.writes.stalls ∙ a.writes.stalls;
        };
    device = subst (Consumes (remaining old.inner) (remaining new.inner)) (sym (concat-append xs ys))
        (Consumes-trans _ _ _ (concat xs) (concat ys) a.device b.device);
    at_end = ends ys some b;
  }
    where
      ends : (zs : List (List ℕ)) → (zs ≡ [] → AreFilled xs) → HasGiven remaining mid new zs failed → failed ≡ 0
          → AreWhole (xs ++ zs) → IsAtEnd (remaining new.inner)
      ends [] filled h fine w = absurd (filled-whole (filled refl) (subst AreWhole (append-nil xs) w))
      ends (z ∷ zs) filled h fine w = h.at_end fine (whole-rest xs w)

  -- some reads and one read more
  pub given-push : {old mid new : Watched R} {pieces : List (List ℕ)} {piece : List ℕ} {failed : ℕ}
      → HasGiven remaining old mid pieces 0 → HasGiven remaining mid new (piece ∷ []) failed
      → HasGiven remaining old new (pieces ++ piece ∷ []) failed
  given-push {piece} a b = given-then (λ e. let d : piece ∷ [] ≡ [] = e in cc) a b
