-- What the matches of a stream read and return, turn by turn.
use Rattle.std.proofs.Common.{◌≡◌, ◌≢◌, ◌⊎◌, ⊎_elim, inl, inr, ℕ, ◌+◌, ◌-◌, ◌*◌, ◌<◌, ◌≤◌, Bool, true, false, if◌then◌else◌, IsTrue, List, [], ◌∷◌, ◌++◌, length, take, drop, Option, None, Some, Ok, Err, sym, ap, subst, refl, ◌∙◌, arith, append-nil, append_assoc, length-append}
use Rattle.std.specs.List.{concat}
use Rattle.std.proofs.Math.Seq.{take-append_seam}
use Rattle.std.proofs.lemmas.Bool.{false≢true}
use Rattle.std.proofs.lemmas.List.Elements.{All-push}
use Rattle.std.proofs.lemmas.List.Folds.{concat-append}
use Rattle.ac_input.specs.declared.steps.Steps.{Steps}
use Rattle.std.specs.Io.KnownBytes.{IsAtEnd}
use Rattle.ac_input.specs.Number.{usize_max}
use Rattle.ac_input.specs.declared.search.MatchKind.TheVariants.{Standard}
use Rattle.ac_input.specs.Occurrence.{Occurrence}
use Rattle.ac_automaton.specs.Stream.{AllWords, AreAllGiven, CanBeCounted, EachIsDecided, FindsHeld, HasRead, IsHeldItem, IsPrompt, NothingIsLive, Occurrences, Picks, ReadsMore, ReadsNothing, Sequence, StaysOpen, StreamCounts, StreamProgress, Words, closed_by, end_of, items_of, made_from, read_by, room_of}
use Rattle.ac_automaton.specs.Stream.Devices.Moved.{AreFilled, AreWhole, but_last}
use Rattle.ac_automaton.specs.Stream.Iter.{HadGiven, HasGained, IsReadForItem, IsStopped, NextGives, StaysStopped, TurnGives, TurnReads, read_before}
use Rattle.ac_automaton.specs.declared.error.StreamError.{StreamError}
use Rattle.ac_automaton.specs.declared.error.StreamError.TheVariants.{Config, Read, Write, WriteZero, Memory, Position}
use Rattle.ac_automaton.specs.declared.stream.Turn.TheVariants.{Found, More, Ended, Over, Failed}
use Rattle.ac_automaton.specs.declared.stream.devices.watched.Watched.{Watched}
use Rattle.ac_automaton.proofs.stream.devices.MovedLemmas.{AreFilled-push, given-none, given-push, is_empty-none}
use Rattle.ac_automaton.proofs.stream.SequenceLemmas.{prompt_cases, waits-unless_prompt}
use Rattle.ac_automaton.proofs.stream.StreamCountLemmas.{StreamCounts-then}

-- ---- one turn

-- where no further match was found and places can be counted, all was searched and all matches were returned
all-given-then : {q : Sequence} (s u : StreamProgress q) → FindsHeld s None u → CanBeCounted (read_by u) → AreAllGiven u
all-given-then s u finds few = finds.2 (subst (λ l. CanBeCounted (concat l)) finds.0.pieces few)

-- a read after which places can't be counted returned a piece that isn't empty
brought-some : {q : Sequence} (u t : StreamProgress q) (piece : List ℕ) → CanBeCounted (read_by u)
    → t.pieces ≡ u.pieces ++ piece ∷ [] → ¬ CanBeCounted (read_by t) → piece ≢ []
brought-some u t piece few is many = λ none.
    let e : read_by t ≡ read_by u ++ [] = ap concat is ∙ ap (λ l. concat (u.pieces ++ l ∷ [])) none
    ∙ concat-append u.pieces ([] ∷ []) in
    many (subst CanBeCounted (sym (e ∙ append-nil (read_by u))) few)

-- a turn whose read fails returns the error of that read
pub turn-failed : {R : Type 0} {q : Sequence} (remaining : R → Option (List ℕ)) (s u t : StreamProgress q)
    (before after : Watched R) (error : StreamError) → before.ended ≡ false → u.closed ≡ false → FindsHeld s None u
    → CanBeCounted (read_by u) → ReadsMore remaining u t before after (Err error)
    → TurnGives remaining s t before after (Failed error)
turn-failed {R} {q} remaining s u t before after error open_ unclosed finds few read = by error read
  where
    reads : (piece : List ℕ) (failed : ℕ) → HasRead remaining u t before after piece failed
        → TurnReads remaining s t before after piece failed
    reads piece failed read =
        record {
          mid = u;
          few = few;
          nothing = finds.0;
          given = finds.1;
          unclosed = unclosed;
          all = all-given-then s u finds few;
          read = read;
        }

    by : (error : StreamError) → ReadsMore remaining u t before after (Err error)
        → TurnGives remaining s t before after (Failed error)
    by (Config error) read = read
    by (Read error) read = reads [] 1 read
    by (Write error) read = read
    by WriteZero read = read
    by Memory read = read
    by Position read = (read.0, reads read.0 0 read.1, brought-some u t read.0 few read.1.pieces read.2, read.2)

-- ---- what was gained

-- at first nothing was gained
pub gained-none : {R : Type 0} {q : Sequence} (remaining : R → Option (List ℕ)) (s : StreamProgress q)
    (before : Watched R) → HasGained remaining s s before before [] 0
gained-none remaining s before = record {
  built = refl;
  pieces = sym (append-nil s.pieces);
  last = omega arith;
  short = λ k d lt. absurd (omega arith);
  read = given-none;
}

-- where nothing is read, nothing more is gained
pub gained-same : {R : Type 0} {q : Sequence} {remaining : R → Option (List ℕ)} {s t u : StreamProgress q}
    {before after : Watched R} {gained : List (List ℕ)} {failed : ℕ}
    → HasGained remaining s t before after gained failed → ReadsNothing t u
    → HasGained remaining s u before after gained failed
gained-same has nothing = record {
  built = nothing.built ∙ has.built;
  pieces = nothing.pieces ∙ has.pieces;
  last = let a = has.last in let b = nothing.last in omega arith;
  short = has.short;
  read = has.read;
}

-- a turn that reads gains one piece more
pub gained-more : {R : Type 0} {q : Sequence} {remaining : R → Option (List ℕ)} {s t u : StreamProgress q}
    {before mid after : Watched R} {gained : List (List ℕ)} {piece : List ℕ} {failed : ℕ}
    → HasGained remaining s t before mid gained 0 → TurnReads remaining t u mid after piece failed
    → HasGained remaining s u before after (gained ++ piece ∷ []) failed
gained-more {R} {q} {s} {gained} {piece} has turn =
    let read = turn.read in
    let built : turn.mid.built ≡ s.built = turn.nothing.built ∙ has.built in
    record {
      built = read.built ∙ built;
      pieces = read.pieces ∙ ap (λ l. l ++ piece ∷ []) (turn.nothing.pieces ∙ has.pieces)
          ∙ append_assoc s.pieces gained (piece ∷ []);
      last = let a = has.last in let b = turn.nothing.last in let e = read.last in omega arith;
      short = All-push (λ l. length l ≤ room_of q s.built) gained piece has.short
          (subst (λ b. length piece ≤ room_of q b) built read.short);
      read = given-push has.read read.read;
    }

-- After some turns the reader goes on, each read having returned bytes; or the last read was empty, and no more comes.
pub data HowItStands {R : Type 0} {q : Sequence} (remaining : R → Option (List ℕ)) (s t : StreamProgress q)
    (after : Watched R) (gained : List (List ℕ)) : Type 0 where
  GoesOnReading : AreFilled gained → (gained ≢ [] → (¬ IsTrue after.ended) × (t.closed ≡ false))
      → HowItStands remaining s t after gained
  HasEnded : AreWhole gained → after.ended ≡ true → IsAtEnd (remaining after.inner)
      → (IsPrompt q t.built.dictionary → AreAllGiven t) → (¬ IsPrompt q t.built.dictionary → t.closed ≡ true)
      → HowItStands remaining s t after gained

-- The last turn read. All decided items of what was read before had been returned, and what followed could still change the
-- next one.
pub record HasJustRead {q : Sequence} (s t : StreamProgress q) : Type 0 where
  pub all : HadGiven s t
  pub at : t.at ≡ length (read_before t)
  pub front : take t.at (read_by t) ≡ read_before t
  pub countable : CanBeCounted (read_by t)
  pub open_ : StaysOpen q s.built.dictionary (read_before t) s.given

-- Some turns have been made, each of which read.
pub record HasTurned {R : Type 0} {q : Sequence} (remaining : R → Option (List ℕ)) (s t : StreamProgress q)
    (before after : Watched R) (x y : Steps) : Type 0 where
  pub gained : List (List ℕ)
  pub has : HasGained remaining s t before after gained 0
  pub how : HowItStands remaining s t after gained
  pub given : t.given ≡ s.given
  pub fresh : gained ≢ [] → HasJustRead s t
  pub first : gained ≡ [] → (t ≡ s) × (after ≡ before)
  pub unended : gained ≢ [] → (before.ended ≡ false) × CanBeCounted (read_by s) × (s.closed ≡ false)
  pub on : s.built.dictionary.kind ≡ Standard → s.at ≤ t.at
  pub counts : StreamCounts s t x y

-- a list is empty or not
none-or-some : {X : Type 0} (xs : List X) → (xs ≡ []) ⊎ (xs ≢ [])
none-or-some [] = inl refl
none-or-some (x ∷ xs) = inr (λ e. let d : x ∷ xs ≡ [] = e in cc)

-- a list and one more is not empty
more-some : {X : Type 0} (xs : List X) (x : X) → xs ++ x ∷ [] ≢ []
more-some [] x = λ e. let d : x ∷ [] ≡ [] = e in cc
more-some (y ∷ ys) x = λ e. let d : y ∷ (ys ++ x ∷ []) ≡ [] = e in cc

-- where a turn reads, the reader was open at first and places could be counted
open-first : {R : Type 0} {q : Sequence} {remaining : R → Option (List ℕ)} {s t u : StreamProgress q}
    {before mid after : Watched R} {x y : Steps} {piece : List ℕ} {failed : ℕ}
    → HasTurned remaining s t before mid x y
    → TurnReads remaining t u mid after piece failed
    → (before.ended ≡ false) × CanBeCounted (read_by s) × (s.closed ≡ false)
open-first {R} has turn = ⊎_elim
    (λ (none : has.gained ≡ []).
    let same = has.first none in (
      ap (λ r. r.ended) (sym same.1) ∙ turn.read.read.turns.0,
      subst (λ l. CanBeCounted (concat l)) (turn.nothing.pieces ∙ ap (λ z. z.pieces) same.0) turn.few,
      ap (λ z. z.closed) (sym same.0) ∙ sym turn.nothing.closed ∙ turn.unclosed,
    ))
    has.unended
    (none-or-some has.gained)

-- removing the last piece undoes adding it
pub but_last-push : (pieces : List (List ℕ)) (piece : List ℕ) → but_last (pieces ++ piece ∷ []) ≡ pieces
but_last-push [] piece = refl
but_last-push (p ∷ []) piece = refl
but_last-push (p ∷ (q ∷ ps)) piece = ap (λ t. p ∷ t) (but_last-push (q ∷ ps) piece)

-- the bytes of all pieces but the last are those read before this turn
before-last : {R : Type 0} {q : Sequence} {remaining : R → Option (List ℕ)} {t u : StreamProgress q}
    {mid after : Watched R} {piece : List ℕ} {failed : ℕ} → (turn : TurnReads remaining t u mid after piece failed)
    → read_before u ≡ read_by turn.mid
before-last {piece} turn =
    ap (λ l. concat (but_last l)) turn.read.pieces ∙ ap concat (but_last-push turn.mid.pieces piece)

-- what came before one more read
module _ {R : Type 0} {q : Sequence} {remaining : R → Option (List ℕ)} {s t u : StreamProgress q}
    {before mid after : Watched R} {x y : Steps} {piece : List ℕ} {failed : ℕ}
    (has : HasTurned remaining s t before mid x y) (turn : TurnReads remaining t u mid after piece failed) where
  turned-built : turn.mid.built ≡ s.built
  turned-built = turn.nothing.built ∙ has.has.built

  turned-given : turn.mid.given ≡ s.given
  turned-given = turn.given ∙ has.given

  turned-before : read_before u ≡ read_by turn.mid
  turned-before = before-last turn

  -- where each item is decided with its last byte, all of what was read before the turn had been returned
  pub turned-had : HadGiven s u
  turned-had = λ prompt.
      sym turned-given ∙ turn.all.all (inl (subst (λ b. IsPrompt q b.dictionary) (sym turned-built) prompt))
      ∙ ap (λ b. items_of q b.dictionary (read_by turn.mid)) turned-built
      ∙ ap (items_of q s.built.dictionary) (sym turned-before)

  -- what a turn leaves after which places can be counted
  pub turned-fresh : CanBeCounted (read_by u) → HasJustRead s u
  turned-fresh few = record {
    all = turned-had;
    at = at;
    front = ap (λ n. take n (read_by u)) at ∙ ap (take (length (read_before u))) text
        ∙ take-append_seam (read_before u) piece;
    countable = few;
    open_ = turned-open;
  }
    where
      at : u.at ≡ length (read_before u)
      at = turn.read.at ∙ turn.all.searched ∙ ap length (sym turned-before)

      text : read_by u ≡ read_before u ++ piece
      text = ap concat turn.read.pieces ∙ concat-append turn.mid.pieces (piece ∷ [])
          ∙ ap (λ l. read_by turn.mid ++ l) (append-nil piece) ∙ ap (λ l. l ++ piece) (sym turned-before)

      -- what followed could still change the next item
      turned-open : StaysOpen q s.built.dictionary (read_before u) s.given
      turned-open =
          subst (λ l. StaysOpen q s.built.dictionary l s.given) (sym turned-before)
          (subst (λ os. StaysOpen q s.built.dictionary (read_by turn.mid) os) turned-given
          (subst (λ b. StaysOpen q b.dictionary (read_by turn.mid) turn.mid.given) turned-built turn.all.open_))

  -- no piece gained so far is empty
  turned-reads : HowItStands remaining s t mid has.gained → AreFilled has.gained
  turned-reads (GoesOnReading filled goes) = filled
  turned-reads (HasEnded whole ended at_end given closed) = absurd (false≢true (sym turn.read.read.turns.0 ∙ ended))

  pub turned-filled : AreFilled has.gained
  turned-filled = turned-reads has.how

-- some turns and one more that read some bytes
pub turned-more : {R : Type 0} {q : Sequence} {remaining : R → Option (List ℕ)} {s t u : StreamProgress q}
    {before mid after : Watched R} {x y z : Steps} → HasTurned remaining s t before mid x y
    → TurnGives remaining t u mid after More → StreamCounts t u y z → HasTurned remaining s u before after x z
turned-more {s} {t} {u} {x} {y} {z} has turn counts =
    let read = turn.1.read in
    let piece = turn.0 in
    record {
      gained = has.gained ++ piece ∷ [];
      has = gained-more has.has turn.1;
      how = GoesOnReading
          (AreFilled-push has.gained (turned-filled has turn.1) turn.2)
          (λ some. (λ e. turn.2 (is_empty-none piece (sym read.read.turns.1 ∙ e)), read.closed ∙ turn.1.unclosed));
      given = read.given ∙ turn.1.given ∙ has.given;
      fresh = λ some. turned-fresh has turn.1 turn.3;
      first = λ none. absurd (more-some has.gained piece none);
      unended = λ some. open-first has turn.1;
      on = λ standard. let a = has.on standard in
          let b = turn.1.nothing.on (subst (λ b. b.dictionary.kind ≡ Standard) (sym has.has.built) standard) in
          let e = read.at in omega arith;
      counts = StreamCounts-then s t u x y z has.counts counts;
    }

-- after an empty piece all matches of what was read are still returned
all-given-still : {R : Type 0} {q : Sequence} {remaining : R → Option (List ℕ)} {t u : StreamProgress q}
    {mid after : Watched R} {failed : ℕ} → TurnReads remaining t u mid after [] failed → AreAllGiven u
all-given-still {R} {q} {u} turn =
    let read = turn.read in
    let same : read_by u ≡ read_by turn.mid = ap concat read.pieces ∙ concat-append turn.mid.pieces ([] ∷ [])
    ∙ append-nil (read_by turn.mid) in
    let rest : drop (end_of u.given) (read_by u) ≡ drop (end_of turn.mid.given) (read_by turn.mid) =
    ap (λ os. drop (end_of os) (read_by u)) read.given ∙ ap (drop (end_of turn.mid.given)) same in
    record {
      searched = read.at ∙ turn.all.searched ∙ ap length (sym same);
      all = λ each. read.given ∙ turn.all.all (each-before each) ∙ ap (items_of q turn.mid.built.dictionary) (sym same)
          ∙ ap (λ b. items_of q b.dictionary (read_by u)) (sym read.built);
      open_ = subst (λ l. StaysOpen q u.built.dictionary l u.given) (sym same)
          (subst (λ os. StaysOpen q u.built.dictionary (read_by turn.mid) os) (sym read.given)
          (subst (λ b. StaysOpen q b.dictionary (read_by turn.mid) turn.mid.given) (sym read.built)
          turn.all.open_));
      anew = λ done. read.last ∙ turn.all.anew
          (subst (λ b. NothingIsLive (made_from q b.dictionary) (drop (end_of turn.mid.given) (read_by turn.mid)))
          read.built (subst (NothingIsLive (made_from q u.built.dictionary)) rest done)) ∙ sym read.at;
    }
  where
    each-before : EachIsDecided u → EachIsDecided turn.mid
    each-before (inl prompt) = inl (subst (λ b. IsPrompt q b.dictionary) turn.read.built prompt)
    each-before (inr closed) = inr (sym turn.read.closed ∙ closed)

-- where each item is decided with its last byte, closing a search leaves all of them returned
given-closed : {q : Sequence} (u : StreamProgress q) → IsPrompt q u.built.dictionary → AreAllGiven u
    → AreAllGiven (closed_by u)
given-closed u prompt all =
    record { searched = all.searched; all = λ each. all.all (inl prompt); open_ = all.open_; anew = all.anew }

-- some turns and one more that ended the input
pub turned-ended : {R : Type 0} {q : Sequence} {remaining : R → Option (List ℕ)} {s t u : StreamProgress q}
    {before mid after : Watched R} {x y z : Steps} → HasTurned remaining s t before mid x y
    → TurnGives remaining t u mid after Ended → StreamCounts t u y z → HasTurned remaining s u before after x z
turned-ended {R} {q} {remaining} {s} {t} {before} {after} {x} {y} {z} has turn counts =
    subst (λ v. StreamCounts t v y z → HasTurned remaining s v before after x z) (sym turn.2) by counts
  where
    v : StreamProgress q
    v = turn.0

    by : StreamCounts t (closed_by v) y z → HasTurned remaining s (closed_by v) before after x z
    by counted =
        let read = turn.1.read in
        let gains = gained-more has.has turn.1 in
        let same : read_by v ≡ read_by turn.1.mid = ap concat read.pieces ∙ concat-append turn.1.mid.pieces ([] ∷ [])
        ∙ append-nil (read_by turn.1.mid) in
        record {
          gained = has.gained ++ [] ∷ [];
          has = record {
            built = gains.built;
            pieces = gains.pieces;
            last = gains.last;
            short = gains.short;
            read = gains.read;
          };
          how = HasEnded (has.gained, turned-filled has turn.1, refl)
              read.read.turns.1 (read.read.at_end refl ([], tt, refl))
              (λ prompt. given-closed v prompt (all-given-still turn.1))
              (λ waits. waits-unless_prompt q v.built.dictionary waits);
          given = read.given ∙ turn.1.given ∙ has.given;
          fresh = λ some.
              let just =
              turned-fresh has turn.1
              (subst CanBeCounted (sym same) turn.1.few) in
              record {
                all = just.all;
                at = just.at;
                front = just.front;
                countable = just.countable;
                open_ = just.open_;
              };
          first = λ none. absurd (more-some has.gained [] none);
          unended = λ some. open-first has turn.1;
          on = λ standard. let a = has.on standard in
              let b = turn.1.nothing.on (subst (λ b. b.dictionary.kind ≡ Standard) (sym has.has.built) standard) in
              let e = read.at in omega arith;
          counts = StreamCounts-then s t (closed_by v) x y z has.counts counted;
        }

-- ---- items

-- where the reader goes on, the search is closed if it was closed before
closed-still : {R : Type 0} {q : Sequence} {remaining : R → Option (List ℕ)} {s t : StreamProgress q}
    {before after : Watched R} {x y : Steps} → (has : HasTurned remaining s t before after x y)
    → (has.gained ≢ [] → (¬ IsTrue after.ended) × (t.closed ≡ false)) → t.closed ≡ s.closed
closed-still has goes = ⊎_elim
    (λ (none : has.gained ≡ []). ap (λ z. z.closed) (has.first none).0)
    (λ (some : has.gained ≢ []). (goes some).1 ∙ sym (has.unended some).2)
    (none-or-some has.gained)

-- the pieces that were read for a match
read-for : {R : Type 0} {q : Sequence} {remaining : R → Option (List ℕ)} {s t u : StreamProgress q}
    {before after : Watched R} {x y : Steps} {o : Occurrence} → (has : HasTurned remaining s t before after x y)
    → HowItStands remaining s t after has.gained → FindsHeld t (Some o) u → IsReadForItem s u has.gained
read-for has (GoesOnReading filled goes) finds =
    inl (filled, finds.0.closed ∙ closed-still has goes)
read-for {R} {q} {t} has (HasEnded whole ended at_end given closed) finds = ⊎_elim
    (λ (prompt : IsPrompt q t.built.dictionary). absurd (finds.6 (given prompt)))
    (λ (waits : ¬ IsPrompt q t.built.dictionary).
    inr (
      subst (λ b. ¬ IsPrompt q b.dictionary) (sym finds.0.built) waits,
      whole,
      finds.0.closed ∙ closed waits,
    ))
    (prompt_cases q t.built.dictionary)

-- an item found ends after all that was searched, if all items of that were returned
ends-later : (q : Sequence) (t : StreamProgress q) (o : Occurrence) → IsHeldItem t o
    → IsPrompt q t.built.dictionary → t.given ≡ items_of q t.built.dictionary (take t.at (read_by t)) → t.at < o.end
ends-later Picks t o held standard all = held.new refl standard
ends-later Occurrences t o held standard all = held.past refl all
ends-later Words t o held prompt all = absurd prompt
ends-later AllWords t o held prompt all = absurd prompt

-- a turn that found an item returns it
pub turned-found : {R : Type 0} {q : Sequence} {remaining : R → Option (List ℕ)} {s t u : StreamProgress q}
    {before mid after : Watched R} {x y : Steps} {o : Occurrence} → HasTurned remaining s t before mid x y
    → TurnGives remaining t u mid after (Found o)
    → NextGives remaining s u before after (Some (Ok o))
turned-found {R} {q} {remaining} {s} {t} {u} {before} {o} has turn = record {
  gained = has.gained;
  has = subst (λ r. HasGained remaining s u before r has.gained 0) (sym turn.1)
      (gained-same has.has finds.0);
  read = read-for has has.how finds;
  given = finds.1 ∙ ap (λ l. l ++ o ∷ []) has.given;
  come = (finds.2, finds.3);
  pattern = subst (λ b. o.pattern < length b.dictionary.patterns) has.has.built held.pattern;
  behind = let l = has.has.last in let b = held.behind in omega arith;
  some = held.some;
  new = λ picks standard. let a = has.on standard in
      let new = held.new picks (subst (λ b. b.dictionary.kind ≡ Standard) (sym has.has.built) standard) in omega arith;
  within = subst (λ l. o.end ≤ length (concat l)) (sym finds.0.pieces) held.within;
  countable = subst (λ l. CanBeCounted (concat l)) (sym finds.0.pieces) finds.5;
  due = λ some.
      let fresh = has.fresh some in
      record {
        all = λ prompt. fresh.all prompt ∙ ap (items_of q s.built.dictionary) (sym same);
        ends = λ prompt.
            let new = ends-later q t o held (there prompt)
            (has.given ∙ fresh.all prompt ∙ ap (items_of q s.built.dictionary) (sym fresh.front)
            ∙ ap (λ b. items_of q b.dictionary (take t.at (read_by t))) (sym has.has.built)) in
            let e = ap length same in
            let at = fresh.at in
            omega arith;
        open_ = subst (λ l. StaysOpen q s.built.dictionary l s.given) (sym same) fresh.open_;
      };
}
  where
    finds : FindsHeld t (Some o) u
    finds = turn.0

    held : IsHeldItem t o
    held = finds.4

    there : IsPrompt q s.built.dictionary → IsPrompt q t.built.dictionary
    there prompt = subst (λ b. IsPrompt q b.dictionary) (sym has.has.built) prompt

    same : read_before u ≡ read_before t
    same = ap (λ l. concat (but_last l)) finds.0.pieces

-- the pieces that were read where no item is left
read-to_end : {R : Type 0} {q : Sequence} {remaining : R → Option (List ℕ)} {s t u : StreamProgress q}
    {before mid : Watched R} {x y : Steps} → (has : HasTurned remaining s t before mid x y)
    → HowItStands remaining s t mid has.gained → ReadsNothing t u → IsStopped u mid
    → ((has.gained ≡ []) × (u.closed ≡ s.closed))
    ⊎ (AreWhole has.gained × AreAllGiven u × EachIsDecided u × IsAtEnd (remaining mid.inner))
read-to_end {R} {u} {mid} has (GoesOnReading filled goes) nothing stopped = ⊎_elim
    (λ (none : has.gained ≡ []). inl (none, nothing.closed ∙ closed-still has goes))
    (λ (some : has.gained ≢ []).
    absurd (⊎_elim
    (λ (over : ((mid.ended ≡ true) ⊎ (u.closed ≡ true)) × AreAllGiven u).
    ⊎_elim (λ (ended : mid.ended ≡ true). (goes some).0 ended)
    (λ (closed : u.closed ≡ true). false≢true (sym (nothing.closed ∙ (goes some).1) ∙ closed)) over.0)
    (λ (many : ¬ CanBeCounted (read_by u)).
    many (subst (λ l. CanBeCounted (concat l)) (sym nothing.pieces) (has.fresh some).countable))
    stopped))
    (none-or-some has.gained)
read-to_end {R} {q} {t} {u} {mid} has (HasEnded whole ended at_end given closed) nothing stopped = ⊎_elim
    (λ (over : ((mid.ended ≡ true) ⊎ (u.closed ≡ true)) × AreAllGiven u). inr (whole, over.1, each, at_end))
    (λ (many : ¬ CanBeCounted (read_by u)).
    absurd (many (subst (λ l. CanBeCounted (concat l)) (sym nothing.pieces) (has.fresh some).countable)))
    stopped
  where
    -- some piece was read, if only an empty one
    some : has.gained ≢ []
    some none = more-some whole.0 [] (sym whole.2 ∙ none)

    each : EachIsDecided u
    each = ⊎_elim
        (λ (prompt : IsPrompt q t.built.dictionary).
        inl (subst (λ b. IsPrompt q b.dictionary) (sym nothing.built) prompt))
        (λ (waits : ¬ IsPrompt q t.built.dictionary). inr (nothing.closed ∙ closed waits))
        (prompt_cases q t.built.dictionary)

-- a turn at the end returns no item
pub turned-over : {R : Type 0} {q : Sequence} {remaining : R → Option (List ℕ)} {s t u : StreamProgress q}
    {before mid after : Watched R} {x y : Steps} → HasTurned remaining s t before mid x y
    → TurnGives remaining t u mid after Over → NextGives remaining s u before after None
turned-over {R} {remaining} {s} {u} {before} has turn = record {
  gained = has.gained;
  has = subst (λ r. HasGained remaining s u before r has.gained 0) (sym turn.2)
      (gained-same has.has turn.0);
  read = subst
      (λ r. ((has.gained ≡ []) × (u.closed ≡ s.closed))
      ⊎ (AreWhole has.gained × AreAllGiven u × EachIsDecided u × IsAtEnd (remaining r.inner))) (sym turn.2)
      (read-to_end has has.how turn.0 (subst (λ r. IsStopped u r) turn.2 turn.3));
  given = turn.1 ∙ has.given;
  stopped = turn.3;
}

-- a turn whose read failed returns the error
pub turned-failed : {R : Type 0} {q : Sequence} {remaining : R → Option (List ℕ)} {s t : StreamProgress q}
    (u : StreamProgress q) {before mid : Watched R} (after : Watched R) {x y : Steps} (error : StreamError)
    → HasTurned remaining s t before mid x y
    → TurnGives remaining t u mid after (Failed error) → NextGives remaining s u before after (Some (Err error))
turned-failed u after (Config error) has turn = turn
turned-failed u after (Read error) has turn = record {
  filled = has.gained;
  has = gained-more has.has turn;
  read = turned-filled has turn;
  given = turn.read.given ∙ turn.given ∙ has.given;
  ended = turn.read.read.turns.1;
  all = all-given-still turn;
}
turned-failed u after (Write error) has turn = turn
turned-failed u after WriteZero has turn = turn
turned-failed u after Memory has turn = turn
turned-failed u after Position has turn = record {
  gained = has.gained ++ turn.0 ∷ [];
  has = gained-more has.has turn.1;
  read = AreFilled-push has.gained (turned-filled has turn.1) turn.2;
  given = turn.1.read.given ∙ turn.1.given ∙ has.given;
  all = turned-had has turn.1;
  many = turn.3;
}

-- a piece that isn't empty is some bytes
some-bytes : (piece : List ℕ) → piece ≢ [] → 0 < length piece
some-bytes [] some = absurd (some refl)
some-bytes (b ∷ bs) some = omega arith

-- The most turns that read and are left, by the bytes read and whether the reader has ended.
abbrev pub turns_left : ℕ → Bool → ℕ
turns_left read ended = 2 * (18446744073709551616 - read) + (if ended then 0 else 1)

-- fewer turns are left after more bytes
more-fewer : (read later : ℕ) (ended ends : Bool) → read < later → later ≤ usize_max
    → turns_left later ends < turns_left read ended
more-fewer read later true true lt few = omega arith
more-fewer read later true false lt few = omega arith
more-fewer read later false true lt few = omega arith
more-fewer read later false false lt few = omega arith

-- fewer turns are left after one that read some bytes
pub turn-smaller : {R : Type 0} {q : Sequence} {remaining : R → Option (List ℕ)} {t u : StreamProgress q}
    {mid after : Watched R} → TurnGives remaining t u mid after More
    → turns_left (length (read_by u)) after.ended < turns_left (length (read_by t)) mid.ended
turn-smaller {t} {u} {mid} {after} turn =
    let all : read_by u ≡ read_by t ++ (turn.0 ++ []) = ap concat turn.1.read.pieces
    ∙ ap (λ l. concat (l ++ turn.0 ∷ [])) turn.1.nothing.pieces ∙ concat-append t.pieces (turn.0 ∷ []) in
    let long = ap length all in
    let both = length-append (read_by t) (turn.0 ++ []) in
    let piece = length-append turn.0 [] in
    let some = some-bytes turn.0 turn.2 in
    more-fewer (length (read_by t)) (length (read_by u)) mid.ended after.ended (omega arith) turn.3

-- fewer turns are left after one that ended the input
pub ended-smaller : {R : Type 0} {q : Sequence} {remaining : R → Option (List ℕ)} {t u : StreamProgress q}
    {mid after : Watched R} → TurnGives remaining t u mid after Ended
    → turns_left (length (read_by u)) after.ended < turns_left (length (read_by t)) mid.ended
ended-smaller {t} {u} turn =
    let read = turn.1.read in
    let same : read_by u ≡ read_by t = ap (λ v. read_by v) turn.2 ∙ ap concat read.pieces
    ∙ concat-append turn.1.mid.pieces ([] ∷ []) ∙ append-nil (read_by turn.1.mid) ∙ ap concat turn.1.nothing.pieces in
    let long = ap length same in
    let ends = ap (λ b. turns_left (length (read_by u)) b) read.read.turns.1 in
    let open_ = ap (λ b. turns_left (length (read_by t)) b) read.read.turns.0 in
    omega arith

-- ---- nothing comes after the end

-- where nothing was left to come, no piece was read
none-gained : {R : Type 0} {q : Sequence} (s : StreamProgress q) (before : Watched R) (gained : List (List ℕ))
    → IsStopped s before → (gained ≢ [] → (before.ended ≡ false) × CanBeCounted (read_by s) × (s.closed ≡ false))
    → gained ≡ []
none-gained s before gained stopped open_ = ⊎_elim
    (λ (none : gained ≡ []). none)
    (λ (some : gained ≢ []).
    let first = open_ some in
    absurd (⊎_elim
    (λ (over : ((before.ended ≡ true) ⊎ (s.closed ≡ true)) × AreAllGiven s).
    ⊎_elim (λ (ended : before.ended ≡ true). false≢true (sym first.0 ∙ ended))
    (λ (closed : s.closed ≡ true). false≢true (sym first.2 ∙ closed)) over.0)
    (λ (many : ¬ CanBeCounted (read_by s)). many first.1) stopped))
    (none-or-some gained)

-- a search that has stopped finds no match
none-found : {R : Type 0} {q : Sequence} (s u : StreamProgress q) (before : Watched R) (o : Occurrence)
    → IsStopped s before → ¬ FindsHeld s (Some o) u
none-found s u before o stopped finds = ⊎_elim
    (λ (over : ((before.ended ≡ true) ⊎ (s.closed ≡ true)) × AreAllGiven s). absurd (finds.6 over.1))
    (λ (many : ¬ CanBeCounted (read_by s)). many finds.5)
    stopped

-- a turn of a search that has stopped returns no match
pub stopped-found : {R : Type 0} {q : Sequence} {remaining : R → Option (List ℕ)} {s t u : StreamProgress q}
    {before mid after : Watched R} {x y : Steps} {o : Occurrence} → HasTurned remaining s t before mid x y
    → TurnGives remaining t u mid after (Found o) → ¬ IsStopped s before
stopped-found {s} {u} {before} {o} has turn stopped =
    let same = has.first (none-gained s before has.gained stopped has.unended) in
    none-found s u before o stopped (subst (λ z. FindsHeld z (Some o) u) same.0 turn.0)

-- a search that has stopped makes no read
stopped-read : {R : Type 0} {q : Sequence} {remaining : R → Option (List ℕ)} {s t u : StreamProgress q}
    {before mid after : Watched R} {x y : Steps} {piece : List ℕ} {failed : ℕ}
    → HasTurned remaining s t before mid x y
    → TurnReads remaining t u mid after piece failed → ¬ IsStopped s before
stopped-read {s} {before} {piece} has turn stopped =
    let first = open-first has turn in
    more-some [] piece (none-gained s before (piece ∷ []) stopped (λ some. first))

-- a turn of a search that has stopped returns no error
pub stopped-failed : {R : Type 0} {q : Sequence} {remaining : R → Option (List ℕ)} {s t : StreamProgress q}
    (u : StreamProgress q) {before mid : Watched R} (after : Watched R) {x y : Steps} (error : StreamError)
    → HasTurned remaining s t before mid x y
    → TurnGives remaining t u mid after (Failed error) → ¬ IsStopped s before
stopped-failed u after (Config error) has turn = absurd turn
stopped-failed u after (Read error) has turn =
    stopped-read has turn
stopped-failed u after (Write error) has turn = absurd turn
stopped-failed u after WriteZero has turn = absurd turn
stopped-failed u after Memory has turn = absurd turn
stopped-failed u after Position has turn =
    stopped-read has turn.1

-- a turn of a search that has stopped returns no item, and leaves everything unchanged
pub stopped-over : {R : Type 0} {q : Sequence} {remaining : R → Option (List ℕ)} {s t u : StreamProgress q}
    {before mid after : Watched R} {x y : Steps} → HasTurned remaining s t before mid x y
    → TurnGives remaining t u mid after Over → StaysStopped s u before after None
stopped-over {R} {s} {before} has over = λ stopped.
    let same = has.first (none-gained s before has.gained stopped has.unended) in (
      refl,
      over.0.pieces ∙ ap (λ z. z.pieces) same.0,
      over.1 ∙ ap (λ z. z.given) same.0,
      over.2 ∙ same.1,
    )
