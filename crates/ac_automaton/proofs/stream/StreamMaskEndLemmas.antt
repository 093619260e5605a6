-- What a masking of a stream has written, from one read to the next, and at each end.
use Rattle.std.proofs.Common.{◌≡◌, ◌≢◌, ◌⊎◌, inl, inr, ℕ, ◌+◌, ◌-◌, ◌*◌, ◌≤◌, Bool, true, false, List, [], ◌∷◌, ◌++◌, length, take, drop, slice_range, Option, Result, Ok, Err, refl, sym, ap, subst, ◌∙◌, arith, add-zero, append-nil, append_assoc, take-append-drop}
use Rattle.std.specs.List.{concat}
use Rattle.std.specs.declared.io.Error.{Error}
use Rattle.std.specs.Prelude.{IfErr, OnOk}
use Rattle.std.proofs.lemmas.List.{take_all}
use Rattle.std.proofs.lemmas.List.Folds.{concat-append}
use Rattle.ac_input.specs.declared.search.Anchored.{Anchored}
use Rattle.ac_input.specs.declared.steps.Steps.{Steps}
use Rattle.ac_input.specs.Laws.BeginningLaws.{IsBeginning}
use Rattle.ac_input.specs.Work.{lookups_per_byte}
use Rattle.ac_input.proofs.lemmas.MaskLemmas.{masked-front_begins, masked-front_final}
use Rattle.ac_automaton.specs.Automaton.{Built}
use Rattle.ac_automaton.specs.Masking.{masked_in}
use Rattle.ac_automaton.specs.Stream.{CanBeCounted, CanStream, Picks, room_of}
use Rattle.ac_automaton.specs.Stream.Answer.{WroteToFailedWrite}
use Rattle.ac_automaton.specs.Stream.Devices.Moved.{AllFit, AreFilled, HasGiven, HasMoved, HasTaken, Moved, NoneTouched, but_last}
use Rattle.ac_automaton.specs.Stream.Devices.Watched.{IsOfWrite, NoneRead, WritesWhole}
use Rattle.ac_automaton.specs.Stream.Mask.{CostsMaskStream, HasTakenIn, IsAllMasked, IsMaskCut, IsMaskFront, IsOnMask, MaskCounts, MaskProgress, MasksRead, MasksStream, WritesMasked, finished_mask, fresh_mask, front_of, masked_of, passed_to, ready_of}
use Rattle.ac_automaton.specs.Stream.Overlapping.{AcceptsListing, IsListingRefusal}
use Rattle.ac_automaton.specs.Stream.Replace.{IsBegun}
use Rattle.ac_automaton.specs.declared.error.StreamError.{StreamError}
use Rattle.ac_automaton.specs.declared.error.StreamError.TheVariants.{Config, Read, Write, WriteZero, Memory, Position}
use Rattle.ac_automaton.specs.declared.stream.StreamKinds.TheVariants.{OnlyStandard}
use Rattle.ac_automaton.specs.declared.stream.devices.watched.Watched.{Watched}
use Rattle.ac_automaton.proofs.skip.IdleLemmas.{take-both}
use Rattle.ac_automaton.proofs.stream.StreamMaskLemmas.{masked-length}
use Rattle.ac_automaton.proofs.stream.devices.MovedLemmas.{AreFilled-push, given-none, given-push, taken-none, taken-then}
use Rattle.ac_automaton.proofs.stream.StreamIterLemmas.{but_last-push}

-- where all is masked, the front is all that was passed
pub all-front : (s : MaskProgress) → IsAllMasked s → front_of s ≡ passed_to s
all-front s all = take_all s.at (passed_to s) (omega (arith, all))

-- a front, and what comes up to a later place
pub front-and : (xs : List ℕ) (a b : ℕ) → a ≤ b → take a xs ++ slice_range xs a b ≡ take b xs
front-and xs a b le =
    let e : a + (b - a) ≡ b = omega (arith, le) in
    ap (λ n. take a xs ++ take n (drop a xs)) refl
    ∙ sym (take-both a (b - a) xs) ∙ ap (λ n. take n xs) e

module _ {R W : Type 0} (remaining : R → Option (List ℕ)) (contents : W → Option (List ℕ)) (b : Built) (mask : ℕ)
    (r0 : Watched R) (w0 : Watched W) where
  -- Between two reads, all that is ready was written.
  pub record HasWritten (s : MaskProgress) (r : Watched R) (w : Watched W) : Type 0 where
    pub built : s.built ≡ b
    pub mask_is : s.mask ≡ mask
    pub unclosed : s.closed ≡ false
    pub course : IsOnMask s
    pub masked : IsAllMasked s
    pub countable : CanBeCounted (passed_to s)
    pub filled : AreFilled s.pieces
    pub read : HasGiven remaining r0 r s.pieces 0
    pub written : HasTaken contents w0 w (take s.cut (masked_in b mask (passed_to s))) 0 0

  -- before the first read
  pub written-fresh : (s : MaskProgress) → s ≡ fresh_mask b mask → IsOnMask s → HasWritten s r0 w0
  written-fresh s fresh course =
      subst (λ t. IsOnMask t → HasWritten t r0 w0) (sym fresh)
      (λ on. record {
        built = refl;
        mask_is = refl;
        unclosed = refl;
        course = on;
        masked = refl;
        countable = omega arith;
        filled = tt;
        read = given-none;
        written = taken-none;
      })
      course

  -- ---- one read more

  module _ (s t : MaskProgress) (r : Watched R) (w : Watched W) (is : HasWritten s r w) {piece : List ℕ}
      (taken : HasTakenIn s t (piece ∷ [])) (on : IsOnMask t) where
    same-built : t.built ≡ b
    same-built = taken.built ∙ is.built

    pub passed-next : passed_to t ≡ passed_to s ++ piece
    passed-next = ap concat taken.pieces ∙ concat-append s.pieces (piece ∷ [])
        ∙ ap (λ l. passed_to s ++ l) (append-nil piece)

    -- what was written is the front of the text with the piece, too
    cut-is : IsMaskCut b.dictionary (passed_to s) s.cut
    cut-is = subst (λ c. IsMaskCut c.dictionary (passed_to s) s.cut) is.built
        (subst (λ x. IsMaskCut s.built.dictionary x s.cut) (all-front s is.masked) (is.course.open_ is.unclosed))

    front-next : take s.cut (masked_in b mask (passed_to t)) ≡ take s.cut (masked_in b mask (passed_to s))
    front-next = ap (λ x. take s.cut (masked_in b mask x)) passed-next
        ∙ masked-front_final mask b.dictionary (passed_to s) piece false s.cut cut-is.final

    -- some of the masked text from there on is the front up to its end
    front-on : (place : ℕ) → s.cut ≤ place
        → take s.cut (masked_in b mask (passed_to s)) ++ slice_range (masked_in b mask (passed_to t)) s.cut place
        ≡ take place (masked_in b mask (passed_to t))
    front-on place le =
        ap (λ l. l ++ slice_range (masked_in b mask (passed_to t)) s.cut place) (sym front-next)
        ∙ front-and (masked_in b mask (passed_to t)) s.cut place le

    -- what is ready is that part up to the cut
    ready-is : IsAllMasked t → ready_of t ≡ slice_range (masked_in b mask (passed_to t)) s.cut t.cut
    ready-is all =
        ap (λ n. slice_range (masked_of t) n t.cut) taken.out
        ∙ ap (λ x. slice_range (masked_in t.built t.mask x) s.cut t.cut) (all-front t all)
        ∙ ap (λ c. slice_range (masked_in c t.mask (passed_to t)) s.cut t.cut) same-built
        ∙ ap (λ k. slice_range (masked_in b k (passed_to t)) s.cut t.cut) (taken.mask ∙ is.mask_is)

    -- what was read until now
    read-next : {r1 : Watched R} {failed : ℕ} → HasGiven remaining r r1 (piece ∷ []) failed
        → HasGiven remaining r0 r1 t.pieces failed
    read-next {r1} {failed} given =
        subst (λ ps. HasGiven remaining r0 r1 ps failed) (sym taken.pieces) (given-push is.read given)

    -- after a piece that isn't empty, and the write of what got ready
    pub written-next : {r1 : Watched R} {w1 : Watched W} → IsAllMasked t → CanBeCounted (passed_to t) → piece ≢ []
        → HasGiven remaining r r1 (piece ∷ []) 0 → HasTaken contents w w1 (ready_of t) 0 0 → HasWritten t r1 w1
    written-next {w1 = w1} all few some given wrote = record {
      built = same-built;
      mask_is = taken.mask ∙ is.mask_is;
      unclosed = taken.closed ∙ is.unclosed;
      course = on;
      masked = all;
      countable = few;
      filled = subst AreFilled (sym taken.pieces) (AreFilled-push s.pieces is.filled some);
      read = read-next given;
      written = subst (λ l. HasTaken contents w0 w1 l 0 0)
          (front-on t.cut (let le = on.ready.1 in let out = taken.out in omega (arith, le, out)))
          (taken-then is.written (subst (λ l. HasTaken contents w w1 l 0 0) (ready-is all) wrote));
    }

    -- ---- at each end

    short : AllFit (room_of Picks b) t.pieces
    short = subst (λ c. AllFit (room_of Picks c) t.pieces) same-built on.short

    -- the front of what was read before the last piece could be written
    early : IsMaskFront b mask (concat (but_last t.pieces)) (take s.cut (masked_in b mask (passed_to s)))
    early =
        let before : concat (but_last t.pieces) ≡ passed_to s = ap (λ ps. concat (but_last ps)) taken.pieces
        ∙ ap concat (but_last-push s.pieces piece) in
        subst (λ x. IsMaskFront b mask x (take s.cut (masked_in b mask (passed_to s)))) (sym before)
        (s.cut, cut-is, refl)

    -- all was read, and the rest was written
    pub wrote-whole : {r1 : Watched R} {w1 : Watched W} → piece ≡ [] → IsAllMasked t → t.cut ≡ s.cut
        → HasGiven remaining r r1 (piece ∷ []) 0 → HasTaken contents w w1 (ready_of (finished_mask t)) 0 0
        → WritesMasked remaining contents b mask r0 r1 w0 w1 (Ok tt)
    wrote-whole {r1} {w1} none all cut given wrote =
        let whole_len = masked-length b mask (passed_to t) in
        let le = on.ordered.0 in
        let ready : ready_of (finished_mask t) ≡ slice_range (masked_in b mask (passed_to t)) s.cut t.at =
        ap (λ n. slice_range (masked_of t) n t.at) cut
        ∙ ap (λ x. slice_range (masked_in t.built t.mask x) s.cut t.at) (all-front t all)
        ∙ ap (λ c. slice_range (masked_in c t.mask (passed_to t)) s.cut t.at) same-built
        ∙ ap (λ k. slice_range (masked_in b k (passed_to t)) s.cut t.at) (taken.mask ∙ is.mask_is) in (
          record {
            pieces = t.pieces;
            failed_reads = 0;
            taken = masked_in b mask (passed_to t);
            failed_writes = 0;
            stalled_writes = 0;
          },
          record {
            reader = read-next given;
            writer = subst (λ l. HasTaken contents w0 w1 l 0 0)
                (front-on t.at (omega (arith, le, cut))
                ∙ take_all t.at (masked_in b mask (passed_to t)) (omega (arith, whole_len, all)))
                (taken-then is.written (subst (λ l. HasTaken contents w w1 l 0 0) ready wrote));
          },
          short,
          record {
            whole = (s.pieces, is.filled, taken.pieces ∙ ap (λ p. s.pieces ++ p ∷ []) none);
            written = refl;
            failed = (refl, refl, refl);
          },
        )

    -- a read failed
    pub wrote-to_read : {r1 : Watched R} (error : Error) → piece ≡ [] → HasGiven remaining r r1 (piece ∷ []) 1
        → WritesMasked remaining contents b mask r0 r1 w0 w (Err (Read error))
    wrote-to_read error none given =
        let same : passed_to t ≡ passed_to s = passed-next ∙ ap (λ p. passed_to s ++ p) none ∙ append-nil (passed_to s) in (
          record {
            pieces = t.pieces;
            failed_reads = 1;
            taken = take s.cut (masked_in b mask (passed_to s));
            failed_writes = 0;
            stalled_writes = 0;
          },
          record { reader = read-next given; writer = is.written },
          short,
          record {
            written = subst (λ x. IsMaskFront b mask x (take s.cut (masked_in b mask (passed_to s)))) (sym same)
                (s.cut, cut-is, refl);
            failed = (refl, refl, refl);
          },
        )

    -- there are more bytes than places
    pub wrote-to_places : {r1 : Watched R} → ¬ CanBeCounted (passed_to t) → HasGiven remaining r r1 (piece ∷ []) 0
        → WritesMasked remaining contents b mask r0 r1 w0 w (Err Position)
    wrote-to_places long given = (
      record {
        pieces = t.pieces;
        failed_reads = 0;
        taken = take s.cut (masked_in b mask (passed_to s));
        failed_writes = 0;
        stalled_writes = 0;
      },
      record { reader = read-next given; writer = is.written },
      short,
      record {
        long = long;
        written = subst (λ x. IsBeginning (take s.cut (masked_in b mask (passed_to s))) (masked_in b mask x))
            (sym passed-next)
            (masked-front_begins mask b.dictionary (passed_to s) piece false s.cut cut-is.final);
        failed = (refl, refl, refl);
      },
    )

    -- a write failed, of a part of the masked text from there on
    pub wrote-to_write : {r1 : Watched R} {w1 : Watched W} (bytes : List ℕ) (place : ℕ) (error : StreamError)
        → s.cut ≤ place → bytes ≡ slice_range (masked_in b mask (passed_to t)) s.cut place
        → HasGiven remaining r r1 (piece ∷ []) 0 → WritesWhole contents w w1 bytes (Err error) → NoneRead w w1
        → WritesMasked remaining contents b mask r0 r1 w0 w1 (Err error)
    wrote-to_write {r1} {w1} bytes place error le is_part given wrote reads =
        by error wrote.1
      where
        front : List ℕ
        front = wrote.0.front

        early_text : List ℕ
        early_text = take s.cut (masked_in b mask (passed_to s))

        all-of : masked_in b mask (passed_to t) ≡ (early_text ++ front) ++ (wrote.0.rest ++ drop place (masked_in b mask (passed_to t)))
        all-of =
            sym (take-append-drop place (masked_in b mask (passed_to t)))
            ∙ ap (λ l. l ++ drop place (masked_in b mask (passed_to t)))
            (sym (front-on place le) ∙ ap (λ l. early_text ++ l) (sym is_part ∙ wrote.0.split)
            ∙ sym (append_assoc early_text front wrote.0.rest))
            ∙ append_assoc (early_text ++ front) wrote.0.rest (drop place (masked_in b mask (passed_to t)))

        stopped : (stalls : ℕ) → w1.stalls.value ≡ w.stalls.value + stalls
            → (m : Moved) × HasMoved remaining contents r0 r1 w0 w1 m × AllFit (room_of Picks b) m.pieces
            × WroteToFailedWrite (masked_in b mask) (IsMaskFront b mask) m stalls
        stopped stalls stalled = (
          record {
            pieces = t.pieces;
            failed_reads = 0;
            taken = early_text ++ front;
            failed_writes = 1;
            stalled_writes = stalls;
          },
          record {
            reader = read-next given;
            writer = taken-then is.written
                (record {
                  taken = wrote.0.taken;
                  flushed = wrote.0.flushed;
                  failures = wrote.0.failures;
                  stalls = stalled;
                  reads = reads;
                  device = wrote.0.device;
                });
          },
          short,
          record {
            at_least = (early_text, early, (front, refl));
            at_most = (wrote.0.rest ++ drop place (masked_in b mask (passed_to t)), all-of);
            failed = (refl, refl, refl);
          },
        )

        by : (e : StreamError) → IsOfWrite w w1 e → WritesMasked remaining contents b mask r0 r1 w0 w1 (Err e)
        by (Write e) kind = stopped 0 (kind ∙ (let z : w.stalls.value ≡ w.stalls.value + 0 = omega arith in z))
        by WriteZero kind = stopped 1 kind
        by (Config e) kind = absurd kind
        by (Read e) kind = absurd kind
        by Memory kind = absurd kind
        by Position kind = absurd kind

    -- the write of what got ready failed
    pub wrote-to_ready : {r1 : Watched R} {w1 : Watched W} (error : StreamError) → IsAllMasked t
        → HasGiven remaining r r1 (piece ∷ []) 0 → WritesWhole contents w w1 (ready_of t) (Err error) → NoneRead w w1
        → WritesMasked remaining contents b mask r0 r1 w0 w1 (Err error)
    wrote-to_ready error all given wrote reads =
        let le = on.ready.1 in
        let out = taken.out in
        wrote-to_write (ready_of t) t.cut error (omega (arith, le, out)) (ready-is all) given wrote reads

-- the device of a writer took all of some bytes
pub taken-all : {W : Type 0} {contents : W → Option (List ℕ)} {old new : Watched W} {bytes : List ℕ}
    → WritesWhole contents old new bytes (Ok tt) → NoneRead old new → HasTaken contents old new bytes 0 0
taken-all wrote reads = record {
  taken = wrote.0.taken;
  flushed = wrote.0.flushed;
  failures = wrote.0.fine.failures ∙ (let z = add-zero _ in sym z);
  stalls = wrote.0.fine.stalls ∙ (let z = add-zero _ in sym z);
  reads = reads;
  device = wrote.1;
}

module _ {R W : Type 0} (remaining : R → Option (List ℕ)) (contents : W → Option (List ℕ)) (b : Built) (mask : ℕ)
    {r0 : Watched R} {w0 : Watched W} {s t : MaskProgress} {r r1 : Watched R} {w : Watched W}
    (is : HasWritten remaining contents b mask r0 w0 s r w) (on : IsOnMask t) where
  -- a read stopped
  pub wrote-to_stop : (error : StreamError) → MasksRead remaining s t r r1 (Err error)
      → WritesMasked remaining contents b mask r0 r1 w0 w (Err error)
  wrote-to_stop (Read error) stop =
      wrote-to_read remaining contents b mask r0 w0 s t r w is stop.0.0 on error refl stop.1
  wrote-to_stop Position stop =
      wrote-to_places remaining contents b mask r0 w0 s t r w is stop.1.0 on stop.1.2 stop.2
  wrote-to_stop (Config error) stop = absurd stop
  wrote-to_stop (Write error) stop = absurd stop
  wrote-to_stop WriteZero stop = absurd stop
  wrote-to_stop Memory stop = absurd stop

  -- what came with it
  pub stop-came : (error : StreamError) → MasksRead remaining s t r r1 (Err error)
      → (piece : List ℕ) × (failed : ℕ) × HasTakenIn s t (piece ∷ []) × HasGiven remaining r r1 (piece ∷ []) failed
  stop-came (Read error) stop = ([], 1, stop.0.0, stop.1)
  stop-came Position stop = (stop.0, 0, stop.1.0, stop.2)
  stop-came (Config error) stop = absurd stop
  stop-came (Write error) stop = absurd stop
  stop-came WriteZero stop = absurd stop
  stop-came Memory stop = absurd stop

  -- the last write, by its result
  pub wrote-to_end : {n : ℕ} {w1 : Watched W} (bytes : List ℕ) (result : Result (Unit {0}) StreamError)
      → MasksRead remaining s t r r1 (Ok n) → n ≡ 0 → bytes ≡ ready_of (finished_mask t)
      → WritesWhole contents w w1 bytes result → NoneRead w w1
      → WritesMasked remaining contents b mask r0 r1 w0 w1 result
  wrote-to_end {w1 = w1} bytes (Ok done) read none ready wrote reads =
      wrote-whole remaining contents b mask r0 w0 s t r w is read.1.0 on (nothing read.0 (read.3 ∙ none)) read.1.1
      (read.4 none) read.2
      (subst (λ l. HasTaken contents w w1 l 0 0) ready (taken-all wrote reads))
    where
      nothing : (p : List ℕ) → length p ≡ 0 → p ≡ []
      nothing [] e = refl
      nothing (x ∷ xs) e = absurd (omega (arith, e))
  wrote-to_end bytes (Err error) read none ready wrote reads =
      let le = on.ordered.0 in
      let cut = read.4 none in
      let built = read.1.0.built ∙ is.built in
      wrote-to_write remaining contents b mask r0 w0 s t r w is read.1.0 on bytes t.at error (omega (arith, le, cut))
      (ready ∙ ap (λ n. slice_range (masked_of t) n t.at) cut
      ∙ ap (λ x. slice_range (masked_in t.built t.mask x) s.cut t.at) (all-front t read.1.1)
      ∙ ap (λ c. slice_range (masked_in c t.mask (passed_to t)) s.cut t.at) built
      ∙ ap (λ k. slice_range (masked_in b k (passed_to t)) s.cut t.at) (read.1.0.mask ∙ is.mask_is))
      read.2 wrote reads

  -- what it cost until then
  pub costs-then : {piece : List ℕ} {failed : ℕ} {x y z : Steps} (first : MaskProgress)
      (result : Result (Unit {0}) StreamError) → first ≡ fresh_mask b mask
      → HasTakenIn s t (piece ∷ []) → HasGiven remaining r r1 (piece ∷ []) failed → MaskCounts first s x y
      → MaskCounts s t y z → OnOk result (IsAllMasked t) → CostsMaskStream b r0 r1 x z result
  costs-then {x = x} {z = z} first result fresh taken given before after all =
      let looked = ap (λ u. u.looked) fresh in
      let scanned = ap (λ u. u.scanned) fresh in
      let moved = ap (λ u. u.moved) fresh in
      let d = before.3 in
      let e = after.3 in
      let paid = on.paid in
      let inside = on.ordered.1 in
      let built = taken.built ∙ is.built in
      let most = subst (λ c. t.looked ≤ lookups_per_byte c.deterministic * t.at) built paid.looked in
      let looks : z.looked.value ≡ x.looked.value + t.looked =
      omega (arith, d.looked, e.looked, before.4, after.4, looked) in
      let scans = paid.scanned in
      let moves = paid.moved in
      record {
        pieces = t.pieces;
        read = (read-next remaining contents b mask r0 w0 s t r w is taken on given).pieces;
        looked = by b.deterministic most looks;
        some = on-ok result all (λ (same : IsAllMasked t). let some = paid.some in omega (arith, some, same, looks));
        scanned = omega (arith, d.scanned, e.scanned, before.5, after.5, scanned, scans);
        moved = omega (arith, d.moved, e.moved, before.6, after.6, moved, moves);
      }
    where
      by : (d : Bool) → t.looked ≤ lookups_per_byte d * t.at → z.looked.value ≡ x.looked.value + t.looked
          → z.looked.value ≤ x.looked.value + lookups_per_byte d * length (concat t.pieces)
      by true most looks = let inside = on.ordered.1 in omega (arith, most, looks, inside)
      by false most looks = let inside = on.ordered.1 in omega (arith, most, looks, inside)

      on-ok : {P Q : Type 0} (result : Result (Unit {0}) StreamError) → OnOk result P → (P → Q) → OnOk result Q
      on-ok (Ok done) p f = f p
      on-ok (Err error) p f = tt

-- what holds at all holds where a result is Ok
pub on-any : {P : Type 0} (result : Result (Unit {0}) StreamError) → P → OnOk result P
on-any (Ok done) p = p
on-any (Err error) p = tt

-- ---- which errors come after the first read

-- those of a read
pub read-begun : {R : Type 0} (remaining : R → Option (List ℕ)) (s t : MaskProgress) (r r1 : Watched R)
    (error : StreamError) → MasksRead remaining s t r r1 (Err error) → IsBegun error
read-begun remaining s t r r1 (Read error) stop = tt
read-begun remaining s t r r1 Position stop = tt
read-begun remaining s t r r1 (Config error) stop = stop
read-begun remaining s t r r1 (Write error) stop = tt
read-begun remaining s t r r1 WriteZero stop = tt
read-begun remaining s t r r1 Memory stop = stop

-- those of a write
pub write-begun : {W : Type 0} (w w1 : Watched W) (error : StreamError) → IsOfWrite w w1 error → IsBegun error
write-begun w w1 (Write error) kind = tt
write-begun w w1 WriteZero kind = tt
write-begun w w1 (Config error) kind = kind
write-begun w w1 (Read error) kind = tt
write-begun w w1 Memory kind = kind
write-begun w w1 Position kind = tt

-- those of a write, by its result
pub wrote-begun : {W : Type 0} (contents : W → Option (List ℕ)) (w w1 : Watched W) (bytes : List ℕ)
    (result : Result (Unit {0}) StreamError) → WritesWhole contents w w1 bytes result → IfErr result IsBegun
wrote-begun contents w w1 bytes (Ok done) wrote = tt
wrote-begun contents w w1 bytes (Err error) wrote = write-begun w w1 error wrote.1

-- with such an error a stream was accepted
pub begun-accepts : (b : Built) (supports : Anchored → Type 0) (result : Result (Unit {0}) StreamError)
    → CanStream OnlyStandard b supports → IfErr result IsBegun → AcceptsListing b supports result
begun-accepts b supports (Ok done) can begun = can
begun-accepts b supports (Err (Read error)) can begun = can
begun-accepts b supports (Err (Write error)) can begun = can
begun-accepts b supports (Err WriteZero) can begun = can
begun-accepts b supports (Err Position) can begun = can
begun-accepts b supports (Err (Config error)) can begun = absurd begun
begun-accepts b supports (Err Memory) can begun = absurd begun

-- and so both devices may have been touched
pub begun-masked : {R W : Type 0} (r r1 : Watched R) (w w1 : Watched W) (result : Result (Unit {0}) StreamError)
    → IfErr result IsBegun → IfErr result (λ error. IsBegun error ⊎ NoneTouched r r1 w w1)
begun-masked r r1 w w1 (Ok done) begun = tt
begun-masked r r1 w w1 (Err error) begun = inl begun

-- a stream that can't be masked leaves both unchanged
pub refused-masked : {R W : Type 0} {remaining : R → Option (List ℕ)} {contents : W → Option (List ℕ)} (b : Built)
    (supports : Anchored → Type 0) (mask : ℕ) (r : Watched R) (w : Watched W) (error : StreamError)
    → IsListingRefusal b supports error → MasksStream remaining contents b mask r r w w (Err error)
refused-masked {R} {W} {remaining} {contents} b supports mask r w error refusal = (by error refusal, inr (refl, refl))
  where
    nothing : Moved
    nothing = record { pieces = []; failed_reads = 0; taken = []; failed_writes = 0; stalled_writes = 0 }

    moved : HasMoved remaining contents r r w w nothing
    moved = record { reader = given-none; writer = taken-none }

    fit : AllFit (room_of Picks b) []
    fit = λ k d lt. absurd (omega (arith, lt))

    by : (e : StreamError) → IsListingRefusal b supports e → WritesMasked remaining contents b mask r r w w (Err e)
    by (Config e) refused = (nothing, moved, fit, record { pieces = refl; taken = refl; failed = (refl, refl, refl) })
    by Memory refused = (nothing, moved, fit, record { pieces = refl; taken = refl; failed = (refl, refl, refl) })
    by (Read e) refused = absurd refused
    by (Write e) refused = absurd refused
    by WriteZero refused = absurd refused
    by Position refused = absurd refused

-- and costs nothing
pub refused-costs : {R : Type 0} (b : Built) (r : Watched R) (steps : Steps) (error : StreamError)
    → CostsMaskStream b r r steps steps (Err error)
refused-costs b r steps error = record {
  pieces = [];
  read = sym (append-nil _);
  looked = omega arith;
  some = tt;
  scanned = refl;
  moved = omega arith;
}

-- its error says why
pub refused-accepts : (b : Built) (supports : Anchored → Type 0) (error : StreamError)
    → IsListingRefusal b supports error → AcceptsListing b supports (Err error)
refused-accepts b supports (Config error) refused = refused
refused-accepts b supports Memory refused = refused
refused-accepts b supports (Read error) refused = absurd refused
refused-accepts b supports (Write error) refused = absurd refused
refused-accepts b supports WriteZero refused = absurd refused
refused-accepts b supports Position refused = absurd refused
