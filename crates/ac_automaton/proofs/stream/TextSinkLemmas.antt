-- What a sink that sends text has written, wherever the pumping of a stream ends.
use Rattle.std.proofs.Common.{◌≡◌, ◌⊎◌, inl, inr, ℕ, ◌+◌, ◌≤◌, List, [], ◌∷◌, ◌++◌, length, take, get_or, Option, Result, Ok, Err, slice_range, refl, sym, ap, ◌∙◌, subst, arith, append_assoc, add-zero}
use Rattle.std.specs.Prelude.{IfErr}
use Rattle.std.specs.List.{All, concat}
use Rattle.std.proofs.lemmas.List.{append-nil, length-append, take_all}
use Rattle.std.proofs.lemmas.List.Elements.{recursion_from_All}
use Rattle.ac_input.specs.Occurrence.{Occurrence}
use Rattle.ac_input.specs.Laws.BeginningLaws.{IsBeginning}
use Rattle.ac_input.specs.Text.{replaced_from}
use Rattle.ac_input.specs.Work.{shortest}
use Rattle.ac_automaton.specs.Automaton.{Built}
use Rattle.ac_automaton.specs.Stream.Devices.Moved.{AllFit, HasGiven, HasMoved, HasTaken, Moved, but_last}
use Rattle.ac_automaton.specs.Stream.Devices.Output.{Stopped}
use Rattle.ac_automaton.specs.Stream.Devices.Watched.{IsOfWrite}
use Rattle.ac_automaton.specs.InMemory.Replace.{LieInOrder, matches_in}
use Rattle.ac_automaton.specs.Stream.{AllWords, IsFront, LieApart, Occurrences, Picks, Sequence, Words, items_of, place_of, room_of}
use Rattle.ac_automaton.specs.Stream.SinkLaws.{IsPiecewise, SendsOn-then}
use Rattle.ac_automaton.specs.Stream.Answer.{WritesStream, WroteToFailedWrite}
use Rattle.ac_automaton.specs.Stream.Pump.{Handling, HasComeToCut, IsReadFault, IsSinkChain, Pumps, PumpedWhole, StoppedAtSink, StopsAtBytes, StopsAtItem, StopsFrom, bytes_between}
use Rattle.ac_automaton.specs.Stream.Replace.{IsBegun, replaced_in}
use Rattle.ac_automaton.specs.Stream.Texts.{SendsOn, StopsSend, Texts, replacing, sending, text_between}
use Rattle.ac_automaton.specs.Stream.WholeWords.{IsWordFront, words_replaced_in}
use Rattle.ac_automaton.specs.declared.error.StreamError.{StreamError}
use Rattle.ac_automaton.specs.declared.error.StreamError.TheVariants.{Config, Read, Write, WriteZero, Memory, Position}
use Rattle.ac_automaton.specs.declared.stream.devices.watched.Watched.{Watched}
use Rattle.ac_automaton.proofs.stream.devices.MovedLemmas.{taken-then}
use Rattle.ac_automaton.proofs.stream.devices.OutputLemmas.{HasTaken-from_sent, HasTaken-from_stopped, IsOfWrite-then, Stopped-then}
use Rattle.ac_automaton.proofs.lemmas.ReplaceLemmas.{matches-lie}
use Rattle.ac_automaton.proofs.stream.SinkChainLemmas.{between-append, between-is, between-join, begin_of}
use Rattle.ac_automaton.proofs.stream.StreamCutLemmas.{matches-cut, matches-front}
use Rattle.ac_automaton.proofs.stream.StreamTextLemmas.{drop-take_is, slice_range-take}
use Rattle.ac_automaton.proofs.stream.StreamWordLemmas.{words-lie}

-- ---- parts of a text

-- all pieces but the last, and then the last, are all pieces
pub concat-last : (pieces : List (List ℕ)) → (piece : List ℕ) × (concat pieces ≡ concat (but_last pieces) ++ piece)
concat-last [] = ([], refl)
concat-last (p ∷ []) = (p ++ [], refl)
concat-last (p ∷ (next ∷ ps)) =
    let r = concat-last (next ∷ ps) in (r.0, ap (λ t. p ++ t) r.1 ∙ sym (append_assoc p _ r.0))

-- a shorter front of a text begins it too
begins-shorter : (front gained lost : List ℕ) {more all : List ℕ} → gained ++ lost ≡ more
    → IsBeginning (front ++ more) all → IsBeginning (front ++ gained) all
begins-shorter front gained lost is begins = (
  lost ++ begins.0,
  begins.1
      ∙ ap (λ t. (front ++ t) ++ begins.0) (sym is)
      ∙ ap (λ t. t ++ begins.0) (sym (append_assoc front gained lost))
      ∙ append_assoc (front ++ gained) lost begins.0,
)

-- ---- where items begin

-- the first match or word begins at a place or later, if all do
pub begin-later : (q : Sequence) {place to : ℕ} (os : List Occurrence) → LieApart q → All (λ o. place ≤ place_of q o) os
    → place ≤ to → place ≤ begin_of os to
begin-later Picks [] is all le = le
begin-later Picks {place} (o ∷ os) is all le =
    (recursion_from_All (λ (r : Occurrence). place ≤ r.start) (o ∷ os) all).0
begin-later Occurrences os is all le = absurd is
begin-later Words [] is all le = le
begin-later Words {place} (o ∷ os) is all le =
    (recursion_from_All (λ (r : Occurrence). place ≤ r.start) (o ∷ os) all).0
begin-later AllWords os is all le = absurd is

-- the first of matches that lie in order from a place, and of those after them, begins there or later
begin-then : (patterns : ℕ) {from at : ℕ} (more rest : List Occurrence) (to : ℕ) → LieInOrder patterns at from more
    → from ≤ at → at ≤ begin_of rest to → from ≤ begin_of (more ++ rest) to
begin-then patterns [] rest to lies on later = omega arith
begin-then patterns (o ∷ more) rest to lies on later = lies.1

-- ---- the text that is made

module _ {made : Texts} (laws : IsPiecewise made) (q : Sequence) (x : List ℕ) where
  -- what is made of a text begins with what is made of the bytes up to a place before its first item
  pub text-begins : (at mid : ℕ) (more : List Occurrence) (to : ℕ) → (LieApart q → (at ≤ mid) × (mid ≤ begin_of more to))
      → text_between made q x at more to
      ≡ made.plain (bytes_between q x at mid) ++ text_between made q x mid more to
  text-begins at mid [] to order = ap made.plain (sym (between-join q x _ _ _ order)) ∙ laws.joins _ _
  text-begins at mid (o ∷ more) to order =
      let behind = text_between made q x o.end more to in
      let front = bytes_between q x at mid in
      let before = bytes_between q x mid o.start in
      ap (λ bytes. made.made bytes o ++ behind) (sym (between-join q x _ _ _ order))
      ∙ ap (λ t. t ++ behind) (laws.precedes front before o)
      ∙ append_assoc (made.plain front) (made.made before o) behind

  -- what is made of a text is what is made of its part up to a place, and of the rest
  pub text-then : (patterns at : ℕ) (os : List Occurrence) (mid : ℕ) (more : List Occurrence) (to : ℕ)
      → (LieApart q → (at ≤ mid) × LieInOrder patterns mid at os × (mid ≤ begin_of more to))
      → text_between made q x at (os ++ more) to
      ≡ text_between made q x at os mid ++ text_between made q x mid more to
  text-then patterns at [] mid more to order =
      text-begins at mid more to (λ is. let p = order is in (p.0, p.2))
  text-then patterns at (o ∷ os) mid more to order =
      let front = made.made (bytes_between q x at o.start) o in
      ap (λ t. front ++ t)
      (text-then patterns o.end os mid more to (λ is. let p = order is in (p.1.3, p.1.4, p.2)))
      ∙ sym (append_assoc front (text_between made q x o.end os mid) (text_between made q x mid more to))

-- what is made of a text up to a place is what is made of any longer text up to there
pub text-longer : (made : Texts) (q : Sequence) (x y : List ℕ) (patterns at : ℕ) (os : List Occurrence) (to : ℕ)
    → (LieApart q → (at ≤ to) × LieInOrder patterns to at os × (to ≤ length x))
    → text_between made q (x ++ y) at os to ≡ text_between made q x at os to
text-longer made q x y patterns at [] to order =
    ap made.plain (between-append q x y _ _ (λ is. let p = order is in (p.0, p.2)))
text-longer made q x y patterns at (o ∷ os) to order =
    ap (λ bytes. made.made bytes o ++ text_between made q (x ++ y) o.end os to)
    (between-append q x y _ _
    (λ is. let p = order is in (p.1.1, let a = p.1.2 in let c = p.1.3 in let e = p.2 in omega arith)))
    ∙ ap (λ t. made.made (bytes_between q x at o.start) o ++ t)
    (text-longer made q x y patterns o.end os to (λ is. let p = order is in (p.1.3, p.1.4, p.2)))

-- ---- what a chain sends

module _ {K W : Type 0} {contents : W → Option (List ℕ)} {output : K → List ℕ} {texts : K → Texts} where
  -- a chain sends the text that is made of what was passed
  pub chain-sent : (accepts : ℕ → K → Type 0) (q : Sequence) (x : List ℕ) (at : ℕ) (os : List Occurrence) (to : ℕ)
      {z last : K × Watched W} → IsSinkChain (sending contents output texts accepts) q x at os to z last
      → SendsOn contents output texts z (text_between (texts z.0) q x at os to) last
  chain-sent accepts q x at [] to chain = chain
  chain-sent accepts q x at (o ∷ os) to {z} {last} chain =
      let rest = chain-sent accepts q x o.end os to chain.2 in
      SendsOn-then chain.1
      (subst (λ (made : Texts). SendsOn contents output texts chain.0 (text_between made q x o.end os to) last)
      chain.1.same rest)

  -- bytes that were sent were taken, if nothing is held back before and after
  pub taken-sent : {z last : K × Watched W} {bytes : List ℕ} → output z.0 ≡ [] → output last.0 ≡ []
      → SendsOn contents output texts z bytes last → HasTaken contents z.1 last.1 bytes 0 0
  taken-sent {z} {last} {bytes} empty settled s =
      let is : s.sent.gained ≡ bytes = sym (append-nil s.sent.gained)
      ∙ ap (λ t. s.sent.gained ++ t) (sym settled)
      ∙ s.sent.order
      ∙ ap (λ t. t ++ bytes) empty in
      subst (λ (t : List ℕ). HasTaken contents z.1 last.1 t 0 0) is (HasTaken-from_sent s.sent)

-- ---- where the sink stopped

module _ {K W : Type 0} (contents : W → Option (List ℕ)) (output : K → List ℕ) (texts : K → Texts) (q : Sequence)
    (x : List ℕ) where
  -- The sink stopped with a send of bytes that what is left of the text begins with.
  record StopsWith (at : ℕ) (rest : List Occurrence) (there : K × Watched W) (error : StreamError)
      (last : K × Watched W) : Type 0 where
    bytes : List ℕ
    stopped : StopsSend contents output texts there bytes error last
    begins : IsBeginning bytes (text_between (texts there.0) q x at rest (length x))
    later : LieApart q → at ≤ begin_of rest (length x)

  -- The chain went on from a place and stopped, with a send of bytes that what was left there begins with.
  record StopsOn (b : Built) (from : ℕ) (done : List Occurrence) (mid : K × Watched W) (error : StreamError)
      (last : K × Watched W) : Type 0 where
    rest : List Occurrence
    all : items_of q b.dictionary x ≡ done ++ rest
    bytes : List ℕ
    stopped : Stopped contents mid.1 last.1 (output mid.0) bytes
    of_write : IsOfWrite mid.1 last.1 error
    begins : IsBeginning bytes (text_between (texts mid.0) q x from rest (length x))
    later : LieApart q → from ≤ begin_of rest (length x)

  module _ (accepts : ℕ → K → Type 0) (laws : ((k : K) → IsPiecewise (texts k))) where
    -- it stopped at the bytes up to a place, or at an item
    stop-with : (at : ℕ) (rest : List Occurrence) (there : K × Watched W) (error : StreamError) (last : K × Watched W)
        → StopsAtBytes (sending contents output texts accepts) q x at rest there error last
        ⊎ StopsAtItem (sending contents output texts accepts) q x at rest there error last
        → StopsWith at rest there error last
    stop-with at rest there error last (inl stop) =
        let order : LieApart q → (at ≤ stop.end) × (stop.end ≤ begin_of rest (length x)) =
        λ is. (stop.order.0, begin-later q rest is stop.later stop.order.1) in
        record {
          bytes = (texts there.0).plain (bytes_between q x at stop.end);
          stopped = stop.stopped;
          begins = (
            text_between (texts there.0) q x stop.end rest (length x),
            text-begins (laws there.0) q x at stop.end rest (length x) order,
          );
          later = λ is. let p = order is in omega (arith, p.0, p.1);
        }
    stop-with at rest there error last (inr stop) =
        let o = stop.found in
        record {
          bytes = (texts there.0).made (bytes_between q x at o.start) o;
          stopped = stop.refused;
          begins = (
            text_between (texts there.0) q x o.end stop.others (length x),
            ap (λ os. text_between (texts there.0) q x at os (length x)) stop.first,
          );
          later = λ is. subst (λ os. at ≤ begin_of os (length x)) (sym stop.first) (stop.order is);
        }

    -- what a stop after a chain sent
    stops-on : (b : Built) (from : ℕ) (done : List Occurrence) (mid : K × Watched W) (error : StreamError)
        (last : K × Watched W)
        → StopsFrom (sending contents output texts accepts) q b x from done mid error last
        → StopsOn b from done mid error last
    stops-on b from done mid error last s =
        let n = length b.dictionary.patterns in
        let sent = chain-sent accepts q x from s.more s.at s.chain in
        let stop = stop-with s.at s.rest s.there error last s.stop in
        let front = text_between (texts mid.0) q x from s.more s.at in
        let begins : IsBeginning stop.bytes (text_between (texts mid.0) q x s.at s.rest (length x)) =
        subst (λ (made : Texts). IsBeginning stop.bytes (text_between made q x s.at s.rest (length x))) sent.same
        stop.begins in
        let split = text-then (laws mid.0) q x n from s.more s.at s.rest (length x)
        (λ is. (s.on, s.lies is, stop.later is)) in
        record {
          rest = s.more ++ s.rest;
          all = s.all;
          bytes = front ++ stop.bytes;
          stopped = Stopped-then sent.sent stop.stopped.stopped;
          of_write = IsOfWrite-then mid.1 s.there.1 last.1 error sent.sent.fine.stalls stop.stopped.of_write;
          begins = (
            begins.0,
            split ∙ ap (λ t. front ++ t) begins.1 ∙ sym (append_assoc front stop.bytes begins.0),
          );
          later = λ is. begin-then n s.more s.rest (length x) (s.lies is) s.on (stop.later is);
        }

-- an error of a write comes after the first read
pub write-begun : {W : Type 0} (old new : Watched W) (error : StreamError) → IsOfWrite old new error → IsBegun error
write-begun old new (Config error) kind = absurd kind
write-begun old new (Read error) kind = absurd kind
write-begun old new (Write error) kind = tt
write-begun old new WriteZero kind = tt
write-begun old new Memory kind = absurd kind
write-begun old new Position kind = absurd kind

-- ---- what was written when the pumping ended

-- `out` is the text that is made of an input, and `front` what can be written of it once this much was read
module _ {K W : Type 0} (contents : W → Option (List ℕ)) (output : K → List ℕ) (texts : K → Texts)
    (accepts : ℕ → K → Type 0) (laws : ((k : K) → IsPiecewise (texts k))) (q : Sequence) (b : Built)
    (z : K × Watched W) (empty : output z.0 ≡ []) (out : List ℕ → List ℕ) (front : List ℕ → List ℕ → Type 0)
    (whole : ((x : List ℕ) → text_between (texts z.0) q x 0 (items_of q b.dictionary x) (length x) ≡ out x))
    (begun : ((x : List ℕ) (cut : ℕ) (done : List Occurrence) (last : K × Watched W)
    → HasComeToCut (sending contents output texts accepts) q b x cut done z last
    → front x (text_between (texts z.0) q x 0 done cut))) where
  -- all that was decided was taken
  came-taken : (x : List ℕ) (cut : ℕ) (done : List Occurrence) (last : K × Watched W)
      → HasComeToCut (sending contents output texts accepts) q b x cut done z last
      → HasTaken contents z.1 last.1 (text_between (texts z.0) q x 0 done cut) 0 0
  came-taken x cut done last came = taken-sent empty came.settled (chain-sent accepts q x 0 done cut came.chain)

  -- what is made of the text is what was decided before the last read, and what is made of the rest
  came-split : (pieces : List (List ℕ)) (cut : ℕ) (done : List Occurrence) (last : K × Watched W)
      (rest : List Occurrence)
      → HasComeToCut (sending contents output texts accepts) q b (concat (but_last pieces)) cut done z last
      → items_of q b.dictionary (concat pieces) ≡ done ++ rest
      → (LieApart q → cut ≤ begin_of rest (length (concat pieces)))
      → out (concat pieces) ≡ text_between (texts z.0) q (concat (but_last pieces)) 0 done cut
      ++ text_between (texts z.0) q (concat pieces) cut rest (length (concat pieces))
  came-split pieces cut done last rest came all later =
      let made = texts z.0 in
      let x = concat pieces in
      let early = concat (but_last pieces) in
      let n = length b.dictionary.patterns in
      let split = concat-last pieces in
      let same : text_between made q x 0 done cut ≡ text_between made q early 0 done cut =
      ap (λ t. text_between made q t 0 done cut) split.1
      ∙ text-longer made q early split.0 n 0 done cut (λ is. (omega arith, came.lies is, came.within)) in
      sym (whole x)
      ∙ ap (λ os. text_between made q x 0 os (length x)) all
      ∙ text-then (laws z.0) q x n 0 done cut rest (length x) (λ is. (omega arith, came.lies is, later is))
      ∙ ap (λ t. t ++ text_between made q x cut rest (length x)) same

  module _ {R : Type 0} {remaining : R → Option (List ℕ)} {r0 r1 : Watched R} (pieces : List (List ℕ)) (failed : ℕ)
      (given : HasGiven remaining r0 r1 pieces failed) (fit : AllFit (room_of q b) pieces) (last : K × Watched W) where
    -- the sink stopped at a failed write
    write-failed : (error : StreamError) (stalls : ℕ) → failed ≡ 0
        → (s : StoppedAtSink (sending contents output texts accepts) q b pieces z error last)
        → last.1.stalls.value ≡ s.mid.1.stalls.value + stalls
        → (m : Moved) × HasMoved remaining contents r0 r1 z.1 last.1 m × AllFit (room_of q b) m.pieces
        × WroteToFailedWrite out front m stalls
    write-failed error stalls fine s stalled =
        let x = concat pieces in
        let on = stops-on contents output texts q x accepts laws b s.cut s.done s.mid error last s.stops in
        let sent = chain-sent accepts q (concat (but_last pieces)) 0 s.done s.cut s.came.chain in
        let early = text_between (texts z.0) q (concat (but_last pieces)) 0 s.done s.cut in
        let order : on.stopped.gained ++ on.stopped.lost ≡ on.bytes =
        on.stopped.order ∙ ap (λ t. t ++ on.bytes) s.came.settled in
        let split = came-split pieces s.cut s.done s.mid on.rest s.came on.all on.later in
        let begins : IsBeginning on.bytes (text_between (texts z.0) q x s.cut on.rest (length x)) =
        subst (λ (made : Texts). IsBeginning on.bytes (text_between made q x s.cut on.rest (length x))) sent.same
        on.begins in
        let within : IsBeginning (early ++ on.bytes) (out x) =
        (begins.0, split ∙ ap (λ t. early ++ t) begins.1 ∙ sym (append_assoc early on.bytes begins.0)) in (
          record {
            pieces = pieces;
            failed_reads = failed;
            taken = early ++ on.stopped.gained;
            failed_writes = 1;
            stalled_writes = stalls;
          },
          record {
            reader = given;
            writer = taken-then (came-taken _ s.cut s.done s.mid s.came) (HasTaken-from_stopped on.stopped stalled);
          },
          fit,
          record {
            at_least = (early, begun _ s.cut s.done s.mid s.came, (on.stopped.gained, refl));
            at_most = begins-shorter early on.stopped.gained on.stopped.lost order within;
            failed = (fine, refl, refl);
          },
        )

    -- the error is that of the failed write
    stopped-of_write : (error : StreamError)
        → (s : StoppedAtSink (sending contents output texts accepts) q b pieces z error last)
        → IsOfWrite s.mid.1 last.1 error
    stopped-of_write error s =
        let x = concat pieces in
        (stops-on contents output texts q x accepts laws b s.cut s.done s.mid error last s.stops).of_write

    -- the sink stopped
    sink-stopped : (error : StreamError) → failed ≡ 0
        → StoppedAtSink (sending contents output texts accepts) q b pieces z error last
        → WritesStream remaining contents (room_of q b) out front r0 r1 z.1 last.1 (Err error)
    sink-stopped (Config error) fine s = absurd (stopped-of_write (Config error) s)
    sink-stopped (Read error) fine s = absurd (stopped-of_write (Read error) s)
    sink-stopped (Write error) fine s =
        write-failed (Write error) 0 fine s (stopped-of_write (Write error) s ∙ sym (add-zero _))
    sink-stopped WriteZero fine s = write-failed WriteZero 1 fine s (stopped-of_write WriteZero s)
    sink-stopped Memory fine s = absurd (stopped-of_write Memory s)
    sink-stopped Position fine s = absurd (stopped-of_write Position s)

    -- a read failed, or there are more bytes than places
    read-stopped : (error : StreamError)
        → IsReadFault (sending contents output texts accepts) q b pieces failed z last error
        → WritesStream remaining contents (room_of q b) out front r0 r1 z.1 last.1 (Err error)
    read-stopped (Config error) fault = absurd fault
    read-stopped (Read error) fault = (
      record {
        pieces = pieces;
        failed_reads = failed;
        taken = text_between (texts z.0) q (concat pieces) 0 fault.2.1 fault.2.0;
        failed_writes = 0;
        stalled_writes = 0;
      },
      record { reader = given; writer = came-taken _ fault.2.0 fault.2.1 last fault.2.2 },
      fit,
      record { written = begun _ fault.2.0 fault.2.1 last fault.2.2; failed = (fault.0, refl, refl) },
    )
    read-stopped (Write error) fault = absurd fault
    read-stopped WriteZero fault = absurd fault
    read-stopped Memory fault = absurd fault
    read-stopped Position fault =
        let x = concat pieces in
        let early = concat (but_last pieces) in
        let cut = fault.2.0 in
        let done = fault.2.1 in
        let came = fault.2.2 in
        let split = concat-last pieces in
        let on = came.later split.0 in
        let within : cut ≤ length early = came.within in
        let long : length x ≡ length early + length split.0 =
        ap length split.1 ∙ length-append early split.0 in (
          record {
            pieces = pieces;
            failed_reads = failed;
            taken = text_between (texts z.0) q early 0 done cut;
            failed_writes = 0;
            stalled_writes = 0;
          },
          record { reader = given; writer = came-taken early cut done last came },
          fit,
          record {
            long = fault.1;
            written = (
              text_between (texts z.0) q x cut on.0 (length x),
              came-split pieces cut done last on.0 came (ap (items_of q b.dictionary) split.1 ∙ on.1)
                  (λ is. begin-later q on.0 is on.2 (omega arith)),
            );
            failed = (fault.0, refl, refl);
          },
        )

    -- an error, whoever stopped
    stopped-writes : (error : StreamError)
        → ((failed ≡ 0) × StoppedAtSink (sending contents output texts accepts) q b pieces z error last)
        ⊎ IsReadFault (sending contents output texts accepts) q b pieces failed z last error
        → WritesStream remaining contents (room_of q b) out front r0 r1 z.1 last.1 (Err error)
    stopped-writes error (inl stop) = sink-stopped error stop.0 stop.1
    stopped-writes error (inr fault) = read-stopped error fault

    -- the input was read to its end
    pumped-whole : (done : Unit {0}) → failed ≡ 0
        → PumpedWhole (sending contents output texts accepts) q b pieces z last
        → WritesStream remaining contents (room_of q b) out front r0 r1 z.1 last.1 (Ok done)
    pumped-whole done fine p =
        let x = concat pieces in
        let sent = chain-sent accepts q x 0 (items_of q b.dictionary x) (length x) p.chain in
        let taken = taken-sent empty p.settled sent in (
          record { pieces = pieces; failed_reads = failed; taken = out x; failed_writes = 0; stalled_writes = 0 },
          record {
            reader = given;
            writer = subst (λ (t : List ℕ). HasTaken contents z.1 last.1 t 0 0) (whole x) taken;
          },
          fit,
          record { whole = p.whole; written = refl; failed = (fine, refl, refl) },
        )

    -- an error that comes after the first read
    begun-of : (error : StreamError)
        → ((failed ≡ 0) × StoppedAtSink (sending contents output texts accepts) q b pieces z error last)
        ⊎ IsReadFault (sending contents output texts accepts) q b pieces failed z last error
        → IsBegun error
    begun-of error (inl stop) = write-begun stop.1.mid.1 last.1 error (stopped-of_write error stop.1)
    begun-of (Config error) (inr fault) = absurd fault
    begun-of (Read error) (inr fault) = tt
    begun-of (Write error) (inr fault) = absurd fault
    begun-of WriteZero (inr fault) = absurd fault
    begun-of Memory (inr fault) = absurd fault
    begun-of Position (inr fault) = tt

  module _ {R : Type 0} {remaining : R → Option (List ℕ)} {r0 r1 : Watched R} (last : K × Watched W) where
    -- what a stream that is pumped into the sink writes
    pub pumped-writes : (result : Result (Unit {0}) StreamError)
        → Pumps (sending contents output texts accepts) q remaining b r0 r1 z last result
        → WritesStream remaining contents (room_of q b) out front r0 r1 z.1 last.1 result
    pumped-writes (Ok done) p = pumped-whole p.0 p.1 p.2 p.3 last done p.4.0 p.4.1
    pumped-writes (Err error) p = stopped-writes p.0 p.1 p.2 p.3 last error p.4

    -- an error comes after the first read
    pub pumped-begun : (result : Result (Unit {0}) StreamError)
        → Pumps (sending contents output texts accepts) q remaining b r0 r1 z last result → IfErr result IsBegun
    pumped-begun (Ok done) p = tt
    pumped-begun (Err error) p = begun-of p.0 p.1 p.2 p.3 last error p.4

-- ---- replacement

-- the text that replacement makes of the front of a text
pub replaced-text : (q : Sequence) → LieApart q → (x : List ℕ) (replacements : List (List ℕ)) (patterns at : ℕ)
    (os : List Occurrence) (to : ℕ) → LieInOrder patterns to at os → at ≤ to → to ≤ length x
    → text_between (replacing replacements) q x at os to ≡ replaced_from at (take to x) replacements os
replaced-text q apart x replacements patterns at [] to lies le within =
    between-is q x at to apart ∙ sym (drop-take_is x at to le within)
replaced-text q apart x replacements patterns at (o ∷ os) to lies le within =
    let replacement = get_or replacements o.pattern [] in
    ap (λ t. (t ++ replacement) ++ text_between (replacing replacements) q x o.end os to)
    (between-is q x at o.start apart ∙ sym (slice_range-take x to at o.start lies.1 (omega arith) within))
    ∙ ap (λ t. (slice_range (take to x) at o.start ++ replacement) ++ t)
    (replaced-text q apart x replacements patterns o.end os to lies.4 lies.3 within)

-- all of the text, replaced
pub replaced-whole : (b : Built) (replacements : List (List ℕ)) (x : List ℕ)
    → text_between (replacing replacements) Picks x 0 (items_of Picks b.dictionary x) (length x)
    ≡ replaced_in b replacements x
replaced-whole b replacements x =
    replaced-text Picks tt x replacements (length b.dictionary.patterns) 0 (items_of Picks b.dictionary x) (length x)
    (matches-lie b x) (omega arith) (omega arith)
    ∙ ap (λ t. replaced_from 0 t replacements (items_of Picks b.dictionary x)) (take_all (length x) x (omega arith))

-- all that is decided, replaced
pub replaced-front : {Z : Type 0} {h : Handling Z} (b : Built) (replacements : List (List ℕ)) (x : List ℕ) (cut : ℕ)
    (done : List Occurrence) {z last : Z} → 1 ≤ shortest b.dictionary.patterns
    → HasComeToCut h Picks b x cut done z last
    → IsFront b.dictionary (replaced_in b replacements) x (text_between (replacing replacements) Picks x 0 done cut)
replaced-front b replacements x cut done some came =
    let n = length b.dictionary.patterns in
    let lies = came.lies tt in
    let within = came.within in
    let left = came.later [] in
    let all = ap (matches_in b) (sym (append-nil x)) ∙ left.1 in
    record {
      cut = cut;
      is_cut = matches-cut b x cut n done left.0 within all lies left.2;
      near = came.near;
      front = replaced-text Picks tt x replacements n 0 done cut lies (omega arith) within
          ∙ ap (replaced_from 0 (take cut x) replacements)
          (sym (matches-front b x cut n done left.0 some within all lies left.2));
    }

-- ---- replacement of whole words

-- all of the text, with its words replaced
pub words-whole : (b : Built) (replacements : List (List ℕ)) (x : List ℕ)
    → text_between (replacing replacements) Words x 0 (items_of Words b.dictionary x) (length x)
    ≡ words_replaced_in b.dictionary replacements x
words-whole b replacements x =
    replaced-text Words tt x replacements (length b.dictionary.patterns) 0 (items_of Words b.dictionary x) (length x)
    (words-lie b.dictionary x) (omega arith) (omega arith)
    ∙ ap (λ t. replaced_from 0 t replacements (items_of Words b.dictionary x)) (take_all (length x) x (omega arith))

-- the words that are decided, replaced
pub words-front : {Z : Type 0} {h : Handling Z} (b : Built) (replacements : List (List ℕ)) (x : List ℕ) (cut : ℕ)
    (done : List Occurrence) {z last : Z} → HasComeToCut h Words b x cut done z last
    → IsWordFront b.dictionary replacements x (text_between (replacing replacements) Words x 0 done cut)
words-front b replacements x cut done came = record {
  cut = cut;
  done = done;
  decides = came.decides;
  later = came.later;
  within = came.within;
  near = came.near;
  front = replaced-text Words tt x replacements (length b.dictionary.patterns) 0 done cut (came.lies tt) (omega arith)
      came.within;
}
