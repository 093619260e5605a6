-- Sinks that count: they do what they do without counting, and at the end the number has grown by what was passed.
use Rattle.std.proofs.Common.{◌≡◌, ◌⊎◌, inl, inr, ℕ, suc, List, [], ◌∷◌, length, Option, Result, Ok, Err, sym, ap, ◌∙◌, arith}
use Rattle.std.specs.Prelude.{OnOk}
use Rattle.std.specs.List.{concat}
use Rattle.ac_input.specs.Occurrence.{Occurrence}
use Rattle.ac_input.specs.declared.search.Anchored.{Anchored}
use Rattle.ac_input.specs.declared.search.MatchKind.{MatchKind}
use Rattle.ac_input.specs.declared.steps.Steps.{Steps}
use Rattle.ac_automaton.specs.Automaton.{Built}
use Rattle.ac_automaton.specs.Stream.{Picks, Sequence, Words, items_of}
use Rattle.ac_automaton.specs.Stream.Pump.{AnswersPump, Handling, HasComeToCut, IsReadFault, IsSinkChain, PumpsAt, PumpsMatches, StopsAtBytes, StopsAtItem, StopsFrom}
use Rattle.ac_automaton.specs.Stream.WholeWords.{PumpsWords, asked_for}
use Rattle.ac_automaton.specs.declared.error.StreamError.{StreamError}
use Rattle.ac_automaton.specs.declared.error.StreamError.TheVariants as stream
use Rattle.ac_automaton.specs.declared.stream.StreamKinds.{StreamKinds}
use Rattle.ac_automaton.specs.declared.stream.devices.watched.Watched.{Watched}
use Rattle.acsub.specs.Tally.{Counts, tallying, grown}
use Rattle.acsub.specs.declared.tally.Tally.{Tally}

-- ---- numbers

-- by none
pub grown-none : (n : ℕ) → grown n 0 ≡ n
grown-none n = omega arith

-- by one, and then by more
pub grown-then : (n more : ℕ) → grown (grown n 1) more ≡ grown n (suc more)
grown-then n more = omega arith

-- ---- what a sink does that counts

module _ {Z : Type 0} (number : Z → ℕ) (h : Handling Z) (q : Sequence) where
  -- its chain is one without counting
  chain-plain : (x : List ℕ) (at : ℕ) (os : List Occurrence) (to : ℕ) (z last : Z)
      → IsSinkChain (tallying number h) q x at os to z last → IsSinkChain h q x at os to z last
  chain-plain x at [] to z last chain = chain.0
  chain-plain x at (o ∷ os) to z last chain = (chain.0, chain.1.0, chain-plain x o.end os to chain.0 last chain.2)

  -- and the number has grown by the items that were passed
  chain-count : (x : List ℕ) (at : ℕ) (os : List Occurrence) (to : ℕ) (z last : Z)
      → IsSinkChain (tallying number h) q x at os to z last → number last ≡ grown (number z) (length os)
  chain-count x at [] to z last chain = chain.1 ∙ sym (grown-none (number z))
  chain-count x at (o ∷ os) to z last chain =
      chain-count x o.end os to chain.0 last chain.2
      ∙ ap (λ n. grown n (length os)) chain.1.1
      ∙ grown-then (number z) (length os)

  -- where it stopped, it stops without counting
  stop-plain : (x : List ℕ) (at : ℕ) (rest : List Occurrence) (z : Z) (error : StreamError) (last : Z)
      → StopsAtBytes (tallying number h) q x at rest z error last ⊎ StopsAtItem (tallying number h) q x at rest z error last
      → StopsAtBytes h q x at rest z error last ⊎ StopsAtItem h q x at rest z error last
  stop-plain x at rest z error last (inl s) =
      inl (record { end = s.end; order = s.order; later = s.later; stopped = s.stopped })
  stop-plain x at rest z error last (inr s) =
      inr (record { found = s.found; others = s.others; first = s.first; order = s.order; refused = s.refused })

  module _ (b : Built) where
    -- it has come as far
    came-plain : (x : List ℕ) (cut : ℕ) (done : List Occurrence) (z last : Z)
        → HasComeToCut (tallying number h) q b x cut done z last → HasComeToCut h q b x cut done z last
    came-plain x cut done z last s =
        record {
          decides = s.decides;
          within = s.within;
          later = s.later;
          near = s.near;
          lies = s.lies;
          chain = chain-plain x 0 done cut z last s.chain;
          settled = s.settled;
        }

    -- and stopped as far on
    from-plain : (x : List ℕ) (from : ℕ) (done : List Occurrence) (z : Z) (error : StreamError) (last : Z)
        → StopsFrom (tallying number h) q b x from done z error last → StopsFrom h q b x from done z error last
    from-plain x from done z error last s =
        record {
          more = s.more;
          rest = s.rest;
          all = s.all;
          at = s.at;
          on = s.on;
          lies = s.lies;
          there = s.there;
          chain = chain-plain x from s.more s.at z s.there s.chain;
          stop = stop-plain x s.at s.rest s.there error last s.stop;
        }

    -- or a read failed there
    fault-plain : (pieces : List (List ℕ)) (failed : ℕ) (z last : Z) (error : StreamError)
        → IsReadFault (tallying number h) q b pieces failed z last error → IsReadFault h q b pieces failed z last error
    fault-plain pieces failed z last (stream.Read error) f =
        (f.0, f.1, (f.2.0, f.2.1, came-plain (concat pieces) f.2.0 f.2.1 z last f.2.2))
    fault-plain pieces failed z last stream.Position f = (f.0, f.1, (f.2.0, f.2.1, came-plain _ f.2.0 f.2.1 z last f.2.2))
    fault-plain pieces failed z last (stream.Config error) f = absurd f
    fault-plain pieces failed z last (stream.Write error) f = absurd f
    fault-plain pieces failed z last stream.WriteZero f = absurd f
    fault-plain pieces failed z last stream.Memory f = absurd f

    -- each result means what it means without counting
    pumped-plain : (pieces : List (List ℕ)) (failed : ℕ) (z last : Z) (result : Result (Unit {0}) StreamError)
        → AnswersPump (tallying number h) q b pieces failed z last result
        → AnswersPump h q b pieces failed z last result
    pumped-plain pieces failed z last (Ok done) p = (
      p.0,
      record { whole = p.1.whole; chain = chain-plain _ 0 _ _ z last p.1.chain; settled = p.1.settled },
    )
    pumped-plain pieces failed z last (Err error) (inl p) =
        let s = p.1 in
        inl (
          p.0,
          record {
            cut = s.cut;
            done = s.done;
            mid = s.mid;
            came = came-plain _ s.cut s.done z s.mid s.came;
            stops = from-plain (concat pieces) s.cut s.done s.mid error last s.stops;
          },
        )
    pumped-plain pieces failed z last (Err error) (inr p) = inr (fault-plain pieces failed z last error p)

    -- a stream that was pumped into it was pumped into it without counting
    pub plain : {R : Type 0} (remaining : R → Option (List ℕ)) (r0 r1 : Watched R) (z last : Z) (before after : Steps)
        (result : Result (Unit {0}) StreamError)
        → PumpsAt (tallying number h) q remaining b r0 r1 z last before after result
        → PumpsAt h q remaining b r0 r1 z last before after result
    plain remaining r0 r1 z last before after result p =
        ((p.0.0, p.0.1, p.0.2, p.0.3, pumped-plain p.0.0 p.0.1 z last result p.0.4), p.1)

module _ {Z : Type 0} (tally : Z → Tally) (h : Handling Z) {R : Type 0} (remaining : R → Option (List ℕ))
    (b : Built) (supports : Anchored → Type 0) (r0 r1 : Watched R) (z last : Z) (before after : Steps) where
  -- a stream that was pumped to its end was counted
  pub whole-counted : (q : Sequence) (result : Result (Unit {0}) StreamError)
      → PumpsAt (tallying (λ y. (tally y).found) h) q remaining b r0 r1 z last before after result
      → OnOk result (Counts (items_of q b.dictionary) r0 r1 (tally z) (tally last))
  whole-counted q (Ok done) p =
      record {
        gained = p.0.0;
        read = p.0.2.pieces;
        counted = chain-count (λ y. (tally y).found) h q _ 0 _ _ z last p.0.4.1.chain;
      }
  whole-counted q (Err error) p = tt

  -- the matches were pumped into it without counting
  pub matches-plain : (kinds : StreamKinds) (result : Result (Unit {0}) StreamError)
      → PumpsMatches (tallying (λ y. (tally y).found) h) remaining kinds b supports r0 r1 z last before after result
      → PumpsMatches h remaining kinds b supports r0 r1 z last before after result
  matches-plain kinds (Ok done) p =
      (p.0, plain (λ y. (tally y).found) h Picks b remaining r0 r1 z last before after (Ok done) p.1)
  matches-plain kinds (Err error) (inl p) = inl p
  matches-plain kinds (Err error) (inr p) =
      inr (p.0, plain (λ y. (tally y).found) h Picks b remaining r0 r1 z last before after (Err error) p.1)

  -- their number
  pub matches-counted : (kinds : StreamKinds) (result : Result (Unit {0}) StreamError)
      → PumpsMatches (tallying (λ y. (tally y).found) h) remaining kinds b supports r0 r1 z last before after result
      → OnOk result (Counts (items_of Picks b.dictionary) r0 r1 (tally z) (tally last))
  matches-counted kinds (Ok done) p = whole-counted Picks (Ok done) p.1
  matches-counted kinds (Err error) p = tt

module _ {Z : Type 0} (tally : Z → Tally) (h : Handling Z) {R : Type 0} (remaining : R → Option (List ℕ))
    (kind : MatchKind) (b : Built) (supports : Anchored → Type 0) (r0 r1 : Watched R) (z last : Z)
    (before after : Steps) where
  -- the whole words under a kind were pumped into it without counting
  pub words-plain : (result : Result (Unit {0}) StreamError)
      → PumpsWords (tallying (λ y. (tally y).found) h) remaining kind b supports r0 r1 z last before after result
      → PumpsWords h remaining kind b supports r0 r1 z last before after result
  words-plain (Ok done) p =
      (p.0, plain (λ y. (tally y).found) h Words (asked_for kind b) remaining r0 r1 z last before after (Ok done) p.1)
  words-plain (Err error) (inl p) = inl p
  words-plain (Err error) (inr p) =
      inr (p.0, plain (λ y. (tally y).found) h Words (asked_for kind b) remaining r0 r1 z last before after (Err error) p.1)

  -- their number
  pub words-counted : (result : Result (Unit {0}) StreamError)
      → PumpsWords (tallying (λ y. (tally y).found) h) remaining kind b supports r0 r1 z last before after result
      → OnOk result (Counts (items_of Words (asked_for kind b).dictionary) r0 r1 (tally z) (tally last))
  words-counted (Ok done) p =
      whole-counted tally h remaining (asked_for kind b) supports r0 r1 z last before after Words (Ok done) p.1
  words-counted (Err error) p = tt
