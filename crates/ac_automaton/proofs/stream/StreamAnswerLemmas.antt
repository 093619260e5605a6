-- What a replacement over a stream returns if it did not begin, and what it costs.
use Rattle.std.proofs.Common.{◌≡◌, ◌⊎◌, inl, inr, ℕ, ◌≤◌, List, [], length, Option, Result, Ok, Err, refl, sym, subst, arith}
use Rattle.std.specs.Prelude.{IfErr}
use Rattle.std.proofs.lemmas.List.{append-nil}
use Rattle.ac_input.specs.declared.search.Anchored.{Anchored}
use Rattle.ac_input.specs.declared.search.MatchKind.{MatchKind}
use Rattle.ac_input.specs.declared.steps.Steps.{Steps}
use Rattle.ac_input.specs.Occurrence.{Occurrence}
use Rattle.ac_input.specs.Work.{shortest}
use Rattle.ac_automaton.specs.Automaton.{Built}
use Rattle.ac_automaton.specs.Stream.Devices.Moved.{AllFit, HasMoved, Moved, NoneTouched}
use Rattle.ac_automaton.specs.Stream.{CanStream, IsFront, IsStreamRefusal, Picks, Words, items_of, room_of}
use Rattle.ac_automaton.specs.Stream.Answer.{MovedNothing, WritesStream}
use Rattle.ac_automaton.specs.Stream.Overlapping.{IsListingRefusal}
use Rattle.ac_automaton.specs.Stream.SinkLaws.{IsPiecewise}
use Rattle.ac_automaton.specs.Stream.Pump.{HasComeToCut, Pumps, PumpsMatches}
use Rattle.ac_automaton.specs.Stream.Replace.{CostsStream, IsBegun, ReplacesStream, replaced_in}
use Rattle.ac_automaton.specs.Stream.Texts.{Texts, replacing, sending, text_between}
use Rattle.ac_automaton.specs.Stream.WholeWords.{CostsWordStream, IsWordFront, PumpsWords, ReplacesWords, asked_for, words_replaced_in}
use Rattle.ac_automaton.specs.declared.error.StreamError.{StreamError}
use Rattle.ac_automaton.specs.declared.error.StreamError.TheVariants.{Config, Read, Write, WriteZero, Memory, Position}
use Rattle.ac_automaton.specs.declared.stream.StreamKinds.{StreamKinds}
use Rattle.ac_automaton.specs.declared.stream.StreamKinds.TheVariants.{AnyKind, OnlyStandard}
use Rattle.ac_automaton.specs.declared.stream.devices.watched.Watched.{Watched}
use Rattle.ac_automaton.proofs.stream.devices.MovedLemmas.{given-none, taken-none}
use Rattle.ac_automaton.proofs.stream.TextSinkLemmas.{pumped-begun, pumped-writes, replaced-front, replaced-whole, words-front, words-whole}

-- ---- where nothing was read

-- an error of the search, or of the memory for its buffer, comes before the first read
stream-early : (kinds : StreamKinds) (b : Built) (supports : Anchored → Type 0) (error : StreamError)
    → IsStreamRefusal kinds b supports error → ¬ IsBegun error
stream-early kinds b supports (Config error) refused = λ begun. begun
stream-early kinds b supports (Read error) refused = absurd refused
stream-early kinds b supports (Write error) refused = absurd refused
stream-early kinds b supports WriteZero refused = absurd refused
stream-early kinds b supports Memory refused = λ begun. begun
stream-early kinds b supports Position refused = absurd refused

listing-early : (b : Built) (supports : Anchored → Type 0) (error : StreamError) → IsListingRefusal b supports error
    → ¬ IsBegun error
listing-early b supports (Config error) refused = λ begun. begun
listing-early b supports (Read error) refused = absurd refused
listing-early b supports (Write error) refused = absurd refused
listing-early b supports WriteZero refused = absurd refused
listing-early b supports Memory refused = λ begun. begun
listing-early b supports Position refused = absurd refused

module _ {R W : Type 0} (remaining : R → Option (List ℕ)) (contents : W → Option (List ℕ)) (room : ℕ)
    (out : List ℕ → List ℕ) (front : List ℕ → List ℕ → Type 0) (reader : Watched R) (writer : Watched W) where
  none-moved : (m : Moved) × HasMoved remaining contents reader reader writer writer m × AllFit room m.pieces
      × MovedNothing m
  none-moved = (
    record { pieces = []; failed_reads = 0; taken = []; failed_writes = 0; stalled_writes = 0 },
    record { reader = given-none; writer = taken-none },
    λ k d lt. absurd (omega arith),
    record { pieces = refl; taken = refl; failed = (refl, refl, refl) },
  )

  -- such an error leaves nothing written
  none-written : (error : StreamError) → ¬ IsBegun error
      → WritesStream remaining contents room out front reader reader writer writer (Err error)
  none-written (Config error) early = none-moved
  none-written (Read error) early = absurd (early tt)
  none-written (Write error) early = absurd (early tt)
  none-written WriteZero early = absurd (early tt)
  none-written Memory early = none-moved
  none-written Position early = absurd (early tt)

module _ {R W : Type 0} (remaining : R → Option (List ℕ)) (contents : W → Option (List ℕ)) where
  -- nothing was moved
  pub nothing-moved : (kinds : StreamKinds) (b : Built) (supports : Anchored → Type 0) (replacements : List (List ℕ))
      (reader : Watched R) (writer : Watched W) (error : StreamError) → IsStreamRefusal kinds b supports error
      → ReplacesStream remaining contents b replacements reader reader writer writer (Err error)
  nothing-moved kinds b supports replacements reader writer error refused = (
    none-written remaining contents (room_of Picks b) (replaced_in b replacements)
        (IsFront b.dictionary (replaced_in b replacements)) reader writer error
        (stream-early kinds b supports error refused),
    inr (refl, refl),
  )

  -- nor where words were asked for
  pub words-unmoved : (kind : MatchKind) (b : Built) (supports : Anchored → Type 0) (replacements : List (List ℕ))
      (reader : Watched R) (writer : Watched W) (error : StreamError) → IsListingRefusal b supports error
      → ReplacesWords remaining contents (asked_for kind b) replacements reader reader writer writer (Err error)
  words-unmoved kind b supports replacements reader writer error refused = (
    none-written remaining contents (room_of Words b)
        (words_replaced_in (asked_for kind b).dictionary replacements)
        (IsWordFront (asked_for kind b).dictionary replacements) reader writer error
        (listing-early b supports error refused),
    inr (refl, refl),
  )

-- a replacement that did not begin cost nothing
pub cost-none : {R : Type 0} (b : Built) (reader : Watched R) (steps : Steps) (error : StreamError)
    → CostsStream b reader reader steps steps (Err error)
cost-none b reader steps error =
    (([], sym (append-nil _), record { looked = omega arith; scanned = refl; moved = omega arith }, tt), inr refl)

-- nor did one of words
pub words-cost_none : {R : Type 0} (b : Built) (reader : Watched R) (steps : Steps) (error : StreamError)
    → CostsWordStream b reader reader steps steps (Err error)
words-cost_none b reader steps error =
    (([], sym (append-nil _), record { looked = omega arith; scanned = refl; moved = omega arith }, tt), inr refl)

-- an error that comes after the first read, or one of which something else holds
came-later : (P : Type 0) (result : Result (Unit {0}) StreamError) → IfErr result IsBegun
    → IfErr result (λ error. IsBegun error ⊎ P)
came-later P (Ok done) begun = tt
came-later P (Err error) begun = inl begun

-- a search that can be made has no empty pattern
can-some : (kinds : StreamKinds) (b : Built) (supports : Anchored → Type 0) → CanStream kinds b supports
    → 1 ≤ shortest b.dictionary.patterns
can-some OnlyStandard b supports can = can.2
can-some AnyKind b supports can = can.1

-- ---- matches that were pumped into a sink which replaces them

module _ {K W : Type 0} (contents : W → Option (List ℕ)) (output : K → List ℕ) (texts : K → Texts)
    (accepts : ℕ → K → Type 0) (laws : ((k : K) → IsPiecewise (texts k))) (z : K × Watched W)
    (empty : output z.0 ≡ []) (replacements : List (List ℕ)) (replaces : texts z.0 ≡ replacing replacements) where
  module _ {R : Type 0} (remaining : R → Option (List ℕ)) (kinds : StreamKinds) (b : Built)
      (supports : Anchored → Type 0) (r0 r1 : Watched R) (last : K × Watched W)
      (result : Result (Unit {0}) StreamError) where
    -- a stream that was pumped into it
    replaced-stream : CanStream kinds b supports
        → Pumps (sending contents output texts accepts) Picks remaining b r0 r1 z last result
        → ReplacesStream remaining contents b replacements r0 r1 z.1 last.1 result × IfErr result IsBegun
    replaced-stream can pumps =
        let some = can-some kinds b supports can in
        let whole = λ (x : List ℕ). subst (λ (made : Texts).
        text_between made Picks x 0 (items_of Picks b.dictionary x) (length x) ≡ replaced_in b replacements x)
        (sym replaces) (replaced-whole b replacements x) in
        let front = λ (x : List ℕ) (cut : ℕ) (done : List Occurrence) (to : K × Watched W)
        (came : HasComeToCut (sending contents output texts accepts) Picks b x cut done z to).
        subst (λ (made : Texts). IsFront b.dictionary (replaced_in b replacements) x
        (text_between made Picks x 0 done cut)) (sym replaces) (replaced-front b replacements x cut done some came) in
        let wrote = pumped-writes contents output texts accepts laws Picks b z empty (replaced_in b replacements)
        (IsFront b.dictionary (replaced_in b replacements)) whole front last result pumps in
        let begun = pumped-begun contents output texts accepts laws Picks b z empty (replaced_in b replacements)
        (IsFront b.dictionary (replaced_in b replacements)) whole front last result pumps in
        ((wrote, came-later (NoneTouched r0 r1 z.1 last.1) result begun), begun)

  module _ {R : Type 0} (remaining : R → Option (List ℕ)) (b : Built) (r0 r1 : Watched R) (last : K × Watched W)
      (result : Result (Unit {0}) StreamError) where
    -- a stream whose words were pumped into it
    replaced-words : Pumps (sending contents output texts accepts) Words remaining b r0 r1 z last result
        → ReplacesWords remaining contents b replacements r0 r1 z.1 last.1 result × IfErr result IsBegun
    replaced-words pumps =
        let whole = λ (x : List ℕ). subst (λ (made : Texts).
        text_between made Words x 0 (items_of Words b.dictionary x) (length x)
        ≡ words_replaced_in b.dictionary replacements x) (sym replaces) (words-whole b replacements x) in
        let front = λ (x : List ℕ) (cut : ℕ) (done : List Occurrence) (to : K × Watched W)
        (came : HasComeToCut (sending contents output texts accepts) Words b x cut done z to).
        subst (λ (made : Texts). IsWordFront b.dictionary replacements x (text_between made Words x 0 done cut))
        (sym replaces) (words-front b replacements x cut done came) in
        let wrote = pumped-writes contents output texts accepts laws Words b z empty
        (words_replaced_in b.dictionary replacements) (IsWordFront b.dictionary replacements) whole front last result
        pumps in
        let begun = pumped-begun contents output texts accepts laws Words b z empty
        (words_replaced_in b.dictionary replacements) (IsWordFront b.dictionary replacements) whole front last result
        pumps in
        ((wrote, came-later (NoneTouched r0 r1 z.1 last.1) result begun), begun)

  module _ {R : Type 0} (remaining : R → Option (List ℕ)) (kinds : StreamKinds) (b : Built)
      (supports : Anchored → Type 0) (r0 r1 : Watched R) (last : K × Watched W) (before after : Steps) where
    -- what was read and written
    pub matches-replaced : (result : Result (Unit {0}) StreamError)
        → PumpsMatches (sending contents output texts accepts) remaining kinds b supports r0 r1 z last before after
        result → ReplacesStream remaining contents b replacements r0 r1 z.1 last.1 result
    matches-replaced (Ok done) p = (replaced-stream remaining kinds b supports r0 r1 last (Ok done) p.0 p.1.0).0
    matches-replaced (Err error) (inl p) =
        subst (λ r. ReplacesStream remaining contents b replacements r0 r z.1 last.1 (Err error)) (sym p.1.0)
        (subst (λ (to : K × Watched W). ReplacesStream remaining contents b replacements r0 r0 z.1 to.1 (Err error))
        (sym p.1.1) (nothing-moved remaining contents kinds b supports replacements r0 z.1 error p.0))
    matches-replaced (Err error) (inr p) =
        (replaced-stream remaining kinds b supports r0 r1 last (Err error) p.0 p.1.0).0

    -- what it cost
    pub matches-cost : (result : Result (Unit {0}) StreamError)
        → PumpsMatches (sending contents output texts accepts) remaining kinds b supports r0 r1 z last before after
        result → CostsStream b r0 r1 before after result
    matches-cost (Ok done) p = (p.1.1, tt)
    matches-cost (Err error) (inl p) =
        subst (λ r. CostsStream b r0 r before after (Err error)) (sym p.1.0)
        (subst (λ s. CostsStream b r0 r0 before s (Err error)) (sym p.1.2) (cost-none b r0 before error))
    matches-cost (Err error) (inr p) =
        (p.1.1, inl (replaced-stream remaining kinds b supports r0 r1 last (Err error) p.0 p.1.0).1)

  module _ {R : Type 0} (remaining : R → Option (List ℕ)) (kind : MatchKind) (b : Built)
      (supports : Anchored → Type 0) (r0 r1 : Watched R) (last : K × Watched W) (before after : Steps) where
    -- what was read and written where its words were pumped
    pub words-replaced : (result : Result (Unit {0}) StreamError)
        → PumpsWords (sending contents output texts accepts) remaining kind b supports r0 r1 z last before after
        result → ReplacesWords remaining contents (asked_for kind b) replacements r0 r1 z.1 last.1 result
    words-replaced (Ok done) p = (replaced-words remaining (asked_for kind b) r0 r1 last (Ok done) p.1.0).0
    words-replaced (Err error) (inl p) =
        subst (λ r. ReplacesWords remaining contents (asked_for kind b) replacements r0 r z.1 last.1 (Err error))
        (sym p.1.0)
        (subst (λ (to : K × Watched W).
        ReplacesWords remaining contents (asked_for kind b) replacements r0 r0 z.1 to.1 (Err error))
        (sym p.1.1) (words-unmoved remaining contents kind b supports replacements r0 z.1 error p.0))
    words-replaced (Err error) (inr p) =
        (replaced-words remaining (asked_for kind b) r0 r1 last (Err error) p.1.0).0

    -- what it cost; an error before the first read cost nothing
    pub words-cost : (result : Result (Unit {0}) StreamError)
        → PumpsWords (sending contents output texts accepts) remaining kind b supports r0 r1 z last before after
        result → CostsWordStream (asked_for kind b) r0 r1 before after result
    words-cost (Ok done) p = (p.1.1, tt)
    words-cost (Err error) (inl p) =
        subst (λ r. CostsWordStream (asked_for kind b) r0 r before after (Err error)) (sym p.1.0)
        (subst (λ s. CostsWordStream (asked_for kind b) r0 r0 before s (Err error)) (sym p.1.2)
        (words-cost_none (asked_for kind b) r0 before error))
    words-cost (Err error) (inr p) =
        (p.1.1, inl (replaced-words remaining (asked_for kind b) r0 r1 last (Err error) p.1.0).1)
