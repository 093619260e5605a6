-- What a counting replacement over a stream has read, written, cost and counted, given what was pumped.
use Rattle.std.proofs.Common.{◌≡◌, inl, inr, ℕ, List, [], length, Option, Result, Ok, Err, refl, sym, ◌∙◌}
use Rattle.std.specs.Prelude.{IfErr, OnOk}
use Rattle.ac_input.specs.declared.search.Anchored.{Anchored}
use Rattle.ac_input.specs.declared.search.MatchKind.{MatchKind}
use Rattle.ac_input.specs.declared.steps.Steps.{Steps}
use Rattle.ac_automaton.specs.Automaton.{Built}
use Rattle.ac_automaton.specs.Stream.{CanStream, Picks, Sequence, Words, items_of}
use Rattle.ac_automaton.specs.Stream.Pump.{PumpsAt, PumpsMatches}
use Rattle.ac_automaton.specs.Stream.Replace.{CostsItems, ReplacesStream}
use Rattle.ac_automaton.specs.Stream.SinkLaws.{IsPiecewise}
use Rattle.ac_automaton.specs.Stream.Texts.{Texts, replacing, sending, text_between}
use Rattle.ac_automaton.specs.Stream.WholeWords.{PumpsWords, ReplacesWords, asked_for}
use Rattle.ac_automaton.specs.declared.error.StreamError.{StreamError}
use Rattle.ac_automaton.specs.declared.error.StreamError.TheVariants.{Config, Memory}
use Rattle.ac_automaton.specs.declared.stream.StreamKinds.TheVariants.{AnyKind, OnlyStandard}
use Rattle.ac_automaton.specs.declared.stream.devices.watched.Watched.{Watched}
use Rattle.ac_automaton.proofs.stream.StreamAnswerLemmas.{matches-cost, matches-replaced, words-cost, words-replaced}
use Rattle.ac_automaton.proofs.stream.TextSinkLemmas.{pumped-begun}
use Rattle.acsub.specs.Stream.{IsNoRefusal}
use Rattle.acsub.specs.Tally.{Counts, tallying}
use Rattle.acsub.specs.declared.tally.Tally.{Tally}
use Rattle.acsub.proofs.stream.CountedLemmas.{matches-counted, matches-plain, words-counted, words-plain}
use Rattle.acsub.proofs.stream.StreamListLemmas.{begun-accepted, refused-every}
use Rattle.acsub.proofs.stream.StreamedLemmas.{refused-memory}

-- out of memory is no refusal of the search
pub memory-accepted : (error : StreamError) → error ≡ Memory → IsNoRefusal error
memory-accepted error is refusal e = let apart : Memory ≡ Config refusal = sym is ∙ e in absurd (cc)

module _ {K W : Type 0} (contents : W → Option (List ℕ)) (output : K → List ℕ) (tally : K → Tally)
    (texts : K → Texts) (accepts : ℕ → K → Type 0) (laws : ((k : K) → IsPiecewise (texts k))) (z : K × Watched W)
    (empty : output z.0 ≡ []) (replacements : List (List ℕ)) (replaces : texts z.0 ≡ replacing replacements)
    {R : Type 0} (remaining : R → Option (List ℕ)) (b : Built) (supports : Anchored → Type 0) (r0 r1 : Watched R)
    (last : K × Watched W) (before after : Steps) where
  -- what was pumped is no refusal of the search
  pumped-accepted : (q : Sequence) (built : Built) (result : Result (Unit {0}) StreamError)
      → PumpsAt (sending contents output texts accepts) q remaining built r0 r1 z last before after result
      → IfErr result IsNoRefusal
  pumped-accepted q built result pumps =
      begun-accepted result (pumped-begun contents output texts accepts laws q built z empty
      (λ x. text_between (texts z.0) q x 0 (items_of q built.dictionary x) (length x)) (λ x text. Unit {0}) (λ x. refl)
      (λ x cut done to came. tt) last result pumps.0)

  -- matches that were pumped into it were replaced
  pub record HasReplaced (result : Result (Unit {0}) StreamError) : Type 0 where
    pub replaced : ReplacesStream remaining contents b replacements r0 r1 z.1 last.1 result
    pub costs : CostsItems Picks b r0 r1 before after result
    pub counts : OnOk result (Counts (items_of Picks b.dictionary) r0 r1 (tally z.0) (tally last.0))
    pub accepted : IfErr result IsNoRefusal

  matches-accepted : CanStream AnyKind b supports → (result : Result (Unit {0}) StreamError)
      → PumpsMatches (sending contents output texts accepts) remaining AnyKind b supports r0 r1 z last before after result
      → IfErr result IsNoRefusal
  matches-accepted can (Ok done) pumps = tt
  matches-accepted can (Err error) (inl none) = memory-accepted error (refused-memory b supports can error none.0)
  matches-accepted can (Err error) (inr pumps) = pumped-accepted Picks b (Err error) pumps.1

  pub has-replaced : CanStream AnyKind b supports → (result : Result (Unit {0}) StreamError)
      → PumpsMatches (tallying (λ y. (tally y.0).found) (sending contents output texts accepts)) remaining AnyKind b supports
      r0 r1 z last before after result → HasReplaced result
  has-replaced can result pumps =
      let plain = matches-plain (λ y. tally y.0) (sending contents output texts accepts) remaining b supports r0 r1 z last
      before after AnyKind result pumps in
      record {
        replaced = matches-replaced contents output texts accepts laws z empty replacements replaces remaining AnyKind b
            supports r0 r1 last before after result plain;
        costs = (matches-cost contents output texts accepts laws z empty replacements replaces remaining AnyKind b supports
            r0 r1 last before after result plain).0;
        counts = matches-counted (λ y. tally y.0) (sending contents output texts accepts) remaining b supports r0 r1 z last
            before after AnyKind result pumps;
        accepted = matches-accepted can result plain;
      }

  -- and so were whole words
  pub record HasReplacedWords (kind : MatchKind) (result : Result (Unit {0}) StreamError) : Type 0 where
    pub replaced : ReplacesWords remaining contents (asked_for kind b) replacements r0 r1 z.1 last.1 result
    pub costs : CostsItems Words (asked_for kind b) r0 r1 before after result
    pub counts : OnOk result (Counts (items_of Words (asked_for kind b).dictionary) r0 r1 (tally z.0) (tally last.0))
    pub accepted : IfErr result IsNoRefusal

  words-accepted : CanStream OnlyStandard b supports → (kind : MatchKind) (result : Result (Unit {0}) StreamError)
      → PumpsWords (sending contents output texts accepts) remaining kind b supports r0 r1 z last before after result
      → IfErr result IsNoRefusal
  words-accepted can kind (Ok done) pumps = tt
  words-accepted can kind (Err error) (inl none) = memory-accepted error (refused-every b supports error can none.0)
  words-accepted can kind (Err error) (inr pumps) = pumped-accepted Words (asked_for kind b) (Err error) pumps.1

  pub has-replaced_words : CanStream OnlyStandard b supports → (kind : MatchKind)
      (result : Result (Unit {0}) StreamError)
      → PumpsWords (tallying (λ y. (tally y.0).found) (sending contents output texts accepts)) remaining kind b supports
      r0 r1 z last before after result → HasReplacedWords kind result
  has-replaced_words can kind result pumps =
      let plain = words-plain (λ y. tally y.0) (sending contents output texts accepts) remaining kind b supports r0 r1 z
      last before after result pumps in
      record {
        replaced = words-replaced contents output texts accepts laws z empty replacements replaces remaining kind b
            supports r0 r1 last before after result plain;
        costs = (words-cost contents output texts accepts laws z empty replacements replaces remaining kind b supports
            r0 r1 last before after result plain).0;
        counts = words-counted (λ y. tally y.0) (sending contents output texts accepts) remaining kind b supports r0 r1 z
            last before after result pumps;
        accepted = words-accepted can kind result plain;
      }
