-- What a list over a stream has read, written and cost, and that it is the text of a plan.
use Rattle.std.proofs.Common.{◌≡◌, inl, inr, ℕ, ◌≤◌, List, [], ◌∷◌, ◌++◌, length, Option, Result, Ok, Err, refl, sym, ap, ◌∙◌, subst, arith}
use Rattle.std.specs.Prelude.{IfErr, OnOk}
use Rattle.ac_input.specs.declared.search.Anchored.{Anchored}
use Rattle.ac_input.specs.declared.search.MatchKind.{MatchKind}
use Rattle.ac_input.specs.declared.search.MatchKind.TheVariants.{Standard}
use Rattle.ac_input.specs.declared.steps.Steps.{Steps}
use Rattle.ac_input.specs.Occurrence.{Occurrence}
use Rattle.ac_input.specs.Text.{line, listed}
use Rattle.ac_input.specs.Work.{shortest}
use Rattle.ac_automaton.specs.Automaton.{Built}
use Rattle.ac_automaton.specs.Stream.Devices.Moved.{NoneTouched}
use Rattle.ac_automaton.specs.Stream.{AllWords, CanStream, Decides, DecidesMatches, Occurrences, Picks, Sequence, Words, items_of, room_of}
use Rattle.ac_automaton.specs.Stream.Overlapping.{IsListingConfigRefusal, IsListingRefusal}
use Rattle.ac_automaton.specs.Stream.Pump.{Handling, HasComeToCut, IsUntouched, PumpsAt, PumpsMatches, PumpsOccurrences}
use Rattle.ac_automaton.specs.Stream.Replace.{CostsItems, IsBegun}
use Rattle.ac_automaton.specs.Stream.Texts.{sending, text_between}
use Rattle.ac_automaton.specs.Stream.WholeWords.{PumpsAllWords, PumpsWords, asked_for}
use Rattle.ac_automaton.specs.declared.error.MatchErrorKind.{MatchErrorKind}
use Rattle.ac_automaton.specs.declared.error.StreamError.{StreamError}
use Rattle.ac_automaton.specs.declared.error.StreamError.TheVariants as reads
use Rattle.ac_automaton.specs.declared.stream.StreamKinds.TheVariants.{AnyKind, OnlyStandard}
use Rattle.ac_automaton.specs.declared.stream.devices.watched.Watched.{Watched}
use Rattle.ac_automaton.proofs.stream.TextSinkLemmas.{pumped-begun, pumped-writes}
use Rattle.aho_corasick.specs.AhoCorasick.{as_built, supported_by}
use Rattle.aho_corasick.specs.declared.ahocorasick.AhoCorasick.{AhoCorasick}
use Rattle.acsub.specs.Finder.{IsServing}
use Rattle.acsub.specs.Plan.{Plan}
use Rattle.acsub.specs.Served.{dictionary_for}
use Rattle.acsub.specs.Stream.{IfStreamMemory, IsNoRefusal, WritesPlan}
use Rattle.acsub.specs.Stream.StreamList.{ListsStream, lines-piecewise, lines_of, listing_lines}
use Rattle.acsub.specs.Tally.{Counts, tallying}
use Rattle.acsub.specs.declared.tally.Tally.{Tally}
use Rattle.acsub.specs.Run.Transformed.{IsDecidedList, IsOutputFront, IsStreamed, output_of, room_in}
use Rattle.acsub.specs.Args.Settings.{IsAccepted}
use Rattle.acsub.specs.declared.args.settings.Mode.{Mode}
use Rattle.acsub.specs.declared.args.settings.Mode.TheVariants as modes
use Rattle.acsub.proofs.prepared.FinderLemmas.{overlap-standard}
use Rattle.acsub.proofs.run.RunLemmas.{HasMoved-nothing, nothing_moved}
use Rattle.acsub.proofs.stream.CountedLemmas.{plain, whole-counted}
use Rattle.acsub.proofs.stream.StreamedLemmas.{cost-nothing, filled-shortest, output-in, refused-memory, room-in, writes-plan}

-- ---- errors that come after the first read

-- such an error is no refusal of the search
pub begun-accepted : (result : Result (Unit {0}) StreamError) → IfErr result IsBegun → IfErr result IsNoRefusal
begun-accepted (Ok done) begun = tt
begun-accepted (Err error) begun = λ refusal e. subst IsBegun e begun

-- such an error is not out of memory
never-memory : (P : Type 0) (result : Result (Unit {0}) StreamError) → IfErr result IsBegun → IfStreamMemory result P
never-memory P (Ok done) begun = tt
never-memory P (Err error) begun = λ e. absurd (subst IsBegun e begun)

-- ---- where the search did not begin

-- if memory ran out before the first read, nothing was moved
pub lists-nothing : {R W : Type 0} (q : Sequence) (remaining : R → Option (List ℕ)) (contents : W → Option (List ℕ))
    (b : Built) (old : Watched R × Watched W) → ListsStream q remaining contents b old old (Err reads.Memory)
lists-nothing q remaining contents b old = (
  nothing_moved,
  HasMoved-nothing remaining contents old.0 old.1,
  λ k d lt. absurd (omega arith),
  record { pieces = refl; taken = refl; failed = (refl, refl, refl) },
)

-- a supported search isn't refused
pub can-list : (b : Built) (supports : Anchored → Type 0) (refusal : MatchErrorKind) → CanStream OnlyStandard b supports
    → IsListingConfigRefusal b supports refusal → ⊥
can-list b supports refusal can (inl (inl start)) = start.0 can.0
can-list b supports refusal can (inl (inr other)) = other.1 can.1
can-list b supports refusal can (inr empty) = let some = can.2 in let none = empty.2 in absurd (omega arith)

-- a supported search that fails to begin is out of memory
pub refused-every : (b : Built) (supports : Anchored → Type 0) (error : StreamError) → CanStream OnlyStandard b supports
    → IsListingRefusal b supports error → error ≡ reads.Memory
refused-every b supports (reads.Config refusal) can refused = absurd (can-list b supports refusal can refused)
refused-every b supports (reads.Read error) can refused = absurd refused
refused-every b supports (reads.Write error) can refused = absurd refused
refused-every b supports reads.WriteZero can refused = absurd refused
refused-every b supports reads.Memory can refused = refl
refused-every b supports reads.Position can refused = absurd refused

-- ---- what was pumped into the lines

-- What a list over a stream read, wrote, cost and counted. No error is a refusal of the search, and where memory ran out, no
-- device was touched.
pub record HasListed {R W : Type 0} (q : Sequence) (remaining : R → Option (List ℕ)) (contents : W → Option (List ℕ))
    (b : Built) (old new : Watched R × Watched W) (before after : Steps) (tallied counting : Tally)
    (result : Result (Unit {0}) StreamError) : Type 0 where
  pub lists : ListsStream q remaining contents b old new result
  pub costs : CostsItems q b old.0 new.0 before after result
  pub counts : OnOk result (Counts (items_of q b.dictionary) old.0 new.0 tallied counting)
  pub memory : IfStreamMemory result (NoneTouched old.0 new.0 old.1 new.1)
  pub accepted : IfErr result IsNoRefusal

-- the text that is made of some items is a line for each of them
lines-between : (q : Sequence) (x : List ℕ) (at : ℕ) (os : List Occurrence) (to : ℕ)
    → text_between listing_lines q x at os to ≡ listed os
lines-between q x at [] to = refl
lines-between q x at (o ∷ os) to = ap (λ t. line o ++ t) (lines-between q x o.end os to)

module _ {K W : Type 0} (contents : W → Option (List ℕ)) (output : K → List ℕ) (tally : K → Tally)
    (accepts : ℕ → K → Type 0) (z : K × Watched W) (empty : output z.0 ≡ []) {R : Type 0}
    (remaining : R → Option (List ℕ)) (b : Built) (supports : Anchored → Type 0) (r0 r1 : Watched R)
    (last : K × Watched W) (before after : Steps) where
  -- what lists, without counting
  abbrev lining : Handling (K × Watched W)
  lining = sending contents output (λ k. listing_lines) accepts

  -- and counting
  abbrev counting_lines : Handling (K × Watched W)
  counting_lines = tallying (λ y. (tally y.0).found) lining

  -- memory ran out before anything happened
  unlisted : (q : Sequence) (error : StreamError) → error ≡ reads.Memory
      → IsUntouched counting_lines r0 r1 z last before after
      → HasListed q remaining contents b (r0, z.1) (r1, last.1) before after (tally z.0) (tally last.0) (Err error)
  unlisted q error is same =
      subst (λ e. HasListed q remaining contents b (r0, z.1) (r1, last.1) before after (tally z.0) (tally last.0) (Err e))
      (sym is)
      (subst (λ r. HasListed q remaining contents b (r0, z.1) (r, last.1) before after (tally z.0) (tally last.0)
      (Err reads.Memory)) (sym same.0)
      (subst (λ (y : K × Watched W). HasListed q remaining contents b (r0, z.1) (r0, y.1) before after (tally z.0)
      (tally y.0) (Err reads.Memory)) (sym same.1)
      (subst (λ s. HasListed q remaining contents b (r0, z.1) (r0, z.1) before s (tally z.0) (tally z.0)
      (Err reads.Memory)) (sym same.2)
      (record {
        lists = lists-nothing q remaining contents b (r0, z.1);
        costs = cost-nothing q b r0 before reads.Memory;
        counts = tt;
        memory = λ e. (refl, refl);
        accepted = λ refusal e. let apart : reads.Memory ≡ reads.Config refusal = e in cc;
      }))))

  -- the stream was pumped
  listed-stream : (q : Sequence) (result : Result (Unit {0}) StreamError)
      → PumpsAt counting_lines q remaining b r0 r1 z last before after result
      → HasListed q remaining contents b (r0, z.1) (r1, last.1) before after (tally z.0) (tally last.0) result
  listed-stream q result counting =
      let pumps = plain (λ y. (tally y.0).found) lining q b remaining r0 r1 z last before after result counting in
      let whole = λ (x : List ℕ). lines-between q x 0 (items_of q b.dictionary x) (length x) in
      let front = λ (x : List ℕ) (cut : ℕ) (done : List Occurrence) (to : K × Watched W)
      (came : HasComeToCut lining q b x cut done z to).
      let decided : IsDecidedList (Decides q b.dictionary x) (text_between listing_lines q x 0 done cut) =
      (done, came.decides, lines-between q x 0 done cut) in
      decided in
      let begun = pumped-begun contents output (λ k. listing_lines) accepts (λ k. lines-piecewise) q b z empty
      (lines_of q b.dictionary) (λ x text. IsDecidedList (Decides q b.dictionary x) text) whole front last result
      pumps.0 in
      record {
        lists = pumped-writes contents output (λ k. listing_lines) accepts (λ k. lines-piecewise) q b z empty
            (lines_of q b.dictionary) (λ x text. IsDecidedList (Decides q b.dictionary x) text) whole front last result
            pumps.0;
        costs = pumps.1;
        counts = whole-counted (λ y. tally y.0) lining remaining b supports r0 r1 z last before after q result counting;
        memory = never-memory _ result begun;
        accepted = begun-accepted result begun;
      }

  -- the matches were pumped, of a stream that can be searched
  pub matches-listed : CanStream AnyKind b supports → (result : Result (Unit {0}) StreamError)
      → PumpsMatches counting_lines remaining AnyKind b supports r0 r1 z last before after result
      → HasListed Picks remaining contents b (r0, z.1) (r1, last.1) before after (tally z.0) (tally last.0) result
  matches-listed can (Ok done) pumps = listed-stream Picks (Ok done) pumps.1
  matches-listed can (Err error) (inl none) =
      unlisted Picks error (refused-memory b supports can error none.0) none.1
  matches-listed can (Err error) (inr pumps) = listed-stream Picks (Err error) pumps.1

  -- every occurrence was pumped, of a stream that can be searched for them
  pub occurrences-listed : CanStream OnlyStandard b supports → (result : Result (Unit {0}) StreamError)
      → PumpsOccurrences counting_lines remaining b supports r0 r1 z last before after result
      → HasListed Occurrences remaining contents b (r0, z.1) (r1, last.1) before after (tally z.0) (tally last.0) result
  occurrences-listed can (Ok done) pumps = listed-stream Occurrences (Ok done) pumps.1
  occurrences-listed can (Err error) (inl none) =
      unlisted Occurrences error (refused-every b supports error can none.0) none.1
  occurrences-listed can (Err error) (inr pumps) = listed-stream Occurrences (Err error) pumps.1

  -- every whole word was pumped
  pub all_words-listed : CanStream OnlyStandard b supports → (result : Result (Unit {0}) StreamError)
      → PumpsAllWords counting_lines remaining b supports r0 r1 z last before after result
      → HasListed AllWords remaining contents b (r0, z.1) (r1, last.1) before after (tally z.0) (tally last.0) result
  all_words-listed can (Ok done) pumps = listed-stream AllWords (Ok done) pumps.1
  all_words-listed can (Err error) (inl none) =
      unlisted AllWords error (refused-every b supports error can none.0) none.1
  all_words-listed can (Err error) (inr pumps) = listed-stream AllWords (Err error) pumps.1

module _ {K W : Type 0} (contents : W → Option (List ℕ)) (output : K → List ℕ) (tally : K → Tally)
    (accepts : ℕ → K → Type 0) (z : K × Watched W) (empty : output z.0 ≡ []) {R : Type 0}
    (remaining : R → Option (List ℕ)) (kind : MatchKind) (b : Built) (supports : Anchored → Type 0) (r0 r1 : Watched R)
    (last : K × Watched W) (before after : Steps) where
  -- the words under a kind were pumped
  pub words-listed : CanStream OnlyStandard b supports → (result : Result (Unit {0}) StreamError)
      → PumpsWords (tallying (λ y. (tally y.0).found) (sending contents output (λ k. listing_lines) accepts)) remaining
      kind b supports r0 r1 z last before after result
      → HasListed Words remaining contents (asked_for kind b) (r0, z.1) (r1, last.1) before after (tally z.0)
      (tally last.0) result
  words-listed can (Ok done) pumps =
      listed-stream contents output tally accepts z empty remaining (asked_for kind b) supports r0 r1 last before after
      Words (Ok done) pumps.1
  words-listed can (Err error) (inl none) =
      unlisted contents output tally accepts z empty remaining (asked_for kind b) supports r0 r1 last before after Words
      error (refused-every b supports error can none.0) none.1
  words-listed can (Err error) (inr pumps) =
      listed-stream contents output tally accepts z empty remaining (asked_for kind b) supports r0 r1 last before after
      Words (Err error) pumps.1

-- ---- what settings and rules say

-- the mode lists the items of a sequence; none lists whole words
abbrev pub IsModeOf : Sequence → Mode → Type 0
IsModeOf Picks mode = mode ≡ modes.List
IsModeOf Occurrences mode = mode ≡ modes.Overlap
IsModeOf Words mode = ⊥
IsModeOf AllWords mode = ⊥

module _ (plan : Plan) (b : Built) (built : b.dictionary ≡ dictionary_for plan.settings plan.rules) where
  -- the lines of an input's items are the text of the plan
  lines-output : (q : Sequence) → IsModeOf q plan.settings.mode → (x : List ℕ)
      → lines_of q b.dictionary x ≡ output_of plan.settings plan.rules x
  lines-output Picks mode x = ap (λ m. lines_of Picks m x) built ∙ output-in plan x modes.List mode
  lines-output Occurrences mode x = ap (λ m. lines_of Occurrences m x) built ∙ output-in plan x modes.Overlap mode
  lines-output Words mode x = absurd mode
  lines-output AllWords mode x = absurd mode

  -- the buffer has the room that the plan says
  lines-room : (q : Sequence) → IsModeOf q plan.settings.mode
      → room_of q b ≡ room_in plan.settings.mode plan.rules
  lines-room Picks mode = room-in plan b modes.List built mode refl
  lines-room Occurrences mode = ap (λ asked. room_in asked plan.rules) (sym mode)
  lines-room Words mode = absurd mode
  lines-room AllWords mode = absurd mode

  -- a line for each decided item is all that can be written so far
  lines-front : (q : Sequence) → IsModeOf q plan.settings.mode → (q ≡ Occurrences → b.dictionary.kind ≡ Standard)
      → (x text : List ℕ) → IsDecidedList (Decides q b.dictionary x) text → IsOutputFront plan.settings plan.rules x text
  lines-front Picks mode standard x text front = record {
    replaced = λ other. let apart : modes.List ≡ modes.Replace = sym mode ∙ other in absurd (cc);
    listed = λ _. subst (λ m. IsDecidedList (DecidesMatches m x) text) built front;
    overlapping = λ other. let apart : modes.List ≡ modes.Overlap = sym mode ∙ other in absurd (cc);
  }
  lines-front Occurrences mode standard x text front = record {
    replaced = λ other. let apart : modes.Overlap ≡ modes.Replace = sym mode ∙ other in absurd (cc);
    listed = λ other. let apart : modes.Overlap ≡ modes.List = sym mode ∙ other in absurd (cc);
    overlapping = λ _. front.2 ∙ ap listed (front.1.all (standard refl)) ∙ lines-output Occurrences mode x;
  }
  lines-front Words mode standard x text front = absurd mode
  lines-front AllWords mode standard x text front = absurd mode

  -- a list of the items is the text of the plan
  pub list-plan : {R W : Type 0} (q : Sequence) → IsModeOf q plan.settings.mode
      → (q ≡ Occurrences → b.dictionary.kind ≡ Standard)
      → (remaining : R → Option (List ℕ)) (contents : W → Option (List ℕ)) (old new : Watched R × Watched W)
      (result : Result (Unit {0}) StreamError)
      → ListsStream q remaining contents b old new result
      → WritesPlan remaining contents old new plan result
  list-plan q mode standard remaining contents old new result lists =
      writes-plan plan (room_of q b) (lines_of q b.dictionary)
      (λ x text. IsDecidedList (Decides q b.dictionary x) text) (lines-room q mode) (lines-output q mode) (lines-front q mode standard) remaining contents old new result lists

-- if the text is written while the input is read, the search of the stream is supported
pub every-can : (ac : AhoCorasick) (plan : Plan) → IsServing plan.settings plan.rules ac
    → IsAccepted plan.settings plan.rules → plan.settings.mode ≡ modes.Overlap → IsStreamed plan
    → CanStream OnlyStandard (as_built ac) (supported_by ac)
every-can ac plan serves accepted mode streamed = (
  serves.start,
  ap (λ m. m.kind) serves.built.dictionary ∙ overlap-standard plan.settings plan.rules accepted mode,
  subst (λ m. 1 ≤ shortest m.patterns) (sym serves.built.dictionary) (filled-shortest plan.rules streamed.2),
)
