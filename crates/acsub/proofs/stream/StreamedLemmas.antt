-- What a run that writes while it reads has written, given what the automaton's replacement over a stream has.
use Rattle.std.proofs.Common.{◌≡◌, ◌≢◌, ◌⊎◌, ℕ, ◌-◌, ◌≤◌, false, List, [], ◌∷◌, ◌++◌, length, take, Option, None, Result, Ok, Err, inl, inr, suc, refl, sym, ap, ◌∙◌, subst, arith}
use Rattle.std.specs.List.{concat}
use Rattle.std.proofs.Math.Path.{Σ_path}
use Rattle.std.proofs.lemmas.List.{append-nil, nil_from_length}
use Rattle.ac_input.specs.Laws.BeginningLaws.{IsBeginning}
use Rattle.ac_input.specs.Computed.{walk_of}
use Rattle.ac_input.specs.Cut.{IsCut}
use Rattle.ac_input.specs.Dictionary.{whole}
use Rattle.ac_input.specs.Input.{whole_of, search_of}
use Rattle.ac_input.specs.Rules.{Rule}
use Rattle.ac_input.specs.Text.{replaced_from}
use Rattle.ac_input.specs.Work.{longest, shortest}
use Rattle.ac_input.proofs.lemmas.BeginningLemmas.{listed-beginning}
use Rattle.ac_automaton.specs.Automaton.{Built}
use Rattle.ac_automaton.specs.Stream.Devices.Buffer.{room_for}
use Rattle.std.specs.Prelude.{IfErr, OnOk, max}
use Rattle.ac_automaton.specs.Stream.Devices.Moved.{AllFit, Failed, Moved, NoneTouched, but_last}
use Rattle.ac_automaton.specs.Stream.{CanStream, DecidesMatches, IsConfigRefusal, IsStreamRefusal, IsFront, LeavesFew, Picks, Sequence, room_of}
use Rattle.ac_automaton.specs.Stream.Answer.{AnswersWriting, WritesStream, WroteToFailedWrite}
use Rattle.ac_automaton.specs.Stream.Replace.{AcceptsStream, CostsItems, CostsSearch, IsBegun, ReplacesStream, replaced_in}
use Rattle.ac_input.specs.declared.steps.Steps.{Steps}
use Rattle.ac_automaton.specs.declared.error.MatchErrorKind.{MatchErrorKind}
use Rattle.ac_automaton.specs.declared.error.StreamError.{StreamError}
use Rattle.ac_automaton.specs.declared.error.StreamError.TheVariants as stream
use Rattle.ac_automaton.specs.declared.stream.devices.watched.Watched.{Watched}
use Rattle.ac_automaton.specs.declared.stream.StreamKinds.TheVariants.{AnyKind}
use Rattle.acsub.specs.declared.error.RunError.{RunError}
use Rattle.acsub.specs.declared.args.settings.Mode.{Mode}
use Rattle.acsub.specs.declared.args.settings.Mode.TheVariants as modes
use Rattle.acsub.specs.declared.args.settings.Settings.{Settings}
use Rattle.aho_corasick.specs.AhoCorasick.{as_built, supported_by}
use Rattle.aho_corasick.specs.declared.ahocorasick.AhoCorasick.{AhoCorasick}
use Rattle.acsub.specs.Finder.{IsServing}
use Rattle.acsub.specs.Served.{IsBuildable, dictionary_for}
use Rattle.acsub.specs.Run.{AnswersRules, CostsRun, HasBegun, RanRules, RanToFailedWrite}
use Rattle.acsub.specs.Plan.{Plan}
use Rattle.acsub.specs.Args.Settings.{HasEmptyPattern, IsAccepted}
use Rattle.acsub.specs.Rules.Sides.{rule_patterns, replacements_of}
use Rattle.acsub.specs.Stream.{IfStreamMemory, IsNoRefusal, IsReturnedAs, WritesPlan}
use Rattle.acsub.proofs.run.CountLemmas.{streamed-cost}
use Rattle.acsub.proofs.run.RunLemmas.{whole-begins}
use Rattle.acsub.proofs.stream.CutLemmas.{cut-begins}
use Rattle.acsub.specs.Run.Transformed.{IsOutputFront, IsStreamed, output_of, room_in, text_in}
use Rattle.ac_input.specs.declared.search.Anchored.{Anchored}

-- ---- a stream that can be searched

-- if no pattern is empty, the shortest has at least one byte
pub filled-shortest : (rules : List Rule) → ¬ HasEmptyPattern rules → 1 ≤ shortest (rule_patterns rules)
filled-shortest [] filled = omega arith
filled-shortest (rule ∷ rules) filled =
    let rest =
    filled-shortest rules (λ empty. let within = empty.1 in filled (suc empty.0, omega (arith, within), empty.2)) in
    let some : length rule.0 ≢ 0 = λ none. filled (0, omega arith, nil_from_length rule.0 none) in
    omega (arith, rest, some)

-- if the text is written while the input is read, the search of the stream is supported
pub streamed-can : (ac : AhoCorasick) (plan : Plan) → IsServing plan.settings plan.rules ac → IsStreamed plan
    → CanStream AnyKind (as_built ac) (supported_by ac)
streamed-can ac plan serves streamed = (
  serves.start,
  subst (λ m. 1 ≤ shortest m.patterns) (sym serves.built.dictionary) (filled-shortest plan.rules streamed.2),
)

module _ (b : Built) (supports : Anchored → Type 0) (can : CanStream AnyKind b supports) where
  -- a supported search isn't refused
  can-config : (refusal : MatchErrorKind) → ¬ IsConfigRefusal AnyKind b supports refusal
  can-config refusal (inl h) = h.0 can.0
  can-config refusal (inr h) = let some = can.1 in let zero = h.1 in absurd (omega arith)

  -- a supported search that fails to begin is out of memory
  pub refused-memory : (error : StreamError) → IsStreamRefusal AnyKind b supports error → error ≡ stream.Memory
  refused-memory (stream.Config refusal) refused = absurd (can-config refusal refused)
  refused-memory (stream.Read error) refused = absurd refused
  refused-memory (stream.Write error) refused = absurd refused
  refused-memory stream.WriteZero refused = absurd refused
  refused-memory stream.Memory refused = refl
  refused-memory stream.Position refused = absurd refused

  -- nor is a replacement over the stream
  pub replaces-accepted : (result : Result (Unit {0}) StreamError) → AcceptsStream AnyKind b supports result
      → IfErr result IsNoRefusal
  replaces-accepted (Ok done) accepts = tt
  replaces-accepted (Err error) accepts =
      λ refusal e. can-config refusal (subst (λ other. AcceptsStream AnyKind b supports (Err other)) e accepts)

-- where memory ran out, no device was touched: all other errors of a stream come later
pub begun-memory : {R W : Type 0} (r r' : Watched R) (w w' : Watched W) (result : Result (Unit {0}) StreamError)
    → IfErr result (λ error. IsBegun error ⊎ NoneTouched r r' w w') → IfStreamMemory result (NoneTouched r r' w w')
begun-memory r r' w w' (Ok done) begun = tt
begun-memory r r' w w' (Err error) begun =
    λ e. elim (subst (λ other. IsBegun other ⊎ NoneTouched r r' w w') e begun) [
      | inl past ↦ absurd past
      | inr same ↦ same
    ]

-- ---- the text

-- the text of a plan, by its mode
pub output-in : (plan : Plan) (x : List ℕ) (mode : Mode) → plan.settings.mode ≡ mode
    → text_in mode plan.settings.kind (replacements_of plan.rules)
    (whole (dictionary_for plan.settings plan.rules) x false) ≡ output_of plan.settings plan.rules x
output-in plan x mode is =
    ap (λ asked. text_in asked plan.settings.kind (replacements_of plan.rules)
    (whole (dictionary_for plan.settings plan.rules) x false)) (sym is)

-- where matches are replaced, the run's text is that of the automaton's replacement
replaced-output : (b : Built) (plan : Plan) (x : List ℕ) → b.dictionary ≡ dictionary_for plan.settings plan.rules
    → plan.settings.mode ≡ modes.Replace
    → replaced_in b (replacements_of plan.rules) x ≡ output_of plan.settings plan.rules x
replaced-output b plan x is mode =
    ap (λ m. replaced_from 0 x (replacements_of plan.rules)
    (walk_of m.kind (search_of m (whole_of x).anchored (whole_of x).haystack (whole_of x).span))) is
    ∙ output-in plan x modes.Replace mode

-- where matches are replaced, what can be written early is what the automaton's replacement can
replaced-front : (b : Built) (plan : Plan) (x text : List ℕ) → b.dictionary ≡ dictionary_for plan.settings plan.rules
    → plan.settings.mode ≡ modes.Replace → IsFront b.dictionary (replaced_in b (replacements_of plan.rules)) x text
    → IsOutputFront plan.settings plan.rules x text
replaced-front b plan x text is mode f =
    record {
      replaced = λ _. record {
        cut = f.cut;
        is_cut = subst (λ m. IsCut m x f.cut) is f.is_cut;
        near = subst (λ m. LeavesFew (λ os. DecidesMatches m x os) m m x f.cut) is f.near;
        front = f.front ∙ replaced-output b plan (take f.cut x) is mode;
      };
      listed = λ other. let apart : modes.Replace ≡ modes.List = sym mode ∙ other in absurd (cc);
      overlapping = λ other. let apart : modes.Replace ≡ modes.Overlap = sym mode ∙ other in absurd (cc);
    }

-- a built automaton for the rules' patterns
abbrev built_for : Settings → List Rule → Built
built_for settings rules =
    record { dictionary = dictionary_for settings rules; deterministic = false; prefilter = None; lanes = false }

-- what can be written early is a prefix of the run's text, in every mode
front-begins : (plan : Plan) (x text : List ℕ) (mode : Mode) → plan.settings.mode ≡ mode → IsStreamed plan
    → IsOutputFront plan.settings plan.rules x text → IsBeginning text (output_of plan.settings plan.rules x)
front-begins plan x text modes.Replace is streamed f =
    let front = f.replaced is in
    let b = built_for plan.settings plan.rules in
    let begins =
    cut-begins b x front.cut (replacements_of plan.rules) (filled-shortest plan.rules streamed.2) front.is_cut in (
      begins.0,
      sym (replaced-output b plan x refl is) ∙ begins.1
          ∙ ap (λ t. t ++ begins.0) (replaced-output b plan (take front.cut x) refl is ∙ sym front.front),
    )
front-begins plan x text modes.List is streamed f =
    let front = f.listed is in
    let m = dictionary_for plan.settings plan.rules in
    let first = subst (λ y. IsBeginning front.0 (walk_of m.kind (whole m y false))) (append-nil x) (front.1.first []) in
    let lines = listed-beginning front.0 first in (
      lines.0,
      sym (output-in plan x modes.List is) ∙ lines.1 ∙ ap (λ t. t ++ lines.0) (sym front.2),
    )
front-begins plan x text modes.Overlap is streamed f = ([], sym (f.overlapping is) ∙ sym (append-nil text))

-- ---- results of two texts

-- two ways to make a text that are equal, and two fronts of which the first implies the second
module _ (made text_of : List ℕ → List ℕ) (begun front : List ℕ → List ℕ → Type 0)
    (same : (x : List ℕ) → made x ≡ text_of x) (fronts : (x text : List ℕ) → begun x text → front x text) where
  -- a write that stopped
  failed-alike : (m : Moved) (stalls : ℕ) → WroteToFailedWrite made begun m stalls
      → WroteToFailedWrite text_of front m stalls
  failed-alike m stalls h = record {
    at_least = (h.at_least.0, fronts (concat (but_last m.pieces)) h.at_least.0 h.at_least.1, h.at_least.2);
    at_most = subst (IsBeginning m.taken) (same (concat m.pieces)) h.at_most;
    failed = h.failed;
  }

  -- a result that fits one text and front fits the other
  pub answers-alike : (m : Moved) (result : Result (Unit {0}) StreamError) → AnswersWriting made begun m result
      → AnswersWriting text_of front m result
  answers-alike m (Ok done) h =
      record { whole = h.whole; written = h.written ∙ same (concat m.pieces); failed = h.failed }
  answers-alike m (Err (stream.Config error)) h = h
  answers-alike m (Err (stream.Read error)) h =
      record { written = fronts (concat m.pieces) m.taken h.written; failed = h.failed }
  answers-alike m (Err (stream.Write error)) h = failed-alike m 0 h
  answers-alike m (Err stream.WriteZero) h = failed-alike m 1 h
  answers-alike m (Err stream.Memory) h = h
  answers-alike m (Err stream.Position) h =
      record {
        long = h.long;
        written = subst (IsBeginning m.taken) (same (concat m.pieces)) h.written;
        failed = h.failed;
      }

-- the room of the buffer depends on the mode, and on the longest of the rules' patterns
pub room-in : (plan : Plan) (b : Built) (mode : Mode) → b.dictionary ≡ dictionary_for plan.settings plan.rules
    → plan.settings.mode ≡ mode → room_for (max (longest (rule_patterns plan.rules)) 1) ≡ room_in mode plan.rules
    → room_of Picks b ≡ room_in plan.settings.mode plan.rules
room-in plan b mode built is same =
    ap (λ d. room_for (max (longest d.patterns) 1)) built ∙ same ∙ ap (λ asked. room_in asked plan.rules) (sym is)

-- what writes the same text as a plan, and as early, writes the text of the plan
module _ (plan : Plan) (room : ℕ) (made : List ℕ → List ℕ) (begun : List ℕ → List ℕ → Type 0)
    (fits : room ≡ room_in plan.settings.mode plan.rules)
    (same : (x : List ℕ) → made x ≡ output_of plan.settings plan.rules x)
    (fronts : (x text : List ℕ) → begun x text → IsOutputFront plan.settings plan.rules x text) where
  pub writes-plan : {R W : Type 0} (remaining : R → Option (List ℕ)) (contents : W → Option (List ℕ))
      (old new : Watched R × Watched W) (result : Result (Unit {0}) StreamError)
      → WritesStream remaining contents room made begun old.0 new.0 old.1 new.1 result
      → WritesPlan remaining contents old new plan result
  writes-plan remaining contents old new result (m, moved, short, a) = (
    m,
    moved,
    subst (λ n. AllFit n m.pieces) fits short,
    answers-alike made (output_of plan.settings plan.rules) begun (IsOutputFront plan.settings plan.rules) same fronts
        m result a,
  )

-- a replacement over a stream writes the text of a plan that replaces
pub replace-plan : {R W : Type 0} (remaining : R → Option (List ℕ)) (contents : W → Option (List ℕ)) (b : Built)
    (plan : Plan) (old new : Watched R × Watched W) (result : Result (Unit {0}) StreamError)
    → b.dictionary ≡ dictionary_for plan.settings plan.rules → plan.settings.mode ≡ modes.Replace
    → ReplacesStream remaining contents b (replacements_of plan.rules) old.0 new.0 old.1 new.1 result
    → WritesPlan remaining contents old new plan result
replace-plan remaining contents b plan old new result is mode replaces =
    writes-plan plan (room_of Picks b) (replaced_in b (replacements_of plan.rules))
    (IsFront b.dictionary (replaced_in b (replacements_of plan.rules))) (room-in plan b modes.Replace is mode refl)
    (λ x. replaced-output b plan x is mode) (λ x text. replaced-front b plan x text is mode) remaining contents old new
    result replaces.0

-- ---- what it costs

-- if nothing was read, nothing was counted
pub cost-nothing : {R E : Type 0} (q : Sequence) (b : Built) (r : Watched R) (steps : Steps) (error : E)
    → CostsItems q b r r steps steps (Err error)
cost-nothing q b r steps error =
    ([], sym (append-nil _), record { looked = omega arith; scanned = refl; moved = omega arith }, tt)

-- ---- the run's result

-- all pieces but the last
but_last-take : (pieces : List (List ℕ)) → but_last pieces ≡ take (length pieces - 1) pieces
but_last-take [] = refl
but_last-take (piece ∷ []) = refl
but_last-take (piece ∷ (next ∷ pieces)) =
    let same : suc (length (next ∷ pieces) - 1) ≡ length (piece ∷ (next ∷ pieces)) - 1 = omega arith in
    ap (λ ps. piece ∷ ps) (but_last-take (next ∷ pieces)) ∙ ap (λ n. take n (piece ∷ (next ∷ pieces))) same

module _ {R W : Type 0} (old new : Watched R × Watched W) (plan : Plan) (m : Moved)
    (accepted : IsAccepted plan.settings plan.rules) (within : IsBuildable plan.settings plan.rules)
    (streamed : IsStreamed plan) (short : AllFit (room_in plan.settings.mode plan.rules) m.pieces) where
  -- the run got past its build
  begun : (reads writes stalls : ℕ) → IsBeginning m.taken (output_of plan.settings plan.rules (concat m.pieces))
      → Failed m reads writes stalls → HasBegun plan m reads writes stalls
  begun reads writes stalls written failed =
      record {
        accepted = accepted;
        within = within;
        short = λ _. short;
        written = written;
        failed_reads = failed.0;
        failed_writes = failed.1;
        stalled_writes = failed.2;
      }

  -- a write that stopped
  streamed_failed : (stalls : ℕ)
      → WroteToFailedWrite (output_of plan.settings plan.rules) (IsOutputFront plan.settings plan.rules) m stalls
      → RanToFailedWrite plan m stalls
  streamed_failed stalls h =
      record {
        begun = begun 0 1 stalls h.at_most h.failed;
        streamed = λ _. (
          h.at_least.0,
          subst (λ ps. IsOutputFront plan.settings plan.rules (concat ps) h.at_least.0) (but_last-take m.pieces)
              h.at_least.1,
          h.at_least.2,
        );
        whole_input = λ held. absurd (held streamed);
      }

  pub streamed-says : (searched : Result (Unit {0}) StreamError) (result : Result (Unit {0}) RunError)
      → IsReturnedAs searched result → IfStreamMemory searched (NoneTouched old.0 new.0 old.1 new.1)
      → AnswersWriting (output_of plan.settings plan.rules) (IsOutputFront plan.settings plan.rules) m searched
      → AnswersRules old new plan m result
  streamed-says (Ok done) result is memory a =
      subst (AnswersRules old new plan m) (sym is)
      (begun 0 0 0 (whole-begins a.written) a.failed, record { whole = a.whole; written = a.written })
  streamed-says (Err (stream.Config error)) result is memory a = absurd is
  streamed-says (Err (stream.Read error)) result is memory a =
      subst (AnswersRules old new plan m) (sym is) (
        begun 1 0 0 (front-begins plan (concat m.pieces) m.taken plan.settings.mode refl streamed a.written) a.failed,
        λ _. a.written,
        λ held. absurd (held streamed),
      )
  streamed-says (Err (stream.Write error)) result is memory a =
      subst (AnswersRules old new plan m) (sym is) (streamed_failed 0 a)
  streamed-says (Err stream.WriteZero) result is memory a =
      subst (AnswersRules old new plan m) (sym is) (streamed_failed 1 a)
  streamed-says (Err stream.Memory) result is memory a =
      let same = memory refl in
      subst (AnswersRules old new plan m) (sym is) (accepted, inl (Σ_path same.0 same.1))
  streamed-says (Err stream.Position) result is memory a =
      subst (AnswersRules old new plan m) (sym is) (begun 0 0 0 a.written a.failed, streamed, a.long)

-- the result of a run that writes while it reads
pub streamed_answer : {R W : Type 0} (remaining : R → Option (List ℕ)) (contents : W → Option (List ℕ)) (plan : Plan)
    (r r' : Watched R) (w w' : Watched W) (searched : Result (Unit {0}) StreamError)
    (result : Result (Unit {0}) RunError) → IsAccepted plan.settings plan.rules
    → IsBuildable plan.settings plan.rules → IsStreamed plan → IsReturnedAs searched result
    → IfStreamMemory searched (NoneTouched r r' w w') → WritesPlan remaining contents (r, w) (r', w') plan searched
    → RanRules remaining contents (r, w) (r', w') plan result
streamed_answer remaining contents plan r r' w w' searched result accepted within streamed returned memory
    (m, moved, short, a) = (
      m,
      moved.reader,
      moved.writer,
      streamed-says (r, w) (r', w') plan m accepted within streamed short searched result returned memory a,
    )

-- what an `Ok` of the search means, an `Ok` of the run means
pub returned-ok : (P : Type 0) (searched : Result (Unit {0}) StreamError) (result : Result (Unit {0}) RunError)
    → IsReturnedAs searched result → OnOk searched P → OnOk result P
returned-ok P (Ok done) result is p = subst (λ r. OnOk r P) (sym is) p
returned-ok P (Err (stream.Config error)) result is p = absurd is
returned-ok P (Err (stream.Read error)) result is p = subst (λ r. OnOk r P) (sym is) tt
returned-ok P (Err (stream.Write error)) result is p = subst (λ r. OnOk r P) (sym is) tt
returned-ok P (Err stream.WriteZero) result is p = subst (λ r. OnOk r P) (sym is) tt
returned-ok P (Err stream.Memory) result is p = subst (λ r. OnOk r P) (sym is) tt
returned-ok P (Err stream.Position) result is p = subst (λ r. OnOk r P) (sym is) tt

-- the run costs what the search of the stream costs
pub streamed_cost : {R : Type 0} (plan : Plan) (ac : AhoCorasick) (r r' : Watched R) (before after : Steps)
    (searched : Result (Unit {0}) StreamError) (result : Result (Unit {0}) RunError)
    → IsServing plan.settings plan.rules ac → IsStreamed plan
    → IsReturnedAs searched result → CostsSearch (as_built ac) r r' before after searched
    → CostsRun plan r r' before after result
streamed_cost plan ac r r' before after searched result serves streamed returned (pieces, read, cost, whole) =
    streamed-cost plan ac r r' before after result serves streamed
    (pieces, read, cost, returned-ok _ searched result returned whole)
