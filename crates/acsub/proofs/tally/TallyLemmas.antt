-- What a run counts, by what was searched for.
use Rattle.std.proofs.Common.{◌≡◌, ℕ, false, List, length, Option, Result, Ok, Err, sym, ap, ◌∙◌, subst}
use Rattle.std.specs.Prelude.{OnOk}
use Rattle.std.specs.List.{concat}
use Rattle.ac_input.specs.Computed.{occurrences}
use Rattle.ac_input.specs.Dictionary.{Dictionary, whole}
use Rattle.ac_input.specs.Occurrence.{Occurrence}
use Rattle.ac_input.specs.Rules.{Rule}
use Rattle.ac_input.specs.Word.{whole_occurrences}
use Rattle.ac_automaton.specs.Stream.{AllWords, Occurrences, Picks, Words, items_of}
use Rattle.ac_automaton.specs.Stream.Devices.Moved.{HasGiven}
use Rattle.ac_automaton.specs.declared.error.StreamError.{StreamError}
use Rattle.ac_automaton.specs.declared.stream.devices.watched.Watched.{Watched}
use Rattle.acsub.specs.Finder.{whole_listing, whole_walk}
use Rattle.acsub.specs.Plan.{Plan}
use Rattle.acsub.specs.Served.{dictionary_for}
use Rattle.acsub.specs.Stream.{IsReturnedAs}
use Rattle.acsub.specs.Tally.{Counts, found_among, grown, plan_matches, plan_words}
use Rattle.acsub.specs.declared.args.settings.Mode.{Mode}
use Rattle.acsub.specs.declared.args.settings.Mode.TheVariants as modes
use Rattle.acsub.specs.declared.args.settings.Settings.{Settings}
use Rattle.acsub.specs.declared.error.RunError.{RunError}
use Rattle.acsub.specs.declared.tally.Tally.{Tally}
use Rattle.acsub.proofs.stream.StreamedLemmas.{returned-ok}

-- ---- which matches they are

-- the matches of a plan, by its mode
matches-by : (plan : Plan) (x : List ℕ) (mode : Mode) → plan.settings.mode ≡ mode
    → found_among occurrences mode plan.settings.kind (whole (dictionary_for plan.settings plan.rules) x false)
    ≡ plan_matches plan x
matches-by plan x mode is =
    ap (λ asked. found_among occurrences asked plan.settings.kind
    (whole (dictionary_for plan.settings plan.rules) x false)) (sym is)

-- the matches of an input's walk, where the mode makes its text of them
pub walk-matches : (plan : Plan) (x : List ℕ) (mode : Mode) → plan.settings.mode ≡ mode
    → found_among occurrences mode plan.settings.kind (whole (dictionary_for plan.settings plan.rules) x false)
    ≡ whole_walk plan x → whole_walk plan x ≡ plan_matches plan x
walk-matches plan x mode is same = sym same ∙ matches-by plan x mode is

-- all that overlap, where the mode lists them
pub listing-matches : (plan : Plan) (x : List ℕ) → plan.settings.mode ≡ modes.Overlap
    → whole_listing plan x ≡ plan_matches plan x
listing-matches plan x is = matches-by plan x modes.Overlap is

module _ (plan : Plan) (m : Dictionary) (built : m ≡ dictionary_for plan.settings plan.rules) (x : List ℕ) where
  -- the items of a stream's search for matches
  pub replaced-matches : plan.settings.mode ≡ modes.Replace → items_of Picks m x ≡ plan_matches plan x
  replaced-matches is = ap (λ d. items_of Picks d x) built ∙ matches-by plan x modes.Replace is

  pub listed-matches : plan.settings.mode ≡ modes.List → items_of Picks m x ≡ plan_matches plan x
  listed-matches is = ap (λ d. items_of Picks d x) built ∙ matches-by plan x modes.List is

  -- and for all that overlap
  pub every-matches : plan.settings.mode ≡ modes.Overlap → items_of Occurrences m x ≡ plan_matches plan x
  every-matches is = ap (λ d. items_of Occurrences d x) built ∙ matches-by plan x modes.Overlap is

module _ (settings : Settings) (rules : List Rule) (m : Dictionary) (built : m ≡ dictionary_for settings rules)
    (x : List ℕ) where
  -- the whole words, by the mode
  words-by : (mode : Mode) → settings.mode ≡ mode
      → found_among whole_occurrences mode settings.kind (whole (dictionary_for settings rules) x false)
      ≡ plan_words settings rules x
  words-by mode is =
      ap (λ asked. found_among whole_occurrences asked settings.kind (whole (dictionary_for settings rules) x false))
      (sym is)

  -- the items of a stream's search for whole words
  pub replaced-words : settings.mode ≡ modes.Replace → items_of Words m x ≡ plan_words settings rules x
  replaced-words is = ap (λ d. items_of Words d x) built ∙ words-by modes.Replace is

  pub listed-words : settings.mode ≡ modes.List → items_of Words m x ≡ plan_words settings rules x
  listed-words is = ap (λ d. items_of Words d x) built ∙ words-by modes.List is

  -- and for all of them
  pub every-words : settings.mode ≡ modes.Overlap → items_of AllWords m x ≡ plan_words settings rules x
  every-words is = ap (λ d. items_of AllWords d x) built ∙ words-by modes.Overlap is

-- ---- the count of a run

module _ {R : Type 0} (found others : List ℕ → List Occurrence) (same : ((x : List ℕ) → found x ≡ others x))
    (r r' : Watched R) (before after : Tally) where
  -- who counts the same matches counts these
  counts-alike : Counts found r r' before after → Counts others r r' before after
  counts-alike c =
      record {
        gained = c.gained;
        read = c.read;
        counted = subst (λ os. after.found ≡ grown before.found (length os)) (same (concat c.gained)) c.counted;
      }

  pub counts-ok : (result : Result (Unit {0}) StreamError) → OnOk result (Counts found r r' before after)
      → OnOk result (Counts others r r' before after)
  counts-ok (Ok done) c = counts-alike c
  counts-ok (Err error) c = tt

  -- the run returns the result of the stream
  pub counts-told : (searched : Result (Unit {0}) StreamError) (result : Result (Unit {0}) RunError)
      → IsReturnedAs searched result → OnOk searched (Counts found r r' before after)
      → OnOk result (Counts others r r' before after)
  counts-told searched result told c =
      returned-ok (Counts others r r' before after) searched result told (counts-ok searched c)

-- the run of a held input counts what its text is made of
pub counts-held : {R : Type 0} (remaining : R → Option (List ℕ)) (found : List ℕ → List Occurrence) (r r' : Watched R)
    (before after : Tally) (pieces : List (List ℕ)) (input : List ℕ) (failed : ℕ)
    → HasGiven remaining r r' pieces failed → input ≡ concat pieces
    → (sent : Result (Unit {0}) StreamError) (result : Result (Unit {0}) RunError) → IsReturnedAs sent result
    → OnOk sent (after.found ≡ grown before.found (length (found input))) → OnOk result (Counts found r r' before after)
counts-held remaining found r r' before after pieces input failed gave is sent result told counts =
    returned-ok (Counts found r r' before after) sent result told (go sent counts)
  where
    go : (done : Result (Unit {0}) StreamError)
        → OnOk done (after.found ≡ grown before.found (length (found input))) → OnOk done (Counts found r r' before after)
    go (Ok done) c =
        record {
          gained = pieces;
          read = gave.pieces;
          counted = subst (λ x. after.found ≡ grown before.found (length (found x))) is c;
        }
    go (Err error) c = tt
