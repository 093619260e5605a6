-- What a run for whole words has written and cost, given what the search of the stream has.
use Rattle.std.proofs.Common.{◌*◌, ◌+◌, ◌≡◌, ℕ, ◌≤◌, true, false, List, length, Option, Result, Ok, refl, sym, ap, ◌∙◌, subst, arith}
use Rattle.std.specs.Prelude.{max}
use Rattle.std.specs.List.{concat}
use Rattle.ac_input.specs.declared.steps.Steps.{Steps}
use Rattle.ac_input.specs.Dictionary.{whole}
use Rattle.ac_input.specs.Rules.{Rule}
use Rattle.ac_input.specs.Word.{whole_occurrences}
use Rattle.ac_input.specs.Work.{longest, lookups_per_byte, shortest}
use Rattle.ac_automaton.specs.Automaton.{Built}
use Rattle.ac_automaton.specs.Stream.{AllWords, CanStream, Decides, Words, in_vain, items_of, read_again}
use Rattle.ac_automaton.specs.Stream.Answer.{WritesStream}
use Rattle.ac_automaton.specs.Stream.Devices.Buffer.{room_for}
use Rattle.ac_automaton.specs.Stream.Devices.Moved.{AllFit}
use Rattle.ac_automaton.specs.Stream.Replace.{CostsItems}
use Rattle.ac_automaton.specs.Stream.WholeWords.{IsWordFront, ReplacesWords, asked_for, words_replaced_in}
use Rattle.ac_automaton.specs.declared.error.StreamError.{StreamError}
use Rattle.ac_automaton.specs.declared.stream.StreamKinds.TheVariants.{OnlyStandard}
use Rattle.ac_automaton.specs.declared.stream.devices.watched.Watched.{Watched}
use Rattle.aho_corasick.specs.AhoCorasick.{as_built, supported_by}
use Rattle.aho_corasick.specs.declared.ahocorasick.AhoCorasick.{AhoCorasick}
use Rattle.acsub.specs.Finder.{IsServing}
use Rattle.acsub.specs.Plan.{plan_of}
use Rattle.acsub.specs.Rules.Sides.{replacements_of}
use Rattle.acsub.specs.Run.Transformed.{IsDecidedList, text_among}
use Rattle.acsub.specs.Served.{IsBuildable, dictionary_for}
use Rattle.acsub.specs.Stream.StreamList.{ListsStream, lines_of}
use Rattle.acsub.specs.WordRun.{AreJobWords, CostsWordRun, IsSearchable, IsWordOutputFront, WritesWordText, for_words, looks_for_words, sequence_of, words_output_of}
use Rattle.acsub.specs.declared.args.settings.Mode.{Mode}
use Rattle.acsub.specs.declared.args.settings.Mode.TheVariants as modes
use Rattle.acsub.specs.declared.args.settings.Settings.{Settings}
use Rattle.acsub.specs.declared.early.EarlyError.{EarlyError}
use Rattle.acsub.specs.declared.word.PreparedWords.{PreparedWords}
use Rattle.acsub.specs.declared.prepared.Finder.TheVariants as finders
use Rattle.acsub.proofs.early.EarlyLemmas.{early-some}
use Rattle.acsub.proofs.prepared.FinderLemmas.{overlap-standard}
use Rattle.acsub.proofs.prepared.ServedLemmas.{finder-buildable, serving-looks}
use Rattle.acsub.proofs.run.CountLemmas.{looks-for}
use Rattle.acsub.proofs.stream.StreamedLemmas.{answers-alike, filled-shortest}

-- ---- the automaton

module _ (settings : Settings) (rules : List Rule) (ac : AhoCorasick) (serves : IsServing (for_words settings) rules ac) where
  -- it can be asked for every occurrence in a stream
  pub words-can : IsSearchable settings rules → CanStream OnlyStandard (as_built ac) (supported_by ac)
  words-can searchable = (
    serves.start,
    ap (λ m. m.kind) serves.built.dictionary,
    subst (λ m. 1 ≤ shortest m.patterns) (sym serves.built.dictionary) (filled-shortest rules searchable.filled),
  )

  -- asked for words under a kind, it searches for those of settings and rules
  pub words-asked : (asked_for settings.kind (as_built ac)).dictionary ≡ dictionary_for settings rules
  words-asked = ap (λ m. (asked_for settings.kind (record (as_built ac) { dictionary = m })).dictionary) serves.built.dictionary

  -- where all that overlap are listed, it is asked for its own kind
  pub words-every : IsSearchable settings rules → settings.mode ≡ modes.Overlap
      → asked_for settings.kind (as_built ac) ≡ as_built ac
  words-every searchable mode =
      ap (λ kind. asked_for kind (as_built ac))
      (overlap-standard settings rules searchable.accepted mode ∙ sym (ap (λ m. m.kind) serves.built.dictionary))

  -- the patterns pass no limit
  pub words-within : IsBuildable (for_words settings) rules
  words-within = finder-buildable (for_words settings) rules (finders.Automaton ac) serves

-- ---- what is prepared

module _ (settings : Settings) (rules : List Rule) (prepared : PreparedWords) (is : AreJobWords settings rules prepared)
    (P : Settings → List Rule → Type 0) where
  -- what holds for what is asked for holds for what it holds
  pub words-held : P settings rules → P prepared.settings prepared.rules.now
  words-held p = subst (λ rs. P prepared.settings rs) (sym is.same.1) (subst (λ s. P s rules) (sym is.same.0) p)

  -- and the other way round
  pub words-wanted : P prepared.settings prepared.rules.now → P settings rules
  words-wanted p = subst (λ rs. P settings rs) is.same.1 (subst (λ s. P s prepared.rules.now) is.same.0 p)

-- ---- the text

-- the text of the words, by the mode
words-output : (settings : Settings) (rules : List Rule) (x : List ℕ) (mode : Mode) → settings.mode ≡ mode
    → text_among whole_occurrences mode settings.kind (replacements_of rules) (whole (dictionary_for settings rules) x false)
    ≡ words_output_of settings rules x
words-output settings rules x mode is =
    ap (λ asked. text_among whole_occurrences asked settings.kind (replacements_of rules)
    (whole (dictionary_for settings rules) x false)) (sym is)

module _ {R W : Type 0} (remaining : R → Option (List ℕ)) (contents : W → Option (List ℕ))
    (old new : Watched R × Watched W) (settings : Settings) (rules : List Rule) (b : Built)
    (is : b.dictionary ≡ dictionary_for settings rules) (result : Result (Unit {0}) StreamError) where
  -- what writes the same text, and as early, writes that of the words
  writes-alike : (made : List ℕ → List ℕ) (begun : List ℕ → List ℕ → Type 0)
      → ((x : List ℕ) → made x ≡ words_output_of settings rules x)
      → ((x text : List ℕ) → begun x text → IsWordOutputFront settings.mode settings rules x text)
      → WritesStream remaining contents (room_for (max (longest b.dictionary.patterns) 1 + 1)) made begun old.0 new.0 old.1
      new.1 result
      → WritesWordText remaining contents old new settings rules result
  writes-alike made begun same fronts (m, moved, short, a) = (
    m,
    moved,
    subst (λ d. AllFit (room_for (max (longest d.patterns) 1 + 1)) m.pieces) is short,
    answers-alike made (words_output_of settings rules) begun (IsWordOutputFront settings.mode settings rules) same fronts m
        result a,
  )

  -- a replacement of the words
  pub words-replaced : settings.mode ≡ modes.Replace
      → ReplacesWords remaining contents b (replacements_of rules) old.0 new.0 old.1 new.1 result
      → WritesWordText remaining contents old new settings rules result
  words-replaced mode replaces =
      writes-alike (words_replaced_in b.dictionary (replacements_of rules)) (IsWordFront b.dictionary (replacements_of rules))
      (λ x. ap (λ d. words_replaced_in d (replacements_of rules) x) is ∙ words-output settings rules x modes.Replace mode)
      (λ x text f. subst (λ asked. IsWordOutputFront asked settings rules x text) (sym mode)
      (subst (λ d. IsWordFront d (replacements_of rules) x text) is f))
      replaces.0

  -- a list of the words under a kind
  pub words-lined : settings.mode ≡ modes.List → ListsStream Words remaining contents b old new result
      → WritesWordText remaining contents old new settings rules result
  words-lined mode lists =
      writes-alike (lines_of Words b.dictionary) (λ x text. IsDecidedList (Decides Words b.dictionary x) text)
      (λ x. ap (λ d. lines_of Words d x) is ∙ words-output settings rules x modes.List mode)
      (λ x text f. subst (λ asked. IsWordOutputFront asked settings rules x text) (sym mode)
      (subst (λ d. IsDecidedList (Decides Words d x) text) is f))
      lists

  -- a list of all words
  pub all_words-lined : settings.mode ≡ modes.Overlap → ListsStream AllWords remaining contents b old new result
      → WritesWordText remaining contents old new settings rules result
  all_words-lined mode lists =
      writes-alike (lines_of AllWords b.dictionary) (λ x text. IsDecidedList (Decides AllWords b.dictionary x) text)
      (λ x. ap (λ d. lines_of AllWords d x) is ∙ words-output settings rules x modes.Overlap mode)
      (λ x text f. subst (λ asked. IsWordOutputFront asked settings rules x text) (sym mode)
      (subst (λ d. IsDecidedList (Decides AllWords d x) text) is f))
      lists

-- ---- what it costs

-- no whole word is read ahead for
vain-none : (mode : Mode) (b : Built) (n : ℕ) → in_vain (sequence_of mode) b n ≡ 0
vain-none modes.Replace b n = refl
vain-none modes.List b n = refl
vain-none modes.Overlap b n = refl

-- what the search for the items of the mode costs, the run costs
pub words-costs : {R : Type 0} (settings : Settings) (rules : List Rule) (ac : AhoCorasick) (r r' : Watched R)
    (before after : Steps) (searched : Result (Unit {0}) StreamError) (result : Result (Unit {0}) EarlyError)
    → IsServing (for_words settings) rules ac
    → CostsItems (sequence_of settings.mode) (asked_for settings.kind (as_built ac)) r r' before after searched
    → (result ≡ Ok tt → searched ≡ Ok tt) → CostsWordRun settings rules r r' before after result
words-costs settings rules ac r r' before after searched result serves (pieces, read, cost, whole) both =
    let b = asked_for settings.kind (as_built ac) in
    let x = concat pieces in
    let n = looks_for_words settings rules x in
    let looked = subst (λ m. after.looked.value ≤ before.looked.value + lookups_per_byte b.deterministic
    * (length x + read_again m 0 (length (items_of (sequence_of settings.mode) m x))))
    (words-asked settings rules ac serves)
    (subst (λ vain. after.looked.value ≤ before.looked.value + lookups_per_byte b.deterministic
    * (length x + read_again b.dictionary vain (length (items_of (sequence_of settings.mode) b.dictionary x))))
    (vain-none settings.mode b (length x)) cost.looked) in
    record {
      gained = pieces;
      read = read;
      looked = looks-for (plan_of true (for_words settings) rules) b.deterministic (lookups_per_byte b.deterministic * n) n n
          before after (serving-looks (for_words settings) rules ac serves) (omega arith) (omega arith) looked;
      some = early-some _ searched result both whole;
      scanned = cost.scanned;
      moved = let moved = cost.moved in omega arith;
    }
