-- A run for whole words: which rules it takes, what it writes, and what each of its results means.
use Rattle.std.specs.Prelude.{◌≡◌, ◌≢◌, ℕ, ◌+◌, max, true, false, List, length, Result, Option}
use Rattle.ac_input.specs.Dictionary.{whole}
use Rattle.ac_input.specs.Rules.{Rule}
use Rattle.ac_input.specs.Word.{whole_occurrences}
use Rattle.ac_input.specs.Work.{longest}
use Rattle.ac_input.specs.declared.search.MatchKind.TheVariants.{Standard}
use Rattle.ac_input.specs.declared.steps.Steps.{Steps}
use Rattle.ac_automaton.specs.Stream.Answer.{WritesStream}
use Rattle.ac_automaton.specs.Stream.Devices.Buffer.{room_for}
use Rattle.ac_automaton.specs.Stream.WholeWords.{IsWordFront}
use Rattle.ac_automaton.specs.Stream.{AllWords, Decides, Sequence, Words, items_of, read_again}
use Rattle.ac_automaton.specs.declared.error.StreamError.{StreamError}
use Rattle.ac_automaton.specs.declared.stream.devices.watched.Watched.{Watched}
use Rattle.acsub.specs.declared.args.settings.Engine.TheVariants.{Packed}
use Rattle.acsub.specs.declared.args.settings.Mode.{Mode}
use Rattle.acsub.specs.declared.args.settings.Mode.TheVariants as modes
use Rattle.acsub.specs.declared.args.settings.Settings.{Settings}
use Rattle.acsub.specs.declared.early.EarlyError.{EarlyError}
use Rattle.acsub.specs.declared.early.Refusal.{Refusal}
use Rattle.acsub.specs.declared.early.Refusal.TheVariants as refusals
use Rattle.acsub.specs.Args.Settings.{HasEmptyPattern, IsAccepted, IsFirstExclusion}
use Rattle.acsub.specs.Early.{AnswersEarly, AnswersEarlyIn, CostsEarly, Demand, IsFirstRefusal, IsUnmet}
use Rattle.acsub.specs.Finder.{IsServing}
use Rattle.acsub.specs.Plan.{plan_of}
use Rattle.acsub.specs.declared.word.PreparedWords.{PreparedWords}
use Rattle.acsub.specs.Rules.Sides.{replacements_of, rule_patterns}
use Rattle.acsub.specs.Run.Transformed.{IsDecidedList, text_among}
use Rattle.acsub.specs.Served.{IsBuildable, dictionary_for}

-- ---- what it takes

-- The settings by which the automaton is built. It is of the standard kind, whatever kind is asked for, since it meets
-- every occurrence.
abbrev pub for_words : Settings → Settings
for_words settings = record settings { kind = Standard }

-- Words can be searched for: the settings fit the rules, an automaton searches, and no pattern is empty.
pub record IsSearchable (settings : Settings) (rules : List Rule) : Type 0 where
  pub accepted : IsAccepted settings rules
  pub automaton : settings.engine ≢ Packed
  pub filled : ¬ HasEmptyPattern rules

-- why words can't be searched for by settings that fit the rules
abbrev pub IsWordRefusal : Settings → List Rule → Refusal → Type 0
IsWordRefusal settings rules refusals.PackedWord = settings.engine ≡ Packed
IsWordRefusal settings rules refusals.EmptyWord = HasEmptyPattern rules
IsWordRefusal settings rules other = ⊥

-- what a run for words asks of settings and rules
abbrev pub word_demand : Settings → List Rule → Demand
word_demand settings rules =
    record {
      rules = rules;
      built = for_words settings;
      fits = IsSearchable settings rules;
      excludes = IsFirstExclusion settings rules;
      refuses = λ refusal. IsAccepted settings rules × IsFirstRefusal (IsWordRefusal settings rules) refusal;
    }

-- why a check of rules and settings fails
abbrev pub NotSearchable : Settings → List Rule → EarlyError → Type 0
NotSearchable settings rules error = IsUnmet (word_demand settings rules) error

-- It is prepared for these settings and rules: words can be searched for, and the automaton serves them.
pub record AreJobWords (settings : Settings) (rules : List Rule) (prepared : PreparedWords) : Type 0 where
  pub searchable : IsSearchable settings rules
  pub serves : IsServing (for_words settings) rules prepared.automaton
  pub same : (prepared.settings ≡ settings) × (prepared.rules.now ≡ rules)

-- it is prepared for what it holds
abbrev pub AreWordsReady : PreparedWords → Type 0
AreWordsReady prepared = AreJobWords prepared.settings prepared.rules.now prepared

-- ---- what it writes

-- the text that settings and rules make of an input where whole words alone count
abbrev pub words_output_of : Settings → List Rule → List ℕ → List ℕ
words_output_of settings rules input =
    text_among whole_occurrences settings.mode settings.kind (replacements_of rules)
    (whole (dictionary_for settings rules) input false)

-- how many bytes the buffer has room for; the byte before a word counts, too
abbrev pub word_room : List Rule → ℕ
word_room rules = room_for (max (longest (rule_patterns rules)) 1 + 1)

-- what can be written once this much of the input was read: the text up to a cut, with words replaced; or a line for each
-- decided word
abbrev pub IsWordOutputFront : Mode → Settings → List Rule → List ℕ → List ℕ → Type 0
IsWordOutputFront modes.Replace settings rules x text =
    IsWordFront (dictionary_for settings rules) (replacements_of rules) x text
IsWordOutputFront modes.List settings rules x text =
    IsDecidedList (Decides Words (dictionary_for settings rules) x) text
IsWordOutputFront modes.Overlap settings rules x text =
    IsDecidedList (Decides AllWords (dictionary_for settings rules) x) text

-- ---- what its results mean

module _ {R W : Type 0} (remaining : R → Option (List ℕ)) (contents : W → Option (List ℕ))
    (old new : Watched R × Watched W) where
  -- what the search of a stream that writes this text read and wrote, and its result
  abbrev pub WritesWordText : Settings → List Rule → Result (Unit {0}) StreamError → Type 0
  WritesWordText settings rules result =
      WritesStream remaining contents (word_room rules) (words_output_of settings rules)
      (IsWordOutputFront settings.mode settings rules) old.0 new.0 old.1 new.1 result

  module _ (settings : Settings) (rules : List Rule) where
    -- It got past its build; then it read the input and wrote its text, with the result of a stream.
    pub record WritesWords (result : Result (Unit {0}) StreamError) : Type 0 where
      pub searchable : IsSearchable settings rules
      pub within : IsBuildable (for_words settings) rules
      pub writes : WritesWordText settings rules result

    -- what each result means
    abbrev pub AnswersWordRun : Result (Unit {0}) EarlyError → Type 0
    AnswersWordRun result = AnswersEarly old new (word_demand settings rules) WritesWords result

  -- the same by a rule file, given which rules it holds
  abbrev pub AnswersWordRunIn : (List Rule → Type 0) → Settings → Result (Unit {0}) EarlyError → Type 0
  AnswersWordRunIn holds settings result = AnswersEarlyIn old new holds (λ rules. AnswersWordRun settings rules) result

-- ---- what it costs

-- the sequence whose items a mode writes
abbrev pub sequence_of : Mode → Sequence
sequence_of modes.Replace = Words
sequence_of modes.List = Words
sequence_of modes.Overlap = AllWords

-- how many bytes a run looks at: each byte once, and under a leftmost kind some of them again after words
abbrev pub looks_for_words : Settings → List Rule → List ℕ → ℕ
looks_for_words settings rules x =
    length x
    + read_again (dictionary_for settings rules) 0
    (length (items_of (sequence_of settings.mode) (dictionary_for settings rules) x))

-- what it costs, by the bytes that it read
abbrev pub CostsWordRun : {R : Type 0} → Settings → List Rule → Watched R → Watched R → Steps → Steps
    → Result (Unit {0}) EarlyError → Type 0
CostsWordRun settings rules reader_before reader_after before after result =
    CostsEarly (plan_of true (for_words settings) rules) (looks_for_words settings rules) 1 reader_before reader_after
    before after result
