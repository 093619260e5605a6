-- A run that masks: which rules it takes, what it writes, and what each of its results means.
use Rattle.std.specs.Prelude.{◌≡◌, ◌≢◌, ℕ, ◌+◌, Bool, true, false, IsTrue, List, [], ◌++◌, length, take, Result, Option}
use Rattle.ac_input.specs.Dictionary.{Dictionary, whole}
use Rattle.ac_input.specs.Mask.{masked_among}
use Rattle.ac_input.specs.Occurrence.{Occurrence}
use Rattle.ac_input.specs.Rules.{Rule}
use Rattle.ac_input.specs.Unused.{IsUnused}
use Rattle.ac_input.specs.Word.{OccursAsked, asked_occurrences, is_word_byte}
use Rattle.ac_input.specs.Work.{longest}
use Rattle.ac_input.specs.declared.search.MatchKind.TheVariants.{Standard}
use Rattle.ac_input.specs.declared.steps.Steps.{Steps}
use Rattle.ac_automaton.specs.Stream.Answer.{WritesStream}
use Rattle.ac_automaton.specs.Automaton.{Built}
use Rattle.ac_automaton.specs.Masking.Words.Stream.{CostsMaskWordsStream, IsWordMaskCut, MasksWordsStream}
use Rattle.ac_automaton.specs.Stream.Devices.Buffer.{room_for}
use Rattle.ac_automaton.specs.Stream.Mask.{CostsMaskStream, IsMaskCut, MasksStream}
use Rattle.ac_automaton.specs.declared.error.StreamError.{StreamError}
use Rattle.ac_automaton.specs.declared.stream.devices.watched.Watched.{Watched}
use Rattle.acsub.specs.declared.args.settings.Engine.TheVariants.{Packed}
use Rattle.acsub.specs.declared.args.settings.Mode.TheVariants.{List as Listing}
use Rattle.acsub.specs.declared.args.settings.Settings.{Settings}
use Rattle.acsub.specs.declared.early.EarlyError.{EarlyError}
use Rattle.acsub.specs.declared.early.Refusal.{Refusal}
use Rattle.acsub.specs.declared.early.Refusal.TheVariants as refusals
use Rattle.acsub.specs.declared.mask.Mask.{Mask}
use Rattle.acsub.specs.declared.mask.PreparedMask.{PreparedMask}
use Rattle.acsub.specs.Args.Settings.{HasEmptyPattern}
use Rattle.acsub.specs.Early.{AnswersEarly, AnswersEarlyIn, CostsEarly, Demand, IsFirstRefusal}
use Rattle.acsub.specs.Finder.{IsServing}
use Rattle.acsub.specs.Plan.{plan_of}
use Rattle.acsub.specs.Rules.Sides.{rule_patterns}
use Rattle.acsub.specs.Run.Transformed.{room_in}
use Rattle.acsub.specs.Served.{IsBuildable, dictionary_for}

-- ---- what it takes

-- no pattern has the byte, or its partner
abbrev pub IsInNoPattern : Settings → List Rule → ℕ → Type 0
IsInNoPattern settings rules byte = IsUnused (whole (dictionary_for settings rules) [] false) byte

-- Rules can be masked by: the kind is the standard one, an automaton searches, there are rules, no pattern is empty, and
-- none has the mask or its partner.
pub record IsMaskable (settings : Settings) (rules : List Rule) (byte : ℕ) : Type 0 where
  pub standard : settings.kind ≡ Standard
  pub automaton : settings.engine ≢ Packed
  pub some : length rules ≢ 0
  pub filled : ¬ HasEmptyPattern rules
  pub unused : IsInNoPattern settings rules byte

-- why rules can't be masked by
abbrev pub IsMaskRefusal : Settings → List Rule → ℕ → Refusal → Type 0
IsMaskRefusal settings rules byte refusals.LeftmostMasked = settings.kind ≢ Standard
IsMaskRefusal settings rules byte refusals.PackedMasked = settings.engine ≡ Packed
IsMaskRefusal settings rules byte refusals.NoRules = length rules ≡ 0
IsMaskRefusal settings rules byte refusals.EmptyMasked = HasEmptyPattern rules
IsMaskRefusal settings rules byte (refusals.Occurs named) = (named ≡ byte) × ¬ IsInNoPattern settings rules byte
IsMaskRefusal settings rules byte other = ⊥

-- what a run that masks asks of settings and rules; no error of settings is left for it
abbrev pub mask_demand : Settings → List Rule → ℕ → Demand
mask_demand settings rules byte =
    record {
      rules = rules;
      built = settings;
      fits = IsMaskable settings rules byte;
      excludes = λ error. ⊥;
      refuses = IsFirstRefusal (IsMaskRefusal settings rules byte);
    }

-- It is prepared for these settings, rules and mask: the rules can be masked by, and the automaton serves them.
pub record IsMaskOf (settings : Settings) (rules : List Rule) (mask : Mask) (prepared : PreparedMask) : Type 0 where
  pub maskable : IsMaskable settings rules mask.byte
  pub serves : IsServing settings rules prepared.automaton
  pub same : (prepared.settings ≡ settings) × (prepared.rules.now ≡ rules) × (prepared.mask ≡ mask)

-- it is prepared for what it holds
abbrev pub IsMaskReady : PreparedMask → Type 0
IsMaskReady prepared = IsMaskOf prepared.settings prepared.rules.now prepared.mask prepared

-- ---- what it writes

-- a mask by this byte, of whole words alone or of every occurrence
abbrev pub mask_of : ℕ → Bool → Mask
mask_of byte word = record { byte = byte; word = word }

-- the input with each byte that an occurrence covers replaced by the mask
abbrev pub masked_by : Settings → List Rule → Mask → List ℕ → List ℕ
masked_by settings rules mask x =
    masked_among (asked_occurrences mask.word) mask.byte (whole (dictionary_for settings rules) x false)

-- before this place the masked text is final: all but the last bytes, fewer than the longest pattern has, or as many where
-- whole words alone count
abbrev pub IsCutFor : Bool → Dictionary → List ℕ → ℕ → Type 0
IsCutFor false m x cut = IsMaskCut m x cut
IsCutFor true m x cut = IsWordMaskCut m x cut

-- the front of the masked text that can be written once this much was read
abbrev pub IsMaskedFront : Settings → List Rule → Mask → List ℕ → List ℕ → Type 0
IsMaskedFront settings rules mask x text =
    (cut : ℕ) × IsCutFor mask.word (dictionary_for settings rules) x cut
    × (text ≡ take cut (masked_by settings rules mask x))

-- how many bytes a buffer for the input has room for
abbrev pub mask_room : Bool → List Rule → ℕ
mask_room false rules = room_in Listing rules
mask_room true rules = room_for (longest (rule_patterns rules) + 1)

-- No pattern occurs in what was written since. Where whole words alone are masked, no whole word occurs, if the mask is a
-- word byte.
abbrev pub LeavesNone : {W : Type 0} → Mask → Settings → List Rule → Watched W → Watched W → Type 0
LeavesNone mask settings rules before after =
    (text : List ℕ) × (after.taken.bytes ≡ before.taken.bytes ++ text)
    × ((mask.word ≡ true → IsTrue (is_word_byte mask.byte))
    → (o : Occurrence) → ¬ OccursAsked mask.word (whole (dictionary_for settings rules) text false) o)

-- ---- what its results mean

module _ {R W : Type 0} (remaining : R → Option (List ℕ)) (contents : W → Option (List ℕ))
    (old new : Watched R × Watched W) where
  module _ (settings : Settings) (rules : List Rule) (mask : Mask) where
    -- It got past its build; then it read the input and wrote it masked, with the result of a stream.
    pub record MasksInput (result : Result (Unit {0}) StreamError) : Type 0 where
      pub maskable : IsMaskable settings rules mask.byte
      pub within : IsBuildable settings rules
      pub writes : WritesStream remaining contents (mask_room mask.word rules) (masked_by settings rules mask)
          (IsMaskedFront settings rules mask) old.0 new.0 old.1 new.1 result

    -- what each result means
    abbrev pub AnswersMask : Result (Unit {0}) EarlyError → Type 0
    AnswersMask result = AnswersEarly old new (mask_demand settings rules mask.byte) MasksInput result

  -- the same by a rule file, given which rules it holds
  abbrev pub AnswersMaskIn : (List Rule → Type 0) → Settings → Mask → Result (Unit {0}) EarlyError → Type 0
  AnswersMaskIn holds settings mask result =
      AnswersEarlyIn old new holds (λ rules. AnswersMask settings rules mask) result

-- how many buffers for the input there are; where whole words alone are masked, one has the bytes as they were
abbrev pub buffers_for : Bool → ℕ
buffers_for false = 1
buffers_for true = 2

-- what it costs, by the bytes that it read
abbrev pub CostsMaskRun : {R : Type 0} → Bool → Settings → List Rule → Watched R → Watched R → Steps → Steps
    → Result (Unit {0}) EarlyError → Type 0
CostsMaskRun word settings rules reader_before reader_after before after result =
    CostsEarly (plan_of true settings rules) length (buffers_for word) reader_before reader_after before after result

-- ---- what the automaton does

-- a masking of a stream by an automaton, of every occurrence or of whole words alone: what it read, wrote and returned
abbrev pub MasksBy : {R W : Type 0} → Bool → (R → Option (List ℕ)) → (W → Option (List ℕ)) → Built → ℕ → Watched R
    → Watched R → Watched W → Watched W → Result (Unit {0}) StreamError → Type 0
MasksBy false = MasksStream
MasksBy true = MasksWordsStream

-- and what it cost
abbrev pub CostsMasking : {R : Type 0} → Bool → Built → Watched R → Watched R → Steps → Steps
    → Result (Unit {0}) StreamError → Type 0
CostsMasking false = CostsMaskStream
CostsMasking true = CostsMaskWordsStream
