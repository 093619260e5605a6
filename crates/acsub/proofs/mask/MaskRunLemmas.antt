-- What a run that masks has written, given what the automaton's masking of a stream has.
use Rattle.std.proofs.Common.{◌*◌, ◌+◌, ◌≡◌, ℕ, ◌≤◌, Bool, true, false, List, [], length, take, Option, Some, Result, Ok, Err, refl, sym, ap, ◌∙◌, subst, arith}
use Rattle.std.specs.Prelude.{IfErr, OnOk, max, slice_get}
use Rattle.std.specs.List.{concat}
use Rattle.std.proofs.lemmas.Option.{get_or_from_slice_get, slice_get_within}
use Rattle.ac_input.specs.declared.steps.Steps.{Steps}
use Rattle.ac_input.specs.Computed.{occurrences}
use Rattle.ac_input.specs.Dictionary.{Dictionary, whole}
use Rattle.ac_input.specs.Mask.{in_masked_among, masked, masked_among}
use Rattle.ac_input.specs.Occurrence.{Occurrence, Occurs, Search}
use Rattle.ac_input.specs.Rules.{Rule}
use Rattle.ac_input.specs.Word.{OccursWhole, whole_occurrences}
use Rattle.ac_input.specs.Work.{longest, lookups_per_byte, shortest}
use Rattle.ac_input.proofs.lemmas.MaskAmongLemmas.{among-masked}
use Rattle.ac_input.proofs.lemmas.MaskLemmas.{masked-masked, masked-only_empty}
use Rattle.ac_input.proofs.lemmas.WordLemmas.{no-word_left, whole-counted}
use Rattle.ac_automaton.specs.Automaton.{Built}
use Rattle.ac_automaton.specs.Masking.Words.Stream.{IsWordMaskCut, WritesMaskedWords}
use Rattle.ac_automaton.specs.Stream.{CanStream}
use Rattle.ac_automaton.specs.Stream.Answer.{WritesStream}
use Rattle.ac_automaton.specs.Stream.Devices.Buffer.{room_for}
use Rattle.ac_automaton.specs.Stream.Devices.Moved.{NoneTouched}
use Rattle.ac_automaton.specs.Stream.Mask.{IsMaskCut, WritesMasked}
use Rattle.ac_automaton.specs.Stream.Overlapping.{AcceptsListing}
use Rattle.ac_automaton.specs.declared.error.StreamError.{StreamError}
use Rattle.ac_automaton.specs.declared.stream.StreamKinds.TheVariants.{OnlyStandard}
use Rattle.ac_automaton.specs.declared.stream.devices.watched.Watched.{Watched}
use Rattle.aho_corasick.specs.AhoCorasick.{as_built, supported_by}
use Rattle.aho_corasick.specs.declared.ahocorasick.AhoCorasick.{AhoCorasick}
use Rattle.acsub.specs.Early.{as_early}
use Rattle.acsub.specs.Finder.{IsServing}
use Rattle.acsub.specs.Masked.{AnswersMask, CostsMaskRun, CostsMasking, IsMaskOf, IsMaskable, LeavesNone, MasksBy, MasksInput, mask_of}
use Rattle.acsub.specs.Plan.{plan_of}
use Rattle.acsub.specs.Rules.Sides.{rule_patterns}
use Rattle.acsub.specs.Served.{IsBuildable, dictionary_for}
use Rattle.acsub.specs.Stream.{IfStreamMemory, IsNoRefusal}
use Rattle.acsub.specs.declared.args.settings.Settings.{Settings}
use Rattle.acsub.specs.declared.early.EarlyError.{EarlyError}
use Rattle.acsub.specs.declared.error.RunError.{RunError}
use Rattle.acsub.specs.declared.mask.Mask.{Mask}
use Rattle.acsub.specs.declared.mask.PreparedMask.{PreparedMask}
use Rattle.acsub.specs.declared.prepared.Finder.TheVariants as finders
use Rattle.acsub.proofs.early.EarlyLemmas.{early-some}
use Rattle.acsub.proofs.prepared.ServedLemmas.{finder-buildable, serving-looks}
use Rattle.acsub.proofs.run.CountLemmas.{looks-for}
use Rattle.acsub.proofs.stream.StreamedLemmas.{begun-memory, filled-shortest}
use Rattle.acsub.proofs.stream.StreamListLemmas.{can-list}

-- where rules can be masked by, an automaton that serves them masks streams
pub mask-can : (settings : Settings) (rules : List Rule) (byte : ℕ) → IsMaskable settings rules byte
    → (ac : AhoCorasick) → IsServing settings rules ac → CanStream OnlyStandard (as_built ac) (supported_by ac)
mask-can settings rules byte maskable ac serves = (
  serves.start,
  ap (λ m. m.kind) serves.built.dictionary ∙ maskable.standard,
  subst (λ m. 1 ≤ shortest m.patterns) (sym serves.built.dictionary) (filled-shortest rules maskable.filled),
)

-- ---- what is prepared

module _ (settings : Settings) (rules : List Rule) (mask : Mask) (prepared : PreparedMask)
    (is : IsMaskOf settings rules mask prepared) (P : Settings → List Rule → Mask → Type 0) where
  -- what holds for what is asked for holds for what it holds
  pub mask-held : P settings rules mask → P prepared.settings prepared.rules.now prepared.mask
  mask-held p =
      subst (λ k. P prepared.settings prepared.rules.now k) (sym is.same.2)
      (subst (λ rs. P prepared.settings rs mask) (sym is.same.1)
      (subst (λ s. P s rules mask) (sym is.same.0) p))

  -- and the other way round
  pub mask-asked : P prepared.settings prepared.rules.now prepared.mask → P settings rules mask
  mask-asked p =
      subst (λ k. P settings rules k) is.same.2
      (subst (λ rs. P settings rs prepared.mask) is.same.1
      (subst (λ s. P s prepared.rules.now prepared.mask) is.same.0 p))

-- the patterns for which there is an automaton pass no limit
pub mask-within : (settings : Settings) (rules : List Rule) (ac : AhoCorasick) → IsServing settings rules ac
    → IsBuildable settings rules
mask-within settings rules ac serves = finder-buildable settings rules (finders.Automaton ac) serves

-- a masking that is supported isn't refused
pub mask-accepted : (b : Built) (supports : _) (result : Result (Unit {0}) StreamError)
    → CanStream OnlyStandard b supports → AcceptsListing b supports result → IfErr result IsNoRefusal
mask-accepted b supports (Ok done) can accepts = tt
mask-accepted b supports (Err error) can accepts =
    λ refusal e. can-list b supports refusal can (subst (λ other. AcceptsListing b supports (Err other)) e accepts)

-- ---- what was written

module _ {R W : Type 0} (remaining : R → Option (List ℕ)) (contents : W → Option (List ℕ))
    (old new : Watched R × Watched W) (settings : Settings) (rules : List Rule) (byte : ℕ)
    (maskable : IsMaskable settings rules byte) (b : Built) (is : b.dictionary ≡ dictionary_for settings rules)
    (within : IsBuildable settings rules) (result : Result (Unit {0}) StreamError) where
  -- what the automaton's masking of the stream wrote, the run wrote
  pub masks-input : WritesMasked remaining contents b byte old.0 new.0 old.1 new.1 result
      → MasksInput remaining contents old new settings rules (mask_of byte false) result
  masks-input writes =
      record {
        maskable = maskable;
        within = within;
        writes =
            subst (λ (m : Dictionary).
            WritesStream remaining contents (room_for (max (longest m.patterns) 1)) (λ x. masked byte (whole m x false))
            (λ x text. (cut : ℕ) × IsMaskCut m x cut × (text ≡ take cut (masked byte (whole m x false))))
            old.0 new.0 old.1 new.1 result) is writes;
      }

  -- the same, of whole words alone
  pub masks-words : WritesMaskedWords remaining contents b byte old.0 new.0 old.1 new.1 result
      → MasksInput remaining contents old new settings rules (mask_of byte true) result
  masks-words writes =
      record {
        maskable = maskable;
        within = within;
        writes =
            subst (λ (m : Dictionary).
            WritesStream remaining contents (room_for (longest m.patterns + 1))
            (λ x. masked_among whole_occurrences byte (whole m x false))
            (λ x text. (cut : ℕ) × IsWordMaskCut m x cut
            × (text ≡ take cut (masked_among whole_occurrences byte (whole m x false))))
            old.0 new.0 old.1 new.1 result) is writes;
      }

  -- whichever it was
  pub masks-by : (word : Bool) → MasksBy word remaining contents b byte old.0 new.0 old.1 new.1 result
      → MasksInput remaining contents old new settings rules (mask_of byte word) result
  masks-by false masks = masks-input masks.0
  masks-by true masks = masks-words masks.0

  -- where memory ran out, no device was touched
  pub masks-memory : (word : Bool) → MasksBy word remaining contents b byte old.0 new.0 old.1 new.1 result
      → IfStreamMemory result (NoneTouched old.0 new.0 old.1 new.1)
  masks-memory false masks = begun-memory old.0 new.0 old.1 new.1 result masks.1
  masks-memory true masks = begun-memory old.0 new.0 old.1 new.1 result masks.1

module _ {R W : Type 0} (remaining : R → Option (List ℕ)) (contents : W → Option (List ℕ))
    (old new : Watched R × Watched W) (settings : Settings) (rules : List Rule) (byte : ℕ) where
  -- the search that the masked text is of
  abbrev search_in : (word : Bool) → MasksInput remaining contents old new settings rules (mask_of byte word) (Ok tt)
      → Search
  search_in word input = whole (dictionary_for settings rules) (concat input.writes.0.pieces) false

  -- an occurrence in what was written is one in the masked text
  in-masked : (word : Bool) (all : Search → List Occurrence)
      (input : MasksInput remaining contents old new settings rules (mask_of byte word) (Ok tt))
      (Is : Search → Occurrence → Type 0) (o : Occurrence)
      → input.writes.0.taken ≡ masked_among all byte (search_in word input)
      → length (masked_among all byte (search_in word input)) ≡ length (concat input.writes.0.pieces)
      → Is (whole (dictionary_for settings rules) input.writes.0.taken false) o
      → Is (in_masked_among all byte (search_in word input)) o
  in-masked word all input Is o same len occurs =
      subst (λ n. Is (let t : Search = record (in_masked_among all byte (search_in word input)) { end = n } in t) o) len
      (subst (λ text. Is (whole (dictionary_for settings rules) text false) o) same occurs)

  -- an occurrence of an empty pattern is none of these rules'
  empty-none : {word : Bool} → MasksInput remaining contents old new settings rules (mask_of byte word) (Ok tt)
      → (o : Occurrence) → ¬ (slice_get (rule_patterns rules) o.pattern ≡ Some [])
  empty-none input o empty =
      input.maskable.filled
      (o.pattern, slice_get_within _ o.pattern [] empty, get_or_from_slice_get _ o.pattern [] [] empty)

  -- no pattern occurs in what a run has written that returned Ok; or no whole word, if the mask is a word byte
  leaves-word : (word : Bool) (input : MasksInput remaining contents old new settings rules (mask_of byte word) (Ok tt))
      → LeavesNone (mask_of byte word) settings rules old.1 new.1
  leaves-word false input = (
    input.writes.0.taken,
    input.writes.1.writer.taken,
    λ _ o occurs.
        let s = search_in false input in
        empty-none input o
        (masked-only_empty byte s o (omega arith) input.maskable.unused
        (in-masked false occurrences input Occurs o input.writes.3.written (masked-masked byte s (omega arith)).len occurs)),
  )
  leaves-word true input = (
    input.writes.0.taken,
    input.writes.1.writer.taken,
    λ is_word o occurs.
        let s = search_in true input in
        empty-none input o
        (no-word_left byte s o (omega arith) input.maskable.unused (is_word refl)
        (in-masked true whole_occurrences input OccursWhole o input.writes.3.written
        (among-masked whole-counted byte s (omega arith)).len occurs)),
  )

  pub leaves-none : (word : Bool) (result : Result (Unit {0}) RunError)
      → AnswersMask remaining contents old new settings rules (mask_of byte word) (as_early result)
      → OnOk result (LeavesNone (mask_of byte word) settings rules old.1 new.1)
  leaves-none word (Ok done) input = leaves-word word input
  leaves-none word (Err e) stopped = tt

-- ---- what it costs

-- it costs what the masking of the stream costs
pub mask-costs : {R : Type 0} (word : Bool) (settings : Settings) (rules : List Rule) (ac : AhoCorasick) (r r' : Watched R)
    (before after : Steps) (searched : Result (Unit {0}) StreamError) (result : Result (Unit {0}) EarlyError)
    → IsServing settings rules ac → CostsMasking word (as_built ac) r r' before after searched
    → (result ≡ Ok tt → searched ≡ Ok tt) → CostsMaskRun word settings rules r r' before after result
mask-costs false settings rules ac r r' before after searched result serves cost both =
    let b = as_built ac in
    let n = length (concat cost.pieces) in
    let moved = cost.moved in
    record {
      gained = cost.pieces;
      read = cost.read;
      looked = looks-for (plan_of true settings rules) b.deterministic (lookups_per_byte b.deterministic * n) n n before
          after (serving-looks settings rules ac serves) (omega arith) (omega arith) cost.looked;
      some = early-some _ searched result both cost.some;
      scanned = cost.scanned;
      moved = omega arith;
    }
mask-costs true settings rules ac r r' before after searched result serves cost both =
    let b = as_built ac in
    let n = length (concat cost.pieces) in
    record {
      gained = cost.pieces;
      read = cost.read;
      looked = looks-for (plan_of true settings rules) b.deterministic (lookups_per_byte b.deterministic * n) n n before
          after (serving-looks settings rules ac serves) (omega arith) (omega arith) cost.looked;
      some = early-some _ searched result both cost.some;
      scanned = cost.scanned;
      moved = cost.moved;
    }
