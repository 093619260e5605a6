-- What a handle of a masking of pieces holds, and what its calls return.
use base.Stored.{Coded}
use Rattle.std.specs.Prelude.{◌≡◌, ℕ, List}
use Rattle.std.specs.declared.option.Option.{Option}
use Rattle.std.specs.declared.option.Option.TheVariants.{None, Some}
use Rattle.std.specs.Coded.{coded_option}
use Rattle.ac_automaton.specs.declared.stream.StreamKinds.TheVariants.{OnlyStandard}
use Rattle.aho_corasick.specs.declared.ahocorasick.AhoCorasick.{AhoCorasick}
use Rattle.ac_c.specs.contracts.masking.Masking.{the_row}
use Rattle.ac_c.specs.declared.masking.Masking.{Masking}
use Rattle.ac_c.specs.declared.replace.Length.{Length}
use Rattle.ac_c.specs.declared.searching.Count.{Count}
use Rattle.ac_c.specs.Begun.{HoldsBegun}
use Rattle.ac_c.specs.Masking.{IsClosedMask, IsPushedTo, masking_by, ready_len, word_masking_by}
use Rattle.ac_c.specs.Status.{ok, no_masker}

-- a masking of pieces, or none
abbrev pub HeldMasker : Type 0
HeldMasker = Option the_row.Denot

abbrev pub masker_coded : Coded HeldMasker
masker_coded = coded_option the_row.coded

-- the handle holds a masking that was passed nothing yet; or why there is none, and the handle is unchanged
abbrev pub AnswersMasking : AhoCorasick → ℕ → HeldMasker → HeldMasker → ℕ → Type 0
AnswersMasking ac byte old new status = HoldsBegun OnlyStandard ac (masking_by ac byte) old new status

-- the same of whole words
abbrev pub AnswersWordMasking : AhoCorasick → ℕ → HeldMasker → HeldMasker → ℕ → Type 0
AnswersWordMasking ac byte old new status = HoldsBegun OnlyStandard ac (word_masking_by ac byte) old new status

-- the first bytes of a piece were taken, or why none were; or the handle holds no masking
abbrev pub AnswersMaskPush : List ℕ → HeldMasker → HeldMasker → Count → Type 0
AnswersMaskPush piece None new taken = (new ≡ None) × (taken ≡ record { count = 0; status = no_masker })
AnswersMaskPush piece (Some m) new taken = (t : Masking) × (new ≡ Some t) × IsPushedTo m piece t taken

-- how many masked bytes are ready; or the handle holds no masking
abbrev pub ready_by : HeldMasker → Length
ready_by None = record { len = 0; status = no_masker }
ready_by (Some m) = ready_len m

-- the masking after the call that says that no more pieces come, and the status of that call
abbrev pub AnswersMaskEnd : HeldMasker → HeldMasker → ℕ → Type 0
AnswersMaskEnd None new status = (new ≡ None) × (status ≡ no_masker)
AnswersMaskEnd (Some m) new status = (t : Masking) × (new ≡ Some t) × IsClosedMask m t × (status ≡ ok)
