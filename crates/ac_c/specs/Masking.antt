-- Masking: what a call on a text returns, what a masking of pieces begins as, and what each call does.
use Rattle.std.specs.Prelude.{◌≡◌, ◌⊎◌, ℕ, true, false, List, [], length, Result}
use Rattle.ac_automaton.specs.InMemory.Overlapping.{IsOverlappingRefusal}
use Rattle.ac_automaton.specs.Masking.{masked_in}
use Rattle.ac_automaton.specs.Masking.Words.{masked_words_in}
use Rattle.ac_automaton.specs.Stream.{CanBeCounted}
use Rattle.ac_automaton.specs.Masking.Words.Pushed.{MasksWordsPushed, ready_words_of}
use Rattle.ac_automaton.specs.Stream.Mask.{MaskProgress, MasksPushed, finished_mask, fresh_mask, passed_to, ready_of}
use Rattle.ac_automaton.specs.declared.error.MatchErrorKind.{MatchErrorKind}
use Rattle.ac_automaton.specs.declared.error.StreamError.{StreamError}
use Rattle.ac_input.specs.Input.{whole_of}
use Rattle.ac_input.specs.declared.search.Anchored.TheVariants.{No}
use Rattle.ac_input.specs.declared.search.MatchKind.TheVariants.{Standard}
use Rattle.aho_corasick.specs.AhoCorasick.{as_built, supported_by}
use Rattle.aho_corasick.specs.declared.ahocorasick.AhoCorasick.{AhoCorasick}
use Rattle.ac_c.specs.declared.masking.Masking.{Masking}
use Rattle.ac_c.specs.declared.masking.Masking.TheVariants.{OfAll, OfWords}
use Rattle.ac_c.specs.declared.replace.Length.{Length}
use Rattle.ac_c.specs.declared.searching.Count.{Count}
use Rattle.ac_c.specs.Searching.{push_of}
use Rattle.ac_c.specs.Status.{ok, no_memory, finished, refusal_status}

-- ---- a text where it lies

-- The text became the masked one; or it is unchanged, as the automaton has no search for all that overlap.
abbrev pub IsMaskedTo : AhoCorasick → List ℕ → List ℕ → List ℕ → ℕ → Type 0
IsMaskedTo ac masked before after status =
    (supported_by ac No × ((as_built ac).dictionary.kind ≡ Standard) × (after ≡ masked) × (status ≡ ok))
    ⊎ ((error : MatchErrorKind) × IsOverlappingRefusal (as_built ac) (supported_by ac) (whole_of []) error
    × (after ≡ before) × (status ≡ refusal_status error))

-- what masking all occurrences returns
abbrev pub AnswersMasked : AhoCorasick → ℕ → List ℕ → List ℕ → ℕ → Type 0
AnswersMasked ac byte before after status = IsMaskedTo ac (masked_in (as_built ac) byte before) before after status

-- What masking whole words returns: the same, or there was no memory for a copy of the text, which is unchanged.
abbrev pub AnswersMaskedWords : AhoCorasick → ℕ → List ℕ → List ℕ → ℕ → Type 0
AnswersMaskedWords ac byte before after status =
    IsMaskedTo ac (masked_words_in (as_built ac) byte before) before after status
    ⊎ (supported_by ac No × ((as_built ac).dictionary.kind ≡ Standard) × (after ≡ before) × (status ≡ no_memory))

-- ---- pieces

-- a masking of all occurrences by this automaton and with this byte that was passed nothing yet
abbrev pub masking_by : AhoCorasick → ℕ → Masking
masking_by ac byte = OfAll (fresh_mask (as_built ac) byte)

-- and one of whole words
abbrev pub word_masking_by : AhoCorasick → ℕ → Masking
word_masking_by ac byte = OfWords (fresh_mask (as_built ac) byte)

-- how far a masking has come
abbrev pub mask_progress : Masking → MaskProgress
mask_progress (OfAll s) = s
mask_progress (OfWords s) = s

-- one of the same kind that has come so far
abbrev pub with_progress : Masking → MaskProgress → Masking
with_progress (OfAll s) t = OfAll t
with_progress (OfWords s) t = OfWords t

-- the masked bytes that are ready
abbrev pub ready_in : Masking → List ℕ
ready_in (OfAll s) = ready_of s
ready_in (OfWords s) = ready_words_of s

-- the result of a push to the library's masking
abbrev pub TakesMasked : Masking → List ℕ → Masking → Result ℕ StreamError → Type 0
TakesMasked (OfAll s) piece new result = (t : MaskProgress) × (new ≡ OfAll t) × MasksPushed s t piece result
TakesMasked (OfWords s) piece new result = (t : MaskProgress) × (new ≡ OfWords t) × MasksWordsPushed s t piece result

-- A finished masking takes nothing, and is unchanged. Any other takes what the library's masking takes.
abbrev pub IsPushedTo : Masking → List ℕ → Masking → Count → Type 0
IsPushedTo s piece t taken =
    (((mask_progress s).closed ≡ true) × (t ≡ s) × (taken ≡ record { count = 0; status = finished }))
    ⊎ (((mask_progress s).closed ≡ false) × (r : Result ℕ StreamError) × TakesMasked s piece t r × (taken ≡ push_of r))

-- how many masked bytes are ready
abbrev pub ready_len : Masking → Length
ready_len s = record { len = length (ready_in s); status = ok }

-- No more pieces come: all that waited is ready. After more bytes than places nothing is.
abbrev pub IsClosedMask : Masking → Masking → Type 0
IsClosedMask s t =
    (CanBeCounted (passed_to (mask_progress s)) → t ≡ with_progress s (finished_mask (mask_progress s)))
    × (¬ CanBeCounted (passed_to (mask_progress s))
    → t ≡ with_progress s (record (mask_progress s) { out = (mask_progress s).cut }))
