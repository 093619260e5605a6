-- What an automaton begins for text that comes in pieces; or why it can't.
use Rattle.std.specs.Prelude.{◌≡◌, ◌⊎◌, ℕ, Option, Some, Result, Ok, Err}
use Rattle.ac_automaton.specs.Stream.{CanStream, IsConfigRefusal}
use Rattle.ac_automaton.specs.Stream.Overlapping.{IsListingConfigRefusal}
use Rattle.ac_automaton.specs.declared.error.MatchErrorKind.{MatchErrorKind}
use Rattle.ac_automaton.specs.declared.stream.StreamKinds.{StreamKinds}
use Rattle.ac_automaton.specs.declared.stream.StreamKinds.TheVariants.{AnyKind, OnlyStandard}
use Rattle.aho_corasick.specs.AhoCorasick.{as_built, supported_by}
use Rattle.aho_corasick.specs.declared.ahocorasick.AhoCorasick.{AhoCorasick}
use Rattle.ac_c.specs.Status.{ok, no_memory, refusal_status}

-- the automaton can search pieces: where only the standard kind is accepted, for all that overlaps
abbrev pub CanBegin : StreamKinds → AhoCorasick → Type 0
CanBegin kinds ac = CanStream kinds (as_built ac) (supported_by ac)

-- The error of an automaton that can't: it has no start, or else a pattern is empty. Where only the standard kind is accepted, that is
-- tested between the two, as masking a text tests it.
abbrev pub IsBeginError : StreamKinds → AhoCorasick → MatchErrorKind → Type 0
IsBeginError AnyKind ac error = IsConfigRefusal AnyKind (as_built ac) (supported_by ac) error
IsBeginError OnlyStandard ac error = IsListingConfigRefusal (as_built ac) (supported_by ac) error

-- why nothing is begun: that error, or memory ran out
abbrev pub IsBeginRefused : StreamKinds → AhoCorasick → ℕ → Type 0
IsBeginRefused kinds ac status =
    ((error : MatchErrorKind) × IsBeginError kinds ac error × (status ≡ refusal_status error))
    ⊎ (CanBegin kinds ac × (status ≡ no_memory))

-- what is begun, or why nothing is
abbrev pub IsBegunAs : {X : Type 0} → StreamKinds → AhoCorasick → X → Result X ℕ → Type 0
IsBegunAs kinds ac begun (Ok x) = CanBegin kinds ac × (x ≡ begun)
IsBegunAs kinds ac begun (Err status) = IsBeginRefused kinds ac status

-- the handle holds what is begun; or the status says why nothing is, and the handle is unchanged
abbrev pub HoldsBegun : {X : Type 0} → StreamKinds → AhoCorasick → X → Option X → Option X → ℕ → Type 0
HoldsBegun kinds ac begun old new status =
    (CanBegin kinds ac × (new ≡ Some begun) × (status ≡ ok)) ⊎ (IsBeginRefused kinds ac status × (new ≡ old))
