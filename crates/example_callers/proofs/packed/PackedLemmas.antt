-- What packed search and prefilters find in a whole text.
use Rattle.std.proofs.Common.{◌≡◌, ◌≢◌, ℕ, zero, suc, ◌+◌, ◌≤◌, ◌<◌, false, List, [], ◌∷◌, length, Option, None, Some, inl, inr, ap, sym, subst, arith}
use Rattle.std.specs.Prelude.{IfSome, IsSome, get_or}
use Rattle.std.proofs.lemmas.Bool.{false≢true}
use Rattle.ac_input.specs.declared.search.MatchKind.{MatchKind}
use Rattle.ac_input.specs.declared.search.MatchKind.TheVariants.{Standard, LeftmostFirst}
use Rattle.ac_input.specs.declared.search.candidate.Candidate.TheVariants as candidates
use Rattle.ac_input.specs.Best.{IsBest}
use Rattle.ac_input.specs.Candidate.{IsCandidate, IsScanCounted}
use Rattle.ac_input.specs.declared.search.candidate.Candidate.{Candidate}
use Rattle.ac_input.specs.declared.steps.Steps.{Steps}
use Rattle.ac_automaton.proofs.lemmas.CandidateLemmas.{scanned-in_span}
use Rattle.ac_input.specs.Computed.{best_of}
use Rattle.ac_input.specs.Dictionary.{Dictionary, whole}
use Rattle.ac_input.specs.Occurrence.{Search, Occurrence, Occurs}
use Rattle.ac_input.specs.Same.{IsUnpaired}
use Rattle.ac_input.proofs.lemmas.BestLemmas.{best-computed, best-unique}
use Rattle.ac_input.proofs.lemmas.LiveLemmas.{kind_cases, leftmost-no_later}
use Rattle.ac_input.proofs.lemmas.SameLemmas.{unpaired-none}
use Rattle.ac_input.proofs.lemmas.UnpairedLemmas.{best-unpaired}
use Rattle.ac_literal.specs.Packed.{AreServed, Packed, added, built, fresh, in_whole, leftmost_first, search_kind}
use Rattle.ac_literal.proofs.packed.PatternLemmas.{built-fresh}
use Rattle.ac_literal.specs.declared.packed.api.MatchKind as packed
use Rattle.ac_literal.specs.declared.packed.api.MatchKind.TheVariants as packed_kinds
use Rattle.example_callers.specs.Callers.{IsSkip}

-- a packed search of a kind and patterns returns the best match of that kind and those patterns
pub packed-first : (kind : packed.MatchKind) (patterns : List (List ℕ)) (text : List ℕ) (made : Option Packed)
    (s : Packed) (r : Option Occurrence) → IfSome made (λ t. t ≡ record { kind = kind; patterns = patterns })
    → made ≡ Some s → IsBest (search_kind s.kind) (in_whole s.patterns text) r
    → r ≡ best_of (search_kind kind) (in_whole patterns text)
packed-first kind patterns text made s r value is best =
    let same = subst (λ m. IfSome m (λ t. t ≡ record { kind = kind; patterns = patterns })) is value in
    best-computed (search_kind kind) (in_whole patterns text) (omega arith) r
    (subst (λ t. IsBest (search_kind t.kind) (in_whole t.patterns text) r) same best)

-- packed search serves one pattern that isn't empty
one-served : (pattern : List ℕ) → 0 < length pattern → AreServed (pattern ∷ [])
one-served pattern long = record { some = omega arith; few = omega arith; full = full }
  where
    full : (number : ℕ) → number < length (pattern ∷ []) → 0 < length (get_or (pattern ∷ []) number [])
    full zero h = long
    full (suc n) h = absurd (omega arith)

-- an option that has a value, and only this one, is that value
some-known : (made : Option Packed) (s : Packed) → IsSome made → IfSome made (λ t. t ≡ s) → made ≡ Some s
some-known None s is same = absurd (false≢true is)
some-known (Some t) s is same = ap Some same

-- what is built of one pattern that isn't empty
pub of-one : (pattern : List ℕ) → 0 < length pattern
    → built (added (fresh packed_kinds.LeftmostFirst) pattern).kind
    (added (fresh packed_kinds.LeftmostFirst) pattern).patterns ≡ Some (leftmost_first (pattern ∷ []))
of-one pattern long =
    let made = built-fresh packed_kinds.LeftmostFirst (pattern ∷ []) in
    some-known
    (built (added (fresh packed_kinds.LeftmostFirst) pattern).kind
    (added (fresh packed_kinds.LeftmostFirst) pattern).patterns) (leftmost_first (pattern ∷ []))
    (made.0.1 (one-served pattern long)) made.1

-- A packed search returns the match of a dictionary that has its patterns and kind, and pairs no byte.
pub packed-alike : (s : Packed) (m : Dictionary) (text : List ℕ) (one another : Option Occurrence)
    → search_kind s.kind ≡ m.kind → s.patterns ≡ m.patterns → IsUnpaired m.pairing
    → IsBest (search_kind s.kind) (in_whole s.patterns text) one → IsBest m.kind (whole m text false) another
    → one ≡ another
packed-alike s m text one another kind patterns unpaired best other =
    let by_kind = subst (λ k. IsBest k (in_whole s.patterns text) one) kind best in
    let by_patterns = subst (λ ps. IsBest m.kind (in_whole ps text) one) patterns by_kind in
    let mine = (best-unpaired m.kind (whole m text false) [] m.pairing unpaired-none unpaired one).0 by_patterns in
    best-unique m.kind (whole m text false) (omega arith) mine other

-- no occurrence begins before a leftmost best match
best-begins : (kind : MatchKind) (s : Search) (o : Occurrence) → kind ≢ Standard → IsBest kind s (Some o)
    → (other : Occurrence) → Occurs s other → o.start ≤ other.start
best-begins kind s o leftmost best other occurs = leftmost-no_later kind o other leftmost (best.1 other occurs)

-- no occurrence begins before the match that a prefilter returns
pub candidate-skips : (kind : MatchKind) (s : Search) (o : Occurrence) (place : ℕ)
    → IsCandidate kind s (candidates.Match o) → place ≡ o.start → IsSkip s (Some place)
candidate-skips kind s o place is same =
    let skips = elim (kind_cases kind) as (λ _. IsSkip s (Some o.start)) [
      | inl standard ↦ best-begins LeftmostFirst s o (λ e. cc) (is.2 (is.1 standard) LeftmostFirst)
      | inr leftmost ↦ best-begins kind s o leftmost (is.0 leftmost)
    ] in
    subst (λ at. IsSkip s (Some at)) (sym same) skips

-- a prefilter scans no more places than the text has
pub asked-scans : (needles : List ℕ) (s : Search) (c : Candidate) (before after : Steps) → s.start ≤ s.end
    → IsScanCounted needles s c before after → after.scanned.value + s.start ≤ before.scanned.value + s.end
asked-scans needles s c before after ordered (places, done, scanned) =
    omega (arith, scanned-in_span needles s places c ordered scanned, done.scanned)
