-- Start bytes: each occurrence begins with one, and each is the same as a byte of some pattern.
use Rattle.std.proofs.Common.{◌≡◌, ℕ, ◌+◌, ◌<◌, ◌≤◌, Bool, true, false, ◌||◌, List, [], ◌∷◌, length, IsTrue, Some, refl, sym, ◌∙◌, subst, inl, inr, arith}
use Rattle.std.specs.Prelude.{slice_index}
use Rattle.std.specs.List.{Contains}
use Rattle.std.proofs.lemmas.Bool.{cases_lt, false≢true}
use Rattle.memchr.specs.Find.{Passes, IsFirst}
use Rattle.ac_input.specs.declared.search.Span.{Span}
use Rattle.ac_input.specs.Same.{same}
use Rattle.ac_input.specs.Occurrence.{Occurrence, Occurs}
use Rattle.ac_input.specs.Dictionary.{Dictionary}
use Rattle.ac_input.specs.declared.search.Anchored.TheVariants.{No}
use Rattle.ac_input.specs.Input.{search_of}
use Rattle.ac_input.proofs.lemmas.ContainsLemmas.{Contains-nil, Contains-head, Contains-tail, Contains-cases}
use Rattle.ac_literal.specs.Prefilter.Needles.{is_needle}
use Rattle.ac_literal.specs.Prefilter.Strategies.{AreStarts, begins_same, is_start, StandsInSome}
use Rattle.ac_literal.specs.declared.prefilter.needles.Needles.{Needles}
use Rattle.ac_literal.proofs.prefilter.CandidateLemmas.{lies}
use Rattle.ac_literal.proofs.prefilter.NeedleLemmas.{or-cases}

-- if the first of two tests passes, one of them does
or_left : (a b : Bool) → IsTrue a → IsTrue (a || b)
or_left true b h = refl
or_left false b h = absurd (false≢true h)

or_right : (a : Bool) {b : Bool} → IsTrue b → IsTrue (a || b)
or_right true h = refl
or_right false h = h

-- a byte that is the same as a pattern's first byte begins the pattern
begins-first : (pairing p : List ℕ) (byte : ℕ) → 0 < length p → IsTrue (same pairing (slice_index p 0) byte)
    → IsTrue (begins_same pairing p byte)
begins-first pairing [] byte some h = absurd (omega arith)
begins-first pairing (x ∷ xs) byte some h = h

-- a byte that begins a pattern is the same as a byte of the pattern
first-begins : (pairing p : List ℕ) (byte : ℕ) → IsTrue (begins_same pairing p byte)
    → (inner : ℕ) × Contains p inner × IsTrue (same pairing inner byte)
first-begins pairing [] byte h = absurd (false≢true h)
first-begins pairing (x ∷ xs) byte h = (x, Contains-head xs, h)

-- a byte that begins one of the patterns is a start byte
pub is_start-given : (pairing : List ℕ) (ps : List (List ℕ)) {p : List ℕ} (byte : ℕ) → Contains ps p
    → IsTrue (begins_same pairing p byte) → IsTrue (is_start pairing ps byte)
is_start-given pairing [] byte given h = absurd (Contains-nil given)
is_start-given pairing (q ∷ ps) byte given h =
    elim (Contains-cases ps given) [
      | inl here ↦
          or_left (begins_same pairing q byte) (is_start pairing ps byte)
          (subst (λ r. IsTrue (begins_same pairing r byte)) (sym here) h)
      | inr later ↦ or_right (begins_same pairing q byte) (is_start-given pairing ps byte later h)
    ]

-- a start byte is the same as a byte of some pattern
pub start-stands : (pairing : List ℕ) (ps : List (List ℕ)) (byte : ℕ) → IsTrue (is_start pairing ps byte)
    → StandsInSome pairing ps byte
start-stands pairing [] byte h = absurd (false≢true h)
start-stands pairing (q ∷ ps) byte h =
    elim (or-cases (begins_same pairing q byte) h) [
      | inl here ↦ let f = first-begins pairing q byte here in (q, f.0, Contains-head ps, f.1, f.2)
      | inr later ↦ let f = start-stands pairing ps byte later in (f.0, f.1, Contains-tail ps f.2, f.3, f.4)
    ]

module _ {m : Dictionary} {needles : Needles} (haystack : List ℕ) (span : Span) (inside : span.end ≤ length haystack)
    (starts : AreStarts m needles) where
  -- each occurrence begins with a needle
  begins_with : (o : Occurrence) → Occurs (search_of m No haystack span) o
      → (o.start < o.end) × Passes (is_needle needles) haystack o.start
  begins_with o h =
      let l = lies inside h in
      let some = starts.full.full l.pattern l.given in
      let end = l.end in
      let here : o.start + 0 ≡ o.start = omega arith in
      let same_there : IsTrue (same m.pairing (slice_index l.pattern 0) (slice_index haystack o.start)) = subst
      (λ place. IsTrue (same m.pairing (slice_index l.pattern 0) (slice_index haystack place))) here
      (l.same_at 0 some) in (
        omega arith,
        starts.exact (slice_index haystack o.start)
            ∙ is_start-given m.pairing m.patterns (slice_index haystack o.start) l.given
            (begins-first m.pairing l.pattern (slice_index haystack o.start) some same_there),
      )

  -- each occurrence holds a needle
  pub start_hold : (o : Occurrence) → Occurs (search_of m No haystack span) o
      → (k : ℕ) × (o.start ≤ k) × (k < o.end) × Passes (is_needle needles) haystack k
  start_hold o h = let b = begins_with o h in (o.start, omega arith, b.0, b.1)

  -- each needle is a byte of some pattern, up to the pairing
  pub start_known : (byte : ℕ) → IsTrue (is_needle needles byte) → StandsInSome m.pairing m.patterns byte
  start_known byte h = start-stands m.pairing m.patterns byte (sym (starts.exact byte) ∙ h)

  -- no occurrence begins before the first needle
  pub start_no_earlier : {at : ℕ} → IsFirst (Passes (is_needle needles) haystack) span.start span.end (Some at)
      → (o : Occurrence) → Occurs (search_of m No haystack span) o → at ≤ o.start
  start_no_earlier {at} first o h =
      let b = first.0 in
      let w = h.within in
      let k = begins_with o h in
      elim (cases_lt o.start at) [
        | inl earlier ↦ absurd (b.before o.start w.0 earlier k.1)
        | inr later ↦ later
      ]
