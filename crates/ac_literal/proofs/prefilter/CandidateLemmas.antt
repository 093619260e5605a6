-- What a scan for bytes says about the occurrences in a span.
use Rattle.std.proofs.Common.{◌≡◌, ℕ, zero, suc, ◌+◌, ◌-◌, ◌<◌, ◌≤◌, List, [], ◌∷◌, length, get_or, IsTrue, slice_get, None, Some, refl, subst, inl, inr, arith}
use Rattle.std.specs.Prelude.{slice_index}
use Rattle.std.specs.List.{Contains}
use Rattle.std.proofs.lemmas.Bool.{and_parts, false≢true, cases_lt}
use Rattle.std.proofs.lemmas.Grind.{get_or_default_zero}
use Rattle.std.proofs.lemmas.Option.{slice_get_within, get_or_from_slice_get}
use Rattle.memchr.specs.Find.{Nowhere, Passes, IsFirst}
use Rattle.ac_input.specs.declared.search.Span.{Span}
use Rattle.ac_input.specs.declared.search.candidate.Candidate.{Candidate}
use Rattle.ac_input.specs.declared.search.candidate.Candidate.TheVariants as candidates
use Rattle.ac_input.specs.declared.steps.Steps.{Steps}
use Rattle.ac_input.specs.Same.{same, same_text}
use Rattle.ac_input.specs.Occurrence.{Search, Occurrence, Occurs}
use Rattle.ac_input.specs.Dictionary.{Dictionary}
use Rattle.ac_input.specs.Steps.{Done}
use Rattle.ac_input.specs.declared.search.Anchored.TheVariants.{No}
use Rattle.ac_input.specs.Input.{search_of}
use Rattle.ac_input.specs.Candidate.{HasNoByte, IsScan, IsScanned}
use Rattle.ac_input.proofs.lemmas.OrderLemmas.{same_text-length, slice_range-length}
use Rattle.ac_literal.specs.Prefilter.Needles.{is_needle, needle_list, covered}
use Rattle.ac_literal.specs.Prefilter.Strategies.{AreFull, StandsInSome, IsNeedleScan}
use Rattle.ac_literal.specs.declared.prefilter.needles.Needles.{Needles}
use Rattle.ac_literal.specs.declared.prefilter.needles.Needles.TheVariants.{One, Two, Three}
use Rattle.ac_literal.proofs.prefilter.NeedleLemmas.{needle-listed, listed-needle}
use Rattle.ac_literal.proofs.prefilter.SpanLemmas.{index-part}

-- texts that are the same have the same byte at each place
pub same_text-index : (pairing xs ys : List ℕ) (k : ℕ) → IsTrue (same_text pairing xs ys) → k < length xs
    → IsTrue (same pairing (slice_index xs k) (slice_index ys k))
same_text-index pairing [] ys k h within = absurd (omega arith)
same_text-index pairing (x ∷ xs) [] k h within = absurd (false≢true h)
same_text-index pairing (x ∷ xs) (y ∷ ys) zero h within = (and_parts (same pairing x y) (same_text pairing xs ys) h).0
same_text-index pairing (x ∷ xs) (y ∷ ys) (suc k) h within =
    same_text-index pairing xs ys k (and_parts (same pairing x y) (same_text pairing xs ys) h).1 (omega arith)

-- the pattern of an occurrence, and its bytes in the haystack
pub record Lies (s : Search) (o : Occurrence) : Type 0 where
  pub pattern : List ℕ
  pub is : slice_get s.patterns o.pattern ≡ Some pattern
  pub given : Contains s.patterns pattern
  pub end : o.end ≡ o.start + length pattern
  pub same_at : (k : ℕ) → k < length pattern
      → IsTrue (same s.pairing (slice_index pattern k) (slice_index s.haystack (o.start + k)))

-- each occurrence has its pattern's bytes in the haystack
pub lies : {s : Search} {o : Occurrence} → s.end ≤ length s.haystack → Occurs s o → Lies s o
lies {s} {o} inside h =
    let p : List ℕ = h.same.0 in
    let w = h.within in
    let len = same_text-length s.pairing p _ h.same.2 in
    let part = slice_range-length s.haystack o.start w.1 (omega arith) in
    let end : o.end ≡ o.start + length p = omega arith in
    record {
      pattern = p;
      is = h.same.1;
      given = (
        o.pattern,
        slice_get_within s.patterns o.pattern p h.same.1,
        get_or_from_slice_get s.patterns o.pattern p p h.same.1,
      );
      end = end;
      same_at = λ k within.
          let here = index-part s.haystack o.start k (omega arith) (omega arith) in
          subst (λ byte. IsTrue (same s.pairing (slice_index p k) byte)) here
          (same_text-index s.pairing p _ k h.same.2 within);
    }

-- where no byte of the span stands in a pattern, and no pattern is empty, nothing occurs
pub no_byte-no_occurrence : {s : Search} → s.end ≤ length s.haystack → AreFull s.patterns → HasNoByte s
    → {o : Occurrence} → ¬ Occurs s o
no_byte-no_occurrence {s} inside full no_byte {o} h =
    let l = lies inside h in
    let w = h.within in
    let some : 0 < length l.pattern = full.full l.pattern l.given in
    let here : o.start + 0 ≡ o.start = omega arith in
    let end = l.end in
    no_byte l.pattern (slice_index l.pattern 0) o.start l.given (0, some, default_too l.pattern 0 some) w.0
    (omega arith)
    (subst (λ at. IsTrue (same s.pairing (slice_index l.pattern 0) (slice_index s.haystack at))) here
    (l.same_at 0 some))
  where
    default_too : (xs : List ℕ) (k : ℕ) → k < length xs → get_or xs k (slice_index xs k) ≡ slice_index xs k
    default_too xs k within = get_or_default_zero xs k (slice_index xs k) within

-- a scan for needles is a scan by bytes, since there is always a needle
scan-by_bytes : (needles : Needles) {s : Search} {places : ℕ} {c : Candidate} → IsScan (needle_list needles) s places c
    → IsScanned (needle_list needles) s places c
scan-by_bytes (One a) scan = scan
scan-by_bytes (Two a b) scan = scan
scan-by_bytes (Three a b d) scan = scan

module _ (m : Dictionary) (needles : Needles) (haystack : List ℕ) (span : Span) (ordered : span.start ≤ span.end)
    (inside : span.end ≤ length haystack) (before after : Steps) where
  -- the search that the scan runs ahead of
  abbrev s : Search
  s = search_of m No haystack span

  -- a place of the haystack that holds a needle
  abbrev IsHit : ℕ → Type 0
  IsHit at = Passes (is_needle needles) haystack at

  -- each occurrence holds a needle
  abbrev pub AllHold : Type 0
  AllHold = (o : Occurrence) → Occurs s o → (k : ℕ) × (o.start ≤ k) × (k < o.end) × IsHit k

  -- the needles are bytes of patterns, up to the pairing
  abbrev pub AreKnown : Type 0
  AreKnown = (byte : ℕ) → IsTrue (is_needle needles byte) → StandsInSome m.pairing m.patterns byte

  -- where a needle stands, the span has a byte of some pattern
  hit-byte : AreKnown → (at : ℕ) → span.start ≤ at → at < span.end → IsHit at → ¬ HasNoByte s
  hit-byte known at low high hit no_byte =
      let k = known (slice_index haystack at) hit in
      no_byte k.0 k.1 at k.2 k.3 low high k.4

  -- where the span has no needle, nothing occurs
  nothing_occurs : AllHold → Nowhere IsHit span.start span.end → (o : Occurrence) → ¬ Occurs s o
  nothing_occurs hold nowhere o h =
      let k = hold o h in
      let w = h.within in
      nowhere k.0 (omega arith) (omega arith) k.3

  -- the result of a scan that finds nothing
  pub scanned_none : AllHold → IsFirst (Passes (is_needle needles) haystack) span.start span.end None
      → Done 0 (covered span None) 0 before after → IsNeedleScan m needles haystack span before after candidates.None
  scanned_none hold nowhere done =
      record {
        answer = record { candidate = nothing_occurs hold nowhere; none = λ _. refl };
        counted = (
          span.end - span.start,
          done,
          scan-by_bytes needles (record {
            found = None;
            first = λ at low high listed. nowhere at low high (listed-needle needles listed);
            exact = refl;
            near = refl;
            before_ends = λ o h. absurd (nothing_occurs hold nowhere o h);
          }),
        );
      }

  -- the result of a scan that finds a needle: the candidate is at most 254 bytes before it
  pub scanned_some : AllHold → AreKnown → {at start : ℕ}
      → IsFirst (Passes (is_needle needles) haystack) span.start span.end (Some at)
      → Done 0 (covered span (Some at)) 0 before after
      → span.start ≤ start → start ≤ at → at ≤ start + 254 → ((o : Occurrence) → Occurs s o → start ≤ o.start)
      → IsNeedleScan m needles haystack span before after (candidates.PossibleStartOfMatch start)
  scanned_some hold known {at} {start} first done low high near no_earlier =
      let b = first.0 in
      record {
        answer =
            record {
              candidate = (low, omega arith, no_earlier);
              none = λ no_byte. absurd (hit-byte known at b.low b.high first.1 no_byte);
            };
        counted = (
          at + 1 - span.start,
          done,
          scan-by_bytes needles (record {
            found = Some at;
            first = (
              b.low,
              b.high,
              needle-listed needles first.1,
              λ place below above listed. b.before place below above (listed-needle needles listed),
            );
            exact = refl;
            near = (start, refl, high, near);
            before_ends = λ o h.
                let k = hold o h in
                let w = h.within in
                elim (cases_lt k.0 at) [
                  | inl earlier ↦ absurd (b.before k.0 (omega arith) earlier k.3)
                  | inr later ↦ omega arith
                ];
          }),
        );
      }
