-- The search for one pattern, where nothing is paired: its first occurrence is the best of every kind.
use Rattle.std.proofs.Common.{◌≡◌, ◌≢◌, ℕ, zero, suc, ◌+◌, ◌-◌, ◌<◌, ◌≤◌, List, [], ◌∷◌, length, IsTrue, slice_get, slice_range, None, Some, Less, Greater, refl, sym, ap, ◌∙◌, subst, inl, inr, arith}
use Rattle.std.specs.Prelude.{slice_index}
use Rattle.std.specs.Cmp.{nat_cmp_is}
use Rattle.std.proofs.lemmas.Bool.{cases_lt}
use Rattle.std.proofs.lemmas.List.{ext_get_or}
use Rattle.std.proofs.lemmas.Option.{slice_get_within, same_Some}
use Rattle.memchr.specs.Find.{OccursAt, FindsNeedle}
use Rattle.ac_input.specs.declared.search.MatchKind.{MatchKind}
use Rattle.ac_input.specs.declared.search.MatchKind.TheVariants.{Standard, LeftmostFirst, LeftmostLongest}
use Rattle.ac_input.specs.declared.search.Span.{Span}
use Rattle.ac_input.specs.declared.search.candidate.Candidate.TheVariants as candidates
use Rattle.ac_input.specs.Same.{same_text}
use Rattle.ac_input.specs.Occurrence.{Search, Occurrence, Occurs}
use Rattle.ac_input.specs.Best.{preference, IsBest}
use Rattle.ac_input.specs.Dictionary.{Dictionary}
use Rattle.ac_input.specs.declared.search.Anchored.TheVariants.{No}
use Rattle.ac_input.specs.Input.{search_of}
use Rattle.ac_input.proofs.lemmas.OrderLemmas.{preference-itself, less-not_greater, occurrence_from_parts, slice_range-length}
use Rattle.ac_input.proofs.lemmas.RisingLemmas.{less_by_end}
use Rattle.ac_input.proofs.lemmas.SameLemmas.{same-unpaired, same_text-itself}
use Rattle.ac_literal.specs.Prefilter.Strategies.{IsMemmem, IsAnswer}
use Rattle.ac_literal.proofs.prefilter.SpanLemmas.{index-part}
use Rattle.ac_literal.proofs.prefilter.CandidateLemmas.{lies, no_byte-no_occurrence}

-- of two occurrences of one pattern, no kind prefers the later one
prefers_earlier : (kind : MatchKind) (a o : Occurrence) → a.start < o.start → a.end < o.end
    → preference kind a o ≢ Greater
prefers_earlier Standard a o starts ends = less-not_greater (less_by_end a o ends)
prefers_earlier LeftmostFirst a o starts ends = let e = nat_cmp_is a.start o.start Less starts in
    less-not_greater (rw (← e))
prefers_earlier LeftmostLongest a o starts ends = let e = nat_cmp_is a.start o.start Less starts in
    less-not_greater (rw (← e))

-- the match that is made of a needle's place
pub made-there : {number start : ℕ} {text needle : List ℕ} {o : Occurrence}
    → o ≡ record { pattern = number; start = start; end = start + length text } → number ≡ 0 → text ≡ needle
    → record { pattern = 0; start = start; end = start + length needle } ≡ o
made-there is first same = cc

module _ (m : Dictionary) (needle : List ℕ) (haystack : List ℕ) (span : Span) (part : List ℕ)
    (ordered : span.start ≤ span.end) (inside : span.end ≤ length haystack)
    (is : part ≡ slice_range haystack span.start span.end) (memmem : IsMemmem m needle) where
  -- the search of the span
  abbrev s : Search
  s = search_of m No haystack span

  -- how long the part is
  part_len : length part ≡ span.end - span.start
  part_len = ap length is ∙ slice_range-length haystack span.start ordered inside

  -- a byte of the part is a byte of the haystack
  part_index : (k : ℕ) → span.start + k < span.end → slice_index part k ≡ slice_index haystack (span.start + k)
  part_index k within = ap (λ xs. slice_index xs k) is ∙ index-part haystack span.start k inside within

  -- the needle at a place of the part, as an occurrence
  abbrev there : ℕ → Occurrence
  there offset = record { pattern = 0; start = span.start + offset; end = span.start + offset + length needle }

  -- the only pattern has the number 0
  only_number : {n : ℕ} {p : List ℕ} → slice_get m.patterns n ≡ Some p → (n ≡ 0) × (p ≡ needle)
  only_number {n} {p} e = by n (subst (λ ps. slice_get ps n ≡ Some p) memmem.patterns e)
    where
      by : (i : ℕ) → slice_get (needle ∷ []) i ≡ Some p → (i ≡ 0) × (p ≡ needle)
      by zero f = (refl, sym (same_Some needle p f))
      by (suc i) f = absurd (let w = slice_get_within (needle ∷ []) (suc i) p f in omega arith)

  -- each occurrence is a place of the part at which the needle stands
  pub stands : (o : Occurrence) → Occurs s o
      → (o.pattern ≡ 0) × (o.end ≡ o.start + length needle) × OccursAt part needle (o.start - span.start)
  stands o h =
      let l = lies inside h in
      let w = h.within in
      let n = only_number l.is in
      let len : length l.pattern ≡ length needle = ap length n.1 in
      let end = l.end in
      let size = part_len in (
        n.0,
        omega arith,
        record {
          fits = omega arith;
          reads = λ j within.
              let here = part_index (o.start - span.start + j) (omega arith) in
              let place : span.start + (o.start - span.start + j) ≡ o.start + j = omega arith in
              here ∙ ap (slice_index haystack) place
              ∙ sym (same-unpaired m.pairing memmem.unpaired _ _ (l.same_at j (omega arith)))
              ∙ ap (λ xs. slice_index xs j) n.1;
        },
      )

  -- where the needle stands in the part, there is an occurrence
  occurs_there : (offset : ℕ) → OccursAt part needle offset → Occurs s (there offset)
  occurs_there offset at =
      let size = part_len in
      let fits = at.fits in
      let reads = at.reads in
      let first : slice_get m.patterns 0 ≡ Some needle =
      subst (λ ps. slice_get ps 0 ≡ Some needle) (sym memmem.patterns) refl in
      let start : ℕ = span.start + offset in
      let text : List ℕ = slice_range haystack start (start + length needle) in
      let long : length text ≡ length needle = slice_range-length haystack start (omega arith) (omega arith)
      ∙ (let z : start + length needle - start ≡ length needle = omega arith in z) in
      let equal : needle ≡ text = ext_get_or 0 needle text (sym long) (λ i within.
      let place : start + i ≡ span.start + (offset + i) = omega arith in
      sym (index-part haystack start i (omega arith) (omega arith) ∙ ap (slice_index haystack) place
      ∙ sym (part_index (offset + i) (omega arith)) ∙ reads i within)) in
      record {
        within = (omega arith, omega arith, omega arith);
        same = (
          needle,
          first,
          subst (λ xs. IsTrue (same_text m.pairing needle xs)) equal (same_text-itself m.pairing needle),
        );
        anchor = λ anchored. cc;
      }

  -- the first place of the needle in the part is the best of every kind
  pub first_best : {offset : ℕ} → FindsNeedle part needle 0 (Some offset) → (kind : MatchKind)
      → IsBest kind s (Some (there offset))
  first_best {offset} first kind = (
    occurs_there offset first.1,
    λ o h.
        let w = h.within in
        let st = stands o h in
        let end = st.1 in
        let fits = st.2.fits in
        elim (cases_lt (o.start - span.start) offset) [
          | inl earlier ↦ absurd (first.0.before (o.start - span.start) (omega arith) earlier st.2)
          | inr later ↦
              elim (cases_lt (span.start + offset) o.start) [
                | inl after ↦ prefers_earlier kind _ o after (omega arith)
                | inr here ↦
                    let it : there offset ≡ o = occurrence_from_parts (sym st.0) (omega arith) (omega arith) in
                    subst (λ q. preference kind (there offset) q ≢ Greater) it (preference-itself kind _)
              ]
        ],
  )

  -- there is one pattern
  one : length m.patterns ≡ 1
  one = ap length memmem.patterns

  -- the result, where the needle stands in the part
  pub memmem_found : {offset : ℕ} {o : Occurrence} → FindsNeedle part needle 0 (Some offset) → there offset ≡ o
      → IsAnswer m haystack span (candidates.Match o)
  memmem_found {o} first is_there =
      let best : (kind : MatchKind)
      → IsBest kind s (Some o) = λ kind. subst (λ q. IsBest kind s (Some q)) is_there (first_best first kind) in
      record {
        candidate = (λ leftmost. best m.kind, λ standard. one, λ single. best);
        none = λ no_byte. absurd (no_byte-no_occurrence inside memmem.full no_byte (best m.kind).0);
      }

  -- the result, where the needle doesn't stand in the part
  pub memmem_none : FindsNeedle part needle 0 None → IsAnswer m haystack span candidates.None
  memmem_none nowhere = record {
    candidate = λ o h. let st = stands o h in let size = part_len in let fits = st.2.fits in
        nowhere (o.start - span.start) (omega arith) (omega arith) st.2;
    none = λ _. refl;
  }
