-- The search for the only pattern.
use Rattle.std.proofs.Common.{◌≡◌, ℕ, zero, suc, ◌+◌, ◌-◌, ◌<◌, ◌≤◌, List, [], ◌∷◌, length, slice_range, Option, None, Some, refl, sym, subst, arith}
use Rattle.std.specs.List.{Contains}
use Rattle.memchr.specs.Find.{FindsNeedle}
use Rattle.ac_input.specs.declared.search.MatchKind.{MatchKind}
use Rattle.ac_input.specs.declared.search.MatchKind.TheVariants.{Standard}
use Rattle.ac_input.specs.declared.search.Span.{Span}
use Rattle.ac_input.specs.Occurrence.{Occurrence, Occurs}
use Rattle.ac_input.specs.Best.{IsBest}
use Rattle.ac_input.specs.Dictionary.{Dictionary}
use Rattle.ac_input.proofs.lemmas.SameLemmas.{unpaired-none}
use Rattle.ac_literal.specs.Packed.{part_search}
use Rattle.std.specs.Prelude.{get_or}
use Rattle.ac_literal.specs.Packed.RabinKarp.{NoneBefore, IsFoundBefore}
use Rattle.ac_literal.specs.Prefilter.Strategies.{IsMemmem}
use Rattle.ac_literal.proofs.prefilter.MemmemLemmas.{first_best, stands}

-- a list of one pattern is that pattern
pub only-one : (patterns : List (List ℕ)) → length patterns ≡ 1 → patterns ≡ get_or patterns 0 [] ∷ []
only-one [] one = absurd (omega arith)
only-one (p ∷ []) one = refl
only-one (p ∷ q ∷ more) one = absurd (omega arith)

-- a dictionary of one pattern
abbrev pub alone : List ℕ → Dictionary
alone needle = record { patterns = needle ∷ []; pairing = []; kind = Standard }

-- what stands in a list of one is that one
in-one : {needle p : List ℕ} → Contains (needle ∷ []) p → p ≡ needle
in-one (zero, within, is) = sym is
in-one (suc k, within, is) = absurd (omega arith)

-- a needle that isn't empty is right for the search for one pattern
is-memmem : {needle : List ℕ} → 0 < length needle → IsMemmem (alone needle) needle
is-memmem full = record {
  full = record { some = omega arith; full = λ p h. subst (λ q. 0 < length q) (sym (in-one h)) full };
  unpaired = unpaired-none;
  patterns = refl;
}

module _ {needle haystack part : List ℕ} {span : Span} (ordered : span.start ≤ span.end)
    (inside : span.end ≤ length haystack) (is : part ≡ slice_range haystack span.start span.end)
    (full : 0 < length needle) where
  -- the first occurrence of the needle is the best of every kind
  pub needle-best : {offset : ℕ} {o : Occurrence} → FindsNeedle part needle 0 (Some offset)
      → record { pattern = 0; start = span.start + offset; end = span.start + offset + length needle } ≡ o
      → (kind : MatchKind) → IsBest kind (part_search (needle ∷ []) haystack span.start span.end) (Some o)
  needle-best first there kind =
      subst (λ q. IsBest kind (part_search (needle ∷ []) haystack span.start span.end) (Some q)) there
      (first_best (alone needle) needle haystack span part ordered inside is (is-memmem full) first kind)

  -- where the needle doesn't occur, nothing does
  pub needle-none : FindsNeedle part needle 0 None → (kind : MatchKind)
      → IsBest kind (part_search (needle ∷ []) haystack span.start span.end) None
  needle-none nowhere kind o h =
      let st = stands (alone needle) needle haystack span part ordered inside is (is-memmem full) o h in
      let fits = st.2.fits in
      nowhere (o.start - span.start) (omega arith) (omega arith) st.2

module _ (patterns : List (List ℕ)) (haystack : List ℕ) (start at end : ℕ)
    (none : NoneBefore (part_search patterns haystack start end) at) (after : start ≤ at) where
  -- where nothing starts before a place, every occurrence is one from that place on
  later : (o : Occurrence) → Occurs (part_search patterns haystack start end) o
      → Occurs (part_search patterns haystack at end) o
  later o h = record { within = (none o h, h.within.1, h.within.2); same = h.same; anchor = λ anchored. cc }

  -- an occurrence from a later place on is one of the whole search
  sooner : (o : Occurrence) → Occurs (part_search patterns haystack at end) o
      → Occurs (part_search patterns haystack start end) o
  sooner o h = let w = h.within in
      record { within = (omega arith, h.within.1, h.within.2); same = h.same; anchor = λ anchored. cc }

  -- the best from that place on is the result of the whole search
  pub found-from : (kind : MatchKind) (to : ℕ) (r : Option Occurrence)
      → IsBest kind (part_search patterns haystack at end) r
      → IsFoundBefore kind (part_search patterns haystack start end) to r
  found-from kind to None best = λ o h. absurd (best o (later o h))
  found-from kind to (Some b) best = (sooner b best.0, λ o h. best.1 o (later o h))
