-- Packed search, where nothing is paired, finds the best of its kind.
use Rattle.std.proofs.Common.{◌≡◌, ◌≢◌, ℕ, ◌≤◌, ◌&&◌, List, [], ◌∷◌, length, Option, None, Some, refl, sym, ap₂, ◌∙◌, subst, ◌↔◌, arith}
use Rattle.std.proofs.lemmas.Bool.Decides.{nat_tests}
use Rattle.ac_input.specs.declared.search.MatchKind.{MatchKind}
use Rattle.ac_input.specs.declared.search.MatchKind.TheVariants.{Standard}
use Rattle.ac_input.specs.declared.search.Span.{Span}
use Rattle.ac_input.specs.declared.search.candidate.Candidate.TheVariants as candidates
use Rattle.ac_input.specs.Same.{same, same_text, IsUnpaired}
use Rattle.ac_input.specs.Occurrence.{Occurrence, Occurs}
use Rattle.ac_input.specs.Best.{IsBest}
use Rattle.ac_input.specs.Dictionary.{Dictionary}
use Rattle.ac_input.specs.declared.search.Anchored.TheVariants.{No}
use Rattle.ac_input.specs.Input.{search_of}
use Rattle.ac_input.proofs.lemmas.BestLemmas.{IsLeast-like}
use Rattle.ac_literal.specs.declared.packed.api.MatchKind.{MatchKind as PackedKind}
use Rattle.ac_literal.specs.declared.packed.api.MatchKind.TheVariants.{LeftmostFirst, LeftmostLongest}
use Rattle.ac_literal.specs.Packed.{Packed, search_kind, part_search}
use Rattle.ac_literal.specs.Prefilter.Strategies.{IsPacked, IsAnswer}
use Rattle.ac_literal.proofs.prefilter.CandidateLemmas.{no_byte-no_occurrence}

-- a pairing of no pairs makes no different bytes the same
same-alone : (pairing : List ℕ) → IsUnpaired pairing → (a b : ℕ) → same [] a b ≡ same pairing a b
same-alone pairing unpaired a b = let own = unpaired a in grind (arith, nat_tests)

-- a pairing of no pairs makes no different texts the same
same_text-alone : (pairing : List ℕ) → IsUnpaired pairing → (xs ys : List ℕ)
    → same_text [] xs ys ≡ same_text pairing xs ys
same_text-alone pairing unpaired [] [] = refl
same_text-alone pairing unpaired [] (y ∷ ys) = refl
same_text-alone pairing unpaired (x ∷ xs) [] = refl
same_text-alone pairing unpaired (x ∷ xs) (y ∷ ys) =
    ap₂ ◌&&◌ (same-alone pairing unpaired x y) (same_text-alone pairing unpaired xs ys)

-- a leftmost kind is not the standard one
pub leftmost : (kind : PackedKind) → search_kind kind ≢ Standard
leftmost LeftmostFirst = λ e. cc
leftmost LeftmostLongest = λ e. cc

module _ (m : Dictionary) (haystack : List ℕ) (span : Span) (unpaired : IsUnpaired m.pairing) where
  -- an occurrence byte for byte is an occurrence under the pairing, and conversely
  occurs_too : (o : Occurrence)
      → Occurs (part_search m.patterns haystack span.start span.end) o ↔ Occurs (search_of m No haystack span) o
  occurs_too o = (
    λ h. record {
      within = h.within;
      same = (h.same.0, h.same.1, sym (same_text-alone m.pairing unpaired h.same.0 _) ∙ h.same.2);
      anchor = h.anchor;
    },
    λ h. record {
      within = h.within;
      same = (h.same.0, h.same.1, same_text-alone m.pairing unpaired h.same.0 _ ∙ h.same.2);
      anchor = h.anchor;
    },
  )

  -- the best byte for byte is the best under the pairing
  best_too : (kind : MatchKind) (r : Option Occurrence)
      → IsBest kind (part_search m.patterns haystack span.start span.end) r
      → IsBest kind (search_of m No haystack span) r
  best_too kind r h = IsLeast-like kind occurs_too r h

module _ {m : Dictionary} {searcher : Packed} (haystack : List ℕ) (span : Span) (inside : span.end ≤ length haystack)
    (packed : IsPacked m searcher) where
  -- the searcher's best is the dictionary's best
  best_of_dictionary : (r : Option Occurrence)
      → IsBest (search_kind searcher.kind) (part_search searcher.patterns haystack span.start span.end) r
      → IsBest m.kind (search_of m No haystack span) r
  best_of_dictionary r h =
      let of_kind : IsBest m.kind (part_search searcher.patterns haystack span.start span.end) r =
      subst (λ kind. IsBest kind (part_search searcher.patterns haystack span.start span.end) r) packed.kind h in
      best_too m haystack span packed.unpaired m.kind r
      (subst (λ ps. IsBest m.kind (part_search ps haystack span.start span.end) r) packed.patterns of_kind)

  -- the result, where there is a match
  pub packed_found : {o : Occurrence}
      → IsBest (search_kind searcher.kind) (part_search searcher.patterns haystack span.start span.end) (Some o)
      → IsAnswer m haystack span (candidates.Match o)
  packed_found {o} h =
      let best = best_of_dictionary (Some o) h in
      record {
        candidate = (
          λ other. best,
          λ standard. absurd (leftmost searcher.kind (packed.kind ∙ standard)),
          λ single. absurd (packed.several single),
        );
        none = λ no_byte. absurd (no_byte-no_occurrence inside packed.full no_byte best.0);
      }

  -- the result, where there is no match
  pub packed_none : IsBest (search_kind searcher.kind) (part_search searcher.patterns haystack span.start span.end) None
      → IsAnswer m haystack span candidates.None
  packed_none h = record { candidate = best_of_dictionary None h; none = λ _. refl }
