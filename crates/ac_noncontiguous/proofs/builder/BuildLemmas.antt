-- The patterns of a dictionary, entered one after another.
use Rattle.std.proofs.Common.{◌≡◌, ℕ, ◌+◌, ◌<◌, List, [], ◌∷◌, ◌++◌, length, get_or, take, Some, refl, sym, ap, subst, ◌∙◌, arith, slice_get}
use Rattle.std.proofs.lemmas.List.{take_more, length-take-le}
use Rattle.std.proofs.lemmas.Option.{slice_get_within, get_or_from_slice_get, slice_get-map, slice_get-get_or}
use Rattle.std.specs.Borrow.{Bor}
use Rattle.std.specs.Option.{option_map}
use Rattle.ac_input.specs.declared.search.MatchKind.{MatchKind}
use Rattle.ac_input.specs.Dictionary.{Dictionary, dictionary_of, IsPattern}
use Rattle.ac_input.specs.Limits.{first_patterns, with_pattern, IsWithinLimits, IsLimitAt, PatternLength}
use Rattle.ac_literal.specs.Packed.{bytes_of}
use Rattle.ac_noncontiguous.specs.declared.error.BuildErrorKind.{BuildErrorKind}
use Rattle.ac_noncontiguous.specs.declared.error.BuildErrorKind.TheVariants.{StateIDOverflow, PatternIDOverflow, PatternTooLong, Memory}
use Rattle.ac_noncontiguous.specs.Standing.{IsPatternRefused, IsBuildRefused}

-- the dictionary of no patterns, of one more, and of all
pub first-none : (m : Dictionary) → first_patterns m 0 ≡ (record { patterns = []; pairing = m.pairing; kind = m.kind })
first-none m = refl

pub first-more : (m : Dictionary) (n : ℕ) (p : List ℕ) → IsPattern m n p
    → first_patterns m (n + 1) ≡ with_pattern (first_patterns m n) p
first-more m n p is =
    let within : n < length m.patterns = slice_get_within m.patterns n p is in
    let e : take (n + 1) m.patterns ≡ take n m.patterns ++ p ∷ [] = take_more m.patterns n p within
    ∙ ap (λ q. take n m.patterns ++ q ∷ []) (read m.patterns n p is) in
    let f : List (List ℕ) → Dictionary = λ ps. record m { patterns = ps } in
    ap f e
  where
    read : (xs : List (List ℕ)) (k : ℕ) (x : List ℕ) → slice_get xs k ≡ Some x → get_or xs k x ≡ x
    read xs k x e = get_or_from_slice_get xs k x x e

-- the first pattern that is refused is the cause of a build's error
pub refused-at : (m : Dictionary) (n : ℕ) (p : List ℕ) (kind : BuildErrorKind) → IsPattern m n p
    → IsWithinLimits (first_patterns m n) → IsPatternRefused (first_patterns m n) p kind → IsBuildRefused m kind
refused-at m n p (StateIDOverflow max requested) is before r =
    (r.0, r.1, (n, record { before = before; passed = (p, is, r.2) }))
refused-at m n p (PatternIDOverflow max requested) is before r =
    (r.0, r.1, (n, record { before = before; passed = (p, is, r.2) }))
refused-at m n p (PatternTooLong number len) is before r =
    let here : n ≡ number =
    sym (r.0 ∙ length-take-le n m.patterns (omega (arith, slice_get_within m.patterns n p is))) in
    subst (λ k. IsLimitAt m k PatternLength × ((q : List ℕ) → IsPattern m k q → len ≡ length q)) here
    (record { before = before; passed = (p, is, r.2) }, (λ q is_q. let same : p ≡ q = cc in r.1 ∙ ap length same))
refused-at m n p Memory is before r = tt

-- a given pattern is the one of its number in the dictionary
pub pattern-at : (patterns : List (Bor (List ℕ))) (pairing : List ℕ) (kind : MatchKind) {i : ℕ} (d : Bor (List ℕ))
    → i < length patterns → IsPattern (dictionary_of (bytes_of patterns) pairing kind) i (get_or patterns i d).now
pattern-at patterns pairing kind {i} d within =
    let f : Bor (List ℕ) → List ℕ = λ p. p.now in
    slice_get-map f patterns i ∙ ap (λ o. option_map f o) (slice_get-get_or patterns i d within)
