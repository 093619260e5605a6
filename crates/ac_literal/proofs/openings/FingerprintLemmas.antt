-- The fingerprint of some bytes, by their canonical bytes; and the bits of a set of fingerprints.
use Rattle.std.proofs.Common.{◌≡◌, ℕ, ◌-◌, ◌/◌, ◌%◌, ◌<◌, ◌≤◌, List, length, map, get_or, ap, ap₂, sym, ◌∙◌, IsTrue, arith}
use Rattle.std.specs.Int.{bit_at}
use Rattle.std.proofs.lemmas.List.{get_or-map, length-map}
use Rattle.ac_input.specs.Laws.LiveLaws.{canonical}
use Rattle.ac_input.specs.Same.{same_text}
use Rattle.ac_input.proofs.lemmas.SameLemmas.{canonical-same_text}
use Rattle.ac_literal.specs.Openings.Fingerprints.{print, print_of}
use Rattle.std.specs.Prelude.{◌+◌, ◌*◌}
use Rattle.ac_literal.proofs.packed.BucketLemmas.{with_bucket, own-there, kept-there}

-- the fingerprint of two bytes or more is that of their canonical bytes at four places
pub print-canonical : (pairing bytes : List ℕ) → 2 ≤ length bytes
    → ((((canonical pairing (get_or bytes 0 0)) * 31 + (canonical pairing (get_or bytes 1 0))) * 961
    + ((canonical pairing (get_or bytes (length bytes - 2) 0)) * 31
    + (canonical pairing (get_or bytes (length bytes - 1) 0)))) % 8192) ≡ print_of pairing bytes
print-canonical pairing bytes two =
    let f = canonical pairing in
    let all = map f bytes in
    let at = λ (k : ℕ) (within : k < length bytes). get_or-map f bytes k 0 0 within in
    let len : length all ≡ length bytes = length-map bytes f in
    ap₂ (λ a b.
    (((a * 31 + b) * 961 + ((f (get_or bytes (length bytes - 2) 0)) * 31 + (f (get_or bytes (length bytes - 1) 0))))
    % 8192)) (sym (at 0 (omega (arith, two)))) (sym (at 1 (omega (arith, two))))
    ∙ ap₂ (λ c d. ((((get_or all 0 0) * 31 + (get_or all 1 0)) * 961 + (c * 31 + d)) % 8192))
    (sym (at (length bytes - 2) (omega (arith, two)))) (sym (at (length bytes - 1) (omega (arith, two))))
    ∙ ap (λ n.
    ((((get_or all 0 0) * 31 + (get_or all 1 0)) * 961 + ((get_or all (n - 2) 0) * 31 + (get_or all (n - 1) 0)))
    % 8192)) (sym len)

-- texts that are the same have one fingerprint
pub same-print : (pairing xs ys : List ℕ) → IsTrue (same_text pairing xs ys) → print_of pairing xs ≡ print_of pairing ys
same-print pairing xs ys h = ap print (canonical-same_text pairing xs ys h)

-- ---- a set

-- a set has the fingerprint that was added
pub added-own : (bits : List ℕ) (print : ℕ) → print / 8 < length bits
    → bit_at (get_or (with_bucket bits (print / 8) (print % 8)) (print / 8) 0) (print % 8) ≡ 1
added-own bits print within = own-there bits within (omega arith)

-- a set keeps the fingerprints that it had
pub added-kept : (bits : List ℕ) (print other : ℕ) → print / 8 < length bits
    → bit_at (get_or bits (other / 8) 0) (other % 8) ≡ 1
    → bit_at (get_or (with_bucket bits (print / 8) (print % 8)) (other / 8) 0) (other % 8) ≡ 1
added-kept bits print other within had = kept-there bits (print % 8) (other / 8) (other % 8) within had
