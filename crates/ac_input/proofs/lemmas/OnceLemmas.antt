-- The list of a text has only numbers of patterns, each once.
use Rattle.std.proofs.Common.{◌≡◌, ℕ, ◌<◌, ◌≤◌, List, [], ◌∷◌, ◌++◌, length, drop, sym, subst, ⊎_elim, arith, length-drop}
use Rattle.std.specs.List.{Contains, range_with_len}
use Rattle.std.proofs.lemmas.List.Elements.{Contains-append_cases}
use Rattle.std.proofs.lemmas.List.FromFn.{length-range_with_len, get_or-range_with_len}
use Rattle.std.proofs.lemmas.Option.{slice_get_within, same_Some}
use Rattle.ac_input.specs.Dictionary.{Dictionary, IsPattern}
use Rattle.ac_input.specs.Failure.{AreRising, IsOwn, IsList, OwnAlone, OwnThen, AreOnce}
use Rattle.ac_input.specs.Pairing.{IsDistinct}
use Rattle.ac_input.proofs.lemmas.ContainsLemmas.{Contains-head, Contains-tail}
use Rattle.ac_input.proofs.lemmas.DistinctLemmas.{distinct-shorter}
use Rattle.ac_input.proofs.lemmas.FailureLemmas.{failure-shorter}
use Rattle.ac_input.proofs.lemmas.OrderLemmas.{same_text-length}

-- ---- lists in which nothing stands twice

-- in a rising list no element stands twice
pub rising-distinct : (ns : List ℕ) → AreRising ns → IsDistinct ns
rising-distinct [] r = tt
rising-distinct (n ∷ ns) r = ((λ c. omega (arith, r.0 n c)), rising-distinct ns r.1)

-- two lists without repeats that have nothing in common, one after the other, have no repeats
pub distinct-append : {X : Type 0} (xs ys : List X) → IsDistinct xs → IsDistinct ys
    → ((x : X) → Contains xs x → ¬ Contains ys x) → IsDistinct (xs ++ ys)
distinct-append [] ys d e apart = e
distinct-append (x ∷ xs) ys d e apart = (
  λ c. ⊎_elim (λ first. d.0 first) (λ second. apart x (Contains-head xs) second) (Contains-append_cases xs ys x c),
  distinct-append xs ys d.1 e (λ y c. apart y (Contains-tail xs c)),
)

-- a number below n is among the first n numbers
among : (n x : ℕ) → x < n → Contains (range_with_len 0 n) x
among n x lt = (x, omega (arith, length-range_with_len 0 n), omega (arith, get_or-range_with_len 0 n x x lt))

-- there are at most n different numbers below n
pub distinct-few : {n : ℕ} (xs : List ℕ) → IsDistinct xs → ((x : ℕ) → Contains xs x → x < n) → length xs ≤ n
distinct-few {n} xs d below =
    omega (arith, length-range_with_len 0 n, distinct-shorter xs (range_with_len 0 n) d (λ x c. among n x (below x c)))

-- ---- lists of texts

-- an own pattern of a text is as long as the text
own-long : (m : Dictionary) {text : List ℕ} {n : ℕ} → IsOwn m text n
    → (p : List ℕ) × IsPattern m n p × (length p ≡ length text)
own-long m {text} own = (own.0, own.1.0, same_text-length m.pairing own.0 text own.2)

-- each number in the list of a text is that of a pattern no longer than the text
list-short : {m : Dictionary} {text ns : List ℕ} → IsList m text ns → {n : ℕ} → Contains ns n
    → (p : List ℕ) × IsPattern m n p × (length p ≤ length text)
list-short {m} (OwnAlone _ _ are none) {n} c = let p = own-long m ((are.1 n).0 c) in (p.0, p.1, omega (arith, p.2))
list-short {m} {text} (OwnThen _ own rest from are failure list) {n} c =
    let inner = list-short list in
    ⊎_elim
    (λ (first : Contains own n). let p = own-long m ((are.1 n).0 first) in (p.0, p.1, omega (arith, p.2)))
    (λ (second : Contains rest n). let p = inner second in (p.0, p.1, omega (arith, p.2, length-drop from text)))
    (Contains-append_cases own rest n c)

-- no pattern stands twice in the list of a text
list-distinct : {m : Dictionary} {text ns : List ℕ} → IsList m text ns → IsDistinct ns
list-distinct {ns} (OwnAlone _ _ are none) = rising-distinct ns are.0
list-distinct {m} {text} (OwnThen _ own rest from are failure list) =
    let later = list-distinct list in
    let shorter = failure-shorter failure in
    distinct-append own rest (rising-distinct own are.0) later
    (λ n first second.
    let p = own-long m ((are.1 n).0 first) in
    let q = list-short list second in
    let one : p.0 ≡ q.0 = same_Some p.0 q.0 (let a = p.1 in let b = q.1 in cc) in
    let same = subst (λ r. length r ≤ length (drop from text)) (sym one) q.2 in
    omega (arith, p.2, same, shorter))

-- the list of a text has only numbers of patterns, each once, and so no more than there are patterns
pub list-once : (m : Dictionary) (text ns : List ℕ) → IsList m text ns → AreOnce m ns
list-once m text ns list =
    let known : (n : ℕ) → Contains ns n → n < length m.patterns = λ n c. let p = list-short list c in
    slice_get_within m.patterns n p.0 p.1 in
    let once = list-distinct list in
    record { known = known; once = once; few = distinct-few ns once known }
