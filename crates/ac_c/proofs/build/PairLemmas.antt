-- More than 128 pairs name a byte twice, so the first 129 tell whether pairs do.
use Rattle.std.proofs.Common.{◌≡◌, ℕ, ◌+◌, ◌*◌, ◌<◌, ◌≤◌, min, List, [], ◌∷◌, ◌++◌, length, take, drop, get_or, set, Result, Err, refl, sym, ap, subst, ◌∙◌, ⊎_elim, append_assoc, arith}
use Rattle.std.specs.List.{Contains}
use Rattle.std.proofs.lemmas.List.{length-map, length-take, map-append, map_more, take-append-drop, take_all, take_more_set}
use Rattle.std.proofs.lemmas.List.Elements.{Contains-append_cases}
use Rattle.ac_input.specs.Pairing.{named, IsDistinct, IsFirstTwice}
use Rattle.ac_input.specs.declared.pairing.PairingError.{PairingError}
use Rattle.ac_input.specs.declared.pairing.PairingError.TheVariants.{Twice}
use Rattle.ac_input.proofs.lemmas.ContainsLemmas.{Contains-cases}
use Rattle.ac_input.proofs.lemmas.OnceLemmas.{distinct-few}
use Rattle.ac_input.proofs.pairing.PairingLemmas.{named-append}
use Rattle.ac_c.specs.declared.build.Pair.{Pair}
use Rattle.ac_c.specs.Build.{pairs_of}

-- the numbers in a list are bytes
abbrev pub AreBytes : List ℕ → Type 0
AreBytes ns = (b : ℕ) → Contains ns b → b < 256

-- each pair names two bytes
named-length : (ps : List (ℕ × ℕ)) → length (named ps) ≡ 2 * length ps
named-length [] = refl
named-length (p ∷ ps) = let rest = named-length ps in omega arith

-- pairs that name no byte twice are at most 128
few : (ps : List (ℕ × ℕ)) → AreBytes (named ps) → IsDistinct (named ps) → length ps ≤ 128
few ps bytes d = omega (arith, named-length ps, distinct-few (named ps) d bytes)

-- pairs are their first ones, and then the others
split : (ps : List Pair) (count : ℕ) → pairs_of ps ≡ pairs_of (take count ps) ++ pairs_of (drop count ps)
split ps count =
    ap pairs_of (sym (take-append-drop count ps)) ∙ map-append (λ p. (p.a, p.b)) (take count ps) (drop count ps)

-- a byte that is named twice in the front of a list is the first one in the list
twice-more : (xs ys : List ℕ) (b : ℕ) → IsFirstTwice xs b → IsFirstTwice (xs ++ ys) b
twice-more xs ys b (front, more, is, d, has) =
    (front, more ++ ys, ap (λ zs. zs ++ ys) is ∙ append_assoc front (b ∷ more) ys, d, has)

-- the bytes that pairs name, with one more pair
bytes-more : (ps : List (ℕ × ℕ)) (p : ℕ × ℕ) → AreBytes (named ps) → p.0 < 256 → p.1 < 256
    → AreBytes (named (ps ++ p ∷ []))
bytes-more ps p bytes a b = λ x has.
    ⊎_elim (bytes x)
    (λ last. ⊎_elim (λ (e : p.0 ≡ x). subst (λ n. n < 256) e a)
    (λ rest. ⊎_elim (λ (e : p.1 ≡ x). subst (λ n. n < 256) e b) (λ none. absurd (omega (arith, none.1)))
    (Contains-cases [] rest)) (Contains-cases (p.1 ∷ []) last))
    (Contains-append_cases (named ps) (p.0 ∷ (p.1 ∷ [])) x
    (subst (λ ns. Contains ns x) (named-append ps (p ∷ [])) has))

-- one more pair is copied
pub copied-more : (pairs : List Pair) (first : List (ℕ × ℕ)) (at : ℕ) (d : Pair) → at < length first → at < length pairs
    → take at first ≡ pairs_of (take at pairs)
    → take (at + 1) (set first at ((get_or pairs at d).a, (get_or pairs at d).b)) ≡ pairs_of (take (at + 1) pairs)
copied-more pairs first at d room lt copied =
    take_more_set first at ((get_or pairs at d).a, (get_or pairs at d).b) room
    ∙ ap (λ ps. ps ++ ((get_or pairs at d).a, (get_or pairs at d).b) ∷ []) copied
    ∙ sym (map_more (λ p. (p.a, p.b)) pairs at d lt)

-- and names bytes
pub bytes-copied : (first : List (ℕ × ℕ)) (at : ℕ) (p : ℕ × ℕ) → at < length first → AreBytes (named (take at first))
    → p.0 < 256 → p.1 < 256 → AreBytes (named (take (at + 1) (set first at p)))
bytes-copied first at p room bytes a b =
    subst (λ ps. AreBytes (named ps)) (sym (take_more_set first at p room))
    (bytes-more (take at first) p bytes a b)

-- where the first pairs name no byte twice, they are all pairs
pub pairs-all : (pairs : List Pair) (some : List (ℕ × ℕ)) (count : ℕ) → count ≡ min (length pairs) 129
    → some ≡ pairs_of (take count pairs) → AreBytes (named some) → IsDistinct (named some)
    → pairs_of pairs ≡ some
pairs-all pairs some count is copied bytes d =
    let most : length some ≤ 128 = few some bytes d in
    let long : length some ≡ length (take count pairs) =
    ap length copied ∙ length-map (take count pairs) (λ (p : Pair). (p.a, p.b)) in
    let all : length pairs ≤ count = omega (arith, length-take count pairs) in
    sym (copied ∙ ap pairs_of (take_all count pairs all))

-- a byte that the first pairs name twice is named twice
pairs-twice : (pairs : List Pair) (some : List (ℕ × ℕ)) (count b : ℕ) → some ≡ pairs_of (take count pairs)
    → IsFirstTwice (named some) b → IsFirstTwice (named (pairs_of pairs)) b
pairs-twice pairs some count b copied twice =
    let front = pairs_of (take count pairs) in let rest = pairs_of (drop count pairs) in
    subst (λ ns. IsFirstTwice ns b) (sym (ap named (split pairs count) ∙ named-append front rest))
    (twice-more (named front) (named rest) b (subst (λ ps. IsFirstTwice (named ps) b) copied twice))

-- a byte that the first pairs name twice, by an error that says so, is named twice
pub twice-told : {P : Type 0} (pairs : List Pair) (some : List (ℕ × ℕ)) (count : ℕ) (r : Result P PairingError)
    → some ≡ pairs_of (take count pairs)
    → ((b : ℕ) → r ≡ Err (Twice b) → IsFirstTwice (named some) b) → (b : ℕ) → r ≡ Err (Twice b)
    → IsFirstTwice (named (pairs_of pairs)) b
twice-told pairs some count r copied told b is = pairs-twice pairs some count b copied (told b is)
