-- Being the same is an equivalence, and canonical bytes decide it.
use Rattle.std.proofs.Common.{◌≡◌, ◌⊎◌, inl, inr, ◌==◌, ◌||◌, ℕ, zero, suc, ◌<◌, ◌≤◌, map, List, [], ◌∷◌, take, IsTrue, refl, sym, subst, ap₂, ◌∙◌, ⊎_elim, arith}
use Rattle.std.proofs.lemmas.Bool.{and_parts, and_from, false≢true, cases_eq, cases_lt}
use Rattle.std.proofs.lemmas.Bool.Decides.{nat_tests}
use Rattle.std.proofs.lemmas.List.{get_or_past}
use Rattle.ac_input.specs.Same.{IsUnpaired, named_for, other, same, same_text}
use Rattle.ac_input.specs.Pairing.{IsPairing}
use Rattle.ac_input.specs.Laws.LiveLaws.{canonical}

-- each byte is the partner of its partner
pub own-inverse : (pairing : List ℕ) (byte : ℕ) → other pairing (other pairing byte) ≡ byte
own-inverse pairing byte = grind (arith, nat_tests)

-- the partner of a byte is the one that the table of a pairing names for it; past the table each number is its own
-- partner
pub other-named : (pairing : List ℕ) → IsPairing pairing → (byte : ℕ) → other pairing byte ≡ named_for pairing byte
other-named pairing p byte =
    ⊎_elim
    (λ (within : byte < 256). let back = p.inverse byte within in grind (arith, nat_tests))
    (λ (past : 256 ≤ byte). let alone : named_for pairing byte ≡ byte =
    get_or_past pairing byte byte (omega (arith, p.len)) in grind (arith, nat_tests))
    (cases_lt byte 256)

-- the partner of a byte is a byte
pub other-small : (pairing : List ℕ) → IsPairing pairing → (byte : ℕ) → byte < 256 → other pairing byte < 256
other-small pairing p byte small = subst (λ b. b < 256) (sym (other-named pairing p byte)) (p.bytes byte small)

same-parts : (a b partner : ℕ) → IsTrue ((a == b) || (partner == b)) → (a ≡ b) ⊎ (partner ≡ b)
same-parts a b partner h = ⊎_elim (λ is. inl is) (λ ne. inr (grind (arith, nat_tests))) (cases_eq a b)

-- bytes that are the same are equal or partners
pub same-cases : (pairing : List ℕ) {a b : ℕ} → IsTrue (same pairing a b) → (a ≡ b) ⊎ (other pairing a ≡ b)
same-cases pairing {a} {b} h = same-parts a b (other pairing a) h

-- a table without entries pairs no bytes
pub unpaired-none : IsUnpaired []
unpaired-none byte = grind (arith, nat_tests)

-- where nothing is paired, bytes that are the same are equal
pub same-unpaired : (pairing : List ℕ) → IsUnpaired pairing → (a b : ℕ) → IsTrue (same pairing a b) → a ≡ b
same-unpaired pairing unpaired a b h = ⊎_elim (λ is. is) (λ partner. sym (unpaired a) ∙ partner) (same-cases pairing h)

-- bytes that are the same have one canonical byte
canonical-same : (pairing : List ℕ) (a b : ℕ) → IsTrue (same pairing a b) → canonical pairing a ≡ canonical pairing b
canonical-same pairing a b h =
    let back = own-inverse pairing a in
    grind (arith, nat_tests)

-- bytes with one canonical byte are the same
same-canonical : (pairing : List ℕ) (a b : ℕ) → canonical pairing a ≡ canonical pairing b → IsTrue (same pairing a b)
same-canonical pairing a b h =
    let back = own-inverse pairing a in
    let forth = own-inverse pairing b in
    grind (arith, nat_tests)

-- texts that are the same have one canonical text
pub canonical-same_text : (pairing xs ys : List ℕ) → IsTrue (same_text pairing xs ys)
    → map (canonical pairing) xs ≡ map (canonical pairing) ys
canonical-same_text pairing [] [] h = refl
canonical-same_text pairing [] (y ∷ ys) h = absurd (false≢true h)
canonical-same_text pairing (x ∷ xs) [] h = absurd (false≢true h)
canonical-same_text pairing (x ∷ xs) (y ∷ ys) h =
    let parts = and_parts (same pairing x y) (same_text pairing xs ys) h in
    ap₂ ◌∷◌ (canonical-same pairing x y parts.0) (canonical-same_text pairing xs ys parts.1)

-- texts with one canonical text are the same
pub same_text-canonical : (pairing xs ys : List ℕ) → map (canonical pairing) xs ≡ map (canonical pairing) ys
    → IsTrue (same_text pairing xs ys)
same_text-canonical pairing [] [] h = refl
same_text-canonical pairing [] (y ∷ ys) h = cc
same_text-canonical pairing (x ∷ xs) [] h = cc
same_text-canonical pairing (x ∷ xs) (y ∷ ys) h =
    let first : canonical pairing x ≡ canonical pairing y = cc in
    let rest : map (canonical pairing) xs ≡ map (canonical pairing) ys = cc in
    and_from (same pairing x y) (same_text pairing xs ys) (same-canonical pairing x y first)
    (same_text-canonical pairing xs ys rest)

-- each byte is the same as itself
pub same-itself : (pairing : List ℕ) → (a : ℕ) → IsTrue (same pairing a a)
same-itself pairing a = same-canonical pairing a a refl

-- being the same is symmetric for bytes
pub same-back : (pairing : List ℕ) → (a b : ℕ) → IsTrue (same pairing a b) → IsTrue (same pairing b a)
same-back pairing a b h = same-canonical pairing b a (sym (canonical-same pairing a b h))

-- being the same is transitive for bytes
pub same-transitive : (pairing : List ℕ) → (a b c : ℕ) → IsTrue (same pairing a b) → IsTrue (same pairing b c)
    → IsTrue (same pairing a c)
same-transitive pairing a b c g h =
    same-canonical pairing a c (canonical-same pairing a b g ∙ canonical-same pairing b c h)

-- each text is the same as itself
pub same_text-itself : (pairing : List ℕ) → (xs : List ℕ) → IsTrue (same_text pairing xs xs)
same_text-itself pairing xs = same_text-canonical pairing xs xs refl

-- being the same is symmetric for texts
pub same_text-back : (pairing : List ℕ) → (xs ys : List ℕ) → IsTrue (same_text pairing xs ys)
    → IsTrue (same_text pairing ys xs)
same_text-back pairing xs ys h = same_text-canonical pairing ys xs (sym (canonical-same_text pairing xs ys h))

-- being the same is transitive for texts
pub same_text-transitive : (pairing : List ℕ) → (xs ys zs : List ℕ) → IsTrue (same_text pairing xs ys)
    → IsTrue (same_text pairing ys zs) → IsTrue (same_text pairing xs zs)
same_text-transitive pairing xs ys zs g h =
    same_text-canonical pairing xs zs (canonical-same_text pairing xs ys g ∙ canonical-same_text pairing ys zs h)

-- fronts of equal length of texts that are the same are the same
pub same_text-take : (pairing : List ℕ) (n : ℕ) (xs ys : List ℕ) → IsTrue (same_text pairing xs ys)
    → IsTrue (same_text pairing (take n xs) (take n ys))
same_text-take pairing zero xs ys h = refl
same_text-take pairing (suc n) [] [] h = refl
same_text-take pairing (suc n) [] (y ∷ ys) h = absurd (false≢true h)
same_text-take pairing (suc n) (x ∷ xs) [] h = absurd (false≢true h)
same_text-take pairing (suc n) (x ∷ xs) (y ∷ ys) h =
    let parts = and_parts (same pairing x y) (same_text pairing xs ys) h in
    and_from (same pairing x y) (same_text pairing (take n xs) (take n ys)) parts.0
    (same_text-take pairing n xs ys parts.1)
