use Rattle.std.proofs.Common.{◌≡◌, ◌∙◌, sym, ap, refl, ◌≤◌, ◌-◌, ℕ, List, [], ◌∷◌, ◌++◌, append_assoc, arith, length, take, drop, get_or}
use Rattle.std.proofs.lemmas.Grind.{common_steps}
use Rattle.ac_input.specs.Pairing.{named}
use Rattle.acsub.proofs.args.two_by_two.Goals as goal

-- two lists of pairs, joined, name the bytes of the first and then of the second
named-append : (xs ys : List (ℕ × ℕ)) → named (xs ++ ys) ≡ named xs ++ named ys
named-append [] ys = refl
named-append (x ∷ xs) ys = ap (λ l. x.0 ∷ (x.1 ∷ l)) (named-append xs ys)

all_taken : (n : ℕ) (zs : List ℕ) → n ≡ length zs → take n zs ≡ zs
all_taken n zs e = grind (arith, common_steps)

-- two more bytes make one more pair
step : (bytes : List ℕ) (pairs new : List (ℕ × ℕ)) (rest : List ℕ) → bytes ≡ named pairs ++ rest → 2 ≤ length rest
    → new ≡ pairs ++ (get_or rest 0 0, get_or rest 1 0) ∷ [] → bytes ≡ named new ++ take (length rest - 2) (drop 2 rest)
step bytes pairs new [] same long is = absurd (omega arith)
step bytes pairs new (x ∷ []) same long is = absurd (omega arith)
step bytes pairs new (x ∷ y ∷ zs) same long is =
    let back : take (length (x ∷ y ∷ zs) - 2) zs ≡ zs = all_taken _ zs (omega arith) in
    same ∙ sym (append_assoc (named pairs) (x ∷ y ∷ []) zs) ∙ ap (λ l. l ++ zs) (sym (named-append pairs ((x, y) ∷ [])))
    ∙ ap (λ l. named l ++ zs) (sym is) ∙ ap (λ l. named new ++ l) (sym back)

pub loop-rest-preserved : goal.loop-rest-preserved
loop-rest-preserved c =
    step _ _ _ c.loop-rest.rest.now c.loop-rest.invariant c.in-len2-up.len_at_least c.in_ok-push.ensures.items
