-- A path at a place is among the paths.
use Rattle.std.proofs.Common.{◌<◌, ℕ, zero, suc, List, [], ◌∷◌, length, get_or, refl, arith}
use Rattle.std.specs.Borrow.{Bor}
use Rattle.std.specs.List.{Contains}
use Rattle.clap.specs.Walk.{Text, texts}

pub text-among : (paths : List (Bor Text)) (i : ℕ) (d : Bor Text) → i < length paths
    → Contains (texts paths) (get_or paths i d).now
text-among [] i d low = absurd (omega (arith, low))
text-among (path ∷ paths) zero d low = (0, omega arith, refl)
text-among (path ∷ paths) (suc i) d low =
    let among = text-among paths i d (omega (arith, low)) in
    (suc among.0, omega (arith, among.1), among.2)
