-- A buffer that is filled from a list, entry by entry.
use Rattle.std.proofs.Common.{◌≡◌, ℕ, ◌+◌, ◌<◌, ◌≤◌, List, [], ◌∷◌, ◌++◌, length, map, take, drop, get_or, ap, arith, length-drop}
use Rattle.std.proofs.Math.ListN.{set}
use Rattle.std.proofs.lemmas.List.{drop_more, map_more, take_more_set}
use Rattle.ac_input.specs.Occurrence.{Occurrence}
use Rattle.ac_c.specs.declared.found.Found.{Found}
use Rattle.ac_c.specs.Found.{shown}

-- if something is left after `at` entries of a list, the list has more than `at` entries
within : (left : List Occurrence) (at : ℕ) (o : Occurrence) (rest : List Occurrence) → drop at left ≡ o ∷ rest
    → at < length left
within left at o rest next = omega (arith, ap length next, length-drop at left)

-- what is left of the list after one more entry
pub fill-rest : (left : List Occurrence) (at : ℕ) (o : Occurrence) (rest : List Occurrence) → drop at left ≡ o ∷ rest
    → rest ≡ drop (at + 1) left
fill-rest left at o rest next =
    let more : drop at left ≡ get_or left at o ∷ drop (at + 1) left =
    drop_more left at o (within left at o rest next) in
    cc

pub fill-enough : (left : List Occurrence) (at : ℕ) (o : Occurrence) (rest : List Occurrence) → drop at left ≡ o ∷ rest
    → at + 1 ≤ length left
fill-enough left at o rest next = let lt = within left at o rest next in omega arith

-- the buffer shows one more entry of the list
pub fill-given : (left : List Occurrence) (out : List Found) (at : ℕ) (o : Occurrence) (rest : List Occurrence)
    → at < length out
    → drop at left ≡ o ∷ rest → take at out ≡ map shown (take at left)
    → take (at + 1) (set out at (shown o)) ≡ map shown (take (at + 1) left)
fill-given left out at o rest lt next given =
    let has : at < length left = within left at o rest next in
    let more : drop at left ≡ get_or left at o ∷ drop (at + 1) left = drop_more left at o has in
    let first : get_or left at o ≡ o = cc in
    let old : take (at + 1) (set out at (shown o)) ≡ take at out ++ shown o ∷ [] = take_more_set out at (shown o) lt in
    let new : map shown (take (at + 1) left) ≡ map shown (take at left) ++ shown (get_or left at o) ∷ [] =
    map_more shown left at o has in
    cc

-- if nothing is left of the list, all its entries are in the buffer
pub fill-end : (left : List Occurrence) (at : ℕ) → drop at left ≡ [] → at ≤ length left → at ≡ length left
fill-end left at none le = omega (arith, ap length none, length-drop at left)
