-- What moving the lanes' notes together leaves.
use Rattle.std.proofs.Common.{◌≡◌, ℕ, ◌+◌, ◌-◌, ◌≤◌, List, ◌++◌, length, take, drop, sym, ap, ap₂, ◌∙◌, arith, append_assoc, length-drop}
use Rattle.std.specs.List.{copy_within}
use Rattle.std.proofs.lemmas.List.{drop-drop}
use Rattle.std.proofs.lemmas.List.Edits.{drop-paste, take-paste}
use Rattle.ac_automaton.specs.Ahead.{lane_notes, lanes_notes}
use Rattle.ac_automaton.specs.declared.ahead.Note.{Note}
use Rattle.ac_automaton.specs.declared.lanes.Lanes.{Lanes}

-- notes that are moved down come after those before them,
pub moved-front : (xs : List Note) (from end to : ℕ) → to ≤ from → from ≤ end → end ≤ length xs
    → take (to + (end - from)) (copy_within xs from end to) ≡ take to xs ++ take (end - from) (drop from xs)
moved-front xs from end to before ordered within =
    let left = length-drop from xs in
    take-paste xs to (drop from xs) (end - from) (omega (arith, before, ordered, within))
    (omega (arith, left, ordered, within))

-- and leave those after them as they are
pub moved-later : (xs : List Note) (from end to : ℕ) → to ≤ from → from ≤ end → end ≤ length xs → (k : ℕ) → end ≤ k
    → drop k (copy_within xs from end to) ≡ drop k xs
moved-later xs from end to before ordered within k past =
    let left = length-drop from xs in
    let n : ℕ = to + (end - from) in
    let m : ℕ = k - n in
    let there : n + m ≡ k = omega (arith, before, ordered, past) in
    let same : drop n (copy_within xs from end to)
    ≡ drop n xs = drop-paste xs to (drop from xs) (end - from) (omega (arith, before, ordered, within))
    (omega (arith, left, ordered, within)) in
    ap (λ j. drop j (copy_within xs from end to)) (sym there) ∙ sym (drop-drop m n (copy_within xs from end to))
    ∙ ap (λ l. drop m l) same ∙ drop-drop m n xs ∙ ap (λ j. drop j xs) there

-- the notes of all lanes, one lane after another
pub gathered : (begun lanes : Lanes) (n0 n1 n2 n3 : List Note) (b c d : ℕ) → begun.a.slot ≡ 0
    → take b n1 ≡ take lanes.a.slot n0 ++ lane_notes n0 begun.b lanes.b
    → take c n2 ≡ take b n1 ++ lane_notes n1 begun.c lanes.c → drop begun.c.slot n1 ≡ drop begun.c.slot n0
    → take d n3 ≡ take c n2 ++ lane_notes n2 begun.d lanes.d → drop begun.d.slot n2 ≡ drop begun.d.slot n0
    → take d n3 ≡ lanes_notes n0 begun lanes
gathered begun lanes n0 n1 n2 n3 b c d first is_b is_c same_c is_d same_d =
    let none : lanes.a.slot - 0 ≡ lanes.a.slot = omega arith in
    let aa : lane_notes n0 begun.a lanes.a ≡ take lanes.a.slot n0 = ap (λ k. take (lanes.a.slot - k) (drop k n0)) first
    ∙ ap (λ k. take k n0) none in
    let A = take lanes.a.slot n0 in
    let B = lane_notes n0 begun.b lanes.b in
    let C = lane_notes n0 begun.c lanes.c in
    let D = lane_notes n0 begun.d lanes.d in
    let cs : lane_notes n1 begun.c lanes.c ≡ C = ap (λ l. take (lanes.c.slot - begun.c.slot) l) same_c in
    let ds : lane_notes n2 begun.d lanes.d ≡ D = ap (λ l. take (lanes.d.slot - begun.d.slot) l) same_d in
    let two : take c n2 ≡ (A ++ B) ++ C = is_c ∙ ap₂ (λ x y. x ++ y) is_b cs in
    is_d ∙ ap₂ (λ x y. x ++ y) two ds ∙ append_assoc (A ++ B) C D ∙ append_assoc A B (C ++ D)
    ∙ ap (λ l. l ++ (B ++ (C ++ D))) (sym aa)
