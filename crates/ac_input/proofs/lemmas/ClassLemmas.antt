-- Bytes of one class lead alike, and a dictionary has only one number of classes.
use Rattle.std.proofs.Common.{◌≡◌, ◌≢◌, ℕ, zero, suc, ◌+◌, ◌-◌, ◌<◌, ◌≤◌, ◌==◌, Bool, true, false, IsTrue, if◌then◌else◌, List, [], ◌∷◌, ◌++◌, length, take, Option, Some, None, refl, sym, ap, subst, ◌∙◌, ⊎_elim, arith}
use Rattle.std.specs.List.{Contains}
use Rattle.std.proofs.lemmas.Bool.{and_parts, cases_lt, cases_eq, false≢true, or_left, or_right, eq-eqb}
use Rattle.ac_input.specs.declared.search.MatchKind.TheVariants.{Standard}
use Rattle.ac_input.specs.Alphabet.{has, class, AreClassesOf}
use Rattle.ac_input.specs.Alphabet.Classes.{IsByteOf, AreByteClasses, IsAlphabet, IsAlone, BytesLeadAlike, ClassesLeadAlike}
use Rattle.ac_input.specs.Dictionary.{Dictionary, BeginsEntered}
use Rattle.ac_input.specs.Failure.{AreOwn}
use Rattle.ac_input.specs.Same.{same, same_text}
use Rattle.ac_input.specs.States.{LeadsTo, FailsTo}
use Rattle.ac_input.proofs.lemmas.ContainsLemmas.{Contains-nil, Contains-head, Contains-tail, Contains-cases}
use Rattle.ac_input.proofs.lemmas.LeadsLemmas.{leads-one, leads-some, fails-some, fails-state, leads-next, leads-failure, leads-failure_none, leads-start, leads-start_none, leads-anchored, leads-stays_dead}
use Rattle.ac_input.proofs.lemmas.LiveLemmas.{kind_cases}
use Rattle.ac_input.proofs.lemmas.SameLemmas.{same-back}
use Rattle.ac_input.proofs.lemmas.SomeLemmas.{owns-some}

-- ---- bytes between boundaries

-- a later byte's class is no lower
pub class-later : {boundaries : List Bool} {classes : List ℕ} → AreClassesOf boundaries classes → (more b : ℕ)
    → b + more < 256 → class classes b ≤ class classes (b + more)
class-later {classes} h zero b small =
    let e : b + 0 ≡ b = omega arith in
    let same : class classes (b + 0) ≡ class classes b = ap (class classes) e in
    omega arith
class-later {boundaries} {classes} h (suc more) b small =
    let e : b + suc more ≡ (b + more) + 1 = omega arith in
    let same : class classes (b + suc more) ≡ class classes ((b + more) + 1) = ap (class classes) e in
    let up : class classes ((b + more) + 1) ≡ class classes (b + more) + (if has boundaries (b + more) then 1 else 0) =
    h.next (b + more) (omega arith) in
    let below = class-later h more b (omega arith) in
    omega arith

-- after a boundary the next class begins
class-next : {boundaries : List Bool} {classes : List ℕ} → AreClassesOf boundaries classes → {b : ℕ} → b < 255
    → has boundaries b ≡ true → class classes (b + 1) ≡ class classes b + 1
class-next {classes} h {b} small at = h.next b small ∙ ap (λ t. class classes b + (if t then 1 else 0)) at

-- a byte with a boundary on either side is a class of its own; the last byte needs none after it
pub parted-alone : {boundaries : List Bool} {classes : List ℕ} → AreClassesOf boundaries classes → {x : ℕ} → x < 256
    → (x < 255 → has boundaries x ≡ true) → ((before : ℕ) → before + 1 ≡ x → has boundaries before ≡ true)
    → IsAlone classes x
parted-alone {classes} h {x} small after before b b_small same =
    ⊎_elim
    (λ (equal : b ≡ x). equal)
    (λ (ne : b ≢ x).
    ⊎_elim
    (λ (below : b < x).
    let y = x - 1 in
    let back : y + 1 ≡ x = omega arith in
    let up = class-next h (omega arith) (before y back) in
    let at : class classes (y + 1) ≡ class classes x = ap (class classes) back in
    let gap : b + (y - b) ≡ y = omega arith in
    let far : class classes (b + (y - b)) ≡ class classes y = ap (class classes) gap in
    let rise = class-later h (y - b) b (omega arith) in
    absurd (omega arith))
    (λ (above : x ≤ b).
    let up = class-next h (omega arith) (after (omega arith)) in
    let gap : (x + 1) + (b - (x + 1)) ≡ b = omega arith in
    let far : class classes ((x + 1) + (b - (x + 1))) ≡ class classes b = ap (class classes) gap in
    let rise = class-later h (b - (x + 1)) (x + 1) (omega arith) in
    absurd (omega arith))
    (cases_lt b x))
    (cases_eq b x)

-- a byte of an entered pattern is a class alone
pub byte-alone : (m : Dictionary) {classes : List ℕ} {x : ℕ} → AreByteClasses m classes → x < 256 → IsByteOf m x
    → IsAlone classes x
byte-alone m {x} h small stands =
    parted-alone h.1 small
    (λ below. (h.2 x below).1 (x, small, stands, or_left (x == x) (x + 1 == x) (eq-eqb x x refl)))
    (λ before is. (h.2 before (omega (arith, is))).1
    (x, small, stands, or_right (before == x) (before + 1 == x) (eq-eqb (before + 1) x is)))

-- ---- bytes of no entered pattern

-- where a text is the same as one that ends in a byte, it has a byte that is the same as that one
last-same : (pairing xs : List ℕ) (b : ℕ) (ys : List ℕ) → IsTrue (same_text pairing (xs ++ b ∷ []) ys)
    → (y : ℕ) × Contains ys y × IsTrue (same pairing b y)
last-same pairing [] b [] h = absurd (false≢true h)
last-same pairing [] b (y ∷ ys) h = (y, Contains-head ys, (and_parts (same pairing b y) (same_text pairing [] ys) h).0)
last-same pairing (x ∷ xs) b [] h = absurd (false≢true h)
last-same pairing (x ∷ xs) b (y ∷ ys) h =
    let r = last-same pairing xs b ys (and_parts (same pairing x y) (same_text pairing (xs ++ b ∷ []) ys) h).1 in
    (r.0, Contains-tail ys r.1, r.2)

-- what stands in the front of a list stands in the list
take-among : (n : ℕ) (xs : List ℕ) {y : ℕ} → Contains (take n xs) y → Contains xs y
take-among zero xs c = absurd (omega (arith, c.1))
take-among (suc n) [] c = c
take-among (suc n) (x ∷ xs) {y} c =
    let later = take-among n xs in
    ⊎_elim
    (λ (here : x ≡ y). subst (λ z. Contains (x ∷ xs) z) here (Contains-head xs))
    (λ (there : Contains (take n xs) y). Contains-tail xs (later there))
    (Contains-cases (take n xs) c)

-- no entered pattern begins with a text whose last byte is in no entered pattern
pub unknown-ends : (m : Dictionary) (text : List ℕ) (b : ℕ) → (¬ IsByteOf m b) → ¬ BeginsEntered m (text ++ b ∷ [])
unknown-ends m [] b none begins =
    let r = last-same m.pairing [] b (take 1 begins.1) begins.3.1 in
    none (begins.0, begins.1, r.0, begins.2, take-among 1 begins.1 r.1, same-back m.pairing b r.0 r.2)
unknown-ends m (x ∷ xs) b none begins =
    let r = last-same m.pairing (x ∷ xs) b (take (length (x ∷ xs ++ b ∷ [])) begins.1) begins.3.1 in
    none (
      begins.0,
      begins.1,
      r.0,
      begins.2,
      take-among (length (x ∷ xs ++ b ∷ [])) begins.1 r.1,
      same-back m.pairing b r.0 r.2,
    )

-- after the text, both bytes lead to one state
abbrev LeadToOne : Dictionary → Bool → List ℕ → ℕ → ℕ → Type 0
LeadToOne m anchored text b c =
    (r : Option (List ℕ)) × LeadsTo m anchored (text ++ b ∷ []) r × LeadsTo m anchored (text ++ c ∷ []) r

-- from the start, two bytes of no entered pattern lead to one state
start-one : (m : Dictionary) (b c : ℕ) → (¬ IsByteOf m b) → (¬ IsByteOf m c) → LeadToOne m false [] b c
start-one m b c no_b no_c =
    let ends_b = unknown-ends m [] b no_b in
    let ends_c = unknown-ends m [] c no_c in
    ⊎_elim
    (λ (standard : m.kind ≡ Standard). (
      Some [],
      leads-start (λ leftmost. absurd (leftmost standard)) ends_b,
      leads-start (λ leftmost. absurd (leftmost standard)) ends_c,
    ))
    (λ (leftmost : m.kind ≢ Standard). by leftmost ends_b ends_c (owns-some m).0 (owns-some m).1)
    (kind_cases m.kind)
  where
    by : m.kind ≢ Standard → (¬ BeginsEntered m (b ∷ [])) → (¬ BeginsEntered m (c ∷ [])) → (ns : List ℕ)
        → AreOwn m [] ns → LeadToOne m false [] b c
    by leftmost ends_b ends_c [] are = (
      Some [],
      leads-start (λ _ n own. Contains-nil ((are.1 n).1 own)) ends_b,
      leads-start (λ _ n own. Contains-nil ((are.1 n).1 own)) ends_c,
    )
    by leftmost ends_b ends_c (n ∷ ns) are =
        let own = (are.1 n).0 (Contains-head ns) in
        (None, leads-start_none leftmost own ends_b, leads-start_none leftmost own ends_c)

-- after what a state stands for, two bytes of no entered pattern lead to one state
state-one : (m : Dictionary) (b c : ℕ) → (¬ IsByteOf m b) → (¬ IsByteOf m c) → (bytes : ℕ) (text : List ℕ)
    → length text < bytes → LeadToOne m false text b c
state-one m b c no_b no_c zero text short = absurd (omega (arith, short))
state-one m b c no_b no_c (suc bytes) [] short = start-one m b c no_b no_c
state-one m b c no_b no_c (suc bytes) (x ∷ xs) short =
    by (λ f less. state-one m b c no_b no_c bytes f (omega (arith, less, short))) (fails-some).0 (fails-some).1
  where
    by : ((f : List ℕ) → length f + 1 ≤ length (x ∷ xs) → LeadToOne m false f b c) → (r : Option (List ℕ))
        → FailsTo m (x ∷ xs) r → LeadToOne m false (x ∷ xs) b c
    by inner None failure =
        let some : x ∷ xs ≢ [] = λ e. cc in (
          None,
          leads-failure_none b some failure (unknown-ends m (x ∷ xs) b no_b),
          leads-failure_none c some failure (unknown-ends m (x ∷ xs) c no_c),
        )
    by inner (Some f) failure =
        let r = inner f (fails-state failure).2 in (
          r.0,
          (leads-failure b r.0 failure (unknown-ends m (x ∷ xs) b no_b)).0 r.1,
          (leads-failure c r.0 failure (unknown-ends m (x ∷ xs) c no_c)).0 r.2,
        )

-- after any text, two bytes of no entered pattern lead to one state
text-one : {m : Dictionary} {anchored : Bool} (text : List ℕ) (b c : ℕ) → (¬ IsByteOf m b) → (¬ IsByteOf m c)
    → LeadToOne m anchored text b c
text-one {m} {anchored} text b c no_b no_c = by anchored (leads-some).0 (leads-some).1
  where
    by : (which : Bool) (r : Option (List ℕ)) → LeadsTo m which text r → LeadToOne m which text b c
    by which None dead = (None, leads-stays_dead (b ∷ []) dead, leads-stays_dead (c ∷ []) dead)
    by false (Some state) leads =
        let r = state-one m b c no_b no_c (length state + 1) state (omega arith) in
        (r.0, (leads-next b r.0 leads).0 r.1, (leads-next c r.0 leads).0 r.2)
    by true (Some state) leads = (
      None,
      (leads-anchored b leads).1 (unknown-ends m state b no_b),
      (leads-anchored c leads).1 (unknown-ends m state c no_c),
    )

-- two bytes lead alike if they are equal, or neither stands in an entered pattern
pub unknown-alike : (m : Dictionary) {b c : ℕ} → (b ≢ c → (¬ IsByteOf m b) × (¬ IsByteOf m c)) → BytesLeadAlike m b c
unknown-alike m {b} {c} unknown anchored text r leads =
    ⊎_elim
    (λ (equal : b ≡ c). subst (λ x. LeadsTo m anchored (text ++ x ∷ []) r) equal leads)
    (λ (ne : b ≢ c).
    let none = unknown ne in
    let both = text-one text b c none.0 none.1 in
    subst (LeadsTo m anchored (text ++ c ∷ [])) (leads-one m anchored (text ++ b ∷ []) both.0 r both.1 leads) both.2)
    (cases_eq b c)

-- two different bytes of one class stand in no entered pattern
pub class-unknown : (m : Dictionary) {classes : List ℕ} {b c : ℕ} → AreByteClasses m classes → b < 256 → c < 256
    → class classes b ≡ class classes c → b ≢ c → (¬ IsByteOf m b) × (¬ IsByteOf m c)
class-unknown m {b} {c} are b_in c_in one ne = (
  (λ stands. ne (sym (byte-alone m are b_in stands c c_in (sym one)))),
  (λ stands. ne (byte-alone m are c_in stands b b_in one)),
)

pub classes-alike : (m : Dictionary) (classes : List ℕ) → AreByteClasses m classes → ClassesLeadAlike m classes
classes-alike m classes are b c b_in c_in one = unknown-alike m (class-unknown m are b_in c_in one)

-- ---- how many classes there are

-- two tests that pass together are equal
pub one-test : (s t : Bool) → (IsTrue s → IsTrue t) → (IsTrue t → IsTrue s) → s ≡ t
one-test false false forth back = refl
one-test false true forth back = absurd (false≢true (back refl))
one-test true false forth back = absurd (false≢true (forth refl))
one-test true true forth back = refl

-- each byte has one class
class-one : (m : Dictionary) {x y : List ℕ} → AreByteClasses m x → AreByteClasses m y → (b : ℕ) → b < 256
    → class x b ≡ class y b
class-one m g h zero small = let first = g.1.first in let other = h.1.first in omega (arith, first, other)
class-one m {x} {y} g h (suc b) small =
    let below : b < 255 = omega (arith, small) in
    let before = class-one m g h b (omega (arith, small)) in
    let flag : has g.0 b ≡ has h.0 b = one-test (has g.0 b) (has h.0 b) (λ at. (h.2 b below).1 ((g.2 b below).0 at))
    (λ at. (g.2 b below).1 ((h.2 b below).0 at)) in
    let next : b + 1 ≡ suc b = omega arith in
    sym (ap (class x) next)
    ∙ (g.1.next b below
    ∙ (ap (λ t. class x b + (if t then 1 else 0)) flag
    ∙ (ap (λ k. k + (if has h.0 b then 1 else 0)) before ∙ (sym (h.1.next b below) ∙ ap (class y) next))))

-- a dictionary has only one number of classes
pub alphabet-one : (m : Dictionary) (classes : Bool) (a b : ℕ) → IsAlphabet m classes a → IsAlphabet m classes b → a ≡ b
alphabet-one m true a b g h = let one = class-one m g.1 h.1 255 (omega arith) in omega (arith, one, g.2, h.2)
alphabet-one m false a b g h = omega (arith, g, h)
