-- Under a leftmost kind the list of a text's state begins with the best of the text, or the best ended before.
use Rattle.std.proofs.Common.{◌≡◌, ◌≢◌, inr, ⊎_elim, ℕ, ◌+◌, ◌-◌, ◌<◌, ◌≤◌, false, List, [], ◌∷◌, length, drop, take, Some, None, IsTrue, slice_range, Greater, sym, ap, subst, refl, ◌∙◌, arith, length-drop}
use Rattle.std.specs.List.{Contains}
use Rattle.std.proofs.lemmas.Bool.{false≢true, cases_lt}
use Rattle.std.proofs.lemmas.Bool.Decides.{nat_tests}
use Rattle.std.proofs.lemmas.List.{drop-drop}
use Rattle.ac_input.specs.declared.search.MatchKind.{MatchKind}
use Rattle.ac_input.specs.declared.search.MatchKind.TheVariants.{Standard, LeftmostFirst, LeftmostLongest}
use Rattle.ac_input.specs.Same.{same_text}
use Rattle.ac_input.specs.Occurrence.{Occurrence, Occurs}
use Rattle.ac_input.specs.Best.{preference, IsBest}
use Rattle.ac_input.specs.Dictionary.{Dictionary, IsEntered, IsShadowed, whole, IsAlive}
use Rattle.ac_input.specs.Tells.{ending}
use Rattle.ac_input.specs.Failure.{IsFailure, IsOwn, AreOwn, IsList, OwnAlone, OwnThen}
use Rattle.ac_input.proofs.lemmas.ContainsLemmas.{Contains-nil, Contains-head, Contains-cases}
use Rattle.ac_input.proofs.lemmas.OrderLemmas.{same_text-length, slice_range-length, occurs-same_end, occurrence_from_parts}
use Rattle.ac_input.proofs.lemmas.SameLemmas.{same_text-take, same_text-back, same_text-transitive}
use Rattle.ac_input.proofs.lemmas.LiveLemmas.{whole-best_some, best-entered, leftmost-no_later}
use Rattle.ac_input.proofs.lemmas.ShiftLemmas.{alive-first}
use Rattle.ac_input.proofs.lemmas.FailureLemmas.{own-of_ending}
use Rattle.ac_input.proofs.lemmas.StateListLemmas.{own-ending, own-lies, ending-alive, alive-of_rest, rest-alone, rest-cases}

-- of two occurrences with one start, leftmost-first prefers the lower number
pub first-number : (a b : Occurrence) → a.start ≡ b.start → b.pattern < a.pattern
    → preference LeftmostFirst a b ≡ Greater
first-number a b start lt = grind (arith, nat_tests)

-- of two occurrences with one start, leftmost-longest prefers the longer
longest-longer : (a b : Occurrence) → a.start ≡ b.start → a.end < b.end → preference LeftmostLongest a b ≡ Greater
longest-longer a b start lt = grind (arith, nat_tests)

-- of two occurrences at one place, leftmost-longest prefers the lower number
longest-number : (a b : Occurrence) → a.start ≡ b.start → a.end ≡ b.end → b.pattern < a.pattern
    → preference LeftmostLongest a b ≡ Greater
longest-number a b start end lt = grind (arith, nat_tests)

-- a lower pattern that occurs where an own pattern of the rest of a text starts, and ends sooner, shadows that pattern
shorter-shadows : {m : Dictionary} {text : List ℕ} {from n : ℕ} {o : Occurrence} (own : IsOwn m (drop from text) n)
    → Occurs (whole m text false) o → o.start ≡ from → o.end < length text → o.pattern < n → IsShadowed m n own.0
shorter-shadows {m} {text} {from} {o} own h start sooner lower =
    let w = h.within in
    let k = length h.same.0 in
    let left = length-drop from text in
    let like = same_text-length m.pairing own.0 (drop from text) own.2 in
    let long : k ≡ length (slice_range text o.start o.end) =
    same_text-length m.pairing h.same.0 (slice_range text o.start o.end) h.same.2 in
    let part : length (slice_range text o.start o.end) ≡ o.end - o.start = slice_range-length text o.start w.1 w.2 in
    let span : o.end - o.start ≡ k = omega arith in
    let here : IsTrue (same_text m.pairing h.same.0 (take k (drop from text))) = subst
    (λ i. IsTrue (same_text m.pairing h.same.0 (take k (drop i text)))) start
    (subst (λ i. IsTrue (same_text m.pairing h.same.0 (take i (drop o.start text)))) span h.same.2) in
    let front : IsTrue (same_text m.pairing (take k own.0) (take k (drop from text))) =
    same_text-take m.pairing k own.0 (drop from text) own.2 in
    let begins : IsTrue (same_text m.pairing h.same.0 (take k own.0)) = same_text-transitive m.pairing h.same.0
    (take k (drop from text)) (take k own.0) here
    (same_text-back m.pairing (take k own.0) (take k (drop from text)) front) in
    (o.pattern, h.same.0, lower, h.same.1, omega arith, (omega arith, begins))

-- a pattern from a place to the end of a text
abbrev to_end : List ℕ → ℕ → ℕ → Occurrence
to_end text from n = record { pattern = n; start = from; end = length text }

-- The first of the own patterns of the rest of a text has the lowest number of all entered patterns that lie from there
-- to the end.
own-least : {m : Dictionary} {text : List ℕ} {from n : ℕ} (more : List ℕ) {b : Occurrence}
    (h : Occurs (whole m text false) b) → AreOwn m (drop from text) (n ∷ more) → b.start ≡ from → b.end ≡ length text
    → IsEntered m b.pattern h.same.0 → n ≤ b.pattern
own-least {m} {text} {from} {n} more {b} h are start ends entered =
    let own : IsOwn m (drop from text) b.pattern =
    subst (λ i. IsOwn m (drop i text) b.pattern) start (own-of_ending h ends entered) in
    ⊎_elim
    (λ (same : n ≡ b.pattern). omega arith)
    (λ later. let lt = are.0.0 b.pattern later in omega arith)
    (Contains-cases more ((are.1 b.pattern).1 own))

-- an entered pattern that starts there and is no later than the first own pattern is that pattern
own-first : (kind : MatchKind) {m : Dictionary} {text : List ℕ} {from n : ℕ} (more : List ℕ) {b : Occurrence}
    (h : Occurs (whole m text false) b) → m.kind ≡ kind → kind ≢ Standard → from ≤ length text
    → AreOwn m (drop from text) (n ∷ more) → b.start ≡ from → IsEntered m b.pattern h.same.0
    → preference kind b (to_end text from n) ≢ Greater → b ≡ to_end text from n
own-first Standard more h kind leftmost inside are start entered best = absurd (leftmost refl)
own-first LeftmostFirst {text} {from} {n} more {b} h kind leftmost inside are start entered best =
    let own = (are.1 n).0 (Contains-head more) in
    let w = h.within in
    let lies = own-lies (λ a. absurd (false≢true a)) inside own in
    ⊎_elim
    (λ (greater : n < b.pattern). absurd (best (first-number b (to_end text from n) start greater)))
    (λ (le : b.pattern ≤ n).
    ⊎_elim
    (λ (sooner : b.end < length text).
    ⊎_elim
    (λ (lower : b.pattern < n). absurd (own.1.1 kind (shorter-shadows own h start sooner lower)))
    (λ (ge : n ≤ b.pattern). let e : b.end ≡ length text = occurs-same_end (omega arith) h lies (omega arith) start in
    absurd (omega arith))
    (cases_lt b.pattern n))
    (λ (past : length text ≤ b.end). let ge = own-least more h are start (omega arith) entered in
    occurrence_from_parts (omega arith) start (omega arith))
    (cases_lt b.end (length text)))
    (cases_lt n b.pattern)
own-first LeftmostLongest {text} {from} {n} more {b} h kind leftmost inside are start entered best =
    let w = h.within in
    ⊎_elim
    (λ (sooner : b.end < length text). absurd (best (longest-longer b (to_end text from n) start sooner)))
    (λ (past : length text ≤ b.end).
    let ge = own-least more h are start (omega arith) entered in
    ⊎_elim
    (λ (greater : n < b.pattern). absurd (best (longest-number b (to_end text from n) start (omega arith) greater)))
    (λ (le : b.pattern ≤ n). occurrence_from_parts (omega arith) start (omega arith))
    (cases_lt n b.pattern))
    (cases_lt b.end (length text))

-- Where the rest of a text is alive and has own patterns, the first of these is the best of the text.
own-best : {m : Dictionary} {text : List ℕ} {from n : ℕ} (more : List ℕ) → m.kind ≢ Standard → IsAlive m false text from
    → AreOwn m (drop from text) (n ∷ more) → IsBest m.kind (whole m text false) (Some (ending m text n))
own-best {m} {text} {from} {n} more leftmost alive are =
    let own = (are.1 n).0 (Contains-head more) in
    let lies = own-lies (λ a. absurd (false≢true a)) alive.within own in
    let best = whole-best_some m.kind m lies in
    let first = alive-first leftmost alive best.1.0 in
    let le = leftmost-no_later m.kind best.0 (to_end text from n) leftmost (best.1.1 (to_end text from n) lies) in
    let entered = best-entered false best.1 best.1.0.same.1 in
    let is : best.0 ≡ to_end text from n = own-first m.kind more best.1.0 refl leftmost alive.within are (omega arith)
    entered (best.1.1 (to_end text from n) lies) in
    subst (λ x. IsBest m.kind (whole m text false) (Some x)) (is ∙ sym (own-ending m text alive.within own)) best.1

-- Where the rest of a text is alive, the first of its list is the best of the text, and ends where the text ends.
pub leftmost-list : {m : Dictionary} {rest ns : List ℕ} → IsList m rest ns
    → {text : List ℕ} {from n : ℕ} {more : List ℕ} → m.kind ≢ Standard → IsAlive m false text from
    → drop from text ≡ rest → ns ≡ n ∷ more → IsBest m.kind (whole m text false) (Some (ending m text n))
leftmost-list {m} {rest} (OwnAlone _ _ are failure) {n} {more} leftmost alive is list =
    own-best more leftmost alive
    (subst (λ xs. AreOwn m xs (n ∷ more)) (sym is) (subst (λ ks. AreOwn m rest ks) list are))
leftmost-list {m} (OwnThen _ [] others next are failure inner) {text} {from} leftmost alive is list =
    let failed : IsFailure m (drop from text) (Some next) = subst (λ xs. IsFailure m xs (Some next)) (sym is) failure in
    leftmost-list inner leftmost (alive-of_rest alive failed.0.1) (sym (drop-drop next from text) ∙ ap (drop next) is)
    list
leftmost-list {m} (OwnThen _ (k ∷ ks) others next are failure inner) {text} {n} leftmost alive is list =
    let e : k ≡ n = cc in
    subst (λ i. IsBest m.kind (whole m text false) (Some (ending m text i))) e
    (own-best ks leftmost alive (subst (λ xs. AreOwn m xs (k ∷ ks)) (sym is) are))

-- Where the list of a rest that is alive is empty, the best of the text ends before the text does.
pub leftmost-empty : {m : Dictionary} {rest ns : List ℕ} → IsList m rest ns
    → {text : List ℕ} {from : ℕ} {b : Occurrence} → m.kind ≢ Standard → IsAlive m false text from
    → drop from text ≡ rest → ns ≡ [] → IsBest m.kind (whole m text false) (Some b) → from ≤ b.start
    → b.end ≢ length text
leftmost-empty {m} {rest} {ns} list {text} {from} {b} leftmost alive is empty best le ends =
    by rest ns list from alive is empty le
  where
    entered : IsEntered m b.pattern best.0.same.0
    entered = best-entered false best best.0.same.1

    here : IsAlive m false text b.start
    here = ending-alive best.0 ends entered (inr best)

    owned : (from : ℕ) (rest own : List ℕ) → AreOwn m rest own → drop from text ≡ rest → b.start ≡ from
        → Contains own b.pattern
    owned from rest own are is start =
        (are.1 b.pattern).1
        (subst (λ xs. IsOwn m xs b.pattern) is
        (subst (λ i. IsOwn m (drop i text) b.pattern) start (own-of_ending best.0 ends entered)))

    by : (rest ns : List ℕ) → IsList m rest ns → (from : ℕ) → IsAlive m false text from → drop from text ≡ rest
        → ns ≡ [] → from ≤ b.start → ⊥
    by rest ns (OwnAlone _ _ are failure) from alive is empty le =
        let start = rest-alone (subst (λ xs. IsFailure m xs None) (sym is) failure) alive le here in
        Contains-nil (subst (λ ks. Contains ks b.pattern) empty (owned from rest ns are is start))
    by rest ns (OwnThen _ [] others next are failure inner) from alive is empty le =
        let failed : IsFailure m (drop from text) (Some next) =
        subst (λ xs. IsFailure m xs (Some next)) (sym is) failure in
        ⊎_elim
        (λ start. Contains-nil (owned from rest [] are is start))
        (λ later. by (drop next rest) others inner (from + next) (alive-of_rest alive failed.0.1)
        (sym (drop-drop next from text) ∙ ap (drop next) is) empty later)
        (rest-cases failed alive le here)
    by rest ns (OwnThen _ (k ∷ ks) others next are failure inner) from alive is empty le = cc
