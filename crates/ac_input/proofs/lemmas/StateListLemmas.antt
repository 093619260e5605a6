-- The list of a text's state: what it says about each text with this live prefix.
use Rattle.std.proofs.Common.{◌≡◌, ◌⊎◌, inl, inr, ⊎_elim, ℕ, ◌+◌, ◌-◌, ◌<◌, ◌≤◌, Bool, false, List, [], ◌∷◌, ◌++◌, length, drop, map, Some, None, IsTrue, get_or, Less, sym, ap, subst, refl, ◌∙◌, arith, length-drop}
use Rattle.std.specs.List.{Contains}
use Rattle.std.proofs.lemmas.Bool.{false≢true, cases_lt}
use Rattle.std.proofs.lemmas.List.{drop-drop, take_all, map-append}
use Rattle.std.proofs.lemmas.List.Elements.{Contains-append_left, Contains-append_right, Contains-append_cases}
use Rattle.std.proofs.lemmas.Option.{get_or_from_slice_get, same_Some}
use Rattle.ac_input.specs.declared.search.MatchKind.TheVariants.{Standard}
use Rattle.ac_input.specs.Same.{same_text}
use Rattle.ac_input.specs.Occurrence.{Occurrence, Occurs}
use Rattle.ac_input.specs.Best.{preference, IsBest}
use Rattle.ac_input.specs.Listing.{IsRising, ListsAll}
use Rattle.ac_input.specs.Dictionary.{Dictionary, IsEntered, whole, IsAlive}
use Rattle.ac_input.specs.Tells.{ending}
use Rattle.ac_input.specs.Failure.{IsFailure, AreRising, IsOwn, AreOwn, IsList, OwnAlone, OwnThen}
use Rattle.ac_input.proofs.lemmas.ContainsLemmas.{Contains-nil, Contains-head, Contains-tail, Contains-cases}
use Rattle.ac_input.proofs.lemmas.OrderLemmas.{same_text-length, occurrence_from_parts}
use Rattle.ac_input.proofs.lemmas.BestLemmas.{best-unique}
use Rattle.ac_input.proofs.lemmas.RisingLemmas.{less_by_start, less_by_number, IsRising-cons, IsRising-append}
use Rattle.ac_input.proofs.lemmas.LiveLemmas.{occurs-append, entered-begins}
use Rattle.ac_input.proofs.lemmas.ShiftLemmas.{alive-first}
use Rattle.ac_input.proofs.lemmas.StateLemmas.{alive-shifted, from_behind, standard-entered}
use Rattle.ac_input.proofs.lemmas.FailureLemmas.{own-of_ending}

-- ---- lists of patterns that end where a text ends

-- each element of a mapped list comes from an element of the list
pub Contains-from_map : {X Y : Type 0} {f : X → Y} (xs : List X) {y : Y} → Contains (map f xs) y
    → (x : X) × Contains xs x × (f x ≡ y)
Contains-from_map [] c = absurd (Contains-nil c)
Contains-from_map {f} (x ∷ xs) {y} c =
    let inner = Contains-from_map xs in
    ⊎_elim
    (λ (same : f x ≡ y). (x, Contains-head xs, same))
    (λ later. let r = inner later in (r.0, Contains-tail xs r.1, r.2))
    (Contains-cases (map f xs) c)

-- each element of a list, mapped, stands in the mapped list
pub Contains-map : {X Y : Type 0} (f : X → Y) (xs : List X) {x : X} → Contains xs x → Contains (map f xs) (f x)
Contains-map f [] c = absurd (Contains-nil c)
Contains-map {X} {Y} f (z ∷ xs) {x} c =
    let inner = Contains-map f xs in
    ⊎_elim
    (λ (same : z ≡ x). subst (λ y. Contains (map f (z ∷ xs)) y) (ap f same) (Contains-head (map f xs)))
    (λ later. Contains-tail (map f xs) (inner later))
    (Contains-cases xs c)

-- an own pattern of the rest of a text, put at the end of the text, starts where the rest does
pub own-ending : (m : Dictionary) (text : List ℕ) {from n : ℕ} → from ≤ length text → IsOwn m (drop from text) n
    → ending m text n ≡ record { pattern = n; start = from; end = length text }
own-ending m text {from} {n} inside own =
    let is = get_or_from_slice_get m.patterns n own.0 [] own.1.0 in
    let long : length (get_or m.patterns n []) ≡ length own.0 = ap length is in
    let like = same_text-length m.pairing own.0 (drop from text) own.2 in
    let left = length-drop from text in
    occurrence_from_parts refl (omega arith) refl

-- an own pattern of the rest of a text occurs from there to the end
pub own-lies : {m : Dictionary} {anchored : Bool} {text : List ℕ} {from n : ℕ} → (IsTrue anchored → from ≡ 0)
    → from ≤ length text → IsOwn m (drop from text) n
    → Occurs (whole m text anchored) (record { pattern = n; start = from; end = length text })
own-lies {m} {text} {from} anchor inside own =
    let left = length-drop from text in
    record {
      within = (omega arith, inside, omega arith);
      same = (
        own.0,
        own.1.0,
        subst (λ xs. IsTrue (same_text m.pairing own.0 xs))
            (sym (take_all (length text - from) (drop from text) (omega arith))) own.2,
      );
      anchor = anchor;
    }

-- matches of own patterns of the rest of a text rise
rising-own : (m : Dictionary) (text : List ℕ) {from : ℕ} (ns : List ℕ) → from ≤ length text → AreRising ns
    → ((n : ℕ) → Contains ns n → IsOwn m (drop from text) n) → IsRising (map (ending m text) ns)
rising-own m text [] inside rising own = tt
rising-own m text {from} (n ∷ ns) inside rising own =
    IsRising-cons (ending m text n) (map (ending m text) ns)
    (λ later c.
    let r = Contains-from_map ns c in
    let first = own-ending m text inside (own n (Contains-head ns)) in
    let second : ending m text r.0 ≡ record { pattern = r.0; start = from; end = length text } =
    own-ending m text inside (own r.0 (Contains-tail ns r.1)) in
    let lt = rising.0 r.0 r.1 in
    subst (λ o. preference Standard (ending m text n) o ≡ Less) r.2
    (less_by_number {a = ending m text n} (ending m text r.0) refl
    (ap (λ o. o.start) first ∙ sym (ap (λ o. o.start) second)) lt))
    (rising-own m text ns inside rising.1 (λ k c. own k (Contains-tail ns c)))

-- an entered pattern that lies from a place to the end of the text
abbrev pub LiesFrom : Dictionary → Bool → List ℕ → ℕ → Occurrence → Type 0
LiesFrom m anchored text from o =
    Occurs (whole m text anchored) o × (o.end ≡ length text) × (o.start ≡ from)
    × ((p : List ℕ) × IsEntered m o.pattern p)

-- the own patterns of the rest of a text are all that lie from there to the end
pub own-lists : {m : Dictionary} {anchored : Bool} {text : List ℕ} {from : ℕ} (ns : List ℕ)
    → (IsTrue anchored → from ≡ 0) → from ≤ length text → AreOwn m (drop from text) ns
    → ListsAll (LiesFrom m anchored text from) (map (ending m text) ns)
own-lists {m} {anchored} {text} {from} ns anchor inside are = (
  rising-own m text ns inside are.0 (λ n. (are.1 n).0),
  λ o. (
    λ c.
        let r = Contains-from_map ns c in
        let own = (are.1 r.0).0 r.1 in
        subst (LiesFrom m anchored text from) (sym (own-ending m text inside own) ∙ r.2)
        (own-lies anchor inside own, refl, refl, (own.0, own.1)),
    λ h.
        let entered : IsEntered m o.pattern h.0.same.0 =
        subst (λ p. IsEntered m o.pattern p) (same_Some h.3.0 h.0.same.0 (sym h.3.1.0 ∙ h.0.same.1)) h.3.1 in
        let own : IsOwn m (drop from text) o.pattern =
        subst (λ n. IsOwn m (drop n text) o.pattern) h.2 (own-of_ending h.0 h.1 entered) in
        let is : ending m text o.pattern ≡ o = own-ending m text inside own
        ∙ occurrence_from_parts refl (sym h.2) (sym h.1) in
        subst (λ x. Contains (map (ending m text) ns) x) is (Contains-map (ending m text) ns ((are.1 o.pattern).1 own)),
  ),
)

-- ---- what ends where the text ends, by places that are alive

-- An entered pattern that ends where the text ends starts at a place that is alive: under standard each, under a
-- leftmost kind the best.
pub ending-alive : {m : Dictionary} {text : List ℕ} {o : Occurrence} (h : Occurs (whole m text false) o)
    → o.end ≡ length text → IsEntered m o.pattern h.same.0
    → ((m.kind ≡ Standard) ⊎ IsBest m.kind (whole m text false) (Some o)) → IsAlive m false text o.start
ending-alive {m} {text} {o} h ends entered why =
    let w = h.within in
    record {
      within = omega arith;
      begins = entered-begins text [] (occurs-append m [] h) entered (omega arith) (omega arith);
      anchor = λ a. absurd (false≢true a);
      no_later =
          inr (⊎_elim inl
          (λ best.
          inr (λ other is. let e : other
          ≡ o = same_Some other o (best-unique m.kind (whole m text false) (omega arith) is best) in
          let s : other.start ≡ o.start = ap (λ x. x.start) e in omega arith)) why);
    }

-- a place of a text that is alive is alive in the rest from an earlier place that is alive
pub alive-in_rest : {m : Dictionary} {text : List ℕ} {from at : ℕ} → IsAlive m false text from → from ≤ at
    → IsAlive m false text at → IsAlive m false (drop from text) (at - from)
alive-in_rest {m} {text} first le alive =
    (alive-shifted first.within (λ leftmost o h. alive-first leftmost first h)).1
    (subst (λ n. IsAlive m false text n) (sym (from_behind le)) alive)

-- what is alive in the rest of the text is alive in the text
pub alive-of_rest : {m : Dictionary} {text : List ℕ} {from at : ℕ} → IsAlive m false text from
    → IsAlive m false (drop from text) at → IsAlive m false text (from + at)
alive-of_rest first alive =
    (alive-shifted first.within (λ leftmost o h. alive-first leftmost first h)).0 alive

-- where the rest of a text has no failure, the only place alive from there on is its start
pub rest-alone : {m : Dictionary} {text : List ℕ} {from at : ℕ} → IsFailure m (drop from text) None
    → IsAlive m false text from → from ≤ at → IsAlive m false text at → at ≡ from
rest-alone {from} {at} failure first le alive =
    ⊎_elim
    (λ (past : from < at). absurd (failure (at - from) (omega arith, alive-in_rest first le alive)))
    (λ (here : at ≤ from). omega arith)
    (cases_lt from at)

-- where the rest of a text has a failure, a place alive from there on is that place, or lies in the failure
pub rest-cases : {m : Dictionary} {text : List ℕ} {from at next : ℕ} → IsFailure m (drop from text) (Some next)
    → IsAlive m false text from → from ≤ at → IsAlive m false text at → (at ≡ from) ⊎ (from + next ≤ at)
rest-cases {from} {at} failure first le alive =
    ⊎_elim
    (λ (past : from < at). let found = failure.1 (at - from) (omega arith, alive-in_rest first le alive) in
    inr (omega arith))
    (λ (here : at ≤ from). inl (omega arith))
    (cases_lt from at)

-- ---- the standard kind

-- the occurrences that start at a place or later and end where the text ends
abbrev pub EndsFrom : Dictionary → List ℕ → ℕ → Occurrence → Type 0
EndsFrom m text from o = Occurs (whole m text false) o × (o.end ≡ length text) × (from ≤ o.start)

-- under standard, an occurrence that ends where the text ends starts at a place that is alive
standard-alive : {m : Dictionary} {text : List ℕ} {o : Occurrence} → m.kind ≡ Standard → Occurs (whole m text false) o
    → o.end ≡ length text → IsAlive m false text o.start
standard-alive {m} standard h ends = ending-alive h ends (standard-entered m standard h.same.1) (inl standard)

-- under standard, the list of the rest of a text has exactly the occurrences that start there or later and end where
-- the text ends
pub standard-list : {m : Dictionary} {rest ns : List ℕ} → IsList m rest ns → {text : List ℕ} {from : ℕ}
    → m.kind ≡ Standard → IsAlive m false text from → drop from text ≡ rest
    → ListsAll (EndsFrom m text from) (map (ending m text) ns)
standard-list {m} {ns} (OwnAlone _ _ are failure) standard alive is =
    let lists = own-lists ns (λ a. absurd (false≢true a)) alive.within (subst (λ xs. AreOwn m xs ns) (sym is) are) in (
      lists.0,
      λ o. (
        λ c. let h = (lists.1 o).0 c in let start = h.2 in (h.0, h.1, omega arith),
        λ h. (lists.1 o).1 (
          h.0,
          h.1,
          rest-alone (subst (λ xs. IsFailure m xs None) (sym is) failure) alive h.2 (standard-alive standard h.0 h.1),
          (h.0.same.0, standard-entered m standard h.0.same.1),
        ),
      ),
    )
standard-list {m} (OwnThen _ own more next are failure list) {text} {from} standard alive is =
    let failed : IsFailure m (drop from text) (Some next) = subst (λ xs. IsFailure m xs (Some next)) (sym is) failure in
    let inner = standard-list list standard (alive-of_rest alive failed.0.1)
    (sym (drop-drop next from text) ∙ ap (drop next) is) in
    let lists = own-lists own (λ a. absurd (false≢true a)) alive.within (subst (λ xs. AreOwn m xs own) (sym is) are) in
    let past = failed.0.0 in
    let both : map (ending m text) (own ++ more) ≡ map (ending m text) own ++ map (ending m text) more =
    map-append (ending m text) own more in
    subst (λ os. ListsAll (EndsFrom m text from) os) (sym both) (
      IsRising-append (map (ending m text) own) (map (ending m text) more) lists.0 inner.0
          (λ a b first second. let g = (lists.1 a).0 first in let h = (inner.1 b).0 second in let e = g.1 in
          let f = h.1 in let s = g.2 in let t = h.2 in less_by_start a b (omega arith) (omega arith)),
      λ o. (
        λ c. ⊎_elim
            (λ first. let h = (lists.1 o).0 first in let start = h.2 in
            let r : EndsFrom m text from o = (h.0, h.1, omega arith) in r)
            (λ second. let h = (inner.1 o).0 second in let start = h.2 in (h.0, h.1, omega arith))
            (Contains-append_cases (map (ending m text) own) (map (ending m text) more) o c),
        λ h. ⊎_elim
            (λ here. Contains-append_left (map (ending m text) own) (map (ending m text) more) o
            ((lists.1 o).1 (h.0, h.1, here, (h.0.same.0, standard-entered m standard h.0.same.1))))
            (λ later. Contains-append_right (map (ending m text) own) (map (ending m text) more) o
            ((inner.1 o).1 (h.0, h.1, later)))
            (rest-cases failed alive h.2 (standard-alive standard h.0 h.1)),
      ),
    )
