-- The list of a state meets the state law: it says what the law requires about each text that reaches the state.
use Rattle.std.proofs.Common.{◌≡◌, ◌≢◌, ◌↔◌, inr, ⊎_elim, ℕ, ◌≤◌, Bool, true, false, List, [], ◌∷◌, ◌++◌, length, drop, Option, Some, None, get_or, eqb, cond, sym, ap, ap₂, subst, refl, ◌∙◌, arith, length-append, length-drop, append-nil}
use Rattle.std.specs.List.{Contains, filter}
use Rattle.std.proofs.lemmas.Bool.{false≢true, eq-eqb, eqb-true, false_from_ne_true}
use Rattle.std.proofs.lemmas.List.Elements.{Contains-append_cases, filter-append}
use Rattle.std.proofs.lemmas.Option.{get_or_from_slice_get, same_Some}
use Rattle.ac_input.specs.declared.search.MatchKind.{MatchKind}
use Rattle.ac_input.specs.declared.search.MatchKind.TheVariants.{Standard, LeftmostFirst, LeftmostLongest}
use Rattle.ac_input.specs.declared.search.Anchored.TheVariants.{No, Yes}
use Rattle.ac_input.specs.Occurrence.{Occurrence}
use Rattle.ac_input.specs.Best.{IsBest}
use Rattle.ac_input.specs.Dictionary.{Dictionary, IsEntered, whole, IsLive}
use Rattle.ac_input.specs.Tells.{ending, before_last, TellsUnanchored, Tells}
use Rattle.ac_input.specs.Failure.{IsOwn, AreOwn, IsList, OwnAlone, OwnThen}
use Rattle.ac_input.proofs.lemmas.ContainsLemmas.{Contains-nil, Contains-head, Contains-tail}
use Rattle.ac_input.proofs.lemmas.OrderLemmas.{same_text-length}
use Rattle.ac_input.proofs.lemmas.LiveLemmas.{occurs-append, whole-best_some, best-entered, final-from_lies, dead-best, kind_cases}
use Rattle.ac_input.proofs.lemmas.ShiftLemmas.{alive-first}
use Rattle.ac_input.proofs.lemmas.StateLemmas.{new-behind}
use Rattle.ac_input.proofs.lemmas.FailureLemmas.{own-begins, own-of_ending, alive-beginning}
use Rattle.ac_input.proofs.lemmas.StateListLemmas.{own-lists, standard-list, ending-alive}
use Rattle.ac_input.proofs.lemmas.LeftmostListLemmas.{leftmost-list, leftmost-empty}

-- ---- a text whose best does not end where it ends

-- a text that isn't empty is all but its last byte, and then that byte
pub split-last : (b : ℕ) (bs : List ℕ) → (last : ℕ) × (before_last (b ∷ bs) ++ last ∷ [] ≡ b ∷ bs)
split-last b [] = (b, refl)
split-last b (c ∷ cs) = let r = split-last c cs in (r.0, ap (◌∷◌ b) r.1)

-- the empty text has no best, if its best would not end at 0
quiet-empty : (kind : MatchKind) (m : Dictionary)
    → ((b : Occurrence) → IsBest kind (whole m [] false) (Some b) → b.end ≢ 0) → IsBest kind (whole m [] false) None
quiet-empty kind m ends = λ o h. let best = whole-best_some kind m h in let w = best.1.0.within in
    ends best.0 best.1 (omega arith)

-- if the best of a text does not end where the text ends, the text without its last byte has the same best
quiet-more : (kind : MatchKind) (m : Dictionary) {b : ℕ} {bs : List ℕ}
    → ((o : Occurrence) → IsBest kind (whole m (b ∷ bs) false) (Some o) → o.end ≢ length (b ∷ bs))
    → (r : Option Occurrence) → IsBest kind (whole m (before_last (b ∷ bs)) false) r
    ↔ IsBest kind (whole m (b ∷ bs) false) r
quiet-more kind m {b} {bs} ends r =
    let split = split-last b bs in
    let both = length-append (before_last (b ∷ bs)) (split.0 ∷ []) in
    let long : length (before_last (b ∷ bs) ++ split.0 ∷ []) ≡ length (b ∷ bs) = ap length split.1 in
    subst (λ xs. IsBest kind (whole m (before_last (b ∷ bs)) false) r ↔ IsBest kind (whole m xs false) r) split.1
    (final-from_lies kind m (before_last (b ∷ bs)) (split.0 ∷ [])
    (λ o best. let is = subst (λ xs. IsBest kind (whole m xs false) (Some o)) split.1 best in let apart = ends o is in
    let w = is.0.within in omega arith) r)

-- under a leftmost kind the empty list describes a text whose best does not end where the text ends
pub tells-quiet : (kind : MatchKind) (m : Dictionary) (text : List ℕ) → kind ≢ Standard
    → ((b : Occurrence) → IsBest kind (whole m text false) (Some b) → b.end ≢ length text)
    → TellsUnanchored kind m text []
tells-quiet Standard m text leftmost ends = absurd (leftmost refl)
tells-quiet LeftmostFirst m [] leftmost ends = quiet-empty LeftmostFirst m ends
tells-quiet LeftmostLongest m [] leftmost ends = quiet-empty LeftmostLongest m ends
tells-quiet LeftmostFirst m (b ∷ bs) leftmost ends = quiet-more LeftmostFirst m ends
tells-quiet LeftmostLongest m (b ∷ bs) leftmost ends = quiet-more LeftmostLongest m ends

-- under a leftmost kind a list that begins with the best describes the text
pub tells-best : (kind : MatchKind) (m : Dictionary) (text : List ℕ) {n : ℕ} (ns : List ℕ) → kind ≢ Standard
    → IsBest kind (whole m text false) (Some (ending m text n)) → TellsUnanchored kind m text (n ∷ ns)
tells-best Standard m text ns leftmost best = absurd (leftmost refl)
tells-best LeftmostFirst m [] ns leftmost best = best
tells-best LeftmostFirst m (b ∷ bs) ns leftmost best = best
tells-best LeftmostLongest m [] ns leftmost best = best
tells-best LeftmostLongest m (b ∷ bs) ns leftmost best = best

-- ---- from the unanchored start

-- under a leftmost kind the list of the live prefix describes the text
tells-leftmost : (m : Dictionary) (text : List ℕ) (from : ℕ) (ns : List ℕ) → m.kind ≢ Standard
    → IsLive m false text (Some from) → IsList m (drop from text) ns → TellsUnanchored m.kind m text ns
tells-leftmost m text from [] leftmost live list =
    tells-quiet m.kind m text leftmost
    (λ b best. leftmost-empty list leftmost live.0 refl refl best (alive-first leftmost live.0 best.0))
tells-leftmost m text from (n ∷ ns) leftmost live list =
    tells-best m.kind m text ns leftmost (leftmost-list list leftmost live.0 refl refl)

-- under standard the list of the live prefix describes the text
tells-standard : {m : Dictionary} {text : List ℕ} {from : ℕ} {ns : List ℕ} → m.kind ≡ Standard
    → IsLive m false text (Some from) → IsList m (drop from text) ns → TellsUnanchored Standard m text ns
tells-standard {m} standard live list =
    let lists = standard-list list standard live.0 refl in (
      lists.0,
      λ o. (
        λ c. let h = (lists.1 o).0 c in (h.0, h.1),
        λ h. let ends = h.1 in
            (lists.1 o).1 (h.0, h.1, new-behind false [] live (occurs-append m [] h.0) (omega arith)),
      ),
    )

-- the list of the live prefix describes the text, whatever the kind
pub tells-live : {m : Dictionary} {text : List ℕ} {from : ℕ} {ns : List ℕ} → IsLive m false text (Some from)
    → IsList m (drop from text) ns → Tells m No text ns
tells-live {m} {text} {from} {ns} live list =
    ⊎_elim
    (λ (standard : m.kind ≡ Standard).
    subst (λ kind. TellsUnanchored kind m text ns) (sym standard) (tells-standard standard live list))
    (λ (leftmost : m.kind ≢ Standard). tells-leftmost m text from ns leftmost live list)
    (kind_cases m.kind)

-- an empty list describes a dead text
pub tells-dead : (m : Dictionary) (text : List ℕ) → IsLive m false text None → Tells m No text []
tells-dead m text dead =
    tells-quiet m.kind m text (dead-best dead).0
    (λ b best ends. dead b.start (ending-alive best.0 ends (best-entered false best best.0.same.1) (inr best)))

-- ---- from the anchored start

-- own patterns are as long as their text
own-long : (m : Dictionary) {text : List ℕ} {n : ℕ} → IsOwn m text n → length (get_or m.patterns n []) ≡ length text
own-long m {text} {n} own =
    ap length (get_or_from_slice_get m.patterns n own.0 [] own.1.0) ∙ same_text-length m.pairing own.0 text own.2

-- no pattern of a list is longer than its text
list-within : {m : Dictionary} {text ns : List ℕ} → IsList m text ns → {n : ℕ} → Contains ns n
    → length (get_or m.patterns n []) ≤ length text
list-within {m} (OwnAlone _ _ are failure) {n} c = let e = own-long m ((are.1 n).0 c) in omega arith
list-within {m} {text} (OwnThen _ own rest from are failure list) {n} c =
    ⊎_elim
    (λ here. let e = own-long m ((are.1 n).0 here) in omega arith)
    (λ there. let le = list-within list there in let left = length-drop from text in omega arith)
    (Contains-append_cases own rest n c)

-- a filter that all elements pass leaves the list unchanged
filter_whole : {X : Type 0} {p : X → Bool} (xs : List X) → ((x : X) → Contains xs x → p x ≡ true) → filter p xs ≡ xs
filter_whole [] h = refl
filter_whole {p} (x ∷ xs) h = kept (p x) (h x (Contains-head xs)) (filter_whole xs (λ y c. h y (Contains-tail xs c)))
  where
    kept : (b : Bool) → b ≡ true → filter p xs ≡ xs → cond b (x ∷ filter p xs) (filter p xs) ≡ x ∷ xs
    kept true e rest = ap (λ ys. x ∷ ys) rest
    kept false e rest = absurd (false≢true e)

-- a filter that no element passes leaves the empty list
filter_none : {X : Type 0} {p : X → Bool} (xs : List X) → ((x : X) → Contains xs x → p x ≡ false) → filter p xs ≡ []
filter_none [] h = refl
filter_none {p} (x ∷ xs) h = kept (p x) (h x (Contains-head xs)) (filter_none xs (λ y c. h y (Contains-tail xs c)))
  where
    kept : (b : Bool) → b ≡ false → filter p xs ≡ [] → cond b (x ∷ filter p xs) (filter p xs) ≡ []
    kept true e rest = absurd (false≢true (sym e))
    kept false e rest = rest

-- a pattern is as long as the text
abbrev is_as_long : Dictionary → List ℕ → ℕ → Bool
is_as_long m text n = eqb (length (get_or m.patterns n [])) (length text)

-- own patterns pass the test of their length
owns-long : (m : Dictionary) {text own : List ℕ} → AreOwn m text own → filter (is_as_long m text) own ≡ own
owns-long m {own} are = filter_whole own (λ n c. eq-eqb _ _ (own-long m ((are.1 n).0 c)))

-- those entries of a list that are as long as its text are its own patterns
list-own : (m : Dictionary) (text ns : List ℕ) → IsList m text ns → AreOwn m text (filter (is_as_long m text) ns)
list-own m text ns (OwnAlone _ _ are failure) = subst (λ ks. AreOwn m text ks) (sym (owns-long m are)) are
list-own m text ns (OwnThen _ own rest from are failure list) =
    let none : filter (is_as_long m text) rest
    ≡ [] = filter_none rest
    (λ n c. false_from_ne_true _
    (λ e. let same = eqb-true _ _ e in let le = list-within list c in let left = length-drop from text in
    let past = failure.0.0 in let inside = failure.0.1.within in absurd (omega arith))) in
    let all : filter (is_as_long m text) (own ++ rest) ≡ own = filter-append (is_as_long m text) own rest
    ∙ ap₂ ◌++◌ (owns-long m are) none ∙ append-nil own in
    subst (λ ks. AreOwn m text ks) (sym all) are

-- from the anchored start a state's list describes its text
pub tells-anchored : (m : Dictionary) (text ns : List ℕ) → IsList m text ns → Tells m Yes text ns
tells-anchored m text ns list =
    let lists = own-lists (filter (is_as_long m text) ns) (λ _. refl) (omega arith) (list-own m text ns list) in (
      lists.0,
      λ o. (
        λ c. let h = (lists.1 o).0 c in (h.0, h.1, h.3),
        λ h. (lists.1 o).1 (h.0, h.1, h.0.anchor refl, h.2),
      ),
    )

-- from the anchored start an empty list describes a dead text
pub tells-anchored_dead : (m : Dictionary) (text : List ℕ) → IsLive m true text None → Tells m Yes text []
tells-anchored_dead m text dead = (
  tt,
  λ o. (
    λ c. absurd (Contains-nil c),
    λ h.
        let start : o.start ≡ 0 = h.0.anchor refl in
        let entered : IsEntered m o.pattern h.0.same.0 =
        subst (λ p. IsEntered m o.pattern p) (same_Some h.2.0 h.0.same.0 (sym h.2.1.0 ∙ h.0.same.1)) h.2.1 in
        let own : IsOwn m text o.pattern =
        subst (λ i. IsOwn m (drop i text) o.pattern) start (own-of_ending h.0 h.1 entered) in
        absurd (dead 0 (alive-beginning (own-begins m own))),
  ),
)
