-- Each text has a live prefix or is dead, has a failure or none, and has own patterns and a list. All of it is
-- decidable.
use Rattle.std.proofs.Common.{◌≡◌, ◌⊎◌, inl, inr, ⊎_elim, ℕ, zero, suc, ◌+◌, ◌<◌, ◌≤◌, Bool, true, false, map, List, [], ◌∷◌, ◌++◌, length, drop, Option, Some, None, IsTrue, sym, subst, refl, ◌∙◌, arith}
use Rattle.std.proofs.lemmas.Bool.{cases_lt, cases_eq, false≢true}
use Rattle.std.proofs.lemmas.Option.{slice_get_cases, same_Some, none-some}
use Rattle.ac_input.specs.Same.{same_text}
use Rattle.ac_input.specs.Occurrence.{Occurrence}
use Rattle.ac_input.specs.Best.{IsBest}
use Rattle.ac_input.specs.Dictionary.{Dictionary, IsEntered, BeginsEntered, whole, IsAlive, IsLive}
use Rattle.ac_input.specs.Laws.LiveLaws.{canonical}
use Rattle.ac_input.specs.Failure.{IsLeastPlace, IsFailure, IsOwn, AreOwn, IsList, OwnAlone, OwnThen}
use Rattle.ac_input.specs.Limits.{first_patterns}
use Rattle.ac_input.proofs.lemmas.BestLemmas.{best-unique}
use Rattle.ac_input.proofs.lemmas.LiveLemmas.{whole-best, kind_cases}
use Rattle.ac_input.proofs.lemmas.FailureLemmas.{live-least, failure-shorter}
use Rattle.ac_input.proofs.lemmas.AlikeLemmas.{canonical-text, canonical-like, begins-same}
use Rattle.ac_input.proofs.lemmas.SameLemmas.{same_text-back}
use Rattle.ac_input.proofs.lemmas.TrieLemmas.{first-none, first-all, owns-push, owns-kept}
use Rattle.ac_input.proofs.lemmas.StatesLemmas.{prefixes-some, member_cases, test_cases, entered_cases}

-- whether a text begins an entered pattern
pub begins_cases : (m : Dictionary) (text : List ℕ) → BeginsEntered m text ⊎ (¬ BeginsEntered m text)
begins_cases m [] = inl tt
begins_cases m (b ∷ bs) =
    let text = b ∷ bs in
    let known = map (canonical m.pairing) text in
    let like = canonical-like m.pairing text in
    let all = prefixes-some m in
    ⊎_elim
    (λ listed. inl (begins-same m known text (same_text-back m.pairing text known like) ((all.1 known).0 listed).2))
    (λ none.
    inr (λ begins.
    none ((all.1 known).1 (λ e. cc, canonical-text m.pairing text, begins-same m text known like begins))))
    (member_cases all.0)

-- whether the best, where there is one, starts no sooner than a place
best_cases : (m : Dictionary) {text : List ℕ} {from : ℕ}
    → ((best : Occurrence) → IsBest m.kind (whole m text false) (Some best) → from ≤ best.start)
    ⊎ (¬ ((best : Occurrence) → IsBest m.kind (whole m text false) (Some best) → from ≤ best.start))
best_cases m {text} {from} = by (whole-best m.kind m).0 (whole-best m.kind m).1
  where
    by : (r : Option Occurrence) → IsBest m.kind (whole m text false) r
        → ((best : Occurrence) → IsBest m.kind (whole m text false) (Some best) → from ≤ best.start)
        ⊎ (¬ ((best : Occurrence) → IsBest m.kind (whole m text false) (Some best) → from ≤ best.start))
    by None none = inl (λ best is. absurd (none best is.0))
    by (Some b) best = ⊎_elim
        (λ (sooner : b.start < from). inr (λ h. let le = h b best in omega arith))
        (λ (le : from ≤ b.start). inl
        (λ other is. subst (λ c. from ≤ c.start)
        (same_Some b other (best-unique m.kind (whole m text false) (omega arith) best is)) le))
        (cases_lt b.start from)

-- whether a place is alive
alive_cases : (m : Dictionary) (anchored : Bool) (text : List ℕ) (from : ℕ)
    → IsAlive m anchored text from ⊎ (¬ IsAlive m anchored text from)
alive_cases m anchored text from =
    ⊎_elim
    (λ (past : length text < from). inr (λ alive. let le = alive.within in omega arith))
    (λ (within : from ≤ length text).
    ⊎_elim
    (λ begins. by anchored within begins)
    (λ none. inr (λ alive. none alive.begins))
    (begins_cases m (drop from text)))
    (cases_lt (length text) from)
  where
    by : (anchored : Bool) → from ≤ length text → BeginsEntered m (drop from text)
        → IsAlive m anchored text from ⊎ (¬ IsAlive m anchored text from)
    by true within begins = ⊎_elim
        (λ (first : from ≡ 0).
        inl (record { within = within; begins = begins; anchor = λ _. first; no_later = inl refl }))
        (λ apart. inr (λ alive. apart (alive.anchor refl)))
        (cases_eq from 0)
    by false within begins = ⊎_elim
        (λ standard.
        inl (record {
          within = within;
          begins = begins;
          anchor = λ a. absurd (false≢true a);
          no_later = inr (inl standard);
        }))
        (λ leftmost. ⊎_elim
        (λ before.
        inl (record {
          within = within;
          begins = begins;
          anchor = λ a. absurd (false≢true a);
          no_later = inr (inr before);
        }))
        (λ none.
        inr (λ alive. ⊎_elim (λ anchor. false≢true anchor) (λ unanchored. ⊎_elim leftmost none unanchored)
        alive.no_later))
        (best_cases m))
        (kind_cases m.kind)

-- a fact of places that is decidable holds at a least place, or nowhere below a bound
least_below : (P : ℕ → Type 0) → ((at : ℕ) → P at ⊎ (¬ P at)) → (bound : ℕ)
    → ((at : ℕ) × P at × ((another : ℕ) → P another → at ≤ another)) ⊎ ((at : ℕ) → at < bound → ¬ P at)
least_below P told zero = inr (λ at lt p. omega arith)
least_below P told (suc bound) =
    let rest = least_below P told bound in
    ⊎_elim
    inl
    (λ none. ⊎_elim
    (λ here.
    inl (
      bound,
      here,
      λ another p. ⊎_elim (λ (lt : another < bound). absurd (none another lt p)) (λ (le : bound ≤ another). le)
          (cases_lt another bound),
    ))
    (λ not_here.
    inr (λ at lt p. ⊎_elim (λ (less : at < bound). none at less p)
    (λ (ge : bound ≤ at). let e : at ≡ bound = omega arith in not_here (subst P e p)) (cases_lt at bound)))
    (told bound))
    rest

-- a decidable fact that holds nowhere past a bound has a least place, or none
least_some : (P : ℕ → Type 0) → ((at : ℕ) → P at ⊎ (¬ P at)) → (bound : ℕ) → ((at : ℕ) → P at → at < bound)
    → (r : Option ℕ) × IsLeastPlace P r
least_some P told bound within =
    ⊎_elim
    (λ found. let r : (s : Option ℕ) × IsLeastPlace P s = (Some found.0, (found.1, found.2)) in r)
    (λ none. (None, λ at p. none at (within at p) p))
    (least_below P told bound)

-- a text has a live prefix, or is dead
pub live-some : {m : Dictionary} {anchored : Bool} {text : List ℕ} → (r : Option ℕ) × IsLive m anchored text r
live-some {m} {anchored} {text} =
    let least = least_some (IsAlive m anchored text) (λ at. alive_cases m anchored text at) (length text + 1)
    (λ at alive. let le = alive.within in omega arith) in
    (least.0, (live-least m anchored text least.0).1 least.1)

-- a text has a failure, or none
pub failure-some : {m : Dictionary} {text : List ℕ} → (r : Option ℕ) × IsFailure m text r
failure-some {m} {text} =
    least_some (λ (at : ℕ). (1 ≤ at) × IsAlive m false text at)
    (λ at. ⊎_elim (λ (first : at < 1). inr (λ h. let le = h.0 in omega arith))
    (λ (le : 1 ≤ at). ⊎_elim (λ alive. inl (le, alive)) (λ dead. inr (λ h. dead h.1)) (alive_cases m false text at))
    (cases_lt at 1))
    (length text + 1) (λ at h. let le = h.1.within in omega arith)

-- whether a pattern is an own pattern of a text
own_cases : (m : Dictionary) {text : List ℕ} {n : ℕ} → IsOwn m text n ⊎ (¬ IsOwn m text n)
own_cases m {text} {n} =
    ⊎_elim
    (λ found. ⊎_elim
    (λ entered. ⊎_elim
    (λ same. inl (found.0, entered, same))
    (λ apart.
    inr (λ own.
    apart (subst (λ p. IsTrue (same_text m.pairing p text)) (same_Some own.0 found.0 (sym own.1.0 ∙ found.2)) own.2)))
    (test_cases (same_text m.pairing found.0 text)))
    (λ none. inr (λ own. none (subst (λ p. IsEntered m n p) (same_Some own.0 found.0 (sym own.1.0 ∙ found.2)) own.1)))
    (entered_cases m found.2))
    (λ past. inr (λ own. none-some own.0 (sym past.1 ∙ own.1.0)))
    (slice_get_cases m.patterns n).1

-- a text has a list of its own patterns among the first n
owns-first : (m : Dictionary) {text : List ℕ} (count : ℕ) → (ns : List ℕ) × AreOwn (first_patterns m count) text ns
owns-first m {text} zero = ([], (first-none m text).0)
owns-first m {text} (suc count) =
    let before = owns-first m count in
    let next : (ns : List ℕ) × AreOwn (first_patterns m (count + 1)) text ns = ⊎_elim
    (λ own. (before.0 ++ count ∷ [], owns-push m before.0 before.1 own))
    (λ none. (before.0, owns-kept m before.0 before.1 none))
    (own_cases m) in
    let e : count + 1 ≡ suc count = omega arith in
    subst (λ k. (ns : List ℕ) × AreOwn (first_patterns m k) text ns) e next

-- a text has a list of its own patterns
pub owns-some : (m : Dictionary) {text : List ℕ} → (ns : List ℕ) × AreOwn m text ns
owns-some m {text} =
    let all = owns-first m (length m.patterns) in
    (all.0, subst (λ d. AreOwn d text all.0) (first-all (omega arith)) all.1)

-- a text shorter than a bound has a list
list-within : (m : Dictionary) (bound : ℕ) (text : List ℕ) → length text < bound → (ns : List ℕ) × IsList m text ns
list-within m zero text lt = absurd (omega arith)
list-within m (suc bound) text lt = by (failure-some).0 (failure-some).1 (list-within m bound)
  where
    own : (ns : List ℕ) × AreOwn m text ns
    own = owns-some m

    by : (r : Option ℕ) → IsFailure m text r
        → ((rest : List ℕ) → length rest < bound → (ns : List ℕ) × IsList m rest ns) → (ns : List ℕ) × IsList m text ns
    by None failure inner = (own.0, OwnAlone text own.0 own.1 failure)
    by (Some from) failure inner =
        let shorter = failure-shorter failure in
        let rest = inner (drop from text) (omega arith) in
        (own.0 ++ rest.0, OwnThen text own.0 rest.0 from own.1 failure rest.1)

-- a text has a list
pub list-some : {m : Dictionary} {text : List ℕ} → (ns : List ℕ) × IsList m text ns
list-some {m} {text} = list-within m (length text + 1) text (omega arith)
