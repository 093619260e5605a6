-- A live prefix stands for every text that has it: it determines the best and what is live, whatever follows.
use Rattle.std.proofs.Common.{◌≡◌, ◌≢◌, ◌↔◌, inl, inr, ⊎_elim, ℕ, ◌+◌, ◌-◌, ◌<◌, ◌≤◌, Bool, true, false, List, [], ◌++◌, length, drop, Option, Some, None, slice_get, sym, ap, subst, refl, ◌∙◌, arith, length-append, length-drop}
use Rattle.std.proofs.lemmas.Bool.{false≢true, cases_lt}
use Rattle.std.proofs.lemmas.List.{drop-append-le, drop-drop}
use Rattle.ac_input.specs.declared.search.MatchKind.{MatchKind}
use Rattle.ac_input.specs.declared.search.MatchKind.TheVariants.{Standard, LeftmostFirst}
use Rattle.ac_input.specs.Occurrence.{Occurrence, Occurs}
use Rattle.ac_input.specs.Best.{IsBest}
use Rattle.ac_input.specs.Dictionary.{Dictionary, IsEntered, BeginsEntered, whole, IsAlive, IsLive}
use Rattle.ac_input.specs.Laws.LiveLaws.{shifted, shifted_best}
use Rattle.ac_input.proofs.lemmas.LiveLemmas.{occurs-append, occurs-front, entered-begins, best-entered, best-no_later, leftmost-no_later, whole-best_some, alive-front, kind_cases}
use Rattle.ac_input.proofs.lemmas.ShiftLemmas.{alive-first, best-shifted, back_by, shifted-back_by}

-- a place, shifted by this many bytes, where there is one
abbrev pub shifted_place : ℕ → Option ℕ → Option ℕ
shifted_place bytes None = None
shifted_place bytes (Some place) = Some (bytes + place)

-- a text has at most one live prefix
pub live-one : (m : Dictionary) (anchored : Bool) (text : List ℕ) (r s : Option ℕ) → IsLive m anchored text r
    → IsLive m anchored text s → r ≡ s
live-one m anchored text None None g h = refl
live-one m anchored text None (Some b) g h = absurd (g b h.0)
live-one m anchored text (Some a) None g h = absurd (h a g.0)
live-one m anchored text (Some a) (Some b) g h = let le = g.1 b h.0 in let ge = h.1 a g.0 in
    let e : a ≡ b = omega arith in ap Some e

-- no place before the live prefix becomes alive
pub live-behind : {m : Dictionary} {anchored : Bool} {text : List ℕ} (more : List ℕ) {from at : ℕ}
    → IsLive m anchored text (Some from) → IsAlive m anchored (text ++ more) at → from ≤ at
live-behind {text} more {at} live alive =
    let within = live.0.within in
    ⊎_elim
    (λ (past : length text < at). omega arith)
    (λ (inside : at ≤ length text). live.1 at (alive-front more inside alive))
    (cases_lt (length text) at)

-- as a text grows, its live prefix never begins sooner
pub live-forward : {m : Dictionary} {anchored : Bool} {text : List ℕ} (more : List ℕ) {before after : ℕ}
    → IsLive m anchored text (Some before) → IsLive m anchored (text ++ more) (Some after) → before ≤ after
live-forward more g h = live-behind more g h.0

-- under a leftmost kind the best of a text with more bytes starts in the live prefix of the text or later
best-behind : {m : Dictionary} {text : List ℕ} (more : List ℕ) {from : ℕ} {b : Occurrence} → m.kind ≢ Standard
    → IsLive m false text (Some from) → IsBest m.kind (whole m (text ++ more) false) (Some b) → from ≤ b.start
best-behind {m} {text} more {from} {b} leftmost live best =
    let within = live.0.within in
    ⊎_elim
    (λ (sooner : b.start < from).
    let inside : b.start ≤ length text = omega arith in
    ⊎_elim
    (λ (past : length text < b.end). live.1 b.start (record {
      within = inside;
      begins = entered-begins text more best.0 (best-entered false best best.0.same.1) inside (omega arith);
      anchor = λ a. absurd (false≢true a);
      no_later = inr (inr (λ other is. best-no_later m.kind m more is best));
    }))
    (λ (lies : b.end ≤ length text). alive-first leftmost live.0 (occurs-front m more lies best.0))
    (cases_lt (length text) b.end))
    (λ (le : from ≤ b.start). le)
    (cases_lt b.start from)

-- under a leftmost kind every occurrence in a text with more bytes starts in the live prefix of the text or later
pub occurs-behind : {m : Dictionary} {text : List ℕ} (more : List ℕ) {from : ℕ} {o : Occurrence} → m.kind ≢ Standard
    → IsLive m false text (Some from) → Occurs (whole m (text ++ more) false) o → from ≤ o.start
occurs-behind {m} more {o} leftmost live h =
    let best = whole-best_some m.kind m h in
    let first = best-behind more leftmost live best.1 in
    let le = leftmost-no_later m.kind best.0 o leftmost (best.1.1 o h) in
    omega arith

-- under a leftmost kind the best of a text with more bytes is that of its live prefix with those bytes, shifted
pub live-best : (m : Dictionary) (kind : MatchKind) (text more : List ℕ) (from : ℕ) (r : Option Occurrence)
    → m.kind ≢ Standard → IsLive m false text (Some from)
    → IsBest kind (whole m (drop from text ++ more) false) r
    ↔ IsBest kind (whole m (text ++ more) false) (shifted_best from r)
live-best m kind text more from r leftmost live =
    let within = live.0.within in
    let both = length-append text more in
    let split : drop from (text ++ more) ≡ drop from text ++ more = drop-append-le from text more within in
    subst (λ xs. IsBest kind (whole m xs false) r ↔ IsBest kind (whole m (text ++ more) false) (shifted_best from r))
    split
    (best-shifted kind m r (omega arith) (λ o h. occurs-behind more leftmost live h))

-- under the standard kind each pattern is entered
pub standard-entered : (m : Dictionary) {n : ℕ} {p : List ℕ} → m.kind ≡ Standard → slice_get m.patterns n ≡ Some p
    → IsEntered m n p
standard-entered m standard is = (is, λ first. let e : Standard ≡ LeftmostFirst = sym standard ∙ first in cc)

-- under any kind, an occurrence that ends where the text ends or later starts in its live prefix or later
pub new-behind : {m : Dictionary} (anchored : Bool) {text : List ℕ} (more : List ℕ) {from : ℕ} {o : Occurrence}
    → IsLive m anchored text (Some from) → Occurs (whole m (text ++ more) anchored) o → length text ≤ o.end
    → from ≤ o.start
new-behind true more {from} live h past = let first : from ≡ 0 = live.0.anchor refl in omega arith
new-behind {m} false {text} more {o} live h past =
    let within = live.0.within in
    ⊎_elim
    (λ (standard : m.kind ≡ Standard).
    ⊎_elim
    (λ (behind : length text < o.start). omega arith)
    (λ (inside : o.start ≤ length text). live.1 o.start (record {
      within = inside;
      begins = entered-begins text more h (standard-entered m standard h.same.1) inside past;
      anchor = λ a. absurd (false≢true a);
      no_later = inr (inl standard);
    }))
    (cases_lt (length text) o.start))
    (λ (leftmost : m.kind ≢ Standard). occurs-behind more leftmost live h)
    (kind_cases m.kind)

-- under any kind, the best of a text with more bytes is that of its live prefix with them, if nothing ends before the
-- text does
pub live-new : (m : Dictionary) (kind : MatchKind) (text more : List ℕ) (from : ℕ) (r : Option Occurrence)
    → IsLive m false text (Some from)
    → ((o : Occurrence) → Occurs (whole m (text ++ more) false) o → length text ≤ o.end)
    → IsBest kind (whole m (drop from text ++ more) false) r
    ↔ IsBest kind (whole m (text ++ more) false) (shifted_best from r)
live-new m kind text more from r live ends =
    let within = live.0.within in
    let both = length-append text more in
    let split : drop from (text ++ more) ≡ drop from text ++ more = drop-append-le from text more within in
    subst (λ xs. IsBest kind (whole m xs false) r ↔ IsBest kind (whole m (text ++ more) false) (shifted_best from r))
    split
    (best-shifted kind m r (omega arith) (λ o h. new-behind false more live h (ends o h)))

-- under any kind, the best of a text is that of its live prefix, if nothing ends before the text does
pub live-new_here : (m : Dictionary) (kind : MatchKind) (text : List ℕ) (from : ℕ) (r : Option Occurrence)
    → IsLive m false text (Some from) → ((o : Occurrence) → Occurs (whole m text false) o → o.end ≡ length text)
    → IsBest kind (whole m (drop from text) false) r ↔ IsBest kind (whole m text false) (shifted_best from r)
live-new_here m kind text from r live ends =
    best-shifted kind m r live.0.within
    (λ o h. new-behind false [] live (occurs-append m [] h) (let e = ends o h in omega arith))

-- where nothing occurs before a place, what is alive in the suffix from there is alive in the text, shifted
pub alive-shifted : {m : Dictionary} {text : List ℕ} {from at : ℕ} → from ≤ length text
    → (m.kind ≢ Standard → (o : Occurrence) → Occurs (whole m text false) o → from ≤ o.start)
    → IsAlive m false (drop from text) at ↔ IsAlive m false text (from + at)
alive-shifted {m} {text} {from} {at} inside behind =
    let long = length-drop from text in
    let rest : drop at (drop from text) ≡ drop (from + at) text = drop-drop at from text in (
      λ alive.
          let within = alive.within in
          record {
            within = omega arith;
            begins = subst (λ xs. BeginsEntered m xs) rest alive.begins;
            anchor = λ a. absurd (false≢true a);
            no_later = inr (⊎_elim inl (λ leftmost. inr (λ best is. forth leftmost best is alive)) (kind_cases m.kind));
          },
      λ alive.
          let within = alive.within in
          record {
            within = omega arith;
            begins = subst (λ xs. BeginsEntered m xs) (sym rest) alive.begins;
            anchor = λ a. absurd (false≢true a);
            no_later = inr (⊎_elim inl (λ leftmost. inr (λ best is. back leftmost best is alive)) (kind_cases m.kind));
          },
    )
  where
    forth : m.kind ≢ Standard → (best : Occurrence) → IsBest m.kind (whole m text false) (Some best)
        → IsAlive m false (drop from text) at → from + at ≤ best.start
    forth leftmost best is alive =
        let first = behind leftmost best is.0 in
        let here : IsBest m.kind (whole m (drop from text) false)
        (Some (back_by from best)) = (best-shifted m.kind m (Some (back_by from best)) inside (behind leftmost)).1
        (subst (λ o. IsBest m.kind (whole m text false) (Some o)) (sym (shifted-back_by first is.0.within.1)) is) in
        ⊎_elim
        (λ anchor. absurd (false≢true anchor))
        (λ unanchored. ⊎_elim (λ standard. absurd (leftmost standard))
        (λ before. let le = before (back_by from best) here in omega arith) unanchored)
        alive.no_later

    back : m.kind ≢ Standard → (best : Occurrence) → IsBest m.kind (whole m (drop from text) false) (Some best)
        → IsAlive m false text (from + at) → at ≤ best.start
    back leftmost best is alive =
        let there : IsBest m.kind (whole m text false) (Some (shifted from best)) =
        (best-shifted m.kind m (Some best) inside (behind leftmost)).0 is in
        ⊎_elim
        (λ anchor. absurd (false≢true anchor))
        (λ unanchored. ⊎_elim (λ standard. absurd (leftmost standard))
        (λ before. let le = before (shifted from best) there in omega arith) unanchored)
        alive.no_later

-- what is alive of a live prefix with more bytes is alive of the text with those bytes, shifted
pub alive-of_live : {m : Dictionary} {text : List ℕ} (more : List ℕ) {from at : ℕ} → IsLive m false text (Some from)
    → IsAlive m false (drop from text ++ more) at ↔ IsAlive m false (text ++ more) (from + at)
alive-of_live {m} {text} more {from} {at} live =
    let within = live.0.within in
    let both = length-append text more in
    let split : drop from (text ++ more) ≡ drop from text ++ more = drop-append-le from text more within in
    subst (λ xs. IsAlive m false xs at ↔ IsAlive m false (text ++ more) (from + at)) split
    (alive-shifted (omega arith) (λ leftmost o h. occurs-behind more leftmost live h))

-- a place after the live prefix's beginning, counted from there
pub from_behind : {from at : ℕ} → from ≤ at → from + (at - from) ≡ at
from_behind le = omega arith

-- what is live of a text with more bytes is what is live of its live prefix with those bytes, shifted
pub live-of_live : {m : Dictionary} {text : List ℕ} (more : List ℕ) {from : ℕ} (r : Option ℕ)
    → IsLive m false text (Some from)
    → IsLive m false (drop from text ++ more) r ↔ IsLive m false (text ++ more) (shifted_place from r)
live-of_live {m} {text} more {from} r live = by r
  where
    here : (at : ℕ) → IsAlive m false (text ++ more) at → IsAlive m false (drop from text ++ more) (at - from)
    here at alive =
        (alive-of_live more live).1
        (subst (λ n. IsAlive m false (text ++ more) n) (sym (from_behind (live-behind more live alive))) alive)

    by : (r : Option ℕ) → IsLive m false (drop from text ++ more) r
        ↔ IsLive m false (text ++ more) (shifted_place from r)
    by None = (
      λ none. λ at alive. none (at - from) (here at alive),
      λ none. λ at alive. none (from + at) ((alive-of_live more live).0 alive),
    )
    by (Some n) = (
      λ is. (
        (alive-of_live more live).0 is.0,
        λ another alive. let le = is.1 (another - from) (here another alive) in
            let behind = live-behind more live alive in omega arith,
      ),
      λ is. (
        (alive-of_live more live).1 is.0,
        λ another alive. let le = is.1 (from + another) ((alive-of_live more live).0 alive) in omega arith,
      ),
    )
