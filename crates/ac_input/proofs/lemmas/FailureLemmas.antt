-- What is live after one more byte, by failure links; and the failure of a text, by the failure of the text without its
-- last byte.
use Rattle.std.proofs.Common.{◌≡◌, ◌≢◌, ◌⊎◌, ◌↔◌, inl, inr, ⊎_elim, ℕ, ◌+◌, ◌-◌, ◌<◌, ◌≤◌, Bool, true, false, List, [], ◌∷◌, ◌++◌, length, drop, take, Option, Some, None, IsTrue, sym, ap, subst, refl, arith, length-append, length-drop, append-nil}
use Rattle.std.proofs.lemmas.Bool.{false≢true, cases_lt}
use Rattle.std.proofs.lemmas.List.{drop-append-le, take_all, nil_from_length}
use Rattle.std.proofs.lemmas.Option.{same_Some}
use Rattle.ac_input.specs.declared.search.MatchKind.TheVariants.{Standard}
use Rattle.ac_input.specs.Same.{same_text}
use Rattle.ac_input.specs.Occurrence.{Occurrence, Occurs}
use Rattle.ac_input.specs.Best.{IsBest}
use Rattle.ac_input.specs.Dictionary.{Dictionary, IsEntered, BeginsEntered, whole, IsAlive, IsLive}
use Rattle.ac_input.specs.Computed.{best_of}
use Rattle.ac_input.specs.Failure.{IsLeastPlace, IsFailure, IsOwn}
use Rattle.ac_input.proofs.lemmas.BestLemmas.{best_of-best, best-unique}
use Rattle.ac_input.proofs.lemmas.OrderLemmas.{same_text-length}
use Rattle.ac_input.proofs.lemmas.SameLemmas.{same_text-back}
use Rattle.ac_input.proofs.lemmas.LiveLemmas.{BeginsEntered-from, occurs-append, occurs-front, entered-begins, best-entered, best-no_later, leftmost-no_later, whole-best_some, alive-front, alive-end, kind_cases}
use Rattle.ac_input.proofs.lemmas.ShiftLemmas.{alive-first}
use Rattle.ac_input.proofs.lemmas.StateLemmas.{alive-shifted, from_behind, shifted_place}

-- ---- least places

-- the least place moves on by as many bytes as all places do
least-shifted : {P Q : ℕ → Type 0} {from : ℕ} → ((at : ℕ) → P at → Q (from + at))
    → ((at : ℕ) → Q at → (from ≤ at) × P (at - from)) → (r : Option ℕ)
    → IsLeastPlace P r ↔ IsLeastPlace Q (shifted_place from r)
least-shifted {from} forth back None = (
  λ none at q. none (at - from) (back at q).1,
  λ none at p. none (from + at) (forth at p),
)
least-shifted {P} {from} forth back (Some n) = (
  λ least. (
    forth n least.0,
    λ another q. let here = back another q in let le = least.1 (another - from) here.1 in
        let behind = here.0 in omega arith,
  ),
  λ least. (
    subst P (let z : from + n - from ≡ n = omega arith in z) (back (from + n) least.0).1,
    λ another p. let le = least.1 (from + another) (forth another p) in omega arith,
  ),
)

-- facts that hold at the same places have one least place
least-like : {P Q : ℕ → Type 0} → ((at : ℕ) → P at ↔ Q at) → (r : Option ℕ) → IsLeastPlace P r ↔ IsLeastPlace Q r
least-like same None = (λ none at q. none at ((same at).1 q), λ none at p. none at ((same at).0 p))
least-like same (Some n) = (
  λ least. ((same n).0 least.0, λ another q. least.1 another ((same another).1 q)),
  λ least. ((same n).1 least.0, λ another p. least.1 another ((same another).0 p)),
)

-- the live prefix begins at the least place that is alive
pub live-least : (m : Dictionary) (anchored : Bool) (text : List ℕ) (r : Option ℕ)
    → IsLive m anchored text r ↔ IsLeastPlace (IsAlive m anchored text) r
live-least m anchored text None = (λ h. h, λ h. h)
live-least m anchored text (Some at) = (λ h. h, λ h. h)

-- ---- texts that begin entered patterns

-- the start of a text that begins an entered pattern is alive
pub alive-beginning : {m : Dictionary} {anchored : Bool} {text : List ℕ} → BeginsEntered m text
    → IsAlive m anchored text 0
alive-beginning begins =
    record { within = omega arith; begins = begins; anchor = λ _. refl; no_later = inr (inr (λ best is. omega arith)) }

-- a text begins an entered pattern exactly if all of it is live
pub begins-live : {m : Dictionary} {anchored : Bool} {text : List ℕ}
    → BeginsEntered m text ↔ IsLive m anchored text (Some 0)
begins-live = (λ begins. (alive-beginning begins, λ another alive. omega arith), λ live. live.0.begins)

-- from the anchored start, a text is dead exactly if it begins no entered pattern
pub begins-none : (m : Dictionary) (text : List ℕ) → (¬ BeginsEntered m text) ↔ IsLive m true text None
begins-none m text = (
  λ none from alive. none (subst (λ at. BeginsEntered m (drop at text)) (alive.anchor refl) alive.begins),
  λ dead begins. dead 0 (alive-beginning begins),
)

-- a text that begins no entered pattern is live where its failure begins
pub failure-live : (m : Dictionary) (text : List ℕ) (r : Option ℕ) → (¬ BeginsEntered m text)
    → IsFailure m text r ↔ IsLive m false text r
failure-live m text r none =
    let same = least-like (λ at. (λ h. h.1, λ alive. (past at alive, alive))) r in
    let live = live-least m false text r in
    (λ failure. live.1 (same.0 failure), λ is. same.1 (live.0 is))
  where
    past : (at : ℕ) → IsAlive m false text at → 1 ≤ at
    past at alive = ⊎_elim
        (λ (first : at < 1). let z : at ≡ 0 = omega arith in
        absurd (none (subst (λ n. BeginsEntered m (drop n text)) z alive.begins)))
        (λ (le : 1 ≤ at). le)
        (cases_lt at 1)

-- ---- where nothing is left

-- a text whose end isn't alive has a best, which starts before its end; the kind is a leftmost one
end-best : (m : Dictionary) (text : List ℕ) → (¬ IsAlive m false text (length text))
    → (m.kind ≢ Standard) × ((b : Occurrence) × IsBest m.kind (whole m text false) (Some b) × (b.start < length text))
end-best m text dead = (
  λ standard. dead (alive-end (inl standard)),
  by (best_of m.kind (whole m text false)) (best_of-best m.kind (whole m text false) (omega arith)),
)
  where
    by : (r : Option Occurrence) → IsBest m.kind (whole m text false) r
        → (b : Occurrence) × IsBest m.kind (whole m text false) (Some b) × (b.start < length text)
    by None none = absurd (dead (alive-end (inr (λ best is. absurd (none best is.0)))))
    by (Some b) best = ⊎_elim
        (λ (before : b.start < length text). let r : (c : Occurrence) × IsBest m.kind (whole m text false) (Some c)
        × (c.start < length text) = (b, best, before) in r)
        (λ (past : length text ≤ b.start).
        absurd (dead
        (alive-end
        (inr (λ other is. subst (λ c. length text ≤ c.start)
        (same_Some b other (best-unique m.kind (whole m text false) (omega arith) best is)) past)))))
        (cases_lt b.start (length text))

-- under a leftmost kind no place is alive after the start of an occurrence
pub alive-before_start : {m : Dictionary} {text : List ℕ} (more : List ℕ) {from : ℕ} {o : Occurrence}
    → m.kind ≢ Standard → Occurs (whole m text false) o → IsAlive m false (text ++ more) from → from ≤ o.start
alive-before_start {m} more leftmost h alive = alive-first leftmost alive (occurs-append m more h)

-- a text that isn't empty and has no failure has none with more bytes either
pub failure-stays_none : {m : Dictionary} {text : List ℕ} (more : List ℕ) → text ≢ [] → IsFailure m text None
    → IsFailure m (text ++ more) None
failure-stays_none {m} {text} more some none at h =
    let long : 1 ≤ length text = ⊎_elim (λ (lt : length text < 1). absurd (some (nil_from_length text (omega arith))))
    (λ (le : 1 ≤ length text). le) (cases_lt (length text) 1) in
    let best = end-best m text (λ alive. none (length text) (long, alive)) in
    let before = best.1.2 in
    let le = alive-before_start more best.0 best.1.1.0 h.1 in
    none at (h.0, alive-front more (omega arith) h.1)

-- an own pattern lies over the whole of its text
pub own-occurs : {m : Dictionary} {text : List ℕ} {anchored : Bool} {n : ℕ} → IsOwn m text n
    → Occurs (whole m text anchored) (record { pattern = n; start = 0; end = length text })
own-occurs {m} {text} own =
    record {
      within = (omega arith, omega arith, omega arith);
      same = (
        own.0,
        own.1.0,
        subst (λ xs. IsTrue (same_text m.pairing own.0 xs)) (sym (take_all (length text - 0) text (omega arith))) own.2,
      );
      anchor = λ _. refl;
    }

-- under a leftmost kind a text that has an own pattern has no failure, whatever bytes follow
pub own-failure_none : {m : Dictionary} {text : List ℕ} (more : List ℕ) {n : ℕ} → m.kind ≢ Standard → IsOwn m text n
    → IsFailure m (text ++ more) None
own-failure_none more leftmost own at h =
    let le = alive-before_start more leftmost (own-occurs own) h.1 in
    let past = h.0 in
    omega arith

-- under a leftmost kind a text that has an own pattern has no failure
pub own-none : {m : Dictionary} {text : List ℕ} {n : ℕ} → m.kind ≢ Standard → IsOwn m text n → IsFailure m text None
own-none {m} {text} leftmost own =
    subst (λ xs. IsFailure m xs None) (append-nil text) (own-failure_none [] leftmost own)

-- ---- one more byte

-- an entered pattern that occurs at the end of a text is an own pattern of the rest of the text from the pattern's
-- start
pub own-of_ending : {m : Dictionary} {anchored : Bool} {text : List ℕ} {o : Occurrence}
    (h : Occurs (whole m text anchored) o) → o.end ≡ length text → IsEntered m o.pattern h.same.0
    → IsOwn m (drop o.start text) o.pattern
own-of_ending {m} {text} {o} h ends entered =
    let w = h.within in
    let long = length-drop o.start text in (
      h.same.0,
      entered,
      subst (λ xs. IsTrue (same_text m.pairing h.same.0 xs))
          (take_all (o.end - o.start) (drop o.start text) (omega arith)) h.same.2,
    )

-- Under a leftmost kind, an occurrence in a text with one more byte starts in the failure of the text. This needs that
-- the longer text has no own pattern.
failure-behind : {m : Dictionary} {text : List ℕ} (byte : ℕ) {from : ℕ} {o : Occurrence} → m.kind ≢ Standard
    → IsFailure m text (Some from) → ((n : ℕ) → ¬ IsOwn m (text ++ byte ∷ []) n)
    → Occurs (whole m (text ++ byte ∷ []) false) o → from ≤ o.start
failure-behind {m} {text} byte {from} {o} leftmost failure none h =
    let both = length-append text (byte ∷ []) in
    let best = whole-best_some m.kind m h in
    let le = leftmost-no_later m.kind best.0 o leftmost (best.1.1 o h) in
    let first = by best.0 best.1 in
    omega arith
  where
    starts : (b : Occurrence) → IsBest m.kind (whole m (text ++ byte ∷ []) false) (Some b) → b.start ≤ length text
        → length text < b.end → from ≤ b.start
    starts b best inside past =
        let both = length-append text (byte ∷ []) in
        let w = best.0.within in
        let entered = best-entered false best best.0.same.1 in
        let begins = entered-begins text (byte ∷ []) best.0 entered inside (omega arith) in
        let own = own-of_ending best.0 (omega arith) entered in
        let alive : IsAlive m false text b.start =
        record {
          within = inside;
          begins = begins;
          anchor = λ a. absurd (false≢true a);
          no_later = inr (inr (λ other is. best-no_later m.kind m (byte ∷ []) is best));
        } in
        ⊎_elim
        (λ (lt : b.start < 1). let z : b.start ≡ 0 = omega arith in
        absurd (none b.pattern (subst (λ n. IsOwn m (drop n (text ++ byte ∷ [])) b.pattern) z own)))
        (λ (le : 1 ≤ b.start). failure.1 b.start (le, alive))
        (cases_lt b.start 1)

    by : (b : Occurrence) → IsBest m.kind (whole m (text ++ byte ∷ []) false) (Some b) → from ≤ b.start
    by b best =
        let inside = failure.0.1.within in
        ⊎_elim
        (λ (past : length text < b.end).
        ⊎_elim
        (λ (behind : length text < b.start). omega arith)
        (λ (within : b.start ≤ length text). starts b best within past)
        (cases_lt (length text) b.start))
        (λ (lies : b.end ≤ length text). alive-first leftmost failure.0.1 (occurs-front m (byte ∷ []) lies best.0))
        (cases_lt (length text) b.end)

-- The failure of a text with one more byte is what is live of the text's failure with that byte. Under a leftmost kind
-- this needs that the longer text has no own pattern.
pub failure-next : {m : Dictionary} {text : List ℕ} (byte : ℕ) {from : ℕ} (r : Option ℕ) → IsFailure m text (Some from)
    → (m.kind ≢ Standard → (n : ℕ) → ¬ IsOwn m (text ++ byte ∷ []) n)
    → IsLive m false (drop from text ++ byte ∷ []) r ↔ IsFailure m (text ++ byte ∷ []) (shifted_place from r)
failure-next {m} {text} byte {from} r failure none =
    let live = live-least m false (drop from text ++ byte ∷ []) r in
    let least = least-shifted
    (λ at alive. let past = failure.0.0 in (omega arith, (same at).0 alive))
    (λ at h. let le = behind at h.0 h.1 in
    (le, (same (at - from)).1 (subst (λ n. IsAlive m false (text ++ byte ∷ []) n) (sym (from_behind le)) h.1)))
    r in
    (λ is. least.0 (live.0 is), λ is. live.1 (least.1 is))
  where
    same : (at : ℕ) → IsAlive m false (drop from text ++ byte ∷ []) at ↔ IsAlive m false (text ++ byte ∷ []) (from + at)
    same at =
        let inside = failure.0.1.within in
        let both = length-append text (byte ∷ []) in
        let split : drop from (text ++ byte ∷ []) ≡ drop from text ++ byte ∷ [] =
        drop-append-le from text (byte ∷ []) inside in
        subst (λ xs. IsAlive m false xs at ↔ IsAlive m false (text ++ byte ∷ []) (from + at)) split
        (alive-shifted (omega arith) (λ leftmost o h. failure-behind byte leftmost failure (none leftmost) h))

    behind : (at : ℕ) → 1 ≤ at → IsAlive m false (text ++ byte ∷ []) at → from ≤ at
    behind at past alive =
        let inside = failure.0.1.within in
        ⊎_elim
        (λ (lt : length text < at). omega arith)
        (λ (le : at ≤ length text). failure.1 at (past, alive-front (byte ∷ []) le alive))
        (cases_lt (length text) at)

-- a text that has an own pattern begins an entered pattern
pub own-begins : (m : Dictionary) {text : List ℕ} {n : ℕ} → IsOwn m text n → BeginsEntered m text
own-begins m {text} own =
    let long = same_text-length m.pairing own.0 text own.2 in
    BeginsEntered-from m text own.1 (
      omega arith,
      subst (λ xs. IsTrue (same_text m.pairing text xs)) (sym (take_all (length text) own.0 (omega arith)))
          (same_text-back m.pairing own.0 text own.2),
    )

-- where a text with one more byte begins no entered pattern, what is live of it is what is live of the failure with
-- that byte
pub live-next : (m : Dictionary) (text : List ℕ) (byte from : ℕ) (r : Option ℕ) → IsFailure m text (Some from)
    → (¬ BeginsEntered m (text ++ byte ∷ []))
    → IsLive m false (drop from text ++ byte ∷ []) r ↔ IsLive m false (text ++ byte ∷ []) (shifted_place from r)
live-next m text byte from r failure none =
    let next = failure-next byte r failure (λ leftmost n own. none (own-begins m own)) in
    let live = failure-live m (text ++ byte ∷ []) (shifted_place from r) none in
    (λ is. live.0 (next.0 is), λ is. next.1 (live.1 is))

-- where a text with one more byte begins no entered pattern, and the text has no failure, the longer text is dead
pub live-next_none : (m : Dictionary) (text : List ℕ) (byte : ℕ) → text ≢ [] → IsFailure m text None
    → (¬ BeginsEntered m (text ++ byte ∷ [])) → IsLive m false (text ++ byte ∷ []) None
live-next_none m text byte some failure none =
    (failure-live m (text ++ byte ∷ []) None none).0 (failure-stays_none (byte ∷ []) some failure)

-- ---- from the start

-- the empty text has no failure
pub failure-empty : (m : Dictionary) → IsFailure m [] None
failure-empty m at h = let inside = h.1.within in let past = h.0 in absurd (omega arith)

-- a best that starts at a text's only byte is an own pattern of that byte, or of the empty text
first-own : (m : Dictionary) (byte : ℕ) (b : Occurrence) → IsBest m.kind (whole m (byte ∷ []) false) (Some b)
    → b.start ≡ 0 → IsOwn m [] b.pattern ⊎ IsOwn m (byte ∷ []) b.pattern
first-own m byte b best start =
    let w = best.0.within in
    let entered = best-entered false best best.0.same.1 in
    let from_start : IsTrue (same_text m.pairing best.0.same.0 (take (b.end - b.start) (byte ∷ []))) = subst
    (λ i. IsTrue (same_text m.pairing best.0.same.0 (take (b.end - b.start) (drop i (byte ∷ []))))) start
    best.0.same.2 in
    ⊎_elim
    (λ (empty : b.end < 1). let z : b.end - b.start ≡ 0 = omega arith in
    inl (
      best.0.same.0,
      entered,
      subst (λ i. IsTrue (same_text m.pairing best.0.same.0 (take i (byte ∷ [])))) z from_start,
    ))
    (λ (one : 1 ≤ b.end). let z : b.end - b.start ≡ 1 = omega arith in
    inr (
      best.0.same.0,
      entered,
      subst (λ i. IsTrue (same_text m.pairing best.0.same.0 (take i (byte ∷ [])))) z from_start,
    ))
    (cases_lt b.end 1)

-- one byte fails to the empty text, if under a leftmost kind neither has an own pattern
pub failure-first : {m : Dictionary} {byte : ℕ}
    → (m.kind ≢ Standard → (n : ℕ) → (¬ IsOwn m [] n) × (¬ IsOwn m (byte ∷ []) n)) → IsFailure m (byte ∷ []) (Some 1)
failure-first {m} {byte} none =
    let end =
    alive-end
    (⊎_elim inl
    (λ leftmost.
    inr (λ b best.
    ⊎_elim (λ (lt : b.start < 1).
    ⊎_elim (λ own. absurd ((none leftmost b.pattern).0 own)) (λ own. absurd ((none leftmost b.pattern).1 own))
    (first-own m byte b best (omega arith))) (λ (le : 1 ≤ b.start). le) (cases_lt b.start 1))) (kind_cases m.kind)) in
    ((omega arith, end), λ another h. h.0)

-- after one byte that begins no entered pattern the empty text is live, if under a leftmost kind no pattern is empty
pub live-first : (m : Dictionary) (byte : ℕ) → (m.kind ≢ Standard → (n : ℕ) → ¬ IsOwn m [] n)
    → (¬ BeginsEntered m (byte ∷ [])) → IsLive m false (byte ∷ []) (Some 1)
live-first m byte none begins =
    (failure-live m (byte ∷ []) (Some 1) begins).0
    (failure-first (λ leftmost n. (none leftmost n, λ own. begins (own-begins m own))))

-- under a leftmost kind with an empty pattern, one byte that begins no entered pattern is dead
pub live-first_none : (m : Dictionary) (byte n : ℕ) → m.kind ≢ Standard → IsOwn m [] n → (¬ BeginsEntered m (byte ∷ []))
    → IsLive m false (byte ∷ []) None
live-first_none m byte n leftmost own begins =
    (failure-live m (byte ∷ []) None begins).0 (own-failure_none (byte ∷ []) leftmost own)

-- ---- the failure is shorter, and unique

-- a failure is at least one byte shorter than its text
pub failure-shorter : {m : Dictionary} {text : List ℕ} {from : ℕ} → IsFailure m text (Some from)
    → length (drop from text) + 1 ≤ length text
failure-shorter {text} {from} h =
    let past = h.0.0 in
    let inside = h.0.1.within in
    let left = length-drop from text in
    omega arith

-- a text has at most one failure
pub failure-one : (m : Dictionary) (text : List ℕ) (r s : Option ℕ) → IsFailure m text r → IsFailure m text s → r ≡ s
failure-one m text None None g h = refl
failure-one m text None (Some b) g h = absurd (g b h.0)
failure-one m text (Some a) None g h = absurd (h a g.0)
failure-one m text (Some a) (Some b) g h = let le = g.1 b h.0 in let ge = h.1 a g.0 in let e : a ≡ b = omega arith in
    ap Some e
