-- A text in which no pattern's first bytes stand: nothing occurs in it, and only its last bytes may still grow into a
-- match.
--
-- So a search that stands in the start may pass this text, except as many bytes at its end as can still be live. If it
-- reads those from the start, it comes to the state to which the whole text leads.
use Rattle.std.proofs.Common.{◌≡◌, ◌↔◌, ⊎_elim, ℕ, ◌+◌, ◌-◌, ◌<◌, ◌≤◌, false, List, [], ◌∷◌, ◌++◌, length, take, drop, map, Option, Some, None, IsTrue, slice_range, sym, ap, subst, refl, ◌∙◌, arith, length-append, length-drop}
use Rattle.std.proofs.lemmas.Bool.{cases_lt}
use Rattle.std.proofs.lemmas.List.{take-take, drop-take, length-take-le, drop_at, drop_all, take_all}
use Rattle.ac_input.specs.declared.search.MatchKind.{MatchKind}
use Rattle.ac_input.specs.declared.search.MatchKind.TheVariants.{Standard, LeftmostFirst, LeftmostLongest}
use Rattle.ac_input.specs.declared.search.Anchored.TheVariants.{No}
use Rattle.ac_input.specs.Same.{same_text}
use Rattle.ac_input.specs.Occurrence.{Occurrence, Occurs}
use Rattle.ac_input.specs.Dictionary.{Dictionary, BeginsEntered, whole, IsAlive, IsLive, live_len, IsPattern}
use Rattle.ac_input.specs.Opening.{IsOpening, HasNoOpening}
use Rattle.ac_input.specs.States.{LeadsTo}
use Rattle.ac_input.specs.Tells.{TellsUnanchored, Tells, ending}
use Rattle.ac_input.proofs.lemmas.ContainsLemmas.{Contains-head}
use Rattle.ac_input.proofs.lemmas.LeadsLemmas.{leads-rest}
use Rattle.ac_input.proofs.lemmas.LiveLemmas.{dead-best}
use Rattle.ac_input.proofs.lemmas.OrderLemmas.{same_text-length, occurs-end}
use Rattle.ac_input.proofs.lemmas.SameLemmas.{same_text-take, same_text-back}
use Rattle.ac_input.proofs.lemmas.StateLemmas.{alive-shifted, live-of_live, from_behind, shifted_place}

-- ---- openings of a text and of its front

-- an opening has all its bytes in the text
pub opening-within : (m : Dictionary) (len : ℕ) (text : List ℕ) (at : ℕ) → 0 < len
    → ((n : ℕ) (p : List ℕ) → IsPattern m n p → len ≤ length p) → IsOpening m len text at → at + len ≤ length text
opening-within m len text at some long h =
    let whole_len : length (take len h.1) ≡ len = length-take-le len h.1 (long h.0 h.1 h.2) in
    let same = same_text-length m.pairing (take len h.1) (take len (drop at text)) h.3 in
    let left = length-drop at text in
    ⊎_elim
    (λ (short : length (drop at text) < len).
    let all : take len (drop at text) ≡ drop at text = take_all len (drop at text) (omega (arith, short)) in
    let e = ap length all in
    absurd (omega (arith, whole_len, same, e, short)))
    (λ (le : len ≤ length (drop at text)). omega (arith, left, le, some))
    (cases_lt (length (drop at text)) len)

-- what opens in the front of a text opens in the text
opening-front : (m : Dictionary) (len : ℕ) (text : List ℕ) (n at : ℕ) → 0 < len
    → ((n : ℕ) (p : List ℕ) → IsPattern m n p → len ≤ length p) → n ≤ length text → IsOpening m len (take n text) at
    → (at + len ≤ n) × IsOpening m len text at
opening-front m len text n at some long fits h =
    let inside = opening-within m len (take n text) at some long h in
    let size = length-take-le n text fits in
    let before : at + len ≤ n = omega (arith, inside, size) in
    let rest : ℕ = n - at in
    let split : at + rest ≡ n = omega (arith, before) in
    let front : drop at (take n text) ≡ take rest (drop at text) = ap (λ k. drop at (take k text)) (sym split)
    ∙ drop-take at rest text in
    let part : take len (drop at (take n text)) ≡ take len (drop at text) = ap (take len) front
    ∙ take-take len rest (drop at text) (omega (arith, before)) in (
      before,
      (h.0, h.1, h.2, subst (λ xs. IsTrue (same_text m.pairing (take len h.1) xs)) part h.3),
    )

-- where nothing opens that ends before a place, a front of the text up to that place has no opening
pub front-opens-not : (m : Dictionary) {len : ℕ} (text : List ℕ) {count n : ℕ} → 0 < len
    → ((n : ℕ) (p : List ℕ) → IsPattern m n p → len ≤ length p) → count ≤ length text → n ≤ count
    → ((at : ℕ) → at + len ≤ count → ¬ IsOpening m len text at) → HasNoOpening m len (take n text)
front-opens-not m {len} text {n} some long fits le none at h =
    let there = opening-front m len text n at some long (omega (arith, fits, le)) h in
    none at (omega (arith, there.0, le)) there.1

-- ---- what opens

-- an opening stands where an occurrence starts
pub occurs-opens : (m : Dictionary) (len : ℕ) (text : List ℕ) (o : Occurrence)
    → ((n : ℕ) (p : List ℕ) → IsPattern m n p → len ≤ length p) → Occurs (whole m text false) o
    → IsOpening m len text o.start
occurs-opens m len text o long h =
    let found = occurs-end (omega arith) h in
    let enough = long o.pattern found.0 found.1 in
    let end = found.2 in
    let same = same_text-take m.pairing len h.same.0 (slice_range text o.start o.end) h.same.2 in
    let part : take len (slice_range text o.start o.end) ≡ take len (drop o.start text) =
    take-take len (o.end - o.start) (drop o.start text) (omega (arith, end, enough)) in
    (o.pattern, h.same.0, h.same.1, subst (λ xs. IsTrue (same_text m.pairing (take len h.same.0) xs)) part same)

-- a text that begins an entered pattern, and has enough bytes, has an opening at its start
begins-opens : (m : Dictionary) {len : ℕ} (front : List ℕ) → 0 < len → len ≤ length front → BeginsEntered m front
    → (n : ℕ) × (p : List ℕ) × (IsOpening m len front 0)
begins-opens m [] some enough h = absurd (omega (arith, some, enough))
begins-opens m {len} (b ∷ bs) some enough h =
    let front = b ∷ bs in
    let p = h.1 in
    let same = same_text-take m.pairing len front (take (length front) p) h.3.1 in
    let part : take len (take (length front) p) ≡ take len p = take-take len (length front) p enough in
    let here : IsTrue (same_text m.pairing (take len front) (take len p)) =
    subst (λ xs. IsTrue (same_text m.pairing (take len front) xs)) part same in
    (h.0, p, (h.0, p, h.2.0, same_text-back m.pairing (take len front) (take len p) here))

-- ---- a text without openings

-- in a text without openings nothing occurs
pub opens-not-occurs : (m : Dictionary) {len : ℕ} {text : List ℕ} {o : Occurrence}
    → ((n : ℕ) (p : List ℕ) → IsPattern m n p → len ≤ length p) → HasNoOpening m len text
    → ¬ Occurs (whole m text false) o
opens-not-occurs m {len} {text} {o} long none h = none o.start (occurs-opens m len text o long h)

-- a text without openings isn't dead
pub opens-not-dead : {m : Dictionary} {len : ℕ} {text : List ℕ}
    → ((n : ℕ) (p : List ℕ) → IsPattern m n p → len ≤ length p) → HasNoOpening m len text → ¬ IsLive m false text None
opens-not-dead {m} long none dead = let had = dead-best dead in opens-not-occurs m long none had.1.1.0

-- in a text without openings, fewer bytes are alive than an opening has
alive-few : {m : Dictionary} {len : ℕ} {text : List ℕ} {at : ℕ} → 0 < len → HasNoOpening m len text
    → IsAlive m false text at → length text < at + len
alive-few {m} {len} {text} {at} some none alive =
    let left = length-drop at text in
    let within = alive.within in
    ⊎_elim
    (λ (few : length (drop at text) < len). omega (arith, few, left, within))
    (λ (enough : len ≤ length (drop at text)). let h = begins-opens m (drop at text) some enough alive.begins in
    absurd (none at (h.2.0, h.2.1, h.2.2, h.2.3)))
    (cases_lt (length (drop at text)) len)

-- the state of a text without openings lists nothing
pub opens-not-listed : (m : Dictionary) {len : ℕ} (text ns : List ℕ)
    → ((n : ℕ) (p : List ℕ) → IsPattern m n p → len ≤ length p) → HasNoOpening m len text → Tells m No text ns → ns ≡ []
opens-not-listed m text [] long none tells = refl
opens-not-listed m text (n ∷ ns) long none tells = absurd (opens-not-occurs m long none (by m.kind text tells))
  where
    by : (kind : MatchKind) (xs : List ℕ) → TellsUnanchored kind m xs (n ∷ ns)
        → Occurs (whole m xs false) (ending m xs n)
    by Standard xs h = ((h.1 (ending m xs n)).0 (Contains-head (map (ending m xs) ns))).0
    by LeftmostFirst [] h = h.0
    by LeftmostFirst (b ∷ bs) h = h.0
    by LeftmostLongest [] h = h.0
    by LeftmostLongest (b ∷ bs) h = h.0

-- what is live of a text without openings is what is live of its end, if that has all bytes that may be alive
live-end : (m : Dictionary) {len : ℕ} (u v : List ℕ) (r : Option ℕ) → 0 < len
    → ((n : ℕ) (p : List ℕ) → IsPattern m n p → len ≤ length p) → HasNoOpening m len (u ++ v) → len ≤ length v + 1
    → IsLive m false v r → IsLive m false (u ++ v) (shifted_place (length u) r)
live-end m u v r some long none enough live = by r live
  where
    text : List ℕ
    text = u ++ v

    from : ℕ
    from = length u

    both : length (u ++ v) ≡ length u + length v
    both = length-append u v

    rest : drop (length u) (u ++ v) ≡ v
    rest = drop_at u v (length u) refl

    shift : (at : ℕ) → IsAlive m false v at ↔ IsAlive m false (u ++ v) (length u + at)
    shift at = subst (λ xs. IsAlive m false xs at ↔ IsAlive m false (u ++ v) (length u + at)) rest
        (alive-shifted (omega (arith, both)) (λ leftmost o h. absurd (opens-not-occurs m long none h)))

    behind : (at : ℕ) → IsAlive m false (u ++ v) at → length u ≤ at
    behind at alive = let few = alive-few some none alive in omega (arith, few, both, enough)

    here : (at : ℕ) → IsAlive m false (u ++ v) at → IsAlive m false v (at - length u)
    here at alive =
        (shift (at - length u)).1 (subst (λ n. IsAlive m false (u ++ v) n) (sym (from_behind (behind at alive))) alive)

    by : (r : Option ℕ) → IsLive m false v r → IsLive m false (u ++ v) (shifted_place (length u) r)
    by None dead = λ at alive. dead (at - length u) (here at alive)
    by (Some n) is = (
      (shift n).0 is.0,
      λ another alive. let le = is.1 (another - length u) (here another alive) in let past = behind another alive in
          omega (arith, le, past),
    )

-- after a text of which nothing is live, what is live of a text without openings is again what is live of its end
pub live-passed : (m : Dictionary) (len : ℕ) (text u v : List ℕ) (r : Option ℕ) → 0 < len
    → ((n : ℕ) (p : List ℕ) → IsPattern m n p → len ≤ length p) → IsLive m false text (Some (length text))
    → HasNoOpening m len (u ++ v) → len ≤ length v + 1 → IsLive m false v r
    → IsLive m false (text ++ (u ++ v)) (shifted_place (length text) (shifted_place (length u) r))
live-passed m len text u v r some long empty none enough live =
    let w = u ++ v in
    let nothing : drop (length text) text ≡ [] = drop_all (length text) text (omega arith) in
    let here : IsLive m false w (shifted_place (length u) r) = live-end m u v r some long none enough live in
    (live-of_live w (shifted_place (length u) r) empty).0
    (subst (λ xs. IsLive m false (xs ++ w) (shifted_place (length u) r)) (sym nothing) here)

-- what is live of the passed text is as long as what is live of its end
pub live_len-passed : (text u v : List ℕ) (r : Option ℕ)
    → live_len (text ++ (u ++ v)) (shifted_place (length text) (shifted_place (length u) r)) ≡ live_len v r
live_len-passed text u v None = refl
live_len-passed text u v (Some n) =
    let a = length-append text (u ++ v) in
    let b = length-append u v in
    omega (arith, a, b)

-- after a text of which nothing is live, a text without openings leads where its end leads
pub leads-passed : {m : Dictionary} {len : ℕ} {text : List ℕ} (u v : List ℕ) (r : Option (List ℕ)) → 0 < len
    → ((n : ℕ) (p : List ℕ) → IsPattern m n p → len ≤ length p) → IsLive m false text (Some (length text))
    → HasNoOpening m len (u ++ v) → len ≤ length v + 1 → LeadsTo m false v r → LeadsTo m false (text ++ (u ++ v)) r
leads-passed {m} {text} u v r some long empty none enough leads =
    let w = u ++ v in
    let nothing : drop (length text) text ≡ [] = drop_all (length text) text (omega arith) in
    let last : drop (length u) w ≡ v = drop_at u v (length u) refl in
    let after : drop (length text) (text ++ w) ≡ w = drop_at text w (length text) refl in
    let inner : LeadsTo m false w r = leads-rest (length u)
    (λ k h. live-end m u v k some long none enough (subst (λ xs. IsLive m false xs k) last h)) r
    (subst (λ xs. LeadsTo m false xs r) (sym last) leads) in
    leads-rest (length text)
    (λ k h. (live-of_live w k empty).0
    (subst (λ xs. IsLive m false (xs ++ w) k) (sym nothing) (subst (λ xs. IsLive m false xs k) after h))) r
    (subst (λ xs. LeadsTo m false xs r) (sym after) inner)
