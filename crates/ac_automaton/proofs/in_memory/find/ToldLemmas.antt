-- How the list of a state gives the best match of a text, from the best of the matches that ended earlier.
use Rattle.std.proofs.Common.{◌≡◌, ◌≢◌, ◌⊎◌, inl, inr, ⊎_elim, ℕ, ◌-◌, ◌<◌, ◌≤◌, ◌==◌, Bool, true, false, List, [], ◌∷◌, ◌++◌, length, take, Option, Some, None, IsTrue, Contains, map, get_or, slice_get, slice_range, Greater, nat_cmp, sym, ap, subst, refl, ◌∙◌, arith, length-append}
use Rattle.std.specs.List.{filter}
use Rattle.std.specs.Option.{option_map, option_or}
use Rattle.std.specs.Ordering.{ordering_then}
use Rattle.std.proofs.lemmas.Bool.{cases_lt}
use Rattle.std.proofs.lemmas.List.{take-take}
use Rattle.std.proofs.lemmas.Option.{same_Some, slice_get-map, get_or_from_slice_get}
use Rattle.ac_input.specs.declared.search.Anchored.{Anchored}
use Rattle.ac_input.specs.declared.search.Anchored.TheVariants.{No, Yes}
use Rattle.ac_input.specs.declared.search.MatchKind.{MatchKind}
use Rattle.ac_input.specs.declared.search.MatchKind.TheVariants.{Standard, LeftmostFirst, LeftmostLongest}
use Rattle.ac_input.specs.Same.{same_text}
use Rattle.ac_input.specs.Occurrence.{Search, Occurrence, Occurs}
use Rattle.ac_input.specs.Best.{preference, IsLeast, IsBest, asked_kind}
use Rattle.ac_input.specs.Input.{is_anchored}
use Rattle.ac_input.specs.Listing.{ListsAll}
use Rattle.ac_input.specs.Dictionary.{Dictionary, IsPattern, Begins, IsEntered, whole}
use Rattle.ac_input.specs.Tells.{ending, before_last, TellsUnanchored, Tells}
use Rattle.ac_input.proofs.lemmas.ContainsLemmas.{Contains-nil, Contains-head, Contains-cases}
use Rattle.ac_input.proofs.lemmas.OrderLemmas.{preference-itself, preference-same, less-not_greater, occurs-end, occurs-same_end}
use Rattle.ac_input.proofs.lemmas.RisingLemmas.{IsRising-head}
use Rattle.ac_input.proofs.lemmas.BestLemmas.{IsLeast-like, IsLeast-none_stronger, IsLeast-stronger, least-unique}
use Rattle.ac_input.proofs.lemmas.SameLemmas.{same_text-take, same_text-back, same_text-transitive}
use Rattle.ac_input.proofs.lemmas.LiveLemmas.{occurs-append, occurs-front, whole-best, kind_cases, best-entered, nat_cmp-equal, nat_cmp-greater}
use Rattle.ac_automaton.specs.InMemory.Find.Cursor.{counted}
use Rattle.ac_automaton.proofs.in_memory.find.TakenLemmas.{first-counts}
use Rattle.ac_input.proofs.lemmas.TellsLemmas.{split-last}

-- ---- occurrences with one end

-- every kind orders occurrences with the same end as the standard kind does
pub preference-one_end : (kind : MatchKind) (a b : Occurrence) → a.end ≡ b.end
    → preference kind a b ≡ preference Standard a b
preference-one_end Standard a b e = refl
preference-one_end LeftmostFirst a b e =
    sym (ap (λ r. ordering_then r (ordering_then (nat_cmp a.start b.start) (nat_cmp a.pattern b.pattern)))
    (nat_cmp-equal e))
preference-one_end LeftmostLongest a b e =
    ap (λ r. ordering_then (nat_cmp a.start b.start) (ordering_then r (nat_cmp a.pattern b.pattern)))
    (nat_cmp-equal (sym e))
    ∙ sym (ap (λ r. ordering_then r (ordering_then (nat_cmp a.start b.start) (nat_cmp a.pattern b.pattern)))
    (nat_cmp-equal e))

-- where all occurrences end at one place, the best of any kind is the standard best
pub best-one_end : (kind : MatchKind) {s : Search} {at : ℕ} (r : Option Occurrence)
    → ((o : Occurrence) → Occurs s o → o.end ≡ at) → IsBest kind s r → IsBest Standard s r
best-one_end kind None ends h = h
best-one_end kind (Some b) ends h =
    (h.0, λ o k. subst (λ r. r ≢ Greater) (preference-one_end kind b o (ends b h.0 ∙ sym (ends o k))) (h.1 o k))

-- where all occurrences end at one place, the first in their list is the standard best
pub best-first : {s : Search} {at : ℕ} (os : List Occurrence) → ((o : Occurrence) → Occurs s o → o.end ≡ at)
    → ListsAll (λ o. Occurs s o × (o.end ≡ at)) os → IsBest Standard s (slice_get os 0)
best-first [] ends lists = λ o h. Contains-nil ((lists.1 o).1 (h, ends o h))
best-first (b ∷ os) ends lists = (
  ((lists.1 b).0 (Contains-head os)).0,
  λ o h. ⊎_elim
      (λ (e : b ≡ o). subst (λ x. preference Standard b x ≢ Greater) e (preference-itself Standard b))
      (λ (c : Contains os o). less-not_greater (IsRising-head b os lists.0 c))
      (Contains-cases os ((lists.1 o).1 (h, ends o h))),
)

-- ---- what ended before the last byte

-- the best of the occurrences that end before the end of the text
pub record IsEarlier (kind : MatchKind) (m : Dictionary) (anchored : Bool) (text : List ℕ)
    (r : Option Occurrence) : Type 0 where
  pub least : IsLeast kind (λ o. Occurs (whole m text anchored) o × (o.end < length text)) r

-- no occurrence ends before the end of an empty text
pub earlier-start : {kind : MatchKind} {m : Dictionary} {anchored : Bool} → IsEarlier kind m anchored [] None
earlier-start = record { least = λ o h. let lt = h.1 in omega arith }

-- The best match of a text is the best of those that ended earlier, once one byte more is read.
pub earlier-append : {kind : MatchKind} {m : Dictionary} {anchored : Bool} (text : List ℕ) (b : ℕ)
    {r : Option Occurrence} → IsBest kind (whole m text anchored) r → IsEarlier kind m anchored (text ++ b ∷ []) r
earlier-append {kind} {m} text b {r} best =
    let both = length-append text (b ∷ []) in
    record {
      least = IsLeast-like kind
          (λ o. (
            λ h. let w = h.within in (occurs-append m (b ∷ []) h, omega arith),
            λ h. let lt = h.1 in
                occurs-front m (b ∷ []) (omega arith) h.0,
          )) r best;
    }

-- the best of the occurrences that ended earlier is the best match of the text before its last byte
earlier-best_before : {kind : MatchKind} {m : Dictionary} {anchored : Bool} {b : ℕ} {bs : List ℕ}
    {r : Option Occurrence} → IsEarlier kind m anchored (b ∷ bs) r
    → IsBest kind (whole m (before_last (b ∷ bs)) anchored) r
earlier-best_before {kind} {m} {anchored} {b} {bs} {r} earlier = by (before_last (b ∷ bs)) (split-last b bs)
  where
    by : (text : List ℕ) → ((last : ℕ) × (text ++ last ∷ [] ≡ b ∷ bs)) → IsBest kind (whole m text anchored) r
    by text split =
        let more : List ℕ = split.0 ∷ [] in
        let both = length-append text more in
        let here : IsEarlier kind m anchored (text ++ more) r =
        subst (λ l. IsEarlier kind m anchored l r) (sym split.1) earlier in
        IsLeast-like kind
        (λ o. (
          λ h. let lt = h.1 in occurs-front m more (omega arith) h.0,
          λ h. let w = h.within in
              (occurs-append m more h, omega arith),
        )) r here.least

-- where no occurrence ended earlier, every occurrence ends where the text does
earlier-ends : {kind : MatchKind} {m : Dictionary} {anchored : Bool} {text : List ℕ}
    → IsEarlier kind m anchored text None → (o : Occurrence) → Occurs (whole m text anchored) o → o.end ≡ length text
earlier-ends {text} earlier o h =
    ⊎_elim (λ (lt : o.end < length text). absurd (earlier.least o (h, lt)))
    (λ (le : length text ≤ o.end). let w = h.within in omega arith) (cases_lt o.end (length text))

-- Where the best match of the text ended earlier, the best of the earlier occurrences is the best match.
earlier-stays : {kind : MatchKind} {m : Dictionary} {anchored : Bool} {text : List ℕ} {r : Option Occurrence}
    → IsEarlier kind m anchored text r
    → ((o : Occurrence) → IsBest kind (whole m text anchored) (Some o) → o.end < length text)
    → IsBest kind (whole m text anchored) r
earlier-stays {kind} {m} {anchored} {text} {r} earlier lies = by (whole-best kind m).0 (whole-best kind m).1
  where
    least : (b : Option Occurrence) → IsBest kind (whole m text anchored) b
        → IsLeast kind (λ o. Occurs (whole m text anchored) o × (o.end < length text)) b
    least None best = IsLeast-none_stronger kind (λ o h. h.0) best
    least (Some b) best = IsLeast-stronger kind (λ o h. h.0) (best.0, lies b best) best

    by : (b : Option Occurrence) → IsBest kind (whole m text anchored) b → IsBest kind (whole m text anchored) r
    by b best =
        subst (λ x. IsBest kind (whole m text anchored) x)
        (least-unique kind (omega arith) (λ o h. h.0) b r (least b best) earlier.least) best

-- ---- unanchored

-- the first entry of a standard dictionary's list is the best match, where no occurrence ended earlier
pub told-standard : {m : Dictionary} {text : List ℕ} (ns : List ℕ) → IsEarlier Standard m false text None
    → TellsUnanchored Standard m text ns
    → IsBest Standard (whole m text false) (option_map (ending m text) (slice_get ns 0))
told-standard {m} {text} ns earlier tells =
    subst (λ r. IsBest Standard (whole m text false) r) (slice_get-map (ending m text) ns 0)
    (best-first (map (ending m text) ns) (earlier-ends earlier) tells)

-- The first entry of a leftmost dictionary's list, or else the best earlier occurrence, is the best match in a search
-- of its own kind.
told-leftmost : (kind : MatchKind) {m : Dictionary} (text ns : List ℕ) {r : Option Occurrence} → kind ≢ Standard
    → IsEarlier kind m false text r → TellsUnanchored kind m text ns
    → IsBest kind (whole m text false) (option_or (option_map (ending m text) (slice_get ns 0)) r)
told-leftmost Standard text ns leftmost earlier tells = absurd (leftmost refl)
told-leftmost LeftmostFirst [] [] leftmost earlier tells = earlier-stays earlier (λ o best. absurd (tells o best.0))
told-leftmost LeftmostFirst [] (n ∷ ns) leftmost earlier tells = tells
told-leftmost LeftmostFirst (b ∷ bs) [] {r} leftmost earlier tells = (tells r).0 (earlier-best_before earlier)
told-leftmost LeftmostFirst (b ∷ bs) (n ∷ ns) leftmost earlier tells = tells
told-leftmost LeftmostLongest [] [] leftmost earlier tells = earlier-stays earlier (λ o best. absurd (tells o best.0))
told-leftmost LeftmostLongest [] (n ∷ ns) leftmost earlier tells = tells
told-leftmost LeftmostLongest (b ∷ bs) [] {r} leftmost earlier tells = (tells r).0 (earlier-best_before earlier)
told-leftmost LeftmostLongest (b ∷ bs) (n ∷ ns) leftmost earlier tells = tells

-- an option or none is the option
option_or-none : {X : Type 0} (o : Option X) → option_or o None ≡ o
option_or-none None = refl
option_or-none (Some x) = refl

-- where no occurrence ended earlier, none did under any other kind
earlier-none : {kind other : MatchKind} {m : Dictionary} {anchored : Bool} {text : List ℕ}
    → IsEarlier kind m anchored text None → IsEarlier other m anchored text None
earlier-none earlier = record { least = earlier.least }

-- the first entry of a leftmost dictionary's list is the standard best match, where no occurrence ended earlier
told-earliest : {kind : MatchKind} {m : Dictionary} {text : List ℕ} (ns : List ℕ) → kind ≢ Standard
    → IsEarlier Standard m false text None → TellsUnanchored kind m text ns
    → IsBest Standard (whole m text false) (option_map (ending m text) (slice_get ns 0))
told-earliest {kind} {m} {text} ns leftmost earlier tells =
    best-one_end kind (option_map (ending m text) (slice_get ns 0)) (earlier-ends earlier)
    (subst (λ r. IsBest kind (whole m text false) r) (option_or-none (option_map (ending m text) (slice_get ns 0)))
    (told-leftmost kind text ns leftmost (earlier-none earlier) tells))

-- ---- anchored

-- an occurrence in an anchored text begins at 0 and ends at its pattern's length
anchored-length : (m : Dictionary) {text : List ℕ} {o : Occurrence} → Occurs (whole m text true) o
    → (o.start ≡ 0)
    × ((p : List ℕ) × IsPattern m o.pattern p × (o.end ≡ length p) × IsTrue (same_text m.pairing p (take o.end text)))
anchored-length m {text} {o} h =
    let first : o.start ≡ 0 = h.anchor refl in
    let found = occurs-end (omega arith) h in
    let one : h.same.0 ≡ found.0 = same_Some h.same.0 found.0 (sym h.same.1 ∙ found.1) in
    let there : IsTrue (same_text m.pairing h.same.0 (slice_range text 0 o.end)) =
    subst (λ n. IsTrue (same_text m.pairing h.same.0 (slice_range text n o.end))) first h.same.2 in
    let zero : o.end - 0 ≡ o.end = omega arith in
    let here : IsTrue (same_text m.pairing h.same.0 (take o.end text)) =
    subst (λ n. IsTrue (same_text m.pairing h.same.0 (take n text))) zero there in
    let end = found.2 in
    (first, (found.0, found.1, omega arith, subst (λ p. IsTrue (same_text m.pairing p (take o.end text))) one here))

-- of two occurrences in an anchored text, the shorter one's pattern begins the longer one's
anchored-begins : (m : Dictionary) {text : List ℕ} {a b : Occurrence} {p q : List ℕ} → Occurs (whole m text true) a
    → Occurs (whole m text true) b → IsPattern m a.pattern p → IsPattern m b.pattern q → a.end < b.end
    → (length p < length q) × Begins m.pairing p q
anchored-begins m {text} {a} {b} {p} {q} g h is also sooner =
    let ga = anchored-length m g in
    let hb = anchored-length m h in
    let pa : ga.1.0 ≡ p = same_Some ga.1.0 p (sym ga.1.1 ∙ is) in
    let qb : hb.1.0 ≡ q = same_Some hb.1.0 q (sym hb.1.1 ∙ also) in
    let lp : length p ≡ a.end = ap length (sym pa) ∙ sym ga.1.2 in
    let lq : length q ≡ b.end = ap length (sym qb) ∙ sym hb.1.2 in
    let ta : IsTrue (same_text m.pairing p (take a.end text)) =
    subst (λ x. IsTrue (same_text m.pairing x (take a.end text))) pa ga.1.3 in
    let tb : IsTrue (same_text m.pairing q (take b.end text)) =
    subst (λ x. IsTrue (same_text m.pairing x (take b.end text))) qb hb.1.3 in
    let front : IsTrue (same_text m.pairing (take a.end q) (take a.end (take b.end text))) =
    same_text-take m.pairing a.end q (take b.end text) tb in
    let part : take a.end (take b.end text) ≡ take a.end text = take-take a.end b.end text (omega arith) in
    let front_text : IsTrue (same_text m.pairing (take a.end q) (take a.end text)) =
    subst (λ x. IsTrue (same_text m.pairing (take a.end q) x)) part front in
    let both : IsTrue (same_text m.pairing p (take a.end q)) = same_text-transitive m.pairing p (take a.end text)
    (take a.end q) ta (same_text-back m.pairing (take a.end q) (take a.end text) front_text) in
    (omega arith, (omega arith, subst (λ n. IsTrue (same_text m.pairing p (take n q))) (sym lp) both))

-- A leftmost kind prefers an entered pattern that is the whole anchored text to an occurrence that ended earlier.
anchored-new_first : {m : Dictionary} {text : List ℕ} {old new : Occurrence} {p : List ℕ} → m.kind ≢ Standard
    → Occurs (whole m text true) old → Occurs (whole m text true) new → old.end < new.end → IsEntered m new.pattern p
    → preference m.kind old new ≡ Greater
anchored-new_first {m} {old} {new} leftmost g h sooner entered = by m.kind refl
  where
    starts : old.start ≡ new.start
    starts = (anchored-length m g).0 ∙ sym (anchored-length m h).0

    behind : m.kind ≡ LeftmostFirst → new.pattern < old.pattern
    behind first =
        let is = (anchored-length m g).1 in
        ⊎_elim
        (λ (lt : new.pattern < old.pattern). lt)
        (λ (le : old.pattern ≤ new.pattern).
        ⊎_elim
        (λ (before : old.pattern < new.pattern). let shadow = anchored-begins m g h is.1 entered.0 sooner in
        absurd (entered.1 first (old.pattern, is.0, before, is.1, shadow.0, shadow.1)))
        (λ (ge : new.pattern ≤ old.pattern). let same : old.pattern ≡ new.pattern = omega arith in
        let ends = occurs-same_end (omega arith) g h same starts in absurd (omega arith))
        (cases_lt old.pattern new.pattern))
        (cases_lt new.pattern old.pattern)

    by : (kind : MatchKind) → m.kind ≡ kind → preference m.kind old new ≡ Greater
    by Standard is = absurd (leftmost is)
    by LeftmostFirst is =
        subst (λ k. preference k old new ≡ Greater) (sym is)
        (ap (λ r. ordering_then r (nat_cmp old.pattern new.pattern)) (nat_cmp-equal starts)
        ∙ nat_cmp-greater (behind is))
    by LeftmostLongest is =
        subst (λ k. preference k old new ≡ Greater) (sym is)
        (ap (λ r. ordering_then r (ordering_then (nat_cmp new.end old.end) (nat_cmp old.pattern new.pattern)))
        (nat_cmp-equal starts) ∙ ap (λ r. ordering_then r (nat_cmp old.pattern new.pattern)) (nat_cmp-greater sooner))

-- a search's kind is the standard one or the dictionary's own
pub asked_cases : (kind : MatchKind) (earliest : Bool)
    → (asked_kind kind earliest ≡ Standard)
    ⊎ ((asked_kind kind earliest ≡ kind) × (kind ≢ Standard) × (earliest ≡ false))
asked_cases kind true = inl refl
asked_cases Standard false = inl refl
asked_cases LeftmostFirst false = inr (refl, λ e. cc, refl)
asked_cases LeftmostLongest false = inr (refl, λ e. cc, refl)

-- an occurrence of an entered pattern that is all of an anchored text
abbrev IsWhole : Dictionary → List ℕ → Occurrence → Type 0
IsWhole m text o = Occurs (whole m text true) o × (o.end ≡ length text) × ((p : List ℕ) × IsEntered m o.pattern p)

-- where the state lists no pattern that is the whole text, the best match is the earlier best
told-anchored_none : {m : Dictionary} (earliest : Bool) {text : List ℕ} {r : Option Occurrence}
    → IsEarlier (asked_kind m.kind earliest) m true text r → ListsAll (IsWhole m text) []
    → IsBest (asked_kind m.kind earliest) (whole m text true) r
told-anchored_none earliest {text} earlier lists =
    earlier-stays earlier
    (λ o best. ⊎_elim
    (λ (lt : o.end < length text). lt)
    (λ (le : length text ≤ o.end).
    let w = best.0.within in
    let end : o.end ≡ length text = omega arith in
    absurd (Contains-nil ((lists.1 o).1 (best.0, end, (best.0.same.0, best-entered earliest best best.0.same.1)))))
    (cases_lt o.end (length text)))

-- where the state lists patterns that are the whole text, the first is the best match
told-anchored_some : {m : Dictionary} (earliest : Bool) {text : List ℕ} {r : Option Occurrence} {first : Occurrence}
    (os : List Occurrence) → IsEarlier (asked_kind m.kind earliest) m true text r
    → (asked_kind m.kind earliest ≡ Standard → r ≡ None) → ListsAll (IsWhole m text) (first ∷ os)
    → IsBest (asked_kind m.kind earliest) (whole m text true) (Some first)
told-anchored_some {m} earliest {text} {first} os earlier fresh lists =
    by (whole-best (asked_kind m.kind earliest) m).0 (whole-best (asked_kind m.kind earliest) m).1
  where
    listed : IsWhole m text first
    listed = (lists.1 first).0 (Contains-head os)

    goes_on : (b : Occurrence) → asked_kind m.kind earliest ≡ Standard → Occurs (whole m text true) b
        → ¬ (b.end < length text)
    goes_on b standard h lt =
        let none : IsEarlier (asked_kind m.kind earliest) m true text None =
        subst (λ x. IsEarlier (asked_kind m.kind earliest) m true text x) (fresh standard) earlier in
        none.least b (h, lt)

    not_before : (b : Occurrence) → IsBest (asked_kind m.kind earliest) (whole m text true) (Some b)
        → ¬ (b.end < length text)
    not_before b best lt = ⊎_elim
        (λ (standard : asked_kind m.kind earliest ≡ Standard). goes_on b standard best.0 lt)
        (λ (leftmost : (asked_kind m.kind earliest ≡ m.kind) × (m.kind ≢ Standard) × (earliest ≡ false)).
        let end = listed.1 in
        best.1 first listed.0
        (subst (λ k. preference k b first ≡ Greater) (sym leftmost.0)
        (anchored-new_first leftmost.1 best.0 listed.0 (omega arith) listed.2.1)))
        (asked_cases m.kind earliest)

    same : (b : Occurrence) → IsBest (asked_kind m.kind earliest) (whole m text true) (Some b) → b ≡ first
    same b best = ⊎_elim
        (λ (lt : b.end < length text). absurd (not_before b best lt))
        (λ (le : length text ≤ b.end).
        let w = best.0.within in
        let end : b.end ≡ length text = omega arith in
        let here : Contains (first ∷ os) b =
        (lists.1 b).1 (best.0, end, (best.0.same.0, best-entered earliest best best.0.same.1)) in
        let ends : b.end ≡ first.end = end ∙ sym listed.1 in
        let one : preference Standard b first
        ≢ Greater = subst (λ x. x ≢ Greater) (preference-one_end (asked_kind m.kind earliest) b first ends)
        (best.1 first listed.0) in
        ⊎_elim
        (λ (e : first ≡ b). sym e)
        (λ (c : Contains os b). preference-same Standard (whole m text true) b first (omega arith) best.0 listed.0 one
        (less-not_greater (IsRising-head first os lists.0 c)))
        (Contains-cases os here))
        (cases_lt b.end (length text))

    by : (b : Option Occurrence) → IsBest (asked_kind m.kind earliest) (whole m text true) b
        → IsBest (asked_kind m.kind earliest) (whole m text true) (Some first)
    by None none = absurd (none first listed.0)
    by (Some b) best = subst (λ x. IsBest (asked_kind m.kind earliest) (whole m text true) (Some x)) (same b best) best

-- the best match of an anchored text, from the best of the occurrences that ended earlier
told-anchored : {m : Dictionary} (earliest : Bool) {text : List ℕ} (ns : List ℕ) {r : Option Occurrence}
    → IsEarlier (asked_kind m.kind earliest) m true text r → (asked_kind m.kind earliest ≡ Standard → r ≡ None)
    → ListsAll (IsWhole m text) (map (ending m text) ns)
    → IsBest (asked_kind m.kind earliest) (whole m text true)
    (option_or (option_map (ending m text) (slice_get ns 0)) r)
told-anchored earliest [] earlier fresh lists = told-anchored_none earliest earlier lists
told-anchored {m} earliest {text} (n ∷ ns) earlier fresh lists =
    told-anchored_some earliest (map (ending m text) ns) earlier fresh lists

-- ---- anchored or not

-- the best match of an unanchored text
told-unanchored : {m : Dictionary} (earliest : Bool) {text : List ℕ} (ns : List ℕ) {r : Option Occurrence}
    → IsEarlier (asked_kind m.kind earliest) m false text r → (asked_kind m.kind earliest ≡ Standard → r ≡ None)
    → TellsUnanchored m.kind m text ns
    → IsBest (asked_kind m.kind earliest) (whole m text false)
    (option_or (option_map (ending m text) (slice_get ns 0)) r)
told-unanchored {m} earliest {text} ns {r} earlier fresh tells = ⊎_elim
    (λ (standard : asked_kind m.kind earliest ≡ Standard).
    let none : r ≡ None = fresh standard in
    let before : IsEarlier Standard m false text None = subst (λ x. IsEarlier Standard m false text x) none
    (subst (λ k. IsEarlier k m false text r) standard earlier) in
    let best : IsBest Standard (whole m text false) (option_map (ending m text) (slice_get ns 0)) =
    ⊎_elim
    (λ (is : m.kind ≡ Standard). told-standard ns before (subst (λ k. TellsUnanchored k m text ns) is tells))
    (λ (leftmost : m.kind ≢ Standard). told-earliest ns leftmost before tells)
    (kind_cases m.kind) in
    subst (λ k. IsBest k (whole m text false) (option_or (option_map (ending m text) (slice_get ns 0)) r))
    (sym standard)
    (subst (λ x. IsBest Standard (whole m text false) (option_or (option_map (ending m text) (slice_get ns 0)) x))
    (sym none)
    (subst (λ x. IsBest Standard (whole m text false) x)
    (sym (option_or-none (option_map (ending m text) (slice_get ns 0)))) best)))
    (λ (leftmost : (asked_kind m.kind earliest ≡ m.kind) × (m.kind ≢ Standard) × (earliest ≡ false)).
    subst (λ k. IsBest k (whole m text false) (option_or (option_map (ending m text) (slice_get ns 0)) r))
    (sym leftmost.0)
    (told-leftmost m.kind text ns leftmost.1 (subst (λ k. IsEarlier k m false text r) leftmost.0 earlier) tells))
    (asked_cases m.kind earliest)

-- The best match of a text is the first entry of the state's list that counts, or else the best earlier occurrence.
pub told : {m : Dictionary} (anchored : Anchored) (earliest : Bool) {text : List ℕ} (ns : List ℕ)
    {r : Option Occurrence}
    → IsEarlier (asked_kind m.kind earliest) m (is_anchored anchored) text r
    → (asked_kind m.kind earliest ≡ Standard → r ≡ None)
    → Tells m anchored text ns
    → IsBest (asked_kind m.kind earliest) (whole m text (is_anchored anchored))
    (option_or (option_map (ending m text) (slice_get (counted m (is_anchored anchored) (length text) ns) 0)) r)
told {m} No earliest {text} ns {r} earlier fresh tells =
    subst (λ x. IsBest (asked_kind m.kind earliest) (whole m text false) (option_or (option_map (ending m text) x) r))
    (sym (first-counts m (length text) ns))
    (told-unanchored earliest ns earlier fresh tells)
told {m} Yes earliest {text} ns {r} earlier fresh tells =
    told-anchored earliest (filter (λ n. length (get_or m.patterns n []) == length text) ns) earlier fresh
    tells

-- ---- how far back an entry starts

-- a pattern that occurs at the end of a text is no longer than the text
pub ending-fits : (m : Dictionary) {anchored : Bool} {text : List ℕ} {n : ℕ}
    → Occurs (whole m text anchored) (ending m text n) → length (get_or m.patterns n []) ≤ length text
ending-fits m {n} h =
    let found = occurs-end (omega arith) h in
    let one : length (get_or m.patterns n []) ≡ length found.0 =
    ap length (get_or_from_slice_get m.patterns n found.0 [] found.1) in
    let end = found.2 in
    omega arith

-- the first entry of an unanchored list occurs
pub told-first_occurs : (kind : MatchKind) (m : Dictionary) (text ns : List ℕ) (n : ℕ) → TellsUnanchored kind m text ns
    → slice_get ns 0 ≡ Some n → Occurs (whole m text false) (ending m text n)
told-first_occurs kind m text [] n tells is = absurd (let e : None ≡ Some n = is in cc)
told-first_occurs Standard m text (k ∷ ns) n tells is =
    subst (λ x. Occurs (whole m text false) (ending m text x)) (same_Some k n is)
    ((tells.1 (ending m text k)).0 (Contains-head (map (ending m text) ns))).0
told-first_occurs LeftmostFirst m [] (k ∷ ns) n tells is =
    subst (λ x. Occurs (whole m [] false) (ending m [] x)) (same_Some k n is) tells.0
told-first_occurs LeftmostFirst m (b ∷ bs) (k ∷ ns) n tells is =
    subst (λ x. Occurs (whole m (b ∷ bs) false) (ending m (b ∷ bs) x)) (same_Some k n is) tells.0
told-first_occurs LeftmostLongest m [] (k ∷ ns) n tells is =
    subst (λ x. Occurs (whole m [] false) (ending m [] x)) (same_Some k n is) tells.0
told-first_occurs LeftmostLongest m (b ∷ bs) (k ∷ ns) n tells is =
    subst (λ x. Occurs (whole m (b ∷ bs) false) (ending m (b ∷ bs) x)) (same_Some k n is) tells.0

-- the first entry of an unanchored list is no longer than the text
pub told-first_fits : (m : Dictionary) (text ns : List ℕ) (n : ℕ) → Tells m No text ns → slice_get ns 0 ≡ Some n
    → length (get_or m.patterns n []) ≤ length text
told-first_fits m text ns n tells is = ending-fits m (told-first_occurs m.kind m text ns n tells is)
