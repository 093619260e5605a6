-- How a walk ends, and how it reads on to the next special state.
use Rattle.std.proofs.Common.{◌≡◌, ◌≢◌, ⊎_elim, ℕ, zero, suc, ◌+◌, ◌-◌, ◌*◌, ◌<◌, ◌≤◌, ◌&&◌, not, Bool, true, false, List, [], ◌∷◌, ◌++◌, length, take, drop, Option, Some, None, get_or, slice_get, slice_range, inr, sym, ap, subst, refl, ◌∙◌, arith, length-append, take-append-drop}
use Rattle.std.specs.Option.{option_map, option_or, is_some}
use Rattle.std.proofs.lemmas.Bool.{false≢true, cases_lt}
use Rattle.std.proofs.lemmas.List.{drop_all, take-take}
use Rattle.std.proofs.lemmas.Option.{none-some, same_Some, slice_get-get_or}
use Rattle.ac_input.specs.declared.search.Anchored.{Anchored}
use Rattle.ac_input.specs.declared.search.Anchored.TheVariants.{No, Yes}
use Rattle.ac_input.specs.declared.search.MatchKind.{MatchKind}
use Rattle.ac_input.specs.declared.search.MatchKind.TheVariants.{Standard}
use Rattle.ac_input.specs.declared.search.Span.{Span}
use Rattle.ac_input.specs.declared.steps.Steps.{Steps}
use Rattle.ac_input.specs.Best.{IsBest, asked_kind}
use Rattle.ac_input.specs.Input.{is_anchored, search_of}
use Rattle.ac_input.specs.Laws.LiveLaws.{shifted, shifted_best}
use Rattle.ac_input.specs.Dictionary.{BeginsEntered, Dictionary, whole, IsLive, live_len}
use Rattle.ac_input.specs.Occurrence.{Occurrence, Occurs}
use Rattle.ac_input.specs.Tells.{ending}
use Rattle.ac_input.specs.Work.{IsLookups, come_at_least, lookups_per_byte, longest, over_at}
use Rattle.ac_input.proofs.lemmas.OrderLemmas.{slice_range-length}
use Rattle.ac_input.proofs.lemmas.LiveLemmas.{occurs-front}
use Rattle.ac_input.proofs.lemmas.ShiftLemmas.{back_by}
use Rattle.ac_input.proofs.lemmas.SpanLemmas.{occurs-in_whole_of_span, best-of_span}
use Rattle.ac_input.proofs.lemmas.StateLemmas.{new-behind}
use Rattle.ac_automaton.specs.InMemory.Find.{EndSays, IsWalkWork}
use Rattle.ac_automaton.specs.InMemory.Find.Cursor.{counted, IsQuiet}
use Rattle.ac_automaton.specs.declared.in_memory.find.cursor.End.TheVariants.{Found, Idle}
use Rattle.ac_automaton.proofs.in_memory.find.ToldLemmas.{IsEarlier, earlier-append, told, asked_cases}
use Rattle.ac_automaton.proofs.lemmas.CursorLemmas.{part-more, lookups-join}
use Rattle.ac_automaton.proofs.lemmas.WalkLemmas.{AtDead, AtEnd, AtFirst, HasTold, HasReadText, IsOver, best-over, live-bound, occurs-bound, read}
use Rattle.ac_input.proofs.lemmas.SomeLemmas.{live-some}

-- ---- the end of a walk

-- the span's text is the bytes that were read, and the bytes that are left
read-rest : (haystack : List ℕ) (span : Span) (at : ℕ) → span.start ≤ at → at ≤ span.end
    → (more : List ℕ) × (read haystack span at ++ more ≡ slice_range haystack span.start span.end)
    × (length more ≡ length (slice_range haystack span.start span.end) - length (read haystack span at))
read-rest haystack span at behind inside =
    let front : take (at - span.start) (slice_range haystack span.start span.end) ≡ read haystack span at =
    take-take (at - span.start) (span.end - span.start) (drop span.start haystack) (omega arith) in
    let split : read haystack span at ++ drop (at - span.start) (slice_range haystack span.start span.end)
    ≡ slice_range haystack span.start span.end = ap
    (λ l. l ++ drop (at - span.start) (slice_range haystack span.start span.end)) (sym front)
    ∙ take-append-drop (at - span.start) (slice_range haystack span.start span.end) in
    let both =
    length-append (read haystack span at) (drop (at - span.start) (slice_range haystack span.start span.end)) in
    let long = ap length split in
    (drop (at - span.start) (slice_range haystack span.start span.end), split, omega arith)

-- a list of no length is empty
length-none : {X : Type 0} (xs : List X) → length xs ≡ 0 → xs ≡ []
length-none [] e = refl
length-none (x ∷ xs) e = absurd (omega arith)

-- a walk is done: at the end of its span, where its text is dead, or, under the standard kind, with a match
pub data IsDone (m : Dictionary) (anchored : Anchored) (kind : MatchKind) (haystack : List ℕ) (span : Span) (at : ℕ)
    (best : Option Occurrence) : Type 0 where
  Ended : at ≡ span.end → IsDone m anchored kind haystack span at best
  Died : IsLive m (is_anchored anchored) (read haystack span at) None → IsDone m anchored kind haystack span at best
  Won : (o : Occurrence) → kind ≡ Standard → best ≡ Some o → IsDone m anchored kind haystack span at best

-- a match in the haystack is a match of the text read, moved by the place where the text begins
pub unshifted : (start : ℕ) (r : Option Occurrence) (o : Occurrence) → shifted_best start r ≡ Some o
    → (b : Occurrence) × (r ≡ Some b) × (shifted start b ≡ o)
unshifted start None o e = absurd (let d : None ≡ Some o = e in cc)
unshifted start (Some b) o e = (b, refl, same_Some (shifted start b) o e)

-- a walk that is done in its haystack is over for the text that it has read
done-over : {m : Dictionary} {anchored : Anchored} {earliest deterministic : Bool} {haystack : List ℕ} {span : Span}
    {at : ℕ} {best : Option Occurrence} {s t : Steps} (more : List ℕ) → span.end ≤ length haystack
    → (has : HasTold m anchored earliest deterministic haystack span at best s t)
    → length more ≡ length (slice_range haystack span.start span.end) - length (read haystack span at)
    → IsDone m anchored (asked_kind m.kind earliest) haystack span at best
    → IsOver m (is_anchored anchored) (asked_kind m.kind earliest) (read haystack span at) more has.found
done-over {haystack} {span} {at} more within has long (Ended e) =
    AtEnd (length-none more
    (let same : length (slice_range haystack span.start at) ≡ length (slice_range haystack span.start span.end) =
    ap (λ n. length (slice_range haystack span.start n)) e in omega arith))
done-over more within has long (Died dead) = AtDead dead
done-over {span} more within has long (Won o standard some) =
    let r = unshifted span.start has.found o (sym has.kept ∙ some) in AtFirst r.0 standard r.1

-- the match of a walk that is done is the best of the search
pub answer-says : {m : Dictionary} {anchored : Anchored} {earliest deterministic : Bool} {haystack : List ℕ}
    {span : Span} {at : ℕ} {best : Option Occurrence} {s t : Steps} → span.end ≤ length haystack
    → HasTold m anchored earliest deterministic haystack span at best s t
    → IsDone m anchored (asked_kind m.kind earliest) haystack span at best
    → EndSays (asked_kind m.kind earliest) (search_of m anchored haystack span) (Found best)
answer-says {m} {anchored} {earliest} {haystack} {span} {at} within has done =
    let behind = has.behind in
    let inside = has.inside in
    let rest = read-rest haystack span at behind inside in
    let over = done-over rest.0 within has rest.2 done in
    let all : IsBest (asked_kind m.kind earliest)
    (whole m (slice_range haystack span.start span.end) (is_anchored anchored)) has.found =
    subst (λ l. IsBest (asked_kind m.kind earliest) (whole m l (is_anchored anchored)) has.found) rest.1
    (best-over earliest has.told over) in
    subst (λ x. IsBest (asked_kind m.kind earliest) (search_of m anchored haystack span) x) (sym has.kept)
    ((best-of_span (asked_kind m.kind earliest) m (search_of m anchored haystack span) has.found (refl, refl)
    (omega arith) within).0 all)

-- the looks for some bytes are within the bound for more bytes
looks-within : (deterministic : Bool) (n k live : ℕ) (s t : Steps) → IsLookups deterministic n 0 live s t → n ≤ k
    → t.looked.value ≤ s.looked.value + lookups_per_byte deterministic * k
looks-within true n k live s t run le = let one = run.one refl in omega arith
looks-within false n k live s t run le = let bound = run.bound in omega arith

-- the place where a walk stops lies at most the longest pattern and one byte after the start of its match
match-bound : {m : Dictionary} {anchored : Anchored} {earliest deterministic : Bool} {haystack : List ℕ} {span : Span}
    {at : ℕ} {best : Option Occurrence} {s t : Steps} (b : Occurrence) → span.end ≤ length haystack
    → (has : HasTold m anchored earliest deterministic haystack span at best s t)
    → has.found ≡ Some b
    → at - span.start ≤ b.start + longest m.patterns + 1
match-bound {m} {anchored} {earliest} {haystack} {span} {at} b within has is = ⊎_elim
    (λ (lt : span.start < at).
    ⊎_elim
    (λ (standard : asked_kind m.kind earliest ≡ Standard).
    let end = has.ends b standard is in
    let le = occurs-bound m {anchored = is_anchored anchored} {text = read haystack span at} {o = b} here.0 in
    omega arith)
    (λ (leftmost : (asked_kind m.kind earliest ≡ m.kind) × (m.kind ≢ Standard) × (earliest ≡ false)).
    let inside = has.inside in
    let rest = read-rest haystack (record { start = span.start; end = at }) (at - 1) (omega arith) (omega arith) in
    let long = slice_range-length haystack span.start {b = at - 1} (omega arith) (omega arith) in
    let live = has.near lt in
    let le = live-bound m (is_anchored anchored) (read haystack span (at - 1)) rest.0 live.0 leftmost.1 live.1
    (subst (λ l. Occurs (whole m l (is_anchored anchored)) b) (sym rest.1) here.0) in
    omega arith)
    (asked_cases m.kind earliest))
    (λ (le : at ≤ span.start). omega arith)
    (cases_lt span.start at)
  where
    here : IsBest (asked_kind m.kind earliest) (whole m (read haystack span at) (is_anchored anchored)) (Some b)
    here = subst (λ x. IsBest (asked_kind m.kind earliest) (whole m (read haystack span at) (is_anchored anchored)) x)
        is has.told

-- under the standard kind a walk stops no later than where the search is over
over-bound : {m : Dictionary} {anchored : Anchored} {earliest deterministic : Bool} {haystack : List ℕ} {span : Span}
    {at : ℕ} {best : Option Occurrence} {s t : Steps} (r : Option Occurrence)
    → (has : HasTold m anchored earliest deterministic haystack span at best s t)
    → has.found ≡ r
    → asked_kind m.kind earliest ≡ Standard
    → at - span.start ≤ over_at (search_of m anchored haystack span) (shifted_best span.start r) - span.start
over-bound None has is standard = let inside = has.inside in
    omega arith
over-bound (Some b) has is standard =
    let end = has.ends b standard is in omega arith

-- the cost of a walk that returns a result
pub answer-work : {m : Dictionary} {anchored : Anchored} {earliest deterministic : Bool} {haystack : List ℕ}
    {span : Span} {at : ℕ} {best : Option Occurrence} {s t : Steps} → span.end ≤ length haystack
    → HasTold m anchored earliest deterministic haystack span at best s t
    → IsWalkWork (asked_kind m.kind earliest) deterministic (search_of m anchored haystack span) (Found best) s t
answer-work {m} {anchored} {deterministic} {haystack} {span} {at} {best} {s} {t} within has =
    let live = live-some in
    let run = has.work live.0 live.1 in
    let inside = has.inside in
    let same = run.scanned in (
      record {
        looked = looks-within deterministic (at - span.start) (span.end - span.start)
            (live_len (read haystack span at) live.0) s t run (omega arith);
        standard = λ standard.
            let le : at - span.start ≤ over_at (search_of m anchored haystack span) best
            - span.start = subst (λ x. at - span.start ≤ over_at (search_of m anchored haystack span) x - span.start)
            (sym has.kept)
            (over-bound has.found has refl standard) in
            looks-within deterministic (at - span.start)
            (over_at (search_of m anchored haystack span) best - span.start) (live_len (read haystack span at) live.0) s
            t run
            le;
        leftmost = λ o some.
            let b = unshifted span.start has.found o (sym has.kept ∙ some) in
            let le = match-bound b.0 within has b.1 in
            let start : span.start + b.0.start ≡ o.start = ap (λ x. x.start) b.2 in
            looks-within deterministic (at - span.start) (o.start + longest m.patterns + 1 - span.start)
            (live_len (read haystack span at) live.0) s t run (omega arith);
        scanned = omega arith;
        moved = run.moved;
      },
      run.scanned,
    )

-- the empty end of a text begins an entered pattern
pub end-begins : (m : Dictionary) (text : List ℕ) → BeginsEntered m (drop (length text) text)
end-begins m text = subst (λ t. BeginsEntered m t) (sym (drop_all (length text) text (omega arith))) tt

-- an unanchored text without an occurrence isn't dead: what follows may still begin a match
pub none-alive : (m : Dictionary) (kind : MatchKind) (text : List ℕ) → IsBest kind (whole m text false) None
    → ¬ IsLive m false text None
none-alive m kind text none dead =
    dead (length text) (record {
      within = omega arith;
      begins = end-begins m text;
      anchor = λ a. absurd (false≢true a);
      no_later = inr (inr (λ best h. absurd (none best h.0)));
    })

-- a walk that is done has come at least as far as its result claims
come-bound : (m : Dictionary) (anchored : Anchored) (earliest deterministic : Bool) (haystack : List ℕ) (span : Span)
    (at : ℕ) (best : Option Occurrence) (s t : Steps) (r : Option Occurrence)
    → span.end ≤ length haystack
    → (has : HasTold m anchored earliest deterministic haystack span at best s t)
    → has.found ≡ r
    → IsDone m anchored (asked_kind m.kind earliest) haystack span at best
    → come_at_least (search_of m anchored haystack span) (shifted_best span.start r) - span.start ≤ at - span.start
come-bound m anchored earliest deterministic haystack span at best s t (Some b) within has is done =
    let here : IsBest (asked_kind m.kind earliest) (whole m (read haystack span at) (is_anchored anchored))
    (Some b) =
    subst (λ x. IsBest (asked_kind m.kind earliest) (whole m (read haystack span at) (is_anchored anchored)) x) is
    has.told in
    let inside = has.inside in
    let long = slice_range-length haystack span.start has.behind (omega arith) in
    let w = here.0.within in
    omega arith
come-bound m Yes earliest deterministic haystack span at best s t None within has is done = omega arith
come-bound m No earliest deterministic haystack span at best s t None within has is (Ended e) = omega arith
come-bound m No earliest deterministic haystack span at best s t None within has is (Died dead) =
    absurd (none-alive m (asked_kind m.kind earliest) (read haystack span at)
    (subst (λ x. IsBest (asked_kind m.kind earliest) (whole m (read haystack span at) false) x) is has.told) dead)
come-bound m No earliest deterministic haystack span at best s t None within has is (Won o standard some) =
    absurd (none-some o (sym (has.kept ∙ ap (shifted_best span.start) is) ∙ some))

-- a walk that is done has looked at a state for each byte that it passed
pub answer-looks : {m : Dictionary} {anchored : Anchored} {earliest deterministic : Bool} {haystack : List ℕ}
    {span : Span} {at : ℕ} {best : Option Occurrence} {s t : Steps} → span.end ≤ length haystack
    → HasTold m anchored earliest deterministic haystack span at best s t
    → IsDone m anchored (asked_kind m.kind earliest) haystack span at best
    → s.looked.value + (come_at_least (search_of m anchored haystack span) best - span.start) ≤ t.looked.value
answer-looks {m} {anchored} {earliest} {deterministic} {haystack} {span} {at} {best} {s} {t} within has done =
    let live = live-some in
    let some = (has.work live.0 live.1).some in
    let le : come_at_least (search_of m anchored haystack span) best - span.start
    ≤ at - span.start = subst (λ x. come_at_least (search_of m anchored haystack span) x - span.start ≤ at - span.start)
    (sym has.kept)
    (come-bound m anchored earliest deterministic haystack span at best s t has.found within has refl done) in
    omega arith

-- no match in the haystack means no match of the text read
pub unshifted-none : (start : ℕ) (r : Option Occurrence) → shifted_best start r ≡ None → r ≡ None
unshifted-none start None e = refl
unshifted-none start (Some b) e = absurd (let d : Some (shifted start b) ≡ None = e in cc)

-- where nothing of a text is live and nothing occurs in it, an occurrence in a longer text begins after it
behind-empty : (m : Dictionary) (text more : List ℕ) {o : Occurrence}
    → ((q : Occurrence) → ¬ Occurs (whole m text false) q) → IsLive m false text (Some (length text))
    → Occurs (whole m (text ++ more) false) o → length text ≤ o.start
behind-empty m text more {o} none live h = ⊎_elim
    (λ (sooner : o.end < length text). absurd (none o (occurs-front m more (omega arith) h)))
    (λ (past : length text ≤ o.end). new-behind false more live h past)
    (cases_lt o.end (length text))

-- nothing begins before a walk that is back at the start
pub back-says : {m : Dictionary} {anchored : Anchored} {earliest deterministic : Bool} {haystack : List ℕ}
    {span : Span} {at : ℕ} {best : Option Occurrence} {s t : Steps} → span.end ≤ length haystack
    → HasTold m anchored earliest deterministic haystack span at best s t
    → anchored ≡ No
    → best ≡ None
    → span.start < at
    → IsLive m (is_anchored anchored) (read haystack span at) (Some (length (read haystack span at)))
    → EndSays (asked_kind m.kind earliest) (search_of m anchored haystack span) (Idle at)
back-says {m} {anchored} {earliest} {haystack} {span} {at} within has unanchored none lt live =
    (lt, has.inside, λ o h. by o h)
  where
    nothing : (q : Occurrence) → ¬ Occurs (whole m (read haystack span at) (is_anchored anchored)) q
    nothing =
        subst (λ x. IsBest (asked_kind m.kind earliest) (whole m (read haystack span at) (is_anchored anchored)) x)
        (unshifted-none span.start has.found (sym has.kept ∙ none)) has.told

    by : (o : Occurrence) → Occurs (search_of m anchored haystack span) o → at ≤ o.start
    by o h =
        let inside = has.inside in
        let w = h.within in
        let rest = read-rest haystack span at has.behind inside in
        let long = slice_range-length haystack span.start has.behind (omega arith) in
        let there : Occurs (whole m (read haystack span at ++ rest.0) (is_anchored anchored))
        (back_by span.start o) = subst (λ l. Occurs (whole m l (is_anchored anchored)) (back_by span.start o))
        (sym rest.1) (occurs-in_whole_of_span m (refl, refl) (omega arith) (omega arith) within h h.within.2).0 in
        let no : is_anchored anchored ≡ false = ap is_anchored unanchored in
        let le = behind-empty m (read haystack span at) rest.0
        (subst (λ b. (q : Occurrence) → ¬ Occurs (whole m (read haystack span at) b) q) no nothing)
        (subst (λ b. IsLive m b (read haystack span at) (Some (length (read haystack span at)))) no live)
        (subst (λ b. Occurs (whole m (read haystack span at ++ rest.0) b) (back_by span.start o)) no there) in
        omega arith

-- the cost of a walk that is back at the start
pub back-work : {m : Dictionary} {anchored : Anchored} {earliest deterministic : Bool} {haystack : List ℕ}
    {span : Span} {at : ℕ} {best : Option Occurrence} {s t : Steps}
    → HasTold m anchored earliest deterministic haystack span at best s t
    → IsWalkWork (asked_kind m.kind earliest) deterministic (search_of m anchored haystack span) (Idle at) s t
back-work {deterministic} {haystack} {span} {at} {s} {t} has =
    let live = live-some in
    let run = has.work live.0 live.1 in (
      looks-within deterministic (at - span.start) (at - span.start) (live_len (read haystack span at) live.0) s t run
          (omega arith),
      run.scanned,
      run.moved,
    )

-- ---- on to the next special state

-- an empty list has no entry that counts
counted-none : (m : Dictionary) (anchored : Anchored) (bytes : ℕ)
    → slice_get (counted m (is_anchored anchored) bytes []) 0 ≡ None
counted-none m anchored bytes = refl

-- the bytes read up to the next place are those read so far and one byte
read-more : (haystack : List ℕ) (span : Span) (at : ℕ) → span.start ≤ at → at < length haystack
    → read haystack span (at + 1) ≡ read haystack span at ++ get_or haystack at 0 ∷ []
read-more haystack span at behind inside =
    part-more haystack span.start at (get_or haystack at 0) behind (slice_get-get_or haystack at 0 inside)

-- the best match of what was read is the best that ended earlier, one byte later
pub earlier-read : (kind : MatchKind) (m : Dictionary) (anchored : Bool) (haystack : List ℕ) (span : Span) (at : ℕ)
    (r : Option Occurrence) → span.start ≤ at → at < length haystack
    → IsBest kind (whole m (read haystack span at) anchored) r
    → IsEarlier kind m anchored (read haystack span (at + 1)) r
earlier-read kind m anchored haystack span at r behind inside best =
    subst (λ l. IsEarlier kind m anchored l r) (sym (read-more haystack span at behind inside))
    (earlier-append (read haystack span at) (get_or haystack at 0) best)

-- states with empty lists leave the best unchanged
best-quiet : (bytes : ℕ) (m : Dictionary) (anchored : Anchored) (earliest : Bool) (haystack : List ℕ) (span : Span)
    (at : ℕ) (r : Option Occurrence)
    → span.start ≤ at
    → at + bytes ≤ length haystack
    → (asked_kind m.kind earliest ≡ Standard → r ≡ None)
    → ((k : ℕ) → at < k → k ≤ at + bytes → IsQuiet m anchored (read haystack span k))
    → IsBest (asked_kind m.kind earliest) (whole m (read haystack span at) (is_anchored anchored)) r
    → IsBest (asked_kind m.kind earliest) (whole m (read haystack span (at + bytes)) (is_anchored anchored)) r
best-quiet zero m anchored earliest haystack span at r behind inside fresh quiet best =
    let same : at ≡ at + 0 = omega arith in
    subst (λ n. IsBest (asked_kind m.kind earliest) (whole m (read haystack span n) (is_anchored anchored)) r) same best
best-quiet (suc bytes) m anchored earliest haystack span at r behind inside fresh quiet best =
    let before = best-quiet bytes m anchored earliest haystack span at r behind (omega arith) fresh
    (λ k lt le. quiet k lt (omega arith)) best in
    let next : at + bytes + 1 ≡ at + suc bytes = omega arith in
    let tells = (quiet (at + bytes + 1) (omega arith) (omega arith)).nothing in
    let is =
    told anchored earliest []
    (earlier-read (asked_kind m.kind earliest) m (is_anchored anchored) haystack span (at + bytes) r (omega arith)
    (omega arith) before) fresh tells in
    subst (λ n. IsBest (asked_kind m.kind earliest) (whole m (read haystack span n) (is_anchored anchored)) r) next
    (subst (λ x. IsBest (asked_kind m.kind earliest)
    (whole m (read haystack span (at + bytes + 1)) (is_anchored anchored))
    (option_or (option_map (ending m (read haystack span (at + bytes + 1))) x) r))
    (counted-none m anchored (length (read haystack span (at + bytes + 1)))) is)

-- what it costs to read on from one place to the next, by what is live at both
abbrev pub PaysToRead : Dictionary → Anchored → Bool → List ℕ → Span → ℕ → ℕ → Steps → Steps → Type 0
PaysToRead m anchored deterministic haystack span at next t u =
    (before after : Option ℕ) → IsLive m (is_anchored anchored) (read haystack span at) before
    → IsLive m (is_anchored anchored) (read haystack span next) after
    → IsLookups deterministic (next - at) (live_len (read haystack span at) before)
    (live_len (read haystack span next) after) t u

-- the walk reads on to the next special state
pub walked-on : (m : Dictionary) (anchored : Anchored) (earliest deterministic : Bool) (haystack : List ℕ) (span : Span)
    (at next : ℕ) (best : Option Occurrence) (s t u : Steps)
    → span.end ≤ length haystack
    → HasTold m anchored earliest deterministic haystack span at best s t
    → (asked_kind m.kind earliest ≡ Standard → best ≡ None)
    → ((from : ℕ) × IsLive m (is_anchored anchored) (read haystack span at) (Some from))
    → at < next
    → next ≤ span.end
    → ((k : ℕ) → at < k → k < next → IsQuiet m anchored (read haystack span k))
    → PaysToRead m anchored deterministic haystack span at next t u
    → HasReadText m anchored earliest deterministic haystack span next best s u
walked-on m anchored earliest deterministic haystack span at next best s t u within has open_ live further inside quiet
    work =
    let behind = has.behind in
    let fresh : asked_kind m.kind earliest ≡ Standard
    → has.found ≡ None = λ standard. unshifted-none span.start has.found (sym has.kept ∙ open_ standard) in
    let there : at + (next - at - 1) + 1 ≡ next = omega arith in
    let before = best-quiet (next - at - 1) m anchored earliest haystack span at has.found behind (omega arith) fresh
    (λ k lt le. quiet k lt (omega arith)) has.told in
    record {
      behind = omega arith;
      inside = inside;
      found = has.found;
      kept = has.kept;
      earlier =
          subst (λ n. IsEarlier (asked_kind m.kind earliest) m (is_anchored anchored) (read haystack span n) has.found)
          there
          (earlier-read (asked_kind m.kind earliest) m (is_anchored anchored) haystack span (at + (next - at - 1))
          has.found (omega arith) (omega arith) before);
      fresh = fresh;
      near = λ lt. ⊎_elim
          (λ (passed : at < next - 1). (quiet (next - 1) passed (omega arith)).alive)
          (λ (here : next - 1 ≤ at). let same : at ≡ next - 1 = omega arith in
          subst (λ n. (from : ℕ) × IsLive m (is_anchored anchored) (read haystack span n) (Some from)) same live)
          (cases_lt at (next - 1));
      work = λ last is.
          let bytes : at - span.start + (next - at) ≡ next - span.start = omega arith in
          subst (λ n. IsLookups deterministic n 0 (live_len (read haystack span next) last) s u) bytes
          (lookups-join (has.work (Some live.0) live.1)
          (work (Some live.0) last live.1 is));
    }

-- ---- the tests of the walk

-- where the first match ends the walk, the walk has a match
pub won-found : (won first : Bool) (best : Option Occurrence) → won ≡ (first && is_some best) → won ≡ true
    → (first ≡ true) × ((o : Occurrence) × (best ≡ Some o))
won-found won true None is e = absurd (false≢true (sym is ∙ e))
won-found won true (Some o) is e = (refl, (o, refl))
won-found won false best is e = absurd (false≢true (sym is ∙ e))

-- where the first match would end the walk and hasn't, the walk has no match
pub not_won-none : (won first : Bool) (best : Option Occurrence) → won ≡ (first && is_some best) → won ≡ false
    → first ≡ true → best ≡ None
not_won-none won true None is e f = refl
not_won-none won true (Some o) is e f = absurd (false≢true (sym e ∙ is))
not_won-none won false best is e f = absurd (false≢true f)

-- where the test reports no match, there is none
pub is_none-found : (none : Bool) (best : Option Occurrence) → is_some best ≡ not none → none ≡ true → best ≡ None
is_none-found none None is e = refl
is_none-found none (Some o) is e = absurd (false≢true (sym (ap not e) ∙ sym is))
