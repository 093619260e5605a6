-- What a walk knows as it reads on: the best match of the bytes read, and how much it has looked at.
use Rattle.std.proofs.Common.{◌≡◌, ◌≢◌, ⊎_elim, ℕ, ◌+◌, ◌-◌, ◌<◌, ◌≤◌, Bool, true, false, List, [], ◌∷◌, ◌++◌, length, drop, Option, Some, None, get_or, slice_get, slice_range, sym, ap, subst, refl, ◌∙◌, arith, length-drop}
use Rattle.std.specs.Option.{option_map, option_or}
use Rattle.std.proofs.lemmas.Bool.{cases_lt}
use Rattle.std.proofs.lemmas.List.{append-nil}
use Rattle.std.proofs.lemmas.Option.{same_Some}
use Rattle.ac_input.specs.declared.search.Anchored.{Anchored}
use Rattle.ac_input.specs.declared.search.Anchored.TheVariants.{No}
use Rattle.ac_input.specs.declared.search.MatchKind.{MatchKind}
use Rattle.ac_input.specs.declared.search.MatchKind.TheVariants.{Standard}
use Rattle.ac_input.specs.declared.search.Span.{Span}
use Rattle.ac_input.specs.declared.steps.Steps.{Steps}
use Rattle.ac_input.specs.Best.{IsBest, asked_kind}
use Rattle.ac_input.specs.Input.{is_anchored}
use Rattle.ac_input.specs.Laws.LiveLaws.{shifted_best}
use Rattle.ac_input.specs.Dictionary.{Dictionary, BeginsEntered, whole, IsLive, live_len}
use Rattle.ac_input.specs.Occurrence.{Occurrence, Occurs}
use Rattle.ac_input.specs.Tells.{ending, Tells, ending_at}
use Rattle.ac_input.specs.Work.{IsLookups, longest}
use Rattle.ac_input.proofs.lemmas.OrderLemmas.{less-not_greater, occurs-end, slice_range-length, occurrence_from_parts}
use Rattle.ac_input.proofs.lemmas.RisingLemmas.{less_by_end}
use Rattle.ac_input.proofs.lemmas.LiveLemmas.{occurs-append, occurs-front, dead-final}
use Rattle.ac_input.proofs.lemmas.StateLemmas.{occurs-behind}
use Rattle.ac_automaton.specs.InMemory.Find.Cursor.{counted, taken}
use Rattle.ac_automaton.proofs.in_memory.find.ToldLemmas.{IsEarlier, earlier-start, told, ending-fits}
use Rattle.ac_automaton.proofs.lemmas.CursorLemmas.{part-empty}
use Rattle.ac_input.proofs.lemmas.DeadLemmas.{no_longer-pattern}

-- ---- what is final

-- a standard best match stays the best in any longer text
pub standard-final : (m : Dictionary) {anchored : Bool} {text : List ℕ} (more : List ℕ) {b : Occurrence}
    → IsBest Standard (whole m text anchored) (Some b) → IsBest Standard (whole m (text ++ more) anchored) (Some b)
standard-final m {text} more {b} best = (
  occurs-append m more best.0,
  λ o h. ⊎_elim
      (λ (past : length text < o.end). let w = best.0.within in less-not_greater (less_by_end b o (omega arith)))
      (λ (inside : o.end ≤ length text). best.1 o (occurs-front m more inside h))
      (cases_lt (length text) o.end),
)

-- why a walk stops: nothing is left to read, the text is dead, or it has a match and the kind is standard
pub data IsOver (m : Dictionary) (anchored : Bool) (kind : MatchKind) (text more : List ℕ)
    (r : Option Occurrence) : Type 0 where
  AtEnd : more ≡ [] → IsOver m anchored kind text more r
  AtDead : IsLive m anchored text None → IsOver m anchored kind text more r
  AtFirst : (o : Occurrence) → kind ≡ Standard → r ≡ Some o → IsOver m anchored kind text more r

-- where a walk stops, its best match is the best of all the text
pub best-over : {m : Dictionary} {anchored : Bool} (earliest : Bool) {text more : List ℕ} {r : Option Occurrence}
    → IsBest (asked_kind m.kind earliest) (whole m text anchored) r
    → IsOver m anchored (asked_kind m.kind earliest) text more r
    → IsBest (asked_kind m.kind earliest) (whole m (text ++ more) anchored) r
best-over {m} {anchored} earliest {text} {r} best (AtEnd none) =
    subst (λ l. IsBest (asked_kind m.kind earliest) (whole m (text ++ l) anchored) r) (sym none)
    (subst (λ l. IsBest (asked_kind m.kind earliest) (whole m l anchored) r) (sym (append-nil text)) best)
best-over {m} {anchored} earliest {text} {more} {r} best (AtDead dead) =
    (dead-final m anchored earliest text more r dead).0 best
best-over {m} {anchored} earliest {text} {more} best (AtFirst o standard some) =
    subst (λ x. IsBest (asked_kind m.kind earliest) (whole m (text ++ more) anchored) x) (sym some)
    (subst (λ k. IsBest k (whole m (text ++ more) anchored) (Some o)) (sym standard)
    (standard-final m more
    (subst (λ k. IsBest k (whole m text anchored) (Some o)) standard
    (subst (λ x. IsBest (asked_kind m.kind earliest) (whole m text anchored) x) some best))))

-- ---- how far a walk may go past a match

-- a text that begins an entered pattern is no longer than the longest pattern
pub begins-bound : (m : Dictionary) (text : List ℕ) → BeginsEntered m text → length text ≤ longest m.patterns
begins-bound m [] h = omega arith
begins-bound m (b ∷ bs) h = let le = no_longer-pattern m.patterns h.0 h.2.0 in let within = h.3.0 in omega arith

-- an occurrence is no longer than the longest pattern
pub occurs-bound : (m : Dictionary) {anchored : Bool} {text : List ℕ} {o : Occurrence}
    → Occurs (whole m text anchored) o → o.end ≤ o.start + longest m.patterns
occurs-bound m {o} h =
    let found = occurs-end (omega arith) h in
    let le = no_longer-pattern m.patterns o.pattern found.1 in
    let end = found.2 in
    omega arith

-- Under a leftmost kind, where part of a text is live, a later occurrence begins at most the longest pattern's length
-- before the text's end.
pub live-bound : (m : Dictionary) (anchored : Bool) (text more : List ℕ) (from : ℕ) {o : Occurrence}
    → m.kind ≢ Standard
    → IsLive m anchored text (Some from) → Occurs (whole m (text ++ more) anchored) o
    → length text ≤ o.start + longest m.patterns
live-bound m true text more from leftmost live h =
    let first : from ≡ 0 = live.0.anchor refl in
    let long = begins-bound m (drop from text) live.0.begins in
    let rest = length-drop from text in
    omega arith
live-bound m false text more from leftmost live h =
    let behind = occurs-behind more leftmost live h in
    let long = begins-bound m (drop from text) live.0.begins in
    let rest = length-drop from text in
    omega arith

-- ---- what is known on the way

-- the bytes that were read up to a place
abbrev pub read : List ℕ → Span → ℕ → List ℕ
read haystack span at = slice_range haystack span.start at

-- before the state's match is taken: the best of the matches that ended earlier, of a text that was alive before its
-- last byte
pub record HasReadText (m : Dictionary) (anchored : Anchored) (earliest deterministic : Bool) (haystack : List ℕ)
    (span : Span) (at : ℕ) (best : Option Occurrence) (before after : Steps) : Type 0 where
  pub behind : span.start ≤ at
  pub inside : at ≤ span.end
  pub found : Option Occurrence
  pub kept : best ≡ shifted_best span.start found
  pub earlier : IsEarlier (asked_kind m.kind earliest) m (is_anchored anchored) (read haystack span at) found
  pub fresh : asked_kind m.kind earliest ≡ Standard → found ≡ None
  pub near : span.start < at → (from : ℕ) × IsLive m (is_anchored anchored) (read haystack span (at - 1)) (Some from)
  pub work : (live : Option ℕ) → IsLive m (is_anchored anchored) (read haystack span at) live
      → IsLookups deterministic (at - span.start) 0 (live_len (read haystack span at) live) before after

-- after the state's match is taken: the best match of the bytes read
pub record HasTold (m : Dictionary) (anchored : Anchored) (earliest deterministic : Bool) (haystack : List ℕ)
    (span : Span) (at : ℕ) (best : Option Occurrence) (before after : Steps) : Type 0 where
  pub behind : span.start ≤ at
  pub inside : at ≤ span.end
  pub found : Option Occurrence
  pub kept : best ≡ shifted_best span.start found
  pub told : IsBest (asked_kind m.kind earliest) (whole m (read haystack span at) (is_anchored anchored)) found
  pub ends : (o : Occurrence) → asked_kind m.kind earliest ≡ Standard → found ≡ Some o → o.end ≡ at - span.start
  pub near : span.start < at → (from : ℕ) × IsLive m (is_anchored anchored) (read haystack span (at - 1)) (Some from)
  pub work : (live : Option ℕ) → IsLive m (is_anchored anchored) (read haystack span at) live
      → IsLookups deterministic (at - span.start) 0 (live_len (read haystack span at) live) before after

-- at first the walk has read nothing
pub walked-none : {m : Dictionary} {anchored : Anchored} {earliest deterministic : Bool} {haystack : List ℕ}
    {span : Span} {s : Steps} → span.start ≤ span.end
    → HasReadText m anchored earliest deterministic haystack span span.start None s s
walked-none {m} {anchored} {earliest} {haystack} {span} ordered =
    let none : span.start - span.start ≡ 0 = omega arith in
    let empty = part-empty haystack span.start in
    record {
      behind = omega arith;
      inside = ordered;
      found = None;
      kept = refl;
      earlier =
          subst (λ l. IsEarlier (asked_kind m.kind earliest) m (is_anchored anchored) l None) (sym empty) earlier-start;
      fresh = λ e. refl;
      near = λ lt. absurd (omega arith);
      work = λ live is. let z : live_len (read haystack span span.start) live
          ≡ 0 = live-none (read haystack span span.start) live (omega (arith, ap length empty)) in
          record { some = omega arith; bound = omega arith; one = λ d. omega arith; scanned = refl; moved = refl };
    }
  where
    live-none : (text : List ℕ) (live : Option ℕ) → length text ≡ 0 → live_len text live ≡ 0
    live-none text None e = refl
    live-none text (Some from) e = omega arith

-- ---- the state's match

-- the match of the state's first counting entry, at its place in the haystack
taken-shifted : (m : Dictionary) {start at : ℕ} (text : List ℕ) (r : Option ℕ) → start ≤ at → length text ≡ at - start
    → ((n : ℕ) → r ≡ Some n → length (get_or m.patterns n []) ≤ length text)
    → option_map (ending_at m at) r ≡ shifted_best start (option_map (ending m text) r)
taken-shifted m text None behind long fits = refl
taken-shifted m text (Some n) behind long fits =
    let le = fits n refl in
    ap Some (occurrence_from_parts refl (omega arith) (omega arith))

-- the first of two options, both moved, is the first of the two, moved
or-shifted : (start : ℕ) (a b : Option Occurrence)
    → option_or (shifted_best start a) (shifted_best start b) ≡ shifted_best start (option_or a b)
or-shifted start None b = refl
or-shifted start (Some o) b = refl

-- where no match was known before, the match of the state ends where the text does
taken-ends : (m : Dictionary) (text : List ℕ) (r : Option ℕ) {o : Occurrence}
    → option_or (option_map (ending m text) r) None ≡ Some o → o.end ≡ length text
taken-ends m text None {o} is = absurd (let e : None ≡ Some o = is in cc)
taken-ends m text (Some n) {o} is = sym (ap (λ x. x.end) (same_Some (ending m text n) o is))

-- where the best match comes from an entry, the pattern of the entry occurs
taken-occurs : (kind : MatchKind) (m : Dictionary) {anchored : Bool} {text : List ℕ} {r : Option ℕ}
    (old : Option Occurrence) {n : ℕ}
    → IsBest kind (whole m text anchored) (option_or (option_map (ending m text) r) old) → r ≡ Some n
    → Occurs (whole m text anchored) (ending m text n)
taken-occurs kind m {anchored} {text} old {n} best is =
    let here : IsBest kind (whole m text anchored) (Some (ending m text n)) =
    subst (λ x. IsBest kind (whole m text anchored) (option_or (option_map (ending m text) x) old)) is best in
    here.0

-- the state's list gives the best match of the bytes read
pub told-walked : {m : Dictionary} {anchored : Anchored} {earliest deterministic : Bool} {haystack : List ℕ}
    {span : Span} {at : ℕ} {best : Option Occurrence} (ns : List ℕ) {s t : Steps}
    → span.end ≤ length haystack
    → HasReadText m anchored earliest deterministic haystack span at best s t
    → Tells m anchored (read haystack span at) ns
    → HasTold m anchored earliest deterministic haystack span at
    (option_or (taken m anchored at (at - span.start) ns) best) s t
told-walked {m} {anchored} {earliest} {deterministic} {haystack} {span} {at} {best} ns {s} {t} within walked tells =
    by (slice_get (counted m (is_anchored anchored) (at - span.start) ns) 0) (
    subst (λ n. IsBest (asked_kind m.kind earliest) (whole m (read haystack span at) (is_anchored anchored))
    (option_or (option_map (ending m (read haystack span at)) (slice_get (counted m (is_anchored anchored) n ns) 0))
    walked.found)) long
    (told anchored earliest ns walked.earlier walked.fresh tells)
    )
  where
    long : length (slice_range haystack span.start at) ≡ at - span.start
    long = let inside = walked.inside in slice_range-length haystack span.start walked.behind (omega arith)

    by : (first : Option ℕ)
        → IsBest (asked_kind m.kind earliest) (whole m (read haystack span at) (is_anchored anchored))
        (option_or (option_map (ending m (read haystack span at)) first) walked.found)
        → HasTold m anchored earliest deterministic haystack span at
        (option_or (option_map (ending_at m at) first) best) s t
    by first is =
        let moved = taken-shifted m (read haystack span at) first walked.behind long
        (λ n e. ending-fits m (taken-occurs (asked_kind m.kind earliest) m walked.found is e)) in
        record {
          behind = walked.behind;
          inside = walked.inside;
          found = option_or (option_map (ending m (read haystack span at)) first) walked.found;
          kept = ap (λ x. option_or x best) moved
              ∙ ap (λ x. option_or (shifted_best span.start (option_map (ending m (read haystack span at)) first)) x)
              walked.kept
              ∙ or-shifted span.start (option_map (ending m (read haystack span at)) first) walked.found;
          told = is;
          ends = λ o standard e. taken-ends m (read haystack span at) first
              (subst (λ x. option_or (option_map (ending m (read haystack span at)) first) x ≡ Some o)
              (walked.fresh standard)
              e) ∙ long;
          near = walked.near;
          work = walked.work;
        }

-- the state's match, or else the best match before, is the best match of the bytes read
pub told-best : {m : Dictionary} {anchored : Anchored} {earliest deterministic : Bool} {haystack : List ℕ} {span : Span}
    {at : ℕ} {best new all : Option Occurrence} (ns : List ℕ) {s t : Steps}
    → span.end ≤ length haystack
    → HasReadText m anchored earliest deterministic haystack span at best s t
    → Tells m anchored (read haystack span at) ns
    → new ≡ taken m anchored at (at - span.start) ns
    → all ≡ option_or new best
    → HasTold m anchored earliest deterministic haystack span at all s t
told-best {m} {anchored} {earliest} {deterministic} {haystack} {span} {at} {best} ns {s} {t} within walked tells is
    or_is =
    subst (λ x. HasTold m anchored earliest deterministic haystack span at x s t)
    (ap (λ x. option_or x best) (sym is) ∙ sym or_is)
    (told-walked ns within walked tells)

-- an unanchored walk without a match has an empty list
pub none-listed : (m : Dictionary) (anchored : Anchored) (at bytes : ℕ) (best new all : Option Occurrence) (ns : List ℕ)
    → anchored ≡ No → new ≡ taken m anchored at bytes ns → all ≡ option_or new best → all ≡ None → ns ≡ []
none-listed m anchored at bytes best new all ns unanchored is or_is none =
    by ns (subst (λ a. new ≡ taken m a at bytes ns) unanchored is)
  where
    by : (ns : List ℕ) → new ≡ taken m No at bytes ns → ns ≡ []
    by [] e = refl
    by (n ∷ ns) e =
        let some : new ≡ Some (ending_at m at n) = e in
        let found : all ≡ Some (ending_at m at n) = or_is ∙ ap (λ x. option_or x best) some in
        let clash : None ≡ Some (ending_at m at n) = sym none ∙ found in
        absurd cc
