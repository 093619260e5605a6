-- A search over the held bytes: what was read, and where the search stands.
use Rattle.std.proofs.Common.{◌≡◌, ℕ, ◌+◌, ◌-◌, ◌*◌, ◌<◌, ◌≤◌, max, Bool, false, IsTrue, List, [], ◌++◌, length, take, drop, Option, None, Some, slice_range, sym, ap, subst, refl, ◌∙◌, arith, append-nil, length-drop}
use Rattle.std.proofs.lemmas.List.{length-take-le, drop-drop, take_rest}
use Rattle.ac_input.specs.Number.{StateID}
use Rattle.ac_input.specs.declared.search.Anchored.{Anchored}
use Rattle.ac_input.specs.declared.search.Anchored.TheVariants.{No}
use Rattle.ac_input.specs.declared.search.MatchKind.TheVariants.{Standard}
use Rattle.ac_input.specs.declared.steps.Steps.{Steps}
use Rattle.ac_input.specs.Best.{IsBest}
use Rattle.ac_input.specs.Dictionary.{Dictionary, IsLive, live_len, whole}
use Rattle.ac_input.specs.Laws.LiveLaws.{shifted_best}
use Rattle.ac_input.specs.Occurrence.{Occurrence}
use Rattle.ac_input.specs.Steps.{Done}
use Rattle.ac_input.specs.Tells.{Tells}
use Rattle.ac_input.specs.Work.{IsLookups, longest, shortest}
use Rattle.ac_automaton.specs.Stream.Devices.Moved.{AllFit}
use Rattle.ac_automaton.specs.InMemory.Replace.{matches_in}
use Rattle.ac_automaton.specs.Stream.Search.{ContinuesWalk, IsSearchPaid, StandsInState, since_last, passed_in_all}
use Rattle.ac_automaton.specs.Stream.{StreamProgress, cut_of, end_of, read_by, room_of, Picks, read_again, IsOnCourse}
use Rattle.ac_automaton.specs.declared.automaton.Advance.{Advance}
use Rattle.ac_automaton.proofs.lemmas.CursorLemmas.{part-front}
use Rattle.ac_automaton.proofs.automaton.PassLemmas.{StopsAtMatch, matching-none, ReadsOver}
use Rattle.ac_automaton.proofs.stream.StreamBudgetLemmas.{budget-settled}
use Rattle.ac_automaton.proofs.stream.StreamLemmas.{decided-from}
use Rattle.ac_automaton.proofs.lemmas.WalkEndLemmas.{none-alive, unshifted-none}
use Rattle.ac_automaton.proofs.stream.SequenceLemmas.{picks≢occurrences}
use Rattle.ac_input.proofs.lemmas.UnusedLemmas.{occurs-some}
use Rattle.ac_input.proofs.lemmas.SomeLemmas.{live-some}

-- ---- what was read

-- the bytes up to a place, and some more
pub text-on : (x : List ℕ) (last at k : ℕ) → last ≤ at → k ≤ length x - at
    → slice_range x last at ++ take k (drop at x) ≡ slice_range x last (at + k)
text-on x last at k g h =
    ap (λ l. slice_range x last at ++ take k l) (sym (take_rest x at)) ∙ part-front x last at (length x) k g h

-- what comes after a place of the held bytes
pub rest-held : (x held : List ℕ) (from at first place : ℕ) → first ≡ from → place ≡ at → held ≡ drop from x → from ≤ at
    → drop (place - first) held ≡ drop at x
rest-held x held from at first place f p is le =
    let k : place - first ≡ at - from = omega arith in
    let there : from + (at - from) ≡ at = omega arith in
    ap (λ n. drop n held) k ∙ ap (drop (at - from)) is ∙ drop-drop (at - from) from x ∙ ap (λ n. drop n x) there

-- ---- where a search stands

-- A text without an occurrence isn't dead, whatever its kind.
pub alive-none : (m : Dictionary) (text : List ℕ) (live : Option ℕ) → IsBest m.kind (whole m text false) None
    → IsLive m false text live → (from : ℕ) × IsLive m false text (Some from)
alive-none m text None quiet is = absurd (none-alive m m.kind text quiet is)
alive-none m text (Some from) quiet is = (from, is)

-- What holds of a search for matches, apart from where its matches lie and what its looks paid for.
pub record IsWalkCourse (s : StreamProgress Picks) : Type 0 where
  pub unclosed : s.built.dictionary.kind ≡ Standard → s.closed ≡ false
  pub filled : 1 ≤ shortest s.built.dictionary.patterns
  pub ordered : (s.last ≤ s.at) × (s.at ≤ length (read_by s))
  pub kept : (s.from ≤ cut_of s) × (s.from ≤ s.at) × (length (read_by s) ≤ s.from + room_of Picks s.built)
  pub short : AllFit (room_of Picks s.built) s.pieces
  pub ended : end_of s.given ≤ s.last
  pub scanned : s.scanned ≡ 0
  pub moved : 7 * s.moved ≤ length (read_by s)

-- it holds where a search on its course goes on, within what was read
pub goes-walking : {s : StreamProgress Picks} → IsOnCourse s → (given : List Occurrence) (at last looked : ℕ)
    → s.from ≤ max last (at - max (longest s.built.dictionary.patterns) 1) → last ≤ at → at ≤ length (read_by s)
    → end_of given ≤ last → IsWalkCourse (record s { given = given; at = at; last = last; looked = looked })
goes-walking course given at last looked from ordered within ended = record {
  unclosed = course.unclosed;
  filled = course.filled;
  ordered = (ordered, within);
  kept = (from, omega (arith, from, ordered), course.kept.2);
  short = course.short;
  ended = ended;
  scanned = course.paid.scanned;
  moved = course.paid.moved;
}

-- where a search stands, from what is known of it
pub stands-from : (Reaches : List ℕ → StateID → Type 0) {t : StreamProgress Picks} (start sid : StateID)
    (best found : Option Occurrence) (live : ℕ) → IsWalkCourse t
    → Reaches [] start
    → Reaches (since_last t) sid
    → best ≡ shifted_best t.last found
    → IsBest t.built.dictionary.kind (whole t.built.dictionary (since_last t) false) found
    → (t.built.dictionary.kind ≡ Standard → found ≡ None)
    → IsLive t.built.dictionary false (since_last t) (Some live)
    → ContinuesWalk t
    → IsSearchPaid t
    → StandsInState Reaches t start sid best
stands-from Reaches {t} start sid best found live is begins reads kept told quiet alive goes paid =
    let inside = is.ordered.1 in
    let decided = decided-from t found live is.ordered.0 inside told quiet alive goes in
    let rest = decided [] (λ _. refl) in
    record {
      course = record {
        standard = λ e. absurd (picks≢occurrences e);
        passed = λ e. absurd (picks≢occurrences e);
        unclosed = is.unclosed;
        filled = is.filled;
        ordered = is.ordered;
        kept = is.kept;
        short = is.short;
        begun = (rest.0, ap (matches_in t.built) (sym (append-nil (read_by t))) ∙ rest.1);
        ended = is.ended;
        decided = decided;
        paid = budget-settled t (live_len (since_last t) (Some live)) inside (paid
            (Some live) alive) is.scanned is.moved;
      };
      begins = begins;
      reads = reads;
      found = found;
      kept = kept;
      told = told;
      quiet = quiet;
      live = live;
      alive = alive;
      goes = goes;
      lookups = paid;
    }

-- no byte of an empty text is live
pub live-empty : (text : List ℕ) (live : Option ℕ) → text ≡ [] → live_len text live ≡ 0
live-empty text None empty = refl
live-empty text (Some from) empty = omega (arith, ap length empty)

-- where no pattern is empty, an empty text has no match
pub nothing-in_empty : (m : Dictionary) (text : List ℕ) → 1 ≤ shortest m.patterns → text ≡ []
    → IsBest Standard (whole m text false) None
nothing-in_empty m text filled empty = λ q h. let w = h.within in let lt = occurs-some (omega arith) filled h in
    absurd (omega (arith, ap length empty))

-- a search that begins anew stands in the start state
pub stands-anew : (Reaches : List ℕ → StateID → Type 0) {t : StreamProgress Picks} (start : StateID) → IsWalkCourse t
    → since_last t ≡ []
    → Reaches [] start
    → ContinuesWalk t
    → (t.looked ≤ 2 * passed_in_all t) × (t.at ≤ t.looked) × (IsTrue t.built.deterministic → t.looked ≤ passed_in_all t)
    → StandsInState Reaches t start start None
stands-anew Reaches {t} start is empty begins goes paid =
    let m = t.built.dictionary in
    let nothing = nothing-in_empty m (since_last t) is.filled empty in
    let live = live-some in
    let alive = alive-none m (since_last t) live.0 nothing live.1 in
    stands-from Reaches start start None None alive.0 is begins (subst (λ l. Reaches l start) (sym empty) begins)
    refl nothing (λ standard. refl) alive.1 goes
    (λ one _. let none = live-empty (since_last t) one empty in (omega (arith, none, paid.0), paid.1, paid.2))

-- ---- reading on

-- the lists of the states on the way were empty
pub tells-on : (s : StreamProgress Picks) {Reaches : Anchored → List ℕ → StateID → Type 0}
    {matches : StateID → List ℕ} {sid : StateID} {stop : Advance} {matched : Bool} {y z : Steps}
    → ((text : List ℕ) (state : StateID) → Reaches No text state → Tells s.built.dictionary No text (matches state))
    → s.last ≤ s.at
    → Reaches No (since_last s) sid
    → StopsAtMatch s.built Reaches matches sid (drop s.at (read_by s)) stop matched y z
    → (k : ℕ) → s.at < k → k < s.at + stop.taken → Tells s.built.dictionary No (slice_range (read_by s) s.last k) []
tells-on s {Reaches} {matches} tells ordered here stops k lt less =
    let x = read_by s in
    let i : ℕ = k - s.at in
    let there : s.at + i ≡ k = omega arith in
    let within = stops.within in
    let rest = length-drop s.at x in
    let mid = stops.plain i (omega arith) (omega arith) in
    let text : since_last s ++ take i (drop s.at x) ≡ slice_range x s.last k =
    text-on x s.last s.at i ordered (omega arith) ∙ ap (slice_range x s.last) there in
    let reads : Reaches No (slice_range x s.last k) mid.0 =
    subst (λ l. Reaches No l mid.0) text (mid.1 (since_last s) here) in
    subst (λ ns. Tells s.built.dictionary No (slice_range x s.last k) ns) (matching-none (matches mid.0) mid.2)
    (tells (slice_range x s.last k) mid.0 reads)

-- Where reading on leads from a state in which the search stands, and that the looks for it are paid for.
module _ {s : StreamProgress Picks} {Reaches : Anchored → List ℕ → StateID → Type 0} {start sid : StateID}
    {best : Option Occurrence} {stop : Advance} {y z : Steps}
    (stands : StandsInState (Reaches No) s start sid best)
    (over : ReadsOver s.built Reaches sid (drop s.at (read_by s)) stop y z) where
  -- the bytes since the last match, up to where reading on stopped
  abbrev since_on : List ℕ
  since_on = slice_range (read_by s) s.last (s.at + stop.taken)

  -- they lie within the bytes read
  pub inside-on : s.at + stop.taken ≤ length (read_by s)
  inside-on =
      let rest = length-drop s.at (read_by s) in
      omega (arith, rest, over.within, stands.course.ordered.1)

  -- they are the bytes before, and those that were taken
  text-taken : since_last s ++ take stop.taken (drop s.at (read_by s)) ≡ since_on
  text-taken =
      let inside = inside-on in
      text-on (read_by s) s.last s.at stop.taken stands.course.ordered.0 (omega (arith, inside))

  -- the state in which reading on stopped was reached by them
  pub reads-on : Reaches No since_on stop.sid
  reads-on = subst (λ l. Reaches No l stop.sid) text-taken (over.reads (since_last s) stands.reads)

  -- what reading on cost
  cost-on : (before after : Option ℕ) → IsLive s.built.dictionary false (since_last s) before
      → IsLive s.built.dictionary false since_on after
      → IsLookups s.built.deterministic stop.taken (live_len (since_last s) before) (live_len since_on after) y z
  cost-on before after g h =
      let long : length (take stop.taken (drop s.at (read_by s))) ≡ stop.taken =
      length-take-le stop.taken (drop s.at (read_by s)) over.within in
      subst (λ n. IsLookups s.built.deterministic n (live_len (since_last s) before) (live_len since_on after) y z) long
      (subst (λ l. IsLookups s.built.deterministic (length (take stop.taken (drop s.at (read_by s))))
      (live_len (since_last s) before) (live_len l after) y z) text-taken
      (over.cost (since_last s) before after stands.reads g
      (subst (λ l. IsLive s.built.dictionary false l after) (sym text-taken) h)))

  -- all looks are still paid for
  pub paid-on : (live : Option ℕ) → IsLive s.built.dictionary false since_on live
      → (s.looked + (z.looked.value - y.looked.value) + live_len since_on live
      ≤ 2 * (s.at + stop.taken + read_again s.built.dictionary 0 (length s.given)))
      × (s.at + stop.taken ≤ s.looked + (z.looked.value - y.looked.value))
      × (IsTrue s.built.deterministic
      → s.looked + (z.looked.value - y.looked.value)
      ≤ s.at + stop.taken + read_again s.built.dictionary 0 (length s.given))
  paid-on live alive =
      let before = live-some in
      let sums = stands.lookups before.0 before.1 in
      let run = cost-on before.0 live before.1 alive in
      let again : ℕ = read_again s.built.dictionary 0 (length s.given) in (
        omega (arith, sums.0, run.bound, run.some),
        omega (arith, sums.1, run.bound, run.some),
        λ d. omega (arith, sums.2 d, run.one d, run.some),
      )

  -- the looks are all that was done
  pub done-on : Done (z.looked.value - y.looked.value) 0 0 y z
  done-on =
      let before = live-some in
      let after = live-some in
      let run = cost-on before.0 after.0 before.1 after.1 in
      record {
        looked = omega (arith, run.some);
        scanned = omega (arith, run.scanned);
        moved = omega (arith, run.moved);
      }

-- ---- to the end

-- where no match is waiting, the bytes since the search last began anew hold no match
pub none-quiet : {s : StreamProgress Picks} {Reaches : List ℕ → StateID → Type 0} {start sid : StateID}
    → StandsInState Reaches s start sid None
    → IsBest s.built.dictionary.kind (whole s.built.dictionary (since_last s) false) None
none-quiet {s} stands =
    subst (λ r. IsBest s.built.dictionary.kind (whole s.built.dictionary (since_last s) false) r)
    (unshifted-none s.last stands.found (sym stands.kept)) stands.told
