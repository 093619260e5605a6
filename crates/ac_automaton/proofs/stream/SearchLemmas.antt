-- A search over the held bytes: where it stands after it, and what it found.
use Rattle.std.proofs.Common.{◌≡◌, ◌≢◌, ⊎_elim, ℕ, ◌+◌, ◌-◌, ◌*◌, ◌<◌, ◌≤◌, Bool, true, false, IsTrue, List, [], ◌∷◌, ◌++◌, length, take, drop, Option, None, Some, slice_get, slice_range, sym, ap, subst, refl, ◌↔◌, ◌∙◌, arith, append-nil, length-drop, suc, length-append, mul-suc}
use Rattle.std.specs.Option.{option_map}
use Rattle.std.proofs.lemmas.Bool.{cases_lt, false≢true}
use Rattle.std.proofs.lemmas.Option.{slice_get_within}
use Rattle.ac_input.specs.Number.{StateID}
use Rattle.ac_input.specs.declared.search.Anchored.{Anchored}
use Rattle.ac_input.specs.declared.search.Anchored.TheVariants.{No}
use Rattle.ac_input.specs.declared.search.MatchKind.TheVariants.{Standard, LeftmostFirst, LeftmostLongest}
use Rattle.ac_input.specs.declared.steps.Steps.{Steps}
use Rattle.ac_input.specs.Best.{IsBest}
use Rattle.ac_input.specs.Dictionary.{Dictionary, IsLive, whole}
use Rattle.ac_input.specs.Laws.LiveLaws.{shifted}
use Rattle.ac_input.specs.Occurrence.{Occurrence, Occurs}
use Rattle.ac_input.specs.Steps.{Done}
use Rattle.ac_input.specs.Tells.{Tells, ending, ending_at}
use Rattle.ac_input.specs.Walk.{IsPick}
use Rattle.ac_input.specs.Work.{longest}
use Rattle.ac_input.proofs.lemmas.OrderLemmas.{slice_range-length}
use Rattle.ac_input.specs.declared.search.MatchKind.{MatchKind}
use Rattle.ac_automaton.specs.Automaton.{Advances, Built, IsReadCost, IsState, is_matching}
use Rattle.ac_automaton.specs.InMemory.Replace.{matches_in}
use Rattle.ac_automaton.specs.Stream.Search.{ContinuesWalk, IsHeldAt, SearchesOn, StandsInState, after_search, since_last, searched_anew, waits}
use Rattle.ac_automaton.specs.Stream.{CanBeCounted, FindsHeld, IsHeldItem, IsOnCourse, NothingIsLive, StreamProgress, end_of, read_by, read_again, again_for, AreAllGiven, may_wait, Picks}
use Rattle.ac_automaton.specs.declared.automaton.Advance.{Advance}
use Rattle.ac_automaton.specs.declared.automaton.Automaton.{Ghosts}
use Rattle.ac_automaton.specs.declared.stream.search.Progress.{Progress}
use Rattle.ac_automaton.proofs.lemmas.CursorLemmas.{list-none, part-empty}
use Rattle.ac_automaton.proofs.automaton.PassLemmas.{StopsAtMatch, stops-none, stops-there, stops-over}
use Rattle.ac_automaton.proofs.stream.StreamLemmas.{all-given, end_of-push, given-anew, given-open, goes-anew, goes-match, pick-since}
use Rattle.ac_automaton.proofs.in_memory.find.ToldLemmas.{told-first_occurs}
use Rattle.ac_automaton.proofs.lemmas.WalkLemmas.{occurs-bound, standard-final}
use Rattle.ac_automaton.proofs.stream.BestOnLemmas.{best-met, best-stays, best-told}
use Rattle.ac_automaton.proofs.stream.SequenceLemmas.{picks≢occurrences}
use Rattle.ac_input.proofs.lemmas.SomeLemmas.{live-some}
use Rattle.ac_input.proofs.lemmas.UnusedLemmas.{occurs-some}
use Rattle.ac_automaton.proofs.stream.SearchReadLemmas.{alive-none, none-quiet, paid-on, reads-on, rest-held, stands-from, tells-on, text-on, stands-anew, goes-walking, done-on, inside-on}

-- the fields that a search keeps, by how far it has come
abbrev pub kept_by : StreamProgress Picks → StateID → Option Occurrence → Progress
kept_by s sid best = record { sid = sid; from = s.from; at = s.at; last = s.last; best = best; closed = s.closed }

-- All that is held was searched, and nothing was found.
module _ (s : StreamProgress Picks) (Reaches : Anchored → List ℕ → StateID → Type 0) (matches : StateID → List ℕ)
    (start sid : StateID) (stop : Advance) (y z : Steps)
    (tells : (text : List ℕ) (state : StateID) → Reaches No text state
    → Tells s.built.dictionary No text (matches state))
    (stands : StandsInState (Reaches No) s start sid None)
    (stops : StopsAtMatch s.built Reaches matches sid (drop s.at (read_by s)) stop false y z) where
  abbrev m : Dictionary
  m = s.built.dictionary

  -- the place to which the automaton has read
  abbrev to : ℕ
  to = s.at + stop.taken

  -- the bytes since the search last began
  abbrev since : List ℕ
  since = slice_range (read_by s) s.last to

  -- how often it looked
  abbrev looks : ℕ
  looks = z.looked.value - y.looked.value

  -- all bytes read so far were searched
  all : to ≡ length (read_by s)
  all = let rest = length-drop s.at (read_by s) in let within = stops.within in let inside = stands.course.ordered.1 in
      omega (arith, (stops.none refl).0)

  -- these bytes hold no match
  since-quiet : IsBest m.kind (whole m since false) None
  since-quiet =
      let ordered = stands.course.ordered.0 in
      let end = all in
      best-stays stop.taken m (read_by s) s.last s.at None ordered (omega arith) (λ standard. refl)
      (λ k lt le. ⊎_elim
      (λ (before : k < to). tells-on s tells ordered stands.reads stops k lt before)
      (λ (there : to ≤ k).
      let same : to ≡ k = omega arith in
      subst (λ n. Tells m No (slice_range (read_by s) s.last n) []) same
      (subst (λ ns. Tells m No since ns) (stops.none refl).1
      (tells since stop.sid (reads-on stands (stops-over stops)))))
      (cases_lt k to))
      (none-quiet stands)

  -- these bytes aren't dead
  since-alive : (live : ℕ) × IsLive m false since (Some live)
  since-alive = let after = live-some in alive-none m since after.0 since-quiet after.1

  -- no match was returned since, so no more bytes may be read again
  same-again : read_again m 0 (length (s.given ++ [])) ≡ read_again m 0 (length s.given)
  same-again = ap (λ os. read_again m 0 (length os)) (append-nil s.given)

  -- all matches were returned
  given : s.given ++ [] ≡ matches_in s.built (read_by s)
  given =
      let ordered = stands.course.ordered.0 in
      let end = all in
      append-nil s.given ∙ all-given s (omega arith)
      (subst (λ n. IsBest m.kind (whole m (slice_range (read_by s) s.last n) false) None) all since-quiet) stands.goes

  -- there is no further match in what was read
  none-finds : (sid' : StateID) (last : ℕ) → s.last ≤ last → (NothingIsLive m since → last ≡ to)
      → FindsHeld s None
      (after_search s (record {
        progress = kept_by (record (waits s to looks)
            { last = last }) sid' None;
        found = None;
      })
      looks)
  none-finds sid' last later anew =
      let course = stands.course in
      let ordered = course.ordered.0 in
      let end = all in
      let live = since-alive.0 in
      let alive : IsLive m false (slice_range (read_by s) s.last (length (read_by s))) (Some live) =
      subst (λ n. IsLive m false (slice_range (read_by s) s.last n) (Some live)) all since-alive.1 in
      let same = sym (append-nil s.given) in (
        record { on = λ standard. omega arith; last = later; closed = refl; built = refl; pieces = refl; from = refl },
        append-nil s.given,
        λ countable. record {
          searched = all;
          all = λ each. given;
          open_ = subst (λ os. ¬ IsLive m false (drop (end_of os) (read_by s)) None) same
              (given-open s live course.decided course.filled course.ended (omega arith) alive);
          anew = λ nothing. anew
              (subst (λ n. NothingIsLive m (slice_range (read_by s) s.last n)) (sym all)
              (given-anew s live course.decided course.filled course.ended (omega arith) alive
              (subst (λ os. NothingIsLive m (drop (end_of os) (read_by s))) (append-nil s.given) nothing)));
        },
      )

  -- Something is still live: the search goes on in the state that it came to.
  pub search-none : ¬ NothingIsLive m since
      → SearchesOn (Reaches No) s start
      (record { progress = kept_by (waits s to looks) stop.sid None; found = None }) y z
  search-none live =
      let course = stands.course in
      let ordered = course.ordered.0 in
      let kept = course.kept.0 in
      let end = all in
      let again = same-again in
      let over = stops-over stops in
      let t : StreamProgress Picks = record (waits s to looks) { given = s.given ++ [] } in
      let goes : ContinuesWalk t =
      subst (λ l. ContinuesWalk (record t { given = l })) (sym (append-nil s.given)) stands.goes in
      record {
        looks = looks;
        done = done-on stands over;
        closed = refl;
        from = refl;
        finds = none-finds stop.sid s.last (omega arith) (λ nothing. absurd (live nothing));
        stands = stands-from (Reaches No) start stop.sid None None since-alive.0
            (goes-walking course (s.given ++ []) to s.last (s.looked + looks) (omega arith) (omega arith) (omega arith)
            (omega (arith, ap end_of (append-nil s.given), course.ended)))
            stands.begins (reads-on stands over) refl since-quiet (λ standard. refl) since-alive.1 goes
            (λ one is. let sums = paid-on stands over one is in
            (omega (arith, sums.0), sums.1, λ d. omega (arith, sums.2 d)));
      }

  -- Nothing is live: the search begins anew.
  pub search-anew : NothingIsLive m since
      → SearchesOn (Reaches No) s start
      (record { progress = kept_by (record (waits s to looks) { last = to }) start None; found = None }) y z
  search-anew live =
      let course = stands.course in
      let ordered = course.ordered.0 in
      let kept = course.kept.0 in
      let end = all in
      let again = same-again in
      let over = stops-over stops in
      let sums = paid-on stands over (Some (length since)) live in
      let t : StreamProgress Picks = record (waits s to looks) { given = s.given ++ []; last = to } in
      let goes : ContinuesWalk t = goes-anew (record t { last = s.last }) course.filled (omega arith) (omega arith)
      since-quiet live
      (subst (λ l. ContinuesWalk (record t { given = l; last = s.last })) (sym (append-nil s.given)) stands.goes) in
      record {
        looks = looks;
        done = done-on stands over;
        closed = refl;
        from = refl;
        finds = none-finds start to (omega arith) (λ none. refl);
        stands = stands-anew (Reaches No) start
            (goes-walking course (s.given ++ []) to to (s.looked + looks) (omega arith) (omega arith) (omega arith)
            (omega (arith, ap end_of (append-nil s.given), course.ended)))
            (part-empty (read_by s) to) stands.begins goes
            (omega (arith, sums.0), sums.1, λ d. omega (arith, sums.2 d));
      }

-- ---- to a match

-- a state with a nonempty list has a match in the text
pub told-some : (m : Dictionary) (x ns : List ℕ) (last at : ℕ) → Tells m No (slice_range x last at) ns → ns ≢ []
    → ¬ IsBest m.kind (whole m (slice_range x last at) false) None
told-some m x [] last at tells some quiet = some refl
told-some m x (n ∷ ns) last at tells some quiet =
    quiet (ending m (slice_range x last at) n)
    (told-first_occurs m.kind m (slice_range x last at) (n ∷ ns) n tells refl)

-- a match was found among the bytes that are held
pub found-held : {s : StreamProgress Picks} {b : Occurrence} (o : Occurrence) (to : ℕ) → IsOnCourse s
    → s.from ≤ o.start
    → (s.built.dictionary.kind ≡ Standard → s.at < o.end) → s.last ≤ to → to ≤ length (read_by s)
    → Occurs (whole s.built.dictionary (slice_range (read_by s) s.last to) false) b → shifted s.last b ≡ o
    → IsHeldItem s o
found-held {s} {b} o to course held new le inside occurs is =
    let m = s.built.dictionary in
    let some = occurs-some (omega arith) course.filled occurs in
    let long = slice_range-length (read_by s) s.last le inside in
    let within = occurs.within in
    let start : s.last + b.start ≡ o.start = ap (λ q. q.start) is in
    let end : s.last + b.end ≡ o.end = ap (λ q. q.end) is in
    let number : b.pattern ≡ o.pattern = ap (λ q. q.pattern) is in
    let known = slice_get_within m.patterns b.pattern occurs.same.0 occurs.same.1 in
    let behind : s.last ≤ o.start = omega arith in
    record {
      pattern = subst (λ n. n < length m.patterns) number known;
      held = λ _. held;
      behind = behind;
      some = omega arith;
      new = λ _. new;
      past = λ e. absurd (picks≢occurrences e);
      within = omega arith;
    }

-- under the standard kind no match waits
pub wait-standard : (kind : MatchKind) → kind ≡ Standard → may_wait kind ≡ false
wait-standard kind standard = ap may_wait standard

-- only under the standard kind no match waits
pub wait-none : (kind : MatchKind) → may_wait kind ≡ false → kind ≡ Standard
wait-none Standard none = refl
wait-none LeftmostFirst none = absurd (false≢true (sym none))
wait-none LeftmostLongest none = absurd (false≢true (sym none))

-- under the standard kind no byte is read again
pub again-standard : (m : Dictionary) (matches : ℕ) → m.kind ≡ Standard → read_again m 0 matches ≡ 0
again-standard m matches standard = ap (λ k. again_for k (longest m.patterns) 0 matches) standard

-- as much once more
again-more : (long matches : ℕ) → (long + 1) * (matches + 1) ≡ (long + 1) * matches + (long + 1)
again-more long matches = let next : matches + 1 ≡ suc matches = omega arith in
    ap (λ n. (long + 1) * n) next ∙ mul-suc (long + 1) matches

-- under a leftmost kind each match lets as many bytes be read again as the longest pattern has, and one more
pub again-leftmost : (kind : MatchKind) (long matches : ℕ) → kind ≢ Standard
    → again_for kind long 0 (matches + 1) ≡ again_for kind long 0 matches + (long + 1)
again-leftmost Standard long matches leftmost = absurd (leftmost refl)
again-leftmost LeftmostFirst long matches leftmost = let next = again-more long matches in omega (arith, next)
again-leftmost LeftmostLongest long matches leftmost = let next = again-more long matches in omega (arith, next)

-- what may be read again, with one match more
pub given-more : (m : Dictionary) (given : List Occurrence) (o : Occurrence)
    → read_again m 0 (length (given ++ o ∷ [])) ≡ read_again m 0 (length given + 1)
given-more m given o = ap (read_again m 0) (length-append given (o ∷ []))

-- A match is decided: it is the next one, whatever is still read. The search begins anew at its end.
pub search-decided : (s : StreamProgress Picks) (Reaches : List ℕ → StateID → Type 0) (start sid : StateID)
    (best : Option Occurrence) (o : Occurrence) (looks : ℕ) (y z : Steps)
    → StandsInState Reaches s start sid best
    → CanBeCounted (read_by s)
    → IsHeldItem s o
    → ¬ AreAllGiven s
    → ((more : List ℕ) → (s.closed ≡ true → more ≡ [])
    → IsPick s.built.dictionary.kind (whole s.built.dictionary (read_by s ++ more) false) s.last (Some s.last) (Some o))
    → Done looks 0 0 y z
    → s.looked + looks ≤ 2 * (o.end + read_again s.built.dictionary 0 (length s.given + 1))
    → o.end ≤ s.looked + looks
    → (IsTrue s.built.deterministic → s.looked + looks ≤ o.end + read_again s.built.dictionary 0 (length s.given + 1))
    → SearchesOn Reaches s start (searched_anew start (kept_by s sid best) o) y z
search-decided s Reaches start sid best o looks y z stands countable held open_ pick done bound some one =
    let course = stands.course in
    let behind : s.last ≤ o.start = held.behind in
    let from = held.held tt in
    let filled = held.some in
    let within = held.within in
    let again = given-more s.built.dictionary s.given o in
    let t : StreamProgress Picks = after_search s (searched_anew start (kept_by s sid best) o) looks in
    record {
      looks = looks;
      done = done;
      closed = refl;
      from = refl;
      finds = (
        record {
          on = λ standard. let new = held.new refl standard in
              omega arith;
          last = omega arith;
          closed = refl;
          built = refl;
          pieces = refl;
          from = refl;
        },
        refl,
        refl,
        refl,
        held,
        countable,
        open_,
      );
      stands = stands-anew Reaches start
          (goes-walking course (s.given ++ o ∷ []) o.end o.end (s.looked + looks) (omega arith) (omega arith) within
          (omega (arith, end_of-push s.given o)))
          (part-empty (read_by s) o.end) stands.begins (goes-match s o (s.looked + looks) stands.goes pick)
          (omega (arith, bound, again), some, λ d. omega (arith, one d, again));
    }

-- What reading on to a match shows.
module _ (s : StreamProgress Picks) (Reaches : Anchored → List ℕ → StateID → Type 0) (matches : StateID → List ℕ)
    (start sid : StateID) (stop : Advance) (o : Occurrence) (y z : Steps)
    (tells : (text : List ℕ) (state : StateID) → Reaches No text state
    → Tells s.built.dictionary No text (matches state))
    (stands : StandsInState (Reaches No) s start sid None)
    (stops : StopsAtMatch s.built Reaches matches sid (drop s.at (read_by s)) stop true y z)
    (is : Some o ≡ option_map (ending_at s.built.dictionary (s.at + stop.taken)) (slice_get (matches stop.sid) 0)) where
  -- the place to which the automaton has read
  abbrev there : ℕ
  there = s.at + stop.taken

  -- the bytes since the search last began
  abbrev since_then : List ℕ
  since_then = slice_range (read_by s) s.last there

  -- the place lies within the bytes read
  inside : there ≤ length (read_by s)
  inside = inside-on stands (stops-over stops)

  -- the state was reached by these bytes
  there-reads : Reaches No since_then stop.sid
  there-reads = reads-on stands (stops-over stops)

  -- at least one byte was read
  some-read : 0 < stop.taken
  some-read = ⊎_elim
      (λ (lt : 0 < stop.taken). lt)
      (λ (le : stop.taken ≤ 0).
      let same : there ≡ s.at = omega (arith, le) in
      let nothing = none-quiet stands in
      absurd (told-some s.built.dictionary (read_by s) (matches stop.sid) s.last there
      (tells since_then stop.sid there-reads) (stops.there refl)
      (subst (λ n. IsBest s.built.dictionary.kind (whole s.built.dictionary (slice_range (read_by s) s.last n) false)
      None) (sym same) nothing)))
      (cases_lt 0 stop.taken)

  -- the match is the best of these bytes
  met : (b : Occurrence) × IsBest s.built.dictionary.kind (whole s.built.dictionary since_then false) (Some b)
      × (shifted s.last b ≡ o) × (o.end ≡ there)
  met =
      let ordered = stands.course.ordered.0 in
      let within = inside in
      let long = slice_range-length (read_by s) s.last {b = there} (omega arith) within in
      best-met s.built.dictionary since_then (matches stop.sid) s.last there None o (omega arith) (stops.there refl)
      (best-told s.built.dictionary (read_by s) (matches stop.sid) s.last s.at there None ordered
      (omega (arith, some-read)) within (λ standard. refl)
      (tells-on s tells ordered stands.reads stops)
      (tells since_then stop.sid there-reads) (none-quiet stands))
      is

  -- how often it looked
  abbrev met-looks : ℕ
  met-looks = z.looked.value - y.looked.value

  -- the looks are all that was done
  pub met-done : Done met-looks 0 0 y z
  met-done = done-on stands (stops-over stops)

  -- Under the standard kind the match is decided.
  pub search-some : s.built.dictionary.kind ≡ Standard → CanBeCounted (read_by s)
      → SearchesOn (Reaches No) s start (searched_anew start (kept_by s sid None) o) y z
  search-some standard countable =
      let m = s.built.dictionary in
      let x = read_by s in
      let best = met in
      let course = stands.course in
      let ordered = course.ordered.0 in
      let within = inside in
      let kept = course.kept.0 in
      let read = some-read in
      let ends = best.3 in
      let after = live-some in
      let sums = paid-on stands (stops-over stops) after.0 after.1 in
      let none = again-standard m (length s.given) standard in
      let none_more = again-standard m (length s.given + 1) standard in
      let bound = occurs-bound m best.1.0 in
      let start_at : s.last + best.0.start ≡ o.start = ap (λ q. q.start) best.2 in
      let end_at : s.last + best.0.end ≡ o.end = ap (λ q. q.end) best.2 in
      let stays = λ (tail : List ℕ).
      subst (λ k. IsBest k (whole m (since_then ++ tail) false) (Some best.0)) (sym standard)
      (standard-final m tail (subst (λ k. IsBest k (whole m since_then false) (Some best.0)) standard best.1)) in
      search-decided s (Reaches No) start sid None o met-looks y z stands countable
      (found-held o there course (omega arith) (λ e. omega arith) (omega arith) within best.1.0 best.2)
      (λ given. let searched = given.searched in omega arith)
      (λ more follows. subst (λ q. IsPick m.kind (whole m (x ++ more) false) s.last (Some s.last) (Some q)) best.2
      (pick-since m x more s.last there best.0 (omega arith) within course.filled stays))
      met-done (omega arith) (omega arith) (λ d. let e = sums.2 d in omega arith)

  -- Under a leftmost kind the match waits to be decided.
  pub search-met : s.built.dictionary.kind ≢ Standard → (live : ℕ)
      → IsLive s.built.dictionary false since_then (Some live)
      → StandsInState (Reaches No) (waits s there met-looks) start stop.sid (Some o)
  search-met leftmost live alive =
      let best = met in
      let course = stands.course in
      let ordered = course.ordered.0 in
      let within = inside in
      let kept = course.kept in
      stands-from (Reaches No) start stop.sid (Some o) (Some best.0) live
      (goes-walking course s.given there s.last (s.looked + met-looks) (omega arith) (omega arith) within course.ended)
      stands.begins there-reads (ap Some (sym best.2)) best.1 (λ standard. absurd (leftmost standard)) alive stands.goes
      (paid-on stands (stops-over stops))

-- ---- in terms of the fields that a search keeps

-- the fields that a search keeps are those of its progress
pub progress-same : (s : StreamProgress Picks) (p : Progress) → p.closed ≡ s.closed → p.from ≡ s.from → p.at ≡ s.at
    → p.last ≡ s.last → kept_by s p.sid p.best ≡ p
progress-same s p c f a l =
    λ i. record { sid = p.sid; from = sym f i; at = sym a i; last = sym l i; best = p.best; closed = sym c i }

-- where the search stands, if no match is waiting
stands-none : {b : Built} {s : StreamProgress Picks} {Reaches : List ℕ → StateID → Type 0} {start : StateID}
    {p : Progress} {held : List ℕ} → IsHeldAt b Reaches s start p held → p.best ≡ None
    → StandsInState Reaches s start p.sid None
stands-none {s} {Reaches} {start} {p} is none = subst (λ r. StandsInState Reaches s start p.sid r) none is.stands

module _ (b : Built) (s : StreamProgress Picks) (Reaches : Anchored → List ℕ → StateID → Type 0)
    (matches : StateID → List ℕ) (start : StateID) (p : Progress) (held : List ℕ) (stop : Advance) (matched : Bool)
    (y z : Steps)
    (tells : (text : List ℕ) (state : StateID) → Reaches No text state → Tells b.dictionary No text (matches state))
    (is : IsHeldAt b (Reaches No) s start p held)
    (open_ : p.best ≡ None)
    (stops : StopsAtMatch b Reaches matches p.sid (drop (p.at - p.from) held) stop matched y z) where
  pub tells-here : (text : List ℕ) (state : StateID) → Reaches No text state
      → Tells s.built.dictionary No text (matches state)
  tells-here =
      subst (λ d. (text : List ℕ) (state : StateID) → Reaches No text state
      → Tells d.dictionary No text (matches state)) (sym is.built) tells

  pub stops-here : StopsAtMatch s.built Reaches matches p.sid (drop s.at (read_by s)) stop matched y z
  stops-here =
      let rest : drop (p.at - p.from) held ≡ drop s.at (read_by s) =
      rest-held (read_by s) held s.from s.at p.from p.at is.from is.at is.bytes is.stands.course.kept.1 in
      subst (λ d. StopsAtMatch d Reaches matches p.sid (drop s.at (read_by s)) stop matched y z) (sym is.built)
      (subst (λ l. StopsAtMatch b Reaches matches p.sid l stop matched y z) rest stops)

  pub stands-here : StandsInState (Reaches No) s start p.sid None
  stands-here = stands-none is open_

  -- the bytes since the search last began
  abbrev searched-text : List ℕ
  searched-text = slice_range (read_by s) s.last (s.at + stop.taken)

  -- these bytes lead to the state
  pub searched-reads : Reaches No searched-text stop.sid
  searched-reads = reads-on is.stands (stops-over stops-here)

  -- the state was reached
  pub searched-state : IsState Reaches stop.sid
  searched-state = ∣ (No, searched-text, searched-reads) ∣₁

  -- the match of the state, where the search stands
  pub found-here : (o : Occurrence)
      → Some o ≡ option_map (ending_at b.dictionary (p.at + stop.taken)) (slice_get (matches stop.sid) 0)
      → Some o ≡ option_map (ending_at s.built.dictionary (s.at + stop.taken)) (slice_get (matches stop.sid) 0)
  found-here o found =
      subst (λ d. Some o ≡ option_map (ending_at d.dictionary (s.at + stop.taken)) (slice_get (matches stop.sid) 0))
      (sym is.built)
      (subst (λ n. Some o ≡ option_map (ending_at b.dictionary (n + stop.taken)) (slice_get (matches stop.sid) 0)) is.at
      found)

  -- nothing was found, and something is still live
  pub searches-none : matched ≡ false → ((text : List ℕ) → Reaches No text stop.sid → ¬ NothingIsLive b.dictionary text)
      → SearchesOn (Reaches No) s start
      (record { progress = record p { sid = stop.sid; at = p.at + stop.taken; best = None }; found = None }) y z
  searches-none none some =
      let live = some searched-text searched-reads in
      subst (λ q. SearchesOn (Reaches No) s start
      (record { progress = record q { sid = stop.sid; at = q.at + stop.taken; best = None }; found = None }) y z)
      (progress-same s p is.closed is.from is.at is.last)
      (search-none s Reaches matches start p.sid stop y z tells-here stands-here
      (subst (λ m. StopsAtMatch s.built Reaches matches p.sid (drop s.at (read_by s)) stop m y z) none stops-here)
      (subst (λ d. ¬ NothingIsLive d.dictionary searched-text) (sym is.built) live))

  -- nothing was found, and nothing is live
  pub searches-anew : matched ≡ false → ((text : List ℕ) → Reaches No text stop.sid → NothingIsLive b.dictionary text)
      → SearchesOn (Reaches No) s start
      (record {
        progress = record p { sid = start; at = p.at + stop.taken; last = p.at + stop.taken; best = None };
        found = None;
      }) y z
  searches-anew none dead =
      let live = dead searched-text searched-reads in
      subst (λ q. SearchesOn (Reaches No) s start
      (record {
        progress = record q { sid = start; at = q.at + stop.taken; last = q.at + stop.taken; best = None };
        found = None;
      }) y z) (progress-same s p is.closed is.from is.at is.last)
      (search-anew s Reaches matches start p.sid stop y z tells-here stands-here
      (subst (λ m. StopsAtMatch s.built Reaches matches p.sid (drop s.at (read_by s)) stop m y z) none stops-here)
      (subst (λ d. NothingIsLive d.dictionary searched-text) (sym is.built) live))

  -- a match was found, under the standard kind
  pub searches-some : matched ≡ true → b.dictionary.kind ≡ Standard → (o : Occurrence)
      → Some o ≡ option_map (ending_at b.dictionary (p.at + stop.taken)) (slice_get (matches stop.sid) 0)
      → SearchesOn (Reaches No) s start (searched_anew start p o) y z
  searches-some some standard o found =
      subst (λ q. SearchesOn (Reaches No) s start (searched_anew start q o) y z)
      (progress-same s p is.closed is.from is.at is.last)
      (search-some s Reaches matches start p.sid stop o y z tells-here stands-here
      (subst (λ m. StopsAtMatch s.built Reaches matches p.sid (drop s.at (read_by s)) stop m y z) some stops-here)
      (found-here o found) (subst (λ d. d.dictionary.kind ≡ Standard) (sym is.built) standard) is.countable)

-- the bytes since the last match are no longer than the place where the search stands
pub reached-text : (b : Built) (s : StreamProgress Picks) (Reaches : Anchored → List ℕ → StateID → Type 0)
    (matches : StateID → List ℕ) (start : StateID) (p : Progress) (held : List ℕ) (stop : Advance) (y z : Steps)
    → IsHeldAt b (Reaches No) s start p held
    → StopsAtMatch b Reaches matches p.sid (drop (p.at - p.from) held) stop true y z
    → (text : List ℕ) × Reaches No text stop.sid × (length text ≤ p.at + stop.taken)
reached-text b s Reaches matches start p held stop y z is stops =
    let rest : drop (p.at - p.from) held ≡ drop s.at (read_by s) =
    rest-held (read_by s) held s.from s.at p.from p.at is.from is.at is.bytes is.stands.course.kept.1 in
    let here : StopsAtMatch b Reaches matches p.sid (drop s.at (read_by s)) stop true y z =
    subst (λ l. StopsAtMatch b Reaches matches p.sid l stop true y z) rest stops in
    let ordered = is.stands.course.ordered in
    let at = is.at in
    let within = here.within in
    let left = length-drop s.at (read_by s) in
    let long = slice_range-length (read_by s) s.last {b = s.at + stop.taken} (omega (arith, ordered.0))
    (omega (arith, ordered.1)) in (
      slice_range (read_by s) s.last (s.at + stop.taken),
      subst (λ l. Reaches No l stop.sid) (text-on (read_by s) s.last s.at stop.taken ordered.0 (omega arith))
          (here.reads (since_last s) is.stands.reads),
      omega arith,
    )

-- Where reading on stopped in the held bytes, by the test whether the state there matches.
pub stopped-at : {S : Type 0} (A : Ghosts S) (a : S) (sid : StateID) (rest : List ℕ) (stop : Advance)
    (asked matched : Bool) (y z : Steps)
    → Advances (A.Reaches a No) (is_matching (A.matches a)) sid rest stop
    → IsReadCost (A.built a) (A.Reaches a) No sid (take stop.taken rest) y z
    → (IsTrue asked ↔ (A.matches a stop.sid ≢ [])) → asked ≡ matched
    → StopsAtMatch (A.built a) (A.Reaches a) (A.matches a) sid rest stop matched y z
stopped-at A a sid rest stop asked true y z goes cost is e = stops-there goes.taken goes.reads goes.plain cost (is.0 e)
stopped-at A a sid rest stop asked false y z goes cost is e =
    stops-none goes.taken goes.reads goes.plain goes.stops cost
    (list-none (A.matches a stop.sid) (λ some. false≢true (sym e ∙ is.1 some)))
