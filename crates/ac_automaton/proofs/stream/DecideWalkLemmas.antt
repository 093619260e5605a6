-- How the loop that waits for a match to be decided goes on and ends, in terms of the fields that a search keeps.
use Rattle.std.proofs.Common.{◌≡◌, ◌≢◌, ◌↔◌, ℕ, ◌+◌, ◌-◌, ◌<◌, ◌≤◌, true, false, IsTrue, List, [], length, drop, take, Option, None, Some, slice_get, slice_range, sym, ap, subst, refl, ◌∙◌, arith, add_assoc, add-zero, length-drop}
use Rattle.std.specs.Option.{option_map}
use Rattle.std.proofs.lemmas.List.{take_rest}
use Rattle.ac_input.specs.Number.{StateID}
use Rattle.ac_input.specs.declared.search.Anchored.{Anchored}
use Rattle.ac_input.specs.declared.search.Anchored.TheVariants.{No}
use Rattle.ac_input.specs.declared.search.MatchKind.TheVariants.{Standard}
use Rattle.ac_input.specs.declared.steps.Steps.{Steps}
use Rattle.ac_input.specs.Dictionary.{IsLive}
use Rattle.ac_input.specs.Occurrence.{Occurrence}
use Rattle.ac_input.specs.Steps.{Done}
use Rattle.ac_input.specs.Tells.{Tells, ending_at}
use Rattle.ac_input.proofs.lemmas.OrderLemmas.{slice_range-length}
use Rattle.ac_automaton.specs.Automaton.{Advances, Built, IsReached, IsReadCost, IsSpecial, IsState}
use Rattle.ac_automaton.specs.Stream.{StreamProgress, read_by, Picks}
use Rattle.ac_automaton.specs.Stream.Search.{IsHeldAt, Searched, SearchesOn, StandsInState, searched_anew, since_last, waits}
use Rattle.ac_automaton.specs.Stream.Search.Walk.{StandsAfter}
use Rattle.ac_automaton.specs.declared.automaton.Advance.{Advance}
use Rattle.ac_automaton.specs.declared.automaton.Automaton.{Ghosts}
use Rattle.ac_automaton.specs.declared.stream.search.Progress.{Progress}
use Rattle.ac_automaton.proofs.stream.DecideLemmas.{HasWaited, IsQuietOn, advance-quiet, dead-silent, decides-closed, decides-dead, done, not-dead, reads, searches-then, waits-better, waits-none, waits-same}
use Rattle.ac_automaton.proofs.automaton.PassLemmas.{ReadsOver, StopsAtMatch}
use Rattle.ac_automaton.proofs.stream.SearchLemmas.{found-here, kept_by, met-done, progress-same, search-met, searched-reads, stands-here, stops-here, tells-here}
use Rattle.ac_automaton.proofs.stream.SearchReadLemmas.{rest-held}
use Rattle.ac_automaton.proofs.lemmas.WalkEndLemmas.{unshifted}
use Rattle.ac_input.proofs.lemmas.SomeLemmas.{live-some}

-- at first the search has not waited yet
pub waited-none : {Reaches : List ℕ → StateID → Type 0} {s : StreamProgress Picks} {start sid : StateID} (at : ℕ)
    {best : Option Occurrence} (met : Occurrence) (x : Steps) → StandsInState Reaches s start sid best
    → best ≡ Some met
    → at ≡ s.at → HasWaited Reaches s start sid at met x x
waited-none {Reaches} {s} {start} {sid} at met x stands is there = record {
  on = omega (arith, there);
  looks = 0;
  done = record { looked = omega arith; scanned = omega arith; moved = omega arith };
  stands = subst (λ u. StandsInState Reaches u start sid (Some met))
      (λ i. record s { at = sym there i; looked = sym (add-zero s.looked) i })
      (subst (λ r. StandsInState Reaches s start sid r) is stands);
}

-- the looks so far and the looks since add up
waited-more : {Reaches : List ℕ → StateID → Type 0} (s : StreamProgress Picks) {start sid : StateID} (at to : ℕ)
    {looks more : ℕ} (best : Occurrence) {x y z : Steps} → s.at ≤ to → Done looks 0 0 x y → Done more 0 0 y z
    → StandsInState Reaches (waits (waits s at looks) to more) start sid (Some best)
    → HasWaited Reaches s start sid to best x z
waited-more {Reaches} s {start} {sid} at to {looks} {more} best further a b stands =
    let c = a.looked in
    let d = a.scanned in
    let e = a.moved in
    let f = b.looked in
    let h = b.scanned in
    let j = b.moved in
    record {
      on = further;
      looks = looks + more;
      done = record { looked = omega arith; scanned = omega arith; moved = omega arith };
      stands = subst (λ u. StandsInState Reaches u start sid (Some best))
          (λ i. record s { at = to; looked = add_assoc s.looked looks more i }) stands;
    }

module _ {S : Type 0} (A : Ghosts S) (a : S) {s : StreamProgress Picks} {start : StateID} {p : Progress} {held : List ℕ}
    (tells : (text : List ℕ) (state : StateID) → A.Reaches a No text state
    → Tells (A.built a).dictionary No text (A.matches a state))
    (is : StandsAfter A a s start p held)
    {sid : StateID} {at : ℕ} {best : Occurrence} {x y : Steps}
    (waited : HasWaited (A.Reaches a No) s start sid at best x y) where
  -- how far the search has come
  abbrev here : StreamProgress Picks
  here = waits s at waited.looks

  told-here : (text : List ℕ) (state : StateID) → A.Reaches a No text state
      → Tells here.built.dictionary No text (A.matches a state)
  told-here =
      subst (λ d. (text : List ℕ) (state : StateID) → A.Reaches a No text state
      → Tells d.dictionary No text (A.matches a state)) (sym is.built) tells

  -- the kind is a leftmost one
  here-leftmost : s.built.dictionary.kind ≢ Standard
  here-leftmost standard =
      let found = unshifted s.last waited.stands.found best (sym waited.stands.kept) in
      let e : None ≡ Some found.0 = sym (waited.stands.quiet standard) ∙ found.1 in cc

  -- the search's state is reached
  pub waited-reached : IsReached (A.Reaches a No) sid
  waited-reached = ∣ (since_last here, waited.stands.reads) ∣₁

  -- the held bytes that are still to be read
  rest-here : slice_range held (at - p.from) (length held) ≡ drop at (read_by s)
  rest-here =
      take_rest held (at - p.from) ∙ rest-held (read_by s) held s.from at p.from at is.from refl is.bytes
      waited.stands.course.kept.1

  -- where no held byte is left, the search has read all bytes of the stream so far
  pub here-all : length held ≤ at - p.from → at ≡ length (read_by s)
  here-all over =
      let from = is.from in
      let long = ap length is.bytes in
      let left = length-drop s.from (read_by s) in
      let order = waited.stands.course.ordered.1 in
      let kept = waited.stands.course.kept.1 in
      omega arith

  -- where no held byte is left and nothing more comes, the match is decided
  pub waited-closed : length held ≤ at - p.from → p.closed ≡ true
      → SearchesOn (A.Reaches a No) s start (searched_anew start p best) x y
  waited-closed over closed =
      subst (λ q. SearchesOn (A.Reaches a No) s start (searched_anew start q best) x y)
      (progress-same s p is.closed is.from is.at is.last)
      (searches-then s at
      here-leftmost waited.on waited.stands.course.ordered.1 waited.done
      (decides-closed here (A.Reaches a No) start sid best y waited.stands (here-all over) is.countable
      (sym is.closed ∙ closed)))

  -- where no held byte is left and more may come, the match waits
  pub waited-open : length held ≤ at - p.from → p.closed ≡ false
      → SearchesOn (A.Reaches a No) s start
      (record { progress = record p { sid = sid; at = at; best = Some best; closed = false }; found = None }) x y
  waited-open over open_ =
      let none : s.closed ≡ false = sym is.closed ∙ open_ in
      subst (λ q. SearchesOn (A.Reaches a No) s start
      (record { progress = record q { sid = sid; at = at; best = Some best; closed = false }; found = None }) x y)
      (progress-same s p is.closed is.from is.at is.last)
      (subst (λ c. SearchesOn (A.Reaches a No) s start
      (record { progress = record (kept_by here sid (Some best)) { closed = c }; found = None }) x y) none
      (searches-then s at here-leftmost waited.on waited.stands.course.ordered.1 waited.done
      (waits-none here (A.Reaches a No) start sid best y waited.stands (here-all over) is.countable none)))

  module _
      (stops : (text : List ℕ) (state : StateID) → A.Reaches a No text state
      → IsTrue (A.special a state) ↔ IsSpecial (A.built a) (A.matches a state) (A.starts a state) No text)
      {stop : Advance} (z : Steps) (left : at - p.from < length held)
      (goes : Advances (A.Reaches a No) (A.special a) sid (slice_range held (at - p.from) (length held)) stop)
      (cost : IsReadCost (A.built a) (A.Reaches a) No sid
      (take stop.taken (slice_range held (at - p.from) (length held))) y z) where
    -- at least one byte was read
    some-read : 0 < stop.taken
    some-read =
        goes.taken.1
        (let long = slice_range-length held (at - p.from) {b = length held} (omega (arith, left)) (omega arith) in
        omega (arith, left))

    goes-here : Advances (A.Reaches a No) (A.special a) sid (drop at (read_by s)) stop
    goes-here = subst (λ l. Advances (A.Reaches a No) (A.special a) sid l stop) rest-here goes

    over-here : ReadsOver here.built (A.Reaches a) sid (drop here.at (read_by here)) stop y z
    over-here = record {
      within = goes-here.taken.0;
      reads = goes-here.reads;
      cost = subst (λ d. IsReadCost d (A.Reaches a) No sid (take stop.taken (drop at (read_by s))) y z) (sym is.built)
          (subst (λ l. IsReadCost (A.built a) (A.Reaches a) No sid (take stop.taken l) y z) rest-here cost);
    }

    quiet-here : IsQuietOn here.built.dictionary (read_by here) here.last here.at (here.at + stop.taken)
    quiet-here =
        advance-quiet A a here tells stops is.built waited.stands.course.ordered.0 waited.stands.reads
        goes-here

    -- the bytes since the search last began
    abbrev text-there : List ℕ
    text-there = slice_range (read_by s) s.last (at + stop.taken)

    pub reads-there : A.Reaches a No text-there stop.sid
    reads-there =
        reads here (A.Reaches a) (A.matches a) start sid best stop y z told-here waited.stands over-here some-read
        quiet-here

    -- the state where reading on stopped is a state of the automaton
    pub waited-state : IsState (A.Reaches a) stop.sid
    waited-state = ∣ (No, text-there, reads-there) ∣₁

    pub waited-text : (text : List ℕ) × A.Reaches a No text stop.sid × (length text ≤ at + stop.taken)
    waited-text =
        let order = waited.stands.course.ordered in
        let rest = length-drop at (read_by s) in
        let within = goes-here.taken.0 in
        let long =
        slice_range-length (read_by s) s.last {b = at + stop.taken} (omega (arith, order.0)) (omega (arith, order.1)) in
        (text-there, reads-there, omega arith)

    done-there : Done (z.looked.value - y.looked.value) 0 0 y z
    done-there =
        done here (A.Reaches a) (A.matches a) start sid best stop y z told-here waited.stands over-here some-read
        quiet-here

    -- where the text is dead, the match is decided
    pub waited-dead : IsLive (A.built a).dictionary false text-there None
        → SearchesOn (A.Reaches a No) s start (searched_anew start p best) x z
    waited-dead dead =
        subst (λ q. SearchesOn (A.Reaches a No) s start (searched_anew start q best) x z)
        (progress-same s p is.closed is.from is.at is.last)
        (searches-then s at
        here-leftmost waited.on waited.stands.course.ordered.1 waited.done
        (decides-dead here (A.Reaches a) (A.matches a) start sid best stop y z told-here waited.stands over-here
        some-read quiet-here (subst (λ d. IsLive d.dictionary false text-there None) (sym is.built) dead) is.countable))

    -- where the text isn't dead, something of it is live
    alive-there : ¬ IsLive (A.built a).dictionary false text-there None
        → (from : ℕ) × IsLive here.built.dictionary false text-there (Some from)
    alive-there open_ =
        let live = live-some in
        subst (λ d. (from : ℕ) × IsLive d.dictionary false text-there (Some from)) (sym is.built)
        (not-dead (A.built a).dictionary text-there live.0 live.1 open_)

    -- where no pattern matches here, the search waits with its match unchanged
    pub waited-same : ¬ IsLive (A.built a).dictionary false text-there None → A.matches a stop.sid ≡ []
        → HasWaited (A.Reaches a No) s start stop.sid (at + stop.taken) best x z
    waited-same open_ none =
        let alive = alive-there open_ in
        waited-more s at (at + stop.taken) best (let further = waited.on in omega arith) waited.done done-there
        (waits-same here (A.Reaches a) (A.matches a) start sid best stop y z told-here waited.stands over-here some-read
        quiet-here none alive.0 alive.1)

    -- where a pattern matches here, the search waits with the better match
    pub waited-better : (o : Occurrence) → ¬ IsLive (A.built a).dictionary false text-there None
        → A.matches a stop.sid ≢ [] → Some o
        ≡ option_map (ending_at (A.built a).dictionary (at + stop.taken)) (slice_get (A.matches a stop.sid) 0)
        → HasWaited (A.Reaches a No) s start stop.sid (at + stop.taken) o x z
    waited-better o open_ matched found =
        let alive = alive-there open_ in
        let there : Some o ≡ option_map (ending_at here.built.dictionary (at + stop.taken))
        (slice_get (A.matches a stop.sid) 0) = subst
        (λ d. Some o ≡ option_map (ending_at d.dictionary (at + stop.taken)) (slice_get (A.matches a stop.sid) 0))
        (sym is.built) found in
        waited-more s at (at + stop.taken) o (let further = waited.on in omega arith) waited.done done-there
        (waits-better here (A.Reaches a) (A.matches a) start sid best stop y z told-here waited.stands over-here
        some-read quiet-here o matched there alive.0 alive.1)

-- ---- the first match

-- Under a leftmost kind, a match that was met waits to be decided.
module _ (b : Built) (s : StreamProgress Picks) (Reaches : Anchored → List ℕ → StateID → Type 0)
    (matches : StateID → List ℕ) (start : StateID) (p : Progress) (held : List ℕ) (stop : Advance) (o : Occurrence)
    (y z : Steps)
    (tells : (text : List ℕ) (state : StateID) → Reaches No text state → Tells b.dictionary No text (matches state))
    (is : IsHeldAt b (Reaches No) s start p held)
    (open_ : p.best ≡ None)
    (stops : StopsAtMatch b Reaches matches p.sid (drop (p.at - p.from) held) stop true y z)
    (found : Some o ≡ option_map (ending_at b.dictionary (p.at + stop.taken)) (slice_get (matches stop.sid) 0))
    (leftmost : b.dictionary.kind ≢ Standard) where
  -- the kind is a leftmost one
  met-leftmost : s.built.dictionary.kind ≢ Standard
  met-leftmost = subst (λ d. d.dictionary.kind ≢ Standard) (sym is.built) leftmost

  -- the bytes since the search last began
  abbrev met-text : List ℕ
  met-text = slice_range (read_by s) s.last (s.at + stop.taken)

  met-reads : Reaches No met-text stop.sid
  met-reads = searched-reads b s Reaches matches start p held stop true y z tells is open_ stops

  -- these bytes aren't dead
  met-alive : (from : ℕ) × IsLive s.built.dictionary false met-text (Some from)
  met-alive =
      let live = live-some in
      not-dead s.built.dictionary met-text live.0 live.1
      (λ dead. (stops-here b s Reaches matches start p held stop true y z tells is open_ stops).there refl
      (dead-silent s.built.dictionary met-text (matches stop.sid) met-leftmost
      (tells-here b s Reaches matches start p held stop true y z tells is open_ stops met-text stop.sid met-reads)
      dead))

  -- how many states were looked at
  abbrev met-looks : ℕ
  met-looks = z.looked.value - y.looked.value

  -- where the search stands, with the match that it met
  pub met-held : IsHeldAt b (Reaches No) (waits s (s.at + stop.taken) met-looks) start
      (record {
        sid = stop.sid;
        from = p.from;
        at = p.at + stop.taken;
        last = p.last;
        best = Some o;
        closed = p.closed;
      }) held
  met-held =
      let alive = met-alive in
      record {
        built = is.built;
        stands = search-met s Reaches matches start p.sid stop o y z
            (tells-here b s Reaches matches start p held stop true y z tells is open_ stops)
            (stands-here b s Reaches matches start p held stop true y z tells is open_ stops)
            (stops-here b s Reaches matches start p held stop true y z tells is open_ stops)
            (found-here b s Reaches matches start p held stop true y z tells is open_ stops o found) met-leftmost
            alive.0 alive.1;
        closed = is.closed;
        from = is.from;
        at = let at = is.at in omega arith;
        last = is.last;
        bytes = is.bytes;
        countable = is.countable;
      }

  -- what the search finds from there on is what it finds
  pub met-then : (r : Searched) (u : Steps)
      → SearchesOn (Reaches No) (waits s (s.at + stop.taken) met-looks) start r z u
      → SearchesOn (Reaches No) s start r y u
  met-then r u on =
      searches-then s (s.at + stop.taken) met-leftmost (omega arith)
      met-held.stands.course.ordered.1
      (met-done s Reaches matches start p.sid stop o y z
      (tells-here b s Reaches matches start p held stop true y z tells is open_ stops)
      (stands-here b s Reaches matches start p held stop true y z tells is open_ stops)
      (stops-here b s Reaches matches start p held stop true y z tells is open_ stops)
      (found-here b s Reaches matches start p held stop true y z tells is open_ stops o found))
      on
