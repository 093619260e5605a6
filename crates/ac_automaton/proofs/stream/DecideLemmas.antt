-- How a search of a stream under a leftmost kind waits for a match to be decided.
use Rattle.std.proofs.Common.{◌≡◌, ◌≢◌, ◌↔◌, add-zero, add_assoc, ⊎_elim, inl, inr, ℕ, ◌+◌, ◌-◌, ◌<◌, ◌≤◌, true, false, IsTrue, List, [], ◌∷◌, ◌++◌, length, drop, take, Option, None, Some, slice_get, slice_range, sym, ap, subst, refl, ◌∙◌, arith, append-nil, length-drop}
use Rattle.std.specs.Option.{option_map, option_or}
use Rattle.std.proofs.lemmas.Bool.{cases_lt, false≢true}
use Rattle.std.proofs.lemmas.Option.{same_Some}
use Rattle.ac_input.specs.Number.{StateID}
use Rattle.ac_input.specs.declared.search.Anchored.{Anchored}
use Rattle.ac_input.specs.declared.search.Anchored.TheVariants.{No}
use Rattle.ac_input.specs.declared.search.MatchKind.{MatchKind}
use Rattle.ac_input.specs.declared.search.MatchKind.TheVariants.{Standard, LeftmostFirst, LeftmostLongest}
use Rattle.ac_input.specs.declared.steps.Steps.{Steps}
use Rattle.ac_input.specs.Best.{IsBest}
use Rattle.ac_input.specs.Dictionary.{Dictionary, IsLive, whole}
use Rattle.ac_input.specs.Laws.LiveLaws.{shifted}
use Rattle.ac_input.specs.Occurrence.{Occurrence, Occurs}
use Rattle.ac_input.specs.Steps.{Done}
use Rattle.ac_input.specs.Tells.{Tells, TellsUnanchored, ending, ending_at}
use Rattle.ac_input.specs.Walk.{IsPick}
use Rattle.ac_input.specs.Work.{longest}
use Rattle.ac_input.proofs.lemmas.LiveLemmas.{best-entered, dead-final, entered-begins, leftmost-no_later}
use Rattle.ac_input.proofs.lemmas.OrderLemmas.{slice_range-length}
use Rattle.ac_automaton.specs.Stream.{AreAllGiven, CanBeCounted, FindsHeld, ReadsNothing, StreamProgress, read_by, Picks}
use Rattle.ac_automaton.specs.Stream.Search.{Searched, SearchesOn, StandsInState, after_search, searched_anew, since_last, some_of, waits}
use Rattle.ac_automaton.specs.Automaton.{Advances, IsSpecial}
use Rattle.ac_automaton.specs.declared.automaton.Advance.{Advance}
use Rattle.ac_automaton.specs.declared.automaton.Automaton.{Ghosts}
use Rattle.ac_input.proofs.lemmas.StateLemmas.{live-one}
use Rattle.ac_automaton.proofs.stream.BestOnLemmas.{best-met, best-told}
use Rattle.ac_automaton.proofs.lemmas.CursorLemmas.{list-none, slice_range-split}
use Rattle.ac_automaton.proofs.automaton.PassLemmas.{ReadsOver}
use Rattle.ac_automaton.proofs.stream.SearchLemmas.{again-leftmost, found-held, search-decided, kept_by}
use Rattle.ac_automaton.proofs.stream.SearchReadLemmas.{paid-on, reads-on, stands-from, text-on, goes-walking, done-on, inside-on}
use Rattle.ac_automaton.proofs.stream.StreamLemmas.{given-anew, given-open, not-all, pick-rest, pick-since}
use Rattle.ac_automaton.proofs.lemmas.WalkEndLemmas.{unshifted}
use Rattle.ac_automaton.proofs.lemmas.WalkLemmas.{begins-bound, live-bound}
use Rattle.ac_automaton.proofs.stream.SequenceLemmas.{picks≢occurrences}
use Rattle.ac_input.proofs.lemmas.SomeLemmas.{live-some}
use Rattle.ac_input.proofs.lemmas.UnusedLemmas.{occurs-some}

-- ---- what is dead

-- under a leftmost kind the first entry of a state's list is the best match
pub leftmost-first : (kind : MatchKind) (m : Dictionary) (text : List ℕ) (n : ℕ) (ns : List ℕ) → kind ≢ Standard
    → TellsUnanchored kind m text (n ∷ ns) → IsBest kind (whole m text false) (Some (ending m text n))
leftmost-first Standard m text n ns leftmost tells = absurd (leftmost refl)
leftmost-first LeftmostFirst m [] n ns leftmost tells = tells
leftmost-first LeftmostFirst m (b ∷ bs) n ns leftmost tells = tells
leftmost-first LeftmostLongest m [] n ns leftmost tells = tells
leftmost-first LeftmostLongest m (b ∷ bs) n ns leftmost tells = tells

-- the list of a state is empty where the text is dead
pub dead-silent : (m : Dictionary) (text ns : List ℕ) → m.kind ≢ Standard → Tells m No text ns
    → IsLive m false text None → ns ≡ []
dead-silent m text [] leftmost tells dead = refl
dead-silent m text (n ∷ ns) leftmost tells dead = absurd (by (leftmost-first m.kind m text n ns leftmost tells))
  where
    by : IsBest m.kind (whole m text false) (Some (ending m text n)) → ⊥
    by best =
        let o = ending m text n in
        let w = best.0.within in
        let entered = best-entered false best best.0.same.1 in
        let begins = entered-begins text [] (subst (λ l. Occurs (whole m l false) o) (sym (append-nil text)) best.0)
        entered (omega arith) (omega arith) in
        dead o.start (record {
          within = omega arith;
          begins = begins;
          anchor = λ a. absurd (false≢true a);
          no_later = inr (inr (λ other is. leftmost-no_later m.kind o other leftmost (best.1 other is.0)));
        })

-- ---- where a match waits

-- in a text that isn't dead something is live
pub not-dead : (m : Dictionary) (text : List ℕ) (live : Option ℕ) → IsLive m false text live
    → ¬ IsLive m false text None → (from : ℕ) × IsLive m false text (Some from)
not-dead m text None is open_ = absurd (open_ is)
not-dead m text (Some from) is open_ = (from, is)

-- what is live begins at the start of the waiting match or before
pub live-first : (t : StreamProgress Picks) (Reaches : List ℕ → StateID → Type 0) (start sid : StateID)
    (best b : Occurrence) → (stands : StandsInState Reaches t start sid (Some best)) → stands.found ≡ Some b
    → t.built.dictionary.kind ≢ Standard → stands.live ≤ b.start
live-first t Reaches start sid best b stands is leftmost = ⊎_elim
    (λ anchored. absurd (false≢true anchored))
    (λ free. ⊎_elim (λ standard. absurd (leftmost standard))
    (λ before.
    before b
    (subst (λ r. IsBest t.built.dictionary.kind (whole t.built.dictionary (since_last t) false) r) is stands.told))
    free)
    stands.alive.0.no_later

-- the start of the waiting match is still held
pub from-behind : {t : StreamProgress Picks} {Reaches : List ℕ → StateID → Type 0} {start sid : StateID}
    (best : Occurrence) → StandsInState Reaches t start sid (Some best) → t.from ≤ best.start
from-behind {t} {Reaches} {start} {sid} best stands =
    let m = t.built.dictionary in
    let b = unshifted t.last stands.found best (sym stands.kept) in
    let leftmost : m.kind ≢ Standard = λ standard. let e : None ≡ Some b.0 = sym (stands.quiet standard) ∙ b.1 in cc in
    let first = live-first t Reaches start sid best b.0 stands b.1 leftmost in
    let ordered = stands.course.ordered in
    let kept = stands.course.kept.0 in
    let long = slice_range-length (read_by t) t.last ordered.0 ordered.1 in
    let begins = begins-bound m (drop stands.live (since_last t)) stands.alive.0.begins in
    let rest = length-drop stands.live (since_last t) in
    let start_at : t.last + b.0.start ≡ best.start = ap (λ q. q.start) b.2 in
    omega arith

-- ---- reading on

-- No state strictly between two places matches, and no text there is dead.
pub record IsQuietOn (m : Dictionary) (x : List ℕ) (last at to : ℕ) : Type 0 where
  pub silent : (k : ℕ) → at < k → k < to → Tells m No (slice_range x last k) []
  pub alive : (k : ℕ) → at < k → k < to → (from : ℕ) × IsLive m false (slice_range x last k) (Some from)

module _ (t : StreamProgress Picks) (Reaches : Anchored → List ℕ → StateID → Type 0) (matches : StateID → List ℕ)
    (start sid : StateID) (best : Occurrence) (stop : Advance) (y z : Steps)
    (tells : (text : List ℕ) (state : StateID) → Reaches No text state
    → Tells t.built.dictionary No text (matches state))
    (stands : StandsInState (Reaches No) t start sid (Some best))
    (over : ReadsOver t.built Reaches sid (drop t.at (read_by t)) stop y z)
    (some : 0 < stop.taken)
    (quiet : IsQuietOn t.built.dictionary (read_by t) t.last t.at (t.at + stop.taken)) where
  abbrev m : Dictionary
  m = t.built.dictionary

  -- the place to which the automaton has read
  abbrev to : ℕ
  to = t.at + stop.taken

  -- the bytes since the search last began
  abbrev since : List ℕ
  since = slice_range (read_by t) t.last to

  -- how many states were looked at
  abbrev looks : ℕ
  looks = z.looked.value - y.looked.value

  -- the best so far, counted from where the search last began
  so_far : (b : Occurrence) × (stands.found ≡ Some b) × (shifted t.last b ≡ best)
  so_far = unshifted t.last stands.found best (sym stands.kept)

  -- the kind isn't standard
  pub leftmost : m.kind ≢ Standard
  leftmost standard = let e : None ≡ Some so_far.0 = sym (stands.quiet standard) ∙ so_far.1 in cc

  inside : to ≤ length (read_by t)
  inside = inside-on stands over

  pub reads : Reaches No since stop.sid
  reads = reads-on stands over

  -- the best match of these bytes
  told : IsBest m.kind (whole m since false)
      (option_or (option_map (ending m since) (slice_get (matches stop.sid) 0)) (Some so_far.0))
  told =
      let ordered = stands.course.ordered.0 in
      let within = inside in
      let before : IsBest m.kind (whole m (since_last t) false) (Some so_far.0) =
      subst (λ r. IsBest m.kind (whole m (since_last t) false) r) so_far.1 stands.told in
      best-told m (read_by t) (matches stop.sid) t.last t.at to (Some so_far.0) ordered (omega (arith, some)) within
      (λ standard. absurd (leftmost standard)) quiet.silent (tells since stop.sid reads) before

  pub done : Done looks 0 0 y z
  done = done-on stands over

  -- the search still waits, with the best match so far
  waits-with : (b : Occurrence) (o : Occurrence) (live : ℕ) → IsBest m.kind (whole m since false) (Some b)
      → shifted t.last b ≡ o → IsLive m false since (Some live)
      → StandsInState (Reaches No) (waits t to looks) start stop.sid (Some o)
  waits-with b o live is same alive =
      let course = stands.course in
      let ordered = course.ordered.0 in
      let within = inside in
      let kept = course.kept.0 in
      stands-from (Reaches No) start stop.sid (Some o) (Some b) live
      (goes-walking course t.given to t.last (t.looked + looks) (omega arith) (omega arith) within course.ended)
      stands.begins reads (ap Some (sym same)) is (λ standard. absurd (leftmost standard)) alive stands.goes
      (paid-on stands over)

  -- where no pattern matches here, the search waits with its match unchanged
  pub waits-same : matches stop.sid ≡ [] → (live : ℕ) → IsLive m false since (Some live)
      → StandsInState (Reaches No) (waits t to looks) start stop.sid (Some best)
  waits-same none live alive =
      waits-with so_far.0 best live
      (subst (λ ns. IsBest m.kind (whole m since false)
      (option_or (option_map (ending m since) (slice_get ns 0)) (Some so_far.0))) none told) so_far.2 alive

  -- where a pattern matches here, the search waits with the better match
  pub waits-better : (o : Occurrence) → matches stop.sid ≢ []
      → Some o ≡ option_map (ending_at m to) (slice_get (matches stop.sid) 0) → (live : ℕ)
      → IsLive m false since (Some live) → StandsInState (Reaches No) (waits t to looks) start stop.sid (Some o)
  waits-better o matched is live alive =
      let ordered = stands.course.ordered.0 in
      let long = slice_range-length (read_by t) t.last {b = to} (omega arith) inside in
      let met = best-met m since (matches stop.sid) t.last to (Some so_far.0) o (omega arith) matched told is in
      waits-with met.0 o live met.1 met.2 alive

  -- before the last byte the text was alive
  near : (from : ℕ) × IsLive m false (slice_range (read_by t) t.last (to - 1)) (Some from)
  near = ⊎_elim
      (λ (passed : t.at < to - 1). quiet.alive (to - 1) passed (omega (arith, some)))
      (λ (here : to - 1 ≤ t.at). let same : t.at ≡ to - 1 = omega (arith, some) in
      subst (λ n. (from : ℕ) × IsLive m false (slice_range (read_by t) t.last n) (Some from)) same
      (stands.live, stands.alive))
      (cases_lt t.at (to - 1))

  -- The text is dead: the match is decided.
  pub decides-dead : IsLive m false since None → CanBeCounted (read_by t)
      → SearchesOn (Reaches No) t start
      (searched_anew start (kept_by t sid (Some best)) best) y z
  decides-dead dead countable =
      let x = read_by t in
      let course = stands.course in
      let ordered = course.ordered.0 in
      let within = inside in
      let b = so_far.0 in
      let silent = dead-silent m since (matches stop.sid) leftmost (tells since stop.sid reads) dead in
      let is : IsBest m.kind (whole m since false) (Some b) = subst
      (λ ns. IsBest m.kind (whole m since false) (option_or (option_map (ending m since) (slice_get ns 0)) (Some b)))
      silent told in
      let before : IsBest m.kind (whole m (since_last t) false) (Some b) =
      subst (λ r. IsBest m.kind (whole m (since_last t) false) r) so_far.1 stands.told in
      let here = near in
      let long = slice_range-length x t.last {b = to} (omega arith) within in
      let short = slice_range-length x t.last {b = to - 1} (omega (arith, some)) (omega arith) in
      let split = slice_range-split x t.last (to - 1) to (omega (arith, some)) (omega arith) in
      let bound = live-bound m false (slice_range x t.last (to - 1)) (slice_range x (to - 1) to) here.0 leftmost
      here.1 (subst (λ l. Occurs (whole m l false) b) split is.0) in
      let start_at : t.last + b.start ≡ best.start = ap (λ q. q.start) so_far.2 in
      let end_at : t.last + b.end ≡ best.end = ap (λ q. q.end) so_far.2 in
      let w = is.0.within in
      let v = before.0.within in
      let sums = paid-on stands over None dead in
      let more = again-leftmost m.kind (longest m.patterns) (length t.given) leftmost in
      let stays = λ (tail : List ℕ). (dead-final m false false since tail (Some b) dead).0 is in
      let picks = λ (tail : List ℕ) (follows : (t.closed ≡ true → tail ≡ [])).
      subst (λ q. IsPick m.kind (whole m (x ++ tail) false) t.last (Some t.last) (Some q)) so_far.2
      (pick-since m x tail t.last to b (omega arith) within course.filled stays) in
      search-decided t (Reaches No) start sid (Some best) best looks y z stands countable
      (found-held best to course (from-behind best stands)
      (λ standard. absurd (leftmost standard)) (omega arith) within is.0 so_far.2)
      (λ given. let searched = given.searched in omega (arith, some))
      picks done (omega arith) (omega arith) (λ d. let e = sums.2 d in omega arith)

-- ---- where all that is held was read

module _ (t : StreamProgress Picks) (Reaches : List ℕ → StateID → Type 0) (start sid : StateID) (best : Occurrence)
    (z : Steps)
    (stands : StandsInState Reaches t start sid (Some best))
    (all : t.at ≡ length (read_by t))
    (countable : CanBeCounted (read_by t)) where
  -- the best so far, counted from where the search last began
  last_found : (b : Occurrence) × (stands.found ≡ Some b) × (shifted t.last b ≡ best)
  last_found = unshifted t.last stands.found best (sym stands.kept)

  not-standard : t.built.dictionary.kind ≢ Standard
  not-standard standard = let e : None ≡ Some last_found.0 = sym (stands.quiet standard) ∙ last_found.1 in cc

  -- that match is the best of the bytes since then
  best-so_far : IsBest t.built.dictionary.kind (whole t.built.dictionary (since_last t) false) (Some last_found.0)
  best-so_far =
      subst (λ r. IsBest t.built.dictionary.kind (whole t.built.dictionary (since_last t) false) r) last_found.1
      stands.told

  -- Nothing more comes: the match is decided.
  pub decides-closed : t.closed ≡ true
      → SearchesOn Reaches t start
      (searched_anew start (kept_by t sid (Some best)) best) z z
  decides-closed closed =
      let m = t.built.dictionary in
      let x = read_by t in
      let course = stands.course in
      let ordered = course.ordered in
      let b = last_found.0 in
      let is = best-so_far in
      let long = slice_range-length x t.last ordered.0 ordered.1 in
      let none = append-nil (since_last t) in
      let bound = live-bound m false (since_last t) [] stands.live not-standard stands.alive
      (subst (λ l. Occurs (whole m l false) b) (sym none) is.0) in
      let start_at : t.last + b.start ≡ best.start = ap (λ q. q.start) last_found.2 in
      let end_at : t.last + b.end ≡ best.end = ap (λ q. q.end) last_found.2 in
      let w = is.0.within in
      let sums = stands.lookups (Some stands.live) stands.alive in
      let more = again-leftmost m.kind (longest m.patterns) (length t.given) not-standard in
      let whole_rest : IsBest m.kind (whole m (slice_range x t.last (length x)) false) (Some b) =
      subst (λ n. IsBest m.kind (whole m (slice_range x t.last n) false) (Some b)) all is in
      let pick = subst (λ q. IsPick m.kind (whole m x false) t.last (Some t.last) (Some q)) last_found.2
      (pick-rest m x t.last b (omega (arith, ordered.0, ordered.1)) course.filled whole_rest) in
      let picks = λ (tail : List ℕ) (follows : (t.closed ≡ true → tail ≡ [])).
      subst (λ l. IsPick m.kind (whole m l false) t.last (Some t.last) (Some best))
      (sym (ap (λ l. x ++ l) (follows closed) ∙ append-nil x)) pick in
      search-decided t Reaches start sid (Some best) best 0 z z stands countable
      (found-held best t.at course (from-behind best stands)
      (λ standard. absurd (not-standard standard)) ordered.0 ordered.1 is.0 last_found.2)
      (λ given. not-all t best stands.goes (picks [] (λ _. refl)) (given.all (inr closed)))
      picks (record { looked = omega arith; scanned = omega arith; moved = omega arith }) (omega arith) (omega arith)
      (λ d. let e = sums.2 d in omega arith)

  -- the search is unchanged
  same-search : after_search t
      (record { progress = kept_by t sid (Some best); found = None }) 0 ≡ t
  same-search = λ i. record t { given = append-nil t.given i; looked = add-zero t.looked i }

  -- More may come: the match waits.
  pub waits-none : t.closed ≡ false
      → SearchesOn Reaches t start
      (record { progress = kept_by t sid (Some best); found = None }) z z
  waits-none open_ =
      let m = t.built.dictionary in
      let x = read_by t in
      let course = stands.course in
      let ordered = course.ordered in
      let b = last_found.0 in
      let is = best-so_far in
      let long = slice_range-length x t.last ordered.0 ordered.1 in
      let some = occurs-some (omega arith) course.filled is.0 in
      let w = is.0.within in
      let first = live-first t Reaches start sid best b stands last_found.1 not-standard in
      let alive : IsLive m false (slice_range x t.last (length x)) (Some stands.live) =
      subst (λ n. IsLive m false (slice_range x t.last n) (Some stands.live)) all stands.alive in
      let within : t.last ≤ length x = omega (arith, ordered.0, ordered.1) in
      let back = sym same-search in
      record {
        looks = 0;
        done = record { looked = omega arith; scanned = omega arith; moved = omega arith };
        closed = refl;
        from = refl;
        finds = (
          record {
            on = λ standard. omega arith;
            last = omega arith;
            closed = refl;
            built = refl;
            pieces = refl;
            from = refl;
          },
          append-nil t.given,
          λ few. subst AreAllGiven back (record {
            searched = all;
            all = λ each.
                absurd (⊎_elim (λ standard. not-standard standard) (λ closed. false≢true (sym open_ ∙ closed)) each);
            open_ = given-open t stands.live course.decided course.filled course.ended within alive;
            anew = λ nothing.
                let dead = given-anew t stands.live course.decided course.filled course.ended within alive nothing in
                let same = same_Some stands.live (length (slice_range x t.last (length x)))
                (live-one m false (slice_range x t.last (length x)) (Some stands.live)
                (Some (length (slice_range x t.last (length x)))) alive dead) in
                let e : length (slice_range x t.last (length x)) ≡ length (since_last t) =
                ap (λ n. length (slice_range x t.last n)) (sym all) in
                absurd (omega arith);
          }),
        );
        stands = subst (λ u. StandsInState Reaches u start sid (Some best)) back stands;
      }

-- ---- two steps in turn

-- What a search finds after it has waited is what the search finds.
pub searches-then : {Reaches : List ℕ → StateID → Type 0} (s : StreamProgress Picks) {start : StateID} (at : ℕ)
    {looks : ℕ} {r : Searched} {x y z : Steps} → s.built.dictionary.kind ≢ Standard → s.at ≤ at
    → at ≤ length (read_by s)
    → Done looks 0 0 x y → SearchesOn Reaches (waits s at looks) start r y z → SearchesOn Reaches s start r x z
searches-then {Reaches} s {start} at {looks} {r} leftmost further inside done on =
    let a = done.looked in
    let b = done.scanned in
    let c = done.moved in
    let d = on.done.looked in
    let e = on.done.scanned in
    let f = on.done.moved in
    let same : after_search (waits s at looks) r on.looks
    ≡ after_search s r (looks + on.looks) = λ i.
    record s {
      given = s.given ++ some_of r.found;
      at = r.progress.at;
      last = r.progress.last;
      looked = add_assoc s.looked looks on.looks i;
    } in
    record {
      looks = looks + on.looks;
      done = record { looked = omega arith; scanned = omega arith; moved = omega arith };
      closed = on.closed;
      from = on.from;
      finds = subst (λ u. FindsHeld s r.found u) same
          (finds r.found (after_search (waits s at looks) r on.looks) on.finds);
      stands = subst (λ u. StandsInState Reaches u start r.progress.sid r.progress.best) same on.stands;
    }
  where
    reads-nothing : (u : StreamProgress Picks) → ReadsNothing (waits s at looks) u → ReadsNothing s u
    reads-nothing u same =
        record {
          on = λ standard. absurd (leftmost standard);
          last = same.last;
          closed = same.closed;
          built = same.built;
          pieces = same.pieces;
          from = same.from;
        }

    finds : (found : Option Occurrence) (u : StreamProgress Picks) → FindsHeld (waits s at looks) found u
        → FindsHeld s found u
    finds None u h = (reads-nothing u h.0, h.1, h.2)
    finds (Some o) u h =
        let held = h.4 in (
          reads-nothing u h.0,
          h.1,
          h.2,
          h.3,
          record {
            pattern = held.pattern;
            held = held.held;
            behind = held.behind;
            some = held.some;
            new = λ _ standard. absurd (leftmost standard);
            past = λ e. absurd (picks≢occurrences e);
            within = held.within;
          },
          h.5,
          λ given. h.6 (record {
            searched = let searched = given.searched in omega (arith, inside);
            all = given.all;
            open_ = given.open_;
            anew = λ nothing. let anew = given.anew nothing in let searched = given.searched in omega (arith, inside);
          }),
        )

-- ---- what the automaton's own loop says

-- Reading on to the first special state meets no match on the way and no dead text.
pub advance-quiet : {S : Type 0} (A : Ghosts S) (a : S) (t : StreamProgress Picks) {sid : StateID} {stop : Advance}
    → ((text : List ℕ) (state : StateID) → A.Reaches a No text state
    → Tells (A.built a).dictionary No text (A.matches a state))
    → ((text : List ℕ) (state : StateID) → A.Reaches a No text state
    → IsTrue (A.special a state) ↔ IsSpecial (A.built a) (A.matches a state) (A.starts a state) No text)
    → t.built ≡ A.built a → t.last ≤ t.at → A.Reaches a No (since_last t) sid
    → Advances (A.Reaches a No) (A.special a) sid (drop t.at (read_by t)) stop
    → IsQuietOn t.built.dictionary (read_by t) t.last t.at (t.at + stop.taken)
advance-quiet A a t {stop} tells stops built ordered here goes =
    subst (λ d. IsQuietOn d.dictionary (read_by t) t.last t.at (t.at + stop.taken)) (sym built) (record {
      silent = λ k lt less.
          let mid = passed k lt less in
          let none = plain mid.0 (slice_range (read_by t) t.last k) mid.1 mid.2 in
          subst (λ ns. Tells (A.built a).dictionary No (slice_range (read_by t) t.last k) ns) none.0
          (tells (slice_range (read_by t) t.last k) mid.0 mid.1);
      alive = λ k lt less.
          let mid = passed k lt less in
          let none = plain mid.0 (slice_range (read_by t) t.last k) mid.1 mid.2 in
          let live = live-some in
          not-dead (A.built a).dictionary (slice_range (read_by t) t.last k) live.0 live.1 none.1;
    })
  where
    passed : (k : ℕ) → t.at < k → k < t.at + stop.taken
        → (mid : StateID) × A.Reaches a No (slice_range (read_by t) t.last k) mid × ¬ IsTrue (A.special a mid)
    passed k lt less =
        let i : ℕ = k - t.at in
        let there : t.at + i ≡ k = omega arith in
        let rest = length-drop t.at (read_by t) in
        let within = goes.taken.0 in
        let mid = goes.plain i (omega arith) (omega arith) in
        let text : since_last t ++ take i (drop t.at (read_by t)) ≡ slice_range (read_by t) t.last k =
        text-on (read_by t) t.last t.at i ordered (omega arith) ∙ ap (slice_range (read_by t) t.last) there in
        (mid.0, subst (λ l. A.Reaches a No l mid.0) text (mid.1 (since_last t) here), mid.2)

    plain : (mid : StateID) (text : List ℕ) → A.Reaches a No text mid → ¬ IsTrue (A.special a mid)
        → (A.matches a mid ≡ []) × (¬ IsLive (A.built a).dictionary false text None)
    plain mid text there open_ = (
      list-none (A.matches a mid) (λ some. open_ ((stops text mid there).1 (inr (inl some)))),
      λ dead. open_ ((stops text mid there).1 (inl dead)),
    )

-- ---- waiting

-- A search has read on from where it stood, and the best match that it has met is still to be decided.
pub record HasWaited (Reaches : List ℕ → StateID → Type 0) (s : StreamProgress Picks) (start sid : StateID) (at : ℕ)
    (best : Occurrence) (before after : Steps) : Type 0 where
  pub on : s.at ≤ at
  pub looks : ℕ
  pub done : Done looks 0 0 before after
  pub stands : StandsInState Reaches (waits s at looks) start sid (Some best)
