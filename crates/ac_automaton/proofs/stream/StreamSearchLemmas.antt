-- What a search of a stream keeps between its calls stays right.
use Rattle.std.proofs.Common.{◌≡◌, ℕ, ◌+◌, ◌-◌, ◌*◌, ◌≤◌, nat_lt, Bool, true, false, IsTrue, List, [], ◌∷◌, ◌++◌, length, take, drop, Option, None, Some, slice_range, sym, ap, subst, refl, ◌∙◌, arith, append-nil, append_assoc, length-append, length-drop}
use Rattle.std.specs.List.{concat}
use Rattle.std.proofs.Math.Seq.{drop-append_seam, take-append_seam}
use Rattle.std.proofs.lemmas.Bool.{false≢true, ltb-false, ltb-true}
use Rattle.std.proofs.lemmas.List.{drop-append-le, drop-drop}
use Rattle.std.proofs.lemmas.List.Elements.{All-push}
use Rattle.std.proofs.lemmas.List.Folds.{concat-append}
use Rattle.ac_input.specs.Number.{usize_max, StateID}
use Rattle.ac_input.specs.declared.steps.Steps.{Steps}
use Rattle.ac_input.specs.declared.search.MatchKind.{MatchKind}
use Rattle.ac_input.specs.declared.search.MatchKind.TheVariants.{Standard, LeftmostFirst, LeftmostLongest}
use Rattle.ac_input.specs.Dictionary.{IsLive, live_len, whole}
use Rattle.ac_input.specs.Best.{IsBest}
use Rattle.ac_input.specs.Walk.{IsWalk}
use Rattle.ac_input.proofs.lemmas.BeginningLemmas.{slice_range-append}
use Rattle.ac_input.specs.Occurrence.{Occurrence}
use Rattle.ac_input.specs.Work.{longest, shortest}
use Rattle.ac_input.specs.Steps.{Added, AreNone, Done}
use Rattle.ac_automaton.specs.Ahead.{less_ahead}
use Rattle.ac_automaton.specs.Automaton.{Built}
use Rattle.ac_automaton.specs.Stream.Devices.Buffer.{Filled, Held, IsRollPaid, room_for, nothing_held, rolled}
use Rattle.std.specs.Prelude.{max}
use Rattle.ac_automaton.specs.InMemory.Replace.{matches_in}
use Rattle.ac_automaton.specs.Stream.Search.{HoldsRead, IsStreamSearch, Searched, SearchesOn, StandsInState, after_search, passed_in_all, progress_at, since_last, some_of}
use Rattle.ac_automaton.specs.Stream.{IsWithinStreamBudget, Sequence, CanBeCounted, HasRead, IsOnCourse, cut_of, StreamProgress, fresh_progress, room_of, IsDecided, read_by, closed_by, may_wait, Picks}
use Rattle.ac_automaton.specs.Stream.Devices.Moved.{HasGiven}
use Rattle.ac_automaton.specs.declared.stream.devices.watched.Watched.{Watched}
use Rattle.ac_automaton.specs.declared.stream.search.Progress.{Progress}
use Rattle.ac_input.specs.declared.search.Anchored.TheVariants.{No}
use Rattle.ac_automaton.specs.declared.stream.search.StreamSearch.TheInside.{Inside}
use Rattle.ac_automaton.specs.declared.automaton.Automaton.{Ghosts}
use Rattle.ac_automaton.proofs.stream.SearchLemmas.{wait-standard}
use Rattle.ac_automaton.proofs.stream.SearchReadLemmas.{stands-from, stands-anew}
use Rattle.ac_automaton.proofs.stream.StreamLemmas.{walk-any}
use Rattle.ac_automaton.proofs.stream.SequenceLemmas.{picks≢occurrences}

-- ---- counting

-- what is done in fresh steps is done in the steps to which they are added
pub added-done : {looks : ℕ} {fresh taken : Steps} (before after : Steps) → AreNone fresh → Done looks 0 0 fresh taken
    → Added taken before after → Done looks 0 0 before after
added-done before after none done added =
    let a = none.looked in
    let b = none.scanned in
    let d = none.moved in
    let e = done.looked in
    let f = done.scanned in
    let h = done.moved in
    let i = added.looked in
    let j = added.scanned in
    let k = added.moved in
    record { looked = omega arith; scanned = omega arith; moved = omega arith }

-- a search is on its course with whatever was counted, if it stays within its budget
pub recounted : {q : Sequence} {s : StreamProgress q} {looked : ℕ} → IsOnCourse s
    → IsWithinStreamBudget (record s { looked = looked }) → IsOnCourse (record s { looked = looked })
recounted course paid = record {
  standard = course.standard;
  passed = course.passed;
  unclosed = course.unclosed;
  filled = course.filled;
  ordered = course.ordered;
  kept = course.kept;
  short = course.short;
  begun = course.begun;
  ended = course.ended;
  decided = course.decided;
  paid = paid;
}

-- ---- what was given

-- the matches returned are the first of all matches
pub given-front : (s : StreamProgress Picks) → IsDecided s
    → take (length s.given) (matches_in s.built (read_by s)) ≡ s.given
given-front s decided =
    let rest = decided [] (λ _. refl) in
    let all : matches_in s.built (read_by s) ≡ s.given ++ rest.0 =
    ap (matches_in s.built) (sym (append-nil (read_by s))) ∙ rest.1 in
    ap (take (length s.given)) all ∙ take-append_seam s.given rest.0

-- ---- the next match

-- how far a search has come after the next match, from what it keeps then
pub next-view : (b : Built) (pieces : List (List ℕ)) (count : ℕ) (p : Progress) (buffer : Held) {sums : Steps}
    (r : Searched) {looks : ℕ} {more : Steps} (number : ℕ)
    → length (take count (matches_in b (concat pieces))) ≡ count
    → IsDecided (after_search (progress_at b pieces count p buffer sums) r looks)
    → r.progress.closed ≡ p.closed
    → r.progress.from ≡ p.from
    → number ≡ count + length (some_of r.found)
    → Done looks 0 0 sums more
    → progress_at b pieces number r.progress buffer more
    ≡ after_search (progress_at b pieces count p buffer sums) r looks
next-view b pieces count p buffer {sums} r {looks} {more} number is decided closed from numbered done =
    let given : List Occurrence = take count (matches_in b (concat pieces)) in
    let long : number ≡ length (given ++ some_of r.found) = let both = length-append given (some_of r.found) in
    omega arith in
    let front : take number (matches_in b (concat pieces))
    ≡ given ++ some_of r.found = ap (λ n. take n (matches_in b (concat pieces))) long
    ∙ given-front (after_search (progress_at b pieces count p buffer sums) r looks) decided in
    let scanned : more.scanned.value ≡ sums.scanned.value = let e = done.scanned in omega arith in
    λ i. record {
      built = b;
      pieces = pieces;
      closed = closed i;
      given = front i;
      from = from i;
      at = r.progress.at;
      last = r.progress.last;
      looked = done.looked i;
      scanned = scanned i;
      moved = buffer.moved;
    }

-- how far a search has come that has read nothing in between, and moved nothing
abbrev read_nothing : StreamProgress Picks → Bool → List Occurrence → ℕ → ℕ → ℕ → StreamProgress Picks
read_nothing s closed given at last looked =
    record s { closed = closed; given = given; at = at; last = last; looked = looked }

-- what it keeps is right where it stands in a state
kept-still : {Reaches : List ℕ → StateID → Type 0} {s : StreamProgress Picks} {start sid next : StateID}
    {best better : Option Occurrence} {count : ℕ} {buffer : Held} {over : Bool} (closed : Bool)
    (given : List Occurrence) (at last looked number : ℕ)
    → IsStreamSearch Reaches s start sid best count buffer over
    → StandsInState Reaches (read_nothing s closed given at last looked) start next better → length given ≡ number
    → IsStreamSearch Reaches (read_nothing s closed given at last looked) start next better number buffer over
kept-still closed given at last looked number is stands numbered = record {
  stands = stands;
  number = numbered;
  holds = record {
    bytes = is.holds.bytes;
    keep = is.holds.keep;
    read = is.holds.read;
    moved = is.holds.moved;
    paid = is.holds.paid;
  };
  countable = is.countable;
  uncountable = is.uncountable;
}

-- what the search keeps after the next match is right
pub next-stream : {Reaches : List ℕ → StateID → Type 0} {s : StreamProgress Picks} {start sid : StateID}
    {best : Option Occurrence} {count : ℕ} {buffer : Held} {over : Bool} {r : Searched} {x y : Steps} (number : ℕ)
    → IsStreamSearch Reaches s start sid best count buffer over → (on : SearchesOn Reaches s start r x y)
    → number ≡ count + length (some_of r.found)
    → IsStreamSearch Reaches (after_search s r on.looks) start r.progress.sid r.progress.best number buffer over
next-stream {s} {r} number is on numbered =
    let both = length-append s.given (some_of r.found) in
    kept-still s.closed (s.given ++ some_of r.found) r.progress.at r.progress.last (s.looked + on.looks) number is
    on.stands (omega (arith, both, is.number, numbered))

-- ---- at first

-- a search that has read nothing stands in the start state
fresh-stands : (b : Built) (Reaches : List ℕ → StateID → Type 0) (start : StateID) → 1 ≤ shortest b.dictionary.patterns
    → Reaches [] start → StandsInState Reaches (fresh_progress b) start start None
fresh-stands b Reaches start filled begins =
    stands-anew Reaches start
    (record {
      unclosed = λ _. refl;
      filled = filled;
      ordered = (omega arith, omega arith);
      kept = (omega arith, omega arith, omega arith);
      short = λ k d lt. absurd (omega arith);
      ended = omega arith;
      scanned = refl;
      moved = omega arith;
    })
    refl begins
    (λ more rest follows walk.
    walk-any b.dictionary.kind (whole b.dictionary more false) 0 (Some 0) None rest (omega arith) filled walk)
    (omega arith, omega arith, λ d. omega arith)

-- how far a search that has read nothing has come, from what it keeps
pub fresh-view : (b : Built) (pieces : List (List ℕ)) (count : ℕ) (start : StateID) (n : ℕ) (buffer : Held)
    {sums : Steps} → pieces ≡ [] → count ≡ 0 → buffer ≡ nothing_held (max n 1) → AreNone sums
    → progress_at b pieces count (record { sid = start; from = 0; at = 0; last = 0; best = None; closed = false })
    buffer sums ≡ fresh_progress b
fresh-view b pieces count start n buffer none zero_given empty no_sums = λ i. record {
  built = b;
  pieces = none i;
  closed = false;
  given = take (zero_given i) (matches_in b (concat (none i)));
  from = 0;
  at = 0;
  last = 0;
  looked = no_sums.looked i;
  scanned = no_sums.scanned i;
  moved = (empty i).moved;
}

-- and what it keeps is right
pub fresh-right : (b : Built) (Reaches : List ℕ → StateID → Type 0) (start : StateID) (n count : ℕ) {buffer : Held}
    → 1 ≤ shortest b.dictionary.patterns → Reaches [] start → n ≡ longest b.dictionary.patterns → count ≡ 0
    → buffer ≡ nothing_held (max n 1) → IsRollPaid buffer
    → IsStreamSearch Reaches (fresh_progress b) start start None count buffer false
fresh-right b Reaches start n count filled begins long none empty paid = record {
  stands = fresh-stands b Reaches start filled begins;
  number = sym none;
  holds = record {
    bytes = ap (λ h. h.bytes) empty;
    keep = ap (λ h. h.keep) empty ∙ ap (λ longest. max longest 1) long;
    read = ap (λ h. h.read) empty;
    moved = ap (λ h. h.moved) empty;
    paid = paid;
  };
  countable = λ e. omega arith;
  uncountable = λ e. absurd (false≢true e);
}

-- ---- the end of the input

-- a closed search has nothing more to read
wait-follows : (kind : MatchKind) (closed : Bool) (more : List ℕ) → (kind ≡ Standard → closed ≡ false)
    → (may_wait kind ≡ true → more ≡ []) → closed ≡ true → more ≡ []
wait-follows Standard closed more none follows is = absurd (false≢true (sym (none refl) ∙ is))
wait-follows LeftmostFirst closed more none follows is = follows refl
wait-follows LeftmostLongest closed more none follows is = follows refl

-- closing a search leaves it where it stands
closed-stands : {Reaches : List ℕ → StateID → Type 0} {s : StreamProgress Picks} {start sid : StateID}
    {best : Option Occurrence} → StandsInState Reaches s start sid best
    → StandsInState Reaches (closed_by s) start sid best
closed-stands {s} stands =
    let course = stands.course in
    let kind = s.built.dictionary.kind in
    record {
      course = record {
        standard = course.standard;
        passed = course.passed;
        unclosed = λ standard. wait-standard kind standard;
        filled = course.filled;
        ordered = course.ordered;
        kept = course.kept;
        short = course.short;
        begun = course.begun;
        ended = course.ended;
        decided = λ more follows. course.decided more (wait-follows kind s.closed more course.unclosed follows);
        paid = record {
          some = course.paid.some;
          looked = course.paid.looked;
          near = course.paid.near;
          scanned = course.paid.scanned;
          moved = course.paid.moved;
          unmoved = course.paid.unmoved;
        };
      };
      begins = stands.begins;
      reads = stands.reads;
      found = stands.found;
      kept = stands.kept;
      told = stands.told;
      quiet = stands.quiet;
      live = stands.live;
      alive = stands.alive;
      goes = λ more rest follows walk.
          stands.goes more rest (wait-follows kind s.closed more course.unclosed follows) walk;
      lookups = stands.lookups;
    }

-- and what it keeps is right
pub closed-right : {Reaches : List ℕ → StateID → Type 0} {s : StreamProgress Picks} {start sid : StateID}
    {best : Option Occurrence} {count : ℕ} {buffer : Held} {over : Bool}
    → IsStreamSearch Reaches s start sid best count buffer over
    → IsStreamSearch Reaches (closed_by s) start sid best count buffer over
closed-right {s} {count} is =
    kept-still (may_wait s.built.dictionary.kind) s.given s.at s.last s.looked count is
    (closed-stands is.stands) is.number

-- ---- a read

-- the buffer holds what it held, and this piece at its end
pub record IsGrown (old new : Held) (piece : List ℕ) : Type 0 where
  pub bytes : new.bytes ≡ old.bytes ++ piece
  pub read : new.read ≡ old.read + length piece
  pub keep : new.keep ≡ old.keep
  pub moved : new.moved ≡ old.moved
  pub paid : IsRollPaid new

-- how far a search has come after a read
abbrev pub after_read : {q : Sequence} → StreamProgress q → List ℕ → StreamProgress q
after_read s piece = record s { pieces = s.pieces ++ piece ∷ [] }

-- the bytes read after a read are those before it and the piece
pub read-more : {q : Sequence} (s : StreamProgress q) (piece : List ℕ) → read_by (after_read s piece) ≡ read_by s ++ piece
read-more s piece = concat-append s.pieces (piece ∷ []) ∙ ap (λ l. read_by s ++ l) (append-nil piece)

-- what comes after a read: the piece and what follows it
read-on : (s : StreamProgress Picks) (piece more : List ℕ)
    → read_by (after_read s piece) ++ more ≡ read_by s ++ (piece ++ more)
read-on s piece more = ap (λ l. l ++ more) (read-more s piece) ∙ append_assoc (read_by s) piece more

-- a read leaves the search in its state
read-stands : {Reaches : List ℕ → StateID → Type 0} {s : StreamProgress Picks} {start sid : StateID}
    {best : Option Occurrence} (piece : List ℕ) → StandsInState Reaches s start sid best → s.closed ≡ false
    → length (read_by s ++ piece) ≤ s.from + room_of Picks s.built → length piece ≤ room_of Picks s.built
    → StandsInState Reaches (after_read s piece) start sid best
read-stands {Reaches} {s} {start} {sid} {best} piece is open_ fits short =
    let m = s.built.dictionary in
    let t = after_read s piece in
    let more = read-more s piece in
    let longer = ap length more in
    let both = length-append (read_by s) piece in
    let course = is.course in
    let ordered = course.ordered in
    let same : since_last t ≡ since_last s = ap (λ l. slice_range l s.last s.at) more
    ∙ slice_range-append (read_by s) piece ordered.0 ordered.1 in
    stands-from Reaches start sid best is.found is.live
    (record {
      unclosed = course.unclosed;
      filled = course.filled;
      ordered = (ordered.0, omega (arith, ordered.1, longer, both));
      kept = (course.kept.0, course.kept.1, omega (arith, fits, longer));
      short = All-push (λ l. length l ≤ room_of Picks s.built) s.pieces piece course.short short;
      ended = course.ended;
      scanned = course.paid.scanned;
      moved = omega (arith, course.paid.moved, longer, both);
    })
    is.begins
    (subst (λ l. Reaches l sid) (sym same) is.reads)
    is.kept
    (subst (λ l. IsBest m.kind (whole m l false) is.found) (sym same) is.told)
    is.quiet
    (subst (λ l. IsLive m false l (Some is.live)) (sym same) is.alive)
    (λ after rest follows walk.
    let e = read-on s piece after in
    subst (λ l. IsWalk m.kind (whole m l false) 0 None (s.given ++ rest)) (sym e)
    (is.goes (piece ++ after) rest (λ closed. absurd (false≢true (sym open_ ∙ closed)))
    (subst (λ l. IsWalk m.kind (whole m l false) s.last (Some s.last) rest) e walk)))
    (λ one alive.
    subst (λ l. (s.looked + live_len l one ≤ 2 * passed_in_all s) × (s.at ≤ s.looked)
    × (IsTrue s.built.deterministic → s.looked ≤ passed_in_all s)) (sym same)
    (is.lookups one (subst (λ l. IsLive m false l one) same alive)))

-- how many bytes are held after the piece
pub grown-long : {s : StreamProgress Picks} {old new : Held} {piece : List ℕ} → IsOnCourse s → HoldsRead s old
    → IsGrown old new piece → length new.bytes + s.from ≡ length (read_by s ++ piece)
grown-long {s} {old} {piece} course holds grown =
    let bytes = ap length grown.bytes in
    let joined = length-append old.bytes piece in
    let held = ap length holds.bytes in
    let dropped = length-drop s.from (read_by s) in
    let both = length-append (read_by s) piece in
    let behind = course.kept.1 in
    let inside = course.ordered.1 in
    omega arith

-- the bytes fit the buffer
grown-fits : {s : StreamProgress Picks} {old new : Held} {piece : List ℕ} → IsOnCourse s → HoldsRead s old
    → IsGrown old new piece → length (read_by s ++ piece) ≤ s.from + room_of Picks s.built
grown-fits {s} {new} course holds grown =
    let long = grown-long course holds grown in
    let within = grown.paid.within in
    let room : new.room ≡ room_of Picks s.built = grown.paid.room ∙ ap room_for (grown.keep ∙ holds.keep) in
    omega arith

-- no piece is longer than the buffer
pub piece-short : {s : StreamProgress Picks} {old new : Held} {piece : List ℕ} → IsOnCourse s → HoldsRead s old
    → IsGrown old new piece → length piece ≤ room_of Picks s.built
piece-short {s} {old} {new} {piece} course holds grown =
    let within = grown.paid.within in
    let room : new.room ≡ room_of Picks s.built = grown.paid.room ∙ ap room_for (grown.keep ∙ holds.keep) in
    let bytes = ap length grown.bytes in
    let joined = length-append old.bytes piece in
    omega arith

-- moving the held bytes to the front leaves what the search keeps right
pub roll-right : {Reaches : List ℕ → StateID → Type 0} {s : StreamProgress Picks} {start sid : StateID}
    {best : Option Occurrence} {count : ℕ} {old new : Held} {over : Bool} (cut : ℕ)
    → IsStreamSearch Reaches s start sid best count old over → cut ≡ cut_of s → new ≡ rolled old (cut - s.from)
    → IsRollPaid new
    → IsStreamSearch Reaches (record s { from = cut; moved = new.moved }) start sid best count new over
roll-right {s} {new} cut is at moves paid =
    let stands = is.stands in
    let course = stands.course in
    let before = course.kept.0 in
    let behind = course.kept.1 in
    let room = course.kept.2 in
    let ordered = course.ordered in
    let more = paid.paid in
    let read : new.read ≡ length (read_by s) = ap (λ h. h.read) moves ∙ is.holds.read in
    let there : s.from + (cut - s.from) ≡ cut = omega (arith, before, at) in
    record {
      stands = record {
        course = record {
          standard = course.standard;
          passed = course.passed;
          unclosed = course.unclosed;
          filled = course.filled;
          ordered = ordered;
          kept = (omega (arith, at), omega (arith, at, ordered.0), omega (arith, room, before, at));
          short = course.short;
          begun = course.begun;
          ended = course.ended;
          decided = course.decided;
          paid = record {
            some = course.paid.some;
            looked = course.paid.looked;
            near = course.paid.near;
            scanned = course.paid.scanned;
            moved = omega (arith, more, read);
            unmoved = λ e. absurd (picks≢occurrences e);
          };
        };
        begins = stands.begins;
        reads = stands.reads;
        found = stands.found;
        kept = stands.kept;
        told = stands.told;
        quiet = stands.quiet;
        live = stands.live;
        alive = stands.alive;
        goes = stands.goes;
        lookups = stands.lookups;
      };
      number = is.number;
      holds = record {
        bytes = ap (λ h. h.bytes) moves
            ∙ (ap (drop (cut - s.from)) is.holds.bytes
            ∙ (drop-drop (cut - s.from) s.from (read_by s) ∙ ap (λ n. drop n (read_by s)) there));
        keep = ap (λ h. h.keep) moves ∙ is.holds.keep;
        read = read;
        moved = refl;
        paid = paid;
      };
      countable = is.countable;
      uncountable = is.uncountable;
    }

-- What a search keeps after a read is right, and `over` is true exactly where there are more bytes than places.
pub read-right : {Reaches : List ℕ → StateID → Type 0} {s : StreamProgress Picks} {start sid : StateID}
    {best : Option Occurrence} {count : ℕ} {old new : Held} {was : Bool} (over : Bool) {piece : List ℕ}
    → IsStreamSearch Reaches s start sid best count old was → IsGrown old new piece
    → s.closed ≡ false
    → (over ≡ false → CanBeCounted (read_by s ++ piece)) → (over ≡ true → ¬ CanBeCounted (read_by s ++ piece))
    → IsStreamSearch Reaches (after_read s piece) start sid best count new over
read-right {s} over {piece} is grown open_ few many =
    let more = read-more s piece in
    let course = is.stands.course in
    let behind = course.kept.1 in
    let inside = course.ordered.1 in
    let le : s.from ≤ length (read_by s) = omega arith in
    record {
      stands = read-stands piece is.stands open_
          (grown-fits course is.holds grown) (piece-short course is.holds grown);
      number = is.number;
      holds = record {
        bytes = grown.bytes ∙ ap (λ l. l ++ piece) is.holds.bytes ∙ sym (drop-append-le s.from (read_by s) piece le)
            ∙ ap (drop s.from) (sym more);
        keep = grown.keep ∙ is.holds.keep;
        read = grown.read ∙ ap (λ n. n + length piece) is.holds.read ∙ sym (length-append (read_by s) piece)
            ∙ ap length (sym more);
        moved = grown.moved ∙ is.holds.moved;
        paid = grown.paid;
      };
      countable = λ e. subst CanBeCounted (sym more) (few e);
      uncountable = λ e. subst (λ l. ¬ CanBeCounted l) (sym more) (many e);
    }

-- how far the search has come after a read, from what it keeps then
pub read-view : (b : Built) (pieces after : List (List ℕ)) (count : ℕ) (p : Progress) {old new : Held} (sums : Steps)
    {piece : List ℕ} → length (take count (matches_in b (concat pieces))) ≡ count
    → IsDecided (progress_at b pieces count p old sums)
    → p.closed ≡ false
    → IsGrown old new piece
    → after ≡ pieces ++ piece ∷ []
    → progress_at b after count p new sums ≡ after_read (progress_at b pieces count p old sums) piece
read-view b pieces after count p {old} sums {piece} number decided open_ grown is =
    let s : StreamProgress Picks = progress_at b pieces count p old sums in
    let rest = decided piece (λ closed. absurd (false≢true (sym open_ ∙ closed))) in
    let all : matches_in b (concat after) ≡ s.given ++ rest.0 = ap (λ l. matches_in b (concat l)) is
    ∙ ap (matches_in b) (read-more s piece) ∙ rest.1 in
    let front : take count (matches_in b (concat after)) ≡ s.given = ap (take count) all
    ∙ ap (λ n. take n (s.given ++ rest.0)) (sym number) ∙ take-append_seam s.given rest.0 in
    λ i. record {
      built = b;
      pieces = is i;
      closed = p.closed;
      given = front i;
      from = p.from;
      at = p.at;
      last = p.last;
      looked = sums.looked.value;
      scanned = sums.scanned.value;
      moved = grown.moved i;
    }

-- the test for more bytes than places
pub over-test : (from held all : ℕ) → from ≤ usize_max → held + from ≡ all
    → (nat_lt (usize_max - from) held ≡ false → all ≤ usize_max)
    × (nat_lt (usize_max - from) held ≡ true → ¬ (all ≤ usize_max))
over-test from held all fits is = (
  λ e. let le = ltb-false (usize_max - from) held e in
      omega arith,
  λ e few. let lt = ltb-true (usize_max - from) held e in omega arith,
)

-- the last n bytes of the buffer are the piece
pub piece-behind : (held front piece : List ℕ) (n : ℕ) → held ≡ front ++ piece → length piece ≡ n
    → drop (length held - n) held ≡ piece
piece-behind held front piece n is long =
    let both = length-append front piece in
    let all = ap length is in
    let k : length held - n ≡ length front = omega arith in
    ap (λ i. drop i held) k ∙ ap (drop (length front)) is ∙ drop-append_seam front piece

-- ---- what a read leaves, by what the search keeps

-- how far a search has come, from what it keeps
abbrev pub come_by : {S : Type 0} → Ghosts S → Inside S → StreamProgress Picks
come_by A i = progress_at (A.built i.automaton) i.pieces.items i.given.value i.progress i.buffer i.sums

-- how far it has come, what was read ahead of it left aside
abbrev pub settled_by : {S : Type 0} → Ghosts S → Inside S → StreamProgress Picks
settled_by A i = come_by A (record i { sums = less_ahead i.sums i.ahead })

-- what the search keeps is right, what was read ahead of it left aside
abbrev pub IsSettled : {S : Type 0} → Ghosts S → Inside S → Type 0
IsSettled A i =
    IsStreamSearch (A.Reaches i.automaton No) (settled_by A i) i.start i.progress.sid i.progress.best i.given.value
    i.buffer i.over

-- what a search keeps after a read or a push
abbrev pub grown_to : {S : Type 0} → Inside S → List (List ℕ) → Held → Bool → Inside S
grown_to i all new over = record i { pieces = record i.pieces { items = all }; buffer = new; over = over }

-- After a piece was added to the held bytes: what the search keeps is right, and how far it has come.
pub grown-right : {S : Type 0} (A : Ghosts S) (i : Inside S) (all : List (List ℕ)) {new : Held} (over : Bool)
    {piece : List ℕ} → IsSettled A i → i.progress.closed ≡ false → IsGrown i.buffer new piece
    → all ≡ i.pieces.items ++ piece ∷ []
    → (over ≡ false → CanBeCounted (read_by (come_by A i) ++ piece))
    × (over ≡ true → ¬ CanBeCounted (read_by (come_by A i) ++ piece))
    → IsSettled A (grown_to i all new over) × (come_by A (grown_to i all new over) ≡ after_read (come_by A i) piece)
grown-right A i all {new} over is open_ grown more test =
    let p = i.progress in
    let Reaches = A.Reaches i.automaton No in
    let view = λ (counted : Steps).
    read-view (A.built i.automaton) i.pieces.items all i.given.value p counted is.number
    is.stands.course.decided open_ grown more in (
      subst (λ t. IsStreamSearch Reaches t i.start p.sid p.best i.given.value new over)
          (sym (view (less_ahead i.sums i.ahead)))
          (read-right over is grown
          open_ test.0 test.1),
      view i.sums,
    )

-- the test for more bytes than places, after a piece was added
pub grown-test : {S : Type 0} (A : Ghosts S) (i : Inside S) {new : Held} {piece : List ℕ} (held : List ℕ)
    → IsSettled A i → IsGrown i.buffer new piece → held ≡ new.bytes → i.progress.from ≤ usize_max
    → (nat_lt (usize_max - i.progress.from) (length held) ≡ false → CanBeCounted (read_by (come_by A i) ++ piece))
    × (nat_lt (usize_max - i.progress.from) (length held) ≡ true → ¬ CanBeCounted (read_by (come_by A i) ++ piece))
grown-test A i {piece} held is grown holds fits =
    over-test i.progress.from (length held) (length (read_by (come_by A i) ++ piece)) fits
    (ap (λ l. length l + i.progress.from) holds
    ∙ grown-long is.stands.course is.holds grown)

-- After a read: what the search keeps is right, and the read returned this piece.
pub record HasFilled {S R : Type 0} (A : Ghosts S) (remaining : R → Option (List ℕ)) (i j : Inside S)
    (before after : Watched R) (piece : List ℕ) (errors : ℕ) : Type 0 where
  pub right : IsSettled A j
  pub read : HasRead remaining (come_by A i) (come_by A j) before after piece errors

filled-by : {S R : Type 0} (A : Ghosts S) (remaining : R → Option (List ℕ)) (i : Inside S) (before after : Watched R)
    (all : List (List ℕ)) (new : Held) (over : Bool) (piece : List ℕ) (errors : ℕ)
    → IsSettled A i → i.progress.closed ≡ false → IsGrown i.buffer new piece → all ≡ i.pieces.items ++ piece ∷ []
    → (over ≡ false → CanBeCounted (read_by (come_by A i) ++ piece))
    × (over ≡ true → ¬ CanBeCounted (read_by (come_by A i) ++ piece))
    → HasGiven remaining before after (piece ∷ []) errors
    → HasFilled A remaining i (grown_to i all new over) before after piece errors
filled-by A remaining i before after all new over piece errors is open_ grown more test gave =
    let course = is.stands.course in
    let right = grown-right A i all over is open_ grown more test in
    record {
      right = right.0;
      read = subst (λ t. HasRead remaining (come_by A i) t before after piece errors) (sym right.1)
          (record {
            built = refl;
            pieces = refl;
            closed = refl;
            given = refl;
            at = refl;
            last = refl;
            from = course.kept.0;
            short = piece-short course is.holds grown;
            read = gave;
          });
    }

-- what a failed read leaves: it returned an empty piece
pub fill-failed : {S R : Type 0} (A : Ghosts S) {remaining : R → Option (List ℕ)} (i : Inside S)
    {before after : Watched R} (all : List (List ℕ)) {new : Held} → IsSettled A i → i.progress.closed ≡ false
    → new ≡ i.buffer → IsRollPaid new → all ≡ i.pieces.items ++ [] ∷ [] → HasGiven remaining before after ([] ∷ []) 1
    → HasFilled A remaining i (grown_to i all new i.over) before after [] 1
fill-failed A {remaining} i {before} {after} all {new} is open_ same paid more failed =
    let none = append-nil (read_by (come_by A i)) in
    filled-by A remaining i before after all new i.over [] 1 is open_
    (record {
      bytes = ap (λ h. h.bytes) same ∙ sym (append-nil i.buffer.bytes);
      read = let e = ap (λ h. h.read) same in omega arith;
      keep = ap (λ h. h.keep) same;
      moved = ap (λ h. h.moved) same;
      paid = paid;
    }) more (
      λ e. subst CanBeCounted (sym none) (is.countable e),
      λ e. subst (λ l. ¬ CanBeCounted l) (sym none) (is.uncountable e),
    )
    failed

-- what a read of some bytes leaves
pub fill-gave : {S R : Type 0} (A : Ghosts S) {remaining : R → Option (List ℕ)} (i : Inside S)
    {before after : Watched R} (all : List (List ℕ)) {new : Held} {n : ℕ} (held : List ℕ) → IsSettled A i
    → i.progress.closed ≡ false
    → (gave : Filled remaining i.buffer new before after n) → IsRollPaid new → held ≡ new.bytes
    → all ≡ i.pieces.items ++ drop (length held - n) held ∷ [] → i.progress.from ≤ usize_max
    → HasFilled A remaining i (grown_to i all new (nat_lt (usize_max - i.progress.from) (length held))) before after
    gave.piece 0
fill-gave A {remaining} i {before} {after} all {new} {n} held is open_ gave paid holds more fits =
    let grown : IsGrown i.buffer new gave.piece = record {
      bytes = ap (λ h. h.bytes) gave.held;
      read = ap (λ h. h.read) gave.held ∙ ap (λ k. i.buffer.read + k) (sym gave.count);
      keep = ap (λ h. h.keep) gave.held;
      moved = ap (λ h. h.moved) gave.held;
      paid = paid;
    } in
    let last = piece-behind held i.buffer.bytes gave.piece n (holds ∙ grown.bytes) gave.count in
    filled-by A remaining i before after all new (nat_lt (usize_max - i.progress.from) (length held)) gave.piece 0 is
    open_ grown (more ∙ ap (λ l. i.pieces.items ++ l ∷ []) last)
    (grown-test A i held is grown holds fits) gave.read
