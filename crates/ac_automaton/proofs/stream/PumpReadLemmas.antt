-- What has been pumped of a stream, from one read to the next, and at its end.
use Rattle.std.proofs.Common.{◌≡◌, ◌≢◌, inl, inr, false, ℕ, ◌≤◌, List, [], ◌∷◌, ◌++◌, length, Option, None, Result, Ok, Err, refl, sym, ap, ◌∙◌, subst, arith}
use Rattle.std.specs.List.{Contains, concat, filter}
use Rattle.std.specs.Prelude.{OnOk}
use Rattle.std.proofs.lemmas.Bool.{false≢true}
use Rattle.std.proofs.lemmas.List.{append-nil}
use Rattle.std.proofs.lemmas.List.Elements.{All-from_recursion}
use Rattle.ac_input.specs.declared.steps.Steps.{Steps}
use Rattle.ac_input.specs.Computed.{listing_of}
use Rattle.ac_input.specs.Dictionary.{Dictionary, IsLive, whole}
use Rattle.ac_input.specs.Occurrence.{Occurrence}
use Rattle.ac_input.specs.Walk.{IsWalk}
use Rattle.ac_input.specs.Word.{is_whole_word}
use Rattle.ac_input.specs.Work.{shortest}
use Rattle.ac_input.proofs.lemmas.ContainsLemmas.{Contains-head}
use Rattle.ac_input.proofs.lemmas.ListingLemmas.{listing_of-lists}
use Rattle.ac_input.proofs.lemmas.TextLemmas.{pick-occurs}
use Rattle.ac_input.proofs.lemmas.UnusedLemmas.{occurs-some}
use Rattle.ac_input.proofs.lemmas.WalkLemmas.{pick-within}
use Rattle.ac_input.proofs.lemmas.WordLemmas.{words-filtered}
use Rattle.ac_automaton.specs.Automaton.{Built}
use Rattle.ac_automaton.specs.Stream.Devices.Moved.{AreFilled, AreWhole, HasGiven, but_last}
use Rattle.ac_automaton.specs.InMemory.Replace.{matches_in}
use Rattle.ac_automaton.specs.Stream.{AllWords, CanBeCounted, HasRead, IsOnCourse, IsSearched, Occurrences, Picks, ReadsMore, ReadsNothing, Sequence, StaysOpen, StreamCounts, StreamProgress, Words, closed_by, cut_of, fresh_progress, items_of, place_of, read_by}
use Rattle.ac_automaton.specs.Stream.Pump.{HasComeToCut, Handling, IsSinkChain, PassesItems, Pumps, StopsFrom, StopsPassing, AnswersTake, bytes_between}
use Rattle.ac_automaton.specs.Stream.Replace.{HasSearched, IsAtCut, IsPlaced}
use Rattle.ac_automaton.specs.declared.error.StreamError.{StreamError}
use Rattle.ac_automaton.specs.declared.error.StreamError.TheVariants.{Config, Read, Write, WriteZero, Memory, Position}
use Rattle.ac_automaton.specs.declared.stream.devices.watched.Watched.{Watched}
use Rattle.ac_automaton.proofs.stream.devices.MovedLemmas.{AreFilled-push, given-none}
use Rattle.ac_automaton.proofs.lemmas.WalkEndLemmas.{none-alive}
use Rattle.ac_automaton.proofs.stream.PlacedLemmas.{all-later, before-last, cut-within, decides-given, given-more, near-cut, pieces-fit, placed-after, read-more, read-same}
use Rattle.ac_automaton.proofs.stream.PumpLemmas.{begins-by}
use Rattle.ac_automaton.proofs.stream.SearchReadLemmas.{nothing-in_empty}
use Rattle.ac_automaton.proofs.stream.SinkChainLemmas.{IsLawful, chain-longer, chain-none, chain-then}
use Rattle.ac_automaton.proofs.stream.StreamCutLemmas.{matches-walk}
use Rattle.ac_automaton.proofs.stream.StreamWordLemmas.{no-words}

-- ---- before the first read

-- nothing matches in an empty text
pub nothing-matches : (b : Built) (os : List Occurrence) → 1 ≤ shortest b.dictionary.patterns
    → IsWalk b.dictionary.kind (whole b.dictionary [] false) 0 None os → [] ≡ os
nothing-matches b [] some walk = refl
nothing-matches b (o ∷ os) some walk =
    let s = whole b.dictionary [] false in
    let found = pick-occurs walk.0 in
    let filled = occurs-some (omega arith) some found.2 in
    let within : o.end ≤ 0 = (pick-within walk.0).2 in
    absurd (omega arith)

-- an empty text has no occurrence
nothing-occurs : (m : Dictionary) (os : List Occurrence) → 1 ≤ shortest m.patterns → os ≡ listing_of (whole m [] false)
    → [] ≡ os
nothing-occurs m [] filled is = refl
nothing-occurs m (o ∷ os) filled is =
    let lists = listing_of-lists {s = whole m [] false} (omega arith) in
    let occurs = (lists.1 o).0 (subst (λ all. Contains all o) is (Contains-head os)) in
    let some = occurs-some (omega arith) filled occurs in
    let within = occurs.within.2 in
    absurd (omega arith)

-- so it has no item of any sequence
pub no-items : (q : Sequence) (b : Built) → 1 ≤ shortest b.dictionary.patterns → [] ≡ items_of q b.dictionary []
no-items Picks b filled = nothing-matches b (matches_in b []) filled (matches-walk b [])
no-items Occurrences b filled = nothing-occurs b.dictionary (items_of Occurrences b.dictionary []) filled refl
no-items Words b filled = no-words b.dictionary filled
no-items AllWords b filled =
    ap (filter (is_whole_word [])) (nothing-occurs b.dictionary (items_of Occurrences b.dictionary []) filled refl)
    ∙ sym (words-filtered (whole b.dictionary [] false) (omega arith))

-- an empty text isn't dead
pub empty-alive : (b : Built) → 1 ≤ shortest b.dictionary.patterns → ¬ IsLive b.dictionary false [] None
empty-alive b filled = none-alive b.dictionary b.dictionary.kind [] (nothing-in_empty b.dictionary [] filled refl)

-- what follows it may change the first item
empty-open : (q : Sequence) (b : Built) → 1 ≤ shortest b.dictionary.patterns → StaysOpen q b.dictionary [] []
empty-open Picks b filled = empty-alive b filled
empty-open Occurrences b filled = empty-alive b filled
empty-open Words b filled = λ best least. let none = least.0.1 in absurd (omega arith)
empty-open AllWords b filled = λ o word before. absurd (omega arith)

-- a search that has read nothing stands at the cut
fresh-at_cut : (q : Sequence) (b : Built) → IsOnCourse {q = q} (fresh_progress b)
    → IsAtCut {q = q} (fresh_progress b) 0
fresh-at_cut q b course = record {
  placed = record { course = course; countable = omega arith; held = omega arith; cut = omega arith; lies = λ e. tt };
  cut = omega arith;
  all = record {
    searched = refl;
    all = λ each. no-items q b course.filled;
    open_ = empty-open q b course.filled;
    anew = λ done. refl;
  };
}

-- ---- between two reads

module _ {Z : Type 0} (h : Handling Z) (q : Sequence) {R : Type 0} (remaining : R → Option (List ℕ)) (b : Built)
    (r0 : Watched R) (z0 : Z) where
  -- Between two reads, all that is decided was passed.
  pub record HasPumped (s : StreamProgress q) (at : ℕ) (r : Watched R) (z : Z) : Type 0 where
    pub built : s.built ≡ b
    pub unclosed : s.closed ≡ false
    pub place : IsAtCut s at
    pub filled : AreFilled s.pieces
    pub read : HasGiven remaining r0 r s.pieces 0
    pub chain : IsSinkChain h q (read_by s) 0 s.given at z0 z
    pub settled : h.settled z
    pub ready : h.ready (length b.dictionary.patterns) z

  -- After a read, all that was decided before it was passed, and nothing since then.
  pub record HasReadOn (t : StreamProgress q) (at : ℕ) (r : Watched R) (z : Z) : Type 0 where
    pub built : t.built ≡ b
    pub placed : IsPlaced t at
    pub read : HasGiven remaining r0 r t.pieces 0
    pub came : HasComeToCut h q b (concat (but_last t.pieces)) at t.given z0 z
    pub chain : IsSinkChain h q (read_by t) 0 t.given at z0 z
    pub ready : h.ready (length b.dictionary.patterns) z

-- before the first read
pub pumped-fresh : {Z : Type 0} {h : Handling Z} (lawful : IsLawful h) (q : Sequence) {R : Type 0}
    (remaining : R → Option (List ℕ)) (b : Built) (s : StreamProgress q) (r : Watched R) (z : Z)
    → s ≡ fresh_progress b → IsOnCourse s → h.settled z → h.ready (length b.dictionary.patterns) z
    → HasPumped h q remaining b r z s 0 r z
pumped-fresh {Z} {h} lawful q remaining b s r z fresh course settled ready =
    subst (λ t. IsOnCourse t → HasPumped h q remaining b r z t 0 r z) (sym fresh)
    (λ on. record {
      built = refl;
      unclosed = refl;
      place = fresh-at_cut q b on;
      filled = tt;
      read = given-none;
      chain = chain-none lawful q [] 0 z;
      settled = settled;
      ready = ready;
    }) course

module _ {Z : Type 0} {h : Handling Z} (lawful : IsLawful h) {q : Sequence} {R : Type 0}
    {remaining : R → Option (List ℕ)} {b : Built} {r0 : Watched R} {z0 : Z} where
  -- all that is decided by what was read was passed
  pub come-to_cut : (s : StreamProgress q) (at : ℕ) (r : Watched R) (z : Z) → HasPumped h q remaining b r0 z0 s at r z
      → HasComeToCut h q b (read_by s) at s.given z0 z
  come-to_cut s at r z p =
      let course = p.place.placed.course in
      let is : at ≡ cut_of s = p.place.cut in
      let inside = cut-within course in
      subst (λ c. HasComeToCut h q c (read_by s) at s.given z0 z) p.built (record {
        decides = decides-given course p.place.all p.unclosed;
        within = omega arith;
        later = λ more.
            let left = course.decided more (λ closed. absurd (false≢true (sym p.unclosed ∙ closed))) in
            (left.0, left.1, all-later q at _ left.0 (omega arith) left.2);
        near = near-cut p.place p.unclosed;
        lies = p.place.placed.lies;
        chain = p.chain;
        settled = p.settled;
      })

  module _ (s t : StreamProgress q) (at : ℕ) (r r1 : Watched R) (z : Z) (piece : List ℕ) (failed : ℕ)
      (p : HasPumped h q remaining b r0 z0 s at r z) (read : HasRead remaining s t r r1 piece failed) where
    pub built-read : t.built ≡ b
    built-read = read.built ∙ p.built

    given-read : HasGiven remaining r0 r1 t.pieces failed
    given-read = given-more read p.read

    -- all that was decided before this read was passed
    came-before : HasComeToCut h q b (concat (but_last t.pieces)) at t.given z0 z
    came-before =
        subst (λ x. HasComeToCut h q b x at t.given z0 z) (sym (before-last read))
        (subst (λ os. HasComeToCut h q b (read_by s) at os z0 z) (sym read.given) (come-to_cut s at r z p))

    -- the search has come to a place of what was read by now
    pub read-on : IsOnCourse t → CanBeCounted (read_by t) → failed ≡ 0 → HasReadOn h q remaining b r0 z0 t at r1 z
    read-on course countable fine =
        let within = cut-within p.place.placed.course in
        let is : at ≡ cut_of s = p.place.cut in
        record {
          built = built-read;
          placed = placed-after read at p.place course countable;
          read = subst (HasGiven remaining r0 r1 t.pieces) fine given-read;
          came = came-before;
          chain = subst (λ x. IsSinkChain h q x 0 t.given at z0 z) (sym (read-more read))
              (subst (λ os. IsSinkChain h q (read_by s ++ piece) 0 os at z0 z) (sym read.given)
              (chain-longer h q (length s.built.dictionary.patterns) (read_by s) piece 0 at s.given z0 z
              (λ e. (p.place.placed.lies e, omega arith, omega arith)) p.chain));
          ready = p.ready;
        }

    -- pieces so far
    pub filled-read : piece ≢ [] → AreFilled t.pieces
    filled-read some = subst AreFilled (sym read.pieces) (AreFilled-push s.pieces p.filled some)

    pub whole-read : piece ≡ [] → AreWhole t.pieces
    whole-read none = (s.pieces, p.filled, read.pieces ∙ ap (λ bytes. s.pieces ++ bytes ∷ []) none)

    pub unclosed-read : t.closed ≡ false
    unclosed-read = read.closed ∙ p.unclosed

    -- the read failed
    pub read-failed : (error : _) → IsOnCourse t → failed ≡ 1 → piece ≡ []
        → Pumps h q remaining b r0 r1 z0 z (Err (Read error))
    read-failed error course fails none = (
      t.pieces,
      failed,
      given-read,
      pieces-fit b built-read course,
      inr (
        fails,
        whole-read none,
        (
          at,
          s.given,
          subst (λ x. HasComeToCut h q b x at s.given z0 z) (sym (read-same read none)) (come-to_cut s at r z p),
        ),
      ),
    )

    -- there are more bytes than places
    pub read-too_long : IsOnCourse t → failed ≡ 0 → ¬ CanBeCounted (read_by t)
        → Pumps h q remaining b r0 r1 z0 z (Err Position)
    read-too_long course fine long = (
      t.pieces,
      failed,
      given-read,
      pieces-fit b built-read course,
      inr (
        fine,
        long,
        (
          at,
          s.given,
          subst (λ x. HasComeToCut h q b x at s.given z0 z) (sym (before-last read)) (come-to_cut s at r z p),
        ),
      ),
    )

  -- a read that failed, or with which there are more bytes than places
  pub read-stopped : (s t : StreamProgress q) (at : ℕ) (r r1 : Watched R) (z : Z)
      → HasPumped h q remaining b r0 z0 s at r z → (error : StreamError) → IsOnCourse t
      → ReadsMore remaining s t r r1 (Err error) → Pumps h q remaining b r0 r1 z0 z (Err error)
  read-stopped s t at r r1 z p (Config error) course read = absurd read
  read-stopped s t at r r1 z p (Read error) course read = read-failed s t at r r1 z [] 1 p read error course refl refl
  read-stopped s t at r r1 z p (Write error) course read = absurd read
  read-stopped s t at r r1 z p WriteZero course read = absurd read
  read-stopped s t at r r1 z p Memory course read = absurd read
  read-stopped s t at r r1 z p Position course read =
      read-too_long s t at r r1 z read.0 0 p read.1 course refl read.2

  -- what was read, whatever a read returned
  read-piece : (s t : StreamProgress q) (at : ℕ) (r r1 : Watched R) (z : Z) (piece : List ℕ) (failed : ℕ)
      → HasPumped h q remaining b r0 z0 s at r z → HasRead remaining s t r r1 piece failed
      → (t.built ≡ b) × (r1.pieces.items ≡ r0.pieces.items ++ t.pieces)
  read-piece s t at r r1 z piece failed p read =
      (built-read s t at r r1 z piece failed p read, (given-read s t at r r1 z piece failed p read).pieces)

  pub read-kept : (s t : StreamProgress q) (at : ℕ) (r r1 : Watched R) (z : Z)
      → HasPumped h q remaining b r0 z0 s at r z → (result : Result ℕ StreamError)
      → ReadsMore remaining s t r r1 result → (t.built ≡ b) × (r1.pieces.items ≡ r0.pieces.items ++ t.pieces)
  read-kept s t at r r1 z p (Ok n) read = read-piece s t at r r1 z read.0 0 p read.1
  read-kept s t at r r1 z p (Err (Config error)) read = absurd read
  read-kept s t at r r1 z p (Err (Read error)) read = read-piece s t at r r1 z [] 1 p read
  read-kept s t at r r1 z p (Err (Write error)) read = absurd read
  read-kept s t at r r1 z p (Err WriteZero) read = absurd read
  read-kept s t at r r1 z p (Err Memory) read = absurd read
  read-kept s t at r r1 z p (Err Position) read = read-piece s t at r r1 z read.0 0 p read.1

  -- closing a search keeps what holds after a read
  pub closing : (t v : StreamProgress q) (at : ℕ) (r : Watched R) (z : Z) → v ≡ closed_by t → IsOnCourse v
      → HasReadOn h q remaining b r0 z0 t at r z → HasReadOn h q remaining b r0 z0 v at r z
  closing t v at r z is course o =
      subst (λ u. IsOnCourse u → HasReadOn h q remaining b r0 z0 u at r z) (sym is)
      (λ on. record {
        built = o.built;
        placed =
            record {
              course = on;
              countable = o.placed.countable;
              held = o.placed.held;
              cut = o.placed.cut;
              lies = o.placed.lies;
            };
        read = o.read;
        came = o.came;
        chain = o.chain;
        ready = o.ready;
      })
      course

  -- the sink stopped
  pub stopped-on : (t u : StreamProgress q) (at : ℕ) (r : Watched R) (z last : Z)
      → HasReadOn h q remaining b r0 z0 t at r z → (error : StreamError) → StopsPassing h t u at z error last
      → Pumps h q remaining b r0 r z0 last (Err error)
  stopped-on t u at r z last o error (same, stop) = (
    t.pieces,
    0,
    o.read,
    pieces-fit b o.built o.placed.course,
    inl (
      refl,
      record {
        cut = at;
        done = t.given;
        mid = z;
        came = o.came;
        stops = subst (λ c. StopsFrom h q c (read_by t) at t.given z error last) o.built stop;
      },
    ),
  )

  module _ (t u : StreamProgress q) (at to : ℕ) (r : Watched R) (z y : Z)
      (o : HasReadOn h q remaining b r0 z0 t at r z) (goes : PassesItems h t u at to z y) where
    same-pieces : read_by u ≡ read_by t
    same-pieces = ap concat goes.same.pieces

    pub built-on : u.built ≡ b
    built-on = goes.same.built ∙ o.built

    given-on : HasGiven remaining r0 r u.pieces 0
    given-on = subst (λ ps. HasGiven remaining r0 r ps 0) (sym goes.same.pieces) o.read

    -- the chain up to the place
    chain-on : IsSinkChain h q (read_by u) 0 u.given to z0 y
    chain-on =
        subst (λ x. IsSinkChain h q x 0 u.given to z0 y) (sym same-pieces)
        (subst (λ os. IsSinkChain h q (read_by t) 0 os to z0 y) (sym goes.given)
        (chain-then lawful q (length t.built.dictionary.patterns) (read_by t) 0 at to t.given goes.more z0 z y
        (λ e. (o.placed.lies e, omega arith, begins-by _ _ _ goes.more goes.on (goes.lies e))) o.chain goes.chain))

    -- all that is decided was passed
    pub pumped-on : AreFilled t.pieces → t.closed ≡ false → IsAtCut u to → h.settled y
        → HasPumped h q remaining b r0 z0 u to r y
    pumped-on filled unclosed place settled = record {
      built = built-on;
      unclosed = goes.same.closed ∙ unclosed;
      place = place;
      filled = subst AreFilled (sym goes.same.pieces) filled;
      read = given-on;
      chain = chain-on;
      settled = settled;
      ready = goes.ready (length b.dictionary.patterns) o.ready;
    }

    module _ (whole : AreWhole t.pieces) (all : u.given ≡ items_of q u.built.dictionary (read_by u)) (last : Z)
        (bytes : List ℕ) (is : bytes ≡ bytes_between q (read_by u) to (length (read_by u))) where
      within-on : to ≤ length (read_by u)
      within-on = let cut = goes.placed.cut in let inside = cut-within goes.placed.course in omega arith

      -- the rest was taken
      rest-taken : h.takes y bytes last → h.settled last → Pumps h q remaining b r0 r z0 last (Ok tt)
      rest-taken takes settled =
          let x = read_by u in (
            u.pieces,
            0,
            given-on,
            pieces-fit b built-on goes.placed.course,
            (
              refl,
              record {
                whole = subst AreWhole (sym goes.same.pieces) whole;
                chain = subst (λ os. IsSinkChain h q x 0 os (length x) z0 last)
                    (append-nil u.given ∙ all ∙ ap (λ c. items_of q c.dictionary x) built-on)
                    (chain-then lawful q (length u.built.dictionary.patterns) x 0 to (length x) u.given [] z0 y last
                    (λ e. (goes.placed.lies e, omega arith, within-on)) chain-on
                    (subst (λ xs. h.takes y xs last) is takes));
                settled = settled;
              },
            ),
          )

      -- the sink stopped at the rest
      rest-stopped : (error : StreamError) → h.stops y bytes error last
          → Pumps h q remaining b r0 r z0 last (Err error)
      rest-stopped error stops =
          let inside = within-on in
          let long : length (read_by u) ≡ length (read_by t) = ap length same-pieces in
          stopped-on t u at r z last o error (
            goes.same,
            record {
              more = goes.more;
              rest = [];
              all = ap (λ c. items_of q c.dictionary (read_by t)) (sym goes.same.built)
                  ∙ ap (items_of q u.built.dictionary) (sym same-pieces) ∙ sym all ∙ goes.given
                  ∙ ap (λ os. t.given ++ os) (sym (append-nil goes.more));
              at = to;
              on = goes.on;
              lies = goes.lies;
              there = y;
              chain = goes.chain;
              stop = inl (record {
                end = length (read_by t);
                order = (omega arith, omega arith);
                later = All-from_recursion (λ (i : Occurrence). length (read_by t) ≤ place_of q i) [] tt;
                stopped = subst (λ w. h.stops y (bytes_between q w to (length w)) error last) same-pieces
                    (subst (λ xs. h.stops y xs error last) is stops);
              });
            },
          )

      pub rest-answered : (result : Result (Unit {0}) StreamError) → AnswersTake h y bytes last result
          → Pumps h q remaining b r0 r z0 last result
      rest-answered (Ok done) takes = rest-taken takes.0 takes.1
      rest-answered (Err error) stops = rest-stopped error stops

-- ---- what was read and counted

-- a fact that holds anyway holds of a result that is `Ok`
on-ok : {P : Type 0} (result : Result (Unit {0}) StreamError) → P → OnOk result P
on-ok (Ok done) p = p
on-ok (Err error) p = tt

-- what a search has read and counted that has read nothing since a read
pub searched-since : {q : Sequence} {R : Type 0} (s t u : StreamProgress q) (r0 r1 : Watched R) (before after : Steps)
    (error : StreamError) → (t.built ≡ s.built) × (r1.pieces.items ≡ r0.pieces.items ++ t.pieces) → ReadsNothing t u
    → StreamCounts s u before after → IsOnCourse u → HasSearched s u r0 r1 before after (Err error)
searched-since s t u r0 r1 before after error kept same counts course = record {
  built = same.built ∙ kept.0;
  read = kept.1 ∙ ap (λ ps. r0.pieces.items ++ ps) (sym same.pieces);
  counts = counts;
  course = course;
  searched = tt;
}

-- the same where all of it was searched
pub searched-all : {q : Sequence} {R : Type 0} (s t u : StreamProgress q) (r0 r1 : Watched R) (before after : Steps)
    (result : Result (Unit {0}) StreamError) → (t.built ≡ s.built) × (r1.pieces.items ≡ r0.pieces.items ++ t.pieces)
    → ReadsNothing t u → StreamCounts s u before after → IsOnCourse u → IsSearched u
    → HasSearched s u r0 r1 before after result
searched-all s t u r0 r1 before after result kept same counts course all = record {
  built = same.built ∙ kept.0;
  read = kept.1 ∙ ap (λ ps. r0.pieces.items ++ ps) (sym same.pieces);
  counts = counts;
  course = course;
  searched = on-ok result all;
}
