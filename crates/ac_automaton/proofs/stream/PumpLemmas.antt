-- How a stream is pumped: item by item, up to the cut, from one read to the next, and to its end.
use Rattle.std.proofs.Common.{◌≡◌, inl, inr, ℕ, ◌-◌, ◌<◌, ◌≤◌, List, [], ◌∷◌, ◌++◌, length, Some, None, refl, sym, ap, ◌∙◌, subst, arith, append_assoc}
use Rattle.std.specs.List.{concat}
use Rattle.std.proofs.lemmas.List.{append-nil, length-append}
use Rattle.ac_input.specs.Occurrence.{Occurrence}
use Rattle.ac_automaton.specs.InMemory.Replace.{LieInOrder}
use Rattle.ac_automaton.specs.Stream.{AllWords, AreAllGiven, FindsHeld, IsOnCourse, LieApart, Occurrences, Picks, Sequence, StreamProgress, Words, cut_of, items_of, place_of, read_by}
use Rattle.ac_automaton.specs.Stream.Pump.{Handling, IsSinkChain, LiesHeld, PassesItems, StaysReady, StopsFrom, StopsPassing, bytes_between}
use Rattle.ac_automaton.specs.Stream.Replace.{IsPlaced}
use Rattle.ac_automaton.specs.declared.error.StreamError.{StreamError}
use Rattle.ac_automaton.proofs.stream.PlacedLemmas.{ReadsNothing-then, all-later, cut-placed, cut-within, item-behind, item-placed, match-behind, next-left, none-placed, nothing-read, rest-left}
use Rattle.ac_automaton.proofs.stream.SinkChainLemmas.{begin_of, IsLawful, chain-none, chain-then}

-- ---- items in order

-- items that lie in order, and further ones behind them
lies-join : (patterns at mid to : ℕ) (os more : List Occurrence) → mid ≤ to → at ≤ mid → LieInOrder patterns mid at os
    → LieInOrder patterns to mid more → LieInOrder patterns to at (os ++ more)
lies-join patterns at mid to [] [] le from one two = tt
lies-join patterns at mid to [] (o ∷ more) le from one two = let start = two.1 in
    (two.0, omega arith, two.2, two.3, two.4)
lies-join patterns at mid to (o ∷ os) more le from one two =
    let end = one.3 in (one.0, one.1, one.2, omega arith, lies-join patterns o.end mid to os more le one.3 one.4 two)

-- the first of some items begins where the ones before it end, or later
pub begins-by : (patterns to mid : ℕ) (more : List Occurrence) → mid ≤ to → LieInOrder patterns to mid more
    → mid ≤ begin_of more to
begins-by patterns to mid [] le lies = le
begins-by patterns to mid (o ∷ more) le lies = lies.1

-- ---- one item after another

-- the bytes between two places of what is held may be lent
pub item-held : {q : Sequence} (s t : StreamProgress q) (o : Occurrence) (course : IsOnCourse t)
    (finds : FindsHeld s (Some o) t) (at : ℕ) → IsPlaced s at → LieApart q
    → LiesHeld t at o.start × LiesHeld t o.start o.end
item-held s t o course finds at placed is =
    let found = finds.4 in
    let some : o.start < o.end = found.some in
    let within : o.end ≤ length (read_by s) = found.within in
    let behind = match-behind s t o course finds at placed is in
    let from : t.from ≡ s.from = finds.0.from in
    let held : s.from ≤ at = placed.held in
    let read : length (read_by t) ≡ length (read_by s) = ap (λ pieces. length (concat pieces)) finds.0.pieces in (
      record { held = omega arith; order = behind; within = omega arith },
      record { held = omega arith; order = omega arith; within = omega arith },
    )

module _ {Z : Type 0} {h : Handling Z} (lawful : IsLawful h) {q : Sequence} where
  module _ (s t : StreamProgress q) (o : Occurrence) (course : IsOnCourse t) (finds : FindsHeld s (Some o) t) (at : ℕ)
      (placed : IsPlaced s at) (before matched : List ℕ) (is_before : before ≡ bytes_between q (read_by t) at o.start)
      (is_matched : matched ≡ bytes_between q (read_by t) o.start o.end) where
    -- the bytes are those of what was read before
    of-before : before ≡ bytes_between q (read_by s) at o.start
    of-before = is_before ∙ ap (λ pieces. bytes_between q (concat pieces) at o.start) finds.0.pieces

    of-matched : matched ≡ bytes_between q (read_by s) o.start o.end
    of-matched = is_matched ∙ ap (λ pieces. bytes_between q (concat pieces) o.start o.end) finds.0.pieces

    -- the item was passed
    pub item-passed : (z last : Z) → h.passes z before o matched last → StaysReady h z last
        → PassesItems h s t at o.end z last × (length s.given < length t.given)
    item-passed z last passes ready =
        let found = finds.4 in
        let some : o.start < o.end = found.some in
        let there = item-placed s t o course finds at placed in
        let behind = item-behind s t o course finds at placed in
        let long = ap length finds.1 ∙ length-append s.given (o ∷ []) in (
          record {
            same = finds.0;
            placed = there;
            on = ends-later;
            more = o ∷ [];
            given = finds.1;
            lies = λ e. (found.pattern, match-behind s t o course finds at placed e, omega arith, omega arith, tt);
            chain = (
              last,
              subst (λ bytes. h.passes z bytes o (bytes_between q (read_by s) o.start o.end) last) of-before
                  (subst (λ bytes. h.passes z before o bytes last) of-matched passes),
              chain-none lawful q (read_by s) o.end last,
            );
            ready = ready;
          },
          omega arith,
        )
      where
        ends-later : at ≤ o.end
        ends-later = let some = finds.4.some in
            by q (place_of q o) refl (item-behind s t o course finds at placed) some
          where
            by : (p : Sequence) (place : ℕ) → place ≡ place_of p o → at ≤ place → o.start < o.end → at ≤ o.end
            by Picks place is le some = omega arith
            by Occurrences place is le some = omega arith
            by Words place is le some = omega arith
            by AllWords place is le some = omega arith

    -- the sink stopped at the item
    pub item-refused : (z last : Z) (error : StreamError) → h.refuses z before o matched error last
        → StopsPassing h s t at z error last
    item-refused z last error refuses =
        let next = next-left s t o course finds in (
          finds.0,
          record {
            more = [];
            rest = o ∷ next.0;
            all = next.1;
            at = at;
            on = omega arith;
            lies = λ e. tt;
            there = z;
            chain = chain-none lawful q (read_by s) at z;
            stop = inr (record {
              found = o;
              others = next.0;
              first = refl;
              order = match-behind s t o course finds at placed;
              refused = subst (λ bytes. h.refuses z bytes o (bytes_between q (read_by s) o.start o.end) error last)
                  of-before (subst (λ bytes. h.refuses z before o bytes error last) of-matched refuses);
            });
          },
        )

  -- there is no further item of what was read
  pub none-passed : (s t : StreamProgress q) (at : ℕ) (z : Z) → IsPlaced s at → IsOnCourse t → FindsHeld s None t
      → PassesItems h s t at at z z × AreAllGiven t
  none-passed s t at z placed course finds = (
    record {
      same = finds.0;
      placed = none-placed placed course finds;
      on = omega arith;
      more = [];
      given = finds.1 ∙ sym (append-nil s.given);
      lies = λ e. tt;
      chain = chain-none lawful q (read_by s) at z;
      ready = λ patterns ready. ready;
    },
    finds.2 placed.countable,
  )

  -- nothing was passed yet
  pub PassesItems-none : (s : StreamProgress q) (at : ℕ) (z : Z) → IsPlaced s at → PassesItems h s s at at z z
  PassesItems-none s at z placed = record {
    same = nothing-read s;
    placed = placed;
    on = omega arith;
    more = [];
    given = sym (append-nil s.given);
    lies = λ e. tt;
    chain = chain-none lawful q (read_by s) at z;
    ready = λ patterns ready. ready;
  }

  module _ (s t u : StreamProgress q) (from mid : ℕ) (z y last : Z) (a : PassesItems h s t from mid z y) where
    -- the patterns are the same
    same-patterns : length t.built.dictionary.patterns ≡ length s.built.dictionary.patterns
    same-patterns = ap (λ b. length b.dictionary.patterns) a.same.built

    same-read : read_by t ≡ read_by s
    same-read = ap concat a.same.pieces

    pub PassesItems-then : (to : ℕ) → PassesItems h t u mid to y last → PassesItems h s u from to z last
    PassesItems-then to b =
        let behind = λ (e : LieApart q).
        subst (λ n. LieInOrder n to mid b.more) same-patterns (b.lies e) in
        record {
          same = ReadsNothing-then s t u a.same b.same;
          placed = b.placed;
          on = let one = a.on in let two = b.on in omega arith;
          more = a.more ++ b.more;
          given = b.given ∙ ap (λ os. os ++ b.more) a.given ∙ append_assoc s.given a.more b.more;
          lies = λ e. lies-join _ _ _ _ a.more b.more b.on a.on (a.lies e) (behind e);
          chain = chain-then lawful q (length s.built.dictionary.patterns) (read_by s) from mid _ a.more b.more z y _
              (λ e. (a.lies e, a.on, begins-by _ _ _ b.more b.on (behind e))) a.chain
              (subst (λ x. IsSinkChain h q x mid b.more to y last) same-read b.chain);
          ready = λ patterns ready. b.ready patterns (a.ready patterns ready);
        }

    pub StopsPassing-then : (error : StreamError) → StopsPassing h t u mid y error last
        → StopsPassing h s u from z error last
    StopsPassing-then error (same, stop) =
        let b = subst (λ c. StopsFrom h q c (read_by s) mid t.given y error last) a.same.built
        (subst (λ x. StopsFrom h q t.built x mid t.given y error last) same-read stop) in (
          ReadsNothing-then s t u a.same same,
          record {
            more = a.more ++ b.more;
            rest = b.rest;
            all = b.all ∙ ap (λ os. os ++ (b.more ++ b.rest)) a.given
                ∙ append_assoc s.given a.more (b.more ++ b.rest)
                ∙ ap (λ os. s.given ++ os) (sym (append_assoc a.more b.more b.rest));
            at = b.at;
            on = let one = a.on in let two = b.on in omega arith;
            lies = λ e. lies-join _ _ _ _ a.more b.more b.on a.on (a.lies e) (b.lies e);
            there = b.there;
            chain = chain-then lawful q (length s.built.dictionary.patterns) (read_by s) from mid _ a.more b.more z y _
                (λ e. (a.lies e, a.on, begins-by _ _ _ b.more b.on (b.lies e))) a.chain b.chain;
            stop = b.stop;
          },
        )

  -- once items were passed, fewer are left
  pub fewer-left : (s t : StreamProgress q) (from to : ℕ) (z last : Z) → PassesItems h s t from to z last
      → length s.given < length t.given
      → length (items_of q t.built.dictionary (read_by t)) - length t.given
      < length (items_of q s.built.dictionary (read_by s)) - length s.given
  fewer-left s t from to z last passed more =
      let begun = passed.placed.course.begun in
      let long = ap length begun.1 ∙ length-append t.given begun.0 in
      let read : length (items_of q t.built.dictionary (read_by t)) ≡ length (items_of q s.built.dictionary
      (read_by s)) =
      ap (λ b. length (items_of q b.dictionary (read_by t))) passed.same.built
      ∙ ap (λ pieces. length (items_of q s.built.dictionary (concat pieces))) passed.same.pieces in
      omega arith

  -- ---- up to the cut

  module _ (s : StreamProgress q) (at cut : ℕ) (z last : Z) (bytes : List ℕ) (placed : IsPlaced s at)
      (is : cut ≡ cut_of s) (plain : bytes ≡ bytes_between q (read_by s) at cut) where
    -- the text before the cut was taken
    pub cut-passed : h.takes z bytes last → StaysReady h z last → PassesItems h s s at cut z last
    cut-passed takes ready = record {
      same = nothing-read s;
      placed = cut-placed s at cut placed is;
      on = let le = placed.cut in omega arith;
      more = [];
      given = sym (append-nil s.given);
      lies = λ e. tt;
      chain = subst (λ xs. h.takes z xs last) plain takes;
      ready = ready;
    }

    -- the sink stopped at the text before the cut
    pub cut-stopped : (error : StreamError) → h.stops z bytes error last → StopsPassing h s s at z error last
    cut-stopped error stops =
        let left = rest-left placed.course in
        let le = placed.cut in
        let within = cut-within placed.course in (
          nothing-read s,
          record {
            more = [];
            rest = left.0;
            all = left.1;
            at = at;
            on = omega arith;
            lies = λ e. tt;
            there = z;
            chain = chain-none lawful q (read_by s) at z;
            stop = inl (record {
              end = cut;
              order = (omega arith, omega arith);
              later = all-later q _ _ left.0 (omega arith) left.2;
              stopped = subst (λ xs. h.stops z xs error last) plain stops;
            });
          },
        )
