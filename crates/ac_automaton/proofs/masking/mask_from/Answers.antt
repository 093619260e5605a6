-- A walk reads on from match to match, and masks the longest pattern at each.
use Rattle.std.proofs.Common.{◌≡◌, ◌+◌, ◌-◌, ◌≤◌, false, ◌++◌, length, take, drop, get_or, [], None, refl, sym, ap, subst, ◌∙◌, arith, append-nil, length-drop}
use Rattle.std.proofs.lemmas.Grind.{common_steps}
use Rattle.std.proofs.lemmas.Bool.{false≢true}
use Rattle.std.proofs.lemmas.List.{take_all}
use Rattle.ac_input.specs.declared.search.Anchored.TheVariants.{No}
use Rattle.ac_automaton.specs.Ahead.{IsAhead, IsPaid}
use Rattle.ac_automaton.specs.Automaton.{IsReadCost, IsState, is_matching}
use Rattle.ac_automaton.specs.Masking.{masked_between, masked_in}
use Rattle.ac_automaton.specs.Skip.{ReadsPart}
use Rattle.ac_automaton.proofs.ahead.AheadLemmas.{ahead-fresh, ahead-over, matched-is}
use Rattle.ac_automaton.proofs.ahead.PartLemmas.{parts-join}
use Rattle.ac_automaton.proofs.automaton.PassLemmas.{matching-some}
use Rattle.ac_automaton.proofs.lemmas.CursorLemmas.{HasAdvanced, advanced-none, list-none, reached-on, reached-state}
use Rattle.ac_automaton.proofs.masking.BetweenLemmas.{between-length, between-rest}
use Rattle.ac_automaton.proofs.masking.MaskingLemmas.{ahead-stays, cost-settled, drop-later, held-matched, held-quiet, part-read, size-grown, text-grown}
use Rattle.ac_automaton.proofs.in_memory.overlapping.OverlappingAheadLemmas.{onward-stays}
use Rattle.ac_automaton.proofs.skip.ReadOnLemmas.{part-goes}
use Rattle.ac_automaton.proofs.masking.mask_from.Given.{Over}
use Rattle.ac_automaton.proofs.masking.mask_from.Goals as goal
use Rattle.ac_automaton.proofs.masking.mask_from.Goals.{After-is_match}

pub loop-read-init : goal.loop-read-init
loop-read-init g c = record {
  within = omega arith;
  len = refl;
  rest = refl;
  has = (
    c.args.steps.now,
    record { looked = refl; scanned = refl; moved = refl },
    advanced-none _ _ No _ c.args.sid _ c.args.steps.now,
  );
  ahead = ahead-fresh c.none-ahead.ensures.room c.none-ahead.ensures.none c.none-ahead.ensures.nothing;
  last = record { order = omega arith; within = omega arith; masked = λ i le lt. absurd (omega (arith, le, lt)) };
  masked = λ x base reads long held.
      let none : c.args.from + 0 ≡ c.args.from = omega arith in
      ap (λ n. take n c.args.bytes.now) none ∙ held
      ∙ ap (λ l. drop base (masked_in (g.A.Automaton.built c.args.automaton.now) c.args.mask l)) (sym (append-nil x));
}

pub advance_to_match-stop-requires-clause-reached : goal.advance_to_match-stop-requires-clause-reached
advance_to_match-stop-requires-clause-reached g c =
    reached-on (g.A.Automaton.Reaches c.args.automaton.now No) c.args.sid _ c.loop-read.current c.requires.reached
    c.loop-read.invariant.has.2.reads

-- a walk reaches the state where it stops
reached : (g : Over) (c : After-is_match g)
    → IsState (g.A.Automaton.Reaches c.args.automaton.now) c.advance_to_match-stop.result.sid
reached g c =
    let R = g.A.Automaton.Reaches c.args.automaton.now in
    reached-state R No c.advance_to_match-stop.result.sid
    (reached-on (R No) c.loop-read.current _ c.advance_to_match-stop.result.sid
    (reached-on (R No) c.args.sid _ c.loop-read.current c.requires.reached c.loop-read.invariant.has.2.reads)
    c.advance_to_match-stop.ensures.goes.reads)

pub is_match-requires : goal.is_match-requires
is_match-requires g c =
    let R = g.A.Automaton.Reaches c.args.automaton.now in
    let here =
    reached-on (R No) c.args.sid _ c.loop-read.current c.requires.reached c.loop-read.invariant.has.2.reads in
    reached-state R No c.advance_to_match-stop.result.sid
    (reached-on (R No) c.loop-read.current _ c.advance_to_match-stop.result.sid here
    c.advance_to_match-stop.ensures.goes.reads)

pub mask_longest-last-requires-clause-state : goal.mask_longest-last-requires-clause-state
mask_longest-last-requires-clause-state g c =
    reached g (goal.at.mask_longest-last-requires-clause-state g c).After-is_match

-- what was read so far, and the part up to the match
joined : (g : Over) (c : After-is_match g)
    → IsPaid c.none-ahead.result c.advance_to_match-stop.new.ahead c.advance_to_match-stop.new.steps
    (λ paid. ReadsPart (g.A.Automaton.built c.args.automaton.now) (g.A.Automaton.Reaches c.args.automaton.now) No
    (λ next. false) c.args.sid (drop c.args.from c.args.bytes.now)
    (record { sid = c.advance_to_match-stop.result.sid; taken = c.loop-read.read + c.advance_to_match-stop.result.taken })
    c.args.steps.now paid)
joined g c =
    let i = c.loop-read.invariant in
    let left = length-drop (c.args.from + c.loop-read.read) c.loop-read.bytes in
    let goes = c.advance_to_match-stop.ensures.goes in
    parts-join c.args.bytes.now c.args.from c.requires.reached (omega (arith, i.within, i.len)) i.has
    (part-read (g.A.Automaton.matches c.args.automaton.now) i.rest (omega (arith, left, c.loop-read-test.true)) goes c.advance_to_match-stop.ensures.cost)

-- it is known of the state after it as before
advanced : (g : Over) (c : After-is_match g)
    → IsPaid c.none-ahead.result c.advance_to_match-stop.new.ahead c.advance_to_match-stop.new.steps
    (λ paid. HasAdvanced (g.A.Automaton.built c.args.automaton.now) (g.A.Automaton.Reaches c.args.automaton.now) No
    (λ next. false) c.args.sid (drop c.args.from c.args.bytes.now)
    (c.loop-read.read + c.advance_to_match-stop.result.taken) c.advance_to_match-stop.result.sid c.args.steps.now paid)
advanced g c =
    let a = c.args.automaton.now in
    let all = joined g c in (
      all.0,
      all.1,
      part-goes (g.A.Automaton.built a) (g.A.Automaton.Reaches a) No (λ next. false) c.args.sid
          (drop c.args.from c.args.bytes.now) _ _ _ all.2 (λ e. false≢true e),
    )

-- what was read ahead of the bytes as the search has read them
ahead_here : (g : Over) (c : After-is_match g)
    → IsAhead (g.A.Automaton.built c.args.automaton.now) (g.A.Automaton.Reaches c.args.automaton.now No)
    (g.A.Automaton.matches c.args.automaton.now) None c.loop-read.bytes
    (c.args.from + (c.loop-read.read + c.advance_to_match-stop.result.taken)) c.advance_to_match-stop.result.sid
    c.advance_to_match-stop.new.ahead
ahead_here g c =
    let a = c.args.automaton.now in
    let b = g.A.Automaton.built a in
    let R = g.A.Automaton.Reaches a No in
    let M = g.A.Automaton.matches a in
    let stop = c.advance_to_match-stop in
    let at = c.args.from + c.loop-read.read + stop.result.taken in
    let there : at ≡ c.args.from + (c.loop-read.read + stop.result.taken) = omega arith in
    subst (λ n. IsAhead b R M None c.loop-read.bytes n stop.result.sid stop.new.ahead) there
    (subst (λ s. IsAhead b R M None c.loop-read.bytes at s stop.new.ahead) (onward-stays M stop.result.sid)
    stop.ensures.ahead)

pub loop-read-preserved-then-is_match : goal.loop-read-preserved-then-is_match
loop-read-preserved-then-is_match g c =
    let before = (goal.at.loop-read-preserved-then-is_match g c).After-is_match in
    let a = c.args.automaton.now in
    let b = g.A.Automaton.built a in
    let R = g.A.Automaton.Reaches a No in
    let M = g.A.Automaton.matches a in
    let i = c.loop-read.invariant in
    let stop = c.advance_to_match-stop in
    let old = c.args.bytes.now in
    let now = c.loop-read.bytes in
    let from = c.args.from in
    let read = c.loop-read.read in
    let taken = stop.result.taken in
    let left = length-drop (from + read) now in
    let fits = stop.ensures.goes.taken.0 in
    let longest = c.mask_longest-last.ensures.masked in
    let len = length (get_or b.dictionary.patterns longest.pattern []) in
    let to = from + (read + taken) in
    let there : from + read + taken ≡ to = omega arith in
    let within : from + read + taken ≤ length now = omega (arith, fits, left, c.loop-read-test.true) in
    let long = ap length longest.masked ∙ between-length c.args.mask now (to - len) to (omega arith) (omega (arith, within)) in
    let same = ap (drop to) longest.masked ∙ between-rest c.args.mask now (to - len) to (omega arith) (omega (arith, within))
    in
    record {
      within = omega (arith, within, long);
      len = long ∙ i.len;
      rest = same ∙ drop-later to now old (omega arith) i.rest;
      has = advanced g before;
      ahead = ahead-stays now c.mask_longest-last.new.bytes c.requires.standard same long (ahead_here g before);
      last = c.mask_longest-last.ensures.last;
      masked = λ x base reads size held.
          let X = x ++ take read (drop from old) in
          let here = i.masked x base reads size held in
          ap (take to) longest.masked
          ∙ subst (λ n. take n (masked_between c.args.mask now (n - len) n)
          ≡ drop base (masked_in b c.args.mask (X ++ take taken (drop (from + read) now)))) there
          (held-matched b R M c.requires.standard (g.met.A.Automaton.tells a No) c.args.mask X base now (from + read) taken
          (i.has.2.reads x reads) (size-grown x old from read base size (omega (arith, i.within, i.len))) here within
          stop.ensures.goes.reads stop.ensures.goes.plain longest.pattern longest.first)
          ∙ ap (λ l. drop base (masked_in b c.args.mask l)) (text-grown x now old from read taken i.rest);
    }

pub loop-read-preserved : goal.loop-read-preserved
loop-read-preserved g c =
    let before = (goal.at.loop-read-preserved g c).After-is_match in
    let a = c.args.automaton.now in
    let b = g.A.Automaton.built a in
    let R = g.A.Automaton.Reaches a No in
    let M = g.A.Automaton.matches a in
    let i = c.loop-read.invariant in
    let stop = c.advance_to_match-stop in
    let old = c.args.bytes.now in
    let now = c.loop-read.bytes in
    let from = c.args.from in
    let read = c.loop-read.read in
    let taken = stop.result.taken in
    let left = length-drop (from + read) now in
    let fits = stop.ensures.goes.taken.0 in
    let there : from + read + taken ≡ from + (read + taken) = omega arith in
    let within : from + read + taken ≤ length now = omega (arith, fits, left, c.loop-read-test.true) in
    let quiet : is_matching M stop.result.sid ≡ false =
    sym (matched-is M c.is_match.result c.is_match.ensures) ∙ c.if-is_match.false in
    record {
      within = omega (arith, within);
      len = i.len;
      rest = drop-later (from + (read + taken)) now old (omega arith) i.rest;
      has = advanced g before;
      ahead = ahead_here g before;
      last = record { order = i.last.order; within = omega (arith, i.last.within); masked = i.last.masked };
      masked = λ x base reads size held.
          let X = x ++ take read (drop from old) in
          let here = i.masked x base reads size held in
          subst (λ n. take n now ≡ drop base (masked_in b c.args.mask (x ++ take (read + taken) (drop from old)))) there
          (held-quiet b R M c.requires.standard (g.met.A.Automaton.tells a No) c.args.mask X base now (from + read) taken
          (i.has.2.reads x reads) (size-grown x old from read base size (omega (arith, i.within, i.len))) here within
          stop.ensures.goes.reads stop.ensures.goes.plain
          (list-none (M stop.result.sid) (λ some. false≢true (sym quiet ∙ matching-some (M stop.result.sid) some)))
          ∙ ap (λ l. drop base (masked_in b c.args.mask l)) (text-grown x now old from read taken i.rest));
    }

pub returns-clause-cost : goal.returns-clause-cost
returns-clause-cost g c =
    let a = c.args.automaton.now in
    let i = c.loop-read.invariant in
    let old = c.args.bytes.now in
    let size = length-drop c.args.from old in
    let all : c.args.from + c.loop-read.read ≡ length c.loop-read.bytes =
    omega (arith, c.loop-read-test.false, i.within, i.len, c.requires.within) in
    let over = ahead-over c.requires.standard all i.ahead in
    subst (λ l. IsReadCost (g.A.Automaton.built a) (g.A.Automaton.Reaches a) No c.args.sid l c.args.steps.now c.loop-read.steps)
    (take_all c.loop-read.read (drop c.args.from old) (omega (arith, size, all, i.len)))
    (cost-settled (g.A.Automaton.built a) (g.A.Automaton.Reaches a) c.args.sid c.none-ahead.ensures.nothing over.1 i.has.1
    i.has.2.cost)

pub loop-read-smaller : goal.loop-read-smaller
loop-read-smaller g c = grind (arith, common_steps)

pub loop-read-smaller-then-is_match : goal.loop-read-smaller-then-is_match
loop-read-smaller-then-is_match g c = grind (arith, common_steps)

pub mask_longest-last-requires-clause-within : goal.mask_longest-last-requires-clause-within
mask_longest-last-requires-clause-within g c = grind (arith, common_steps)

pub overflow_add-from-then-is_match : goal.overflow_add-from-then-is_match
overflow_add-from-then-is_match g c = grind (arith, common_steps)

pub overflow_add-read : goal.overflow_add-read
overflow_add-read g c = grind (arith, common_steps)

pub returns-clause-masks : goal.returns-clause-masks
returns-clause-masks g c = grind (arith, common_steps)

pub overflow_sub-bytes : goal.overflow_sub-bytes
overflow_sub-bytes g c = grind (arith, common_steps)

pub overflow_add-from : goal.overflow_add-from
overflow_add-from g c = grind (arith, common_steps)

pub advance_to_match-stop-requires-clause-ahead : goal.advance_to_match-stop-requires-clause-ahead
advance_to_match-stop-requires-clause-ahead g c = grind (arith, common_steps)

pub mask_longest-last-requires-clause-matches : goal.mask_longest-last-requires-clause-matches
mask_longest-last-requires-clause-matches g c = grind (arith, common_steps)

pub mask_longest-last-requires-clause-last : goal.mask_longest-last-requires-clause-last
mask_longest-last-requires-clause-last g c = grind (arith, common_steps)
