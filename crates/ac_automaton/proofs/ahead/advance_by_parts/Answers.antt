-- One part of the bytes is read after another, up to the first state that matches.
use Rattle.std.proofs.Common.{◌≡◌, ◌+◌, drop, sym, subst, refl, ◌∙◌, false, arith, length-drop}
use Rattle.std.proofs.lemmas.Grind.{common_steps}
use Rattle.std.proofs.lemmas.Bool.{false≢true}
use Rattle.ac_input.specs.declared.search.Anchored.TheVariants.{No}
use Rattle.ac_automaton.specs.Ahead.{IsAhead}
use Rattle.ac_automaton.specs.Automaton.{is_matching}
use Rattle.ac_automaton.proofs.ahead.AheadLemmas.{ahead-end, ahead-noticed, matched-is, paid-noticed}
use Rattle.ac_automaton.proofs.ahead.PartLemmas.{parts-join}
use Rattle.ac_automaton.proofs.lemmas.CursorLemmas.{advanced-none, reached-on, reached-state}
use Rattle.ac_automaton.proofs.automaton.PassLemmas.{matching-some}
use Rattle.ac_automaton.proofs.skip.ReadOnLemmas.{part-goes, part-stops}
use Rattle.ac_automaton.proofs.ahead.advance_by_parts.Goals as goal

pub loop-read-init : goal.loop-read-init
loop-read-init g c = record {
  within = omega arith;
  has = (
    c.args.steps.now,
    record { looked = refl; scanned = refl; moved = refl },
    advanced-none _ _ No _ c.args.sid _ c.args.steps.now,
  );
  ahead = subst
      (λ n. IsAhead (g.A.Automaton.built c.args.automaton.now) (g.A.Automaton.Reaches c.args.automaton.now No)
      (g.A.Automaton.matches c.args.automaton.now) c.args.anew.now c.args.bytes.now n c.args.sid c.args.ahead.now)
      (let e : c.args.from ≡ c.args.from + 0 = omega arith in e) c.requires.ahead;
  once = omega arith;
}

pub read_part-stop-requires-clause-reached : goal.read_part-stop-requires-clause-reached
read_part-stop-requires-clause-reached g c =
    reached-on (g.A.Automaton.Reaches c.args.automaton.now No) c.args.sid _ c.loop-read.current c.requires.reached
    c.loop-read.invariant.has.2.reads

pub is_match-requires : goal.is_match-requires
is_match-requires g c =
    let R = g.A.Automaton.Reaches c.args.automaton.now in
    let here =
    reached-on (R No) c.args.sid _ c.loop-read.current c.requires.reached c.loop-read.invariant.has.2.reads in
    reached-state R No c.read_part-stop.result.sid
    (reached-on (R No) c.loop-read.current _ c.read_part-stop.result.sid here c.read_part-stop.ensures.reads.2.reads)

pub returns-then-is_match-clause-goes : goal.returns-then-is_match-clause-goes
returns-then-is_match-clause-goes g c =
    let a = c.args.automaton.now in
    let joins = parts-join c.args.bytes.now c.args.from c.requires.reached c.loop-read.invariant.within
    c.loop-read.invariant.has c.read_part-stop.ensures.reads in
    part-stops (g.A.Automaton.built a) (g.A.Automaton.Reaches a) No (is_matching (g.A.Automaton.matches a)) c.args.sid
    (drop c.args.from c.args.bytes.now) _ _ _ joins.2
    (matching-some (g.A.Automaton.matches a c.read_part-stop.result.sid) (c.is_match.ensures.0 c.if-is_match.true))

pub returns-then-is_match-clause-cost : goal.returns-then-is_match-clause-cost
returns-then-is_match-clause-cost g c =
    let joins = parts-join c.args.bytes.now c.args.from c.requires.reached c.loop-read.invariant.within
    c.loop-read.invariant.has c.read_part-stop.ensures.reads in
    (joins.0, paid-noticed _ joins.1, joins.2.cost)

pub returns-then-is_match-clause-once : goal.returns-then-is_match-clause-once
returns-then-is_match-clause-once g c =
    omega (arith, c.read_part-stop.ensures.once, c.loop-read.invariant.once)

pub loop-read-preserved : goal.loop-read-preserved
loop-read-preserved g c =
    let a = c.args.automaton.now in
    let b = g.A.Automaton.built a in
    let R = g.A.Automaton.Reaches a in
    let M = g.A.Automaton.matches a in
    let stops = is_matching M in
    let left = length-drop c.args.from c.args.bytes.now in
    let joins = parts-join c.args.bytes.now c.args.from c.requires.reached c.loop-read.invariant.within
    c.loop-read.invariant.has c.read_part-stop.ensures.reads in
    let size = joins.2.within in
    let quiet : is_matching M c.read_part-stop.result.sid ≡ false =
    sym (matched-is M c.is_match.result c.is_match.ensures) ∙ c.if-is_match.false in
    let there : c.args.from + c.loop-read.read + c.read_part-stop.result.taken
    ≡ c.args.from + (c.loop-read.read + c.read_part-stop.result.taken) = omega arith in
    record {
      within = omega (arith, size, left);
      has = (
        joins.0,
        paid-noticed _ joins.1,
        part-goes b R No stops c.args.sid (drop c.args.from c.args.bytes.now) _ _ _ joins.2
            (λ e. false≢true (sym quiet ∙ e)),
      );
      ahead = ahead-noticed _
          (subst (λ n. IsAhead b (R No) M c.args.anew.now c.args.bytes.now n c.read_part-stop.result.sid
          c.read_part-stop.new.ahead) there (rw quiet at c.read_part-stop.ensures.ahead));
      once = omega (arith, c.read_part-stop.ensures.once, c.loop-read.invariant.once);
    }

pub returns-clause-ahead : goal.returns-clause-ahead
returns-clause-ahead g c =
    ahead-end (omega (arith, c.loop-read-test.false, c.loop-read.invariant.within, c.requires.within))
    c.loop-read.invariant.ahead

pub overflow_add-read : goal.overflow_add-read
overflow_add-read g c = grind (arith, common_steps)

pub returns-clause-goes : goal.returns-clause-goes
returns-clause-goes g c = grind (arith, common_steps)

pub overflow_sub-bytes : goal.overflow_sub-bytes
overflow_sub-bytes g c = grind (arith, common_steps)

pub overflow_add-from : goal.overflow_add-from
overflow_add-from g c = grind (arith, common_steps)

pub read_part-stop-requires-clause-begins : goal.read_part-stop-requires-clause-begins
read_part-stop-requires-clause-begins g c = grind (arith, common_steps)

pub read_part-stop-requires-clause-left : goal.read_part-stop-requires-clause-left
read_part-stop-requires-clause-left g c = grind (arith, common_steps)

pub read_part-stop-requires-clause-ahead : goal.read_part-stop-requires-clause-ahead
read_part-stop-requires-clause-ahead g c = grind (arith, common_steps)

pub returns-then-is_match-clause-ahead : goal.returns-then-is_match-clause-ahead
returns-then-is_match-clause-ahead g c = grind (arith, common_steps)

pub loop-read-smaller : goal.loop-read-smaller
loop-read-smaller g c = grind (arith, common_steps)

pub returns-clause-cost : goal.returns-clause-cost
returns-clause-cost g c = grind (arith, common_steps)

pub returns-clause-once : goal.returns-clause-once
returns-clause-once g c = grind (arith, common_steps)
