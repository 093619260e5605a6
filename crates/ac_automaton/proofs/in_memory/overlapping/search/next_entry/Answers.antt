-- The first entry that counts is returned, or none where no entry counts.
use Rattle.std.proofs.Common.{length, sym, ap, ◌∙◌, arith, true≢false}
use Rattle.std.proofs.lemmas.Grind.{common_steps}
use Rattle.ac_input.specs.Input.{is_anchored}
use Rattle.ac_automaton.proofs.in_memory.overlapping.OverlappingLemmas.{nil_or_not, counted-here, counted-skip, counted-past}
use Rattle.ac_automaton.proofs.in_memory.overlapping.search.next_entry.Goals as goal

pub returns : goal.returns
returns g c =
    c.loop-index.invariant
    ∙ counted-past (g.A.Automaton.built c.args.automaton.now).dictionary (is_anchored c.args.anchored) c.args.read
    (g.A.Automaton.matches c.args.automaton.now c.args.sid) c.loop-index.index (omega arith)

pub loop-index-preserved : goal.loop-index-preserved
loop-index-preserved g c =
    c.loop-index.invariant
    ∙ counted-skip (g.A.Automaton.built c.args.automaton.now).dictionary (is_anchored c.args.anchored) c.args.read
    (g.A.Automaton.matches c.args.automaton.now c.args.sid) c.loop-index.index c.match_pattern-pattern.result
    c.match_pattern-pattern.ensures.value (sym c.is_counted.ensures ∙ c.if-is_counted.false)

pub returns-then-is_counted : goal.returns-then-is_counted
returns-then-is_counted g c = (
  c.loop-index.invariant
      ∙ counted-here (g.A.Automaton.built c.args.automaton.now).dictionary (is_anchored c.args.anchored) c.args.read
      (g.A.Automaton.matches c.args.automaton.now c.args.sid) c.loop-index.index c.match_pattern-pattern.result
      c.match_pattern-pattern.ensures.value (sym c.is_counted.ensures ∙ c.if-is_counted.true),
  c.match_pattern-pattern.ensures.known,
)

pub returns-then-not-is_match : goal.returns-then-not-is_match
returns-then-not-is_match g c =
    let ns = g.A.Automaton.matches c.args.automaton.now c.args.sid in
    let none = nil_or_not ns (λ some. true≢false (sym (c.is_match.ensures.1 some) ∙ c.if-not-is_match.true)) in
    counted-past (g.A.Automaton.built c.args.automaton.now).dictionary (is_anchored c.args.anchored) c.args.read ns
    c.args.from (omega (arith, ap length none))

pub is_match-requires : goal.is_match-requires
is_match-requires g c = grind (arith, common_steps)

pub match_len-index-end-requires-clause-valid : goal.match_len-index-end-requires-clause-valid
match_len-index-end-requires-clause-valid g c = grind (arith, common_steps)

pub match_pattern-pattern-requires-clause-valid : goal.match_pattern-pattern-requires-clause-valid
match_pattern-pattern-requires-clause-valid g c = grind (arith, common_steps)
