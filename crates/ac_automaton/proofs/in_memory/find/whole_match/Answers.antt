-- The first entry that counts is the match.
use Rattle.std.proofs.Common.{◌∙◌, sym, ap, Some, arith}
use Rattle.std.proofs.lemmas.Grind.{common_steps}
use Rattle.ac_automaton.proofs.in_memory.find.TakenLemmas.{taken-here, taken-next}
use Rattle.ac_automaton.proofs.in_memory.find.whole_match.Goals as goal

pub returns-then-pattern_len-span : goal.returns-then-pattern_len-span
returns-then-pattern_len-span g c =
    ap Some c.new.ensures
    ∙ taken-here (g.A.Automaton.built c.args.automaton.now).dictionary
    (g.A.Automaton.matches c.args.automaton.now c.args.sid) c.loop-index.index
    c.requires.ordered c.loop-index.invariant c.match_pattern-pattern.ensures.value
    (sym c.pattern_len.ensures ∙ c.if-pattern_len-span.true)

pub loop-index-preserved : goal.loop-index-preserved
loop-index-preserved g c =
    taken-next (g.A.Automaton.built c.args.automaton.now).dictionary
    (g.A.Automaton.matches c.args.automaton.now c.args.sid) c.loop-index.index
    c.loop-index.invariant c.match_pattern-pattern.ensures.value
    (λ e. c.if-pattern_len-span.false (c.pattern_len.ensures ∙ e))

pub returns : goal.returns
returns g c = grind (arith, common_steps)

pub match_len-index-end-requires-clause-valid : goal.match_len-index-end-requires-clause-valid
match_len-index-end-requires-clause-valid g c = grind (arith, common_steps)

pub match_pattern-pattern-requires-clause-valid : goal.match_pattern-pattern-requires-clause-valid
match_pattern-pattern-requires-clause-valid g c = grind (arith, common_steps)
