-- A turn finds an item of what was read, or reads once.
use Rattle.std.proofs.Common.{rules, subst, sym, ◌∙◌, arith}
use Rattle.std.proofs.lemmas.Grind.{common_steps}
use Rattle.ac_automaton.specs.Stream.{GoesOn, StreamCounts}
use Rattle.ac_automaton.proofs.stream.StreamIterLemmas.{turn-failed}
use Rattle.ac_automaton.proofs.stream.search_or_read.Given.{Over}
use Rattle.ac_automaton.proofs.stream.search_or_read.Goals as goal
use Rattle.ac_automaton.proofs.stream.search_or_read.Goals.{After-read_on}
use Rattle.ac_automaton.proofs.stream.StreamCountLemmas.{StreamCounts-then}

-- what the search and the read counted
counted : (g : Over) (c : After-read_on g)
    → GoesOn (g.S.ItemSearch.progress c.args.stream.now) (g.S.ItemSearch.progress c.read_on.new.self) c.args.steps.now
    c.read_on.new.steps
counted g c = (
  StreamCounts-then (g.S.ItemSearch.progress c.args.stream.now) (g.S.ItemSearch.progress c.next_held.new.self)
      (g.S.ItemSearch.progress c.read_on.new.self) c.args.steps.now c.next_held.new.steps c.read_on.new.steps
      c.next_held.ensures.goes.0 c.read_on.ensures.goes.0,
  c.read_on.ensures.goes.1,
)

pub returns-in-Ok-eq0-clause-goes : goal.returns-in-Ok-eq0-clause-goes
returns-in-Ok-eq0-clause-goes g c = (
  subst (λ t. StreamCounts (g.S.ItemSearch.progress c.args.stream.now) t c.args.steps.now c.read_on.new.steps)
      (sym c.close.ensures.closed)
      (counted g (goal.at.returns-in-Ok-eq0-clause-goes g c).After-read_on).0,
  c.close.ensures.kept,
)

pub returns-in-Ok-clause-goes : goal.returns-in-Ok-clause-goes
returns-in-Ok-clause-goes g c = counted g (goal.at.returns-in-Ok-clause-goes g c).After-read_on

pub returns-in-Err-clause-goes : goal.returns-in-Err-clause-goes
returns-in-Err-clause-goes g c = counted g (goal.at.returns-in-Err-clause-goes g c).After-read_on

pub returns-in-Err-clause-gives : goal.returns-in-Err-clause-gives
returns-in-Err-clause-gives g c =
    turn-failed g.R.Read.remaining (g.S.ItemSearch.progress c.args.stream.now)
    (g.S.ItemSearch.progress c.next_held.new.self) (g.S.ItemSearch.progress c.read_on.new.self) c.args.reader.now
    c.read_on.new.reader c.in-Err.error (search rules) (sym c.has_closed.ensures.closed ∙ c.if-has_closed.false)
    c.in_default.ensures.finds (c.is_past_places.ensures.open c.if-is_past_places.false) c.in-Err.ensures.read

pub returns-in-Ok-clause-gives : goal.returns-in-Ok-clause-gives
returns-in-Ok-clause-gives g c = grind (arith, common_steps)

pub returns-in-Ok-eq0-clause-gives : goal.returns-in-Ok-eq0-clause-gives
returns-in-Ok-eq0-clause-gives g c = grind (arith, common_steps)

pub returns-then-is_past_places-clause-gives : goal.returns-then-is_past_places-clause-gives
returns-then-is_past_places-clause-gives g c = grind (arith, common_steps)

pub read_on-requires-clause-searched : goal.read_on-requires-clause-searched
read_on-requires-clause-searched g c = grind (arith, common_steps)

pub returns-in-Some-clause-gives : goal.returns-in-Some-clause-gives
returns-in-Some-clause-gives g c = grind (arith, common_steps)

pub returns-in-Some-clause-goes : goal.returns-in-Some-clause-goes
returns-in-Some-clause-goes g c = grind (arith, common_steps)

pub has_closed-requires : goal.has_closed-requires
has_closed-requires g c = grind (arith, common_steps)

pub returns-then-is_past_places-clause-goes : goal.returns-then-is_past_places-clause-goes
returns-then-is_past_places-clause-goes g c = grind (arith, common_steps)

pub read_on-requires-clause-open : goal.read_on-requires-clause-open
read_on-requires-clause-open g c = grind (arith, common_steps)

pub read_on-requires-clause-unclosed : goal.read_on-requires-clause-unclosed
read_on-requires-clause-unclosed g c = grind (arith, common_steps)

pub close-requires : goal.close-requires
close-requires g c = grind (arith, common_steps)
