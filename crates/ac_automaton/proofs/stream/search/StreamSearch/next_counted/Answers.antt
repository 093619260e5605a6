-- The next match of the bytes read is the next of the search over the held bytes.
use Rattle.std.proofs.lemmas.Grind.{common_steps}
use Rattle.std.proofs.Common.{subst, arith}
use Rattle.ac_automaton.specs.Stream.{FindsHeld, StreamCounts}
use Rattle.ac_automaton.proofs.stream.StreamAheadLemmas.{next-counts, next-finds, next-kept, searched_to, walks-from}
use Rattle.ac_automaton.proofs.stream.StreamSearchLemmas.{come_by, settled_by}
use Rattle.ac_automaton.specs.Stream.Search.{Searched}
use Rattle.ac_automaton.proofs.stream.search.StreamSearch.next_counted.Given.{Over}
use Rattle.ac_automaton.proofs.stream.search.StreamSearch.next_counted.Goals as goal
use Rattle.ac_automaton.proofs.stream.StreamCountLemmas.{StreamCounts-none}

pub returns-then-self-clause-counts : goal.returns-then-self-clause-counts
returns-then-self-clause-counts g c = StreamCounts-none c.args.self.now c.args.steps.now

pub search_stream-found-requires-clause-walk : goal.search_stream-found-requires-clause-walk
search_stream-found-requires-clause-walk g c = (
  settled_by g.A.Automaton c.self.inside,
  walks-from g.A.Automaton c.self.inside c.held.result.now c.self.invariant c.if-self.false c.held.ensures,
)

-- where the search came, and what it found
abbrev searched : (g : Over) → goal.After-self-1 g → Searched
searched g c = record { progress = c.search_stream-found.new.progress; found = c.search_stream-found.result }

pub invariant_of-self : goal.invariant_of-self
invariant_of-self g c =
    let on = c.search_stream-found.ensures in
    next-kept g.A.Automaton c.self.inside (searched g c) c.given_then-self-inside.result
    c.search_stream-found.new.ahead c.new-taken.result c.search_stream-found.new.steps c.add-2.new.self
    c.held.result.now
    c.self.invariant c.if-self.false c.held.ensures on.walk (on.ahead, on.once) c.new-taken.ensures c.add-2.ensures
    c.given_then-self-inside.ensures

pub returns-clause-finds : goal.returns-clause-finds
returns-clause-finds g c =
    let on = c.search_stream-found.ensures in
    subst (λ t. FindsHeld t c.search_stream-found.result
    (come_by g.A.Automaton
    (searched_to c.self.inside (searched g c) c.given_then-self-inside.result
    c.search_stream-found.new.ahead c.add-2.new.self))) c.self.view_is
    (next-finds g.A.Automaton c.self.inside (searched g c) c.given_then-self-inside.result
    c.search_stream-found.new.ahead c.new-taken.result c.search_stream-found.new.steps c.add-2.new.self
    c.held.result.now
    c.self.invariant c.if-self.false c.held.ensures on.walk (on.ahead, on.once) c.new-taken.ensures c.add-2.ensures
    c.given_then-self-inside.ensures)

pub returns-clause-counts : goal.returns-clause-counts
returns-clause-counts g c =
    let on = c.search_stream-found.ensures in
    subst (λ t.
    StreamCounts t
    (come_by g.A.Automaton
    (searched_to c.self.inside (searched g c) c.given_then-self-inside.result
    c.search_stream-found.new.ahead c.add-2.new.self)) c.args.steps.now c.add.new.self) c.self.view_is
    (next-counts g.A.Automaton c.self.inside (searched g c) c.given_then-self-inside.result
    c.search_stream-found.new.ahead c.new-taken.result c.search_stream-found.new.steps c.add-2.new.self
    c.held.result.now
    c.self.invariant c.if-self.false c.held.ensures on.walk (on.ahead, on.once) c.new-taken.ensures c.add-2.ensures
    c.given_then-self-inside.ensures c.args.steps.now c.add.new.self c.add.ensures)

pub returns-clause-kept : goal.returns-clause-kept
returns-clause-kept g c = (invariant_of-self g c).0

pub same-self : goal.same-self
same-self g c = grind (arith, common_steps)

pub returns-then-self-clause-finds : goal.returns-then-self-clause-finds
returns-then-self-clause-finds g c = grind (arith, common_steps)

pub returns-then-self-clause-kept : goal.returns-then-self-clause-kept
returns-then-self-clause-kept g c = grind (arith, common_steps)

pub search_stream-found-requires-clause-ahead : goal.search_stream-found-requires-clause-ahead
search_stream-found-requires-clause-ahead g c = grind (arith, common_steps)
