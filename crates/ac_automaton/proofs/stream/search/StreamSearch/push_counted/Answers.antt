-- Where nothing is taken, the search stays as it is.
use Rattle.std.proofs.Common.{rules, subst, arith}
use Rattle.std.proofs.lemmas.Grind.{common_steps}
use Rattle.std.proofs.lemmas.Bool.{false≢true}
use Rattle.std.proofs.lemmas.List.{nil_from_length}
use Rattle.ac_automaton.specs.Stream.{CanBeCounted, IsOnCourse, IsSearched, read_by}
use Rattle.ac_automaton.proofs.stream.StreamPushLemmas.{pushes-none, took-none}
use Rattle.ac_automaton.proofs.stream.search.StreamSearch.push_counted.Goals.{then-is_empty-via-then-is_empty, then-is_empty-via-else-is_empty+then-not-is_searched}
use Rattle.ac_automaton.proofs.stream.search.StreamSearch.push_counted.Goals as goal
use Rattle.ac_automaton.proofs.stream.StreamCountLemmas.{StreamCounts-none}

pub returns-then-self-clause-goes : goal.returns-then-self-clause-goes
returns-then-self-clause-goes g c =
    (StreamCounts-none c.args.self.now c.args.steps.now, subst IsOnCourse c.self.view_is c.self.invariant.0)

pub returns-then-self-clause-pushes : goal.returns-then-self-clause-pushes
returns-then-self-clause-pushes g c =
    let course = subst IsOnCourse c.self.view_is c.self.invariant.0 in
    let many = subst (λ s. ¬ CanBeCounted (read_by s)) c.self.view_is (c.self.invariant.1.uncountable c.if-self.true) in
    (0, took-none course, many)

pub returns-then-is_empty-clause-pushes : goal.returns-then-is_empty-clause-pushes
returns-then-is_empty-clause-pushes g c =
    let course = subst IsOnCourse c.self.view_is c.self.invariant.0 in
    let few = subst (λ s. CanBeCounted (read_by s)) c.self.view_is (c.self.invariant.1.countable c.if-self.false) in
    pushes-none (IsSearched c.args.self.now) c.args.piece.now course few
    (λ searched. elim c.then-is_empty.branch [
      | then-is_empty-via-then-is_empty w ↦ nil_from_length c.args.piece.now (search rules)
      | then-is_empty-via-else-is_empty+then-not-is_searched w ↦
          absurd (false≢true (w.if-not-is_searched.ensures.1 searched))
    ])

pub returns-then-is_empty-clause-goes : goal.returns-then-is_empty-clause-goes
returns-then-is_empty-clause-goes g c =
    (StreamCounts-none c.args.self.now c.args.steps.now, subst IsOnCourse c.self.view_is c.self.invariant.0)

pub returns-clause-pushes : goal.returns-clause-pushes
returns-clause-pushes g c = grind (arith, common_steps)

pub same-self : goal.same-self
same-self g c = grind (arith, common_steps)

pub same-self-then-is_empty : goal.same-self-then-is_empty
same-self-then-is_empty g c = grind (arith, common_steps)

pub same-self-else-is_empty : goal.same-self-else-is_empty
same-self-else-is_empty g c = grind (arith, common_steps)

pub make_room-requires : goal.make_room-requires
make_room-requires g c = grind (arith, common_steps)

pub append-requires-clause-some : goal.append-requires-clause-some
append-requires-clause-some g c = grind (arith, common_steps)

pub append-requires-clause-unclosed : goal.append-requires-clause-unclosed
append-requires-clause-unclosed g c = grind (arith, common_steps)

pub append-requires-clause-searched : goal.append-requires-clause-searched
append-requires-clause-searched g c = grind (arith, common_steps)

pub append-requires-clause-room : goal.append-requires-clause-room
append-requires-clause-room g c = grind (arith, common_steps)

pub returns-clause-goes : goal.returns-clause-goes
returns-clause-goes g c = grind (arith, common_steps)
