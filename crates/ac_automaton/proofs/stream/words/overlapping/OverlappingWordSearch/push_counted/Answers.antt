-- Where nothing is taken, the search stays as it is; else its text takes the piece.
use Rattle.std.proofs.Common.{◌-◌, rules, sym, ap, subst, ◌∙◌}
use Rattle.std.proofs.lemmas.Bool.{false≢true}
use Rattle.std.proofs.lemmas.List.{nil_from_length}
use Rattle.ac_input.specs.Work.{longest}
use Rattle.ac_automaton.specs.Stream.{CanBeCounted, IsOnCourse, IsSearched, StreamCounts, read_by}
use Rattle.ac_automaton.specs.Stream.Push.{Pushes}
use Rattle.ac_automaton.proofs.stream.StreamCountLemmas.{StreamCounts-none}
use Rattle.ac_automaton.proofs.stream.StreamPushLemmas.{pushes-none, took-none}
use Rattle.ac_automaton.proofs.stream.words.overlapping.ListedKeptLemmas.{grown-kept, holds-text}
use Rattle.ac_automaton.proofs.stream.words.overlapping.ListedSearchLemmas.{IsRight, come_by}
use Rattle.ac_automaton.proofs.stream.words.held.HoldsLemmas.{push-on}
use Rattle.ac_automaton.proofs.stream.words.overlapping.OverlappingWordSearch.push_counted.Given.{Over}
use Rattle.ac_automaton.proofs.stream.words.overlapping.OverlappingWordSearch.push_counted.Goals.{then-is_empty-via-then-is_empty, then-is_empty-via-else-is_empty+then-not-is_searched}
use Rattle.ac_automaton.proofs.stream.words.overlapping.OverlappingWordSearch.push_counted.Goals as goal

pub returns-then-is_over-clause-goes : goal.returns-then-is_over-clause-goes
returns-then-is_over-clause-goes g c =
    (StreamCounts-none c.args.self.now c.args.steps.now, subst IsOnCourse c.self.view_is c.self.invariant.0)

pub returns-then-is_over-clause-pushes : goal.returns-then-is_over-clause-pushes
returns-then-is_over-clause-pushes g c =
    let course = subst IsOnCourse c.self.view_is c.self.invariant.0 in
    let many = subst (λ s. ¬ CanBeCounted (read_by s)) c.self.view_is (c.is_over.ensures.over c.if-is_over.true) in
    (0, took-none course, many)

pub returns-then-is_empty-clause-pushes : goal.returns-then-is_empty-clause-pushes
returns-then-is_empty-clause-pushes g c =
    let course = subst IsOnCourse c.self.view_is c.self.invariant.0 in
    let few = subst (λ s. CanBeCounted (read_by s)) c.self.view_is (c.is_over.ensures.open c.if-is_over.false) in
    pushes-none (IsSearched c.args.self.now) c.args.piece.now course few
    (λ searched. elim c.then-is_empty.branch [
      | then-is_empty-via-then-is_empty w ↦ nil_from_length c.args.piece.now (search rules)
      | then-is_empty-via-else-is_empty+then-not-is_searched w ↦
          absurd (false≢true (w.if-not-is_searched.ensures.1 searched))
    ])

pub returns-then-is_empty-clause-goes : goal.returns-then-is_empty-clause-goes
returns-then-is_empty-clause-goes g c =
    (StreamCounts-none c.args.self.now c.args.steps.now, subst IsOnCourse c.self.view_is c.self.invariant.0)

-- what was pushed
pushed : (g : Over) (c : goal.After-push g)
    → IsRight g.A.Automaton (record c.self.inside { text = c.push.new.self })
    × Pushes (IsSearched (come_by g.A.Automaton c.self.inside)) (come_by g.A.Automaton c.self.inside)
    (come_by g.A.Automaton (record c.self.inside { text = c.push.new.self })) c.args.piece.now c.push.result
    × StreamCounts (come_by g.A.Automaton c.self.inside)
    (come_by g.A.Automaton (record c.self.inside { text = c.push.new.self })) c.args.steps.now c.push.new.steps
pushed g c =
    let A = g.A.Automaton in
    let i = c.self.inside in
    let is = c.self.invariant in
    let at = c.needed-needed.ensures ∙ ap (λ s. s.at - longest s.built.dictionary.patterns - 1) (sym c.self.view_is) in
    let searched = subst IsSearched (sym c.self.view_is)
    (c.is_searched.ensures.0 (search (c.if-not-is_searched.false, rules))) in
    let open_ = ap (λ s. s.closed) c.self.view_is ∙ c.requires.unclosed in
    push-on (holds-text A i is c.needed-needed.result at searched) (λ t. IsRight A (record i { text = t }))
    (λ t. come_by A (record i { text = t })) (λ t piece grows. grown-kept A i is at open_ grows) c.push.new.self c.args.piece.now
    c.push.result searched c.push.ensures.takes c.push.ensures.counts

pub invariant_of-self : goal.invariant_of-self
invariant_of-self g c = (pushed g c).0

pub returns-clause-pushes : goal.returns-clause-pushes
returns-clause-pushes g c =
    subst (λ s. Pushes (IsSearched s) s (come_by g.A.Automaton (record c.self.inside { text = c.push.new.self }))
    c.args.piece.now c.push.result) c.self.view_is (pushed g c).1

pub returns-clause-goes : goal.returns-clause-goes
returns-clause-goes g c = (
  subst (λ s. StreamCounts s (come_by g.A.Automaton (record c.self.inside { text = c.push.new.self })) c.args.steps.now
      c.push.new.steps) c.self.view_is (pushed g c).2,
  (pushed g c).0.0,
)
