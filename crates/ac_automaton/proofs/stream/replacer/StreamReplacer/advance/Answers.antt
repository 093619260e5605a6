-- The next match is found first, and then the next slice. Where the text has ended, there is none.
use Rattle.std.proofs.Common.{subst, sym}
use Rattle.ac_automaton.specs.Stream.{CanBeCounted, StreamCounts, read_by}
use Rattle.ac_automaton.specs.Stream.Replacer.{IsAllOut}
use Rattle.ac_automaton.proofs.stream.StreamReplacerLemmas.{advance-none, look-pass, over-out, passes-search}
use Rattle.ac_automaton.proofs.stream.replacer.StreamReplacer.advance.Goals.{then-self-via-then-self, then-self-via-else-self+then-is_over}
use Rattle.ac_automaton.proofs.stream.replacer.StreamReplacer.advance.Goals as goal
use Rattle.ac_automaton.proofs.stream.StreamCountLemmas.{StreamCounts-none}

pub returns-then-self-clause-counts : goal.returns-then-self-clause-counts
returns-then-self-clause-counts g c = StreamCounts-none c.args.self.now.search c.args.steps.now

pub returns-then-self-clause-advances : goal.returns-then-self-clause-advances
returns-then-self-clause-advances g c = advance-none c.args.self.now (λ few replacements. elim c.then-self.branch [
  | then-self-via-then-self w ↦
      subst (λ r. IsAllOut r replacements) c.self.view_is
      (over-out c.self.invariant w.if-self.true replacements)
  | then-self-via-else-self+then-is_over w ↦
      absurd (w.is_over.ensures.over w.if-is_over.true
      (subst (λ r. CanBeCounted (read_by r.search)) (sym c.self.view_is) few))
])

pub returns-clause-advances : goal.returns-clause-advances
returns-clause-advances g c =
    look-pass c.pass.new.self c.pass.result c.look.ensures.looks c.pass.ensures

pub returns-clause-counts : goal.returns-clause-counts
returns-clause-counts g c =
    subst (λ s. StreamCounts c.args.self.now.search s c.args.steps.now c.look.new.steps)
    (sym (passes-search c.look.new.self c.pass.new.self c.pass.result c.pass.ensures)) c.look.ensures.counts
