-- Turn by turn, up to an item or to the end.
use Rattle.std.proofs.Common.{[], refl, arith}
use Rattle.ac_automaton.proofs.stream.StreamIterLemmas.{GoesOnReading, ended-smaller, gained-none, stopped-failed, stopped-found, stopped-over, turn-smaller, turned-ended, turned-failed, turned-found, turned-more, turned-over}
use Rattle.ac_automaton.specs.Stream.{GoesOn}
use Rattle.ac_automaton.proofs.stream.StreamIter.next_counted.Given.{Over}
use Rattle.ac_automaton.proofs.stream.StreamIter.next_counted.Goals as goal
use Rattle.ac_automaton.proofs.stream.StreamIter.next_counted.Goals.{After-search_or_read}
use Rattle.ac_automaton.proofs.stream.StreamCountLemmas.{StreamCounts-none, StreamCounts-then}

-- what all turns counted
counted : (g : Over) (c : After-search_or_read g)
    → GoesOn (g.S.ItemSearch.progress c.args.self.now.stream) (g.S.ItemSearch.progress c.search_or_read.new.stream)
    c.args.steps.now c.search_or_read.new.steps
counted g c = (
  StreamCounts-then (g.S.ItemSearch.progress c.args.self.now.stream)
      (g.S.ItemSearch.progress c.loop-found.self.stream) (g.S.ItemSearch.progress c.search_or_read.new.stream)
      c.args.steps.now c.loop-found.steps c.search_or_read.new.steps c.loop-found.invariant.turned.counts
      c.search_or_read.ensures.goes.0,
  c.search_or_read.ensures.goes.1,
)

pub loop-found-init : goal.loop-found-init
loop-found-init g c = record {
  turned = record {
    gained = [];
    has = gained-none g.R.Read.remaining (g.S.ItemSearch.progress c.args.self.now.stream) c.args.self.now.reader.now;
    how = GoesOnReading tt (λ some. absurd (some refl));
    given = refl;
    fresh = λ some. absurd (some refl);
    first = λ none. (refl, refl);
    unended = λ some. absurd (some refl);
    on = λ standard. omega arith;
    counts = StreamCounts-none (g.S.ItemSearch.progress c.args.self.now.stream) c.args.steps.now;
  };
  same_reference = refl;
}

pub loop-found-preserved-in-More : goal.loop-found-preserved-in-More
loop-found-preserved-in-More g c = record {
  turned = turned-more c.loop-found.invariant.turned c.in-More.ensures.gives c.search_or_read.ensures.goes.0;
  same_reference = c.loop-found.invariant.same_reference;
}

pub loop-found-smaller-in-More : goal.loop-found-smaller-in-More
loop-found-smaller-in-More g c =
    turn-smaller c.in-More.ensures.gives

pub loop-found-preserved : goal.loop-found-preserved
loop-found-preserved g c = record {
  turned = turned-ended c.loop-found.invariant.turned c.in-Ended.ensures.gives c.search_or_read.ensures.goes.0;
  same_reference = c.loop-found.invariant.same_reference;
}

pub loop-found-smaller : goal.loop-found-smaller
loop-found-smaller g c =
    ended-smaller c.in-Ended.ensures.gives

pub returns-in-Found-clause-gives : goal.returns-in-Found-clause-gives
returns-in-Found-clause-gives g c = (
  turned-found c.loop-found.invariant.turned c.in-Found.ensures.gives,
  λ stopped.
      absurd (stopped-found c.loop-found.invariant.turned c.in-Found.ensures.gives stopped),
  c.loop-found.invariant.same_reference,
)

pub returns-in-Found-clause-goes : goal.returns-in-Found-clause-goes
returns-in-Found-clause-goes g c = counted g (goal.at.returns-in-Found-clause-goes g c).After-search_or_read

pub returns-in-Over-clause-gives : goal.returns-in-Over-clause-gives
returns-in-Over-clause-gives g c = (
  turned-over c.loop-found.invariant.turned c.in-Over.ensures.gives,
  stopped-over c.loop-found.invariant.turned c.in-Over.ensures.gives,
  c.loop-found.invariant.same_reference,
)

pub returns-in-Over-clause-goes : goal.returns-in-Over-clause-goes
returns-in-Over-clause-goes g c = counted g (goal.at.returns-in-Over-clause-goes g c).After-search_or_read

pub returns-in-Failed-clause-gives : goal.returns-in-Failed-clause-gives
returns-in-Failed-clause-gives g c = (
  turned-failed (g.S.ItemSearch.progress c.search_or_read.new.stream) c.search_or_read.new.reader c.in-Failed.error
      c.loop-found.invariant.turned c.in-Failed.ensures.gives,
  λ stopped.
      absurd (stopped-failed (g.S.ItemSearch.progress c.search_or_read.new.stream) c.search_or_read.new.reader
      c.in-Failed.error c.loop-found.invariant.turned c.in-Failed.ensures.gives stopped),
  c.loop-found.invariant.same_reference,
)

pub returns-in-Failed-clause-goes : goal.returns-in-Failed-clause-goes
returns-in-Failed-clause-goes g c = counted g (goal.at.returns-in-Failed-clause-goes g c).After-search_or_read
