-- Each turn returns one more occurrence.
use Rattle.std.proofs.Common.{rules, arith}
use Rattle.ac_automaton.proofs.stream.StreamLeftLemmas.{items-fewer}
use Rattle.aho_corasick.proofs.lemmas.StreamLemmas.{found-all, found-more}
use Rattle.example_callers.proofs.generic_stream_overlap.all_occurrences.Goals as goal

pub loop-next-preserved : goal.loop-next-preserved
loop-next-preserved g c =
    let b = g.A.Automaton.built c.args.automaton.now in
    let next = rw c.in_ok-next.was at c.in-Some.ensures.gives.0 in
    found-more (λ r. r.now) b c.args.text.now c.loop-next.occurrences.stream c.next_counted.new.self.stream
    c.loop-next.occurrences.reader.now c.next_counted.new.self.reader.now c.loop-next.found.items _ c.in_ok-next.field-0
    c.loop-next.invariant next (search rules)

pub loop-next-smaller : goal.loop-next-smaller
loop-next-smaller g c =
    ((items-fewer (λ s. s) _ c.loop-next.occurrences c.next_counted.new.self _ c.in-Some.ensures.gives
    c.in-Some.ensures.goes.1).on tt).2

pub returns : goal.returns
returns g c =
    let b = g.A.Automaton.built c.args.automaton.now in
    found-all (λ r. r.now) b c.args.text.now c.loop-next.occurrences.stream c.next_counted.new.self.stream
    c.loop-next.occurrences.reader.now c.next_counted.new.self.reader.now c.loop-next.found.items (omega arith)
    c.loop-next.invariant c.in_default.ensures.gives.0
