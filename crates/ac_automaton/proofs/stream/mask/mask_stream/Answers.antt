-- A stream that can be masked is masked to its end; another one is left alone.
use Rattle.std.proofs.lemmas.Grind.{common_steps}
use Rattle.std.proofs.Common.{ap, subst, arith}
use Rattle.std.proofs.lemmas.Result.{err_from_is_err_and}
use Rattle.ac_automaton.specs.Stream.Mask.{WritesMasked}
use Rattle.ac_automaton.proofs.stream.StreamMaskEndLemmas.{begun-accepts, begun-masked, refused-costs, refused-masked}
use Rattle.ac_automaton.proofs.stream.mask.mask_stream.Goals as goal

pub returns-in_err-stream-clause-masked : goal.returns-in_err-stream-clause-masked
returns-in_err-stream-clause-masked g c =
    let p = err_from_is_err_and c.from_residual.result c.from_residual.ensures.1 in
    let a = c.args.automaton.now in
    rw (p.1, p.2)
    (refused-masked (g.A.Automaton.built a) (g.A.Automaton.supports a) c.args.mask c.args.reader.now c.args.writer.now _
    c.in_err-stream.ensures)

pub returns-in_err-stream-clause-cost : goal.returns-in_err-stream-clause-cost
returns-in_err-stream-clause-cost g c =
    let p = err_from_is_err_and c.from_residual.result c.from_residual.ensures.1 in
    rw p.1 (refused-costs (g.A.Automaton.built c.args.automaton.now) c.args.reader.now c.args.steps.now p.0)

pub returns-clause-masked : goal.returns-clause-masked
returns-clause-masked g c =
    let s = c.in_ok-stream.stream in
    let fresh = c.in_ok-stream.ensures.1 in (
      subst
          (λ k. WritesMasked g.R.Read.remaining g.W.Write.contents (g.A.Automaton.built c.args.automaton.now) k
          c.args.reader.now c.mask_to_end.new.reader c.args.writer.now c.mask_to_end.new.writer c.mask_to_end.result)
          (ap (λ t. t.mask) fresh)
          (subst
          (λ b. WritesMasked g.R.Read.remaining g.W.Write.contents b s.mask c.args.reader.now
          c.mask_to_end.new.reader c.args.writer.now c.mask_to_end.new.writer c.mask_to_end.result)
          (ap (λ t. t.built) fresh) c.mask_to_end.ensures.writes),
      begun-masked c.args.reader.now c.mask_to_end.new.reader c.args.writer.now c.mask_to_end.new.writer
          c.mask_to_end.result c.mask_to_end.ensures.begun,
    )

pub returns-clause-accepted : goal.returns-clause-accepted
returns-clause-accepted g c =
    let a = c.args.automaton.now in
    begun-accepts (g.A.Automaton.built a) (g.A.Automaton.supports a) c.mask_to_end.result c.in_ok-stream.ensures.0
    c.mask_to_end.ensures.begun

pub returns-in_err-stream-clause-accepted : goal.returns-in_err-stream-clause-accepted
returns-in_err-stream-clause-accepted g c = grind (arith, common_steps)

pub mask_to_end-requires-clause-fresh : goal.mask_to_end-requires-clause-fresh
mask_to_end-requires-clause-fresh g c = grind (arith, common_steps)

pub mask_to_end-requires-clause-course : goal.mask_to_end-requires-clause-course
mask_to_end-requires-clause-course g c = grind (arith, common_steps)

pub mask_to_end-requires-clause-open : goal.mask_to_end-requires-clause-open
mask_to_end-requires-clause-open g c = grind (arith, common_steps)

pub returns-clause-cost : goal.returns-clause-cost
returns-clause-cost g c = grind (arith, common_steps)
