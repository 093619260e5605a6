-- A stream that can be masked is masked to its end; another one is left alone.
use Rattle.std.proofs.lemmas.Result.{err_from_is_err_and}
use Rattle.ac_automaton.proofs.stream.StreamMaskEndLemmas.{begun-accepts, begun-masked}
use Rattle.ac_automaton.proofs.stream.mask.words.WordReadLemmas.{refused-words, refused-words_cost}
use Rattle.ac_automaton.proofs.stream.mask.words.mask_words_stream.Goals as goal

pub returns-in_err-stream-clause-masked : goal.returns-in_err-stream-clause-masked
returns-in_err-stream-clause-masked g c =
    let p = err_from_is_err_and c.from_residual.result c.from_residual.ensures.1 in
    let a = c.args.automaton.now in
    rw (p.1, p.2)
    (refused-words (g.A.Automaton.built a) (g.A.Automaton.supports a) c.args.mask c.args.reader.now c.args.writer.now _
    c.in_err-stream.ensures)

pub returns-in_err-stream-clause-cost : goal.returns-in_err-stream-clause-cost
returns-in_err-stream-clause-cost g c =
    let p = err_from_is_err_and c.from_residual.result c.from_residual.ensures.1 in
    rw p.1 (refused-words_cost (g.A.Automaton.built c.args.automaton.now) c.args.reader.now c.args.steps.now p.0)

pub returns-clause-masked : goal.returns-clause-masked
returns-clause-masked g c = (
  c.mask_to_end.ensures.writes,
  begun-masked c.args.reader.now c.mask_to_end.new.reader c.args.writer.now c.mask_to_end.new.writer
      c.mask_to_end.result c.mask_to_end.ensures.begun,
)

pub returns-clause-accepted : goal.returns-clause-accepted
returns-clause-accepted g c =
    let a = c.args.automaton.now in
    begun-accepts (g.A.Automaton.built a) (g.A.Automaton.supports a) c.mask_to_end.result c.in_ok-stream.ensures.0
    c.mask_to_end.ensures.begun
