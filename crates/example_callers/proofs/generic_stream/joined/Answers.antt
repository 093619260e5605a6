-- One more piece was sent.
use Rattle.std.proofs.Common.{ℕ, List, [], ◌++◌, get_or, ap, sym, ◌∙◌}
use Rattle.std.specs.Borrow.{Bor}
use Rattle.example_callers.proofs.generic_stream.StreamLemmas.{joined-step, sent-grows}
use Rattle.example_callers.proofs.generic_stream.joined.Goals as goal

pub loop-piece-preserved : goal.loop-piece-preserved
loop-piece-preserved c =
    let d : Bor (List ℕ) = record { ref_ptr = (0, 0); now = [] } in
    let i = c.loop-piece.piece-index in
    let piece = (get_or c.args.pieces.now i d).now in
    sent-grows (λ v. v.items) c.loop-piece.writer c.send.new.writer c.loop-piece.output c.send.new.self piece
    c.in_ok-send.ensures.sent
    ∙ ap (λ t. t ++ piece) c.loop-piece.invariant
    ∙ sym (joined-step c.args.pieces.now i d c.loop-piece-test.true)
