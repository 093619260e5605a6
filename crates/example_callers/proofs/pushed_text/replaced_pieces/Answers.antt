-- The text is pushed piece by piece, and at its end all of it is decided.
use Rattle.std.proofs.Common.{ℕ, List, Bor, map, take, sym, subst}
use Rattle.std.specs.List.{concat}
use Rattle.std.proofs.lemmas.List.{take_all}
use Rattle.aho_corasick.specs.AhoCorasick.{as_built}
use Rattle.example_callers.specs.PushedText.{IsTextOfPieces}
use Rattle.example_callers.proofs.pushed_text.PushedTextLemmas.{appended-piece, appended-whole}
use Rattle.example_callers.proofs.generic_stream.StreamLemmas.{joined-step}
use Rattle.example_callers.proofs.pushed_text.replaced_pieces.Goals as goal

pub loop-piece-preserved : goal.loop-piece-preserved
loop-piece-preserved c =
    let b = as_built c.args.ac.now in
    let replacements = map (λ r. r.now) c.args.replacements.now in
    let more = appended-piece b (concat (map (λ p. p.now) (take c.loop-piece.piece-index c.args.pieces.now))) _ _ _
    replacements _ _ c.loop-piece.invariant c.in_ok-append_piece.ensures.so_far c.in_ok-append_piece.ensures.on in
    subst (λ text. IsTextOfPieces b text c.append_piece.new.replacer replacements c.append_piece.new.text.items)
    (sym (joined-step c.args.pieces.now c.loop-piece.piece-index _ c.loop-piece-test.true)) more

pub returns : goal.returns
returns c =
    let b = as_built c.args.ac.now in
    let replacements = map (λ r. r.now) c.args.replacements.now in
    let is =
    subst (λ ps. IsTextOfPieces b (concat (map (λ p. p.now) ps)) c.loop-piece.replacer replacements
    c.loop-piece.text.items) (take_all c.loop-piece.piece-index c.args.pieces.now c.loop-piece-test.false)
    c.loop-piece.invariant in
    appended-whole b (concat (map (λ p. p.now) c.args.pieces.now)) _ _ _ replacements _ _ is c.finish.ensures
    c.in_ok-append_decided.ensures
