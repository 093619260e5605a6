-- The text is pushed piece by piece, and at its end all words are decided.
use Rattle.std.proofs.Common.{ℕ, List, Bor, map, take, sym, subst}
use Rattle.std.specs.List.{concat}
use Rattle.std.proofs.lemmas.List.{take_all}
use Rattle.ac_automaton.specs.Stream.WholeWords.{asked_for}
use Rattle.aho_corasick.specs.AhoCorasick.{as_built}
use Rattle.example_callers.proofs.pushed.PushedLemmas.{pushed-more, words-pushed, IsPushedTo}
use Rattle.example_callers.proofs.generic_stream.StreamLemmas.{joined-step}
use Rattle.example_callers.proofs.pushed_words.words_of_pieces.Goals as goal

pub loop-piece-preserved : goal.loop-piece-preserved
loop-piece-preserved c =
    let b = asked_for c.args.kind (as_built c.args.ac.now) in
    let more = pushed-more b (concat (map (λ p. p.now) (take c.loop-piece.piece-index c.args.pieces.now))) _ _ _ _ _
    c.loop-piece.invariant c.in_ok-push_words.ensures.gathered c.in_ok-push_words.ensures.on in
    subst (λ text. IsPushedTo b text c.push_words.new.search c.push_words.new.found.items)
    (sym (joined-step c.args.pieces.now c.loop-piece.piece-index _ c.loop-piece-test.true)) more

pub returns : goal.returns
returns c =
    let b = asked_for c.args.kind (as_built c.args.ac.now) in
    let is = subst (λ ps. IsPushedTo b (concat (map (λ p. p.now) ps)) c.loop-piece.search c.loop-piece.found.items)
    (take_all c.loop-piece.piece-index c.args.pieces.now c.loop-piece-test.false) c.loop-piece.invariant in
    words-pushed b (concat (map (λ p. p.now) c.args.pieces.now)) _ _ _ _ _ is c.finish.ensures.closed
    c.in_ok-gather_words.ensures
