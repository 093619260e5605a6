-- Four more classes are written.
use Rattle.std.proofs.Common.{◌≡◌, ◌+◌, ◌++◌, ◌∙◌, ℕ, drop, ap, arith}
use Rattle.std.proofs.lemmas.List.{length-map}
use Rattle.ac_tables.specs.Contiguous.Words.{word_of, packed, near, classes_of}
use Rattle.ac_tables.proofs.contiguous.WordsLemmas.{packed-more}
use Rattle.ac_tables.proofs.contiguous.words.push_classes.Goals as goal

pub loop-at-preserved : goal.loop-at-preserved
loop-at-preserved c =
    let edges = c.args.edges.now in
    let cs = classes_of edges in
    let at = c.loop-at.at in
    let long = length-map edges (λ (e : ℕ × ℕ). e.0) in
    let word : c.word_of.result ≡ word_of (near cs at) (near cs (at + 1)) (near cs (at + 2)) (near cs (at + 3)) =
    c.word_of.ensures
    ∙ ap (λ n. word_of n c.class_at-in-loop-at.result c.class_at-in-loop-at-2.result c.class_at-in-loop-at-3.result)
    c.class_at.ensures
    ∙ ap (λ n. word_of (near cs at) n c.class_at-in-loop-at-2.result c.class_at-in-loop-at-3.result)
    c.class_at-in-loop-at.ensures
    ∙ ap (λ n. word_of (near cs at) (near cs (at + 1)) n c.class_at-in-loop-at-3.result) c.class_at-in-loop-at-2.ensures
    ∙ ap (λ n. word_of (near cs at) (near cs (at + 1)) (near cs (at + 2)) n) c.class_at-in-loop-at-3.ensures in
    ap (λ xs. xs ++ packed (drop (at + 4) cs)) c.in_ok-push.ensures.items
    ∙ packed-more c.args.words.now.items c.loop-at.words.items cs at c.word_of.result
    (omega (arith, c.loop-at-test.true, long)) word c.loop-at.invariant
