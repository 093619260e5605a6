-- The class at the place, or the last one if there are fewer.
use Rattle.std.proofs.Common.{◌∙◌, get_or, ap, arith}
use Rattle.ac_tables.proofs.contiguous.WordsLemmas.{class-within, class-past}
use Rattle.ac_tables.proofs.contiguous.words.class_at.Goals as goal
use Rattle.ac_tables.proofs.contiguous.words.class_at.Goals.{then-at-last, else-at-last}

pub returns : goal.returns
returns c =
    let edges = c.args.edges.now in
    let d = c.index-edges-last.result in
    elim c.if-at-last.branch [
      | then-at-last w ↦
          ap (λ k. (get_or edges k d).0) w.result-is
          ∙ class-within edges c.args.at d (let lt = w.if-at-last.true in omega arith)
      | else-at-last w ↦
          class-past edges c.if-at-last.result c.args.at d
          (let is = w.result-is in let ge = w.if-at-last.false in let some = c.requires in omega arith)
          (let is = w.result-is in let ge = w.if-at-last.false in omega arith)
    ]
