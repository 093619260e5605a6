use Rattle.std.proofs.Common.{◌≡◌, ◌⊎◌, inl, inr, true, false, sym, ap, ◌∙◌}
use Rattle.ac_input.specs.Word.{is_whole_word}
use Rattle.test_plain.specs.Naive.{Plain}
use Rattle.test_plain.proofs.plain.Occurrences.{counting}
use Rattle.test_plain.proofs.plain.Naive.occurs.Goals as goal
use Rattle.test_plain.proofs.plain.Naive.occurs.Goals.{then-not-self, else-not-self}

pub returns-then-counts : goal.returns-then-counts
returns-then-counts c =
    let p : Plain = c.args.self.now in
    let words = ap (λ t. t.words) c.self.view_is in
    let haystack = ap (λ t. is_whole_word t.search.haystack c.args.found) c.self.view_is in
    let either : (p.words ≡ false) ⊎ (is_whole_word p.search.haystack c.args.found ≡ true) =
    elim c.if-not-self.branch [
      | then-not-self w ↦ inl (sym words ∙ w.if-not-self.true)
      | else-not-self w ↦
          inr (sym haystack ∙ sym w.is_whole_word-counts.ensures ∙ sym w.counts-is ∙ c.if-counts.true)
    ] in
    let like = counting p.words p.search c.args.found either in
    (λ e. like.0 (c.lies.ensures.0 e), λ h. c.lies.ensures.1 (like.1 h))
