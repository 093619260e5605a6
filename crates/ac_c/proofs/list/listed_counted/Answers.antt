-- A search from where the next one starts finds what is left of the listing.
use Rattle.std.proofs.Common.{◌≡◌, ◌≤◌, true, sym, ◌∙◌, arith}
use Rattle.std.proofs.lemmas.Bool.{false≢true}
use Rattle.ac_input.specs.Work.{shortest}
use Rattle.aho_corasick.specs.AhoCorasick.{patterns_of}
use Rattle.ac_c.proofs.list.ListLemmas.{listed, wanted-by}
use Rattle.ac_c.proofs.list.listed_counted.Goals as goal
use Rattle.ac_c.proofs.list.listed_counted.Goals.{else-wanted-via-then-wanted+else-min_pattern_len-eq0, else-wanted-via-else-wanted}

pub returns-else-wanted-clause-listed : goal.returns-else-wanted-clause-listed
returns-else-wanted-clause-listed c =
    let words = c.args.wanted.words in
    let valid = c.in-Some.ensures.0 in let can = rw c.in-Some.ensures.1 at c.in-Ok.ensures.answer.0 in
    let filled : words ≡ true → 1 ≤ shortest (patterns_of c.args.ac.now) = elim c.else-wanted.branch [
      | else-wanted-via-then-wanted+else-min_pattern_len-eq0 w ↦
          λ e. omega (arith, w.min_pattern_len.ensures)
      | else-wanted-via-else-wanted w ↦ λ e. absurd (false≢true (sym w.if-wanted.false ∙ e))
    ] in
    wanted-by words c.args.ac.now c.args.haystack.now c.args.wanted.place _ _ _ valid can.0 filled
    (listed words c.args.ac.now c.args.haystack.now c.args.wanted.place c.in-Some.input c.in-Ok.matches c.args.out.now
    c.fill.new.out c.max_pattern_len.result c.fill.result valid c.max_pattern_len.ensures c.in-Some.ensures.1
    c.in-Ok.ensures.answer.2 c.fill.ensures.given)
