-- Where a pattern opens, its grams are found.
use Rattle.std.proofs.Common.{ℕ, List, arith}
use Rattle.std.proofs.lemmas.List.{length-map}
use Rattle.std.specs.Borrow.{Bor}
use Rattle.ac_literal.specs.Packed.{bytes_of}
use Rattle.ac_literal.proofs.openings.OpeningLemmas.{none-shorter, opening-begins}
use Rattle.ac_literal.proofs.openings.Openings.by_grams.Goals as goal

pub returns : goal.returns
returns c kind =
    let patterns = c.args.patterns.now in
    let all = bytes_of patterns in
    let len = c.len_of-len.result in
    let short = c.len_of-len.ensures.short in
    let count = length-map patterns (λ (p : Bor (List ℕ)). p.now) in
    record {
      short = none-shorter all c.args.pairing.now kind len short;
      marks = λ text at opens cannot.
          cannot
          (opening-begins all c.args.pairing.now kind len text at (c.is_none.ensures.0 c.if-not-is_none.false) short
          (λ number within. c.in_ok-grams_of.ensures number (omega (arith, within, count))) opens);
    }
