-- Where a pattern opens, its first bytes are found.
use Rattle.ac_literal.specs.Packed.{bytes_of}
use Rattle.ac_literal.proofs.openings.OpeningLemmas.{none-shorter}
use Rattle.ac_literal.proofs.openings.Openings.by_fronts.Goals as goal

pub returns : goal.returns
returns c kind =
    let all = bytes_of c.args.patterns.now in
    record {
      short = none-shorter all c.args.pairing.now kind c.len_of-len.result c.len_of-len.ensures.short;
      marks = λ text at opens cannot. cannot (c.new.ensures kind text at opens);
    }
