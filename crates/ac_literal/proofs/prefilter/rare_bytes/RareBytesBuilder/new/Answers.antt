use Rattle.ac_literal.proofs.prefilter.ChoiceLemmas.{rare-none, near-zeros}
use Rattle.ac_literal.proofs.prefilter.rare_bytes.RareBytesBuilder.new.Goals as goal

pub returns : goal.returns
returns c = λ pairing. rare-none (near-zeros 256)
