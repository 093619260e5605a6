use Rattle.std.proofs.Common.{bit_and}
use Rattle.ac_literal.proofs.packed.LaneLemmas.{lanes-two}
use Rattle.ac_literal.proofs.packed.teddy.both.Goals as goal

pub returns : goal.returns
returns c = lanes-two bit_and c.args.a c.args.b c.fits-a.0 c.fits-b.0
