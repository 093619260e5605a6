-- At the start all 256 bytes are left.
use Rattle.std.proofs.Common.{refl}
use Rattle.ac_input.specs.Alphabet.{elements}
use Rattle.ac_input.proofs.alphabet.byte_classes.ByteClasses.elements.Goals as goal

pub returns : goal.returns
unfolding elements
returns c = refl
