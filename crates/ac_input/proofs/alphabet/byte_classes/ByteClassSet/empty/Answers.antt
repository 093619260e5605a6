use Rattle.ac_input.proofs.alphabet.AlphabetLemmas.{has-none}
use Rattle.ac_input.proofs.alphabet.byte_classes.ByteClassSet.empty.Goals as goal

pub returns : goal.returns
returns c = has-none 256
