use Rattle.ac_input.proofs.lemmas.Utf8Lemmas.{text_occurs}
use Rattle.ac_input.proofs.utf8_laws.text_occurs_between_chars.Goals as goal

pub returns : goal.returns
returns c = text_occurs
