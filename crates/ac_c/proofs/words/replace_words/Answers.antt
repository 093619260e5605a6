-- What was replaced is held.
use Rattle.ac_c.proofs.words.replace_words.Goals as goal

pub returns : goal.returns
returns c = (c.words_replaced-made.result, c.words_replaced-made.ensures, c.hold.ensures)
