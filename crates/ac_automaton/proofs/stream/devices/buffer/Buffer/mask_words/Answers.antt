use Rattle.std.proofs.Common.{arith}
use Rattle.std.proofs.lemmas.Grind.{common_steps}
use Rattle.ac_automaton.proofs.stream.devices.buffer.Buffer.mask_words.Goals as goal

pub invariant_of-self : goal.invariant_of-self
invariant_of-self g c = grind (arith, common_steps)

pub returns-clause-masks : goal.returns-clause-masks
returns-clause-masks g c = grind (arith, common_steps)

pub mask_words_front-requires-clause-standard : goal.mask_words_front-requires-clause-standard
mask_words_front-requires-clause-standard g c = grind (arith, common_steps)

pub mask_words_front-requires-clause-fits : goal.mask_words_front-requires-clause-fits
mask_words_front-requires-clause-fits g c = grind (arith, common_steps)

pub mask_words_front-requires-clause-near : goal.mask_words_front-requires-clause-near
mask_words_front-requires-clause-near g c = grind (arith, common_steps)

pub mask_words_front-requires-clause-within : goal.mask_words_front-requires-clause-within
mask_words_front-requires-clause-within g c = grind (arith, common_steps)

pub mask_words_front-requires-clause-may : goal.mask_words_front-requires-clause-may
mask_words_front-requires-clause-may g c = grind (arith, common_steps)

pub way_back_following-self : goal.way_back_following-self
way_back_following-self g c = grind (arith, common_steps)

pub returns-clause-same : goal.returns-clause-same
returns-clause-same g c = grind (arith, common_steps)

pub returns-clause-cost : goal.returns-clause-cost
returns-clause-cost g c = grind (arith, common_steps)
