use Rattle.ac_input.specs.Laws.Utf8Laws.{AreFullTexts}
use Rattle.ac_literal.specs.Packed.{bytes_of}
use Rattle.example_callers.proofs.texts.full_texts.Given as goal

abbrev pub invariant-loop-word : goal.invariant-loop-word
invariant-loop-word l = AreFullTexts (bytes_of l.texts.items)
