-- A word that isn't empty is a full text.
use Rattle.example_callers.proofs.texts.TextLemmas.{full-pushed}
use Rattle.example_callers.proofs.texts.full_texts.Goals as goal

pub loop-word-preserved : goal.loop-word-preserved
loop-word-preserved c =
    full-pushed c.loop-word.texts.items _ c.as_bytes.result _ c.loop-word.invariant c.as_bytes.ensures.utf8
    c.if-is_empty.ensures c.as_bytes.ensures.len c.in_ok-push.ensures.items
