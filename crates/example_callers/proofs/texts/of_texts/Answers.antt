use Rattle.std.proofs.lemmas.Result.{IfOk-weaker}
use Rattle.ac_literal.specs.Packed.{bytes_of}
use Rattle.example_callers.proofs.texts.TextLemmas.{starts-served, texts-found}
use Rattle.example_callers.proofs.texts.of_texts.Goals as goal

pub returns-clause-can : goal.returns-clause-can
returns-clause-can c =
    starts-served c.new.result (IfOk-weaker c.new.result _ _ (λ ac built. built.starts) c.new.ensures.served)

pub returns-clause-texts : goal.returns-clause-texts
returns-clause-texts c =
    texts-found (bytes_of c.args.texts.now) c.new.result c.folding_keeps_chars.ensures c.requires c.new.ensures.finds
