-- An anchored search finds a pattern that begins the text.
use Rattle.std.proofs.Common.{Ok, refl}
use Rattle.aho_corasick.specs.AhoCorasick.{as_built, supported_by}
use Rattle.aho_corasick.proofs.lemmas.FindLemmas.{begins-found, found-anchored}
use Rattle.example_callers.proofs.find.begins_with_any.Goals as goal

pub returns : goal.returns
returns c =
    let b = as_built c.args.ac.now in
    begins-found b.dictionary.kind b.dictionary c.args.text.now _ _
    (found-anchored b (supported_by c.args.ac.now) c.args.text.now _ _ (Ok c.in_ok-found.found) _
    c.in_ok-found.ensures.answer refl c.anchored.ensures c.new.ensures) c.is_some.ensures
