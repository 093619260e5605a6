-- The match is an occurrence in the whole text, so it lies between characters.
use Rattle.aho_corasick.specs.AhoCorasick.{as_built}
use Rattle.example_callers.proofs.texts.TextLemmas.{match-between, part-first, none-first}
use Rattle.example_callers.proofs.texts.matched_text.Goals as goal

pub of_text-requires-clause-start : goal.of_text-requires-clause-start
of_text-requires-clause-start c =
    (match-between (as_built c.args.ac.now) c.args.text.now c.from.result c.in-Some.found c.span.result
    c.text_occurs_between_chars.ensures c.requires.texts c.utf8.text c.from.ensures c.in-Some.ensures.found
    c.span.ensures).0

pub of_text-requires-clause-end : goal.of_text-requires-clause-end
of_text-requires-clause-end c =
    (match-between (as_built c.args.ac.now) c.args.text.now c.from.result c.in-Some.found c.span.result
    c.text_occurs_between_chars.ensures c.requires.texts c.utf8.text c.from.ensures c.in-Some.ensures.found
    c.span.ensures).1

pub returns-in-Some : goal.returns-in-Some
returns-in-Some c =
    part-first (as_built c.args.ac.now) c.args.text.now c.from.result c.in-Some.found c.span.result c.of_text.result
    c.from.ensures c.in-Some.ensures.found c.span.ensures c.of_text.ensures

pub returns-in-None : goal.returns-in-None
returns-in-None c =
    none-first (as_built c.args.ac.now) c.args.text.now c.from.result c.from.ensures c.in-None.ensures.found
