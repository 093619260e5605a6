-- A replacement that succeeds has replaced all matches.
use Rattle.std.specs.String.{string_bytes}
use Rattle.ac_automaton.specs.InMemory.Replace.{text_matches_in}
use Rattle.aho_corasick.specs.AhoCorasick.{as_built, supported_by}
use Rattle.aho_corasick.proofs.lemmas.ReplaceLemmas.{if-replaced}
use Rattle.aho_corasick.proofs.ahocorasick.AhoCorasick.try_replace_all.Goals as goal

pub returns-clause-replaced : goal.returns-clause-replaced
returns-clause-replaced c =
    if-replaced string_bytes text_matches_in (as_built c.args.self.now) (supported_by c.args.self.now)
    c.args.haystack.now c.args.replacements.now c.try_replace_all.result c.try_replace_all.ensures
