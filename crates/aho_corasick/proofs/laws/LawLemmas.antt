-- A packed search has the same matches as an automaton.
use Rattle.std.proofs.Common.{None, [], ap, sym, ◌∙◌}
use Rattle.ac_input.specs.Computed.{walk_of}
use Rattle.ac_input.proofs.lemmas.SameLemmas.{unpaired-none}
use Rattle.ac_input.proofs.lemmas.UnpairedLemmas.{walk_after-unpaired}
use Rattle.ac_literal.specs.Packed.{in_whole}
use Rattle.aho_corasick.specs.Laws.{PackedWalksAlike}

-- if no byte is paired, packed search has the same matches as an automaton, since it pairs none
pub packed-alike : PackedWalksAlike
packed-alike packed b text patterns kind unpaired =
    ap (λ k. walk_of k (in_whole packed.patterns text)) (sym kind)
    ∙ (ap (λ ps. walk_of b.dictionary.kind (in_whole ps text)) (sym patterns)
    ∙ walk_after-unpaired b.dictionary.kind (in_whole b.dictionary.patterns text) [] b.dictionary.pairing unpaired-none
    unpaired 0 None)
