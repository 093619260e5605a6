-- The law that relates packed searches and searches by an automaton.
use Rattle.std.specs.Prelude.{◌≡◌, ℕ, List}
use Rattle.ac_input.specs.Input.{whole_of}
use Rattle.ac_input.specs.Same.{IsUnpaired}
use Rattle.ac_literal.specs.Packed.{Packed, matches_of, search_kind}
use Rattle.ac_automaton.specs.Automaton.{Built, walk_in}

-- If no byte is paired, a packed searcher and an automaton of the same patterns and the same leftmost kind have the
-- same matches in every whole text.
abbrev pub PackedWalksAlike : Type 0
PackedWalksAlike =
    (packed : Packed) (b : Built) (text : List ℕ)
    → b.dictionary.patterns ≡ packed.patterns → b.dictionary.kind ≡ search_kind packed.kind
    → IsUnpaired b.dictionary.pairing
    → matches_of packed text ≡ walk_in b (whole_of text)
