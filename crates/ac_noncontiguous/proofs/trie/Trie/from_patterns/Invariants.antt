use Rattle.ac_input.specs.Limits.{first_patterns}
use Rattle.ac_input.specs.Dictionary.{dictionary_of}
use Rattle.ac_literal.specs.Packed.{bytes_of}
use Rattle.ac_noncontiguous.specs.Trie.Kept.{IsTrieOf}
use Rattle.ac_noncontiguous.proofs.trie.Trie.from_patterns.Given as goal

abbrev pub invariant-loop-pattern : goal.invariant-loop-pattern
invariant-loop-pattern l =
    IsTrieOf (first_patterns (dictionary_of (bytes_of l.patterns) l.fn.pairing l.fn.kind) l.pattern-index) l.trie
