use Rattle.std.proofs.Common.{map}
use Rattle.ac_input.specs.Laws.LiveLaws.{canonical}
use Rattle.ac_noncontiguous.specs.Trie.Entering.{IsWalked}
use Rattle.ac_noncontiguous.specs.Trie.Kept.{KeepsSettings}
use Rattle.ac_noncontiguous.proofs.trie.Trie.enter.Given as goal

abbrev pub invariant-loop-byte : goal.invariant-loop-byte
invariant-loop-byte l =
    KeepsSettings l.initial.self l.self
    × IsWalked l.initial.self.kind l.initial.self.states.items l.self.states.items
    (map (canonical l.initial.self.pairing) l.pattern) l.byte-index l.at
