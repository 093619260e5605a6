use Rattle.std.proofs.Common.{◌≡◌, ◌+◌}
use Rattle.ac_input.specs.Dictionary.{Dictionary}
use Rattle.ac_input.specs.Laws.LiveLaws.{canonical}
use Rattle.ac_noncontiguous.specs.Trie.Tree.{depth}
use Rattle.ac_noncontiguous.specs.Trie.Kept.{IsTrieOf}
use Rattle.ac_noncontiguous.specs.Links.Failures.{AreFailsAbove, IsWithinDepth}
use Rattle.std.specs.Prelude.{◌≢◌, ℕ, []}
use Rattle.ac_input.specs.declared.search.MatchKind.TheVariants.{Standard}
use Rattle.ac_input.specs.Failure.{IsOwn}
use Rattle.ac_noncontiguous.proofs.trie.FailLemmas.{Follows, failures_left}
use Rattle.ac_noncontiguous.proofs.trie.Trie.next.Given as goal

abbrev pub invariant-loop-at : goal.invariant-loop-at
invariant-loop-at l = record {
  shallow : IsWithinDepth l.self.states.items (depth l.self.states.items l.fn.from) l.at;
  follows : (m : Dictionary) → IsTrieOf m l.self → (m.kind ≢ Standard → (n : ℕ) → ¬ IsOwn m [] n)
      → canonical m.pairing l.byte ≡ l.byte
      → AreFailsAbove m l.self.states.items l.fails (depth l.self.states.items l.fn.from + 1)
      → Follows m l.self.states.items l.byte l.fn.from l.at;
}

abbrev pub decreases-loop-at : goal.decreases-loop-at
decreases-loop-at l = failures_left l.self.states.items l.at
