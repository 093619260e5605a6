-- The entries that count from here on are those that count from the index on.
use Rattle.std.proofs.Common.{drop, ◌≡◌}
use Rattle.ac_input.specs.Input.{is_anchored}
use Rattle.ac_automaton.specs.InMemory.Find.Cursor.{counted}
use Rattle.ac_automaton.proofs.in_memory.overlapping.search.next_entry.Given as goal

abbrev pub invariant-loop-index : goal.invariant-loop-index
invariant-loop-index g l =
    let m = (g.A.Automaton.built l.automaton).dictionary in
    let ns = g.A.Automaton.matches l.automaton l.sid in
    counted m (is_anchored l.anchored) l.read (drop l.from ns)
    ≡ counted m (is_anchored l.anchored) l.read (drop l.index ns)
