-- How far the search has come, that its cost is paid for, and that each byte it passed is counted.
use Rattle.std.proofs.Common.{◌-◌}
use Rattle.ac_input.specs.Input.{search_of}
use Rattle.ac_input.specs.Work.{HasCounted}
use Rattle.ac_automaton.specs.Automaton.{prefilter_for}
use Rattle.ac_automaton.proofs.lemmas.CandidateLemmas.{HasSkippedTo}
use Rattle.ac_automaton.proofs.in_memory.overlapping.search.search_by_candidates.Given as goal

abbrev pub invariant-loop-shown : goal.invariant-loop-shown
invariant-loop-shown g l =
    HasSkippedTo (g.A.Automaton.built l.automaton).deterministic
    (search_of (g.A.Automaton.built l.automaton).dictionary l.input.anchored l.input.haystack l.input.span) l.fn.at
    l.place l.fn.steps l.steps
    × HasCounted (prefilter_for (g.A.Automaton.built l.automaton) l.input.anchored) (l.place - l.fn.at) l.fn.steps
    l.steps

abbrev pub decreases-loop-shown : goal.decreases-loop-shown
decreases-loop-shown g l = l.fn.input.span.end - l.place
