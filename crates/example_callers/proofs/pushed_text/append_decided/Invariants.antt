-- A part of the text was appended, and the rest is still to come.
use Rattle.std.proofs.Common.{◌-◌, length, map}
use Rattle.ac_automaton.specs.Stream.{read_by}
use Rattle.example_callers.proofs.pushed_text.PushedTextLemmas.{HasAppended}
use Rattle.example_callers.proofs.pushed_text.append_decided.Given as goal

abbrev pub invariant-loop : goal.invariant-loop
invariant-loop g l = HasAppended l.fn.replacer l.replacer (map (λ r. r.now) l.replacements) l.fn.text.items l.text.items

abbrev pub decreases-loop : goal.decreases-loop
decreases-loop g l = length (read_by l.replacer.search) - l.replacer.at
