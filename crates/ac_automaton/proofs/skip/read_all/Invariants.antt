-- What is known of the state after the bytes read so far.
use Rattle.std.proofs.Common.{false}
use Rattle.ac_input.specs.Number.{StateID}
use Rattle.ac_input.specs.declared.search.Anchored.TheVariants.{No}
use Rattle.ac_automaton.proofs.lemmas.CursorLemmas.{HasAdvanced}
use Rattle.ac_automaton.proofs.skip.read_all.Given as goal

abbrev pub invariant-loop-byte : goal.invariant-loop-byte
invariant-loop-byte g l =
    HasAdvanced (g.A.LookUp.built l.automaton) (g.A.LookUp.Reaches l.automaton) No (λ (i : StateID). false) l.fn.sid
    l.bytes l.byte-index l.current l.initial.steps l.steps
