use Rattle.std.proofs.Common.{◌≡◌}
use Rattle.ac_tables.specs.Contiguous.Table.{words_before}
use Rattle.ac_tables.specs.Contiguous.Build.{IsKnown}
use Rattle.ac_automaton.specs.Named.{nowhere}
use Rattle.std.specs.Prelude.{ℕ}
use Rattle.std.specs.Prelude.{◌≢◌}
use Rattle.std.specs.Prelude.{◌<◌}
use Rattle.ac_tables.proofs.contiguous.states.words.Given as goal

-- the words of the states so far, for which the results of the read calls are right
abbrev pub invariant-loop-state : goal.invariant-loop-state
invariant-loop-state l = record {
  words : l.words.items ≡ words_before l.nfa l.dense_depth l.classes l.state;
  known : ((sid : ℕ) → sid < l.state → sid ≢ nowhere → IsKnown l.nfa sid);
}
