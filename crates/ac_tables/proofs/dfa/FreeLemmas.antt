-- An unused byte leads an unanchored search of the standard kind back to the start.
use Rattle.std.proofs.Common.{◌≡◌, ℕ, ◌<◌, IsTrue, List, [], ◌∷◌, ◌++◌}
use Rattle.std.specs.Coded.{Coded-set, coded_ℕ}
use Rattle.std.proofs.Math.Logic.{∥∥₁_elim}
use Rattle.ac_input.specs.declared.search.Anchored.TheVariants.{No}
use Rattle.ac_input.specs.declared.search.MatchKind.TheVariants.{Standard}
use Rattle.ac_input.specs.Alphabet.{has}
use Rattle.ac_automaton.proofs.automaton.FreeLemmas.{read-frees}
use Rattle.ac_tables.specs.declared.dfa.DFA.{DFA}
use Rattle.ac_tables.specs.Dfa.Reads.{dfa_dictionary, IsDfaRead, dfa_named_states}
use Rattle.ac_tables.proofs.source.UnusedByteLemmas.{shared-unused}

-- a search that has just read an unused byte is at the start
pub dfa-frees : (dfa : DFA) (byte : ℕ) → (dfa_dictionary dfa).kind ≡ Standard → byte < 256
    → IsTrue (has dfa.unused byte) → (text : List ℕ) (sid : ℕ) → IsDfaRead dfa No (text ++ byte ∷ []) sid
    → sid ≡ dfa.table.start
dfa-frees dfa byte standard small unused text sid reads =
    ∥∥₁_elim dfa.shared (Coded-set coded_ℕ sid dfa.table.start) (λ share.
    read-frees (dfa_named_states dfa No) text dfa.table.start byte sid standard
    (λ names fits.
    (shared-unused (dfa_dictionary dfa) dfa.table.classes dfa.unused byte fits.1.alone share small unused, fits.1.only))
    reads)
