-- What the tables that were built of patterns find.
use Rattle.std.proofs.Common.{List, ℕ, map, sym, ap, ◌∙◌, subst}
use Rattle.std.specs.Borrow.{Bor}
use Rattle.ac_input.specs.Dictionary.{Dictionary}
use Rattle.ac_input.specs.Same.{IsUnpaired}
use Rattle.ac_automaton.specs.Automaton.{Built}
use Rattle.ac_tables.specs.declared.dfa.DFA.{DFA}
use Rattle.ac_noncontiguous.specs.Builder.{ByDefault}
use Rattle.ac_tables.specs.Dfa.Builder.{IsDfaBuilt}
use Rattle.ac_tables.specs.Dfa.Reads.{dfa_built_as}
use Rattle.aho_corasick.specs.Callers.{FindsBytes}

-- a DFA built with the default settings finds its patterns byte for byte
pub first-dfa : (patterns : List (Bor (List ℕ))) (dfa : DFA) → ByDefault (λ s. IsDfaBuilt s patterns dfa)
    → FindsBytes (map (λ p. p.now) patterns) (dfa_built_as dfa).dictionary
first-dfa patterns dfa (s, first, (nfa, of, made)) =
    let same = ap (λ b. b.dictionary) made.built ∙ of.dictionary in (
      ap (λ m. m.patterns) same,
      ap (λ m. m.kind) same ∙ first.match_kind,
      subst IsUnpaired (sym (ap (λ m. m.pairing) same)) first.pairing,
    )
