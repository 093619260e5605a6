-- The states at which a search of the noncontiguous automaton begins.
use Rattle.std.proofs.Common.{arith}
use Rattle.std.proofs.Math.Logic.{∥∥₁_elim}
use Rattle.std.specs.Coded.{le_prop}
use Rattle.ac_input.specs.declared.search.Anchored.TheVariants.{No, Yes}
use Rattle.ac_noncontiguous.specs.declared.nfa.NFA.{NFA}
use Rattle.ac_noncontiguous.specs.Nfa.ReadCalls.{MayBeMet, special_in, OfTexts, AreBounds}

-- an unanchored search may be at its start state
pub unanchored-met : (nfa : NFA) → OfTexts nfa (λ text. AreBounds nfa text (special_in nfa))
    → MayBeMet nfa No (special_in nfa).start_unanchored_id
unanchored-met nfa order = record {
  within = ∥∥₁_elim nfa.stands le_prop (λ w. let b = order w.0 w.1 in omega (arith, b.next, b.within));
  stands = λ e. ∥∥₁_elim nfa.stands (λ x y. absurd x) (λ w. let b = order w.0 w.1 in absurd (omega (arith, b.past, e)));
  own = λ e. absurd (omega (arith, e));
}

-- an anchored search may be at its start state
pub anchored-met : (nfa : NFA) → OfTexts nfa (λ text. AreBounds nfa text (special_in nfa))
    → MayBeMet nfa Yes (special_in nfa).start_anchored_id
anchored-met nfa order = record {
  within = ∥∥₁_elim nfa.stands le_prop (λ w. (order w.0 w.1).within);
  stands = λ e. ∥∥₁_elim nfa.stands (λ x y. absurd x)
      (λ w. let b = order w.0 w.1 in absurd (omega (arith, b.past, b.next, e)));
  own = λ e. absurd (omega (arith, e));
}
