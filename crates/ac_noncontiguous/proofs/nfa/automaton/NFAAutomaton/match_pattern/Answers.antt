use Rattle.std.proofs.Common.{◌≡◌, ◌+◌, get_or, ap, sym, subst}
use Rattle.ac_noncontiguous.proofs.nfa.LookupLemmas.{kept-read}
use Rattle.ac_noncontiguous.proofs.nfa.ReadLemmas.{state-kept, state-range, list-at, state-known}
use Rattle.ac_noncontiguous.proofs.nfa.automaton.NFAAutomaton.match_pattern.Goals as goal

pub returns-clause-value : goal.returns-clause-value
returns-clause-value c =
    let a = c.args.self.now in
    let kept = state-kept a c.requires.valid in
    let here = ap (λ s. s.matches) (kept-read kept c.as_usize.ensures.value c.index.ensures) in
    let range = state-range a c.requires.valid in
    list-at a.tables.states.items a.tables.matches.items c.args.sid range c.requires.within
    (subst (λ k. c.index-2.result.now ≡ get_or a.tables.matches.items (k + c.args.index) c.index-2.result.now)
    (sym here) c.index-2.ensures)

pub returns-clause-known : goal.returns-clause-known
returns-clause-known c = state-known c.args.self.now c.args.index c.requires.valid (returns-clause-value c)
