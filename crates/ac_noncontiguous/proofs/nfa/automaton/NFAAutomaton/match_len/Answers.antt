use Rattle.std.proofs.Common.{ap, sym, ◌∙◌}
use Rattle.ac_noncontiguous.proofs.nfa.LookupLemmas.{kept-read}
use Rattle.ac_noncontiguous.proofs.nfa.ReadLemmas.{state-kept, state-range, list-long}
use Rattle.ac_noncontiguous.proofs.nfa.automaton.NFAAutomaton.match_len.Goals as goal

pub returns : goal.returns
returns c =
    let a = c.args.self.now in
    let kept = state-kept a c.requires.valid in
    let here = ap (λ s. s.matches_len) (kept-read kept c.as_usize.ensures.value c.index.ensures) in
    sym (list-long a.tables.states.items a.tables.matches.items c.args.sid (state-range a c.requires.valid) ∙ here)
