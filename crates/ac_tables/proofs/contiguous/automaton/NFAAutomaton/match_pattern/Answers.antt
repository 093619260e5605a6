use Rattle.std.proofs.Common.{length, slice_get, ap, ◌∙◌, arith}
use Rattle.ac_automaton.proofs.automaton.NamedLemmas.{read-known}
use Rattle.ac_tables.specs.Contiguous.Reads.{contiguous_matches_at, contiguous_named_states}
use Rattle.ac_tables.proofs.contiguous.NameLemmas.{names-are, state-list, state-listed, state-small}
use Rattle.ac_tables.proofs.dfa.ReadLemmas.{some-within}
use Rattle.ac_tables.proofs.contiguous.automaton.NFAAutomaton.match_pattern.Goals as goal

pub match_pattern-requires-clause-list : goal.match_pattern-requires-clause-list
match_pattern-requires-clause-list c =
    state-list c.args.self.now c.args.sid c.requires.valid
    (some-within (contiguous_matches_at c.args.self.now c.args.sid) c.args.index c.requires.within)

pub match_pattern-requires-clause-within : goal.match_pattern-requires-clause-within
match_pattern-requires-clause-within c =
    let a = c.args.self.now in
    let same =
    ap length
    (state-listed a c.args.sid c.requires.valid
    (some-within (contiguous_matches_at a c.args.sid) c.args.index c.requires.within)) in
    omega (arith, same, c.requires.within)

pub match_pattern-requires-clause-known : goal.match_pattern-requires-clause-known
match_pattern-requires-clause-known c = λ k n is.
    let a = c.args.self.now in
    let listed = state-listed a c.args.sid c.requires.valid
    (some-within (contiguous_matches_at a c.args.sid) c.args.index c.requires.within) in
    state-small a c.args.sid k n c.requires.valid (ap (λ ns. slice_get ns k) listed ∙ is)

pub returns-clause-value : goal.returns-clause-value
returns-clause-value c =
    let a = c.args.self.now in
    let listed = state-listed a c.args.sid c.requires.valid
    (some-within (contiguous_matches_at a c.args.sid) c.args.index c.requires.within) in
    ap (λ ns. slice_get ns c.args.index) listed ∙ c.match_pattern.ensures

pub returns-clause-known : goal.returns-clause-known
returns-clause-known c =
    let a = c.args.self.now in
    let listed = state-listed a c.args.sid c.requires.valid
    (some-within (contiguous_matches_at a c.args.sid) c.args.index c.requires.within) in
    read-known (contiguous_named_states a) c.args.sid c.args.index c.match_pattern.result (names-are a) c.requires.valid
    (ap (λ ns. slice_get ns c.args.index) listed ∙ c.match_pattern.ensures)
