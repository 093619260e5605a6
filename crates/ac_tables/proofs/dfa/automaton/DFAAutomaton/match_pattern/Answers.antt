use Rattle.std.proofs.Common.{◌≡◌, ◌<◌, length, sym, subst, refl, ◌∙◌, Some, slice_get}
use Rattle.std.proofs.lemmas.Option.{slice_get_read}
use Rattle.ac_tables.specs.Dfa.Reads.{dfa_matches_at}
use Rattle.ac_tables.proofs.dfa.ReadLemmas.{state-list, state-listed, state-known, some-within}
use Rattle.ac_tables.proofs.dfa.automaton.DFAAutomaton.match_pattern.Goals as goal

pub match_list-requires : goal.match_list-requires
match_list-requires c =
    state-list c.args.self.now c.args.sid c.requires.valid
    (some-within (dfa_matches_at c.args.self.now c.args.sid) c.args.index c.requires.within)

pub returns-clause-value : goal.returns-clause-value
returns-clause-value c =
    let a = c.args.self.now in
    let ns = c.match_list.result.now in
    let n = c.index-match_list-index.result in
    let same : dfa_matches_at a c.args.sid
    ≡ ns = state-listed a.table c.args.sid (some-within (dfa_matches_at a c.args.sid) c.args.index c.requires.within)
    ∙ sym c.match_list.ensures in
    let within = subst (λ l. c.args.index < length l) same c.requires.within in
    subst (λ l. slice_get l c.args.index ≡ Some n) (sym same)
    (slice_get_read ns (length ns) c.args.index n refl within c.index-match_list-index.is)

pub returns-clause-known : goal.returns-clause-known
returns-clause-known c =
    state-known c.args.self.now c.args.sid c.args.index c.index-match_list-index.result c.requires.valid
    (returns-clause-value c)
