use Rattle.std.proofs.Common.{length, ap, sym, ◌∙◌}
use Rattle.ac_tables.proofs.dfa.ReadLemmas.{state-list, state-listed}
use Rattle.ac_tables.proofs.dfa.automaton.DFAAutomaton.match_len.Goals as goal

pub match_list-requires : goal.match_list-requires
match_list-requires c = state-list c.args.self.now c.args.sid c.requires.valid c.requires.matches

pub returns : goal.returns
returns c = ap length (c.match_list.ensures ∙ sym (state-listed c.args.self.now.table c.args.sid c.requires.matches))
