use Rattle.std.proofs.Common.{ap, length, sym, ◌∙◌}
use Rattle.ac_tables.proofs.contiguous.NameLemmas.{state-list, state-listed}
use Rattle.ac_tables.proofs.contiguous.automaton.NFAAutomaton.match_len.Goals as goal

pub match_len-requires : goal.match_len-requires
match_len-requires c = state-list c.args.self.now c.args.sid c.requires.valid c.requires.matches

pub returns : goal.returns
returns c =
    c.match_len.ensures ∙ sym (ap length (state-listed c.args.self.now c.args.sid c.requires.valid c.requires.matches))
