-- What a handle holds.
use base.Stored.{Coded}
use Rattle.std.specs.declared.option.Option.{Option}
use Rattle.std.specs.Coded.{coded_option}
use Rattle.aho_corasick.specs.contracts.ahocorasick.AhoCorasick.{the_row}

-- an automaton, or none
abbrev pub HeldAutomaton : Type 0
HeldAutomaton = Option the_row.Denot

abbrev pub automaton_coded : Coded HeldAutomaton
automaton_coded = coded_option the_row.coded
