-- Which automaton is made by the settings of a builder.
use Rattle.std.specs.Prelude.{◌≡◌}
use Rattle.ac_input.specs.Dictionary.{Dictionary}
use Rattle.ac_noncontiguous.specs.Builder.{HasRowsBy, IsBuiltBy}
use Rattle.ac_noncontiguous.specs.Nfa.Reads.{built_as}
use Rattle.ac_noncontiguous.specs.declared.nfa.NFA.{NFA}
use Rattle.ac_noncontiguous.specs.declared.settings.Settings.{Settings}
use Rattle.ac_tables.specs.Contiguous.Builder.{IsMadeFrom}
use Rattle.ac_tables.specs.Dfa.Builder.{IsDfaOf}
use Rattle.aho_corasick.specs.declared.engine.Engine.{Engine}
use Rattle.aho_corasick.specs.declared.engine.Engine.TheVariants.{Noncontiguous, Contiguous, Dfa}

-- An automaton is made by the settings: it is the noncontiguous NFA, or a contiguous one or a DFA that is made of it.
abbrev pub IsMadeBy : Settings → NFA → Engine → Type 0
IsMadeBy s from (Noncontiguous nfa) = nfa ≡ from
IsMadeBy s from (Contiguous made) = IsMadeFrom s from made
IsMadeBy s from (Dfa dfa) = IsDfaOf s from dfa

-- it is made so of a noncontiguous NFA that was built by the settings for the dictionary, and has the rows that they
-- ask for
abbrev pub IsMadeAs : Settings → Dictionary → Engine → Type 0
IsMadeAs s m engine = (from : NFA) × IsBuiltBy s.prefilter m (built_as from) × HasRowsBy s from × IsMadeBy s from engine
