-- The settings of an `AhoCorasickBuilder`.
use Rattle.std.specs.Prelude.{◌≡◌, List, ℕ, None}
use Rattle.ac_input.specs.Dictionary.{Dictionary, dictionary_of}
use Rattle.ac_noncontiguous.specs.Builder.{AreDefaultSettings}
use Rattle.ac_noncontiguous.specs.declared.settings.Settings.{Settings}
use Rattle.aho_corasick.specs.declared.ahocorasick.builder.AhoCorasickBuilder.{AhoCorasickBuilder}

-- a builder whose settings are changed so
abbrev pub changed : AhoCorasickBuilder → (Settings → Settings) → AhoCorasickBuilder
changed b change = record b { settings = change b.settings }

-- the default settings, with no automaton named
pub record AreFrontDefaults (b : AhoCorasickBuilder) : Type 0 where
  pub settings : AreDefaultSettings b.settings
  pub kind : b.kind ≡ None

-- the dictionary of these patterns, with the kind and pairing that were set
abbrev pub front_dictionary : Settings → List (List ℕ) → Dictionary
front_dictionary s patterns = dictionary_of patterns s.pairing s.match_kind
