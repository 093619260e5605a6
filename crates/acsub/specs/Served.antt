-- Which automaton the front's builder chooses for a run, and what depends on it: the limits of a build, and the
-- look-ups a byte.
use Rattle.std.specs.Prelude.{◌≡◌, ◌≢◌, ◌⊎◌, ℕ, ◌+◌, ◌*◌, ◌≤◌, true, false, List, Option, None, Some}
use Rattle.ac_input.specs.Dictionary.{Dictionary}
use Rattle.ac_input.specs.Limits.{IsWithinLimits}
use Rattle.ac_input.specs.Rules.{Rule}
use Rattle.ac_input.specs.Work.{lookups_per_byte}
use Rattle.ac_input.specs.declared.search.StartKind.TheVariants as starts
use Rattle.ac_input.specs.declared.steps.Steps.{Steps}
use Rattle.ac_noncontiguous.specs.Builder.{default_row_memory}
use Rattle.ac_noncontiguous.specs.declared.error.BuildErrorKind.{BuildErrorKind}
use Rattle.ac_noncontiguous.specs.declared.error.BuildErrorKind.TheVariants as limits
use Rattle.aho_corasick.specs.Served.{IsFrontBuildRefused, IsServed, TakesDfa}
use Rattle.aho_corasick.specs.declared.ahocorasick.AhoCorasickKind.{AhoCorasickKind}
use Rattle.aho_corasick.specs.declared.ahocorasick.AhoCorasickKind.TheVariants as kinds
use Rattle.aho_corasick.specs.declared.ahocorasick.builder.AhoCorasickBuilder.{AhoCorasickBuilder}
use Rattle.acsub.specs.Plan.{Plan}
use Rattle.acsub.specs.Rules.Sides.{rule_patterns}
use Rattle.acsub.specs.declared.args.settings.Engine.{Engine}
use Rattle.acsub.specs.declared.args.settings.Engine.TheVariants as engines
use Rattle.acsub.specs.declared.args.settings.Settings.{Settings}

-- the automaton that an engine's word names; `auto` leaves the choice to the front, and `packed` names none
abbrev pub automaton_named : Engine → Option AhoCorasickKind
automaton_named engines.Auto = None
automaton_named engines.Noncontiguous = Some kinds.NoncontiguousNFA
automaton_named engines.Contiguous = Some kinds.ContiguousNFA
automaton_named engines.Dfa = Some kinds.DFA
automaton_named engines.Packed = None

-- the builder of the automaton, whose searches are unanchored
abbrev pub builder_by : Settings → AhoCorasickBuilder
builder_by s = record {
  settings = record {
    match_kind = s.kind;
    start_kind = starts.Unanchored;
    pairing = s.pairing;
    prefilter = s.prefilter;
    dense_depth = s.dense_depth;
    byte_classes = s.byte_classes;
    row_memory = default_row_memory;
  };
  kind = automaton_named s.engine;
}

-- what an automaton is built from
abbrev pub dictionary_for : Settings → List Rule → Dictionary
dictionary_for settings rules =
    record { patterns = rule_patterns rules; pairing = settings.pairing; kind = settings.kind }

-- ---- the limits

-- The settings ask for an automaton, and the rules' patterns exceed this limit: one of every build, or one of the
-- automaton that is named. Out of memory is no limit.
abbrev pub IsNotBuilt : Settings → List Rule → BuildErrorKind → Type 0
IsNotBuilt settings rules error =
    (settings.engine ≢ engines.Packed) × (error ≢ limits.Memory)
    × IsFrontBuildRefused (builder_by settings) (rule_patterns rules) error

-- if the settings ask for an automaton, the rules' patterns are within all limits, and some automaton serves them
abbrev pub IsBuildable : Settings → List Rule → Type 0
IsBuildable settings rules =
    settings.engine ≢ engines.Packed
    → IsWithinLimits (dictionary_for settings rules)
    × (kind : AhoCorasickKind)
    × IsServed (builder_by settings).kind (builder_by settings).settings (dictionary_for settings rules) kind

-- ---- the look-ups

-- a DFA serves: the engine's word names it, or leaves the choice to the front, which takes one
abbrev pub IsServedByDfa : Settings → List Rule → Type 0
IsServedByDfa settings rules =
    (settings.engine ≡ engines.Dfa)
    ⊎ ((settings.engine ≡ engines.Auto) × TakesDfa (builder_by settings).settings (dictionary_for settings rules))

-- n bytes take at most two look-ups each, and at most one each where a DFA serves.
pub record AreLooksFor (plan : Plan) (n : ℕ) (before after : Steps) : Type 0 where
  pub most : after.looked.value ≤ before.looked.value + lookups_per_byte false * n
  pub by_dfa : IsServedByDfa plan.settings plan.rules
      → after.looked.value ≤ before.looked.value + lookups_per_byte true * n
