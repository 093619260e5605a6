-- What finds the matches of an input: an automaton, or packed search.
use Rattle.std.specs.Prelude.{◌≡◌, ℕ, List, false}
use Rattle.ac_input.specs.declared.search.Anchored.TheVariants.{No}
use Rattle.ac_input.specs.declared.search.MatchKind as kinds
use Rattle.ac_input.specs.Computed.{walk_of, listing_of}
use Rattle.ac_input.specs.Dictionary.{whole}
use Rattle.ac_input.specs.Occurrence.{Occurrence}
use Rattle.ac_input.specs.Rules.{Rule}
use Rattle.ac_input.specs.Same.{IsUnpaired}
use Rattle.ac_literal.specs.Packed.{Packed, search_kind}
use Rattle.ac_noncontiguous.specs.declared.error.BuildErrorKind.{BuildErrorKind}
use Rattle.ac_noncontiguous.specs.declared.error.BuildErrorKind.TheVariants as limits
use Rattle.aho_corasick.specs.AhoCorasick.{supported_by}
use Rattle.aho_corasick.specs.Served.{IsFrontBuilt}
use Rattle.aho_corasick.specs.declared.ahocorasick.AhoCorasick.{AhoCorasick}
use Rattle.acsub.specs.declared.error.RunError.{RunError}
use Rattle.acsub.specs.declared.error.RunError.TheVariants as errors
use Rattle.acsub.specs.declared.prepared.Finder.{Finder}
use Rattle.acsub.specs.declared.prepared.Finder.TheVariants as finders
use Rattle.acsub.specs.declared.args.settings.Engine.TheVariants as engines
use Rattle.acsub.specs.declared.args.settings.Settings.{Settings}
use Rattle.acsub.specs.Plan.{Plan}
use Rattle.acsub.specs.Served.{IsNotBuilt, builder_by, dictionary_for}
use Rattle.acsub.specs.Rules.Sides.{rule_patterns}

-- the matches of a plan's walk over the whole input
abbrev pub whole_walk : Plan → List ℕ → List Occurrence
whole_walk plan input = walk_of plan.settings.kind (whole (dictionary_for plan.settings plan.rules) input false)

-- all overlapping matches of a plan in the whole input
abbrev pub whole_listing : Plan → List ℕ → List Occurrence
whole_listing plan input = listing_of (whole (dictionary_for plan.settings plan.rules) input false)

-- the packed search is one for these patterns and this kind
abbrev pub IsPackedFor : kinds.MatchKind → List (List ℕ) → Packed → Type 0
IsPackedFor kind patterns searcher = (search_kind searcher.kind ≡ kind) × (searcher.patterns ≡ patterns)

-- An automaton serves settings and rules: it is built of the rules' patterns by the settings, and has a start for
-- searches that may match anywhere.
pub record IsServing (settings : Settings) (rules : List Rule) (ac : AhoCorasick) : Type 0 where
  pub built : IsFrontBuilt (builder_by settings) (rule_patterns rules) ac
  pub start : supported_by ac No

-- What finds the matches of settings and rules: an automaton that serves them; or a packed search for the patterns and
-- the kind, where the engine's word names it and no bytes are paired.
abbrev pub IsFinderOf : Settings → List Rule → Finder → Type 0
IsFinderOf settings rules (finders.Automaton automaton) = IsServing settings rules automaton
IsFinderOf settings rules (finders.Packed searcher) =
    IsPackedFor settings.kind (rule_patterns rules) searcher × IsUnpaired settings.pairing
    × (settings.engine ≡ engines.Packed)

-- the run's error for a failed build; out of memory is reported as itself, as it is no limit
abbrev pub not_built : BuildErrorKind → RunError
not_built (limits.StateIDOverflow max requested) = errors.Build (limits.StateIDOverflow max requested)
not_built (limits.PatternIDOverflow max requested) = errors.Build (limits.PatternIDOverflow max requested)
not_built (limits.PatternTooLong pattern len) = errors.Build (limits.PatternTooLong pattern len)
not_built limits.Memory = errors.Memory

-- why nothing is built for settings and rules: their patterns exceed a limit, or memory ran out
abbrev pub FailsToBuild : Settings → List Rule → RunError → Type 0
FailsToBuild settings rules (errors.Build kind) = IsNotBuilt settings rules kind
FailsToBuild settings rules errors.Memory = Unit {0}
FailsToBuild settings rules other = ⊥
