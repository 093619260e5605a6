-- What the front builds for settings and rules, or why it builds nothing.
use Rattle.std.proofs.Common.{◌≡◌, ◌≢◌, ℕ, List, None, inl, inr, refl, sym, subst}
use Rattle.std.specs.Prelude.{IsTrue}
use Rattle.ac_input.specs.Dfa.{Serves}
use Rattle.ac_input.specs.Dictionary.{Dictionary}
use Rattle.ac_input.specs.Rules.{Rule}
use Rattle.ac_input.specs.declared.search.Anchored.TheVariants.{No}
use Rattle.ac_noncontiguous.specs.declared.error.BuildErrorKind.{BuildErrorKind}
use Rattle.ac_noncontiguous.specs.declared.error.BuildErrorKind.TheVariants as limits
use Rattle.ac_noncontiguous.specs.declared.settings.Settings.{Settings as BuildSettings}
use Rattle.aho_corasick.specs.AhoCorasick.{as_built, serving_engine, start_kind_of}
use Rattle.aho_corasick.specs.Engine.{kind_served}
use Rattle.aho_corasick.specs.Served.{IsFrontBuilt, IsFrontBuildRefused, IsServed, TakesDfa}
use Rattle.aho_corasick.specs.declared.ahocorasick.AhoCorasick.{AhoCorasick}
use Rattle.aho_corasick.specs.declared.ahocorasick.AhoCorasickKind.{AhoCorasickKind}
use Rattle.aho_corasick.specs.declared.ahocorasick.AhoCorasickKind.TheVariants as kinds
use Rattle.aho_corasick.proofs.lemmas.EngineLemmas.{front-deterministic}
use Rattle.acsub.specs.Finder.{FailsToBuild, IsFinderOf, IsServing, not_built}
use Rattle.acsub.specs.Served.{IsBuildable, IsServedByDfa, automaton_named, builder_by, dictionary_for}
use Rattle.acsub.specs.Rules.Sides.{rule_patterns}
use Rattle.acsub.specs.declared.prepared.Finder.{Finder}
use Rattle.acsub.specs.declared.prepared.Finder.TheVariants as finders
use Rattle.acsub.specs.declared.args.settings.Engine.TheVariants as engines
use Rattle.acsub.specs.declared.args.settings.Settings.{Settings}

-- if the front takes a DFA, the automaton that it serves is one
taken-dfa : (s : BuildSettings) (m : Dictionary) (kind : AhoCorasickKind) → TakesDfa s m → IsServed None s m kind
    → kind ≡ kinds.DFA
taken-dfa s m kinds.DFA takes taken = refl
taken-dfa s m kinds.ContiguousNFA takes taken = absurd (taken.0 takes)
taken-dfa s m kinds.NoncontiguousNFA takes taken = absurd (taken.0 takes)

-- if a DFA serves settings and rules, the automaton for them is one
served-dfa : (settings : Settings) (rules : List Rule) (kind : AhoCorasickKind)
    → IsServed (automaton_named settings.engine) (builder_by settings).settings (dictionary_for settings rules) kind
    → IsServedByDfa settings rules → kind ≡ kinds.DFA
served-dfa settings rules kind served (inl named) =
    (subst (λ e. IsServed (automaton_named e) (builder_by settings).settings (dictionary_for settings rules) kind) named
    served).0
served-dfa settings rules kind served (inr (auto, takes)) =
    taken-dfa (builder_by settings).settings (dictionary_for settings rules) kind takes
    (subst (λ e. IsServed (automaton_named e) (builder_by settings).settings (dictionary_for settings rules) kind) auto
    served)

-- what the builder made of the rules' patterns serves
pub built-serves : (settings : Settings) (rules : List Rule) (patterns : List (List ℕ)) (ac : AhoCorasick)
    → patterns ≡ rule_patterns rules → start_kind_of ac ≡ (builder_by settings).settings.start_kind
    → IsFrontBuilt (builder_by settings) patterns ac → IsServing settings rules ac
built-serves settings rules patterns ac same starts built = record {
  built = subst (λ ps. IsFrontBuilt (builder_by settings) ps ac) same built;
  start = subst (λ k. Serves k No) (sym starts) refl;
}

-- an automaton that serves looks at one state for a byte where a DFA does
pub serving-looks : (settings : Settings) (rules : List Rule) (ac : AhoCorasick) → IsServing settings rules ac
    → IsServedByDfa settings rules → IsTrue (as_built ac).deterministic
serving-looks settings rules ac serves by_dfa =
    front-deterministic ac (served-dfa settings rules (kind_served (serving_engine ac)) serves.built.served by_dfa)

-- the patterns for which there is a finder pass no limit
pub finder-buildable : (settings : Settings) (rules : List Rule) (finder : Finder) → IsFinderOf settings rules finder
    → IsBuildable settings rules
finder-buildable settings rules (finders.Automaton ac) serves =
    λ named. (serves.built.within, kind_served (serving_engine ac), serves.built.served)
finder-buildable settings rules (finders.Packed searcher) serves = λ named. absurd (named serves.2)

-- a build that failed passed a limit, or ran out of memory
pub refused-fails : (settings : Settings) (rules : List Rule) (error : BuildErrorKind)
    → settings.engine ≢ engines.Packed → IsFrontBuildRefused (builder_by settings) (rule_patterns rules) error
    → FailsToBuild settings rules (not_built error)
refused-fails settings rules (limits.StateIDOverflow max requested) named refused = (named, λ e. cc, refused)
refused-fails settings rules (limits.PatternIDOverflow max requested) named refused = (named, λ e. cc, refused)
refused-fails settings rules (limits.PatternTooLong pattern len) named refused = (named, λ e. cc, refused)
refused-fails settings rules limits.Memory named refused = tt
