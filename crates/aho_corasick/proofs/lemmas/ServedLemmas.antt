-- An automaton that is made from a noncontiguous NFA finds what that finds, and is the one that serves.
use Rattle.std.specs.Prelude.{◌≡◌, ◌≢◌, ℕ, ◌<◌, ◌≤◌, List, length, Option, None, Some, Result, Ok, Err, IfOk, IfErr}
use Rattle.std.proofs.Common.{subst, sym, ap, ◌∙◌, refl, inl, inr}
use Rattle.std.proofs.Math.Logic.{∥∥₁_elim}
use Rattle.ac_input.specs.declared.search.StartKind.{StartKind}
use Rattle.ac_input.specs.declared.search.StartKind.TheVariants.{Both}
use Rattle.ac_input.specs.Dfa.{Serves}
use Rattle.ac_automaton.specs.Automaton.{Built}
use Rattle.ac_input.specs.Dictionary.{Dictionary}
use Rattle.ac_noncontiguous.specs.Builder.{HasRowsBy, IsBuiltBy, IsHeld}
use Rattle.ac_noncontiguous.specs.Nfa.Reads.{built_as, dictionary}
use Rattle.ac_noncontiguous.specs.declared.error.BuildErrorKind.{BuildErrorKind}
use Rattle.ac_noncontiguous.specs.declared.error.BuildErrorKind.TheVariants.{StateIDOverflow, PatternIDOverflow, PatternTooLong, Memory}
use Rattle.ac_noncontiguous.specs.declared.nfa.NFA.{NFA}
use Rattle.ac_noncontiguous.specs.declared.settings.Settings.{Settings}
use Rattle.ac_tables.specs.declared.contiguous.NFA.{NFA as ContiguousNFA}
use Rattle.ac_tables.specs.declared.dfa.DFA.{DFA}
use Rattle.ac_tables.specs.Contiguous.Builder.{IsMadeFrom, IsRefusedFrom, contiguous_dense_depth}
use Rattle.ac_tables.specs.Contiguous.Table.{IsContiguousTooLarge}
use Rattle.ac_tables.specs.Dfa.Builder.{IsDfaOf, IsTooLargeOr}
use Rattle.aho_corasick.specs.declared.ahocorasick.AhoCorasick.{AhoCorasick}
use Rattle.aho_corasick.specs.declared.ahocorasick.AhoCorasickKind.{AhoCorasickKind}
use Rattle.aho_corasick.specs.declared.ahocorasick.AhoCorasickKind.TheVariants as kinds
use Rattle.aho_corasick.specs.declared.ahocorasick.builder.AhoCorasickBuilder.{AhoCorasickBuilder}
use Rattle.aho_corasick.specs.declared.engine.Engine.{Engine}
use Rattle.aho_corasick.specs.declared.engine.Engine.TheVariants.{Noncontiguous, Contiguous, Dfa}
use Rattle.aho_corasick.specs.AhoCorasick.{as_built, serving_engine, settings_of, start_kind_of}
use Rattle.aho_corasick.specs.Builder.{front_dictionary}
use Rattle.aho_corasick.specs.Engine.{engine_built_as, engine_supported_by, kind_served}
use Rattle.aho_corasick.specs.Made.{IsMadeBy, IsMadeAs}
use Rattle.aho_corasick.specs.Served.{most_for_dfa, TakesDfa, IsWithinFor, IsTooLargeFor, IsServed, IsTriedDfa, IsTriedContiguous, IsEngineOf, IsFrontBuilt, IsNotMade, IsFitting}
use Rattle.ac_input.specs.declared.search.Anchored.{Anchored}

-- An automaton finds what the noncontiguous NFA does, and has the starts that the settings ask for.
pub record Follows (s : Settings) (from : NFA) (engine : Engine) : Type 0 where
  pub dictionary : (engine_built_as engine).dictionary ≡ dictionary from
  pub prefilter : (engine_built_as engine).prefilter ≡ (built_as from).prefilter
  pub starts : (anchored : Anchored) → Serves s.start_kind anchored → ∥ engine_supported_by engine anchored ∥₁

-- an automaton that is made under the settings finds what the noncontiguous NFA does, and has the starts asked for
pub made-follows : (s : Settings) (from : NFA) (engine : Engine) → IsMadeBy s from engine → Follows s from engine
made-follows s from (Noncontiguous nfa) is =
    record {
      dictionary = ap (λ n. (built_as n).dictionary) is;
      prefilter = ap (λ n. (built_as n).prefilter) is;
      starts = λ anchored serves. ∣ tt ∣₁;
    }
made-follows s from (Contiguous made) is =
    record {
      dictionary = ap (λ b. b.dictionary) is.built;
      prefilter = ap (λ b. b.prefilter) is.built;
      starts = λ anchored serves. ∣ tt ∣₁;
    }
made-follows s from (Dfa dfa) is =
    record {
      dictionary = ap (λ b. b.dictionary) is.built;
      prefilter = ap (λ b. b.prefilter) is.built;
      starts = λ anchored serves. ∣ subst (λ k. Serves k anchored) (sym is.starts) serves ∣₁;
    }

-- a contiguous NFA that was made is within its limit
pub within-contiguous : (s : Settings) (from : NFA) (made : ContiguousNFA) → IsMadeFrom s from made
    → IsWithinFor s (dictionary from) kinds.ContiguousNFA
within-contiguous s from made is = (from, is.classes, refl, is.serve, is.within)

-- if a DFA fails because it would be too large, none is taken
pub refused-dfa : (s : Settings) (from : NFA) (max requested : ℕ)
    → IsTooLargeOr s (dictionary from) (λ _. ⊥) (StateIDOverflow max requested) → ¬ TakesDfa s (dictionary from)
refused-dfa s from max requested (inl large) takes = ∥∥₁_elim large.2 (λ (x y : ⊥). absurd x) takes.2
refused-dfa s from max requested (inr other) takes = absurd other

-- if a contiguous NFA fails for a reason other than its size, memory ran out
pub memory-contiguous : (s : Settings) (from : NFA) (error : BuildErrorKind) → IsRefusedFrom s from error
    → ((max requested : ℕ) → error ≢ StateIDOverflow max requested) → error ≡ Memory
memory-contiguous s from (StateIDOverflow max requested) refused other = absurd (other max requested refl)
memory-contiguous s from (PatternIDOverflow max requested) refused other = absurd refused
memory-contiguous s from (PatternTooLong pattern len) refused other = absurd refused
memory-contiguous s from Memory refused other = refl

-- if a contiguous NFA fails because of its size, it would be too large
pub refused-contiguous : (s : Settings) (from : NFA) (max requested : ℕ)
    → IsRefusedFrom s from (StateIDOverflow max requested) → IsTooLargeFor s (dictionary from) kinds.ContiguousNFA
refused-contiguous s from max requested refused =
    let large : IsContiguousTooLarge from (contiguous_dense_depth s) s.byte_classes = refused.2 in
    (from, large.0, refl, large.1, large.2)

-- ---- none named

-- trying a DFA results in one that is made from the noncontiguous NFA, or in none if none is taken
pub tried-dfa : (s : Settings) (from : NFA) (b : Settings) (made : Result DFA BuildErrorKind) (r : Option DFA) → b ≡ s
    → s.start_kind ≢ Both → length (dictionary from).patterns ≤ most_for_dfa
    → IfOk made (IsDfaOf b from) → IfErr made (IsTooLargeOr b (dictionary from) (λ _. ⊥)) → IsFitting made (Ok r)
    → IsTriedDfa s from r
tried-dfa s from b made (Some dfa) by one few built refused fits = (
  one,
  few,
  subst (λ t. IsDfaOf t from dfa) by
      (subst (λ m. IfOk m (IsDfaOf b from)) fits built),
)
tried-dfa s from b made None by one few built refused fits =
    refused-dfa s from fits.0 fits.1 (subst
    (λ t. IsTooLargeOr t (dictionary from) (λ _. ⊥) (StateIDOverflow fits.0 fits.1)) by
    (subst (λ m. IfErr m (IsTooLargeOr b (dictionary from) (λ _. ⊥))) fits.2 refused))

-- trying a DFA, if it succeeds, results in one that is made from the noncontiguous NFA, or in none if none is taken
pub tries-dfa : (s : Settings) (from : NFA) (b : Settings) (made : Result DFA BuildErrorKind)
    (r : Result (Option DFA) BuildErrorKind) → b ≡ s
    → s.start_kind ≢ Both → length (dictionary from).patterns ≤ most_for_dfa
    → IfOk made (IsDfaOf b from) → IfErr made (IsTooLargeOr b (dictionary from) (λ _. ⊥)) → IsFitting made r
    → IfOk r (IsTriedDfa s from)
tries-dfa s from b made (Ok tried) by one few built refused fits =
    tried-dfa s from b made tried by one few built refused fits
tries-dfa s from b made (Err error) by one few built refused fits = tt

-- trying a contiguous NFA results in one that is made from the noncontiguous NFA, or in none if it would be too large
pub tries-contiguous : (s : Settings) (from : NFA) (b : Settings) (made : Result ContiguousNFA BuildErrorKind)
    (r : Result (Option ContiguousNFA) BuildErrorKind) → b ≡ s
    → IfOk made (IsMadeFrom b from) → IfErr made (IsRefusedFrom b from) → IsFitting made r
    → IfOk r (IsTriedContiguous s from)
tries-contiguous s from b made (Ok (Some it)) by built refused fits =
    subst (λ t. IsMadeFrom t from it) by
    (subst (λ m. IfOk m (IsMadeFrom b from)) fits built)
tries-contiguous s from b made (Ok None) by built refused fits =
    refused-contiguous s from fits.0 fits.1
    (subst (λ t. IsRefusedFrom t from (StateIDOverflow fits.0 fits.1)) by
    (subst (λ m. IfErr m (IsRefusedFrom b from)) fits.2 refused))
tries-contiguous s from b made (Err error) by built refused fits = tt

-- trying a contiguous NFA can fail only because memory ran out
pub tries-contiguous_memory : (s : Settings) (from : NFA) (b : Settings) (made : Result ContiguousNFA BuildErrorKind)
    (r : Result (Option ContiguousNFA) BuildErrorKind) → b ≡ s
    → IfErr made (IsRefusedFrom b from) → IsFitting made r → IfErr r (λ error. error ≡ Memory)
tries-contiguous_memory s from b made (Ok tried) by refused fits = tt
tries-contiguous_memory s from b made (Err error) by refused fits =
    memory-contiguous s from error (subst (λ t. IsRefusedFrom t from error) by
    (subst (λ m. IfErr m (IsRefusedFrom b from)) fits.0 refused)) fits.1

-- ---- named

-- the contiguous NFA serves if it was named
pub served-contiguous : (named : Option AhoCorasickKind) (s : Settings) (from : NFA) (b : Settings)
    (made : ContiguousNFA) → named ≡ Some kinds.ContiguousNFA → b ≡ s
    → IsMadeFrom b from made → IsEngineOf named s from (Contiguous made)
served-contiguous named s from b made is by ok =
    let of_s = subst (λ t. IsMadeFrom t from made) by ok in (
      of_s,
      subst (λ k. IsServed k s (dictionary from) kinds.ContiguousNFA) (sym is)
          (refl, within-contiguous s from made of_s),
    )

-- the DFA serves if it was named
pub served-dfa : (named : Option AhoCorasickKind) (s : Settings) (from : NFA) (b : Settings) (dfa : DFA)
    → named ≡ Some kinds.DFA → b ≡ s
    → IsDfaOf b from dfa → IsEngineOf named s from (Dfa dfa)
served-dfa named s from b dfa is by ok =
    let of_s = subst (λ t. IsDfaOf t from dfa) by ok in (
      of_s,
      subst (λ k. IsServed k s (dictionary from) kinds.DFA) (sym is)
          (refl, of_s.within),
    )

-- ---- built

-- an engine that is shared has the starts that the settings ask for
pub starts-shared : (s : Settings) (from : NFA) (kind : StartKind) (engine shared : Engine) → kind ≡ s.start_kind
    → IsMadeBy s from engine → shared ≡ engine
    → ((anchored : Anchored) → Serves kind anchored → ∥ engine_supported_by shared anchored ∥₁)
starts-shared s from kind engine shared is made same =
    λ anchored serves. subst (λ e. ∥ engine_supported_by e anchored ∥₁) (sym same)
    ((made-follows s from engine made).starts anchored (subst (λ k. Serves k anchored) is serves))

-- what is made of an NFA that was built for a dictionary is built for it
pub built-for : (s : Settings) (m : Dictionary) (from : NFA) (engine : Engine) (b : Built)
    → IsBuiltBy s.prefilter m (built_as from) → IsMadeBy s from engine → b ≡ engine_built_as engine → b.dictionary ≡ m
built-for s m from engine b own made is =
    ap (λ c. c.dictionary) is ∙ (made-follows s from engine made).dictionary ∙ own.dictionary

-- and is made by the settings for it
pub made-as : (s : Settings) (m : Dictionary) (from : NFA) (engine : Engine) (b : Built) (settings : Settings)
    → IsBuiltBy s.prefilter m (built_as from) → HasRowsBy s from → IsMadeBy s from engine → b ≡ engine_built_as engine
    → settings ≡ s → IsMadeAs settings b.dictionary engine
made-as s m from engine b settings own rows made is same =
    let own_m = subst (λ n. IsBuiltBy s.prefilter n (built_as from))
    (sym (built-for s m from engine b own made is)) own in
    subst (λ t. IsMadeAs t b.dictionary engine) (sym same) (from, own_m, rows, made)

-- an `AhoCorasick` over it is built of the patterns
pub front-built : (b : AhoCorasickBuilder) (patterns : List (List ℕ)) (from : NFA) (ac : AhoCorasick)
    → IsBuiltBy b.settings.prefilter (front_dictionary b.settings patterns) (built_as from)
    → IsEngineOf b.kind b.settings from (serving_engine ac) → start_kind_of ac ≡ b.settings.start_kind
    → settings_of ac ≡ b → IsFrontBuilt b patterns ac
front-built b patterns from ac own made starts same =
    let s = b.settings in
    let held = ap (λ built. built.prefilter) ac.shared.value.same
    ∙ (made-follows s from (serving_engine ac) made.0).prefilter in
    record {
      dictionary =
          built-for s (front_dictionary s patterns) from (serving_engine ac) (as_built ac) own made.0
          ac.shared.value.same;
      within = own.within;
      prefilter =
          subst (λ filter. IsHeld s.prefilter (front_dictionary s patterns) filter) (sym held)
          own.prefilter;
      starts = starts;
      served = subst (λ m. IsServed b.kind s m (kind_served (serving_engine ac))) own.dictionary made.1;
      settings = same;
    }

-- ---- not made

-- if a contiguous NFA that was named isn't made, it would be too large, or memory ran out
pub named-contiguous : (b : AhoCorasickBuilder) (from : NFA) (error : BuildErrorKind)
    → b.kind ≡ Some kinds.ContiguousNFA → IsRefusedFrom b.settings from error → IsNotMade b from error
named-contiguous b from (StateIDOverflow max requested) asked refused =
    inr (record {
      named = kinds.ContiguousNFA;
      asked = asked;
      large = refused-contiguous b.settings from max requested refused;
      requested = requested;
      past = subst (λ n. n < requested) refused.0 refused.1;
      overflow = ap (λ n. StateIDOverflow n requested) refused.0;
    })
named-contiguous b from (PatternIDOverflow max requested) asked refused = absurd refused
named-contiguous b from (PatternTooLong pattern len) asked refused = absurd refused
named-contiguous b from Memory asked refused = inl refl

-- if a DFA that was named isn't made, it would be too large, or memory ran out
pub named-dfa : (b : AhoCorasickBuilder) (from : NFA) (error : BuildErrorKind) → b.kind ≡ Some kinds.DFA
    → IsTooLargeOr b.settings (dictionary from) (λ _. ⊥) error → IsNotMade b from error
named-dfa b from (StateIDOverflow max requested) asked (inl large) =
    inr (record {
      named = kinds.DFA;
      asked = asked;
      large = large.2;
      requested = requested;
      past = subst (λ n. n < requested) large.0 large.1;
      overflow = ap (λ n. StateIDOverflow n requested) large.0;
    })
named-dfa b from (StateIDOverflow max requested) asked (inr other) = absurd other
named-dfa b from (PatternIDOverflow max requested) asked refused = absurd refused
named-dfa b from (PatternTooLong pattern len) asked refused = absurd refused
named-dfa b from Memory asked refused = inl refl
