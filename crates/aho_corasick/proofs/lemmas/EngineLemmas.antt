-- What the automaton that serves was built as, and the start of a search by it.
use Rattle.std.specs.Prelude.{◌≡◌, ℕ, IsTrue, Option, Result, Ok, Err}
use Rattle.std.proofs.Common.{refl, subst, sym}
use Rattle.std.proofs.Math.Logic.{∥∥₁_elim}
use Rattle.ac_input.specs.declared.search.Anchored.{Anchored}
use Rattle.ac_input.specs.declared.search.StartKind.{StartKind}
use Rattle.ac_input.specs.Dfa.{Serves}
use Rattle.ac_input.specs.Input.{Asked}
use Rattle.ac_input.specs.Occurrence.{Occurrence}
use Rattle.ac_automaton.specs.declared.error.MatchErrorKind.{MatchErrorKind}
use Rattle.ac_automaton.specs.Automaton.{Built, Finds, AnswersStart, refusal_of}
use Rattle.aho_corasick.specs.declared.ahocorasick.AhoCorasick.{AhoCorasick}
use Rattle.aho_corasick.specs.declared.ahocorasick.AhoCorasickKind.TheVariants.{DFA}
use Rattle.aho_corasick.specs.declared.engine.Engine.{Engine}
use Rattle.aho_corasick.specs.declared.engine.Engine.TheVariants.{Noncontiguous, Contiguous, Dfa}
use Rattle.aho_corasick.specs.AhoCorasick.{as_built, serving_engine}
use Rattle.aho_corasick.specs.Engine.{IsEngineRead, engine_built_as, kind_served, engine_supported_by}

-- a DFA looks at exactly one state for each byte
dfa-deterministic : (engine : Engine) → kind_served engine ≡ DFA → IsTrue (engine_built_as engine).deterministic
dfa-deterministic (Noncontiguous nfa) is = cc
dfa-deterministic (Contiguous nfa) is = cc
dfa-deterministic (Dfa dfa) is = refl

-- so does the front where one serves
pub front-deterministic : (ac : AhoCorasick) → kind_served (serving_engine ac) ≡ DFA
    → IsTrue (as_built ac).deterministic
front-deterministic ac is =
    subst (λ b. IsTrue b.deterministic) (sym ac.shared.value.same) (dfa-deterministic (serving_engine ac) is)

-- if the automaton has the starts of the start kind, it returns no start error for a search of that kind
pub refusal-served : (engine : Engine) (kind : StartKind) (anchored : Anchored) (error : MatchErrorKind)
    → ((anchored : Anchored) → Serves kind anchored → ∥ engine_supported_by engine anchored ∥₁) → Serves kind anchored
    → (¬ (engine_supported_by engine) anchored × (error ≡ refusal_of anchored))
    → (¬ (Serves kind) anchored × (error ≡ refusal_of anchored))
refusal-served engine kind anchored error starts serves refused =
    (λ _. ∥∥₁_elim (starts anchored serves) (λ (x y : ⊥). absurd x) refused.0, refused.1)

-- for an anchoring of the start kind, the start that the automaton returns is the front's start
pub start-served : (engine : Engine) (kind : StartKind) (anchored : Anchored) (r : Result ℕ MatchErrorKind)
    → ((anchored : Anchored) → Serves kind anchored → ∥ engine_supported_by engine anchored ∥₁) → Serves kind anchored
    → AnswersStart (engine_supported_by engine) (IsEngineRead engine) anchored r
    → AnswersStart (Serves kind) (IsEngineRead engine) anchored r
start-served engine kind anchored (Ok sid) starts serves answered = (serves, answered.1)
start-served engine kind anchored (Err error) starts serves answered =
    refusal-served engine kind anchored error starts serves answered

-- for a search of the start kind, the match that the automaton returns is the front's match
pub find-served : (b : Built) (engine : Engine) (kind : StartKind) (asked : Asked)
    (r : Result (Option Occurrence) MatchErrorKind)
    → ((anchored : Anchored) → Serves kind anchored → ∥ engine_supported_by engine anchored ∥₁)
    → Serves kind asked.anchored
    → Finds b.dictionary (engine_supported_by engine) asked r → Finds b.dictionary (Serves kind) asked r
find-served b engine kind asked (Ok found) starts serves answered = (serves, answered.1)
find-served b engine kind asked (Err error) starts serves answered =
    refusal-served engine kind asked.anchored error starts serves answered
