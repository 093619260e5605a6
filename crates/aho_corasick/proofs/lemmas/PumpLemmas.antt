-- What a stream that the automaton that serves has pumped means for the front, whose start kind decides.
use Rattle.std.proofs.Common.{◌≡◌, ℕ, List, Option, Result, Ok, Err, inl, inr}
use Rattle.ac_input.specs.declared.search.Anchored.{Anchored}
use Rattle.ac_input.specs.declared.search.Anchored.TheVariants.{No}
use Rattle.ac_input.specs.declared.search.StartKind.{StartKind}
use Rattle.ac_input.specs.declared.steps.Steps.{Steps}
use Rattle.ac_input.specs.Dfa.{Serves}
use Rattle.ac_automaton.specs.Automaton.{Built, refusal_of}
use Rattle.ac_automaton.specs.Stream.{CanStream, IsConfigRefusal, IsStreamRefusal}
use Rattle.ac_automaton.specs.Stream.Overlapping.{IsListingRefusal}
use Rattle.ac_automaton.specs.Stream.Pump.{Handling, PumpsMatches, PumpsOccurrences}
use Rattle.ac_automaton.specs.Stream.Replace.{AcceptsStream}
use Rattle.ac_automaton.specs.declared.error.MatchErrorKind.{MatchErrorKind}
use Rattle.ac_automaton.specs.declared.error.StreamError.{StreamError}
use Rattle.ac_automaton.specs.declared.error.StreamError.TheVariants.{Config, Read, Write, WriteZero, Memory, Position}
use Rattle.ac_automaton.specs.declared.stream.StreamKinds.{StreamKinds}
use Rattle.ac_automaton.specs.declared.stream.StreamKinds.TheVariants.{AnyKind, OnlyStandard}
use Rattle.ac_automaton.specs.declared.stream.devices.watched.Watched.{Watched}
use Rattle.aho_corasick.specs.declared.engine.Engine.{Engine}
use Rattle.aho_corasick.specs.Engine.{engine_supported_by}
use Rattle.aho_corasick.proofs.lemmas.EngineLemmas.{refusal-served}

-- a start kind without unanchored searches refuses every stream
pub config-refused : (kinds : StreamKinds) (b : Built) (supports : Anchored → Type 0) (error : MatchErrorKind)
    → (¬ supports No × (error ≡ refusal_of No)) → IsConfigRefusal kinds b supports error
config-refused OnlyStandard b supports error refused = inl refused
config-refused AnyKind b supports error refused = inl refused

module _ (engine : Engine) (kind : StartKind)
    (starts : (anchored : Anchored) → Serves kind anchored → ∥ engine_supported_by engine anchored ∥₁)
    (serves : Serves kind No) (b : Built) where
  -- what the automaton can search the front can
  can-served : (kinds : StreamKinds) → CanStream kinds b (engine_supported_by engine) → CanStream kinds b (Serves kind)
  can-served OnlyStandard can = (serves, can.1, can.2)
  can-served AnyKind can = (serves, can.1)

  -- what it refuses the front refuses
  config-served : (kinds : StreamKinds) (error : MatchErrorKind)
      → IsConfigRefusal kinds b (engine_supported_by engine) error → IsConfigRefusal kinds b (Serves kind) error
  config-served OnlyStandard error (inl none) = inl (refusal-served engine kind No error starts serves none)
  config-served OnlyStandard error (inr (inl other)) = inr (inl (serves, other.1, other.2))
  config-served OnlyStandard error (inr (inr empty)) = inr (inr (serves, empty.1, empty.2, empty.3))
  config-served AnyKind error (inl none) = inl (refusal-served engine kind No error starts serves none)
  config-served AnyKind error (inr empty) = inr (serves, empty.1, empty.2)

  refusal-streamed : (kinds : StreamKinds) (error : StreamError)
      → IsStreamRefusal kinds b (engine_supported_by engine) error → IsStreamRefusal kinds b (Serves kind) error
  refusal-streamed kinds (Config error) refused = config-served kinds error refused
  refusal-streamed kinds (Read error) refused = absurd refused
  refusal-streamed kinds (Write error) refused = absurd refused
  refusal-streamed kinds WriteZero refused = absurd refused
  refusal-streamed kinds Memory refused = can-served kinds refused
  refusal-streamed kinds Position refused = absurd refused

  refusal-listed : (error : StreamError) → IsListingRefusal b (engine_supported_by engine) error
      → IsListingRefusal b (Serves kind) error
  refusal-listed (Config error) (inl (inl none)) = inl (inl (refusal-served engine kind No error starts serves none))
  refusal-listed (Config error) (inl (inr other)) = inl (inr (serves, other.1, other.2))
  refusal-listed (Config error) (inr empty) = inr (serves, empty.1, empty.2, empty.3)
  refusal-listed (Read error) refused = absurd refused
  refusal-listed (Write error) refused = absurd refused
  refusal-listed WriteZero refused = absurd refused
  refusal-listed Memory refused = can-served OnlyStandard refused
  refusal-listed Position refused = absurd refused

  pub accepts-served : (kinds : StreamKinds) (result : Result (Unit {0}) StreamError)
      → AcceptsStream kinds b (engine_supported_by engine) result → AcceptsStream kinds b (Serves kind) result
  accepts-served kinds (Ok done) can = can-served kinds can
  accepts-served kinds (Err (Config error)) refused = config-served kinds error refused
  accepts-served kinds (Err (Read error)) can = can-served kinds can
  accepts-served kinds (Err (Write error)) can = can-served kinds can
  accepts-served kinds (Err WriteZero) can = can-served kinds can
  accepts-served kinds (Err Memory) can = can-served kinds can
  accepts-served kinds (Err Position) can = can-served kinds can

  module _ {Z : Type 0} (h : Handling Z) {R : Type 0} (remaining : R → Option (List ℕ)) (r0 r1 : Watched R) (z last : Z)
      (before after : Steps) where
    pub matches-served : (kinds : StreamKinds) (result : Result (Unit {0}) StreamError)
        → PumpsMatches h remaining kinds b (engine_supported_by engine) r0 r1 z last before after result
        → PumpsMatches h remaining kinds b (Serves kind) r0 r1 z last before after result
    matches-served kinds (Ok done) pumps = (can-served kinds pumps.0, pumps.1)
    matches-served kinds (Err error) (inl refused) = inl (refusal-streamed kinds error refused.0, refused.1)
    matches-served kinds (Err error) (inr pumps) = inr (can-served kinds pumps.0, pumps.1)

    pub occurrences-served : (result : Result (Unit {0}) StreamError)
        → PumpsOccurrences h remaining b (engine_supported_by engine) r0 r1 z last before after result
        → PumpsOccurrences h remaining b (Serves kind) r0 r1 z last before after result
    occurrences-served (Ok done) pumps = (can-served OnlyStandard pumps.0, pumps.1)
    occurrences-served (Err error) (inl refused) = inl (refusal-listed error refused.0, refused.1)
    occurrences-served (Err error) (inr pumps) = inr (can-served OnlyStandard pumps.0, pumps.1)
