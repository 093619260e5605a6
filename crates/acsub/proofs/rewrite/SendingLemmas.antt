-- A text that is sent in parts, and may stop at a write.
use Rattle.std.proofs.Common.{◌≡◌, ℕ, List, ◌++◌, Option, Result, Err, subst}
use Rattle.ac_automaton.specs.Stream.Devices.Output.{Sends, Sent, Stopped}
use Rattle.ac_automaton.specs.declared.error.StreamError.{StreamError}
use Rattle.ac_automaton.specs.declared.stream.devices.watched.Watched.{Watched}
use Rattle.ac_automaton.proofs.stream.devices.OutputLemmas.{Sends-then, Stopped-more}

module _ {W : Type 0} (contents : W → Option (List ℕ)) (old mid new : Watched W)
    (held between front bytes text : List ℕ) (before : Sent contents old mid held between front) where
  -- the last part of a text was sent, or the sending stopped
  pub sends-last : (after : List ℕ) (result : Result (Unit {0}) StreamError) → front ++ bytes ≡ text
      → Sends contents bytes mid new between after result → Sends contents text old new held after result
  sends-last after result is sends =
      subst (λ t. Sends contents t old new held after result) is (Sends-then new after bytes result before sends)

  -- the sending stopped at a part within a text
  pub sends-stopped : (rest after : List ℕ) (error : StreamError) → (front ++ bytes) ++ rest ≡ text
      → Sends contents bytes mid new between after (Err error) → Sends contents text old new held after (Err error)
  sends-stopped rest after error is stopped =
      let sends = Sends-then new after bytes (Err error) before stopped in
      (subst (Stopped contents old new held) is (Stopped-more rest sends.0), sends.1, sends.2)
