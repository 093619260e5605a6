-- A run that always writes while it reads returns the result of its stream, or why there was none.
use Rattle.std.proofs.Common.{◌≡◌, Result, Ok, Err, refl, sym, subst}
use Rattle.std.specs.Prelude.{OnOk}
use Rattle.std.proofs.Math.Path.{Σ_path}
use Rattle.ac_automaton.specs.Stream.Devices.Moved.{NoneTouched}
use Rattle.ac_automaton.specs.declared.error.StreamError.{StreamError}
use Rattle.ac_automaton.specs.declared.error.StreamError.TheVariants as stream
use Rattle.ac_automaton.specs.declared.stream.devices.watched.Watched.{Watched}
use Rattle.acsub.specs.Early.{AnswersEarly, Demand, IsUnmet, IsUnready, as_early}
use Rattle.acsub.specs.Finder.{FailsToBuild}
use Rattle.acsub.specs.Stream.{IfStreamMemory, IsReturnedAs}
use Rattle.acsub.specs.declared.early.EarlyError.{EarlyError}
use Rattle.acsub.specs.declared.early.EarlyError.TheVariants as early
use Rattle.acsub.specs.declared.error.RunError.{RunError}
use Rattle.acsub.specs.declared.error.RunError.TheVariants as errors

-- ---- why none is prepared

-- a check that fails is a reason
pub unmet-unready : (d : Demand) (e : EarlyError) → IsUnmet d e → IsUnready d e
unmet-unready d (early.Refused refusal) why = why
unmet-unready d (early.Run (errors.Setting e)) why = why
unmet-unready d (early.Run (errors.Rule e)) why = absurd why
unmet-unready d (early.Run (errors.Build kind)) why = absurd why
unmet-unready d (early.Run (errors.Read e)) why = absurd why
unmet-unready d (early.Run (errors.Write e)) why = absurd why
unmet-unready d (early.Run errors.WriteZero) why = absurd why
unmet-unready d (early.Run errors.Memory) why = absurd why
unmet-unready d (early.Run errors.Position) why = absurd why

-- so is a build that fails
pub unbuilt-unready : (d : Demand) → d.fits → (e : RunError) → FailsToBuild d.built d.rules e
    → IsUnready d (early.Run e)
unbuilt-unready d fits (errors.Build kind) fails = (fits, fails)
unbuilt-unready d fits errors.Memory fails = fits
unbuilt-unready d fits (errors.Rule e) fails = absurd fails
unbuilt-unready d fits (errors.Setting e) fails = absurd fails
unbuilt-unready d fits (errors.Read e) fails = absurd fails
unbuilt-unready d fits (errors.Write e) fails = absurd fails
unbuilt-unready d fits errors.WriteZero fails = absurd fails
unbuilt-unready d fits errors.Position fails = absurd fails

-- ---- the result of a run

module _ {R W : Type 0} (old new : Watched R × Watched W) (d : Demand) (writes : Result (Unit {0}) StreamError → Type 0) where
  -- a run that wasn't prepared touches neither device
  pub early-unready : (e : EarlyError) → IsUnready d e → new ≡ old → AnswersEarly old new d writes (Err e)
  early-unready (early.Refused refusal) why same = (why, same)
  early-unready (early.Run (errors.Setting e)) why same = (why, same)
  early-unready (early.Run (errors.Build kind)) why same = (why.0, why.1, same)
  early-unready (early.Run errors.Memory) why same = (why, same)
  early-unready (early.Run (errors.Rule e)) why same = absurd why
  early-unready (early.Run (errors.Read e)) why same = absurd why
  early-unready (early.Run (errors.Write e)) why same = absurd why
  early-unready (early.Run errors.WriteZero) why same = absurd why
  early-unready (early.Run errors.Position) why same = absurd why

  -- one that was returns the result of the stream
  pub early-says : d.fits → (searched : Result (Unit {0}) StreamError) (told : Result (Unit {0}) RunError)
      → IsReturnedAs searched told → writes searched
      → IfStreamMemory searched (NoneTouched old.0 new.0 old.1 new.1)
      → AnswersEarly old new d writes (as_early told)
  early-says fits (Ok done) told returned did memory =
      subst (λ t. AnswersEarly old new d writes (as_early t)) (sym returned) did
  early-says fits (Err (stream.Config error)) told returned did memory = absurd returned
  early-says fits (Err (stream.Read error)) told returned did memory =
      subst (λ t. AnswersEarly old new d writes (as_early t)) (sym returned) did
  early-says fits (Err (stream.Write error)) told returned did memory =
      subst (λ t. AnswersEarly old new d writes (as_early t)) (sym returned) did
  early-says fits (Err stream.WriteZero) told returned did memory =
      subst (λ t. AnswersEarly old new d writes (as_early t)) (sym returned) did
  early-says fits (Err stream.Memory) told returned did memory =
      subst (λ t. AnswersEarly old new d writes (as_early t)) (sym returned)
      (let same = memory refl in (fits, Σ_path same.0 same.1))
  early-says fits (Err stream.Position) told returned did memory =
      subst (λ t. AnswersEarly old new d writes (as_early t)) (sym returned) did

-- an `Ok` of the one is one of the other
pub early-ok : (told : Result (Unit {0}) RunError) → as_early told ≡ Ok tt → told ≡ Ok tt
early-ok (Ok done) is = refl
early-ok (Err e) is = cc

-- ---- what it costs

-- an `Ok` of the run is one of the stream
pub told-ok : (searched : Result (Unit {0}) StreamError) (told : Result (Unit {0}) RunError) → IsReturnedAs searched told
    → told ≡ Ok tt → searched ≡ Ok tt
told-ok (Ok done) told is same = refl
told-ok (Err (stream.Config error)) told is same = absurd is
told-ok (Err (stream.Read error)) told is same = cc
told-ok (Err (stream.Write error)) told is same = cc
told-ok (Err stream.WriteZero) told is same = cc
told-ok (Err stream.Memory) told is same = cc
told-ok (Err stream.Position) told is same = cc

-- what an `Ok` of the stream means, an `Ok` of the run means
pub early-some : (P : Type 0) (searched : Result (Unit {0}) StreamError) (result : Result (Unit {0}) EarlyError)
    → (result ≡ Ok tt → searched ≡ Ok tt) → OnOk searched P → OnOk result P
early-some P searched (Ok done) both some = subst (λ f. OnOk f P) (both refl) some
early-some P searched (Err e) both some = tt
