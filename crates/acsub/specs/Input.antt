-- What the reads of a whole input returned.
use Rattle.std.specs.Prelude.{◌≡◌, ℕ, List, Option, Result, Ok, Err, Vec}
use Rattle.std.specs.List.{concat}
use Rattle.std.specs.declared.alloc.Global.{Global}
use Rattle.ac_automaton.specs.Stream.Devices.Moved.{AreFilled, AreWhole, HasGiven}
use Rattle.acsub.specs.declared.error.RunError.{RunError}
use Rattle.acsub.specs.declared.error.RunError.TheVariants.{Read, Memory}
use Rattle.ac_automaton.specs.declared.stream.devices.watched.Watched.{Watched}

-- The input was read to its end and is this; or a read failed; or memory ran out before the end was read.
abbrev pub ReadsWhole : {R : Type 0} → (R → Option (List ℕ)) → Watched R → Watched R → Result (Vec ℕ Global) RunError
    → Type 0
ReadsWhole remaining old new (Ok input) =
    (pieces : List (List ℕ)) × HasGiven remaining old new pieces 0 × AreWhole pieces × (input.items ≡ concat pieces)
ReadsWhole remaining old new (Err (Read error)) = (pieces : List (List ℕ)) × HasGiven remaining old new pieces 1
ReadsWhole remaining old new (Err Memory) =
    (pieces : List (List ℕ)) × HasGiven remaining old new pieces 0 × AreFilled pieces
ReadsWhole remaining old new (Err other) = ⊥
