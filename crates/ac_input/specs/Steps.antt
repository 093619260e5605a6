-- What a search costs.
use Rattle.std.specs.Prelude.{◌≡◌, ℕ, ◌+◌}
use Rattle.ac_input.specs.declared.steps.Steps.{Steps}

-- nothing was done yet
pub record AreNone (steps : Steps) : Type 0 where
  pub looked : steps.looked.value ≡ 0
  pub scanned : steps.scanned.value ≡ 0
  pub moved : steps.moved.value ≡ 0

-- from `before` to `after`, exactly this many states were looked at, this many places scanned and this many bytes moved
pub record Done (states places bytes : ℕ) (before after : Steps) : Type 0 where
  pub looked : after.looked.value ≡ before.looked.value + states
  pub scanned : after.scanned.value ≡ before.scanned.value + places
  pub moved : after.moved.value ≡ before.moved.value + bytes

-- from `before` to `after`, exactly the work that `more` counts was done
abbrev pub Added : Steps → Steps → Steps → Type 0
Added more before after = Done more.looked.value more.scanned.value more.moved.value before after
