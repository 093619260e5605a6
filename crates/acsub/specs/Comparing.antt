-- How a text is compared with a file.
use Rattle.std.specs.Prelude.{◌≡◌, ℕ, ◌≤◌, ◌<◌, true, List, [], ◌∷◌, ◌++◌, length, take}
use Rattle.std.specs.List.{concat}
use Rattle.ac_automaton.specs.declared.stream.devices.watched.Watched.{Watched}

-- reads of the file returned this text so far, and none failed
pub record IsAlike {F : Type 0} (file : Watched F) (text : List ℕ) : Type 0 where
  pub same : concat file.pieces.items ≡ text
  pub fine : file.failures.value ≡ 0

-- one read returned the first n bytes of the text, which are some
pub record ReadsAlike {F : Type 0} (old new : Watched F) (text : List ℕ) (n : ℕ) : Type 0 where
  pub some : 0 < n
  pub within : n ≤ length text
  pub pieces : new.pieces.items ≡ old.pieces.items ++ take n text ∷ []
  pub fine : new.failures.value ≡ old.failures.value

-- the file was read to its end, and this is all that it has
pub record IsWholeFile {F : Type 0} (file : Watched F) (text : List ℕ) : Type 0 where
  pub alike : IsAlike file text
  pub ended : file.ended ≡ true
