-- The parts of a packed search: the table of its hashes, its marks, the only pattern where there is just one, and the
-- grams of the patterns where those find fewer places.
use Rattle.std.specs.Prelude.{◌≡◌, ℕ, List, [], ◌∷◌, length, Option, Some, None, IfSome}
use Rattle.ac_literal.specs.declared.packed.api.MatchKind.{MatchKind}
use Rattle.ac_literal.specs.declared.packed.scanner.Scanner.{Scanner}
use Rattle.ac_literal.specs.Grams.{AreCopiedGrams, HaveWindows}
use Rattle.ac_literal.specs.Packed.RabinKarp.{IsTable, IsSameTable}
use Rattle.ac_literal.specs.Packed.Teddy.{IsTeddy}

-- a needle, where there is one, is the only pattern
abbrev pub IsOnlyPattern : List (List ℕ) → Option (List ℕ) → Type 0
IsOnlyPattern patterns None = Unit {0}
IsOnlyPattern patterns (Some needle) = patterns ≡ needle ∷ []

-- The table, the marks, the only pattern and the grams are those of these patterns. The marks look only at bytes that are
-- hashed, and the grams are some of these.
pub record IsScanner (patterns : List (List ℕ)) (scanner : Scanner) : Type 0 where
  pub table : IsTable patterns scanner.table
  pub teddy : IsTeddy patterns scanner.table.hash_len scanner.teddy
  pub only : IsOnlyPattern patterns scanner.only
  pub grams : IfSome scanner.grams
      (λ grams. HaveWindows grams scanner.table.hash_len patterns (length patterns))

-- a scanner of some patterns, for the kind
pub record IsScannerOf (asked : MatchKind) (patterns : List (List ℕ)) (made : Scanner) : Type 0 where
  pub scanner : IsScanner patterns made
  pub kind : made.table.kind ≡ asked

-- the copy equals the scanner, in other memory
pub record IsSameScanner (scanner copy : Scanner) : Type 0 where
  pub table : IsSameTable scanner.table copy.table
  pub teddy : copy.teddy ≡ scanner.teddy
  pub only : copy.only ≡ scanner.only
  pub grams : AreCopiedGrams scanner.grams copy.grams
