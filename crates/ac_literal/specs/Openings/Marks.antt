-- The buckets of openings: patterns with their partners.
use Rattle.std.specs.Prelude.{ℕ, ◌<◌, List, map, take, get_or, []}
use Rattle.ac_input.specs.Same.{other}
use Rattle.ac_literal.specs.declared.packed.teddy.Teddy.{Teddy}
use Rattle.ac_literal.specs.Packed.Teddy.{HasPattern}

-- the bucket has the pattern, and the partners of its first `len` bytes
pub record HasPartners (pairing : List ℕ) (len : ℕ) (t : Teddy) (pattern : List ℕ) (bucket : ℕ) : Type 0 where
  pub own : HasPattern t pattern bucket
  pub paired : HasPattern t (map (other pairing) (take len pattern)) bucket

-- each of the first `count` patterns is in a bucket, with the partners of its first bytes
abbrev pub HaveOpened : List ℕ → ℕ → List (List ℕ) → ℕ → Teddy → Type 0
HaveOpened pairing len patterns count t =
    (number : ℕ) → number < count → (bucket : ℕ) × HasPartners pairing len t (get_or patterns number []) bucket
