-- Sampled grams: a map has a window of each pattern, and one place of every so many is looked up.
pub mod Numbers
use Rattle.std.specs.Prelude.{◌≡◌, ℕ, ◌+◌, ◌/◌, ◌%◌, ◌<◌, ◌≤◌, List, [], length, slice_index, take, get_or, Option, IfSome}
use Rattle.std.specs.Int.{bit_at}
use Rattle.ac_literal.specs.declared.grams.Grams.{Grams}
use Rattle.ac_literal.specs.Grams.Numbers.{gram_number}

-- the map has the gram at a place
abbrev pub HasGram : Grams → List ℕ → ℕ → Type 0
HasGram g text at = bit_at (slice_index g.bits.items (gram_number text at / 8)) (gram_number text at % 8) ≡ 1

-- the map has the grams at `step` neighbouring places
abbrev pub IsWindow : Grams → List ℕ → ℕ → Type 0
IsWindow g text first = (k : ℕ) → k < g.step → HasGram g text (first + k)

-- the map has a window of a pattern, and knows how far from the pattern's start its last gram stands at most
pub record HasWindow (g : Grams) (pattern : List ℕ) : Type 0 where
  pub first : ℕ
  pub within : first + g.step + 7 ≤ length pattern
  pub near : first + g.step ≤ g.most + 1
  pub grams : IsWindow g pattern first

-- the map has a window of the first `len` bytes of each of the first `count` patterns
abbrev pub HaveWindows : Grams → ℕ → List (List ℕ) → ℕ → Type 0
HaveWindows g len patterns count = (number : ℕ) → number < count → HasWindow g (take len (get_or patterns number []))

-- whatever patterns the grams are those of, if there are any, the copy's are, too
abbrev pub AreCopiedGrams : Option Grams → Option Grams → Type 0
AreCopiedGrams held copy = (len : ℕ) (patterns : List (List ℕ)) (count : ℕ)
    → IfSome held (λ g. HaveWindows g len patterns count) → IfSome copy (λ g. HaveWindows g len patterns count)

-- the new map has all grams of the old one
pub record KeepsGrams (old new : Grams) : Type 0 where
  pub step : new.step ≡ old.step
  pub most : old.most ≤ new.most
  pub has : (text : List ℕ) (at : ℕ) → HasGram old text at → HasGram new text at

-- the copy equals the grams, in other memory
pub record AreSameGrams (g copy : Grams) : Type 0 where
  pub bits : copy.bits.items ≡ g.bits.items
  pub step : copy.step ≡ g.step
  pub most : copy.most ≡ g.most

-- no window stands in the text's first `count` places
abbrev pub HasNoWindow : Grams → List ℕ → ℕ → Type 0
HasNoWindow g text count = (first : ℕ) → first + g.step ≤ count → ¬ IsWindow g text first

-- a pattern may begin at a place: a window stands as near to it as one does in a pattern
pub record MayStart (g : Grams) (text : List ℕ) (at : ℕ) : Type 0 where
  pub first : ℕ
  pub near : first + g.step ≤ g.most + 1
  pub grams : IsWindow g text (at + first)

-- no pattern may begin at any of the first `passed` places
abbrev pub PassesWindows : Grams → List ℕ → ℕ → Type 0
PassesWindows g text passed = (at : ℕ) → at < passed → ¬ MayStart g text at
