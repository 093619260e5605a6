-- What a replacement in memory returns when the search can't fail.
use Rattle.std.specs.Prelude.{◌≡◌, ℕ, List, Result, Ok, Err, String}
use Rattle.std.specs.Global.{Global, Vec}
use Rattle.std.specs.String.{string_bytes}
use Rattle.std.specs.declared.alloc.AllocError.{AllocError}
use Rattle.ac_input.specs.Occurrence.{Occurrence}
use Rattle.ac_automaton.specs.InMemory.Replace.{MemoryReplacer, IsReplacedWith, IsBrokenOff, matches_in, text_matches_in}
use Rattle.ac_input.specs.Text.{replaced_from}
use Rattle.aho_corasick.specs.declared.ahocorasick.AhoCorasick.{AhoCorasick}
use Rattle.aho_corasick.specs.AhoCorasick.{as_built}

-- a string that holds the text with its matches replaced, and a vector that holds the bytes with theirs replaced
abbrev pub IsReplacedText : AhoCorasick → List ℕ → List (List ℕ) → String Global → Type 0
IsReplacedText ac haystack replacements text =
    string_bytes text ≡ replaced_from 0 haystack replacements (text_matches_in (as_built ac) haystack)

abbrev pub IsReplacedBytes : AhoCorasick → List ℕ → List (List ℕ) → Vec ℕ → Type 0
IsReplacedBytes ac haystack replacements bytes =
    bytes.items ≡ replaced_from 0 haystack replacements (matches_in (as_built ac) haystack)

-- The destination holds what the closure makes of these matches of the haystack, or what it had made of them when
-- memory ran out.
abbrev pub Appends : {F D : Type 0} → (D → List ℕ) → MemoryReplacer F D → List ℕ → List Occurrence → F → D → D
    → Result (Unit {0}) AllocError → Type 0
Appends held g haystack os f old new (Ok done) = IsReplacedWith held g haystack os f old new
Appends held g haystack os f old new (Err error) = IsBrokenOff held g haystack os f old new

-- what the closure makes of the matches that cut no character in a text, and of all matches in bytes
abbrev pub AppendsText : {F : Type 0} → MemoryReplacer F (String Global) → AhoCorasick → List ℕ → F → String Global
    → String Global → Result (Unit {0}) AllocError → Type 0
AppendsText g ac haystack f old new r =
    Appends string_bytes g haystack (text_matches_in (as_built ac) haystack) f old new r

abbrev pub AppendsBytes : {F : Type 0} → MemoryReplacer F (Vec ℕ) → AhoCorasick → List ℕ → F → Vec ℕ → Vec ℕ
    → Result (Unit {0}) AllocError → Type 0
AppendsBytes g ac haystack f old new r =
    Appends (λ v. v.items) g haystack (matches_in (as_built ac) haystack) f old new r
