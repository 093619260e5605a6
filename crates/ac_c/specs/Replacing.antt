-- A replacement of a text that is passed piece by piece: what it begins as, and what each call does.
use Rattle.std.specs.Prelude.{◌≡◌, ◌≢◌, ◌⊎◌, ℕ, true, false, List, length, map, Option, None, Some, Result}
use denote.Ref.{Bor}
use Rattle.ac_automaton.specs.Stream.{closed_by}
use Rattle.ac_automaton.specs.Stream.Replacer.{GivesText, PushesText, fresh_replacer}
use Rattle.ac_automaton.specs.declared.error.StreamError.{StreamError}
use Rattle.aho_corasick.specs.AhoCorasick.{as_built}
use Rattle.aho_corasick.specs.declared.ahocorasick.AhoCorasick.{AhoCorasick}
use Rattle.ac_c.specs.declared.replace.Length.{Length}
use Rattle.ac_c.specs.declared.replacing.Replacing.{Replacing}
use Rattle.ac_c.specs.declared.searching.Count.{Count}
use Rattle.ac_c.specs.Searching.{push_of}
use Rattle.ac_c.specs.Status.{ok, none, finished, wrong_count}

-- ---- how it begins

-- a replacement by this automaton that was passed nothing yet
abbrev pub replacing_by : AhoCorasick → Replacing
replacing_by ac = record { replacer = fresh_replacer (as_built ac) }

-- ---- what a push takes

-- A finished replacement takes nothing, and is unchanged. Any other takes what the library's replacement takes.
abbrev pub IsPushedOn : Replacing → List ℕ → Replacing → Count → Type 0
IsPushedOn r piece t taken =
    ((r.replacer.finished ≡ true) × (t ≡ r) × (taken ≡ record { count = 0; status = finished }))
    ⊎ ((r.replacer.finished ≡ false) × (got : Result ℕ StreamError) × PushesText r.replacer t.replacer piece got
    × (taken ≡ push_of got))

-- ---- what text comes next

-- how many patterns there are to replace
abbrev pub patterns_in : Replacing → ℕ
patterns_in r = length r.replacer.search.built.dictionary.patterns

-- a slice as C sees it: its length
abbrev pub slice_of : Option (List ℕ) → Length
slice_of None = record { len = 0; status = none }
slice_of (Some bytes) = record { len = length bytes; status = ok }

-- There isn't one replacement for each pattern, and nothing changed. Or the next slice of the text has this length; or
-- there is no slice.
abbrev pub IsGivenText : Replacing → List (Bor (List ℕ)) → Replacing → Length → Type 0
IsGivenText r replacements t given =
    ((length replacements ≢ patterns_in r) × (t ≡ r) × (given ≡ record { len = 0; status = wrong_count }))
    ⊎ ((length replacements ≡ patterns_in r) × (slice : Option (List ℕ))
    × GivesText r.replacer t.replacer (map (λ b. b.now) replacements) slice × (given ≡ slice_of slice))

-- ---- the end of the pieces

abbrev pub ended_by : Replacing → Replacing
ended_by r = record { replacer = (record r.replacer { search = closed_by r.replacer.search; finished = true }) }
