-- What a replacement in memory returns.
use Rattle.std.specs.Prelude.{◌≡◌, ◌≢◌, ◌⊎◌, ℕ, ◌<◌, ◌≤◌, ◌^◌, nat_le, Bool, List, ◌++◌, length, map, drop, Some, Result, Ok, Err}
use Rattle.std.specs.Global.{Vec}
use denote.Ref.{Bor}
use Rattle.ac_input.specs.declared.steps.Steps.{Steps}
use Rattle.ac_input.specs.Input.{whole_of}
use Rattle.ac_input.specs.declared.search.Anchored.TheVariants.{No}
use Rattle.ac_input.specs.Occurrence.{Occurrence}
use Rattle.ac_automaton.specs.Automaton.{refusal_of}
use Rattle.ac_automaton.specs.InMemory.Iter.{Walk, fresh_walk, left_of}
use Rattle.ac_automaton.specs.InMemory.Replace.{LieInOrder, matches_in}
use Rattle.ac_input.specs.Text.{replaced_from}
use Rattle.aho_corasick.specs.AhoCorasick.{as_built, supported_by, pattern_count}
use Rattle.aho_corasick.specs.declared.ahocorasick.AhoCorasick.{AhoCorasick}
use Rattle.ac_c.specs.declared.replace.Length.{Length}
use Rattle.ac_c.specs.Status.{ok, no_memory, too_short, too_many_bytes, wrong_count, refusal_status}
use Rattle.ac_c.specs.Text.{HeldText}
use Rattle.ac_c.specs.Walking.{WalksOn, WalksToEnd}

-- a haystack with each of these replaced by the replacement of its pattern
abbrev pub text_with : List ℕ → List (Bor (List ℕ)) → List Occurrence → List ℕ
text_with haystack replacements os = replaced_from 0 haystack (map (λ r. r.now) replacements) os

-- the same with each match of the haystack
abbrev pub text_by : AhoCorasick → List ℕ → List (Bor (List ℕ)) → List ℕ
text_by ac haystack replacements = text_with haystack replacements (matches_in (as_built ac) haystack)

-- the same with each match that is left of a walk
abbrev pub text_along : List ℕ → List (Bor (List ℕ)) → Walk → List ℕ
text_along haystack replacements w = text_with haystack replacements (left_of w)

-- the matches that are left of a walk lie in order in the haystack, and each has a replacement
abbrev pub AreReplaceable : List ℕ → List (Bor (List ℕ)) → Walk → Type 0
AreReplaceable haystack replacements w = LieInOrder (length replacements) (length haystack) 0 (left_of w)

-- Why there is no text: there isn't one replacement for each pattern; or the automaton has no search that isn't
-- anchored.
abbrev pub IsReplaceRefused : AhoCorasick → List (Bor (List ℕ)) → ℕ → Type 0
IsReplaceRefused ac replacements status = ((status ≡ wrong_count) × (length replacements ≢ pattern_count ac))
    ⊎ ((length replacements ≡ pattern_count ac) × (¬ supported_by ac No) × (status ≡ refusal_status (refusal_of No)))

-- there is a text
abbrev pub IsReplaced : AhoCorasick → List (Bor (List ℕ)) → Type 0
IsReplaced ac replacements = (length replacements ≡ pattern_count ac) × supported_by ac No

-- ---- into a buffer

-- how many bytes a text has; or the status where that is no number of 64 bits
abbrev pub IsLenOf : List ℕ → Result ℕ ℕ → Type 0
IsLenOf text (Ok len) = len ≡ length text
IsLenOf text (Err status) = (2 ^ 64 ≤ length text) × (status ≡ too_many_bytes)

-- the same of the haystack with each match replaced; or the status where there is no such text
abbrev pub IsLenBy : AhoCorasick → List ℕ → List (Bor (List ℕ)) → Result ℕ ℕ → Type 0
IsLenBy ac haystack replacements (Ok len) =
    IsReplaced ac replacements × IsLenOf (text_by ac haystack replacements) (Ok len)
IsLenBy ac haystack replacements (Err status) =
    (IsReplaced ac replacements × IsLenOf (text_by ac haystack replacements) (Err status))
    ⊎ IsReplaceRefused ac replacements status

-- a buffer that begins with these bytes, and is unchanged after them
abbrev pub begun_with : List ℕ → List ℕ → List ℕ
begun_with bytes old = bytes ++ drop (length bytes) old

-- The buffer begins with the text, whose length is told; or it is too short, and the length is told; or no number of 64
-- bits says the length. The buffer is unchanged there.
abbrev pub PutsText : List ℕ → List ℕ → List ℕ → Length → Type 0
PutsText text old new made =
    ((length text ≤ length old) × (made ≡ record { len = length text; status = ok }) × (new ≡ begun_with text old))
    ⊎ ((length old < length text) × (length text < 2 ^ 64) × (made ≡ record { len = length text; status = too_short })
    × (new ≡ old))
    ⊎ ((2 ^ 64 ≤ length text) × (made ≡ record { len = 0; status = too_many_bytes }) × (new ≡ old))

-- the haystack with each match replaced, into a buffer; or there is no such text, and the buffer is unchanged
abbrev pub AnswersInto : AhoCorasick → List ℕ → List (Bor (List ℕ)) → List ℕ → List ℕ → Length → Type 0
AnswersInto ac haystack replacements old new made =
    (IsReplaced ac replacements × PutsText (text_by ac haystack replacements) old new made)
    ⊎ (IsReplaceRefused ac replacements made.status × (made.len ≡ 0) × (new ≡ old))

-- the walk over all matches of a haystack, before its first step
abbrev pub walk_over : AhoCorasick → List ℕ → Walk
walk_over ac haystack = fresh_walk (as_built ac) (whole_of haystack)

-- a haystack of this length may be read ahead
abbrev pub is_long : List ℕ → Bool
is_long haystack = nat_le 4096 (length haystack)

-- What it costs to know the length: a walk to its end, which may read ahead or not. If no number of 64 bits says the
-- length, the walk may stop before.
abbrev pub CostsLen : Bool → Walk → Steps → Steps → Result ℕ ℕ → Type 0
CostsLen ahead w before after (Ok len) = WalksToEnd ahead w before after
CostsLen ahead w before after (Err status) = WalksOn ahead w before after

-- What a text into a buffer costs: a walk over the haystack for the length, and another one to write the text, if there
-- is room. They read ahead only where the haystack is long.
pub record CostsInto (ac : AhoCorasick) (haystack : List ℕ) (status : ℕ) (before after : Steps) : Type 0 where
  pub written : status ≡ ok → (between : Steps) × WalksToEnd (is_long haystack) (walk_over ac haystack) before between
      × WalksToEnd (is_long haystack) (walk_over ac haystack) between after
  pub measured : status ≡ too_short → WalksToEnd (is_long haystack) (walk_over ac haystack) before after
  pub refused : status ≢ ok → status ≢ too_short → WalksOn (is_long haystack) (walk_over ac haystack) before after

-- ---- into memory of the library's

-- the text; or the status where memory ran out, or there is none
abbrev pub IsReplacedBy : AhoCorasick → List ℕ → List (Bor (List ℕ)) → Result (Vec ℕ) ℕ → Type 0
IsReplacedBy ac haystack replacements (Ok text) =
    IsReplaced ac replacements × (text.items ≡ text_by ac haystack replacements)
IsReplacedBy ac haystack replacements (Err status) =
    (IsReplaced ac replacements × (status ≡ no_memory)) ⊎ IsReplaceRefused ac replacements status

-- The text that was made is held; or memory ran out, or there is none, and the one that was there stays.
abbrev pub HoldsText : Result (Vec ℕ) ℕ → HeldText → HeldText → ℕ → Type 0
HoldsText (Ok text) old new status =
    ((status ≡ ok) × (new ≡ Some (record { bytes = text }))) ⊎ ((status ≡ no_memory) × (new ≡ old))
HoldsText (Err error) old new status = (status ≡ error) × (new ≡ old)

-- the text with each match replaced is held; or the status says why not
abbrev pub AnswersText : AhoCorasick → List ℕ → List (Bor (List ℕ)) → HeldText → HeldText → ℕ → Type 0
AnswersText ac haystack replacements old new status =
    (r : Result (Vec ℕ) ℕ) × IsReplacedBy ac haystack replacements r × HoldsText r old new status
