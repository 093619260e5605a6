-- The sequences of items: which is which, and when an item waits to be decided.
use Rattle.std.proofs.Common.{◌≡◌, ◌≢◌, ◌⊎◌, inr, true, refl}
use Rattle.ac_input.specs.declared.search.MatchKind.{MatchKind}
use Rattle.ac_input.specs.declared.search.MatchKind.TheVariants.{Standard, LeftmostFirst, LeftmostLongest}
use Rattle.ac_input.specs.Dictionary.{Dictionary}
use Rattle.ac_input.proofs.lemmas.LiveLemmas.{kind_cases}
use Rattle.ac_automaton.specs.Stream.{AllWords, IsPrompt, Occurrences, Picks, Sequence, Words, may_wait, waits_for}

-- a search for matches is none for occurrences
pub picks≢occurrences : ¬ (Picks ≡ Occurrences)
picks≢occurrences e = cc

-- nor the other way round
pub occurrences≢picks : ¬ (Occurrences ≡ Picks)
occurrences≢picks e = cc

-- a search for words is none for matches
pub words≢picks : ¬ (Words ≡ Picks)
words≢picks e = cc

-- nor for occurrences
pub words≢occurrences : ¬ (Words ≡ Occurrences)
words≢occurrences e = cc

-- each item is decided with its last byte, or one may wait
pub prompt_cases : (q : Sequence) (m : Dictionary) → IsPrompt q m ⊎ (¬ IsPrompt q m)
prompt_cases Picks m = kind_cases m.kind
prompt_cases Occurrences m = kind_cases m.kind
prompt_cases Words m = inr (λ prompt. prompt)
prompt_cases AllWords m = inr (λ prompt. prompt)

-- under a leftmost kind a match may wait
leftmost-waits : (kind : MatchKind) → kind ≢ Standard → may_wait kind ≡ true
leftmost-waits Standard leftmost = absurd (leftmost refl)
leftmost-waits LeftmostFirst leftmost = refl
leftmost-waits LeftmostLongest leftmost = refl

-- where an item isn't decided with its last byte, it may wait
pub waits-unless_prompt : (q : Sequence) (m : Dictionary) → ¬ IsPrompt q m → waits_for q m ≡ true
waits-unless_prompt Picks m waits = leftmost-waits m.kind waits
waits-unless_prompt Occurrences m waits = leftmost-waits m.kind waits
waits-unless_prompt Words m waits = refl
waits-unless_prompt AllWords m waits = refl
