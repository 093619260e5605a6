-- What a window shows of a text, and which of two words is preferred.
use Rattle.std.proofs.Common.{◌≡◌, ◌≢◌, ℕ, ◌+◌, ◌-◌, ◌<◌, ◌≤◌, true, false, ◌&&◌, List, length, nat_lt, slice_index, sym, ap, ap₂, ◌∙◌, arith, length-drop, get_or-drop}
use Rattle.std.specs.declared.cmp.Ordering.TheVariants.{Greater}
use Rattle.std.proofs.lemmas.Bool.Decides.{nat_tests}
use Rattle.ac_input.specs.declared.search.MatchKind.{MatchKind}
use Rattle.ac_input.specs.declared.search.MatchKind.TheVariants.{Standard, LeftmostFirst, LeftmostLongest}
use Rattle.ac_input.specs.Best.{preference}
use Rattle.ac_input.specs.Occurrence.{Occurrence}
use Rattle.ac_input.specs.Word.{is_word_at, is_word_before, is_word_byte}
use Rattle.ac_automaton.specs.Words.{IsWindowOf}
use Rattle.ac_automaton.specs.declared.words.Window.{Window}

-- ---- the bytes beside a word

-- less by as many on both sides
lt-less : (from at n : ℕ) → from ≤ at → from ≤ n → nat_lt (at - from) (n - from) ≡ nat_lt at n
lt-less from at n g h = grind (arith, nat_tests)

-- a place of the text, seen in the window
pub window-word_at : {w : Window} {x : List ℕ} → IsWindowOf w x → (at : ℕ) → w.from ≤ at
    → is_word_at w.bytes.now (at - w.from) ≡ is_word_at x at
window-word_at {w} {x} is at le =
    let there : w.from + (at - w.from) ≡ at = omega arith in
    ap (λ l. is_word_at l (at - w.from)) is.shown
    ∙ ap₂ (λ a b. a && is_word_byte b)
    (ap (nat_lt (at - w.from)) (length-drop w.from x) ∙ lt-less w.from at (length x) le is.within)
    (get_or-drop w.from x (at - w.from) 0 ∙ ap (slice_index x) there)

-- the place before the first has no word byte
pub word_before-first : (x : List ℕ) (place : ℕ) → ¬ (0 < place) → is_word_before x place ≡ false
word_before-first x place none = let e : place ≡ 0 = omega arith in rw e

pub word_before-later : {w : Window} {x : List ℕ} → IsWindowOf w x → (place : ℕ) → 0 < place → w.from < place
    → is_word_before x place ≡ is_word_at w.bytes.now (place - 1 - w.from)
word_before-later {w} {x} is place some past =
    let yes : nat_lt 0 place ≡ true = grind (arith, nat_tests) in
    ap (λ b. b && is_word_at x (place - 1)) yes ∙ sym (window-word_at is (place - 1) (omega arith))

-- ---- which word is preferred

-- one that begins and ends earlier is preferred by each kind
pub earlier-preferred : (kind : MatchKind) (a b : Occurrence) → a.start < b.start → a.end < b.end
    → preference kind a b ≢ Greater
earlier-preferred Standard a b starts ends = grind (arith, nat_tests)
earlier-preferred LeftmostFirst a b starts ends = grind (arith, nat_tests)
earlier-preferred LeftmostLongest a b starts ends = grind (arith, nat_tests)

-- one that ends earlier is preferred under standard
pub ends-preferred : (kind : MatchKind) (a b : Occurrence) → kind ≡ Standard → a.end < b.end
    → preference kind a b ≢ Greater
ends-preferred Standard a b is ends = grind (arith, nat_tests)
ends-preferred LeftmostFirst a b is ends = absurd (let e : LeftmostFirst ≡ Standard = is in cc)
ends-preferred LeftmostLongest a b is ends = absurd (let e : LeftmostLongest ≡ Standard = is in cc)
