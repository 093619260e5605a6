-- What the result of a search means for a whole text.
use Rattle.std.proofs.Common.{◌≡◌, ℕ, ◌-◌, ◌≤◌, ◌<◌, Bool, true, false, List, [], length, get_or, take, Option, Some, None, Result, Ok, IsTrue, refl, sym, ap, ◌∙◌, subst, arith}
use Rattle.std.specs.Prelude.{◌↔◌, slice_range, is_some}
use Rattle.std.proofs.lemmas.Grind.{common_steps}
use Rattle.std.proofs.lemmas.Option.{get_or_from_slice_get, slice_get_within}
use Rattle.ac_input.specs.declared.search.Anchored.{Anchored}
use Rattle.ac_input.specs.declared.search.Anchored.TheVariants.{Yes}
use Rattle.ac_input.specs.declared.search.MatchKind.{MatchKind}
use Rattle.ac_input.specs.declared.search.MatchKind.TheVariants.{Standard}
use Rattle.ac_input.specs.Best.{IsBest}
use Rattle.ac_input.specs.Dictionary.{Dictionary, whole}
use Rattle.ac_input.specs.Input.{Asked, whole_of}
use Rattle.ac_input.specs.Occurrence.{Occurrence, Occurs}
use Rattle.ac_input.specs.Work.{shortest}
use Rattle.ac_input.proofs.lemmas.BestLemmas.{best-computed}
use Rattle.ac_input.proofs.lemmas.LiveLemmas.{standard-no_later}
use Rattle.ac_input.proofs.lemmas.OrderLemmas.{occurs-end, same_text-length, slice_range-length}
use Rattle.ac_input.proofs.lemmas.WalkLemmas.{best_of-occurs}
use Rattle.ac_automaton.specs.Automaton.{Built, Finds, IsFound}
use Rattle.ac_automaton.specs.declared.error.MatchErrorKind.{MatchErrorKind}
use Rattle.aho_corasick.specs.AhoCorasick.{HasOccurrence}
use Rattle.aho_corasick.specs.Callers.{BeginsWithPattern, IsFirstEnd, first_in}
use Rattle.ac_input.proofs.lemmas.UnusedLemmas.{shortest-le}

-- the result of a find that succeeds is the match of its input
pub found-for : (b : Built) (supports : Anchored → Type 0) (asked known : Asked)
    (result : Result (Option Occurrence) MatchErrorKind) (r : Option Occurrence)
    → Finds b.dictionary supports asked result → result ≡ Ok r → asked ≡ known → IsFound b known r
found-for b supports asked known result r answers is same =
    let found =
    subst (λ q. Finds b.dictionary supports asked q) is answers in
    subst (λ a. IsFound b a r) same found.1

-- the match of a search over a whole text is the text's first match
pub found-first : (b : Built) (text : List ℕ) (r : Option Occurrence) → IsFound b (whole_of text) r
    → r ≡ first_in b.dictionary text
found-first b text r found = best-computed b.dictionary.kind (whole b.dictionary text false) (omega arith) r found

-- the match that an anchored search over a whole text returns, and the one that an earliest search returns
pub found-anchored : (b : Built) (supports : Anchored → Type 0) (text : List ℕ) (new asked : Asked)
    (result : Result (Option Occurrence) MatchErrorKind) (r : Option Occurrence)
    → Finds b.dictionary supports asked result → result ≡ Ok r → asked ≡ record new { anchored = Yes }
    → new ≡ whole_of text → IsBest b.dictionary.kind (whole b.dictionary text true) r
found-anchored b supports text new asked result r found is made whole_text =
    found-for b supports asked (record (whole_of text) { anchored = Yes }) result r found is
    (made ∙ ap (λ (a : Asked). record a { anchored = Yes }) whole_text)

pub found-earliest : (b : Built) (supports : Anchored → Type 0) (text : List ℕ) (new asked : Asked)
    (result : Result (Option Occurrence) MatchErrorKind) (r : Option Occurrence)
    → Finds b.dictionary supports asked result → result ≡ Ok r → asked ≡ record new { earliest = true }
    → new ≡ whole_of text → IsBest Standard (whole b.dictionary text false) r
found-earliest b supports text new asked result r found is made whole_text =
    found-for b supports asked (record (whole_of text) { earliest = true }) result r found is
    (made ∙ ap (λ (a : Asked). record a { earliest = true }) whole_text)

-- a pattern that begins the text occurs at its start
pub begins-occurs : (m : Dictionary) (text : List ℕ) → BeginsWithPattern m text → HasOccurrence (whole m text true)
begins-occurs m text (n, p, is, begins) =
    let front : slice_range text 0 (length p) ≡ take (length p) text = grind (arith, common_steps) in (
      record { pattern = n; start = 0; end = length p },
      record {
        within = (omega arith, omega arith, begins.0);
        same = (p, is, rw front begins.1);
        anchor = λ _. refl;
      },
    )

-- an occurrence of an anchored search is a pattern that begins the text
pub occurs-begins : (m : Dictionary) (text : List ℕ) (o : Occurrence) → Occurs (whole m text true) o
    → BeginsWithPattern m text
occurs-begins m text o occurs =
    let p = occurs.same.0 in
    let start : o.start ≡ 0 = occurs.anchor refl in
    let len : length p ≡ o.end - o.start = same_text-length m.pairing p (slice_range text o.start o.end) occurs.same.2
    ∙ slice_range-length text o.start occurs.within.1 occurs.within.2 in
    let short : length p ≤ length text = omega (arith, occurs.within.2) in
    let front : slice_range text o.start o.end ≡ take (length p) text = rw (len, start) (grind (arith, common_steps)) in
    (o.pattern, p, occurs.same.1, (short, rw (← front) occurs.same.2))

-- an anchored search finds a match exactly if a pattern begins the text
pub begins-found : (kind : MatchKind) (m : Dictionary) (text : List ℕ) (found : Bool) (r : Option Occurrence)
    → IsBest kind (whole m text true) r → found ≡ is_some r → IsTrue found ↔ BeginsWithPattern m text
begins-found kind m text found None best is =
    (λ yes. cc, λ begins. let has = begins-occurs m text begins in absurd (best has.0 has.1))
begins-found kind m text found (Some o) best is = (λ _. occurs-begins m text o best.0, λ _. is)

-- the best match under standard ends first
pub best-ends_first : (m : Dictionary) (text : List ℕ) (o : Occurrence) (r : Option Occurrence) (end : ℕ)
    → IsBest Standard (whole m text false) r → r ≡ Some o → end ≡ o.end → IsFirstEnd (whole m text false) (Some end)
best-ends_first m text o r end found is ends =
    let best = subst (IsBest Standard (whole m text false)) is found in
    subst (λ e. IsFirstEnd (whole m text false) (Some e)) (sym ends)
    ((o, best.0, refl), λ other occurs. standard-no_later o other (best.1 other occurs))

-- a text in which a pattern occurs is at least as long as the shortest pattern
pub occurs-long : (m : Dictionary) (text : List ℕ) → HasOccurrence (whole m text false)
    → shortest m.patterns ≤ length text
occurs-long m text (o, occurs) =
    let lies = occurs-end (omega arith) occurs in
    let least = shortest-le m.patterns o.pattern lies.1 in
    omega (arith, lies.2, occurs.within.2)

-- the first match in a text has the number of a pattern, and is as long as that pattern
pub first-known : (m : Dictionary) (text : List ℕ) (o : Occurrence) → first_in m text ≡ Some o
    → (o.pattern < length m.patterns) × (length (get_or m.patterns o.pattern []) ≡ o.end - o.start)
first-known m text o is =
    let occurs = best_of-occurs m.kind {s = whole m text false} is in
    let lies = occurs-end (omega arith) occurs in
    let len = ap (λ p. length p) (get_or_from_slice_get m.patterns o.pattern lies.0 [] lies.1) in
    (slice_get_within m.patterns o.pattern lies.0 lies.1, omega (arith, lies.2, len))
