-- How the replaced haystack grows, match by match.
use Rattle.std.proofs.Common.{◌≡◌, ℕ, ◌<◌, ◌≤◌, Bool, true, cond, IsTrue, rules, List, [], ◌∷◌, ◌++◌, length, Option, Some, None, false, drop, get_or, refl, sym, ap, ◌∙◌, subst, arith}
use Rattle.std.specs.Prelude.{slice_range}
use Rattle.std.specs.List.{filter}
use Rattle.std.specs.Str.{IsCharBoundary}
use Rattle.std.proofs.lemmas.Bool.{and_parts}
use Rattle.std.proofs.lemmas.Option.{slice_get_within}
use Rattle.ac_input.specs.declared.search.Anchored.{Anchored}
use Rattle.ac_input.specs.declared.search.Anchored.TheVariants.{No}
use Rattle.ac_input.specs.declared.search.MatchKind.{MatchKind}
use Rattle.ac_input.specs.Occurrence.{Search, Occurrence}
use Rattle.ac_input.specs.Text.{replaced_from}
use Rattle.ac_input.specs.Walk.{IsWalk}
use Rattle.ac_input.proofs.lemmas.TextLemmas.{pick-occurs, replaced-more}
use Rattle.ac_input.proofs.lemmas.WalkLemmas.{pick-within, walk_of-walk}
use Rattle.ac_input.specs.Input.{Asked, whole_of}
use Rattle.ac_automaton.specs.Automaton.{Built, walk_in}
use Rattle.ac_automaton.specs.InMemory.Replace.{LieInOrder, cuts_none, is_boundary, matches_in}

-- the picks of a walk lie in order
pub walk-lies : (kind : MatchKind) (s : Search) (at : ℕ) (last : Option ℕ) (os : List Occurrence)
    → IsWalk kind s at last os → LieInOrder (length s.patterns) s.end at os
walk-lies kind s at last [] walk = tt
walk-lies kind s at last (o ∷ os) walk =
    let from = pick-occurs walk.0 in
    let number = slice_get_within s.patterns o.pattern from.2.same.0 from.2.same.1 in
    let within = pick-within walk.0 in
    (number, within.0, within.1, within.2, walk-lies kind s o.end (Some o.end) os walk.1)

-- the matches of a whole haystack lie in order
pub matches-lie : (b : Built) (haystack : List ℕ)
    → LieInOrder (length b.dictionary.patterns) (length haystack) 0 (matches_in b haystack)
matches-lie b haystack =
    let s : Search =
    record {
      patterns = b.dictionary.patterns;
      pairing = b.dictionary.pairing;
      haystack = haystack;
      start = 0;
      end = length haystack;
      anchored = false;
    } in
    walk-lies b.dictionary.kind s 0 None _ (walk_of-walk b.dictionary.kind s (omega arith))

-- the first of occurrences that lie in order
pub lies-first : {patterns len at : ℕ} {os rest : List Occurrence} {o : Occurrence} → os ≡ o ∷ rest
    → LieInOrder patterns len at os → LieInOrder patterns len at (o ∷ rest)
lies-first {patterns} {len} {at} is lies = subst (LieInOrder patterns len at) is lies

-- one more match is replaced
pub replaced-step : (at : ℕ) {o : Occurrence} {os rest : List Occurrence} (x : List ℕ) (replacements : List (List ℕ))
    (front : List ℕ) {replacement text : List ℕ} → os ≡ o ∷ rest
    → replacement ≡ get_or replacements o.pattern []
    → front ++ replaced_from at x replacements os ≡ text
    → ((front ++ slice_range x at o.start) ++ replacement) ++ replaced_from o.end x replacements rest ≡ text
replaced-step at {o} {rest} x replacements front is is_replacement e =
    ap (λ t. ((front ++ slice_range x at o.start) ++ t) ++ replaced_from o.end x replacements rest) is_replacement
    ∙ replaced-more front at x replacements o rest
    ∙ ap (λ qs. front ++ replaced_from at x replacements qs) (sym is)
    ∙ e

-- the same, as a loop has it: what was made is known by an equation, and so is where the match ends
pub replaced-pushed : (at : ℕ) {end : ℕ} {o : Occurrence} {os rest : List Occurrence} (x : List ℕ)
    (replacements : List (List ℕ)) (front : List ℕ) {made text : List ℕ} → os ≡ o ∷ rest
    → made ≡ (front ++ slice_range x at o.start) ++ get_or replacements o.pattern []
    → end ≡ o.end
    → front ++ replaced_from at x replacements os ≡ text
    → made ++ replaced_from end x replacements rest ≡ text
replaced-pushed at {end} {o} {rest} x replacements front is is_made is_end e =
    ap (λ t. t ++ replaced_from end x replacements rest) is_made
    ∙ ap (λ n. ((front ++ slice_range x at o.start) ++ get_or replacements o.pattern []) ++ replaced_from n x replacements rest) is_end
    ∙ replaced-step at x replacements front is refl e

-- those after the first lie in order from its end on
pub lies-next : (patterns len at : ℕ) {end : ℕ} {os rest : List Occurrence} {o : Occurrence} → os ≡ o ∷ rest → end ≡ o.end
    → LieInOrder patterns len at os → LieInOrder patterns len end rest
lies-next patterns len at {rest} is is_end lies =
    subst (λ n. LieInOrder patterns len n rest) (sym is_end) (subst (LieInOrder patterns len at) is lies).4

-- and that end is within the haystack
pub ends-within : (patterns at : ℕ) {len end : ℕ} {os rest : List Occurrence} {o : Occurrence} → os ≡ o ∷ rest → end ≡ o.end
    → LieInOrder patterns len at os → end ≤ len
ends-within patterns at {len} is is_end lies = subst (λ n. n ≤ len) (sym is_end) (subst (LieInOrder patterns len at) is lies).3

-- one fewer is left
pub fewer-left : {os rest : List Occurrence} {o : Occurrence} → os ≡ o ∷ rest → length rest < length os
fewer-left {rest} is = subst (λ n. length rest < n) (sym (ap length is)) (omega arith)

-- no match is left
pub replaced-end : (at : ℕ) {os : List Occurrence} (x : List ℕ) (replacements : List (List ℕ)) (front : List ℕ)
    {text : List ℕ} → os ≡ []
    → front ++ replaced_from at x replacements os ≡ text
    → front ++ drop at x ≡ text
replaced-end at x replacements front is e = ap (λ qs. front ++ replaced_from at x replacements qs) (sym is) ∙ e

-- occurrences that lie in order from a place on lie in order from an earlier one
pub lies-earlier : (patterns len : ℕ) {at from : ℕ} (os : List Occurrence) → at ≤ from → LieInOrder patterns len from os
    → LieInOrder patterns len at os
lies-earlier patterns len [] le lies = tt
lies-earlier patterns len (o ∷ os) le lies = (lies.0, omega arith, lies.2, lies.3, lies.4)

-- the occurrences that a test keeps lie in order too
pub lies-filter : (p : Occurrence → Bool) (patterns len at : ℕ) (os : List Occurrence) → LieInOrder patterns len at os
    → LieInOrder patterns len at (filter p os)
lies-filter p patterns len at [] lies = tt
lies-filter p patterns len at (o ∷ os) lies =
    let rest = lies-filter p patterns len o.end os lies.4 in
    elim (p o) as (λ b. LieInOrder patterns len at (cond b (o ∷ filter p os) (filter p os))) [
      | true ↦ (lies.0, lies.1, lies.2, lies.3, rest)
      | false ↦ lies-earlier patterns len (filter p os) (omega arith) rest
    ]

-- the matches of an input that is a whole haystack
pub same-input : (b : Built) {x y : List ℕ} {asked : Asked} {os : List Occurrence} → os ≡ walk_in b asked
    → asked ≡ whole_of y → y ≡ x → os ≡ matches_in b x
same-input b is all same = is ∙ ap (walk_in b) all ∙ ap (matches_in b) same

-- what holds of the anchoring of a whole haystack holds of unanchored searches
pub unanchored : (P : Anchored → Type 0) {y : List ℕ} {asked : Asked} → P asked.anchored → asked ≡ whole_of y → P No
unanchored P can all = subst (λ q. P q.anchored) all can

-- the test of a boundary is right: a character begins there, or the text ends
boundary-from_test : (text : List ℕ) {at : ℕ} → IsTrue (is_boundary text at) → IsCharBoundary text at
boundary-from_test text h = search rules

-- a match that cuts no character ends between characters
pub boundary-end : (text : List ℕ) (o : Occurrence) → IsTrue (cuts_none text o) → IsCharBoundary text o.end
boundary-end text o h = boundary-from_test text (and_parts (is_boundary text o.start) (is_boundary text o.end) h).1
