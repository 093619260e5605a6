-- The text before a cut, with each match replaced, is a prefix of the whole text, under any kind.
use Rattle.std.proofs.Common.{◌≡◌, ℕ, ◌<◌, ◌≤◌, List, [], ◌∷◌, ◌++◌, length, take, Contains, inl, inr, refl, sym, ap, ◌∙◌, subst, arith}
use Rattle.std.specs.List.{AllByRecursion}
use Rattle.std.proofs.lemmas.Bool.{cases_lt}
use Rattle.std.proofs.lemmas.List.Elements.{All-from_recursion}
use Rattle.ac_input.specs.Laws.BeginningLaws.{IsBeginning}
use Rattle.ac_input.specs.Cut.{IsCut}
use Rattle.ac_input.specs.Occurrence.{Occurrence}
use Rattle.ac_input.specs.Text.{replaced_from}
use Rattle.ac_input.specs.Work.{shortest}
use Rattle.ac_input.proofs.lemmas.ContainsLemmas.{Contains-head, Contains-tail}
use Rattle.ac_automaton.specs.Automaton.{Built}
use Rattle.ac_automaton.specs.InMemory.Replace.{LieInOrder, matches_in}
use Rattle.ac_automaton.specs.Stream.Replace.{replaced_in}
use Rattle.ac_automaton.proofs.lemmas.ReplaceLemmas.{matches-lie}
use Rattle.ac_automaton.proofs.stream.PlacedLemmas.{lies-behind}
use Rattle.ac_automaton.proofs.stream.StreamCutLemmas.{matches-front}
use Rattle.ac_automaton.proofs.stream.StreamTextLemmas.{replaced-split}

-- each match that lies in order after a place begins there or later
all-later : (patterns len at place : ℕ) (os : List Occurrence) → place ≤ at → LieInOrder patterns len at os
    → AllByRecursion (λ o. place ≤ o.start) os
all-later patterns len at place [] le lies = tt
all-later patterns len at place (o ∷ os) le lies =
    let from : at ≤ o.start = lies.1 in
    let order : o.start ≤ o.end = lies.2 in
    (omega arith, all-later patterns len o.end place os (omega arith) lies.4)

-- matches that lie in order, split into those before a place and those that begin there or later
record SplitsMatchesAt (patterns at place : ℕ) (os : List Occurrence) : Type 0 where
  given : List Occurrence
  rest : List Occurrence
  is : os ≡ given ++ rest
  before : LieInOrder patterns place at given
  later : AllByRecursion (λ o. place ≤ o.start) rest

-- matches that lie in order can be split at a place that none of them crosses
split-matches : (patterns len at place : ℕ) (os : List Occurrence) → LieInOrder patterns len at os
    → ((o : Occurrence) → Contains os o → o.start < place → o.end ≤ place) → SplitsMatchesAt patterns at place os
split-matches patterns len at place [] lies across =
    record { given = []; rest = []; is = refl; before = tt; later = tt }
split-matches patterns len at place (o ∷ os) lies across = elim (cases_lt o.start place) [
  | inl early ↦
      let ends = across o (Contains-head os) early in
      let more = split-matches patterns len o.end place os lies.4 (λ q has. across q (Contains-tail os has)) in
      record {
        given = o ∷ more.given;
        rest = more.rest;
        is = ap (λ qs. o ∷ qs) more.is;
        before = (lies.0, lies.1, lies.2, ends, more.before);
        later = more.later;
      }
  | inr late ↦
      let order : o.start ≤ o.end = lies.2 in
      record {
        given = [];
        rest = o ∷ os;
        is = refl;
        before = tt;
        later = (late, all-later patterns len o.end place os (omega arith) lies.4);
      }
]

-- if no pattern is empty, the text before a cut is a prefix of the whole text
pub cut-begins : (b : Built) (x : List ℕ) (cut : ℕ) (replacements : List (List ℕ)) → 1 ≤ shortest b.dictionary.patterns
    → IsCut b.dictionary x cut → IsBeginning (replaced_in b replacements (take cut x)) (replaced_in b replacements x)
cut-begins b x cut replacements some is_cut =
    let patterns = length b.dictionary.patterns in
    let lies = matches-lie b x in
    let split = split-matches patterns (length x) 0 cut (matches_in b x) lies is_cut.1 in
    let given = split.given in
    let rest = split.rest in
    let front = matches-front b x cut patterns given rest some is_cut.0 split.is split.before
    (All-from_recursion (λ (o : Occurrence). cut ≤ o.start) rest split.later) in
    let behind = lies-behind patterns (length x) 0 cut given rest
    (subst (LieInOrder patterns (length x) 0) split.is lies) split.later in (
      replaced_from cut x replacements rest,
      ap (replaced_from 0 x replacements) split.is
          ∙ sym (replaced-split x replacements patterns 0 cut given rest split.before behind (omega arith) is_cut.0)
          ∙ ap (λ os. replaced_from 0 (take cut x) replacements os ++ replaced_from cut x replacements rest)
          (sym front),
    )
