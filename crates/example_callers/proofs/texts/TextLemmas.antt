-- Which words of a list are texts, and the match of such patterns in a text.
use Rattle.std.proofs.Common.{◌≡◌, ℕ, zero, suc, ◌<◌, false, eqb, List, [], ◌∷◌, ◌++◌, length, Option, Some, None, Result, Ok, Err, IsCharBoundary, inl, inr, refl, sym, ap, ◌∙◌, subst, arith}
use Rattle.std.specs.Prelude.{IfOk, option_map, slice_range, Bool}
use Rattle.std.specs.Borrow.{Bor}
use Rattle.std.specs.Str.{IsUtf8}
use Rattle.std.proofs.lemmas.Bool.{eq-eqb, false≢true}
use Rattle.std.proofs.lemmas.List.{map-append}
use Rattle.std.proofs.lemmas.List.Elements.{Contains-push_cases}
use Rattle.ac_input.specs.declared.search.Anchored.TheVariants.{No}
use Rattle.ac_input.specs.declared.search.Span.{Span}
use Rattle.ac_input.specs.declared.search.StartKind.{StartKind}
use Rattle.ac_input.specs.declared.search.StartKind.TheVariants.{Unanchored}
use Rattle.ac_input.specs.Dfa.{Serves}
use Rattle.ac_input.specs.Dictionary.{whole}
use Rattle.ac_input.specs.Input.{Asked, whole_of}
use Rattle.ac_input.specs.Occurrence.{Occurrence}
use Rattle.ac_input.specs.Laws.Utf8Laws.{AreFullTexts, TextOccursBetweenChars, KeepsChars}
use Rattle.ac_literal.specs.Packed.{bytes_of}
use Rattle.ac_automaton.specs.Automaton.{Built, IsFound}
use Rattle.ac_noncontiguous.specs.declared.error.BuildErrorKind.{BuildErrorKind}
use Rattle.aho_corasick.specs.AhoCorasick.{as_built, start_kind_of, supported_by}
use Rattle.aho_corasick.specs.declared.ahocorasick.AhoCorasick.{AhoCorasick}
use Rattle.aho_corasick.specs.Callers.{FindsBytes, first_in}
use Rattle.aho_corasick.proofs.lemmas.FindLemmas.{found-first}
use Rattle.example_callers.specs.Callers.{FindsTexts, IsFirstPart}
use Rattle.ac_input.specs.Pairing.{IsFolded}

-- one more text that isn't empty keeps a list of non-empty texts one
full-push : (patterns : List (List ℕ)) (word : List ℕ) → AreFullTexts patterns → IsUtf8 word → 0 < length word
    → AreFullTexts (patterns ++ word ∷ [])
full-push patterns word full utf8 some p one_of = elim (Contains-push_cases patterns word p one_of) [
  | inl before ↦ full p before
  | inr same ↦ subst (λ q. IsUtf8 q × (0 < length q)) same (utf8, some)
]

-- a number that the test for 0 refuses is positive
some-left : (n : ℕ) → false ≡ eqb n 0 → 0 < n
some-left zero h = absurd (false≢true (h ∙ eq-eqb 0 0 refl))
some-left (suc n) h = omega arith

-- one more borrowed text, pushed by a loop, keeps a list of non-empty texts one
pub full-pushed : (patterns items : List (Bor (List ℕ))) (word : Bor (List ℕ)) (n : ℕ)
    → AreFullTexts (bytes_of patterns) → IsUtf8 word.now → false ≡ eqb n 0 → length word.now ≡ n
    → items ≡ patterns ++ word ∷ [] → AreFullTexts (bytes_of items)
full-pushed patterns items word n full utf8 left len pushed =
    let some : 0 < length word.now = subst (λ k. 0 < k) (sym len) (some-left n left) in
    let more : AreFullTexts (bytes_of (patterns ++ word ∷ [])) = subst AreFullTexts
    (sym (map-append (λ (p : Bor (List ℕ)). p.now) patterns (word ∷ [])))
    (full-push (bytes_of patterns) word.now full utf8 some) in
    subst (λ ps. AreFullTexts (bytes_of ps)) (sym pushed) more

-- an automaton built of texts, which pairs no byte, finds texts
pub texts-found : (patterns : List (List ℕ)) (r : Result AhoCorasick BuildErrorKind)
    → ((folded : Bool) (pairing : List ℕ) → IsFolded folded pairing → KeepsChars pairing) → AreFullTexts patterns
    → IfOk r (λ ac. FindsBytes patterns (as_built ac).dictionary) → IfOk r (λ ac. FindsTexts (as_built ac).dictionary)
texts-found patterns (Ok ac) keeps full (same, standard, unpaired) = record {
  patterns = subst AreFullTexts (sym same) full;
  pairing = keeps false (as_built ac).dictionary.pairing unpaired;
}
texts-found patterns (Err error) keeps full finds = tt

-- an automaton built for unanchored searches has a start for them
pub starts-served : (r : Result AhoCorasick BuildErrorKind) → IfOk r (λ ac. start_kind_of ac ≡ Unanchored)
    → IfOk r (λ ac. supported_by ac No)
starts-served (Ok ac) same = subst (λ k. Serves k No) (sym same) refl
starts-served (Err error) same = tt

-- ---- the match in a text

-- the match that a search of a whole text found
found-whole : (b : Built) (text : List ℕ) (asked : Asked) (r : Option Occurrence) → asked ≡ whole_of text
    → IsFound b asked r → IsFound b (whole_of text) r
found-whole b text asked r same found = subst (λ a. IsFound b a r) same found

-- in a text, a match of texts begins and ends between characters
pub match-between : (b : Built) (text : List ℕ) (asked : Asked) (o : Occurrence) (span : Span) → TextOccursBetweenChars
    → FindsTexts b.dictionary → IsUtf8 text → asked ≡ whole_of text → IsFound b asked (Some o)
    → span ≡ record { start = o.start; end = o.end } → IsCharBoundary text span.start × IsCharBoundary text span.end
match-between b text asked o span between texts utf8 same found is =
    let best = found-whole b text asked (Some o) same found in
    let ends = between (whole b.dictionary text false) o
    (record { haystack = utf8; patterns = texts.patterns; pairing = texts.pairing; inside = omega arith }) best.0 in
    subst (λ s. IsCharBoundary text s.start × IsCharBoundary text s.end) (sym is) ends

-- the part of the text that the first match covers
pub part-first : (b : Built) (text : List ℕ) (asked : Asked) (o : Occurrence) (span : Span) (part : Bor (List ℕ))
    → asked ≡ whole_of text → IsFound b asked (Some o) → span ≡ record { start = o.start; end = o.end }
    → part.now ≡ slice_range text span.start span.end → IsFirstPart b.dictionary text (Some part)
part-first b text asked o span part same found is covers =
    let first : Some o ≡ first_in b.dictionary text =
    found-first b text (Some o) (found-whole b text asked (Some o) same found) in
    ap Some (covers ∙ ap (λ s. slice_range text s.start s.end) is)
    ∙ ap (option_map (λ (x : Occurrence). slice_range text x.start x.end)) first

pub none-first : (b : Built) (text : List ℕ) (asked : Asked) → asked ≡ whole_of text → IsFound b asked None
    → IsFirstPart b.dictionary text None
none-first b text asked same found =
    ap (option_map (λ (x : Occurrence). slice_range text x.start x.end))
    (found-first b text None (found-whole b text asked None same found))
