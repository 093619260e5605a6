-- What replacements make of a text.
use Rattle.std.proofs.Common.{◌≡◌, ℕ, ◌≤◌, Bool, true, false, List, [], ◌∷◌, ◌++◌, length, map, drop, get_or, Some, None, Result, Ok, Err, inl, inr, sym, ap, ◌∙◌, append_assoc, arith}
use Rattle.std.specs.Prelude.{slice_range, IfOk, OnOk}
use Rattle.std.specs.Borrow.{Bor, MutBor}
use Rattle.std.specs.Fn.{Called}
use Rattle.std.specs.List.{filter}
use Rattle.std.proofs.lemmas.Bool.{false≢true}
use Rattle.std.proofs.lemmas.List.Folds.{drop_split}
use Rattle.ac_input.specs.Chain.{IsChain}
use Rattle.ac_input.specs.declared.search.Anchored.{Anchored}
use Rattle.ac_input.specs.Dictionary.{whole}
use Rattle.ac_input.specs.Occurrence.{Search, Occurrence}
use Rattle.ac_input.specs.Same.{IsUnpaired}
use Rattle.ac_input.specs.Walk.{Here}
use Rattle.ac_input.proofs.lemmas.TextLemmas.{replaced-identity}
use Rattle.ac_input.proofs.lemmas.WalkLemmas.{walk_after-none, walk_of-walk}
use Rattle.ac_automaton.specs.Automaton.{Built}
use Rattle.ac_automaton.specs.InMemory.Replace.{AnswersReplaceAll, AnswersReplaceAllWith, IsReplacedWith, LieInOrder, MemoryReplacer, calls_of, cuts_none, matches_in, text_matches_in}
use Rattle.ac_input.specs.Text.{replaced_from}
use Rattle.ac_automaton.specs.declared.error.ReplaceError.{ReplaceError}
use Rattle.ac_automaton.proofs.lemmas.ReplaceLemmas.{matches-lie}
use Rattle.aho_corasick.specs.AhoCorasick.{HasOccurrence}

-- a replacement that succeeds returns the text with each match replaced
pub if-replaced : {D : Type 0} (held : D → List ℕ) (matches : Built → List ℕ → List Occurrence) (b : Built)
    (supports : Anchored → Type 0) (text : List ℕ) (replacements : List (Bor (List ℕ))) (r : Result D ReplaceError)
    → AnswersReplaceAll held matches b supports text replacements r
    → IfOk r (λ d. held d ≡ replaced_from 0 text (map (λ p. p.now) replacements) (matches b text))
if-replaced {D} held matches b supports text replacements (Ok d) answers = answers.1
if-replaced {D} held matches b supports text replacements (Err error) answers = tt

pub if-replaced_with : {F D : Type 0} (held : D → List ℕ) (matches : Built → List ℕ → List Occurrence)
    (g : MemoryReplacer F D) (b : Built) (supports : Anchored → Type 0) (text : List ℕ) (f : F) (old new : D)
    (r : Result (Unit {0}) ReplaceError) → AnswersReplaceAllWith held matches g b supports text f old new r
    → OnOk r (IsReplacedWith held g text (matches b text) f old new)
if-replaced_with {F} {D} held matches g b supports text f old new (Ok done) answers = answers.1
if-replaced_with {F} {D} held matches g b supports text f old new (Err error) answers = tt

-- if no byte is paired, a text in which each match is replaced by its own pattern is unchanged
pub replaced-same : (b : Built) (text : List ℕ) (patterns : List (List ℕ)) → IsUnpaired b.dictionary.pairing
    → patterns ≡ b.dictionary.patterns → replaced_from 0 text patterns (matches_in b text) ≡ text
replaced-same b text patterns unpaired same =
    let s : Search = whole b.dictionary text false in
    replaced-identity b.dictionary.kind s 0 None patterns (matches_in b text) unpaired
    (λ n. ap (λ ps. get_or ps n []) same) (walk_of-walk b.dictionary.kind s (omega arith))

-- a text in which nothing occurs has no match
pub matches-none : (b : Built) (text : List ℕ) → ¬ HasOccurrence (whole b.dictionary text false)
    → matches_in b text ≡ []
matches-none b text none =
    let s : Search = whole b.dictionary text false in
    walk_after-none (omega arith) (Here (λ o occurs. none (o, occurs)) (λ repeats. repeats))

-- a text in which nothing occurs is unchanged by a replacement
pub replaced-none : (b : Built) (text : List ℕ) (replacements : List (List ℕ))
    → ¬ HasOccurrence (whole b.dictionary text false)
    → replaced_from 0 text replacements (text_matches_in b text) ≡ text
replaced-none b text replacements none =
    ap (λ os. replaced_from 0 text replacements (filter (cuts_none text) os))
    (matches-none b text none)

-- the bytes before a match, the match and the bytes after it make up the rest of the text
text-step : (x old : List ℕ) (at start end : ℕ) → at ≤ start → start ≤ end
    → ((old ++ slice_range x at start) ++ slice_range x start end) ++ drop end x ≡ old ++ drop at x
text-step x old at start end first second =
    append_assoc (old ++ slice_range x at start) (slice_range x start end) (drop end x)
    ∙ append_assoc old (slice_range x at start) (slice_range x start end ++ drop end x)
    ∙ ap (λ t. old ++ (slice_range x at start ++ t)) (sym (drop_split x start end second))
    ∙ ap (λ t. old ++ t) (sym (drop_split x at start first))

-- each call of a closure appends the bytes that matched, and goes on
abbrev pub AppendsMatched : {F D : Type 0} → (D → List ℕ) → MemoryReplacer F D → Type 0
AppendsMatched {F} {D} held g =
    (f after : F) (found : Bor Occurrence) (text : Bor (List ℕ)) (dst left : MutBor D) (more : Bool)
    → Called g f (found, (text, (dst, tt))) (Ok more, (left, tt)) after
    → (more ≡ true) × (held left.now ≡ held dst.now ++ text.now)

-- one call of a closure that appends what matched appends these bytes, and goes on
appends-once : {F D : Type 0} (held : D → List ℕ) (g : MemoryReplacer F D) (f after : F) (o : Occurrence)
    (bytes old new : List ℕ) (more : Bool) → AppendsMatched held g → calls_of held g f o bytes old (Some more) after new
    → (more ≡ true) × (new ≡ old ++ bytes)
appends-once held g f after o bytes old new more appends call =
    let replies = call.4 in
    let said = appends f after replies.found replies.text replies.dst replies.left more replies.called in (
      said.0,
      sym call.3 ∙ ap held (sym replies.leaves) ∙ said.1 ∙ ap (λ v. held v ++ replies.text.now) replies.shows.2
          ∙ ap (λ t. t ++ replies.text.now) call.2 ∙ ap (λ t. old ++ t) replies.shows.1,
    )

-- if a closure appends what matched, its calls append the rest of the text unchanged
chain-copies : {F D : Type 0} (held : D → List ℕ) (g : MemoryReplacer F D) (x : List ℕ) (patterns at : ℕ)
    (os : List Occurrence) (f : F) (old : List ℕ) (last : F) (new : List ℕ) → AppendsMatched held g
    → LieInOrder patterns (length x) at os → IsChain (calls_of held g) x at os f old last new → new ≡ old ++ drop at x
chain-copies held g x patterns at [] f old last new appends lies chain = chain.1
chain-copies held g x patterns at (o ∷ os) f old last new appends lies chain = elim chain.2 [
  | inl (called, rest) ↦
      chain-copies held g x patterns o.end os chain.0 chain.1 last new appends lies.4 rest
      ∙ ap (λ t. t ++ drop o.end x)
      (appends-once held g f chain.0 o (slice_range x o.start o.end) (old ++ slice_range x at o.start) chain.1 true
      appends called).1
      ∙ text-step x old at o.start o.end lies.1 lies.2
  | inr stopped ↦ absurd (false≢true (appends-once held g f chain.0 o (slice_range x o.start o.end)
      (old ++ slice_range x at o.start) chain.1 false appends stopped.0).0)
]

pub replaced-copies : {F D : Type 0} (held : D → List ℕ) (g : MemoryReplacer F D) (b : Built) (text : List ℕ) (f : F)
    (old new : D) → AppendsMatched held g → IsReplacedWith held g text (matches_in b text) f old new
    → held new ≡ held old ++ text
replaced-copies held g b text f old new appends is =
    chain-copies held g text (length b.dictionary.patterns) 0 (matches_in b text) f (held old) is.0 (held new) appends
    (matches-lie b text) is.1
