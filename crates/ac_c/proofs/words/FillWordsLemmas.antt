-- A walk over words that fills a buffer: where it stands after each word, and what it has paid.
use Rattle.std.proofs.Common.{◌≡◌, ℕ, ◌+◌, ◌-◌, ◌*◌, ◌<◌, ◌≤◌, List, length, drop, None, Some, Ok, set, add-one, refl, sym, ap, subst, ◌∙◌, arith, length-set, get_or-set_same, mul-add, suc-mul}
use Rattle.std.proofs.Math.Nat.{mul-le-mul_left}
use Rattle.std.proofs.lemmas.Option.{slice_get_read}
use Rattle.ac_input.specs.Occurrence.{Occurrence}
use Rattle.ac_input.specs.Walk.{Further, Here, IsPickAmong}
use Rattle.ac_input.specs.Word.{OccursWhole}
use Rattle.ac_input.specs.Work.{lookups_per_byte}
use Rattle.ac_input.specs.declared.search.MatchKind.{MatchKind}
use Rattle.ac_input.specs.declared.search.MatchKind.TheVariants.{Standard, LeftmostFirst, LeftmostLongest}
use Rattle.ac_input.specs.declared.steps.Steps.{Steps}
use Rattle.ac_automaton.specs.InMemory.Words.{CostsNextWord, GivesWord, WordWalk, word_search, words_left}
use Rattle.ac_automaton.specs.Words.{word_reach}
use Rattle.aho_corasick.specs.declared.ahocorasick.AhoCorasick.{AhoCorasick}
use Rattle.ac_c.specs.declared.found.Found.{Found}
use Rattle.ac_c.specs.Found.{shown}
use Rattle.ac_c.specs.Walk.{AreGiven}
use Rattle.ac_c.specs.Words.{AnswersFrom, AreWordsBy, CostsFilled, CostsWords, GivesWords, PaysWords, from_after, left_of_words, past_word, words_from}

-- a walk that gave no word has paid nothing
pub words-none : (w : WordWalk) (steps : Steps) → PaysWords w w.at 0 steps steps
words-none w steps = record { order = omega arith; looked = omega arith; scanned = refl; moved = refl }

-- after a word was written the walk goes on from its end
pub from-written : (from : ℕ) (out : List Found) (at : ℕ) (o : Occurrence) → at < length out
    → from_after from (set out at (shown o)) (at + 1) ≡ o.end
from-written from out at o room =
    ap (λ n. from_after from (set out at (shown o)) n) (add-one at)
    ∙ ap (λ f. elim f as (λ _. ℕ) [ None ↦ from | Some g ↦ g.end ])
    (slice_get_read (set out at (shown o)) (length out) at (shown o) (sym (length-set out at (shown o))) room
    (sym (get_or-set_same out at (shown o) (shown o) room)))

-- the walk after a call is the one before, but for its place and what it did
abbrev IsMoved : WordWalk → WordWalk → ℕ → Type 0
IsMoved w v at = v ≡ record w { at = at; read = v.read; looked = v.looked; scanned = v.scanned; moved = v.moved }

-- it is that of the first call, too, at another place
pub words-same : (w v u : WordWalk) (at : ℕ) (o : Occurrence) → IsMoved w v at → GivesWord v (Some o) u → IsMoved w u o.end
words-same w v u at o same gives =
    gives.1 ∙ ap (λ (x : WordWalk). record x {
      at = o.end;
      read = u.read;
      looked = u.looked;
      scanned = u.scanned;
      moved = u.moved;
    }) same

-- where none is left it stays where it is
pub words-stay : (w v u : WordWalk) (at : ℕ) → IsMoved w v at → GivesWord v None u → IsMoved w u at
words-stay w v u at same gives =
    gives.1 ∙ ap (λ (x : WordWalk). record x { read = u.read; looked = u.looked; scanned = u.scanned; moved = u.moved }) same

-- a walk's next word begins where the walk stands or later, and ends within the text
lies-after : (kind : MatchKind) (w : WordWalk) (o : Occurrence)
    → IsPickAmong OccursWhole kind (word_search w) w.at None (Some o)
    → (w.at ≤ o.start) × (o.start ≤ o.end) × (o.end ≤ length w.haystack)
lies-after kind w o (Here best fresh) = best.0.0.within
lies-after kind w o (Further b best again next) = absurd again

-- so the walk stays within the text
pub words-within : (w v : WordWalk) (o : Occurrence) → GivesWord w (Some o) v → v.at ≤ length v.haystack
words-within w v o gives =
    subst (λ (x : WordWalk). x.at ≤ length x.haystack) (sym gives.1) (lies-after w.kind w o gives.0).2

-- the search of a word reads no further past its end than that
reach-past : (kind : MatchKind) (patterns : List (List ℕ)) (o : Occurrence) → o.start ≤ o.end
    → word_reach kind patterns o ≤ o.end + past_word kind patterns
reach-past Standard patterns o le = omega arith
reach-past LeftmostFirst patterns o le = omega arith
reach-past LeftmostLongest patterns o le = omega arith

-- two parts of a way, paid one after the other
pays-both : (k way past rest n all : ℕ) → all ≡ way + rest
    → k * (way + n * past) + k * (rest + past) ≡ k * (all + (n + 1) * past)
pays-both k way past rest n all e =
    let turn : (n + 1) * past ≡ n * past + past = ap (λ x. x * past) (add-one n) ∙ suc-mul n past in
    sym (mul-add k (way + n * past) (rest + past)) ∙ ap (λ x. k * x) (omega (arith, turn))

-- one more word is paid
pub words-on : (w v u : WordWalk) (n : ℕ) (o : Occurrence) (before mid after : Steps) → v.built ≡ w.built → v.kind ≡ w.kind
    → PaysWords w v.at n before mid → GivesWord v (Some o) u → CostsNextWord v u mid after (Some o)
    → PaysWords w o.end (n + 1) before after
words-on w v u n o before mid after built kind paid gives cost =
    let lies = lies-after v.kind v o gives.0 in
    let begins = lies.0 in let ends = lies.1 in
    let order = paid.order in
    let k : ℕ = lookups_per_byte w.built.deterministic in
    let past : ℕ = past_word w.kind w.built.dictionary.patterns in
    let reach : word_reach w.kind w.built.dictionary.patterns o ≤ o.end + past =
    reach-past w.kind w.built.dictionary.patterns o ends in
    let more : after.looked.value ≤ mid.looked.value + k * (word_reach w.kind w.built.dictionary.patterns o - v.at) =
    rw (built, kind) at cost.looked in
    let least : k * (word_reach w.kind w.built.dictionary.patterns o - v.at) ≤ k * (o.end - v.at + past) =
    mul-le-mul_left k (omega arith) in
    let both : k * (v.at - w.at + n * past) + k * (o.end - v.at + past) ≡ k * (o.end - w.at + (n + 1) * past) =
    pays-both k (v.at - w.at) past (o.end - v.at) n (o.end - w.at) (omega arith) in
    let so_far : mid.looked.value ≤ before.looked.value + k * (v.at - w.at + n * past) = paid.looked in
    record {
      order = omega arith;
      looked = omega arith;
      scanned = cost.scanned ∙ paid.scanned;
      moved = cost.moved ∙ paid.moved;
    }

-- a walk that met its end has paid up to the end of the text
pub words-over : (w v u : WordWalk) (n : ℕ) (before mid after : Steps) → v.built ≡ w.built → v.haystack ≡ w.haystack
    → v.at ≤ length w.haystack → PaysWords w v.at n before mid → CostsNextWord v u mid after None
    → PaysWords w (length w.haystack) n before after
words-over w v u n before mid after built haystack within paid cost =
    let order = paid.order in
    let k : ℕ = lookups_per_byte w.built.deterministic in
    let past : ℕ = past_word w.kind w.built.dictionary.patterns in
    let more : after.looked.value ≤ mid.looked.value + k * (length w.haystack - v.at) = rw (built, haystack) at cost.looked in
    let both : k * (v.at - w.at + n * past) + k * (length w.haystack - v.at) ≡ k * (length w.haystack - w.at + n * past) =
    sym (mul-add k (v.at - w.at + n * past) (length w.haystack - v.at)) ∙ ap (λ x. k * x) (omega arith) in
    let so_far : mid.looked.value ≤ before.looked.value + k * (v.at - w.at + n * past) = paid.looked in
    record {
      order = omega arith;
      looked = omega arith;
      scanned = cost.scanned ∙ paid.scanned;
      moved = cost.moved ∙ paid.moved;
    }

-- ---- what a call says

-- the walk that was filled from is that of the place, and stands at the new place
pub words-by : (ac : AhoCorasick) (kind : MatchKind) (haystack : List ℕ) (from : ℕ) (w v : WordWalk) (old new : List Found)
    (n place : ℕ) → from ≤ length haystack → AnswersFrom ac kind haystack from (Ok w) → GivesWords w v old new n → place ≡ v.at
    → AreWordsBy ac kind haystack from old new (Ok (n, place))
words-by ac kind haystack from w v old new n place inside answers gives there =
    let begun = answers.3 in
    let all : words_left w ≡ left_of_words ac kind haystack from = ap words_left begun in
    let to : ℕ = from_after from new n in
    let same : IsMoved (words_from ac kind haystack from) v to =
    gives.same ∙ ap (λ (x : WordWalk). record x {
      at = from_after x.at new n;
      read = v.read;
      looked = v.looked;
      scanned = v.scanned;
      moved = v.moved;
    }) begun in
    let goes : place ≡ to = there ∙ ap (λ (x : WordWalk). x.at) same in (
      inside,
      (answers.0, answers.1, answers.2, refl),
      subst (λ os. AreGiven os old new n) all gives.given,
      goes,
      ap (left_of_words ac kind haystack) goes ∙ (sym (ap words_left same) ∙ (gives.rest ∙ ap (drop n) all)),
    )

-- and costs what that walk does
pub words-cost : (ac : AhoCorasick) (kind : MatchKind) (haystack : List ℕ) (from : ℕ) (w v : WordWalk) (room n place : ℕ)
    (before after : Steps) → AnswersFrom ac kind haystack from (Ok w) → CostsFilled w v.at room n before after → place ≡ v.at
    → CostsWords ac kind haystack from room before after (Ok (n, place))
words-cost ac kind haystack from w v room n place before after answers cost there =
    subst (λ (x : WordWalk). CostsFilled x place room n before after) answers.3
    (subst (λ at. CostsFilled w at room n before after) (sym there) cost)
