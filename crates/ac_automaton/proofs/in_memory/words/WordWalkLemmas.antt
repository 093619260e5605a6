-- A walk over whole words: what a call gives, what is left after it, and what it costs.
use Rattle.std.proofs.Common.{◌≡◌, ℕ, ◌+◌, ◌-◌, ◌*◌, ◌≤◌, Bool, true, false, List, [], ◌∷◌, length, Option, None, Some, sym, ap, subst, refl, ◌∙◌, arith}
use Rattle.std.specs.Iterator.{MakesProgress, YieldsFirst, item_count}
use Rattle.std.proofs.Math.Nat.{mul-le-mul_left}
use Rattle.std.proofs.lemmas.List.{append-nil}
use Rattle.ac_input.specs.Number.{StateID}
use Rattle.ac_input.specs.declared.search.MatchKind.{MatchKind}
use Rattle.ac_input.specs.declared.steps.Steps.{Steps}
use Rattle.ac_input.specs.Best.{IsLeast}
use Rattle.ac_input.specs.Computed.{walk_among}
use Rattle.ac_input.specs.Dictionary.{Dictionary, live_len, whole}
use Rattle.ac_input.specs.Occurrence.{Occurrence, Search, starting_at}
use Rattle.ac_input.specs.Walk.{Further, Here, IsPickAmong, IsWalkAmong, Repeats}
use Rattle.ac_input.specs.Word.{OccursWhole, whole_occurrences}
use Rattle.ac_input.specs.Work.{lookups_per_byte, shortest}
use Rattle.ac_input.proofs.lemmas.AmongLemmas.{among-none, among-some, among-walk, among-walk_one}
use Rattle.ac_input.proofs.lemmas.OrderLemmas.{slice_range-length}
use Rattle.ac_input.proofs.lemmas.UnusedLemmas.{occurs-some}
use Rattle.ac_input.proofs.lemmas.WordLemmas.{whole-counted}
use Rattle.ac_automaton.specs.Automaton.{Built}
use Rattle.ac_automaton.specs.InMemory.Find.Cursor.{read_to}
use Rattle.ac_automaton.specs.InMemory.Overlapping.{IsPaidAt, OnlyLooked}
use Rattle.ac_automaton.specs.InMemory.Words.{GivesWord, WordWalk, word_search, word_walk_at, words_left, words_reach}
use Rattle.ac_automaton.specs.Words.{CostsWord, FindsWord, IsFinalWord, PaysForWords, StandsForWords, text_from, word_reach}
use Rattle.ac_automaton.specs.declared.words.WordPlace.{WordPlace}
use Rattle.ac_automaton.proofs.in_memory.overlapping.OverlappingReadLemmas.{paid-to}

-- ---- what a call gives

-- a final word is the next pick of a text after which nothing follows
pub final-pick : (m : Dictionary) (kind : MatchKind) (x : List ℕ) (at : ℕ) (o : Occurrence)
    → IsFinalWord m kind true x at o → IsPickAmong OccursWhole kind (whole m x false) at None (Some o)
final-pick m kind x at o final =
    Here
    (subst (λ l. IsLeast kind (OccursWhole (text_from m l at)) (Some o)) (append-nil x) (final [] (λ _. refl)))
    (λ repeats. repeats)

-- where none is left, there is no pick
pub no-pick : (m : Dictionary) (kind : MatchKind) (x : List ℕ) (at : ℕ)
    → IsLeast kind (OccursWhole (text_from m x at)) None → IsPickAmong OccursWhole kind (whole m x false) at None None
no-pick m kind x at none = Here none (λ repeats. repeats)

-- ---- what is left

-- a word isn't empty, so it doesn't matter where the one before it ended
word-fresh : (kind : MatchKind) (s : Search) (last : Option ℕ) (r : Option Occurrence) → s.end ≤ length s.haystack
    → 1 ≤ shortest s.patterns → IsLeast kind (OccursWhole s) r → ¬ Repeats last r
word-fresh kind s None r inside filled best again = again
word-fresh kind s (Some l) None inside filled best again = again
word-fresh kind s (Some l) (Some o) inside filled best again =
    let lt = occurs-some {s = s} inside filled best.0.0 in
    let e = again.0 in let d = again.1 in omega arith

pick-any_last : {kind : MatchKind} {s : Search} {at : ℕ} (last other : Option ℕ) {r : Option Occurrence}
    → s.end ≤ length s.haystack → 1 ≤ shortest s.patterns → IsPickAmong OccursWhole kind s at last r
    → IsPickAmong OccursWhole kind s at other r
pick-any_last {kind} {s} {at} last other {r} inside filled (Here best fresh) =
    Here best (word-fresh kind (starting_at s at) other r inside filled best)
pick-any_last {kind} {s} {at} last other {r} inside filled (Further b best again next) =
    absurd (word-fresh kind (starting_at s at) last b inside filled best again)

walk-any_last : (kind : MatchKind) (s : Search) (at : ℕ) (last other : Option ℕ) (os : List Occurrence)
    → s.end ≤ length s.haystack → 1 ≤ shortest s.patterns → IsWalkAmong OccursWhole kind s at last os
    → IsWalkAmong OccursWhole kind s at other os
walk-any_last kind s at last other [] inside filled walk = pick-any_last last other inside filled walk
walk-any_last kind s at last other (o ∷ os) inside filled walk = (pick-any_last last other inside filled walk.0, walk.1)

-- after a word the words that are left are those from its end on
pub word-left : (kind : MatchKind) (s : Search) (at : ℕ) (o : Occurrence) → s.end ≤ length s.haystack
    → 1 ≤ shortest s.patterns → IsPickAmong OccursWhole kind s at None (Some o)
    → walk_among whole_occurrences kind s at None ≡ o ∷ walk_among whole_occurrences kind s o.end None
word-left kind s at o inside filled pick =
    among-some whole-counted inside pick
    ∙ ap (λ os. o ∷ os)
    ((among-walk_one whole-counted kind s o.end None (walk_among whole_occurrences kind s o.end (Some o.end)) inside).0
    (walk-any_last kind s o.end (Some o.end) None (walk_among whole_occurrences kind s o.end (Some o.end)) inside filled
    (among-walk whole-counted kind s o.end (Some o.end) inside)))

-- each call returns the first word that is left
pub word-yields : (w v : WordWalk) (r : Option Occurrence) → 1 ≤ shortest v.built.dictionary.patterns
    → GivesWord w r v → YieldsFirst words_left w r v
word-yields w v None filled gives =
    let none = among-none whole-counted {kind = w.kind} {s = word_search w} (omega arith) gives.0 in
    (none, ap words_left gives.1 ∙ none)
word-yields w v (Some o) filled gives =
    word-left w.kind (word_search w) w.at o (omega arith)
    (subst (λ b. 1 ≤ shortest b.dictionary.patterns) (ap (λ x. x.built) gives.1) filled) gives.0
    ∙ ap (λ x. o ∷ words_left x) (sym gives.1)

-- so fewer are left than there were
pub words-progress : {w v : WordWalk} (r : Option Occurrence) → YieldsFirst words_left w r v
    → MakesProgress (λ _. Unit {0}) (item_count words_left) w r v
words-progress None h = record { on = λ _. tt; keeps = tt; rests = λ _. tt }
words-progress (Some o) h = let longer = ap length h in
    record { on = λ _. (tt, tt, omega arith); keeps = tt; rests = λ _. tt }

-- ---- what it costs

-- no more is live than was read
live-within : (text : List ℕ) (live : Option ℕ) → live_len text live ≤ length text
live-within text None = omega arith
live-within text (Some from) = omega arith

-- no look is paid for anywhere
pub paid-zero : (m : Dictionary) (deterministic : Bool) (x : List ℕ) (last at : ℕ) → last ≤ at → at ≤ length x
    → IsPaidAt m deterministic (text_from m x last) last at 0
paid-zero m deterministic x last at order within live is =
    let long = slice_range-length x last order within in
    let few = live-within (read_to (text_from m x last) at) live in
    (omega arith, λ yes. omega arith)

-- what a search pays as it reads on to a place is bounded by the bytes up to there
pub pays-within : (b : Built) (x : List ℕ) (last from to reach : ℕ) (before after : Steps) → last ≤ from → from ≤ length x
    → last ≤ to → to ≤ reach → PaysForWords b x last from to before after
    → after.looked.value ≤ before.looked.value + lookups_per_byte b.deterministic * (reach - last)
pays-within b x last from to reach before after order within past le pays =
    let m = b.dictionary in
    let only = pays.only in
    let rose = only.rose in
    let more : ℕ = after.looked.value - before.looked.value in
    let paid = pays.paid 0 more (paid-zero m b.deterministic x last from order within) (omega arith) in
    let bound : more ≤ lookups_per_byte b.deterministic * (to - last) =
    paid-to m b.deterministic (text_from m x last) last to to more past (omega arith) paid in
    let grows : lookups_per_byte b.deterministic * (to - last) ≤ lookups_per_byte b.deterministic * (reach - last) =
    mul-le-mul_left (lookups_per_byte b.deterministic) (omega arith) in
    omega arith

-- ---- one call

-- what the search found is the walk's next word
pub word-given : (b : Built) (Reaches : List ℕ → StateID → Type 0) (from : ℕ) (x : List ℕ) (p q : WordPlace)
    (sums more : Steps) (r : Option Occurrence) → FindsWord b.dictionary Reaches from true x p q r
    → GivesWord (word_walk_at b x p sums) r (word_walk_at b x q more)
word-given b Reaches from x p q sums more None finds =
    let kind = finds.1 in
    let last = finds.3 in (
      no-pick b.dictionary p.kind x p.last (finds.5 refl),
      λ j. record {
        built = b;
        kind = kind j;
        haystack = x;
        at = last j;
        read = q.at;
        looked = more.looked.value;
        scanned = more.scanned.value;
        moved = more.moved.value;
      },
    )
word-given b Reaches from x p q sums more (Some o) finds = (
  final-pick b.dictionary p.kind x p.last o finds.1,
  ap (λ place. record (word_walk_at b x place more) { read = q.at }) finds.0,
)

-- where it found no word, it has read all
pub word-ends : (m : Dictionary) (Reaches : List ℕ → StateID → Type 0) (from : ℕ) (x : List ℕ) (p q : WordPlace)
    (r : Option Occurrence) → FindsWord m Reaches from true x p q r → r ≡ None → q.at ≡ length x
word-ends m Reaches from x p q None finds none = finds.4
word-ends m Reaches from x p q (Some o) finds none = absurd (let e : Some o ≡ None = none in cc)

-- a search that has read all looks at nothing more
pub word-over : (b : Built) (Reaches : List ℕ → StateID → Type 0) (from : ℕ) (closed : Bool) (x : List ℕ) (p q : WordPlace)
    (r : Option Occurrence) (before after : Steps) → FindsWord b.dictionary Reaches from closed x p q r
    → CostsWord b x p q r before after → p.at ≡ length x → after.looked.value ≡ before.looked.value
word-over b Reaches from closed x p q None before after finds cost all =
    let end = finds.4 in cost.rests (omega (arith, end, all))
word-over b Reaches from closed x p q (Some o) before after finds (at, ends, reach, inside, cost) all =
    cost.rests (omega (arith, inside, all))

-- what it cost is within the walk's bound
pub word-paid : (b : Built) (Reaches : List ℕ → StateID → Type 0) (from : ℕ) (x : List ℕ) (p q : WordPlace)
    (r : Option Occurrence) (before after : Steps) → StandsForWords b.dictionary Reaches from x p
    → FindsWord b.dictionary Reaches from true x p q r → CostsWord b x p q r before after
    → (after.looked.value ≤ before.looked.value
    + lookups_per_byte b.deterministic * (words_reach (word_walk_at b x p before) r - p.last))
    × OnlyLooked before after
word-paid b Reaches from x p q None before after stands finds cost =
    let order = stands.place.order in
    let within = stands.place.within in
    let end = finds.4 in (
      pays-within b x p.last p.at q.at (length x) before after order within (omega arith) (omega arith) cost,
      cost.only,
    )
word-paid b Reaches from x p q (Some o) before after stands finds (at, ends, reach, inside, cost) =
    let order = stands.place.order in
    let within = stands.place.within in
    let begins = finds.1 [] (λ _. refl) in
    let lies = begins.0.0.within in (
      pays-within b x p.last p.at at (word_reach p.kind b.dictionary.patterns o) before after order within (omega arith) reach
          cost,
      cost.only,
    )
