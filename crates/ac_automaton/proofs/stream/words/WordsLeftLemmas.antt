-- The words that are left from a place on, however a text goes on.
use Rattle.std.proofs.Common.{◌≡◌, ◌≢◌, ◌↔◌, inl, ⊎_elim, ℕ, ◌+◌, ◌<◌, ◌≤◌, Bool, true, false, List, [], ◌∷◌, ◌++◌, length, Contains, Option, Some, None, sym, subst, refl, ◌∙◌, arith, length-append}
use Rattle.std.specs.List.{All}
use Rattle.std.proofs.lemmas.Bool.{cases_lt, false≢true}
use Rattle.ac_input.specs.Number.{StateID}
use Rattle.ac_input.specs.declared.search.Anchored.TheVariants.{No}
use Rattle.ac_input.specs.declared.search.MatchKind.{MatchKind}
use Rattle.ac_input.specs.declared.search.MatchKind.TheVariants.{Standard, LeftmostFirst}
use Rattle.ac_input.specs.Best.{IsLeast}
use Rattle.ac_input.specs.Computed.{least}
use Rattle.ac_input.specs.Dictionary.{Dictionary, IsLive, whole}
use Rattle.ac_input.specs.Occurrence.{Occurrence}
use Rattle.ac_input.specs.Tells.{Tells, TellsUnanchored, ending}
use Rattle.ac_input.specs.Walk.{Here}
use Rattle.ac_input.specs.Word.{OccursWhole, whole_occurrences}
use Rattle.ac_input.specs.Work.{longest, shortest}
use Rattle.ac_input.proofs.lemmas.AmongLemmas.{among-best, among-none, among-walk, occurs-earlier}
use Rattle.ac_input.proofs.lemmas.ContainsLemmas.{Contains-head}
use Rattle.ac_input.proofs.lemmas.LiveLemmas.{leftmost-no_later}
use Rattle.ac_input.proofs.lemmas.StateListLemmas.{ending-alive}
use Rattle.ac_input.proofs.lemmas.UnusedLemmas.{occurs-some}
use Rattle.ac_input.proofs.lemmas.WordLemmas.{occurs-reach, whole-counted, words-occur}
use Rattle.ac_automaton.specs.Stream.WholeWords.Search.{remaining_words}
use Rattle.ac_automaton.specs.Words.{IsFinalWord, StandsForWords, WordsBefore, text_from, word_cut}
use Rattle.ac_automaton.specs.declared.words.WordPlace.{WordPlace}
use Rattle.ac_automaton.proofs.in_memory.words.WordWalkLemmas.{word-left}
use Rattle.ac_automaton.proofs.stream.StreamLemmas.{all-from}
use Rattle.ac_automaton.proofs.words.FinalLemmas.{front-word}
use Rattle.ac_automaton.proofs.words.WordPlaceLemmas.{least-like}

-- ---- where they begin

-- each of the words that are left is a word from that place on
pub left-occurs : (m : Dictionary) (kind : MatchKind) (x : List ℕ) (at : ℕ) (o : Occurrence)
    → Contains (remaining_words m kind x at) o → OccursWhole (text_from m x at) o
left-occurs m kind x at o in_ =
    (words-occur kind (whole m x false) at None (remaining_words m kind x at) o
    (among-walk whole-counted kind (whole m x false) at None (omega arith)) in_).1 refl

-- A word that begins where a search last began anew, or later, begins at its cut or later, however the text goes on.
pub begins-at_cut : {m : Dictionary} {Reaches : List ℕ → StateID → Type 0} {from : ℕ} {x : List ℕ} {p : WordPlace}
    → StandsForWords m Reaches from x p
    → ((o : Occurrence) → p.best ≡ Some o → (p.kind ≢ Standard) × (p.at ≤ o.start + longest m.patterns))
    → (more : List ℕ) (q : Occurrence) → OccursWhole (text_from m (x ++ more) p.last) q → word_cut m p ≤ q.start
begins-at_cut {m} {x = x} {p} stands near more q word =
    let within = stands.place.within in
    let order = stands.place.order in
    let all = length-append x more in
    let begins = word.0.within.0 in
    let reach = occurs-reach {s = text_from m (x ++ more) p.last} (omega arith) word.0 in
    ⊎_elim
    (λ (before : q.end < p.at).
    let here : WordsBefore m x p.last p.at q =
    (front-word m x more p.last q (omega arith) (inl (omega arith)) word, before) in
    let late = by p.best refl stands.best here in omega arith)
    (λ (past : p.at ≤ q.end). omega arith)
    (cases_lt q.end p.at)
  where
    by : (r : Option Occurrence) → p.best ≡ r → IsLeast p.kind (WordsBefore m x p.last p.at) r
        → WordsBefore m x p.last p.at q → p.at ≤ q.start + longest m.patterns
    by None e none here = absurd (none q here)
    by (Some b) e least here =
        let open_ = near b e in
        let le = leftmost-no_later p.kind b q open_.0 (least.1 q here) in
        let at = open_.1 in omega arith

-- the words that are left begin at the cut or later
pub left-at_cut : {m : Dictionary} {Reaches : List ℕ → StateID → Type 0} {from : ℕ} {x : List ℕ} {p : WordPlace}
    → StandsForWords m Reaches from x p
    → ((o : Occurrence) → p.best ≡ Some o → (p.kind ≢ Standard) × (p.at ≤ o.start + longest m.patterns))
    → (more : List ℕ) → All (λ o. word_cut m p ≤ o.start) (remaining_words m p.kind (x ++ more) p.last)
left-at_cut {m} {x = x} {p} stands near more =
    all-from (λ o. word_cut m p ≤ o.start) (remaining_words m p.kind (x ++ more) p.last)
    (λ o in_. begins-at_cut stands near more o (left-occurs m p.kind (x ++ more) p.last o in_))

-- ---- from another place on

-- a word from a place on is one from an earlier place on, and the other way about if it begins at the later one
pub word-from : (m : Dictionary) (x : List ℕ) (last at : ℕ) (q : Occurrence) → last ≤ at
    → (OccursWhole (text_from m x last) q → at ≤ q.start)
    → OccursWhole (text_from m x at) q ↔ OccursWhole (text_from m x last) q
word-from m x last at q le begins = (
  λ h. (occurs-earlier (whole m x false) le (λ t. absurd (false≢true t)) h.0, h.1),
  λ h. (record { within = (begins h, h.0.within.1, h.0.within.2); same = h.0.same; anchor = λ t. absurd (false≢true t) }, h.1),
)

-- so the words before a place are the same
pub before-from : (m : Dictionary) (x : List ℕ) (kind : MatchKind) (last at end : ℕ) (r : Option Occurrence) → last ≤ at
    → ((q : Occurrence) → OccursWhole (text_from m x last) q → at ≤ q.start)
    → IsLeast kind (WordsBefore m x last end) r → IsLeast kind (WordsBefore m x at end) r
before-from m x kind last at end r le begins best =
    least-like kind (WordsBefore m x last end) (WordsBefore m x at end) r
    (λ q. let both = word-from m x last at q le (begins q) in
    (λ h. (both.1 h.0, h.1), λ h. (both.0 h.0, h.1))) best

-- where there is no word, none is left
pub left-none : (m : Dictionary) (kind : MatchKind) (x : List ℕ) (last : ℕ)
    → IsLeast kind (OccursWhole (text_from m x last)) None → remaining_words m kind x last ≡ []
left-none m kind x last none =
    among-none whole-counted {kind = kind} {s = whole m x false} {at = last} {last = None} (omega arith)
    (Here none (λ e. e))

-- and so are those that are left
pub left-from : (m : Dictionary) (kind : MatchKind) (x : List ℕ) (last at : ℕ) → 1 ≤ shortest m.patterns → last ≤ at
    → ((q : Occurrence) → OccursWhole (text_from m x last) q → at ≤ q.start)
    → remaining_words m kind x last ≡ remaining_words m kind x at
left-from m kind x last at filled le begins =
    by (least kind (whole_occurrences (text_from m x at))) (among-best whole-counted kind (text_from m x at) (omega arith))
  where
    there : (r : Option Occurrence) → IsLeast kind (OccursWhole (text_from m x at)) r
        → IsLeast kind (OccursWhole (text_from m x last)) r
    there r best =
        least-like kind (OccursWhole (text_from m x at)) (OccursWhole (text_from m x last)) r
        (λ q. word-from m x last at q le (begins q)) best

    by : (r : Option Occurrence) → IsLeast kind (OccursWhole (text_from m x at)) r
        → remaining_words m kind x last ≡ remaining_words m kind x at
    by None best = left-none m kind x last (there None best) ∙ sym (left-none m kind x at best)
    by (Some o) best =
        word-left kind (whole m x false) last o (omega arith) filled (Here (there (Some o) best) (λ e. e))
        ∙ sym (word-left kind (whole m x false) at o (omega arith) filled (Here best (λ e. e)))

-- ---- the next one

-- a final word is the first of those that are left, however the text goes on; the others are those from its end on
pub left-word : (m : Dictionary) (kind : MatchKind) (closed : Bool) (x more : List ℕ) (last : ℕ) (o : Occurrence)
    → 1 ≤ shortest m.patterns → IsFinalWord m kind closed x last o → (closed ≡ true → more ≡ [])
    → remaining_words m kind (x ++ more) last ≡ o ∷ remaining_words m kind (x ++ more) o.end
left-word m kind closed x more last o filled final follows =
    word-left kind (whole m (x ++ more) false) last o (omega arith) filled (Here (final more follows) (λ e. e))

-- ---- where nothing is live

-- no pattern matches where nothing of a text is live
pub idle-list : (m : Dictionary) (t : List ℕ) (ns : List ℕ) → m.kind ≡ Standard → 1 ≤ shortest m.patterns
    → Tells m No t ns → IsLive m false t (Some (length t)) → ns ≡ []
idle-list m t [] standard filled tells live = refl
idle-list m t (n ∷ ns) standard filled tells live =
    let told : TellsUnanchored Standard m t (n ∷ ns) = subst (λ k. TellsUnanchored k m t (n ∷ ns)) standard tells in
    let here = (told.1 (ending m t n)).0 (Contains-head _) in
    let alive = ending-alive {m = m} {text = t} here.0 here.1
    (here.0.same.1, λ first. absurd (let e : Standard ≡ LeftmostFirst = sym standard ∙ first in cc)) (inl standard) in
    let late = live.1 (ending m t n).start alive in
    let some = occurs-some {s = whole m t false} (omega arith) filled here.0 in
    absurd (let end = here.1 in omega arith)
