-- When the best word of those that were looked at is the best, however the text goes on.
use Rattle.std.proofs.Common.{◌≡◌, ◌≢◌, ◌⊎◌, inl, inr, ⊎_elim, ℕ, ◌+◌, ◌-◌, ◌<◌, ◌≤◌, Bool, true, false, IsTrue, List, [], ◌++◌, length, drop, Option, Some, None, sym, ap, subst, refl, ◌∙◌, arith, length-append, length-drop, take-append-drop}
use Rattle.std.specs.declared.cmp.Ordering.TheVariants.{Greater}
use Rattle.std.proofs.lemmas.Bool.{cases_lt, false≢true}
use Rattle.std.proofs.lemmas.List.{append-nil}
use Rattle.ac_input.specs.Number.{StateID}
use Rattle.ac_input.specs.declared.search.Anchored.TheVariants.{No}
use Rattle.ac_input.specs.declared.search.MatchKind.{MatchKind}
use Rattle.ac_input.specs.declared.search.MatchKind.TheVariants.{Standard}
use Rattle.ac_input.specs.Best.{IsLeast, preference}
use Rattle.ac_input.specs.Dictionary.{Dictionary, IsLive, whole}
use Rattle.ac_input.specs.Occurrence.{Occurrence, Occurs}
use Rattle.ac_input.specs.Tells.{Tells}
use Rattle.ac_input.specs.Word.{OccursWhole, is_whole_word}
use Rattle.ac_input.specs.Work.{longest, shortest}
use Rattle.ac_input.proofs.lemmas.BeginningLemmas.{longer-occurs, occurs-longer, slice_range-append}
use Rattle.ac_input.proofs.lemmas.MaskLemmas.{final-before_live}
use Rattle.ac_input.proofs.lemmas.OrderLemmas.{slice_range-length}
use Rattle.ac_input.proofs.lemmas.ShiftLemmas.{back_by, occurs-back_by}
use Rattle.ac_input.proofs.lemmas.UnusedLemmas.{occurs-some}
use Rattle.ac_input.proofs.lemmas.WordLemmas.{occurs-reach, word-stays}
use Rattle.ac_automaton.specs.InMemory.Find.Cursor.{read_to}
use Rattle.ac_automaton.specs.Words.{IsDecidedBy, IsFinalWord, IsQuietPlace, IsOpen, IsWindowOf, IsWordPlace, WordsBefore, text_from}
use Rattle.ac_automaton.specs.declared.automaton.Automaton.{Ghosts}
use Rattle.ac_automaton.specs.declared.words.Window.{Window}
use Rattle.ac_automaton.specs.declared.words.WordPlace.{WordPlace}
use Rattle.ac_automaton.proofs.words.WindowLemmas.{earlier-preferred, ends-preferred}
use Rattle.ac_automaton.proofs.words.WordPlaceLemmas.{none-here}

-- ---- words of a text and of one that begins with it

module _ (m : Dictionary) (x more : List ℕ) (last : ℕ) (q : Occurrence) where
  -- what ends within the text and occurs in a longer one occurs in it
  front-occurs : q.end ≤ length x → Occurs (text_from m (x ++ more) last) q → Occurs (text_from m x last) q
  front-occurs ends occurs = longer-occurs {s = text_from m x last} more (omega arith) ends occurs

  -- and the other way about
  occurs-on : Occurs (text_from m x last) q → Occurs (text_from m (x ++ more) last) q
  occurs-on occurs =
      occurs-longer {s = text_from m x last} more (omega arith) (let e = length-append x more in omega arith) occurs

  -- so is a word that ends before the end of the text, or where nothing follows
  pub front-word : q.end ≤ length x → (q.end < length x) ⊎ (more ≡ []) → OccursWhole (text_from m (x ++ more) last) q
      → OccursWhole (text_from m x last) q
  front-word ends known word = (
    front-occurs ends word.0,
    ⊎_elim
        (λ before. sym (word-stays x more q word.0.within.1 before) ∙ word.1)
        (λ none. subst (λ l. IsTrue (is_whole_word l q)) (ap (λ l. x ++ l) none ∙ append-nil x) word.1)
        known,
  )

  pub word-on : (q.end < length x) ⊎ (more ≡ []) → OccursWhole (text_from m x last) q
      → OccursWhole (text_from m (x ++ more) last) q
  word-on known word = (
    occurs-on word.0,
    ⊎_elim
        (λ before. word-stays x more q word.0.within.1 before ∙ word.1)
        (λ none. subst (λ l. IsTrue (is_whole_word l q)) (sym (ap (λ l. x ++ l) none ∙ append-nil x)) word.1)
        known,
  )

-- ---- where nothing is live

-- where no pattern matches and nothing is live, what ends where the search stands or later begins there or later
pub past-live : (m : Dictionary) (x more : List ℕ) (last at : ℕ) (q : Occurrence) → m.kind ≡ Standard → last ≤ at
    → at ≤ length x → Tells m No (read_to (text_from m x last) at) []
    → IsLive m false (read_to (text_from m x last) at) (Some (length (read_to (text_from m x last) at)))
    → Occurs (text_from m (x ++ more) last) q → at ≤ q.end → (at < q.end) × (at ≤ q.start)
past-live m x more last at q standard order within tells live occurs past =
    let all = length-append x more in
    let t = read_to (text_from m x last) at in
    let long : length t ≡ at - last = slice_range-length x last order within in
    let later : at < q.end =
    ⊎_elim (λ (yes : at < q.end). yes)
    (λ (le : q.end ≤ at). absurd (none-here m x last at order within standard [] tells refl q
    (front-occurs m x more last q (omega arith) occurs) (omega arith)))
    (cases_lt at q.end) in
    let w = occurs.within in
    let whole_one : Occurs (whole m (x ++ more) false) q =
    record { within = (omega arith, w.1, w.2); same = occurs.same; anchor = λ e. absurd (false≢true e) } in
    let back = occurs-back_by m {text = x ++ more} {from = last} (omega arith) w.0 whole_one in
    let rest : drop last (x ++ more) ≡ t ++ drop (at - last) (drop last (x ++ more)) =
    sym (take-append-drop (at - last) (drop last (x ++ more)))
    ∙ ap (λ l. l ++ drop (at - last) (drop last (x ++ more))) (slice_range-append x more order within) in
    let there = subst (λ l. Occurs (whole m l false) (back_by last q)) rest back in
    let begins : at ≤ q.start =
    ⊎_elim
    (λ (before : q.start < at).
    let ends = (final-before_live m t (length t) live).1 (drop (at - last) (drop last (x ++ more))) (back_by last q) there
    (omega arith) in absurd (omega arith))
    (λ (le : at ≤ q.start). le)
    (cases_lt q.start at) in
    (later, begins)

-- ---- the best word

-- Of all words that end before a place, which is no further than the next byte of the text is known, this is the best; and it is
-- decided. Then it is the best, however the text goes on.
pub final-word : (m : Dictionary) (Reaches : List ℕ → StateID → Type 0) (matches : StateID → List ℕ) {from : ℕ}
    {x : List ℕ} {p : WordPlace} (closed : Bool) → m.kind ≡ Standard → 1 ≤ shortest m.patterns
    → ((text : List ℕ) (sid : StateID) → Reaches text sid → Tells m No text (matches sid))
    → IsWordPlace m Reaches from x p → (before : ℕ) (over : Bool) (o : Occurrence)
    → (before ≤ length x) ⊎ ((closed ≡ true) × (before ≤ length x + 1)) → p.at ≤ before → before ≤ p.at + 1
    → (over ≡ true → (closed ≡ true) × (length x < before))
    → IsLeast p.kind (WordsBefore m x p.last before) (Some o)
    → (over ≡ true) ⊎ (p.kind ≡ Standard) ⊎ (o.start + longest m.patterns < before)
    ⊎ ((matches p.sid ≡ []) × ((text : List ℕ) → Reaches text p.sid → IsLive m false text (Some (length text))))
    → IsFinalWord m p.kind closed x p.last o × (o.end ≤ length x)
final-word m Reaches matches {from} {x} {p} closed standard filled tells is before over o known upto to ends least decided =
    let within = is.within in
    let inside : o.end ≤ length x = let e = least.0.0.0.within.2 in omega arith in
    (by, inside)
  where
    by : IsFinalWord m p.kind closed x p.last o
    by more follows =
        let kept : (q : Occurrence) → q.end < before → (q.end < length x) ⊎ (more ≡ []) =
        λ q sooner. ⊎_elim
        (λ (le : before ≤ length x). inl (omega arith))
        (λ (yes : (closed ≡ true) × (before ≤ length x + 1)). inr (follows yes.0))
        known in (
          word-on m x more p.last o (kept o least.0.1) least.0.0,
          λ q word. ⊎_elim
              (λ (sooner : q.end < before).
              let within = is.within in
              least.1 q (front-word m x more p.last q (omega arith) (kept q sooner) word, sooner))
              (λ (past : before ≤ q.end). later more follows q word.0 past)
              (cases_lt q.end before),
        )
      where
        later : (more : List ℕ) → (closed ≡ true → more ≡ []) → (q : Occurrence)
            → Occurs (text_from m (x ++ more) p.last) q → before ≤ q.end → preference p.kind o q ≢ Greater
        later more follows q occurs past =
            let sooner = least.0.1 in
            ⊎_elim
            (λ (over_is : over ≡ true).
            let yes = ends over_is in
            let none = ap length (follows yes.0) in
            let all = length-append x more in
            let e = occurs.within.2 in absurd (omega arith))
            (λ rest. ⊎_elim
            (λ (kind_is : p.kind ≡ Standard). ends-preferred p.kind o q kind_is (omega arith))
            (λ rest. ⊎_elim
            (λ (far : o.start + longest m.patterns < before).
            let reach = occurs-reach {s = text_from m (x ++ more) p.last} (omega arith) occurs in
            earlier-preferred p.kind o q (omega arith) (omega arith))
            (λ (quiet : (matches p.sid ≡ [])
            × ((text : List ℕ) → Reaches text p.sid → IsLive m false text (Some (length text)))).
            let told : Tells m No (read_to (text_from m x p.last) p.at) [] =
            subst (λ ns. Tells m No (read_to (text_from m x p.last) p.at) ns) quiet.0 (tells _ p.sid is.reads) in
            let begins = past-live m x more p.last p.at q standard is.order is.within told (quiet.1 _ is.reads) occurs
            (omega arith) in
            let some = occurs-some {s = text_from m x p.last} (omega arith) filled least.0.0.0 in
            earlier-preferred p.kind o q (omega arith) (omega arith))
            rest) rest) decided

-- where nothing follows and there is no word up to the end, there is none
pub no-word : (m : Dictionary) (x : List ℕ) (last before : ℕ) (kind : MatchKind) → length x < before
    → IsLeast kind (WordsBefore m x last before) None → IsLeast kind (OccursWhole (text_from m x last)) None
no-word m x last before kind past none = λ o word. none o (word, let e = word.0.within.2 in omega arith)

-- the window shows the text up to its end
pub window-end : {w : Window} {x : List ℕ} → IsWindowOf w x → w.from + length w.bytes.now ≡ length x
window-end {w} {x} is = let e = ap length is.shown ∙ length-drop w.from x in let le = is.within in omega arith

-- where a search stands doesn't depend on its best word
pub place-best : {m : Dictionary} {Reaches : List ℕ → StateID → Type 0} {from : ℕ} {x : List ℕ} {p : WordPlace}
    → IsWordPlace m Reaches from x p → (r : Option Occurrence) → IsWordPlace m Reaches from x (record p { best = r })
place-best is r =
    record {
      start = is.start;
      before = is.before;
      order = is.order;
      within = is.within;
      reads = is.reads;
    }

-- ---- when it is decided

-- a word that is open isn't decided
pub open-decided : {S : Type 0} (A : Ghosts S) (a : S) {p : WordPlace} {text : List ℕ} {o : Occurrence}
    → A.Reaches a No text p.sid → IsOpen A a p false false o → ¬ IsDecidedBy A a p false false o
open-decided A a {p} {text} reads is decided =
    ⊎_elim
    (λ (over : false ≡ true). false≢true over)
    (λ rest. ⊎_elim
    (λ (standard : p.kind ≡ Standard). is.leftmost standard)
    (λ rest. ⊎_elim
    (λ far. let near = is.needed in omega arith)
    (λ (idle : IsQuietPlace A a p). is.busy idle.0 text reads (idle.1 text reads))
    rest) rest) decided
