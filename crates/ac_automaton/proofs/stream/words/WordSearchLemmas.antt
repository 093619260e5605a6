-- What a search of a stream for whole words keeps between its calls stays right.
use Rattle.std.proofs.Common.{◌≡◌, ◌⊎◌, inl, inr, ⊎_elim, ℕ, ◌+◌, ◌≤◌, Bool, true, List, [], ◌∷◌, ◌++◌, length, take, Option, Some, None, sym, ap, subst, refl, ◌∙◌, arith, append-nil, length-append}
use Rattle.std.specs.List.{concat}
use Rattle.std.proofs.Math.Seq.{take-append_seam}
use Rattle.std.proofs.lemmas.Bool.{false≢true}
use Rattle.ac_input.specs.Number.{StateID}
use Rattle.ac_input.specs.declared.search.Anchored.TheVariants.{No}
use Rattle.ac_input.specs.declared.search.MatchKind.{MatchKind}
use Rattle.ac_input.specs.declared.steps.Steps.{Steps}
use Rattle.ac_input.specs.Best.{IsLeast}
use Rattle.ac_input.specs.Dictionary.{Dictionary}
use Rattle.ac_input.specs.Occurrence.{Occurrence}
use Rattle.ac_input.specs.Steps.{Added, AreNone}
use Rattle.ac_input.specs.Word.{OccursWhole}
use Rattle.ac_automaton.specs.InMemory.Overlapping.{OnlyLooked}
use Rattle.ac_automaton.specs.Stream.{CanBeCounted, FindsHeld, IsOnCourse, StreamProgress, Words}
use Rattle.ac_automaton.specs.Stream.Search.{some_of}
use Rattle.ac_automaton.specs.Stream.WholeWords.{asked_for}
use Rattle.ac_automaton.specs.Stream.WholeWords.Held.{TextRead}
use Rattle.ac_automaton.specs.Stream.WholeWords.Search.{IsWordSearch, StandsInStream, word_progress, words_come, remaining_words, words_in}
use Rattle.ac_automaton.specs.Words.{BeginsIfIdle, CostsWord, FindsWord, IsBestOpen, IsBusy, IsQuietPlace, IsWindowOf, StandsForWords, WaitsForWord, anew_after, text_from}
use Rattle.ac_automaton.specs.declared.automaton.Automaton.{Ghosts}
use Rattle.ac_automaton.specs.declared.stream.words.WordSearch.TheInside.{Inside}
use Rattle.ac_automaton.specs.declared.words.Window.{Window}
use Rattle.ac_automaton.specs.declared.words.WordPlace.{WordPlace}
use Rattle.ac_automaton.proofs.stream.words.WordGivenLemmas.{word-ends_on, word-held, word-left_over, words-given}
use Rattle.ac_automaton.proofs.stream.words.WordStandsLemmas.{ListsTell, idle-stands, read-stands, word-stands, words-course}
use Rattle.ac_automaton.proofs.words.FinalLemmas.{window-end}

-- ---- what is kept

-- how far a search has come, from what it keeps
abbrev pub come_by : {S : Type 0} → Ghosts S → Inside S → StreamProgress Words
come_by A i = words_come (A.built i.automaton) i.text i.place

-- what it keeps is right
abbrev pub IsRight : {S : Type 0} → Ghosts S → Inside S → Type 0
IsRight A i = IsOnCourse (come_by A i) × IsWordSearch A i.automaton (come_by A i) i.text i.place

-- the words that were returned are the first ones of what was read
pub given-first : {S : Type 0} (A : Ghosts S) (a : S) (pieces : List (List ℕ)) (given : List Occurrence) (closed : Bool)
    (from : ℕ) (p : WordPlace) (moved : ℕ) (sums : Steps)
    → StandsInStream A a (word_progress (A.built a) pieces given closed from p moved sums) p
    → take (length given) (words_in p.kind (A.built a) (concat pieces)) ≡ given
given-first A a pieces given closed from p moved sums is =
    let m = (A.built a).dictionary in
    let x = concat pieces in
    let all : remaining_words m p.kind x 0 ≡ given ++ remaining_words m p.kind x p.last =
    subst (λ l. remaining_words m p.kind l 0 ≡ given ++ remaining_words m p.kind l p.last) (append-nil x) (is.goes [] (λ _. refl)) in
    ap (take (length given)) all ∙ take-append_seam given (remaining_words m p.kind x p.last)

module _ {S : Type 0} (A : Ghosts S) (i : Inside S) (is : IsRight A i) where
  -- what it keeps after a call that reads nothing
  abbrev pub after_call : WordPlace → ℕ → Steps → Inside S
  after_call r number more = record i { place = r; text = record i.text { returned = number; sums = more } }

  -- what it keeps is right after a call that reads nothing, where it stands right with these words
  renewed : (p : WordPlace) (given : List Occurrence) (r : WordPlace) (number : ℕ) (more : Steps)
      → StandsInStream A i.automaton
      (word_progress (A.built i.automaton) i.text.pieces given i.text.closed i.text.from p i.text.moved more) p
      → r ≡ p → number ≡ length given
      → (come_by A (after_call r number more)
      ≡ word_progress (A.built i.automaton) i.text.pieces given i.text.closed i.text.from p i.text.moved more)
      × IsRight A (after_call r number more)
  renewed p given r number more stands same numbered =
      let b = A.built i.automaton in
      let x = concat i.text.pieces in
      let front : take number (words_in r.kind b x) ≡ given =
      ap (λ (k : MatchKind). take number (words_in k b x)) (ap (λ (q : WordPlace). q.kind) same)
      ∙ ap (λ n. take n (words_in p.kind b x)) numbered
      ∙ given-first A i.automaton i.text.pieces given i.text.closed i.text.from p i.text.moved more stands in
      let view : come_by A (after_call r number more)
      ≡ word_progress b i.text.pieces given i.text.closed i.text.from p i.text.moved more =
      λ j. word_progress b i.text.pieces (front j) i.text.closed i.text.from (same j) i.text.moved more in
      let right : IsOnCourse (word_progress b i.text.pieces given i.text.closed i.text.from p i.text.moved more)
      × IsWordSearch A i.automaton (word_progress b i.text.pieces given i.text.closed i.text.from p i.text.moved more)
      (record i.text { returned = number; sums = more }) p = (
        words-course A i.automaton i.text.pieces given i.text.closed i.text.from p i.text.moved more stands,
        record { stands = stands; number = sym numbered; keep = is.1.keep },
      ) in
      let pair : (come_by A (after_call r number more), r)
      ≡ (word_progress b i.text.pieces given i.text.closed i.text.from p i.text.moved more, p) =
      λ j. (view j, same j) in (
        view,
        subst (λ (z : StreamProgress Words × WordPlace). IsOnCourse z.0
            × IsWordSearch A i.automaton z.0 (record i.text { returned = number; sums = more }) z.1) (sym pair) right,
      )

  -- ---- the next word

  -- the bytes that were read, and the words that were returned
  abbrev text : List ℕ
  text = concat i.text.pieces

  abbrev words : List Occurrence
  words = take i.text.returned (words_in i.place.kind (A.built i.automaton) text)

  -- what the search keeps after a call that found this is right, and it found it
  record HasFound (found : Option Occurrence) (j : Inside S) : Type 0 where
    right : IsRight A j
    finds : FindsHeld (come_by A i) found (come_by A j)

  -- a word was found
  found-word : (o : Occurrence) (w : Window) (q r : WordPlace) (number : ℕ) (fresh taken more : Steps)
      → CanBeCounted text → w.closed ≡ i.text.closed → w.from + length w.bytes.now ≡ length text
      → FindsWord (A.built i.automaton).dictionary (A.Reaches i.automaton No) i.text.from i.text.closed text i.place q (Some o)
      → CostsWord (A.built i.automaton) text i.place q (Some o) fresh taken
      → WaitsForWord A i.automaton w i.place q (Some o) → BeginsIfIdle A i.automaton q r → AreNone fresh
      → Added taken i.text.sums more → number ≡ i.text.returned + 1
      → HasFound (Some o) (after_call r number more)
  found-word o w q r number fresh taken more few closed end finds cost waits idle none added numbered =
      let a = i.automaton in
      let b = A.built a in
      let p = i.place in
      let stands = is.1.stands in
      let t = word_progress b i.text.pieces (words ++ o ∷ []) i.text.closed i.text.from (anew_after p o) i.text.moved more in
      let only : OnlyLooked fresh taken = cost.4.only in
      let zero = none.looked in
      let nowhere = none.scanned in
      let sum = added.looked in
      let places = added.scanned in
      let same = only.scanned in
      let right = word-stands A a i.text.pieces words i.text.closed i.text.from p i.text.moved i.text.sums more fresh taken o stands
      finds.1 finds.2 cost (omega (arith, zero, sum)) (omega (arith, nowhere, places, same)) in
      let there : r ≡ anew_after p o =
      ⊎_elim
      (λ anew. anew.2 ∙ ap (λ (z : WordPlace). record z { sid = z.start; last = z.at }) finds.0)
      (λ still. still.1 ∙ finds.0)
      idle in
      let long = length-append words (o ∷ []) in
      let had = is.1.number in
      let next = renewed (anew_after p o) (words ++ o ∷ []) r number more right there (omega (arith, numbered, long, had)) in
      let begins = finds.1 [] (λ _. refl) in
      let lies = begins.0.0.within in
      record {
        right = next.1;
        finds = subst (λ z. FindsHeld (come_by A i) (Some o) z) (sym next.0) (
          record {
            on = λ standard.
                word-ends_on A a i.text.pieces words i.text.closed i.text.from p i.text.moved i.text.sums stands o finds.1 finds.2
                standard;
            last = omega (arith, lies.0, lies.1);
            closed = refl;
            built = refl;
            pieces = refl;
            from = refl;
          },
          refl,
          refl,
          refl,
          word-held A a i.text.pieces words i.text.closed i.text.from p i.text.moved i.text.sums stands o finds.1 finds.2,
          few,
          word-left_over A a i.text.pieces words i.text.closed i.text.from p i.text.moved i.text.sums stands o finds.1
              (λ open_ searched.
              let no = waits.rests (closed ∙ open_) (searched ∙ sym end) stands.open_ in
              let e : Some o ≡ None = no in cc),
        );
      }

  -- the place where a search stands that has read on
  abbrev read-place : WordPlace → WordPlace
  read-place q = record i.place { sid = q.sid; at = q.at; best = q.best }

  -- none was found, and the search stands here
  none-right : (p : WordPlace) (r : WordPlace) (number : ℕ) (more : Steps)
      → ListsTell A i.automaton
      → StandsInStream A i.automaton
      (word_progress (A.built i.automaton) i.text.pieces words i.text.closed i.text.from p i.text.moved more) p
      → p.kind ≡ i.place.kind → i.place.last ≤ p.last → p.at ≡ length text
      → (i.text.closed ≡ true → IsLeast p.kind (OccursWhole (text_from (A.built i.automaton).dictionary text p.last)) None)
      → (p.last ≡ p.at) ⊎ (p.best ≡ None → IsBusy A i.automaton p) → r ≡ p → number ≡ i.text.returned
      → HasFound None (after_call r number more)
  none-right p r number more tells stands kind last searched none rests same numbered =
      let a = i.automaton in
      let had = is.1.number in
      let within = is.1.stands.stands.place.within in
      let next = renewed p words r number more stands same (omega (arith, numbered, had)) in
      record {
        right = next.1;
        finds = subst (λ z. FindsHeld (come_by A i) None z) (sym next.0) (
          record {
            on = λ standard. omega (arith, searched, within);
            last = last;
            closed = refl;
            built = ap (λ k. asked_for k (A.built a)) kind;
            pieces = refl;
            from = refl;
          },
          refl,
          λ few. words-given A a i.text.pieces words i.text.closed i.text.from p i.text.moved more stands tells searched none rests,
        );
      }

  found-none : (w : Window) (q r : WordPlace) (number : ℕ) (fresh taken more : Steps)
      → ListsTell A i.automaton
      → FindsWord (A.built i.automaton).dictionary (A.Reaches i.automaton No) i.text.from i.text.closed text i.place q None
      → CostsWord (A.built i.automaton) text i.place q None fresh taken
      → WaitsForWord A i.automaton w i.place q None → BeginsIfIdle A i.automaton q r → AreNone fresh
      → Added taken i.text.sums more → number ≡ i.text.returned + 0
      → HasFound None (after_call r number more)
  found-none w q r number fresh taken more tells finds cost waits idle none added numbered =
      let a = i.automaton in
      let b = A.built a in
      let m = b.dictionary in
      let p = i.place in
      let kind = finds.1 in
      let start = finds.2 in
      let last = finds.3 in
      let at = finds.4 in
      let there : q ≡ read-place q =
      λ j. record { kind = kind j; start = start j; sid = q.sid; last = last j; at = q.at; best = q.best } in
      let only : OnlyLooked fresh taken = cost.only in
      let zero = none.looked in
      let nowhere = none.scanned in
      let sum = added.looked in
      let places = added.scanned in
      let same = only.scanned in
      let order = is.1.stands.stands.place.order in
      let within = is.1.stands.stands.place.within in
      let right = read-stands A a i.text.pieces words i.text.closed i.text.from p i.text.moved i.text.sums more fresh taken q.sid q.at
      q.best is.1.stands (subst (StandsForWords m (A.Reaches a No) i.text.from text) there finds.0)
      (subst (IsBestOpen A a) there (waits.open_ refl)) cost (omega (arith, zero, sum))
      (omega (arith, nowhere, places, same)) in
      ⊎_elim
      (λ anew.
      let idle_there : IsQuietPlace A a (read-place q) = subst (IsQuietPlace A a) there anew.1 in
      let p_next : WordPlace = record (read-place q) { sid = p.start; last = q.at; best = None } in
      let here : r ≡ p_next =
      anew.2 ∙ ap (λ (z : WordPlace). record z { sid = z.start; last = z.at }) there
      ∙ ap (λ (best : Option Occurrence). record (read-place q) { sid = p.start; last = q.at; best = best }) anew.0 in
      none-right p_next r number more tells
      (idle-stands A a i.text.pieces words i.text.closed i.text.from (read-place q) i.text.moved more tells right anew.0 idle_there)
      refl (omega (arith, order, within, at)) at
      (λ over o word. let begins = word.0.within in
      finds.5 over o (
        record {
          within = (omega (arith, begins.0, order, within, at), begins.1, begins.2);
          same = word.0.same;
          anchor = λ t. absurd (false≢true t);
        },
        word.1,
      ))
      (inl refl) here (omega (arith, numbered)))
      (λ still.
      none-right (read-place q) r number more tells right refl (omega arith) at finds.5
      (inr (λ empty. subst (IsBusy A a) there (still.0 empty))) (still.1 ∙ there) (omega (arith, numbered)))
      idle

  -- What a call finds: a word, or none.
  pub found-next : (found : Option Occurrence) (w : Window) (q r : WordPlace) (number : ℕ) (fresh taken more : Steps)
      → ListsTell A i.automaton
      → CanBeCounted text → w.closed ≡ i.text.closed → w.from + length w.bytes.now ≡ length text
      → FindsWord (A.built i.automaton).dictionary (A.Reaches i.automaton No) i.text.from i.text.closed text i.place q found
      → CostsWord (A.built i.automaton) text i.place q found fresh taken
      → WaitsForWord A i.automaton w i.place q found → BeginsIfIdle A i.automaton q r → AreNone fresh
      → Added taken i.text.sums more → number ≡ i.text.returned + length (some_of found)
      → IsRight A (after_call r number more)
      × FindsHeld (come_by A i) found (come_by A (after_call r number more))
  found-next None w q r number fresh taken more tells few closed end finds cost waits idle none added numbered =
      let has = found-none w q r number fresh taken more tells finds cost waits idle none added numbered in
      (has.right, has.finds)
  found-next (Some o) w q r number fresh taken more tells few closed end finds cost waits idle none added numbered =
      let has = found-word o w q r number fresh taken more few closed end finds cost waits idle none added numbered in
      (has.right, has.finds)

  -- ---- in a window of the text

  -- where it stands in what a window shows
  pub window-stands : (w : Window) → w.from ≡ i.text.from
      → StandsForWords (A.built i.automaton).dictionary (A.Reaches i.automaton No) w.from text i.place
  window-stands w begins =
      subst (λ n. StandsForWords (A.built i.automaton).dictionary (A.Reaches i.automaton No) n text i.place) (sym begins)
      is.1.stands.stands

  -- what a call finds in a window, where the text counts it
  pub found-in : (found : Option Occurrence) (w : Window) (q r : WordPlace) {t : TextRead} (fresh taken : Steps)
      → ListsTell A i.automaton
      → CanBeCounted text → IsWindowOf w text → (begins : w.from ≡ i.text.from) → w.closed ≡ i.text.closed
      → FindsWord (A.built i.automaton).dictionary (A.Reaches i.automaton No) w.from w.closed text i.place q found
      → CostsWord (A.built i.automaton) text i.place q found fresh taken
      → WaitsForWord A i.automaton w i.place q found → BeginsIfIdle A i.automaton q r → AreNone fresh
      → t ≡ record i.text { returned = i.text.returned + length (some_of found); sums = t.sums }
      → Added taken i.text.sums t.sums
      → IsRight A (record i { place = r; text = t })
      × FindsHeld (come_by A i) found (come_by A (record i { place = r; text = t }))
  found-in found w q r {t} fresh taken tells few shows begins closed finds cost waits idle none same added =
      subst (λ (u : TextRead). IsRight A (record i { place = r; text = u })
      × FindsHeld (come_by A i) found (come_by A (record i { place = r; text = u }))) (sym same)
      (found-next found w q r (i.text.returned + length (some_of found)) fresh taken t.sums tells few closed (window-end shows)
      (subst (λ (z : ℕ × Bool). FindsWord (A.built i.automaton).dictionary (A.Reaches i.automaton No) z.0 z.1 text i.place q found)
      (λ j. (begins j, closed j)) finds)
      cost waits idle none added refl)

-- after a call the search stands in a state that was reached
pub found-reads : (m : Dictionary) (Reaches : List ℕ → StateID → Type 0) (from : ℕ) (closed : Bool) (x : List ℕ)
    (p q : WordPlace) (found : Option Occurrence) → FindsWord m Reaches from closed x p q found → Reaches [] p.start
    → (text : List ℕ) × Reaches text q.sid
found-reads m Reaches from closed x p q None finds start = (_, finds.0.place.reads)
found-reads m Reaches from closed x p q (Some o) finds start =
    ([], subst (λ (z : WordPlace). Reaches [] z.sid) (sym finds.0) start)
