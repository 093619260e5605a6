-- What a search of a stream for all whole words keeps between its calls stays right.
use Rattle.std.proofs.Common.{◌≡◌, ℕ, ◌+◌, ◌≤◌, Bool, List, [], ◌∷◌, ◌++◌, length, take, Option, Some, None, sym, ap, subst, refl, ◌∙◌, arith, append-nil, length-append}
use Rattle.std.specs.List.{concat}
use Rattle.std.proofs.Math.Seq.{take-append_seam}
use Rattle.ac_input.specs.declared.search.Anchored.TheVariants.{No}
use Rattle.ac_input.specs.declared.steps.Steps.{Steps}
use Rattle.ac_input.specs.Dictionary.{Dictionary}
use Rattle.ac_input.specs.Number.{StateID}
use Rattle.ac_input.specs.Occurrence.{Occurrence}
use Rattle.ac_input.specs.Steps.{Added, AreNone}
use Rattle.ac_automaton.specs.InMemory.Overlapping.{OnlyLooked}
use Rattle.ac_automaton.specs.ListedWords.{GoesOnListed, ListsWord, StandsForListed, word_listing}
use Rattle.ac_automaton.specs.Stream.{AllWords, CanBeCounted, FindsHeld, IsOnCourse, StreamCounts, StreamProgress}
use Rattle.ac_automaton.specs.Stream.Search.{some_of}
use Rattle.ac_automaton.specs.Stream.WholeWords.Held.{TextRead}
use Rattle.ac_automaton.specs.Stream.WholeWords.Overlapping.{IsAllWordsSearch, ListsInStream, all_words_at, all_words_come}
use Rattle.ac_automaton.specs.Words.{IsWindowOf, PaysForWords}
use Rattle.ac_automaton.specs.declared.automaton.Automaton.{Ghosts}
use Rattle.ac_automaton.specs.declared.stream.words.overlapping.OverlappingWordSearch.TheInside.{Inside}
use Rattle.ac_automaton.specs.declared.words.Window.{Window}
use Rattle.ac_automaton.specs.declared.words.listed.ListedPlace.{ListedPlace}
use Rattle.ac_automaton.proofs.stream.StreamLemmas.{end_of-push}
use Rattle.ac_automaton.proofs.stream.words.overlapping.ListedStandsLemmas.{listed-course, listed-given, listed-held, listed-left, lists-then}
use Rattle.ac_automaton.proofs.words.FinalLemmas.{window-end}
use Rattle.ac_automaton.proofs.words.listed.ListedWordLemmas.{listed-begins}

-- how far a search has come, from what it keeps
abbrev pub come_by : {S : Type 0} → Ghosts S → Inside S → StreamProgress AllWords
come_by A i = all_words_come (A.built i.automaton) i.text i.place

-- what it keeps is right
abbrev pub IsRight : {S : Type 0} → Ghosts S → Inside S → Type 0
IsRight A i = IsOnCourse (come_by A i) × IsAllWordsSearch A i.automaton (come_by A i) i.text i.place

-- the words that were returned are the first ones of what was read
pub given-first : {S : Type 0} (A : Ghosts S) (a : S) (pieces : List (List ℕ)) (given : List Occurrence) (closed : Bool)
    (from : ℕ) (p : ListedPlace) (moved : ℕ) (sums : Steps)
    → ListsInStream A a (all_words_at (A.built a) pieces given closed from p moved sums) p
    → take (length given) (word_listing (A.built a).dictionary (concat pieces)) ≡ given
given-first A a pieces given closed from p moved sums is =
    let m = (A.built a).dictionary in
    let x = concat pieces in
    let first = listed-begins m (A.matches a) closed x given p is.stands.listed [] (λ _. refl) in
    ap (λ l. take (length given) (word_listing m l)) (sym (append-nil x)) ∙ ap (take (length given)) first.1
    ∙ take-append_seam given first.0

-- a search stands within the text
pub lists-within : (m : Dictionary) (Reaches : List ℕ → StateID → Type 0) (matches : StateID → List ℕ) (from : ℕ)
    (closed : Bool) (x : List ℕ) (given : List Occurrence) (p : ListedPlace) (r : Option Occurrence)
    → ListsWord m Reaches matches from closed x given p r → p.at ≤ length x
lists-within m Reaches matches from closed x given p None lists = lists.0.within
lists-within m Reaches matches from closed x given p (Some o) lists = lists.0.within

module _ {S : Type 0} (A : Ghosts S) (i : Inside S) (is : IsRight A i) where
  -- the bytes that were read, and the words that were returned
  abbrev text : List ℕ
  text = concat i.text.pieces

  abbrev words : List Occurrence
  words = take i.text.returned (word_listing (A.built i.automaton).dictionary text)

  -- what the search keeps after a call
  abbrev pub after_call : ListedPlace → ℕ → Steps → Inside S
  after_call q number more = record i { place = q; text = record i.text { returned = number; sums = more } }

  -- it is right, where the search stands right with these words
  renewed : (q : ListedPlace) (all : List Occurrence) (number : ℕ) (more : Steps)
      → ListsInStream A i.automaton
      (all_words_at (A.built i.automaton) i.text.pieces all i.text.closed i.text.from q i.text.moved more) q
      → number ≡ length all
      → (come_by A (after_call q number more)
      ≡ all_words_at (A.built i.automaton) i.text.pieces all i.text.closed i.text.from q i.text.moved more)
      × IsRight A (after_call q number more)
  renewed q all number more stands numbered =
      let a = i.automaton in
      let b = A.built a in
      let front : take number (word_listing b.dictionary text) ≡ all =
      ap (λ n. take n (word_listing b.dictionary text)) numbered
      ∙ given-first A a i.text.pieces all i.text.closed i.text.from q i.text.moved more stands in
      let view : come_by A (after_call q number more)
      ≡ all_words_at b i.text.pieces all i.text.closed i.text.from q i.text.moved more =
      λ j. all_words_at b i.text.pieces (front j) i.text.closed i.text.from q i.text.moved more in (
        view,
        subst (λ (z : StreamProgress AllWords). IsOnCourse z
            × IsAllWordsSearch A a z (record i.text { returned = number; sums = more }) q) (sym view) (
              listed-course A a i.text.pieces all i.text.closed i.text.from q i.text.moved more stands,
              record { stands = stands; number = sym numbered; keep = is.1.keep },
            ),
      )

  -- What a call finds: a word, or none.
  pub found-next : (found : Option Occurrence) (w : Window) (q : ListedPlace) (number : ℕ) (fresh taken more : Steps)
      → CanBeCounted text → w.closed ≡ i.text.closed → w.from + length w.bytes.now ≡ length text
      → ListsWord (A.built i.automaton).dictionary (A.Reaches i.automaton No) (A.matches i.automaton) i.text.from i.text.closed
      text words q found
      → GoesOnListed w i.place q found → PaysForWords (A.built i.automaton) text 0 i.place.at q.at fresh taken
      → AreNone fresh → Added taken i.text.sums more → number ≡ i.text.returned + length (some_of found)
      → IsRight A (after_call q number more) × FindsHeld (come_by A i) found (come_by A (after_call q number more))
  found-next None w q number fresh taken more few closed end lists goes pays none added numbered =
      let a = i.automaton in
      let only : OnlyLooked fresh taken = pays.only in
      let same = only.scanned in
      let zero = none.looked in
      let nowhere = none.scanned in
      let sum = added.looked in
      let places = added.scanned in
      let ended = is.1.stands.ended in
      let on = goes.on in
      let had = is.1.number in
      let stands = lists-then A a i.text.pieces words i.text.closed i.text.from i.place i.text.moved i.text.sums is.1.stands q words more
      fresh taken lists.0 (omega arith) pays (omega (arith, zero, sum)) (omega (arith, nowhere, places, same)) in
      let next = renewed q words number more stands (omega (arith, numbered, had)) in (
        next.1,
        subst (λ z. FindsHeld (come_by A i) None z) (sym next.0) (
          record { on = λ _. on; last = on; closed = refl; built = refl; pieces = refl; from = refl },
          refl,
          λ _. listed-given A a i.text.pieces words i.text.closed i.text.from q i.text.moved more stands lists.1 lists.2,
        ),
      )
  found-next (Some o) w q number fresh taken more few closed end lists goes pays none added numbered =
      let a = i.automaton in
      let only : OnlyLooked fresh taken = pays.only in
      let same = only.scanned in
      let zero = none.looked in
      let nowhere = none.scanned in
      let sum = added.looked in
      let places = added.scanned in
      let last = end_of-push words o in
      let ends = lists.1 in
      let on = goes.on in
      let had = is.1.number in
      let long = length-append words (o ∷ []) in
      let stands = lists-then A a i.text.pieces words i.text.closed i.text.from i.place i.text.moved i.text.sums is.1.stands q
      (words ++ o ∷ []) more fresh taken lists.0 (omega (arith, last, ends)) pays (omega (arith, zero, sum))
      (omega (arith, nowhere, places, same)) in
      let next = renewed q (words ++ o ∷ []) number more stands (omega (arith, numbered, long, had)) in (
        next.1,
        subst (λ z. FindsHeld (come_by A i) (Some o) z) (sym next.0) (
          record { on = λ _. on; last = on; closed = refl; built = refl; pieces = refl; from = refl },
          refl,
          sym ends,
          sym ends,
          listed-held A a i.text.pieces words i.text.closed i.text.from i.place i.text.moved i.text.sums is.1.stands o q lists.2 ends on
              lists.0.within,
          few,
          listed-left A a i.text.pieces words i.text.closed i.text.from i.place i.text.moved i.text.sums is.1.stands o lists.2
              (λ open_ searched.
              let no = goes.rests (closed ∙ open_) (searched ∙ sym end) in
              let e : Some o ≡ None = no in cc),
        ),
      )

  -- where it stands in what a window shows
  pub window-stands : (w : Window) → w.from ≡ i.text.from → w.closed ≡ i.text.closed
      → StandsForListed (A.built i.automaton).dictionary (A.Reaches i.automaton No) (A.matches i.automaton) w.from w.closed text
      words i.place
  window-stands w begins closed =
      subst (λ (z : ℕ × Bool).
      StandsForListed (A.built i.automaton).dictionary (A.Reaches i.automaton No) (A.matches i.automaton) z.0 z.1 text words i.place)
      (λ j. (sym begins j, sym closed j)) is.1.stands.stands

  -- what a call finds in a window, where the text counts it
  pub found-in : (found : Option Occurrence) (w : Window) (q : ListedPlace) {t : TextRead} (fresh taken : Steps)
      → CanBeCounted text → IsWindowOf w text → (begins : w.from ≡ i.text.from) → w.closed ≡ i.text.closed
      → ListsWord (A.built i.automaton).dictionary (A.Reaches i.automaton No) (A.matches i.automaton) w.from w.closed text words q
      found
      → GoesOnListed w i.place q found → PaysForWords (A.built i.automaton) text 0 i.place.at q.at fresh taken
      → AreNone fresh → t ≡ record i.text { returned = i.text.returned + length (some_of found); sums = t.sums }
      → Added taken i.text.sums t.sums
      → IsRight A (record i { place = q; text = t })
      × FindsHeld (come_by A i) found (come_by A (record i { place = q; text = t }))
  found-in found w q {t} fresh taken few shows begins closed lists goes pays none same added =
      subst (λ (u : TextRead). IsRight A (record i { place = q; text = u })
      × FindsHeld (come_by A i) found (come_by A (record i { place = q; text = u }))) (sym same)
      (found-next found w q (i.text.returned + length (some_of found)) fresh taken t.sums few closed (window-end shows)
      (subst (λ (z : ℕ × Bool).
      ListsWord (A.built i.automaton).dictionary (A.Reaches i.automaton No) (A.matches i.automaton) z.0 z.1 text words q found)
      (λ j. (begins j, closed j)) lists)
      goes pays none added refl)

  -- what a call counts, where the text counts it
  pub found-counts : (found : Option Occurrence) (q : ListedPlace) {t : TextRead} (fresh taken : Steps) {before after : Steps}
      → PaysForWords (A.built i.automaton) text 0 i.place.at q.at fresh taken → AreNone fresh
      → t ≡ record i.text { returned = i.text.returned + length (some_of found); sums = t.sums }
      → Added taken i.text.sums t.sums → Added taken before after
      → StreamCounts (come_by A i) (come_by A (record i { place = q; text = t })) before after
  found-counts found q {t} fresh taken pays none same added done =
      let only : OnlyLooked fresh taken = pays.only in
      let moved = only.moved in
      let nothing = none.moved in
      let still : t.moved ≡ i.text.moved = ap (λ (u : TextRead). u.moved) same in (
        taken.looked.value,
        taken.scanned.value,
        taken.moved.value,
        done,
        added.looked,
        added.scanned,
        omega (arith, moved, nothing, still),
      )
