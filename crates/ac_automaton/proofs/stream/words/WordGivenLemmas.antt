-- When a search of a stream for whole words has returned all words of what was read.
use Rattle.std.proofs.Common.{◌≡◌, ◌≢◌, ◌⊎◌, inl, inr, ⊎_elim, ℕ, ◌+◌, ◌-◌, ◌<◌, ◌≤◌, Bool, true, false, List, [], ◌∷◌, ◌++◌, length, drop, Option, Some, None, slice_range, sym, ap, subst, refl, ◌∙◌, arith, append-nil, length-append, length-drop}
use Rattle.std.specs.List.{concat}
use Rattle.std.proofs.lemmas.Bool.{cases_lt, cases_Bool}
use Rattle.std.proofs.lemmas.List.{drop-drop, take_rest}
use Rattle.std.proofs.lemmas.Option.{slice_get_within}
use Rattle.ac_input.specs.declared.search.MatchKind.{MatchKind}
use Rattle.ac_input.specs.declared.search.MatchKind.TheVariants.{Standard}
use Rattle.ac_input.specs.declared.steps.Steps.{Steps}
use Rattle.ac_input.specs.Best.{IsLeast}
use Rattle.ac_input.specs.Dictionary.{Dictionary, IsLive}
use Rattle.ac_input.specs.Occurrence.{Occurrence}
use Rattle.ac_input.specs.Word.{OccursWhole}
use Rattle.ac_input.proofs.lemmas.BestLemmas.{least-unique}
use Rattle.ac_input.proofs.lemmas.LiveLemmas.{alive-end}
use Rattle.ac_input.proofs.lemmas.SomeLemmas.{live-some}
use Rattle.ac_input.proofs.lemmas.UnusedLemmas.{occurs-some}
use Rattle.ac_automaton.specs.Stream.{AreAllGiven, IsHeldItem, NothingIsLive, StreamProgress, Words, end_of, made_from}
use Rattle.ac_automaton.specs.Stream.WholeWords.{asked_for}
use Rattle.ac_automaton.specs.Stream.WholeWords.Search.{StandsInStream, word_progress, remaining_words}
use Rattle.ac_automaton.specs.Words.{IsBusy, IsFinalWord, WordsBefore, text_from}
use Rattle.ac_automaton.specs.declared.automaton.Automaton.{Ghosts}
use Rattle.ac_automaton.specs.declared.words.WordPlace.{WordPlace}
use Rattle.ac_automaton.proofs.stream.StreamLemmas.{nothing-later}
use Rattle.ac_automaton.proofs.stream.words.WordsLeftLemmas.{before-from, begins-at_cut, idle-list, left-none, left-word}
use Rattle.ac_automaton.proofs.stream.words.WordStandsLemmas.{ListsTell, best-near, words-course}
use Rattle.ac_automaton.proofs.words.FinalLemmas.{front-word}

-- a dictionary of the standard kind is what an automaton for words of any kind is made from
made-standard : (m : Dictionary) (kind : MatchKind) → m.kind ≡ Standard
    → made_from Words (record m { kind = kind }) ≡ m
made-standard m kind standard = λ i. record { patterns = m.patterns; pairing = m.pairing; kind = sym standard i }

-- where nothing is live after a place of a text, nothing is after a later one
live-later : (m : Dictionary) (x : List ℕ) (last at : ℕ) → m.kind ≡ Standard → last ≤ at → at ≤ length x
    → NothingIsLive m (drop last x) → NothingIsLive m (drop at x)
live-later m x last at standard le within nothing =
    let t = drop last x in
    let long = length-drop last x in
    let there : drop (at - last) t ≡ drop at x =
    drop-drop (at - last) last x ∙ ap (λ n. drop n x) (let e : last + (at - last) ≡ at = omega arith in e) in
    let live = live-some {m = m} {anchored = false} {text = drop (at - last) t} in
    subst (NothingIsLive m) there (by live.0 live.1)
  where
    by : (live : Option ℕ) → IsLive m false (drop (at - last) (drop last x)) live
        → NothingIsLive m (drop (at - last) (drop last x))
    by None dead = absurd (dead (length (drop (at - last) (drop last x))) (alive-end (inl standard)))
    by (Some live) alive =
        let long = length-drop last x in
        nothing-later m (drop last x) (at - last) live (omega arith) (λ leftmost. absurd (leftmost standard)) nothing alive

module _ {S : Type 0} (A : Ghosts S) (a : S) (pieces : List (List ℕ)) (given : List Occurrence) (closed : Bool)
    (from : ℕ) (p : WordPlace) (moved : ℕ) (sums : Steps)
    (is : StandsInStream A a (word_progress (A.built a) pieces given closed from p moved sums) p) where
  -- how far the search has come
  abbrev come : StreamProgress Words
  come = word_progress (A.built a) pieces given closed from p moved sums

  -- where all was searched, something is live after the last word, if the search is busy
  busy-lives : ListsTell A a → p.at ≡ length (concat pieces) → IsBusy A a p
      → ¬ NothingIsLive (made_from Words (asked_for p.kind (A.built a)).dictionary) (drop (end_of given) (concat pieces))
  busy-lives tells searched busy nothing =
      let m = (A.built a).dictionary in
      let x = concat pieces in
      let place = is.stands.place in
      let order = place.order in
      let here : NothingIsLive m (drop (end_of given) x) =
      subst (λ d. NothingIsLive d (drop (end_of given) x)) (made-standard m p.kind is.standard) nothing in
      let later = live-later m x (end_of given) p.last is.standard is.ended (omega (arith, order, searched)) here in
      let text : drop p.last x ≡ slice_range x p.last p.at =
      sym (take_rest x p.last) ∙ ap (slice_range x p.last) (sym searched) in
      let since = subst (NothingIsLive m) text later in
      let none = idle-list m (slice_range x p.last p.at) (A.matches a p.sid) is.standard is.filled
      (tells _ p.sid place.reads) since in
      busy none (slice_range x p.last p.at) place.reads since

  -- All words were returned, where all was searched, and none is left if no more comes. The search began anew where it stands,
  -- or is busy.
  pub words-given : ListsTell A a → p.at ≡ length (concat pieces)
      → (closed ≡ true → IsLeast p.kind (OccursWhole (text_from (A.built a).dictionary (concat pieces) p.last)) None)
      → (p.last ≡ p.at) ⊎ (p.best ≡ None → IsBusy A a p)
      → AreAllGiven come
  words-given tells searched none rests =
      let m = (A.built a).dictionary in
      let x = concat pieces in
      let e = end_of given in
      record {
        searched = searched;
        all = λ decided. ⊎_elim
            (λ (never : ⊥). absurd never)
            (λ (over : closed ≡ true).
            sym (subst (λ l. remaining_words m p.kind l 0 ≡ given ++ remaining_words m p.kind l p.last) (append-nil x)
            (is.goes [] (λ _. refl)) ∙ ap (λ l. given ++ l) (left-none m p.kind x p.last (none over)) ∙ append-nil given))
            decided;
        open_ = λ best least.
            let begins : (q : Occurrence) → OccursWhole (text_from m x e) q → p.last ≤ q.start =
            λ q word. is.later [] (λ _. refl) q (subst (λ l. OccursWhole (text_from m l e) q) (sym (append-nil x)) word) in
            let there : IsLeast p.kind (WordsBefore m x p.last p.at) (Some best) =
            subst (λ n. IsLeast p.kind (WordsBefore m x p.last n) (Some best)) (sym searched)
            (before-from m x p.kind e p.last (length x) (Some best) is.ended begins least) in
            let same : p.best ≡ Some best =
            least-unique p.kind {s = text_from m x p.last} {P = WordsBefore m x p.last p.at} (omega arith) (λ q h. h.0.0)
            p.best (Some best) is.stands.best there in
            let waits = is.open_ best same in
            let needed = waits.needed in
            (waits.leftmost, omega (arith, needed, searched), busy-lives tells searched waits.busy);
        anew = λ nothing. ⊎_elim
            (λ (here : p.last ≡ p.at). here)
            (λ busy. absurd (busy-lives tells searched (by p.best refl busy) nothing))
            rests;
      }
    where
      by : (r : Option Occurrence) → p.best ≡ r → (p.best ≡ None → IsBusy A a p) → IsBusy A a p
      by None e busy = busy e
      by (Some o) e busy = (is.open_ o e).busy

  -- where the next word is found, not all were returned, if it isn't found at the end of what was read
  pub word-left_over : (o : Occurrence) → IsFinalWord (A.built a).dictionary p.kind closed (concat pieces) p.last o
      → (closed ≡ false → p.at ≢ length (concat pieces)) → ¬ AreAllGiven come
  word-left_over o final rests all =
      let m = (A.built a).dictionary in
      let x = concat pieces in
      ⊎_elim
      (λ (over : closed ≡ true).
      let is_all : given ≡ given ++ o ∷ remaining_words m p.kind (x ++ []) o.end =
      all.all (inr over) ∙ ap (λ l. remaining_words m p.kind l 0) (sym (append-nil x)) ∙ is.goes [] (λ _. refl)
      ∙ ap (λ l. given ++ l) (left-word m p.kind closed x [] p.last o is.filled final (λ _. refl)) in
      let both = length-append given (o ∷ remaining_words m p.kind (x ++ []) o.end) in
      let long = ap length is_all in
      omega (arith, both, long))
      (λ (open_ : closed ≡ false). rests open_ all.searched)
      (cases_Bool closed)

  -- what was found is among the bytes that are held
  pub word-held : (o : Occurrence) → IsFinalWord (A.built a).dictionary p.kind closed (concat pieces) p.last o
      → o.end ≤ length (concat pieces) → IsHeldItem come o
  word-held o final within =
      let m = (A.built a).dictionary in
      let x = concat pieces in
      let word = final [] (λ _. refl) in
      let all = length-append x [] in
      let begins = word.0.0.within.0 in
      let cut = begins-at_cut is.stands (best-near A a is.open_) [] o word.0 in
      let kept = (words-course A a pieces given closed from p moved sums is).kept.0 in
      let some = occurs-some {s = text_from m (x ++ []) p.last} (omega (arith, all)) is.filled word.0.0 in
      record {
        pattern = slice_get_within m.patterns o.pattern word.0.0.same.0 word.0.0.same.1;
        held = λ _. omega (arith, cut, kept);
        behind = begins;
        some = some;
        new = λ e. absurd (let same : Words ≡ _ = e in cc);
        past = λ e. absurd (let same : Words ≡ _ = e in cc);
        within = within;
      }

  -- under standard a word that is found ends where the search stands, or later
  pub word-ends_on : (o : Occurrence) → IsFinalWord (A.built a).dictionary p.kind closed (concat pieces) p.last o
      → o.end ≤ length (concat pieces) → p.kind ≡ Standard → p.at ≤ o.end
  word-ends_on o final within standard =
      let m = (A.built a).dictionary in
      let x = concat pieces in
      let inside = is.stands.place.within in
      ⊎_elim
      (λ (before : o.end < p.at).
      absurd (by p.best refl is.stands.best
      (front-word m x [] p.last o within (inl (omega (arith, before, inside))) (final [] (λ _. refl)).0, before)))
      (λ (on : p.at ≤ o.end). on)
      (cases_lt o.end p.at)
    where
      by : (r : Option Occurrence) → p.best ≡ r
          → IsLeast p.kind (WordsBefore (A.built a).dictionary (concat pieces) p.last p.at) r
          → ¬ WordsBefore (A.built a).dictionary (concat pieces) p.last p.at o
      by None e none here = none o here
      by (Some b) e least here = (is.open_ b e).leftmost standard
