-- Where a search of a stream for all whole words stands: on its course, right after each step, and when all were returned.
use Rattle.std.proofs.Common.{◌≡◌, ◌≢◌, inr, ⊎_elim, ℕ, ◌+◌, ◌-◌, ◌*◌, ◌<◌, ◌≤◌, Bool, true, false, IsTrue, List, [], ◌∷◌, ◌++◌, length, Option, slice_range, sym, ap, subst, refl, ◌∙◌, arith, append-nil, length-append}
use Rattle.std.specs.List.{All, Contains, concat}
use Rattle.std.proofs.lemmas.Bool.{cases_Bool, cases_lt}
use Rattle.std.proofs.lemmas.List.Elements.{All-push, Contains-append_left, Contains-append_right}
use Rattle.std.proofs.lemmas.Option.{slice_get_within}
use Rattle.ac_input.specs.Number.{StateID}
use Rattle.ac_input.specs.declared.search.Anchored.TheVariants.{No}
use Rattle.ac_input.specs.declared.search.MatchKind.TheVariants.{Standard}
use Rattle.ac_input.specs.declared.steps.Steps.{Steps}
use Rattle.ac_input.specs.Dictionary.{IsLive, live_len, whole}
use Rattle.ac_input.specs.Laws.BeginningLaws.{IsBeginning}
use Rattle.ac_input.specs.Occurrence.{Occurrence}
use Rattle.ac_input.specs.Work.{longest, lookups_per_byte, shortest}
use Rattle.ac_input.proofs.lemmas.BeginningLemmas.{slice_range-append}
use Rattle.ac_input.proofs.lemmas.ContainsLemmas.{Contains-head}
use Rattle.ac_input.proofs.lemmas.UnusedLemmas.{occurs-some}
use Rattle.ac_automaton.specs.ListedWords.{AreFirstWords, StandsForListed, word_listing}
use Rattle.ac_automaton.specs.Stream.{AllWords, AreAllGiven, IsHeldItem, IsOnCourse, IsWithinStreamBudget, StreamProgress, end_of, fresh_progress, read_again, room_of}
use Rattle.ac_automaton.specs.Stream.WholeWords.Overlapping.{ListsInStream, all_words_at}
use Rattle.ac_automaton.specs.Words.{PaysForWords, text_from}
use Rattle.ac_automaton.specs.declared.automaton.Automaton.{Ghosts}
use Rattle.ac_automaton.specs.declared.words.listed.ListedPlace.{ListedPlace}
use Rattle.ac_automaton.proofs.in_memory.iter.WalkAheadLemmas.{more-looks}
use Rattle.ac_automaton.proofs.in_memory.overlapping.OverlappingReadLemmas.{paid-start, paid-to}
use Rattle.ac_automaton.proofs.stream.words.WordStandsLemmas.{ListsTell}
use Rattle.ac_automaton.proofs.stream.words.held.HeldTextLemmas.{text-read}
use Rattle.ac_automaton.proofs.words.listed.ListedWordLemmas.{left-later, listed-held_from, listed-longer, listed-occurs, listed-start, sooner-given}

-- ---- at first

-- a search that has read nothing stands right
pub fresh-lists : {S : Type 0} (A : Ghosts S) (a : S) (start : StateID) → (A.built a).dictionary.kind ≡ Standard
    → 1 ≤ shortest (A.built a).dictionary.patterns → ListsTell A a → A.Reaches a No [] start
    → ListsInStream A a (fresh_progress (A.built a)) (record { sid = start; at = 0; index = 0 })
fresh-lists A a start standard filled tells begins =
    let b = A.built a in
    let m = b.dictionary in
    record {
      standard = standard;
      filled = filled;
      stands = listed-start m (A.Reaches a No) (A.matches a) standard tells false [] start begins;
      ended = omega arith;
      room = omega arith;
      short = λ k d lt. absurd (omega arith);
      paid = paid-start m b.deterministic (text_from m [] 0) 0 0 (omega arith) (omega arith) (omega arith) (omega arith);
      some = omega arith;
      scanned = refl;
      moved = omega arith;
    }

module _ {S : Type 0} (A : Ghosts S) (a : S) (pieces : List (List ℕ)) (given : List Occurrence) (closed : Bool) (from : ℕ)
    (p : ListedPlace) (moved : ℕ) (sums : Steps)
    (is : ListsInStream A a (all_words_at (A.built a) pieces given closed from p moved sums) p) where
  -- how far the search has come
  abbrev come : StreamProgress AllWords
  come = all_words_at (A.built a) pieces given closed from p moved sums

  -- ---- on its course

  -- it is within its budget
  listed-budget : IsWithinStreamBudget come
  listed-budget =
      let b = A.built a in
      let m = b.dictionary in
      let x = concat pieces in
      let within = is.stands.within in
      let here : p.at - 0 ≡ p.at = omega arith in
      let bound : sums.looked.value ≤ lookups_per_byte b.deterministic * p.at =
      subst (λ n. sums.looked.value ≤ lookups_per_byte b.deterministic * n) here
      (paid-to m b.deterministic (text_from m x 0) 0 p.at p.at sums.looked.value (omega arith) (omega arith) is.paid) in
      let all = more-looks b.deterministic p.at 0 (length x + read_again m 0 (length given)) bound
      (omega (arith, within)) in
      record {
        some = is.some;
        looked = omega (arith, all);
        near = λ standard. omega (arith, bound);
        scanned = is.scanned;
        moved = is.moved;
        unmoved = λ e. absurd (let same : AllWords ≡ _ = e in cc);
      }

  -- the bytes from where it stands on are held
  pub held-behind : from ≤ p.at
  held-behind =
      ⊎_elim
      (λ (some : 0 < from). let before = is.stands.before some in omega arith)
      (λ (none : from ≤ 0). omega arith)
      (cases_lt 0 from)

  -- it is on its course
  pub listed-course : IsOnCourse come
  listed-course =
      let m = (A.built a).dictionary in
      let x = concat pieces in
      let left = left-later m (A.matches a) closed x given p is.stands.within is.stands.listed in
      let first = left [] (λ _. refl) in
      let behind = held-behind in
      record {
        standard = λ e. absurd (let same : AllWords ≡ _ = e in cc);
        passed = λ e. absurd (let same : AllWords ≡ _ = e in cc);
        unclosed = λ none. absurd none;
        filled = is.filled;
        ordered = (omega arith, is.stands.within);
        kept = (omega arith, behind, is.room);
        short = is.short;
        begun = subst (λ l. IsBeginning given (word_listing m l)) (append-nil x) (first.0, first.1);
        ended = is.ended;
        decided = λ more follows.
            let rest = left more follows in
            (rest.0, rest.1, subst (λ n. All (λ o. n ≤ o.end) rest.0) (let e : p.at ≡ _ = omega arith in e) rest.2);
        paid = listed-budget;
      }

  -- ---- after a call

  -- it stands right where the call left it, with these words
  pub lists-then : (q : ListedPlace) (all : List Occurrence) (more fresh taken : Steps)
      → StandsForListed (A.built a).dictionary (A.Reaches a No) (A.matches a) from closed (concat pieces) all q
      → end_of all ≤ q.at → PaysForWords (A.built a) (concat pieces) 0 p.at q.at fresh taken
      → more.looked.value + fresh.looked.value ≡ sums.looked.value + taken.looked.value
      → more.scanned.value ≡ sums.scanned.value
      → ListsInStream A a (all_words_at (A.built a) pieces all closed from q moved more) q
  lists-then q all more fresh taken stands ended pays counted scanned =
      let some = is.some in
      let reads = pays.some in
      record {
        standard = is.standard;
        filled = is.filled;
        stands = stands;
        ended = ended;
        room = is.room;
        short = is.short;
        paid = pays.paid sums.looked.value more.looked.value is.paid (omega (arith, counted));
        some = omega (arith, counted, some, reads);
        scanned = scanned ∙ is.scanned;
        moved = is.moved;
      }

  -- ---- what was returned

  -- all words were returned, where all was searched, and all of the text if no more comes
  pub listed-given : p.at ≡ length (concat pieces)
      → (closed ≡ true → given ≡ word_listing (A.built a).dictionary (concat pieces)) → AreAllGiven come
  listed-given searched all =
      let m = (A.built a).dictionary in
      let x = concat pieces in
      record {
        searched = searched;
        all = λ decided. ⊎_elim (λ (never : ⊥). absurd never) (λ (over : closed ≡ true). all over) decided;
        open_ = λ o word before.
            sooner-given m (A.matches a) closed x given p is.stands.within is.stands.listed o word (omega arith);
        anew = λ _. refl;
      }

  -- where a word is found, not all were returned, if it isn't found at the end of what was read
  pub listed-left : (o : Occurrence) → AreFirstWords (A.built a).dictionary closed (concat pieces) (given ++ o ∷ [])
      → (closed ≡ false → p.at ≢ length (concat pieces)) → ¬ AreAllGiven come
  listed-left o first rests all =
      let m = (A.built a).dictionary in
      let x = concat pieces in
      ⊎_elim
      (λ (over : closed ≡ true).
      let begins = first [] (λ _. refl) in
      let long = ap length (all.all (inr over) ∙ ap (word_listing m) (sym (append-nil x)) ∙ begins.1) in
      let both = length-append (given ++ o ∷ []) begins.0 in
      let one = length-append given (o ∷ []) in
      omega (arith, long, both, one))
      (λ (open_ : closed ≡ false). rests open_ all.searched)
      (cases_Bool closed)

  -- what was found is among the bytes that were read
  pub listed-held : (o : Occurrence) (q : ListedPlace)
      → AreFirstWords (A.built a).dictionary closed (concat pieces) (given ++ o ∷ []) → o.end ≡ q.at → p.at ≤ q.at
      → q.at ≤ length (concat pieces) → IsHeldItem come o
  listed-held o q first end on within =
      let m = (A.built a).dictionary in
      let x = concat pieces in
      let begins = first [] (λ _. refl) in
      let there = subst (λ os. Contains os o) (sym begins.1)
      (Contains-append_left (given ++ o ∷ []) begins.0 o (Contains-append_right given (o ∷ []) o (Contains-head []))) in
      let word = listed-occurs m (x ++ []) o there in
      let some = occurs-some {s = whole m (x ++ []) false} (omega arith) is.filled word.0 in
      record {
        pattern = slice_get_within m.patterns o.pattern word.0.same.0 word.0.same.1;
        held = λ apart. absurd apart;
        behind = omega (arith, end, on);
        some = some;
        new = λ e. absurd (let same : AllWords ≡ _ = e in cc);
        past = λ e. absurd (let same : AllWords ≡ _ = e in cc);
        within = omega (arith, end, within);
      }

  -- ---- after a read

  -- it stands right after a read
  pub read-lists : (piece : List ℕ) → closed ≡ false → length (concat pieces ++ piece) ≤ from + room_of AllWords (A.built a)
      → length piece ≤ room_of AllWords (A.built a)
      → ListsInStream A a (all_words_at (A.built a) (pieces ++ piece ∷ []) given closed from p moved sums) p
  read-lists piece open_ fits short =
      let b = A.built a in
      let m = b.dictionary in
      let x = concat pieces in
      let y = concat (pieces ++ piece ∷ []) in
      let more : y ≡ x ++ piece = text-read pieces piece in
      let longer = ap length more in
      let both = length-append x piece in
      let same : slice_range y 0 p.at ≡ slice_range x 0 p.at =
      ap (λ l. slice_range l 0 p.at) more ∙ slice_range-append x piece (omega arith) is.stands.within in
      record {
        standard = is.standard;
        filled = is.filled;
        stands = subst (λ l. StandsForListed m (A.Reaches a No) (A.matches a) from closed l given p) (sym more)
            (listed-longer m (A.Reaches a No) (A.matches a) is.stands open_ piece);
        ended = is.ended;
        room = omega (arith, fits, longer);
        short = All-push (λ l. length l ≤ room_of AllWords b) pieces piece is.short short;
        paid = subst (λ l. (live : Option ℕ) → IsLive m false l live
            → (sums.looked.value + live_len l live ≤ 2 * (p.at - 0))
            × (IsTrue b.deterministic → sums.looked.value ≤ p.at - 0)) (sym same) is.paid;
        some = is.some;
        scanned = is.scanned;
        moved = omega (arith, is.moved, longer, both);
      }

  -- ---- when no more comes

  -- it stands right where it is told so
  pub close-lists : ListsInStream A a (all_words_at (A.built a) pieces given true from p moved sums) p
  close-lists = record {
    standard = is.standard;
    filled = is.filled;
    stands = record {
      before = is.stands.before;
      within = is.stands.within;
      reads = is.stands.reads;
      listed = λ more follows. is.stands.listed more (λ _. follows refl);
    };
    ended = is.ended;
    room = is.room;
    short = is.short;
    paid = is.paid;
    some = is.some;
    scanned = is.scanned;
    moved = is.moved;
  }

  -- ---- after its bytes were moved

  -- it stands right where it holds fewer bytes, as long as it holds those of the words that it may still find, and the one before
  pub roll-lists : (later shifted : ℕ) → (0 < later → later + longest (A.built a).dictionary.patterns < p.at)
      → length (concat pieces) ≤ later + room_of AllWords (A.built a) → 7 * shifted ≤ length (concat pieces)
      → ListsInStream A a (all_words_at (A.built a) pieces given closed later p shifted sums) p
  roll-lists later shifted before fits seventh =
      record {
        standard = is.standard;
        filled = is.filled;
        stands = listed-held_from (A.built a).dictionary (A.Reaches a No) (A.matches a) is.stands later before;
        ended = is.ended;
        room = fits;
        short = is.short;
        paid = is.paid;
        some = is.some;
        scanned = is.scanned;
        moved = seventh;
      }
