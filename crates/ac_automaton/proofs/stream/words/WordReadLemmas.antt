-- A search of a stream for whole words before its first read, after a read, and after its bytes were moved.
use Rattle.std.proofs.Common.{◌≡◌, inl, ℕ, ◌+◌, ◌-◌, ◌*◌, ◌<◌, ◌≤◌, Bool, true, false, IsTrue, List, [], ◌∷◌, ◌++◌, length, Option, Some, None, slice_range, sym, ap, subst, refl, ◌∙◌, arith, append_assoc, length-append}
use Rattle.std.specs.List.{concat}
use Rattle.std.proofs.lemmas.Bool.{false≢true}
use Rattle.std.proofs.lemmas.List.Elements.{All-push}
use Rattle.ac_input.specs.Number.{StateID}
use Rattle.ac_input.specs.declared.search.Anchored.TheVariants.{No}
use Rattle.ac_input.specs.declared.search.MatchKind.{MatchKind}
use Rattle.ac_input.specs.declared.search.MatchKind.TheVariants.{Standard}
use Rattle.ac_input.specs.declared.steps.Steps.{Steps}
use Rattle.ac_input.specs.Dictionary.{Dictionary, IsLive, live_len}
use Rattle.ac_input.specs.Occurrence.{Occurrence}
use Rattle.ac_input.specs.Word.{OccursWhole}
use Rattle.ac_input.specs.Work.{shortest}
use Rattle.ac_input.proofs.lemmas.BeginningLemmas.{slice_range-append}
use Rattle.ac_automaton.specs.Stream.{Words, end_of, fresh_progress, room_of}
use Rattle.ac_automaton.specs.Stream.WholeWords.{asked_for}
use Rattle.ac_automaton.specs.Stream.WholeWords.Search.{StandsInStream, word_progress, remaining_words}
use Rattle.ac_automaton.specs.Words.{StandsForWords, WordsBefore, text_from, word_cut}
use Rattle.ac_automaton.specs.declared.automaton.Automaton.{Ghosts}
use Rattle.ac_automaton.specs.declared.words.WordPlace.{WordPlace}
use Rattle.ac_automaton.proofs.stream.words.WordStandsLemmas.{anew-paid, anew-stands}
use Rattle.ac_automaton.proofs.stream.words.held.HeldTextLemmas.{text-read}
use Rattle.ac_automaton.proofs.words.FinalLemmas.{front-word, word-on}
use Rattle.ac_automaton.proofs.words.WordPlaceLemmas.{least-like}

-- ---- at first

-- where a search for words of a kind stands that has read nothing
abbrev pub first_word_place : MatchKind → StateID → WordPlace
first_word_place kind start = record { kind = kind; start = start; sid = start; last = 0; at = 0; best = None }

-- it stands right
pub fresh-stands : {S : Type 0} (A : Ghosts S) (a : S) (kind : MatchKind) (start : StateID)
    → (A.built a).dictionary.kind ≡ Standard → 1 ≤ shortest (A.built a).dictionary.patterns → A.Reaches a No [] start
    → StandsInStream A a (fresh_progress (asked_for kind (A.built a))) (first_word_place kind start)
fresh-stands A a kind start standard filled begins = record {
  standard = standard;
  filled = filled;
  stands = anew-stands (A.built a).dictionary (A.Reaches a No) 0 [] (first_word_place kind start) 0 begins
      (λ some. some) (omega arith);
  open_ = λ o none. absurd (let e : None ≡ Some o = none in cc);
  goes = λ more follows. refl;
  later = λ more follows o word. omega arith;
  ended = omega arith;
  room = omega arith;
  short = λ k d lt. absurd (omega arith);
  looks = anew-paid (A.built a) (first_word_place kind start) (fresh_progress (asked_for kind (A.built a))) 0 (omega arith)
      (omega arith) (omega arith) (λ d. omega arith);
  scanned = refl;
  moved = omega arith;
}

-- ---- after a read

-- where more bytes follow, a search stands as it did
longer-stands : (m : Dictionary) (Reaches : List ℕ → StateID → Type 0) {from : ℕ} (x more : List ℕ) {p : WordPlace}
    → StandsForWords m Reaches from x p → StandsForWords m Reaches from (x ++ more) p
longer-stands m Reaches x more {p} is =
    let place = is.place in
    let within = place.within in
    let all = length-append x more in
    record {
      place = record {
        start = place.start;
        before = place.before;
        order = place.order;
        within = omega arith;
        reads = subst (λ l. Reaches l p.sid) (sym (slice_range-append x more place.order within)) place.reads;
      };
      best = least-like p.kind (WordsBefore m x p.last p.at) (WordsBefore m (x ++ more) p.last p.at) p.best
          (λ q. (
            λ h. let before = h.1 in (word-on m x more p.last q (inl (omega (arith, before, within))) h.0, before),
            λ h. let before = h.1 in (
              front-word m x more p.last q (omega (arith, before, within)) (inl (omega (arith, before, within))) h.0,
              before,
            ),
          ))
          is.best;
      near = is.near;
    }

-- a search stands right after a read
pub read-on-stands : {S : Type 0} (A : Ghosts S) (a : S) (pieces : List (List ℕ)) (given : List Occurrence) (closed : Bool)
    (from : ℕ) (p : WordPlace) (moved : ℕ) (sums : Steps) (piece : List ℕ)
    → StandsInStream A a (word_progress (A.built a) pieces given closed from p moved sums) p → closed ≡ false
    → length (concat pieces ++ piece) ≤ from + room_of Words (A.built a) → length piece ≤ room_of Words (A.built a)
    → StandsInStream A a (word_progress (A.built a) (pieces ++ piece ∷ []) given closed from p moved sums) p
read-on-stands A a pieces given closed from p moved sums piece is open_ fits short =
    let b = A.built a in
    let m = b.dictionary in
    let x = concat pieces in
    let y = concat (pieces ++ piece ∷ []) in
    let more : y ≡ x ++ piece = text-read pieces piece in
    let longer = ap length more in
    let both = length-append x piece in
    let place = is.stands.place in
    let on : (after : List ℕ) → y ++ after ≡ x ++ (piece ++ after) =
    λ after. ap (λ l. l ++ after) more ∙ append_assoc x piece after in
    let follows : (after : List ℕ) → closed ≡ true → piece ++ after ≡ [] =
    λ after over. absurd (false≢true (sym open_ ∙ over)) in
    let same : slice_range y p.last p.at ≡ slice_range x p.last p.at =
    ap (λ l. slice_range l p.last p.at) more ∙ slice_range-append x piece place.order place.within in
    record {
      standard = is.standard;
      filled = is.filled;
      stands = subst (λ l. StandsForWords m (A.Reaches a No) from l p) (sym more)
          (longer-stands m (A.Reaches a No) x piece is.stands);
      open_ = is.open_;
      goes = λ after _.
          subst (λ l. remaining_words m p.kind l 0 ≡ given ++ remaining_words m p.kind l p.last) (sym (on after))
          (is.goes (piece ++ after) (follows after));
      later = λ after _ q word.
          is.later (piece ++ after) (follows after) q
          (subst (λ l. OccursWhole (text_from m l (end_of given)) q) (on after) word);
      ended = is.ended;
      room = omega (arith, fits, longer);
      short = All-push (λ l. length l ≤ room_of Words b) pieces piece is.short short;
      looks = record {
        before = is.looks.before;
        since = is.looks.since;
        all = is.looks.all;
        twice = is.looks.twice;
        once = is.looks.once;
        paid = subst (λ l. (live : Option ℕ) → IsLive m false l live
            → (is.looks.since + live_len l live ≤ 2 * (p.at - p.last))
            × (IsTrue b.deterministic → is.looks.since ≤ p.at - p.last)) (sym same) is.looks.paid;
        some = is.looks.some;
      };
      scanned = is.scanned;
      moved = omega (arith, is.moved, longer, both);
    }

-- ---- when no more comes

-- a search stands right that is told so
pub close-stands : {S : Type 0} (A : Ghosts S) (a : S) (pieces : List (List ℕ)) (given : List Occurrence) (closed : Bool)
    (from : ℕ) (p : WordPlace) (moved : ℕ) (sums : Steps)
    → StandsInStream A a (word_progress (A.built a) pieces given closed from p moved sums) p
    → StandsInStream A a (word_progress (A.built a) pieces given true from p moved sums) p
close-stands A a pieces given closed from p moved sums is = record {
  standard = is.standard;
  filled = is.filled;
  stands = is.stands;
  open_ = is.open_;
  goes = λ more follows. is.goes more (λ _. follows refl);
  later = λ more follows. is.later more (λ _. follows refl);
  ended = is.ended;
  room = is.room;
  short = is.short;
  looks = record {
    before = is.looks.before;
    since = is.looks.since;
    all = is.looks.all;
    twice = is.looks.twice;
    once = is.looks.once;
    paid = is.looks.paid;
    some = is.looks.some;
  };
  scanned = is.scanned;
  moved = is.moved;
}

-- ---- after its bytes were moved

-- a search stands right that holds fewer bytes, as long as it holds the byte before its cut
pub roll-stands : {S : Type 0} (A : Ghosts S) (a : S) (pieces : List (List ℕ)) (given : List Occurrence) (closed : Bool)
    (from : ℕ) (p : WordPlace) (moved : ℕ) (sums : Steps) (later shifted : ℕ)
    → StandsInStream A a (word_progress (A.built a) pieces given closed from p moved sums) p
    → (0 < later → later < word_cut (A.built a).dictionary p)
    → length (concat pieces) ≤ later + room_of Words (A.built a) → 7 * shifted ≤ length (concat pieces)
    → StandsInStream A a (word_progress (A.built a) pieces given closed later p shifted sums) p
roll-stands A a pieces given closed from p moved sums later shifted is before fits seventh =
    let place = is.stands.place in
    record {
      standard = is.standard;
      filled = is.filled;
      stands = record {
        place = record {
          start = place.start;
          before = before;
          order = place.order;
          within = place.within;
          reads = place.reads;
        };
        best = is.stands.best;
        near = is.stands.near;
      };
      open_ = is.open_;
      goes = is.goes;
      later = is.later;
      ended = is.ended;
      room = fits;
      short = is.short;
      looks = record {
        before = is.looks.before;
        since = is.looks.since;
        all = is.looks.all;
        twice = is.looks.twice;
        once = is.looks.once;
        paid = is.looks.paid;
        some = is.looks.some;
      };
      scanned = is.scanned;
      moved = seventh;
    }
