-- What a search of a stream for whole words keeps at first, and after its text has grown.
use Rattle.std.proofs.Common.{◌≡◌, ⊎_elim, ℕ, ◌+◌, ◌-◌, ◌<◌, ◌≤◌, max, true, false, List, [], ◌∷◌, ◌++◌, length, take, sym, ap, subst, refl, ◌∙◌, arith, length-append}
use Rattle.std.specs.List.{concat}
use Rattle.std.proofs.lemmas.Bool.{cases_lt}
use Rattle.ac_input.specs.Number.{StateID}
use Rattle.ac_input.specs.declared.search.Anchored.TheVariants.{No}
use Rattle.ac_input.specs.declared.search.MatchKind.{MatchKind}
use Rattle.ac_input.specs.declared.search.MatchKind.TheVariants.{Standard}
use Rattle.ac_input.specs.Work.{longest, shortest}
use Rattle.ac_automaton.specs.Stream.{IsOnCourse, IsSearched, StreamProgress, Words, cut_of, fresh_progress, room_of}
use Rattle.ac_automaton.specs.Stream.Devices.Buffer.{room_for}
use Rattle.ac_automaton.specs.Stream.WholeWords.{asked_for}
use Rattle.ac_automaton.specs.Stream.WholeWords.Held.{Grows, IsUnread, TextRead, text_of}
use Rattle.ac_automaton.specs.Stream.WholeWords.Search.{IsWordSearch, StandsInStream, word_progress, words_come, words_in}
use Rattle.ac_automaton.specs.declared.automaton.Automaton.{Ghosts}
use Rattle.ac_automaton.specs.declared.stream.words.WordSearch.TheInside.{Inside}
use Rattle.ac_automaton.specs.declared.words.WordPlace.{WordPlace}
use Rattle.ac_automaton.proofs.stream.words.WordReadLemmas.{close-stands, first_word_place, fresh-stands, read-on-stands, roll-stands}
use Rattle.ac_automaton.proofs.stream.words.WordSearchLemmas.{IsRight, come_by, given-first}
use Rattle.ac_automaton.proofs.stream.words.WordStandsLemmas.{words-course}
use Rattle.ac_automaton.proofs.stream.words.held.HeldTextLemmas.{text-read}
use Rattle.ac_automaton.proofs.stream.words.held.HoldsLemmas.{Holds, grown_by}

-- how far a search has come that has read nothing, and that what it keeps is right
pub fresh-kept : {S : Type 0} (A : Ghosts S) (a : S) (kind : MatchKind) (start : StateID) (long : ℕ) {t : TextRead} {p : WordPlace}
    → (A.built a).dictionary.kind ≡ Standard → 1 ≤ shortest (A.built a).dictionary.patterns → A.Reaches a No [] start
    → long ≡ longest (A.built a).dictionary.patterns → IsUnread long t → p ≡ first_word_place kind start
    → (words_come (A.built a) t p ≡ fresh_progress (asked_for kind (A.built a)))
    × IsOnCourse (words_come (A.built a) t p) × IsWordSearch A a (words_come (A.built a) t p) t p
fresh-kept A a kind start long {t} {p} standard filled begins longs unread first =
    let b = A.built a in
    let s = words_come b t p in
    let view : s ≡ fresh_progress (asked_for kind b) =
    λ i. record {
      built = asked_for (first i).kind b;
      pieces = unread.pieces i;
      closed = unread.closed i;
      given = take (unread.returned i) (words_in (first i).kind b (concat (unread.pieces i)));
      from = unread.from i;
      at = (first i).at;
      last = (first i).last;
      looked = unread.sums.looked i;
      scanned = unread.sums.scanned i;
      moved = unread.moved i;
    } in
    let pair : (s, p) ≡ (fresh_progress {q = Words} (asked_for kind b), first_word_place kind start) = λ i. (view i, first i) in
    let stands : StandsInStream A a s p =
    subst (λ (z : StreamProgress Words × WordPlace). StandsInStream A a z.0 z.1) (sym pair)
    (fresh-stands A a kind start standard filled begins) in (
      view,
      words-course A a t.pieces (take t.returned (words_in p.kind b (text_of t))) t.closed t.from p t.moved t.sums stands,
      record {
        stands = stands;
        number = ap (λ (z : StreamProgress Words). length z.given) view ∙ sym unread.returned;
        keep = unread.keep ∙ ap (λ n. max n 1 + 1) longs;
      },
    )

module _ {S : Type 0} (A : Ghosts S) (i : Inside S) (is : IsRight A i) where
  -- the byte before the cut is held
  held-before_cut : i.text.from ≤ cut_of (come_by A i) - 1
  held-before_cut =
      let place = is.1.stands.stands.place in
      ⊎_elim
      (λ (some : 0 < i.text.from). let before = place.before some in omega arith)
      (λ (none : i.text.from ≤ 0). omega arith)
      (cases_lt 0 i.text.from)

  -- a search that has searched all needs no byte before that one
  pub holds-text : (needed : ℕ) → needed ≡ cut_of (come_by A i) - 1 → IsSearched (come_by A i)
      → Holds (come_by A i) i.text needed
  holds-text needed at searched =
      let held = held-before_cut in
      let order = is.0.ordered in
      record {
        pieces = refl;
        from = refl;
        moved = refl;
        room = ap room_for (sym is.1.keep);
        can = record {
          held = omega (arith, at, held);
          within = omega (arith, at, order.0, order.1);
          few = omega (arith, at, searched, is.1.keep);
        };
        near = omega (arith, at);
      }

  -- it keeps its words when the text has grown, and what it keeps is right
  pub grown-kept : {needed : ℕ} {t : TextRead} {piece : List ℕ} → needed ≡ cut_of (come_by A i) - 1 → i.text.closed ≡ false
      → Grows needed i.text t piece
      → IsRight A (record i { text = t }) × (come_by A (record i { text = t }) ≡ grown_by (come_by A i) t)
  grown-kept {needed} {t} {piece} at open_ grows =
      let a = i.automaton in
      let b = A.built a in
      let x = text_of i.text in
      let given = (come_by A i).given in
      let kind = i.place.kind in
      let wide : room_for i.text.keep ≡ room_of Words b = ap room_for is.1.keep in
      let long = ap length (ap concat grows.pieces ∙ text-read i.text.pieces piece) in
      let fits = grows.room in
      let short = grows.short in
      let room : length (x ++ piece) ≤ t.from + room_of Words b = omega (arith, fits, wide, long) in
      let before : 0 < t.from → t.from < cut_of (come_by A i) =
      ⊎_elim
      (λ (e : t.from ≡ i.text.from). λ some.
      let there = is.1.stands.stands.place.before (omega (arith, e, some)) in omega (arith, e, there))
      (λ (e : t.from ≡ needed). λ some. omega (arith, e, at, some))
      grows.from in
      let both = length-append x piece in
      let rolled = roll-stands A a i.text.pieces given i.text.closed i.text.from i.place i.text.moved i.text.sums t.from t.moved
      is.1.stands before (omega (arith, room, both)) grows.seventh in
      let stands = read-on-stands A a i.text.pieces given i.text.closed t.from i.place t.moved i.text.sums piece rolled open_
      room (omega (arith, short, wide)) in
      let all = i.text.pieces ++ piece ∷ [] in
      let front : take i.text.returned (words_in kind b (concat all)) ≡ given =
      ap (λ n. take n (words_in kind b (concat all))) (sym is.1.number)
      ∙ given-first A a all given i.text.closed t.from i.place t.moved i.text.sums stands in
      let grown : TextRead = record i.text { pieces = all; from = t.from; moved = t.moved } in
      let s = word_progress b all given i.text.closed t.from i.place t.moved i.text.sums in
      let view : come_by A (record i { text = grown }) ≡ s =
      λ j. word_progress b all (front j) i.text.closed t.from i.place t.moved i.text.sums in
      let right : IsRight A (record i { text = grown }) =
      subst (λ (z : StreamProgress Words). IsOnCourse z × IsWordSearch A a z grown i.place) (sym view) (
        words-course A a all given i.text.closed t.from i.place t.moved i.text.sums stands,
        record { stands = stands; number = is.1.number; keep = is.1.keep },
      ) in
      let there : t ≡ grown =
      grows.same ∙ ap (λ ps. record i.text { pieces = ps; from = t.from; moved = t.moved }) grows.pieces in (
        subst (λ (z : TextRead). IsRight A (record i { text = z })) (sym there) right,
        ap (λ (z : TextRead). come_by A (record i { text = z })) there ∙ view
            ∙ ap (λ ps. record (come_by A i) { pieces = ps; from = t.from; moved = t.moved }) (sym grows.pieces),
      )

  -- nor does it matter to what it keeps that no more comes
  pub closed-kept : IsRight A (record i { text = record i.text { closed = true } })
  closed-kept =
      let a = i.automaton in
      let given = (come_by A i).given in
      let stands = close-stands A a i.text.pieces given i.text.closed i.text.from i.place i.text.moved i.text.sums is.1.stands in (
        words-course A a i.text.pieces given true i.text.from i.place i.text.moved i.text.sums stands,
        record { stands = stands; number = is.1.number; keep = is.1.keep },
      )
