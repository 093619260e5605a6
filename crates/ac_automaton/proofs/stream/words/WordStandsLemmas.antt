-- Where a search of a stream for whole words stands: on its course, and right after each step.
use Rattle.std.proofs.Common.{◌≡◌, ◌≢◌, inl, ⊎_elim, ℕ, ◌+◌, ◌-◌, ◌*◌, ◌<◌, ◌≤◌, Bool, false, IsTrue, List, [], ◌∷◌, ◌++◌, length, Option, Some, None, slice_range, sym, ap, subst, refl, ◌∙◌, arith, append-nil, append_assoc, length-append, mul-suc, suc}
use Rattle.std.specs.List.{concat}
use Rattle.std.proofs.lemmas.Bool.{cases_lt}
use Rattle.std.proofs.lemmas.List.{nil_from_length}
use Rattle.ac_input.specs.Number.{StateID}
use Rattle.ac_input.specs.declared.search.Anchored.TheVariants.{No}
use Rattle.ac_input.specs.declared.search.MatchKind.{MatchKind}
use Rattle.ac_input.specs.declared.search.MatchKind.TheVariants.{Standard, LeftmostFirst, LeftmostLongest}
use Rattle.ac_input.specs.declared.steps.Steps.{Steps}
use Rattle.ac_input.specs.Best.{IsLeast}
use Rattle.ac_input.specs.Dictionary.{Dictionary}
use Rattle.ac_input.specs.Laws.BeginningLaws.{IsBeginning}
use Rattle.ac_input.specs.Occurrence.{Occurrence}
use Rattle.ac_input.specs.Tells.{Tells}
use Rattle.ac_input.specs.Word.{OccursWhole}
use Rattle.ac_input.specs.Work.{longest}
use Rattle.ac_input.proofs.lemmas.OrderLemmas.{slice_range-length}
use Rattle.ac_input.proofs.lemmas.SomeLemmas.{live-some}
use Rattle.ac_input.proofs.lemmas.UnusedLemmas.{occurs-some}
use Rattle.ac_automaton.specs.Automaton.{Built}
use Rattle.ac_automaton.specs.InMemory.Find.Cursor.{read_to}
use Rattle.ac_automaton.specs.Stream.{IsOnCourse, IsWithinStreamBudget, StreamProgress, Words, again_for, end_of, read_by}
use Rattle.ac_automaton.specs.Stream.WholeWords.Search.{AreLooksPaid, StandsInStream, word_progress, remaining_words}
use Rattle.ac_automaton.specs.Words.{CostsWord, IsBestOpen, IsFinalWord, IsQuietPlace, PaysForWords, StandsForWords, WordsBefore, anew_after, text_from, word_cut, word_reach}
use Rattle.ac_automaton.specs.declared.automaton.Automaton.{Ghosts}
use Rattle.ac_automaton.specs.declared.words.WordPlace.{WordPlace}
use Rattle.ac_automaton.proofs.in_memory.iter.WalkAheadLemmas.{more-looks}
use Rattle.ac_automaton.proofs.in_memory.words.WordWalkLemmas.{paid-zero}
use Rattle.ac_automaton.proofs.stream.StreamBudgetLemmas.{budget-from, looks-near, passed-within}
use Rattle.ac_automaton.proofs.stream.StreamLemmas.{end_of-push}
use Rattle.ac_automaton.proofs.stream.words.WordsLeftLemmas.{begins-at_cut, left-at_cut, left-from, left-word, word-from}
use Rattle.ac_automaton.proofs.words.FinalLemmas.{front-word, past-live}
use Rattle.ac_automaton.proofs.words.WordPlaceLemmas.{held-at}

-- ---- what it costs

-- how many looks it has made is bounded by the bytes that it has passed, those read again included
looks-within : {b : Built} {p : WordPlace} {s : StreamProgress Words} → AreLooksPaid b p s → p.last ≤ p.at
    → (s.looked ≤ 2 * (p.at + again_for p.kind (longest b.dictionary.patterns) 0 (length s.given)))
    × (IsTrue b.deterministic → s.looked ≤ p.at + again_for p.kind (longest b.dictionary.patterns) 0 (length s.given))
looks-within {b} {p} {s} looks order =
    let again : ℕ = again_for p.kind (longest b.dictionary.patterns) 0 (length s.given) in
    let live = live-some {m = b.dictionary} {anchored = false} {text = slice_range (read_by s) p.last p.at} in
    let paid = looks.paid live.0 live.1 in
    let since = paid.0 in
    let all = looks.all in
    let twice = looks.twice in (
      omega arith,
      λ d. let one = paid.1 d in let once = looks.once d in omega arith,
    )

-- so it is within its budget
words-budget : (b : Built) (pieces : List (List ℕ)) (given : List Occurrence) (closed : Bool) (from : ℕ) (p : WordPlace)
    (moved : ℕ) (sums : Steps) → AreLooksPaid b p (word_progress b pieces given closed from p moved sums) → p.last ≤ p.at
    → p.at ≤ length (concat pieces) → sums.scanned.value ≡ 0 → 7 * moved ≤ length (concat pieces)
    → IsWithinStreamBudget (word_progress b pieces given closed from p moved sums)
words-budget b pieces given closed from p moved sums looks order within none seventh =
    let long = longest b.dictionary.patterns in
    let n = length given in
    let again : ℕ = again_for p.kind long 0 n in
    let bound = looks-within looks order in
    let twice = bound.0 in
    let lookups = budget-from b.deterministic sums.looked.value 0 (p.at + again) (omega arith) bound.1 in
    let all = more-looks b.deterministic (p.at + again) 0 _ lookups
    (passed-within p.kind long n p.at 0 0 (length (concat pieces)) within (omega arith) (λ _. omega arith)) in
    record {
      some = looks.some;
      looked = omega (arith, all);
      near = λ standard. let near = looks-near p.kind b.deterministic long n sums.looked.value p.at 0 lookups standard
          (omega arith) in omega (arith, near);
      scanned = none;
      moved = seventh;
      unmoved = λ e. absurd (let same : Words ≡ _ = e in cc);
    }

-- ---- on its course

-- the best word waits as long as the kind needs
pub best-near : {S : Type 0} (A : Ghosts S) (a : S) {p : WordPlace} → IsBestOpen A a p → (o : Occurrence)
    → p.best ≡ Some o → (p.kind ≢ Standard) × (p.at ≤ o.start + longest (A.built a).dictionary.patterns)
best-near A a open_ o e = let is = open_ o e in (is.leftmost, is.needed)

-- a search that stands right is on its course
pub words-course : {S : Type 0} (A : Ghosts S) (a : S) (pieces : List (List ℕ)) (given : List Occurrence) (closed : Bool)
    (from : ℕ) (p : WordPlace) (moved : ℕ) (sums : Steps)
    → StandsInStream A a (word_progress (A.built a) pieces given closed from p moved sums) p
    → IsOnCourse (word_progress (A.built a) pieces given closed from p moved sums)
words-course A a pieces given closed from p moved sums is =
    let b = A.built a in
    let m = b.dictionary in
    let x = concat pieces in
    let place = is.stands.place in
    let order = place.order in
    let cut : from ≤ word_cut m p =
    ⊎_elim
    (λ (some : 0 < from). let before = place.before some in omega arith)
    (λ (none : from ≤ 0). omega arith)
    (cases_lt 0 from) in
    let all = is.goes [] (λ _. refl) in
    record {
      standard = λ e. absurd (let same : Words ≡ _ = e in cc);
      passed = λ e. absurd (let same : Words ≡ _ = e in cc);
      unclosed = λ none. absurd none;
      filled = is.filled;
      ordered = (order, place.within);
      kept = (cut, held-at place, is.room);
      short = is.short;
      begun = subst (λ l. IsBeginning given (remaining_words m p.kind l 0)) (append-nil x)
          (remaining_words m p.kind (x ++ []) p.last, all);
      ended = is.ended;
      decided = λ more follows. (
        remaining_words m p.kind (x ++ more) p.last,
        is.goes more follows,
        left-at_cut is.stands (best-near A a is.open_) more,
      );
      paid = words-budget b pieces given closed from p moved sums is.looks order place.within is.scanned is.moved;
    }

-- ---- beginning anew

-- where a search begins anew, it stands right in its start state
pub anew-stands : (m : Dictionary) (Reaches : List ℕ → StateID → Type 0) (from : ℕ) (x : List ℕ) (p : WordPlace) (at : ℕ)
    → Reaches [] p.start → (0 < from → from < at) → at ≤ length x
    → StandsForWords m Reaches from x (record p { sid = p.start; last = at; at = at; best = None })
anew-stands m Reaches from x p at start before within =
    let long = slice_range-length x at (omega arith) within in
    let empty : slice_range x at at ≡ [] = nil_from_length (slice_range x at at) (omega arith) in
    record {
      place = record {
        start = start;
        before = λ some. let lt = before some in omega arith;
        order = omega arith;
        within = within;
        reads = subst (λ l. Reaches l p.start) (sym empty) start;
      };
      best = λ o word. let w = word.0.0.within in let begins = w.0 in let ends = w.1 in let before_it = word.1 in omega arith;
      near = λ o none. absurd (let e : None ≡ Some o = none in cc);
    }

-- all looks so far are paid for by the bytes before where it begins anew
pub anew-paid : (b : Built) (p : WordPlace) (s : StreamProgress Words) (at : ℕ) → at ≤ length (read_by s) → at ≤ s.looked
    → s.looked ≤ 2 * (at + again_for p.kind (longest b.dictionary.patterns) 0 (length s.given))
    → (IsTrue b.deterministic → s.looked ≤ at + again_for p.kind (longest b.dictionary.patterns) 0 (length s.given))
    → AreLooksPaid b (record p { sid = p.start; last = at; at = at; best = None }) s
anew-paid b p s at within some twice once = record {
  before = s.looked;
  since = 0;
  all = omega arith;
  twice = twice;
  once = once;
  paid = paid-zero b.dictionary b.deterministic (read_by s) at at (omega arith) within;
  some = some;
}

-- ---- after a word

-- as much once more
again-next : (long matches : ℕ) → (long + 1) * (matches + 1) ≡ (long + 1) * matches + (long + 1)
again-next long matches = let next : matches + 1 ≡ suc matches = omega arith in
    ap (λ n. (long + 1) * n) next ∙ mul-suc (long + 1) matches

-- what may be read again after one more word is enough for the bytes that were read past it
reach-again : (kind : MatchKind) (patterns : List (List ℕ)) (matches at : ℕ) (o : Occurrence)
    → at ≤ word_reach kind patterns o → o.start ≤ o.end
    → at + again_for kind (longest patterns) 0 matches ≤ o.end + again_for kind (longest patterns) 0 (matches + 1)
reach-again Standard patterns matches at o reach ends = omega (arith, reach)
reach-again LeftmostFirst patterns matches at o reach ends =
    omega (arith, reach, ends, again-next (longest patterns) matches)
reach-again LeftmostLongest patterns matches at o reach ends =
    omega (arith, reach, ends, again-next (longest patterns) matches)

-- after a final word the search stands right
pub word-stands : {S : Type 0} (A : Ghosts S) (a : S) (pieces : List (List ℕ)) (given : List Occurrence) (closed : Bool)
    (from : ℕ) (p : WordPlace) (moved : ℕ) (sums after before taken : Steps) (o : Occurrence)
    → StandsInStream A a (word_progress (A.built a) pieces given closed from p moved sums) p
    → IsFinalWord (A.built a).dictionary p.kind closed (concat pieces) p.last o → o.end ≤ length (concat pieces)
    → CostsWord (A.built a) (concat pieces) p (anew_after p o) (Some o) before taken
    → after.looked.value + before.looked.value ≡ sums.looked.value + taken.looked.value
    → after.scanned.value ≡ sums.scanned.value
    → StandsInStream A a (word_progress (A.built a) pieces (given ++ o ∷ []) closed from (anew_after p o) moved after)
    (anew_after p o)
word-stands A a pieces given closed from p moved sums after before taken o is final within cost counted scanned =
    let b = A.built a in
    let m = b.dictionary in
    let x = concat pieces in
    let k = p.kind in
    let long = longest m.patterns in
    let n = length given in
    let place = is.stands.place in
    let word = final [] (λ _. refl) in
    let all = length-append x [] in
    let lies = word.0.0.within in
    let some = occurs-some {s = text_from m (x ++ []) p.last} (omega arith) is.filled word.0.0 in
    let cut = begins-at_cut is.stands (best-near A a is.open_) [] o word.0 in
    let end = end_of-push given o in
    let many : length (given ++ o ∷ []) ≡ n + 1 = length-append given (o ∷ []) in
    let pays = cost.4 in
    let rose = pays.only.rose in
    let reads = pays.some in
    let more : ℕ = is.looks.since + taken.looked.value - before.looked.value in
    let live = live-some {m = m} {anchored = false} {text = slice_range x p.last cost.0} in
    let paid = pays.paid is.looks.since more is.looks.paid (omega arith) live.0 live.1 in
    let one = paid.0 in
    let had = is.looks.all in
    let twice = is.looks.twice in
    let ends = cost.1 in
    let enough = reach-again k m.patterns n cost.0 o cost.2 lies.1 in
    let again : ℕ = again_for k long 0 n in
    let next : ℕ = again_for k long 0 (n + 1) in
    let past : p.last ≤ cost.0 = omega (arith, lies.0, lies.1, ends) in
    record {
      standard = is.standard;
      filled = is.filled;
      stands = anew-stands m (A.Reaches a No) from x p o.end place.start
          (λ some_held. let before_it = place.before some_held in omega (arith, before_it, cut, some)) within;
      open_ = λ q none. absurd (let e : None ≡ Some q = none in cc);
      goes = λ yet follows.
          is.goes yet follows ∙ ap (λ l. given ++ l) (left-word m k closed x yet p.last o is.filled final follows)
          ∙ sym (append_assoc given (o ∷ []) (remaining_words m k (x ++ yet) o.end));
      later = λ yet follows q next_word.
          (subst (λ e. OccursWhole (text_from m (x ++ yet) e) q) end next_word).0.within.0;
      ended = omega (arith, end);
      room = is.room;
      short = is.short;
      looks = anew-paid b p (word_progress b pieces (given ++ o ∷ []) closed from (anew_after p o) moved after) o.end within
          (omega (arith, counted, is.looks.some, reads, ends))
          (subst (λ c. after.looked.value ≤ 2 * (o.end + again_for k long 0 c)) (sym many)
          (omega (arith, counted, had, twice, one, enough, past, rose)))
          (λ d. subst (λ c. after.looked.value ≤ o.end + again_for k long 0 c) (sym many)
          (omega (arith, counted, had, is.looks.once d, paid.1 d, enough, past, rose)));
      scanned = scanned ∙ is.scanned;
      moved = is.moved;
    }

-- ---- where no word was found

-- what the list of each state says of the texts that reach it
abbrev pub ListsTell : {S : Type 0} → Ghosts S → S → Type 0
ListsTell A a =
    (text : List ℕ) (sid : StateID) → A.Reaches a No text sid → Tells (A.built a).dictionary No text (A.matches a sid)

-- a search that has read on stands right
pub read-stands : {S : Type 0} (A : Ghosts S) (a : S) (pieces : List (List ℕ)) (given : List Occurrence) (closed : Bool)
    (from : ℕ) (p : WordPlace) (moved : ℕ) (sums after before taken : Steps) (sid : StateID) (at : ℕ)
    (best : Option Occurrence)
    → StandsInStream A a (word_progress (A.built a) pieces given closed from p moved sums) p
    → StandsForWords (A.built a).dictionary (A.Reaches a No) from (concat pieces)
    (record p { sid = sid; at = at; best = best })
    → IsBestOpen A a (record p { sid = sid; at = at; best = best })
    → PaysForWords (A.built a) (concat pieces) p.last p.at at before taken
    → after.looked.value + before.looked.value ≡ sums.looked.value + taken.looked.value
    → after.scanned.value ≡ sums.scanned.value
    → StandsInStream A a
    (word_progress (A.built a) pieces given closed from (record p { sid = sid; at = at; best = best }) moved after)
    (record p { sid = sid; at = at; best = best })
read-stands A a pieces given closed from p moved sums after before taken sid at best is stands open_ pays counted scanned =
    let rose = pays.only.rose in
    let reads = pays.some in
    let had = is.looks.all in
    let more : ℕ = is.looks.since + taken.looked.value - before.looked.value in
    record {
      standard = is.standard;
      filled = is.filled;
      stands = stands;
      open_ = open_;
      goes = is.goes;
      later = is.later;
      ended = is.ended;
      room = is.room;
      short = is.short;
      looks = record {
        before = is.looks.before;
        since = more;
        all = omega (arith, counted, had, rose);
        twice = is.looks.twice;
        once = is.looks.once;
        paid = pays.paid is.looks.since more is.looks.paid (omega (arith, rose));
        some = omega (arith, is.looks.some, reads, counted);
      };
      scanned = scanned ∙ is.scanned;
      moved = is.moved;
    }

-- where a search has no best word and nothing is live, a word from where it last began anew on begins where it stands, or later
idle-begins : {S : Type 0} (A : Ghosts S) (a : S) {from : ℕ} (x more : List ℕ) (p : WordPlace)
    → (A.built a).dictionary.kind ≡ Standard → ListsTell A a
    → StandsForWords (A.built a).dictionary (A.Reaches a No) from x p → p.best ≡ None → IsQuietPlace A a p
    → (q : Occurrence) → OccursWhole (text_from (A.built a).dictionary (x ++ more) p.last) q → p.at ≤ q.start
idle-begins A a x more p standard tells stands none idle q word =
    let m = (A.built a).dictionary in
    let place = stands.place in
    let within = place.within in
    let told : Tells m No (read_to (text_from m x p.last) p.at) [] =
    subst (λ ns. Tells m No (read_to (text_from m x p.last) p.at) ns) idle.0 (tells _ p.sid place.reads) in
    let nothing : IsLeast p.kind (WordsBefore m x p.last p.at) None =
    subst (IsLeast p.kind (WordsBefore m x p.last p.at)) none stands.best in
    ⊎_elim
    (λ (before : q.end < p.at).
    absurd (nothing q (front-word m x more p.last q (omega arith) (inl (omega arith)) word, before)))
    (λ (past : p.at ≤ q.end).
    (past-live m x more p.last p.at q standard place.order within told (idle.1 _ place.reads) word.0 past).1)
    (cases_lt q.end p.at)

-- and the search may begin anew there
pub idle-stands : {S : Type 0} (A : Ghosts S) (a : S) (pieces : List (List ℕ)) (given : List Occurrence) (closed : Bool)
    (from : ℕ) (p : WordPlace) (moved : ℕ) (sums : Steps)
    → ListsTell A a
    → StandsInStream A a (word_progress (A.built a) pieces given closed from p moved sums) p
    → p.best ≡ None → IsQuietPlace A a p
    → StandsInStream A a
    (word_progress (A.built a) pieces given closed from (record p { sid = p.start; last = p.at; best = None }) moved sums)
    (record p { sid = p.start; last = p.at; best = None })
idle-stands A a pieces given closed from p moved sums tells is none idle =
    let b = A.built a in
    let m = b.dictionary in
    let x = concat pieces in
    let place = is.stands.place in
    let order = place.order in
    let begins : (more : List ℕ) (q : Occurrence) → OccursWhole (text_from m (x ++ more) p.last) q → p.at ≤ q.start =
    λ more q word. idle-begins A a x more p is.standard tells is.stands none idle q word in
    let bound = looks-within is.looks order in
    record {
      standard = is.standard;
      filled = is.filled;
      stands = anew-stands m (A.Reaches a No) from x p p.at place.start
          (λ some. let before = place.before some in omega (arith, before, order)) place.within;
      open_ = λ q nothing. absurd (let e : None ≡ Some q = nothing in cc);
      goes = λ more follows.
          is.goes more follows
          ∙ ap (λ l. given ++ l) (left-from m p.kind (x ++ more) p.last p.at is.filled order (begins more));
      later = λ more follows q word.
          let late = is.later more follows q word in
          begins more q ((word-from m (x ++ more) (end_of given) p.last q is.ended (λ _. late)).1 word);
      ended = let le = is.ended in omega (arith, le, order);
      room = is.room;
      short = is.short;
      looks = anew-paid b p
          (word_progress b pieces given closed from (record p { sid = p.start; last = p.at; best = None }) moved sums) p.at
          place.within is.looks.some bound.0 bound.1;
      scanned = is.scanned;
      moved = is.moved;
    }
