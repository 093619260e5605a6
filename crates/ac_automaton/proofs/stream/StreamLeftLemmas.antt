-- How many items of a stream are left: each call that returns one leaves fewer.
use Rattle.std.proofs.Common.{◌≡◌, ⊎_elim, inr, ℕ, ◌+◌, ◌-◌, ◌*◌, ◌<◌, ◌≤◌, Bool, true, false, not, List, [], ◌∷◌, ◌++◌, length, Option, None, Some, Result, Ok, Err, sym, ap, subst, refl, ◌∙◌, arith, append-nil, length-append}
use Rattle.std.specs.Iterator.{MakesProgress, at_most}
use Rattle.std.specs.List.{concat}
use Rattle.std.proofs.Math.Nat.{mul-le-mul_left}
use Rattle.std.proofs.lemmas.Bool.{cases_lt, false≢true}
use Rattle.std.proofs.lemmas.Bool.Decides.{nat_tests}
use Rattle.std.proofs.lemmas.List.Filters.{length-filter_both}
use Rattle.std.proofs.lemmas.List.Folds.{concat-append}
use Rattle.ac_input.specs.Number.{usize_max}
use Rattle.ac_input.specs.Input.{whole_of}
use Rattle.ac_input.specs.Dictionary.{whole}
use Rattle.ac_input.specs.Occurrence.{Occurrence}
use Rattle.ac_input.specs.Word.{is_whole_word}
use Rattle.ac_input.proofs.lemmas.WordLemmas.{words-filtered}
use Rattle.ac_automaton.specs.Automaton.{Built}
use Rattle.ac_automaton.specs.Stream.Devices.Moved.{AreInTurn}
use Rattle.ac_automaton.specs.InMemory.Overlapping.OverlappingIter.{fresh_run}
use Rattle.ac_automaton.specs.Stream.{AllWords, CanBeCounted, FindsHeld, IsOnCourse, Occurrences, Picks, Sequence, StreamProgress, Words, items_of, read_by}
use Rattle.ac_automaton.specs.Stream.Iter.{GivesItem, HasGained, IsStopped, NextGives, PassesPlaces, ReturnsNext, StaysStopped, items_left, listed_left, matches_left, most_left, occurrences_left}
use Rattle.ac_automaton.specs.declared.error.StreamError.{StreamError}
use Rattle.ac_automaton.specs.declared.error.StreamError.TheVariants.{Config, Read, Write, WriteZero, Memory, Position}
use Rattle.ac_automaton.specs.declared.stream.StreamIter.{StreamIter}
use Rattle.ac_automaton.specs.declared.stream.devices.watched.Watched.{Watched}
use Rattle.ac_automaton.proofs.in_memory.iter.ItemsLemmas.{listing-few}

-- ---- over numbers

-- A match that ends further on leaves fewer items. A reader that has ended stays so, and returns no more bytes.
match-fewer : (read later searched end : ℕ) (ended ends : Bool) → read ≤ later → later ≤ usize_max → searched < end
    → end ≤ later → (ended ≡ true → (later ≡ read) × (ends ≡ true))
    → matches_left later end ends < matches_left read searched ended
match-fewer read later searched end true true le few lt within still = let same = still refl in let e = same.0 in
    grind (arith, nat_tests)
match-fewer read later searched end true false le few lt within still = let same = still refl in
    absurd (false≢true same.1)
match-fewer read later searched end false true le few lt within still = grind (arith, nat_tests)
match-fewer read later searched end false false le few lt within still = grind (arith, nat_tests)

-- where the reader has not ended and places can be counted, an item may be left
open-some : (read searched : ℕ) → read ≤ usize_max → 0 < matches_left read searched false
open-some read searched few = grind (arith, nat_tests)

-- fewer items are left once the reader has ended
ended-fewer : (read later last end : ℕ) (ended ends : Bool) → read ≤ usize_max → last ≤ end → ended ≡ false
    → ends ≡ true → matches_left later end ends < matches_left read last ended
ended-fewer read later last end true ends few le open_ over = absurd (false≢true (sym open_))
ended-fewer read later last end false true few le open_ over = grind (arith, nat_tests)
ended-fewer read later last end false false few le open_ over = absurd (false≢true over)

-- no item is left where places can't be counted
many-none : (read searched : ℕ) (ended : Bool) → usize_max < read → matches_left read searched ended ≡ 0
many-none read searched true many = grind (arith, nat_tests)
many-none read searched false many = grind (arith, nat_tests)

-- ---- over what was read

-- the bytes read are those read before and those gained
read-gained : {R : Type 0} {q : Sequence} {remaining : R → Option (List ℕ)} {s t : StreamProgress q}
    {before after : Watched R} {gained : List (List ℕ)} {failed : ℕ}
    → HasGained remaining s t before after gained failed
    → length (read_by t) ≡ length (read_by s) + length (concat gained)
read-gained {s} {gained} has =
    ap (λ l. length (concat l)) has.pieces ∙ ap length (concat-append s.pieces gained)
    ∙ length-append (read_by s) (concat gained)

-- a reader that has ended returns nothing more, and stays ended
ended-still : (ended ends : Bool) (gained : List (List ℕ)) → AreInTurn ended gained ends → ended ≡ true
    → (gained ≡ []) × (ends ≡ true)
ended-still ended ends [] turns is = (refl, turns ∙ is)
ended-still ended ends (g ∷ gs) turns is = absurd (false≢true (sym turns.0 ∙ is))

-- a reader that returns a piece had not ended
open-before : (ended ends : Bool) (filled : List (List ℕ)) (piece : List ℕ)
    → AreInTurn ended (filled ++ piece ∷ []) ends → ended ≡ false
open-before ended ends [] piece turns = turns.0
open-before ended ends (g ∷ gs) piece turns = turns.0

-- a search that returns an item has not stopped
not-stopped : {R : Type 0} {q : Sequence} (s t : StreamProgress q) (before after : Watched R)
    (x : Result Occurrence StreamError) → StaysStopped s t before after (Some x) → ¬ IsStopped s before
not-stopped s t before after x stays stopped = let e : Some x ≡ None = (stays stopped).0 in cc

-- a search that has not stopped can count its places
few-before : {R : Type 0} {q : Sequence} (s : StreamProgress q) (before : Watched R) → ¬ IsStopped s before
    → length (read_by s) ≤ usize_max
few-before s before goes =
    ⊎_elim (λ many. absurd (goes (inr (λ few. omega arith)))) (λ few. few) (cases_lt usize_max (length (read_by s)))

-- a reader that returns pieces had not ended
some-open : (ended ends : Bool) (gained : List (List ℕ)) → AreInTurn ended gained ends → ¬ (gained ≡ []) → ended ≡ false
some-open ended ends [] turns some = absurd (some refl)
some-open ended ends (g ∷ gs) turns some = turns.0

-- where the last read leaves more bytes than places, some were read, and places can't be counted
module _ {R : Type 0} {q : Sequence} (remaining : R → Option (List ℕ)) (s t : StreamProgress q)
    (before after : Watched R) (few : CanBeCounted (read_by s)) (passes : PassesPlaces remaining s t before after) where
  passed-many : usize_max < length (read_by t)
  passed-many = ⊎_elim (λ lt. lt) (λ le. absurd (passes.many le)) (cases_lt usize_max (length (read_by t)))

  passed-open : before.ended ≡ false
  passed-open = some-open before.ended after.ended passes.gained passes.has.read.turns (λ nothing.
      let long = read-gained passes.has in
      let e = ap (λ l. length (concat l)) nothing in
      let many = passed-many in
      omega arith)

-- ---- matches and words

-- how many items that lie one after another are left at most
abbrev pub apart_left : {q : Sequence} → StreamProgress q → Bool → ℕ
apart_left s ended = matches_left (length (read_by s)) s.last ended

-- a match or a word leaves fewer
match-leaves : {R : Type 0} {q : Sequence} {remaining : R → Option (List ℕ)} {s t : StreamProgress q}
    {before after : Watched R} {o : Occurrence} → ReturnsNext remaining s t before after o → s.last ≤ o.start
    → IsOnCourse t → apart_left t after.ended < apart_left s before.ended
match-leaves {s} {t} {before} {after} {o} next behind course =
    let has = next.has in
    let long = read-gained has in
    let last : t.last ≡ o.end = next.come.0 in
    let order = course.ordered in
    let some = next.some in
    match-fewer (length (read_by s)) (length (read_by t)) s.last t.last before.ended after.ended (omega arith)
    next.countable (omega arith) (omega (arith, order.0, order.1))
    (λ is. let still = ended-still before.ended after.ended next.gained has.read.turns is in
    let none = ap (λ l. length (concat l)) still.0 in (omega arith, still.1))

-- an error leaves fewer
error-leaves : {R : Type 0} {q : Sequence} (remaining : R → Option (List ℕ)) (s t : StreamProgress q)
    (before after : Watched R) (error : StreamError) → NextGives remaining s t before after (Some (Err error))
    → ¬ IsStopped s before → apart_left t after.ended < apart_left s before.ended
error-leaves remaining s t before after (Config error) next goes = absurd next
error-leaves remaining s t before after (Read error) next goes =
    let open_ : before.ended ≡ false = open-before before.ended after.ended next.filled [] next.has.read.turns in
    ended-fewer (length (read_by s)) (length (read_by t)) s.last t.last before.ended after.ended
    (few-before s before goes) next.has.last open_ next.ended
error-leaves remaining s t before after (Write error) next goes = absurd next
error-leaves remaining s t before after WriteZero next goes = absurd next
error-leaves remaining s t before after Memory next goes = absurd next
error-leaves remaining s t before after Position next goes =
    let few = few-before s before goes in
    let many = passed-many remaining s t before after few next in
    let some = open-some (length (read_by s)) s.last few in
    let none = many-none (length (read_by t)) t.last after.ended many in
    let left = ap (matches_left (length (read_by s)) s.last) (passed-open remaining s t before after few next) in
    omega arith

-- ---- listings

-- The bytes that can be counted have at most one occurrence of each pattern for each place.
occurrences-few : (b : Built) (x : List ℕ) → CanBeCounted x
    → length (items_of Occurrences b.dictionary x) ≤ length b.dictionary.patterns * 18446744073709551616
occurrences-few b x few =
    let some = listing-few b (whole_of x) (fresh_run b (whole_of x)) (omega arith) refl in
    omega (arith, some, mul-le-mul_left (length b.dictionary.patterns) (more few))
  where
    more : CanBeCounted x → length x + 1 ≤ 18446744073709551616
    more le = omega (arith, le)

-- with one more item returned, fewer are left
found-fewer : (read later given some all listed most : ℕ) (ended ends : Bool) → read ≤ later → later ≤ usize_max
    → some ≡ given + 1 → some ≤ all → all ≤ most → (ended ≡ true → (listed ≡ all) × (ends ≡ true))
    → occurrences_left later all some most ends < occurrences_left read listed given most ended
found-fewer read later given some all listed most true true le few one within fits still =
    let same = still refl in let e = same.0 in grind (arith, nat_tests)
found-fewer read later given some all listed most true false le few one within fits still =
    let same = still refl in absurd (false≢true same.1)
found-fewer read later given some all listed most false true le few one within fits still = grind (arith, nat_tests)
found-fewer read later given some all listed most false false le few one within fits still = grind (arith, nat_tests)

-- once the reader has ended, fewer are left
listed-ended : (read later given listed all most : ℕ) → read ≤ usize_max → (later ≤ usize_max → all ≤ most)
    → occurrences_left later all given most true < occurrences_left read listed given most false
listed-ended read later given listed all most few fits =
    ⊎_elim
    (λ (many : usize_max < later). grind (arith, nat_tests))
    (λ (le : later ≤ usize_max). let within = fits le in grind (arith, nat_tests))
    (cases_lt usize_max later)

-- where the reader has not ended and places can be counted, an item may be left
occurrence-open : (read listed given most : ℕ) → read ≤ usize_max → 0 < occurrences_left read listed given most false
occurrence-open read listed given most few = grind (arith, nat_tests)

-- where places can't be counted, no item is left
occurrence-many : (read listed given most : ℕ) (ended : Bool) → usize_max < read
    → occurrences_left read listed given most ended ≡ 0
occurrence-many read listed given most true many = grind (arith, nat_tests)
occurrence-many read listed given most false many = grind (arith, nat_tests)

-- so they have at most as many whole words
words-few : (b : Built) (x : List ℕ) → CanBeCounted x
    → length (items_of AllWords b.dictionary x) ≤ length b.dictionary.patterns * 18446744073709551616
words-few b x few =
    let same = ap length (words-filtered (whole b.dictionary x false) (omega arith)) in
    let both = length-filter_both (is_whole_word x) (λ o. not (is_whole_word x o)) (λ o. refl) (items_of Occurrences b.dictionary x) in
    let all = occurrences-few b x few in
    omega arith

-- how many items of a listing what was read has
abbrev pub listed : {q : Sequence} → StreamProgress q → ℕ
listed {q} u = length (items_of q u.built.dictionary (read_by u))

-- how many may be returned in all
abbrev pub most_of : {q : Sequence} → StreamProgress q → ℕ
most_of u = (length u.built.dictionary.patterns) * 18446744073709551616

-- where at most as many are listed as may be returned
abbrev pub AreFew : {q : Sequence} → StreamProgress q → Type 0
AreFew u = CanBeCounted (read_by u) → listed u ≤ most_of u

-- an item of a listing leaves fewer
found-leaves : {R : Type 0} {q : Sequence} {remaining : R → Option (List ℕ)} {s t : StreamProgress q}
    {before after : Watched R} {o : Occurrence} → ReturnsNext remaining s t before after o → IsOnCourse t → AreFew t
    → listed_left t after.ended < listed_left s before.ended
found-leaves {R} {q} {remaining} {s} {t} {before} {after} {o} next course few =
    let long = read-gained next.has in
    let one = length-append s.given (o ∷ []) in
    let given = ap length next.given in
    let begun = course.begun in
    let all = ap length begun.1 in
    let split = length-append t.given begun.0 in
    subst (λ n. occurrences_left (length (read_by t)) (listed t) (length t.given) (most_of t) after.ended
    < occurrences_left (length (read_by s)) (listed s) (length s.given) (n * 18446744073709551616) before.ended)
    (ap (λ b. length b.dictionary.patterns) next.has.built)
    (found-fewer (length (read_by s)) (length (read_by t)) (length s.given) (length t.given) (listed t) (listed s)
    (most_of t) before.ended after.ended (omega (arith, long)) next.countable (omega (arith, one, given))
    (omega (arith, all, split)) (few next.countable) still)
  where
    -- a reader that has ended returns nothing
    still : before.ended ≡ true → (listed s ≡ listed t) × (after.ended ≡ true)
    still ended =
        let none = ended-still before.ended after.ended next.gained next.has.read.turns ended in
        let same : read_by t ≡ read_by s =
        ap concat (next.has.pieces ∙ ap (λ l. s.pieces ++ l) none.0 ∙ append-nil s.pieces) in (
          ap (λ b. length (items_of q b.dictionary (read_by s))) (sym next.has.built)
              ∙ ap (λ l. length (items_of q t.built.dictionary l)) (sym same),
          none.1,
        )

-- an error leaves fewer
failed-leaves : {R : Type 0} {q : Sequence} (remaining : R → Option (List ℕ)) (s t : StreamProgress q)
    (before after : Watched R) (error : StreamError)
    → NextGives remaining s t before after (Some (Err error))
    → ¬ IsStopped s before → AreFew t → listed_left t after.ended < listed_left s before.ended
failed-leaves remaining s t before after (Config error) next goes few = absurd next
failed-leaves remaining s t before after (Read error) next goes few =
    let open_ : before.ended ≡ false = open-before before.ended after.ended next.filled [] next.has.read.turns in
    let same : most_of t ≡ most_of s = ap (λ b. length b.dictionary.patterns * 18446744073709551616) next.has.built in
    let fits : CanBeCounted (read_by t) → listed t ≤ most_of s = λ le. let few_then = few le in omega (arith, few_then, same) in
    let less = listed-ended (length (read_by s)) (length (read_by t)) (length s.given) (listed s) (listed t) (most_of s)
    (few-before s before goes) fits in
    let left : listed_left s before.ended
    ≡ occurrences_left (length (read_by s)) (listed s) (length s.given) (most_of s) false = ap (listed_left s) open_ in
    let left_then : listed_left t after.ended
    ≡ occurrences_left (length (read_by t)) (listed t) (length s.given) (most_of s) true =
    ap (listed_left t) next.ended
    ∙ ap (λ os. occurrences_left (length (read_by t)) (listed t) (length os) (most_of t) true) next.given
    ∙ ap (λ n. occurrences_left (length (read_by t)) (listed t) (length s.given) n true) same in
    omega (arith, less, left, left_then)
failed-leaves remaining s t before after (Write error) next goes few = absurd next
failed-leaves remaining s t before after WriteZero next goes few = absurd next
failed-leaves remaining s t before after Memory next goes few = absurd next
failed-leaves remaining s t before after Position next goes few =
    let can = few-before s before goes in
    let some = occurrence-open (length (read_by s)) (listed s) (length s.given) (most_of s) can in
    let none = occurrence-many (length (read_by t)) (listed t) (length t.given) (most_of t) after.ended
    (passed-many remaining s t before after can next) in
    let left = ap (listed_left s) (passed-open remaining s t before after can next) in
    omega (arith, some, none, left)

-- ---- items

-- an item leaves fewer
item-leaves : {R : Type 0} (q : Sequence) {remaining : R → Option (List ℕ)} {s t : StreamProgress q}
    {before after : Watched R} {o : Occurrence} → ReturnsNext remaining s t before after o → IsOnCourse t
    → items_left q t after.ended < items_left q s before.ended
item-leaves Picks next course = match-leaves next next.behind course
item-leaves Occurrences {t = t} next course = found-leaves next course (occurrences-few t.built (read_by t))
item-leaves Words next course = match-leaves next next.behind course
item-leaves AllWords {t = t} next course = found-leaves next course (words-few t.built (read_by t))

-- an error leaves fewer
stop-leaves : {R : Type 0} (q : Sequence) (remaining : R → Option (List ℕ)) (s : StreamProgress q)
    {t : StreamProgress q} (before after : Watched R) (error : StreamError)
    → NextGives remaining s t before after (Some (Err error))
    → ¬ IsStopped s before → IsOnCourse t → items_left q t after.ended < items_left q s before.ended
stop-leaves Picks remaining s {t} before after error next goes course =
    error-leaves remaining s t before after error next goes
stop-leaves Occurrences remaining s {t} before after error next goes course =
    failed-leaves remaining s t before after error next goes (occurrences-few t.built (read_by t))
stop-leaves Words remaining s {t} before after error next goes course =
    error-leaves remaining s t before after error next goes
stop-leaves AllWords remaining s {t} before after error next goes course =
    failed-leaves remaining s t before after error next goes (words-few t.built (read_by t))

-- each call that returns an item leaves fewer
pub items-fewer : {S R : Type 0} {q : Sequence} (progress : S → StreamProgress q) (remaining : R → Option (List ℕ))
    (i j : StreamIter S R) (r : Option (Result Occurrence StreamError)) → GivesItem progress remaining i j r
    → IsOnCourse (progress j.stream)
    → MakesProgress (λ _. Unit {0}) (λ k. at_most (most_left progress k)) i r j
items-fewer progress remaining i j None gives course = record { on = λ _. tt; keeps = tt; rests = λ _. tt }
items-fewer {S} {R} {q} progress remaining i j (Some (Ok o)) gives course =
    record {
      on = λ _. (
        tt,
        tt,
        item-leaves q gives.0 course,
      );
      keeps = tt;
      rests = λ _. tt;
    }
items-fewer {S} {R} {q} progress remaining i j (Some (Err error)) gives course =
    let goes = not-stopped (progress i.stream) (progress j.stream) i.reader.now j.reader.now (Err error) gives.1 in
    record {
      on = λ _. (
        tt,
        tt,
        stop-leaves q remaining (progress i.stream) i.reader.now j.reader.now error gives.0 goes
            course,
      );
      keeps = tt;
      rests = λ _. tt;
    }

-- ---- without a read

-- fewer items of what was read are left after one more was returned
pub item-fewer : {q : Sequence} (s t : StreamProgress q) (o : Occurrence) → FindsHeld s (Some o) t → IsOnCourse t
    → length (items_of q t.built.dictionary (read_by t)) - length t.given
    < length (items_of q s.built.dictionary (read_by s)) - length s.given
item-fewer {q} s t o finds course =
    let same : items_of q t.built.dictionary (read_by t) ≡ items_of q s.built.dictionary (read_by s) =
    ap (λ b. items_of q b.dictionary (read_by t)) finds.0.built
    ∙ ap (λ ps. items_of q s.built.dictionary (concat ps)) finds.0.pieces in
    let one = length-append s.given (o ∷ []) in
    let begun = course.begun in
    let split = length-append t.given begun.0 in
    omega (arith, ap length same, one, ap length finds.1, ap length begun.1, split)
