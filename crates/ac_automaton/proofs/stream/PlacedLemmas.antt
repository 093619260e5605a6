-- Up to which place the text of a stream may be passed on: item by item, up to the cut, and from one read to the next.
use Rattle.std.proofs.Common.{◌≡◌, ◌≢◌, ◌⊎◌, inl, inr, Bool, true, false, ℕ, ◌-◌, ◌<◌, ◌≤◌, List, [], ◌∷◌, ◌++◌, length, take, Option, Some, None, refl, sym, ap, ◌∙◌, subst, arith, append_assoc}
use Rattle.std.specs.List.{All, AllByRecursion, concat}
use Rattle.std.specs.Prelude.{max, slice_index_or}
use Rattle.std.proofs.lemmas.Bool.{false≢true}
use Rattle.std.proofs.lemmas.List.{append-nil, append_cancel_left, length-append}
use Rattle.std.proofs.lemmas.List.Elements.{recursion_from_All}
use Rattle.std.proofs.lemmas.List.Folds.{concat-append}
use Rattle.ac_input.specs.declared.search.MatchKind.{MatchKind}
use Rattle.ac_input.specs.declared.search.MatchKind.TheVariants.{Standard, LeftmostFirst, LeftmostLongest}
use Rattle.ac_input.specs.Dictionary.{Dictionary}
use Rattle.ac_input.specs.Occurrence.{Occurrence}
use Rattle.ac_input.specs.Text.{replaced_from}
use Rattle.ac_input.specs.Work.{longest}
use Rattle.ac_automaton.specs.Automaton.{Built}
use Rattle.ac_automaton.specs.Stream.Devices.Moved.{AllFit, HasGiven, but_last}
use Rattle.ac_automaton.specs.InMemory.Replace.{LieInOrder}
use Rattle.ac_automaton.specs.Stream.{AllWords, AreAllGiven, CanBeCounted, Decides, FindsHeld, HasRead, IsFront, IsNear, IsOnCourse, IsPrompt, LieApart, Picks, Occurrences, ReadsNothing, Sequence, StreamProgress, Words, closed_by, cut_of, items_of, may_wait, place_of, read_by, room_of, waits_for}
use Rattle.ac_automaton.specs.Stream.Replace.{IsAtCut, IsPlaced, replaced_in}
use Rattle.ac_automaton.specs.declared.stream.devices.watched.Watched.{Watched}
use Rattle.ac_automaton.proofs.stream.devices.MovedLemmas.{given-push}
use Rattle.ac_automaton.proofs.in_memory.iter.ItemsLemmas.{lies-longer}
use Rattle.ac_automaton.proofs.stream.StreamCutLemmas.{matches-cut, matches-front}
use Rattle.ac_automaton.proofs.stream.StreamIterLemmas.{but_last-push}

-- ---- items in order

-- one more occurrence, which begins where the others end or later, keeps them in order
pub lies-push : (patterns len at : ℕ) (os : List Occurrence) (o : Occurrence) → LieInOrder patterns len at os → at ≤ len
    → len ≤ o.start → o.start ≤ o.end → o.pattern < patterns → LieInOrder patterns o.end at (os ++ o ∷ [])
lies-push patterns len at [] o lies from before order number = (number, omega arith, order, omega arith, tt)
lies-push patterns len at (q ∷ os) o lies from before order number =
    (lies.0, lies.1, lies.2, omega arith, lies-push patterns len q.end os o lies.4 lies.3 before order number)

-- of occurrences that lie in order, those that begin at a place or after it lie in order from there
pub lies-behind : (patterns len at place : ℕ) (os rest : List Occurrence) → LieInOrder patterns len at (os ++ rest)
    → AllByRecursion (λ o. place ≤ o.start) rest → LieInOrder patterns len place rest
lies-behind patterns len at place [] [] lies begin = tt
lies-behind patterns len at place [] (o ∷ rest) lies begin = (lies.0, begin.0, lies.2, lies.3, lies.4)
lies-behind patterns len at place (q ∷ os) rest lies begin = lies-behind patterns len q.end place os rest lies.4 begin

-- a match or a word goes on from where it starts
pub place-start : (q : Sequence) (o : Occurrence) → LieApart q → place_of q o ≡ o.start
place-start Picks o apart = refl
place-start Occurrences o apart = absurd apart
place-start Words o apart = refl
place-start AllWords o apart = absurd apart

-- an item goes on from where it ends, or before that
place-end : (q : Sequence) (o : Occurrence) → o.start < o.end → place_of q o ≤ o.end
place-end Picks o some = omega arith
place-end Occurrences o some = omega arith
place-end Words o some = omega arith
place-end AllWords o some = omega arith

-- items at a place or later are at any earlier place or later
pub all-later : (q : Sequence) (place later : ℕ) (os : List Occurrence) → place ≤ later
    → All (λ o. later ≤ place_of q o) os → All (λ o. place ≤ place_of q o) os
all-later q place later os le all = λ (k : ℕ) (d : Occurrence) (lt : k < length os). let late = all k d lt in
    let z : place ≤ place_of q (slice_index_or os k d) = omega arith in z

-- ---- a search that reads nothing

-- nothing was read in between
pub nothing-read : {q : Sequence} (s : StreamProgress q) → ReadsNothing s s
nothing-read s =
    record { on = λ standard. omega arith; last = omega arith; closed = refl; built = refl; pieces = refl; from = refl }

pub ReadsNothing-then : {q : Sequence} (s t u : StreamProgress q) → ReadsNothing s t → ReadsNothing t u
    → ReadsNothing s u
ReadsNothing-then s t u a b = record {
  on = λ standard. let first = a.on standard in
      let then = b.on (subst (λ c. c.dictionary.kind ≡ Standard) (sym a.built) standard) in omega arith;
  last = let first = a.last in let then = b.last in omega arith;
  closed = b.closed ∙ a.closed;
  built = b.built ∙ a.built;
  pieces = b.pieces ∙ a.pieces;
  from = b.from ∙ a.from;
}

-- the cut lies within what was read
pub cut-within : {q : Sequence} {s : StreamProgress q} → IsOnCourse s → cut_of s ≤ length (read_by s)
cut-within course = let a = course.ordered.0 in let e = course.ordered.1 in omega arith

-- the items of what was read that are left, all of which are at the cut or later
pub rest-left : {q : Sequence} {s : StreamProgress q} → IsOnCourse s
    → (rest : List Occurrence) × (items_of q s.built.dictionary (read_by s) ≡ s.given ++ rest)
    × All (λ o. cut_of s ≤ place_of q o) rest
rest-left {q} {s} course =
    let decided = course.decided [] (λ _. refl) in
    (decided.0, ap (items_of q s.built.dictionary) (sym (append-nil (read_by s))) ∙ decided.1, decided.2)

-- ---- the next item

-- the first of the items that are left comes at the cut or after it
next-begins : (q : Sequence) (all given rest others : List Occurrence) (o : Occurrence) (cut : ℕ) → all ≡ given ++ rest
    → all ≡ (given ++ o ∷ []) ++ others → All (λ p. cut ≤ place_of q p) rest → cut ≤ place_of q o
next-begins q all given rest others o cut one two begin =
    let same : rest ≡ o ∷ others =
    append_cancel_left given rest (o ∷ others) (sym one ∙ two ∙ append_assoc given (o ∷ []) others) in
    (subst (λ ps. AllByRecursion (λ p. cut ≤ place_of q p) ps) same
    (recursion_from_All (λ (p : Occurrence). cut ≤ place_of q p) rest begin)).0

module _ {q : Sequence} (s t : StreamProgress q) (o : Occurrence) (course : IsOnCourse t)
    (finds : FindsHeld s (Some o) t) where
  -- no bytes were read in between
  pub same-read : read_by t ≡ read_by s
  same-read = ap concat finds.0.pieces

  -- the next item is the first of those that are left
  pub next-left : (rest : List Occurrence)
      × (items_of q s.built.dictionary (read_by s) ≡ s.given ++ o ∷ rest) × All (λ p. o.end ≤ place_of q p) rest
  next-left =
      let left = rest-left course in
      let last : t.last ≡ o.end = finds.2 in
      let read : items_of q t.built.dictionary (read_by t) ≡ items_of q s.built.dictionary (read_by s) =
      ap (λ b. items_of q b.dictionary (read_by t)) finds.0.built ∙ ap (items_of q s.built.dictionary) same-read in (
        left.0,
        sym read ∙ left.1 ∙ ap (λ os. os ++ left.0) finds.1 ∙ append_assoc s.given (o ∷ []) left.0,
        all-later q _ _ left.0 (omega arith) left.2,
      )

  module _ (at : ℕ) (placed : IsPlaced s at) where
    -- the item comes where the passed text ends, or later
    pub item-behind : at ≤ place_of q o
    item-behind =
        let left = rest-left placed.course in
        let next = next-left in
        let from = next-begins q (items_of q s.built.dictionary (read_by s)) s.given left.0 next.0 o (cut_of s) left.1
        (next.1 ∙ sym (append_assoc s.given (o ∷ []) next.0)) left.2 in
        let le = placed.cut in
        omega arith

    -- a match or a word begins there
    pub match-behind : LieApart q → at ≤ o.start
    match-behind apart = let behind = item-behind in let start = place-start q o apart in omega arith

    -- the text may be passed on up to the item's end
    pub item-placed : IsPlaced t o.end
    item-placed =
        let found = finds.4 in
        let last : t.last ≡ o.end = finds.2 in
        let from : t.from ≡ s.from = finds.0.from in
        let held : s.from ≤ at = placed.held in
        let some : o.start < o.end = found.some in
        let behind = item-behind in
        let end = place-end q o some in
        record {
          course = course;
          countable = subst CanBeCounted (sym same-read) placed.countable;
          held = omega arith;
          cut = omega arith;
          lies = λ is.
              let start = match-behind is in
              subst (λ b. LieInOrder (length b.dictionary.patterns) o.end 0 t.given) (sym finds.0.built)
              (subst (LieInOrder (length s.built.dictionary.patterns) o.end 0) (sym finds.1)
              (lies-push (length s.built.dictionary.patterns) at 0 s.given o (placed.lies is) (omega arith) start
              (omega arith) found.pattern));
        }

-- where no further item was read, the text may be passed on up to the same place
pub none-placed : {q : Sequence} {s t : StreamProgress q} {at : ℕ} → IsPlaced s at → IsOnCourse t → FindsHeld s None t
    → IsPlaced t at
none-placed {s} {t} {at} placed course finds =
    let same = finds.0 in
    let read : read_by t ≡ read_by s = ap concat same.pieces in
    let all = finds.2 placed.countable in
    let searched : t.at ≡ length (read_by t) = all.searched in
    let before : s.at ≤ length (read_by s) = placed.course.ordered.1 in
    let later : s.at ≤ t.at = omega (arith, ap length read, searched) in
    let keep : max (longest t.built.dictionary.patterns) 1 ≡ max (longest s.built.dictionary.patterns) 1 =
    ap (λ b. max (longest b.dictionary.patterns) 1) same.built in
    let from : t.from ≡ s.from = same.from in
    let last : s.last ≤ t.last = finds.0.last in
    let h = placed.held in
    let c = placed.cut in
    record {
      course = course;
      countable = subst CanBeCounted (sym read) placed.countable;
      held = omega arith;
      cut = omega arith;
      lies = λ is. subst (λ b. LieInOrder (length b.dictionary.patterns) at 0 t.given) (sym same.built)
          (subst (LieInOrder (length s.built.dictionary.patterns) at 0) (sym finds.1) (placed.lies is));
    }

-- ---- up to the cut

-- the text may be passed on up to the cut
pub cut-placed : {q : Sequence} (s : StreamProgress q) (at cut : ℕ) → IsPlaced s at → cut ≡ cut_of s → IsPlaced s cut
cut-placed s at cut placed is =
    let le = placed.cut in
    let h = placed.held in
    record {
      course = placed.course;
      countable = placed.countable;
      held = omega arith;
      cut = omega arith;
      lies = λ e. lies-longer (length s.built.dictionary.patterns) 0 s.given (omega arith) (placed.lies e);
    }

-- where more may come, the items returned are those that are decided
pub decides-given : {q : Sequence} {s : StreamProgress q} → IsOnCourse s → AreAllGiven s → s.closed ≡ false
    → Decides q s.built.dictionary (read_by s) s.given
decides-given course all unclosed = record {
  first = λ more. let rest = course.decided more (λ closed. absurd (false≢true (sym unclosed ∙ closed))) in
      (rest.0, rest.1);
  all = λ standard. all.all (inl standard);
  open_ = all.open_;
}

-- no more bytes lie after the cut than may be kept
pub near-cut : {q : Sequence} {s : StreamProgress q} {at : ℕ} → IsAtCut s at → s.closed ≡ false
    → IsNear q s.built.dictionary (read_by s) at
near-cut {s} {at} place unclosed =
    let is : at ≡ cut_of s = place.cut in
    let searched : s.at ≡ length (read_by s) = place.all.searched in
    record {
      kept = omega arith;
      all = λ done. let anew = place.all.anew (done s.given (decides-given place.placed.course place.all unclosed)) in
          omega arith;
    }

-- the text up to the cut is the front of what was read, replaced
pub front-at_cut : (b : Built) (replacements : List (List ℕ)) {s : StreamProgress Picks} {at : ℕ} → s.built ≡ b
    → IsAtCut s at → s.closed ≡ false
    → IsFront b.dictionary (replaced_in b replacements) (read_by s)
    (replaced_from 0 (take at (read_by s)) replacements s.given)
front-at_cut b replacements {s} {at} built place unclosed =
    let x = read_by s in
    let course = place.placed.course in
    let left = rest-left course in
    let at_cut : at ≡ cut_of s = place.cut in
    let within = cut-within course in
    let inside : at ≤ length x = omega arith in
    let begin = all-later Picks at _ left.0 (omega arith) left.2 in
    let patterns = length s.built.dictionary.patterns in
    let lies = place.placed.lies tt in
    subst (λ c. IsFront c.dictionary (replaced_in c replacements) x (replaced_from 0 (take at x) replacements s.given))
    built (record {
      cut = at;
      is_cut = matches-cut s.built x at patterns s.given left.0 inside left.1 lies begin;
      near = near-cut place unclosed;
      front = ap (replaced_from 0 (take at x) replacements)
          (sym (matches-front s.built x at patterns s.given left.0 course.filled inside left.1 lies begin));
    })

-- ---- what a read leaves unchanged

-- the bytes of some pieces and one more
concat-push : (pieces : List (List ℕ)) (piece : List ℕ) → concat (pieces ++ piece ∷ []) ≡ concat pieces ++ piece
concat-push pieces piece = concat-append pieces (piece ∷ []) ∙ ap (λ t. concat pieces ++ t) (append-nil piece)

module _ {R : Type 0} {q : Sequence} {remaining : R → Option (List ℕ)} {s t : StreamProgress q} {r r1 : Watched R}
    {piece : List ℕ} {failed : ℕ} (read : HasRead remaining s t r r1 piece failed) where
  -- the bytes read after this read
  pub read-more : read_by t ≡ read_by s ++ piece
  read-more = ap concat read.pieces ∙ concat-push s.pieces piece

  -- an empty read adds no bytes
  pub read-same : piece ≡ [] → read_by t ≡ read_by s
  read-same none = read-more ∙ ap (λ x. read_by s ++ x) none ∙ append-nil (read_by s)

  -- what was read before the last piece
  pub before-last : concat (but_last t.pieces) ≡ read_by s
  before-last = ap (λ ps. concat (but_last ps)) read.pieces ∙ ap concat (but_last-push s.pieces piece)

  -- reads so far and one more
  pub given-more : {r0 : Watched R} → HasGiven remaining r0 r s.pieces 0 → HasGiven remaining r0 r1 t.pieces failed
  given-more {r0} g = subst (λ ps. HasGiven remaining r0 r1 ps failed) (sym read.pieces) (given-push g read.read)

  -- the search is placed after the read
  pub placed-after : (at : ℕ) → IsAtCut s at → IsOnCourse t → CanBeCounted (read_by t) → IsPlaced t at
  placed-after at place course countable =
      let from : t.from ≤ cut_of s = read.from in
      let is : at ≡ cut_of s = place.cut in
      let last : t.last ≡ s.last = read.last in
      let there : t.at ≡ s.at = read.at in
      let keep : max (longest t.built.dictionary.patterns) 1 ≡ max (longest s.built.dictionary.patterns) 1 =
      ap (λ b. max (longest b.dictionary.patterns) 1) read.built in
      record {
        course = course;
        countable = countable;
        held = omega arith;
        cut = omega arith;
        lies = λ e. subst (λ c. LieInOrder (length c.dictionary.patterns) at 0 t.given) (sym read.built)
            (subst (LieInOrder (length s.built.dictionary.patterns) at 0) (sym read.given) (place.placed.lies e));
      }

-- no piece that was read is longer than the buffer
pub pieces-fit : {q : Sequence} (b : Built) {t : StreamProgress q} → t.built ≡ b → IsOnCourse t
    → AllFit (room_of q b) t.pieces
pieces-fit {q} b {t} built course = subst (λ c. AllFit (room_of q c) t.pieces) built course.short

-- ---- what a read returned

-- a piece of positive length isn't empty
pub piece-some : (piece : List ℕ) (n : ℕ) → length piece ≡ n → 0 < n → piece ≢ []
piece-some piece n len some e = let none = ap length e in absurd (omega arith)

-- a piece of length zero is empty
pub piece-none : (piece : List ℕ) (n : ℕ) → length piece ≡ n → n ≤ 0 → piece ≡ []
piece-none [] n len none = refl
piece-none (b ∷ bs) n len none = absurd (omega arith)

-- after each read of some bytes, fewer places are left to count
pub less-left : {q : Sequence} (s t u : StreamProgress q) (piece : List ℕ) → t.pieces ≡ s.pieces ++ piece ∷ []
    → u.pieces ≡ t.pieces → piece ≢ [] → CanBeCounted (read_by t)
    → 18446744073709551616 - length (read_by u) < 18446744073709551616 - length (read_by s)
less-left s t u [] more same some countable = absurd (some refl)
less-left s t u (b ∷ bs) more same some countable =
    let joined = ap length (ap concat more ∙ concat-push s.pieces (b ∷ bs)) ∙ length-append (read_by s) (b ∷ bs) in
    let kept : length (read_by u) ≡ length (read_by t) = ap (λ ps. length (concat ps)) same in
    omega arith

-- ---- the end

-- a closed search decides all matches of what was read
pub each-closed : (kind : MatchKind) (closed : Bool) → closed ≡ may_wait kind → (kind ≡ Standard) ⊎ (closed ≡ true)
each-closed Standard closed is = inl refl
each-closed LeftmostFirst closed is = inr is
each-closed LeftmostLongest closed is = inr is

-- it decides all items
pub each-decided : (q : Sequence) (m : Dictionary) (closed : Bool) → closed ≡ waits_for q m
    → IsPrompt q m ⊎ (closed ≡ true)
each-decided Picks m closed is = each-closed m.kind closed is
each-decided Occurrences m closed is = each-closed m.kind closed is
each-decided Words m closed is = inr is
each-decided AllWords m closed is = inr is

-- once it is closed, a search has returned all items of what was read
pub given-closed : {q : Sequence} (t v u : StreamProgress q) → v ≡ closed_by t → ReadsNothing v u → AreAllGiven u
    → u.given ≡ items_of q u.built.dictionary (read_by u)
given-closed {q} t v u is same all =
    let built : u.built ≡ t.built = same.built ∙ ap (λ p. p.built) is in
    let closed : u.closed ≡ waits_for q u.built.dictionary = same.closed ∙ ap (λ p. p.closed) is
    ∙ ap (λ b. waits_for q b.dictionary) (sym built) in
    all.all (each-decided q u.built.dictionary u.closed closed)
