-- How a caller collects the matches, or the whole words, of a search whose pieces it pushes.
use Rattle.std.proofs.Common.{◌≡◌, inr, ℕ, false, ◌+◌, ◌-◌, ◌<◌, ◌≤◌, List, [], ◌∷◌, ◌++◌, length, map, get_or, Bor, zero, suc, take, drop, Some, None, sym, ap, ◌∙◌, subst, arith, append_assoc, append-nil, take-append-drop}
use Rattle.std.specs.List.{concat}
use Rattle.ac_input.specs.Occurrence.{Occurrence}
use Rattle.ac_automaton.specs.Automaton.{Built}
use Rattle.ac_automaton.specs.InMemory.Replace.{matches_in}
use Rattle.ac_automaton.specs.Stream.{CanBeCounted, EachIsDecided, FindsHeld, Sequence, StreamProgress, Words, closed_by, items_of, may_wait, place_of, read_by, Picks}
use Rattle.ac_automaton.specs.Stream.Push.{TakesBytes}
use Rattle.ac_automaton.proofs.stream.PlacedLemmas.{each-closed}
use Rattle.example_callers.specs.Pushed.{HasGathered, IsGathered, IsSame, WentOn}

-- a part of the piece was pushed and its items collected, and `rest` is still to be pushed
pub record Pushing {q : Sequence} (s t : StreamProgress q) (piece rest : List ℕ) (found : List Occurrence) : Type 0 where
  pub gathered : IsGathered t found
  pub built : t.built ≡ s.built
  pub closed : t.closed ≡ s.closed
  pub left : read_by t ++ rest ≡ read_by s ++ piece

-- this text was pushed to a search by this automaton, and its items were collected
pub record IsPushedTo {q : Sequence} (b : Built) (text : List ℕ) (s : StreamProgress q) (found : List Occurrence) : Type 0 where
  pub gathered : IsGathered s found
  pub built : s.built ≡ b
  pub open_ : s.closed ≡ false
  pub read : read_by s ≡ text

-- one more item was returned
pub same-more : {q : Sequence} (s t u : StreamProgress q) (found : List Occurrence) (o : Occurrence) → IsSame s t found
    → FindsHeld t (Some o) u → IsSame s u (found ++ o ∷ [])
same-more s t u found o same finds = record {
  built = finds.0.built ∙ same.built;
  closed = finds.0.closed ∙ same.closed;
  read = ap concat finds.0.pieces ∙ same.read;
  given = ap (λ os. os ++ o ∷ []) same.given ∙ sym finds.1;
}

-- fewer bytes are left to search after one more item, if its sequence goes on by where it starts
smaller-on : {q : Sequence} (t u : StreamProgress q) (o : Occurrence) → place_of q o ≤ o.start → FindsHeld t (Some o) u
    → length (read_by u) - u.last < length (read_by t) - t.last
smaller-on t u o starts finds =
    let long : length (read_by u) ≡ length (read_by t) = ap (λ ps. length (concat ps)) finds.0.pieces in
    let last : u.last ≡ o.end = finds.2 in
    let within : o.end ≤ length (read_by t) = finds.4.within in
    let some : o.start < o.end = finds.4.some in
    let behind = finds.4.behind in
    omega (arith, long, last, within, some, behind, starts)

-- after one more match
pub same-smaller : (t u : StreamProgress Picks) (o : Occurrence) → FindsHeld t (Some o) u
    → length (read_by u) - u.last < length (read_by t) - t.last
same-smaller t u o finds = smaller-on t u o (omega arith) finds

-- after one more word
pub word-smaller : (t u : StreamProgress Words) (o : Occurrence) → FindsHeld t (Some o) u
    → length (read_by u) - u.last < length (read_by t) - t.last
word-smaller t u o finds = smaller-on t u o (omega arith) finds

-- if no item is left, all decided items were collected
pub same-all : {q : Sequence} (s t u : StreamProgress q) (found : List Occurrence) → CanBeCounted (read_by s) → IsSame s t found
    → FindsHeld t None u → HasGathered s u found
same-all s t u found few same finds = (
  record {
    built = finds.0.built ∙ same.built;
    closed = finds.0.closed ∙ same.closed;
    read = ap concat finds.0.pieces ∙ same.read;
    given = same.given ∙ sym finds.1;
  },
  finds.2 (subst CanBeCounted (sym same.read) few),
)

-- n more bytes of the piece were pushed, and their items collected
pub pushing-more : {q : Sequence} (s t u v : StreamProgress q) (piece rest : List ℕ) (n : ℕ) (found all : List Occurrence)
    → Pushing s t piece rest found → TakesBytes t u (take n rest) → CanBeCounted (read_by u) → HasGathered u v all
    → Pushing s v piece (drop n rest) all
pushing-more s t u v piece rest n found all is took few more =
    let read : read_by v ≡ read_by u = more.0.read in
    record {
      gathered = record { few = subst CanBeCounted (sym read) few; searched = more.1.searched; given = more.0.given };
      built = more.0.built ∙ took.built ∙ is.built;
      closed = more.0.closed ∙ took.closed ∙ is.closed;
      left = ap (λ x. x ++ drop n rest) (read ∙ took.read) ∙ append_assoc (read_by t) (take n rest) (drop n rest)
          ∙ ap (λ x. read_by t ++ x) (take-append-drop n rest) ∙ is.left;
    }

-- if nothing of the piece is left to push, all of it was pushed
pub pushing-done : {q : Sequence} (s t : StreamProgress q) (piece rest : List ℕ) (found : List Occurrence)
    → Pushing s t piece rest found → rest ≡ [] → WentOn s t piece
pushing-done s t piece rest found is none =
    record {
      built = is.built;
      closed = is.closed;
      read = sym (append-nil (read_by t)) ∙ ap (λ x. read_by t ++ x) (sym none) ∙ is.left;
    }

-- one more piece was pushed whole
pub pushed-more : {q : Sequence} (b : Built) (text piece : List ℕ) (s t : StreamProgress q) (before found : List Occurrence)
    → IsPushedTo b text s before → IsGathered t found → WentOn s t piece → IsPushedTo b (text ++ piece) t found
pushed-more b text piece s t before found is gathered on = record {
  gathered = gathered;
  built = on.built ∙ is.built;
  open_ = on.closed ∙ is.open_;
  read = on.read ∙ ap (λ x. x ++ piece) is.read;
}

-- the first n + 1 pieces, joined, are the first n with the next one after them
pieces-next : (pieces : List (Bor (List ℕ))) (n : ℕ) (none : Bor (List ℕ)) → n < length pieces
    → concat (map (λ p. p.now) (take (suc n) pieces))
    ≡ concat (map (λ p. p.now) (take n pieces)) ++ (get_or pieces n none).now
pieces-next [] n none lt = absurd (omega arith)
pieces-next (p ∷ ps) zero none lt = append-nil p.now
pieces-next (p ∷ ps) (suc n) none lt =
    ap (λ x. p.now ++ x) (pieces-next ps n none (omega arith))
    ∙ sym (append_assoc p.now (concat (map (λ p. p.now) (take n ps))) (get_or ps n none).now)

-- where all is decided after the end of the pieces, all items of the text were collected
all-pushed : {q : Sequence} (b : Built) (text : List ℕ) (s t u : StreamProgress q) (before found : List Occurrence)
    → IsPushedTo b text s before → t ≡ closed_by s → HasGathered t u found → EachIsDecided u
    → found ≡ items_of q b.dictionary text
all-pushed {q} b text s t u before found is closed more decided =
    let built : u.built ≡ s.built = more.0.built ∙ ap (λ v. v.built) closed in
    let read : read_by u ≡ text = more.0.read ∙ ap read_by closed ∙ is.read in
    more.0.given ∙ more.1.all decided
    ∙ ap (λ (c : Built). items_of q c.dictionary (read_by u)) (built ∙ is.built) ∙ ap (items_of q b.dictionary) read

-- after the end of the pieces, all matches of the text were collected
pub pushed-all : (b : Built) (text : List ℕ) (s t u : StreamProgress Picks) (before found : List Occurrence)
    → IsPushedTo b text s before → t ≡ closed_by s → HasGathered t u found → found ≡ matches_in b text
pushed-all b text s t u before found is closed more =
    let built : u.built ≡ s.built = more.0.built ∙ ap (λ v. v.built) closed in
    let waits : u.closed ≡ may_wait u.built.dictionary.kind = more.0.closed ∙ ap (λ v. v.closed) closed
    ∙ ap (λ c. may_wait c.dictionary.kind) (sym built) in
    all-pushed b text s t u before found is closed more (each-closed u.built.dictionary.kind u.closed waits)

-- after the end of the pieces, all words of the text were collected
pub words-pushed : (b : Built) (text : List ℕ) (s t u : StreamProgress Words) (before found : List Occurrence)
    → IsPushedTo b text s before → t ≡ closed_by s → HasGathered t u found → found ≡ items_of Words b.dictionary text
words-pushed b text s t u before found is closed more =
    all-pushed b text s t u before found is closed more (inr (more.0.closed ∙ ap (λ v. v.closed) closed))
