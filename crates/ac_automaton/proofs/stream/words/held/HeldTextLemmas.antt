-- What is kept of a text stays right after a read and a push.
use Rattle.std.proofs.Common.{◌≡◌, inl, ℕ, ◌+◌, ◌-◌, ◌*◌, ◌<◌, ◌≤◌, nat_lt, Bool, true, false, List, [], ◌∷◌, ◌++◌, length, drop, take, Option, slice_range, sym, ap, subst, refl, ◌∙◌, arith, append-nil, length-append, length-drop}
use Rattle.std.specs.List.{concat}
use Rattle.std.proofs.lemmas.List.{drop-append-le, drop-drop, length-take-le}
use Rattle.std.proofs.lemmas.List.Folds.{concat-append}
use Rattle.ac_input.specs.Number.{usize_max}
use Rattle.ac_automaton.specs.Stream.{CanBeCounted}
use Rattle.ac_automaton.specs.Stream.Devices.Buffer.{Filled, Held, IsRollPaid, room_for}
use Rattle.ac_automaton.specs.Stream.WholeWords.Held.{AddsFront, Grows, IsTextHeld, TextRead, text_come}
use Rattle.ac_automaton.specs.declared.stream.devices.watched.Watched.{Watched}
use Rattle.ac_automaton.specs.declared.stream.words.held.HeldText.TheInside.{Inside}
use Rattle.ac_automaton.proofs.stream.StreamPushLemmas.{HasTaken, taken-grown}
use Rattle.ac_automaton.proofs.stream.StreamSearchLemmas.{IsGrown, over-test, piece-behind}

-- all bytes after a piece was added
pub text-read : (pieces : List (List ℕ)) (piece : List ℕ) → concat (pieces ++ piece ∷ []) ≡ concat pieces ++ piece
text-read pieces piece = concat-append pieces (piece ∷ []) ∙ ap (λ l. concat pieces ++ l) (append-nil piece)

-- the text, from what is kept of it
abbrev pub come_to : Inside → TextRead
come_to i = text_come i.pieces.items i.given.value i.closed i.from i.buffer i.sums

-- what is kept of it is right
abbrev pub IsRight : Inside → Type 0
IsRight i = IsTextHeld (come_to i) i.buffer i.over

-- what is kept of it after a piece was added
abbrev pub grown_to : Inside → List (List ℕ) → Held → Bool → Inside
grown_to i all new over = record i { pieces = record i.pieces { items = all }; buffer = new; over = over }

module _ (i : Inside) (is : IsRight i) where
  -- the bytes that were read
  abbrev text : List ℕ
  text = concat i.pieces.items

  -- a seventh of them was moved at most
  moved-seventh : 7 * i.buffer.moved ≤ length text
  moved-seventh = let paid = is.paid.paid in omega (arith, paid, is.read)

  -- how many are held
  pub held-count : length i.buffer.bytes + i.from ≡ length text
  held-count = let long = ap length is.bytes in omega (arith, long, length-drop i.from text, is.within)

  -- ---- after a piece was added

  -- how many bytes are held then
  grown-long : {new : Held} {piece : List ℕ} → IsGrown i.buffer new piece
      → length new.bytes + i.from ≡ length (text ++ piece)
  grown-long {piece = piece} grown =
      let bytes = ap length grown.bytes in
      let joined = length-append i.buffer.bytes piece in
      let both = length-append text piece in
      let held = held-count in
      omega (arith, bytes, joined, both, held)

  -- what is kept is right, and the piece was added
  grown-right : (all : List (List ℕ)) {new : Held} (over : Bool) (piece : List ℕ) → IsGrown i.buffer new piece
      → all ≡ i.pieces.items ++ piece ∷ []
      → (over ≡ false → CanBeCounted (text ++ piece)) × (over ≡ true → ¬ CanBeCounted (text ++ piece))
      → IsRight (grown_to i all new over) × Grows i.from (come_to i) (come_to (grown_to i all new over)) piece
  grown-right all {new} over piece grown more test =
      let read : concat all ≡ text ++ piece = ap concat more ∙ text-read i.pieces.items piece in
      let longer = ap length read in
      let long = grown-long grown in
      let both = length-append text piece in
      let bytes = ap length grown.bytes in
      let joined = length-append i.buffer.bytes piece in
      let keep : new.keep ≡ i.buffer.keep = grown.keep in
      let room : new.room ≡ room_for i.buffer.keep = grown.paid.room ∙ ap room_for grown.keep in
      let within = grown.paid.within in (
        record {
          within = omega (arith, longer, both, is.within);
          bytes = grown.bytes ∙ ap (λ l. l ++ piece) is.bytes ∙ sym (drop-append-le i.from text piece is.within)
              ∙ ap (drop i.from) (sym read);
          read = grown.read ∙ ap (λ n. n + length piece) is.read ∙ sym (length-append text piece) ∙ ap length (sym read);
          paid = grown.paid;
          countable = λ e. subst CanBeCounted (sym read) (test.0 e);
          uncountable = λ e. subst (λ l. ¬ CanBeCounted l) (sym read) (test.1 e);
        },
        record {
          pieces = more;
          same = λ j. record (come_to i) { pieces = all; keep = keep j; moved = new.moved };
          from = inl refl;
          seventh = let seven = moved-seventh in omega (arith, seven, grown.moved);
          short = omega (arith, bytes, joined, within, room);
          room = omega (arith, longer, long, within, room);
        },
      )

  -- the test for more bytes than places, after a piece was added
  grown-test : {new : Held} {piece : List ℕ} (held : List ℕ) → IsGrown i.buffer new piece → held ≡ new.bytes
      → i.from ≤ usize_max
      → (nat_lt (usize_max - i.from) (length held) ≡ false → CanBeCounted (text ++ piece))
      × (nat_lt (usize_max - i.from) (length held) ≡ true → ¬ CanBeCounted (text ++ piece))
  grown-test {piece = piece} held grown holds fits =
      over-test i.from (length held) (length (text ++ piece)) fits (ap (λ l. length l + i.from) holds ∙ grown-long grown)

  -- a failed read added an empty piece
  pub fill-failed : (all : List (List ℕ)) {new : Held} → new ≡ i.buffer → IsRollPaid new
      → all ≡ i.pieces.items ++ [] ∷ []
      → IsRight (grown_to i all new i.over) × Grows i.from (come_to i) (come_to (grown_to i all new i.over)) []
  fill-failed all {new} same paid more =
      let none = append-nil text in
      grown-right all i.over []
      (record {
        bytes = ap (λ (h : Held). h.bytes) same ∙ sym (append-nil i.buffer.bytes);
        read = let e = ap (λ (h : Held). h.read) same in omega (arith, e);
        keep = ap (λ (h : Held). h.keep) same;
        moved = ap (λ (h : Held). h.moved) same;
        paid = paid;
      }) more (
        λ e. subst CanBeCounted (sym none) (is.countable e),
        λ e. subst (λ l. ¬ CanBeCounted l) (sym none) (is.uncountable e),
      )

  -- a read of some bytes added these
  pub fill-gave : {R : Type 0} {remaining : R → Option (List ℕ)} {before after : Watched R} (all : List (List ℕ))
      {new : Held} {n : ℕ} (held : List ℕ) → (gave : Filled remaining i.buffer new before after n) → IsRollPaid new
      → held ≡ new.bytes → all ≡ i.pieces.items ++ drop (length held - n) held ∷ [] → i.from ≤ usize_max
      → IsRight (grown_to i all new (nat_lt (usize_max - i.from) (length held)))
      × Grows i.from (come_to i) (come_to (grown_to i all new (nat_lt (usize_max - i.from) (length held)))) gave.piece
  fill-gave all {new} {n} held gave paid holds more fits =
      let grown : IsGrown i.buffer new gave.piece = record {
        bytes = ap (λ (h : Held). h.bytes) gave.held;
        read = ap (λ (h : Held). h.read) gave.held ∙ ap (λ k. i.buffer.read + k) (sym gave.count);
        keep = ap (λ (h : Held). h.keep) gave.held;
        moved = ap (λ (h : Held). h.moved) gave.held;
        paid = paid;
      } in
      let last = piece-behind held i.buffer.bytes gave.piece n (holds ∙ grown.bytes) gave.count in
      grown-right all (nat_lt (usize_max - i.from) (length held)) gave.piece grown
      (more ∙ ap (λ l. i.pieces.items ++ l ∷ []) last) (grown-test held grown holds fits)

  -- a push added the first bytes of a piece, up to the room in the buffer
  pub push-gave : (all : List (List ℕ)) {new : Held} {piece : List ℕ} {n : ℕ} (held : List ℕ) → 0 < length piece
      → length text < i.from + room_for i.buffer.keep → HasTaken i.buffer new piece n → held ≡ new.bytes
      → all ≡ i.pieces.items ++ take n piece ∷ [] → i.from ≤ usize_max
      → IsRight (grown_to i all new (nat_lt (usize_max - i.from) (length held)))
      × AddsFront i.from (come_to i) (come_to (grown_to i all new (nat_lt (usize_max - i.from) (length held)))) piece n
  push-gave all {new} {piece} {n} held some room took holds more fits =
      let many = took.many in
      let long = held-count in
      let roomy_ = is.paid.room in
      let within : n ≤ length piece = omega (arith, many) in
      let count : length (take n piece) ≡ n = length-take-le n piece within in
      let grown = taken-grown took in
      let right = grown-right all (nat_lt (usize_max - i.from) (length held)) (take n piece) grown more
      (grown-test held grown holds fits) in
      let longer = ap length (ap concat more ∙ text-read i.pieces.items (take n piece)) in
      let both = length-append text (take n piece) in (
        right.0,
        record {
          grows = right.1;
          within = within;
          some = omega (arith, many, some, room, long, roomy_);
          full = λ lt. omega (arith, many, lt, room, long, roomy_, longer, both, count);
        },
      )

-- the bytes between two places, from those that are held from a place on
pub held-between : (x held : List ℕ) (first from start end : ℕ) → first ≡ from → held ≡ drop from x → from ≤ start
    → start ≤ end → take (end - first - (start - first)) (drop (start - first) held) ≡ slice_range x start end
held-between x held first from start end is holds behind order =
    let count : end - first - (start - first) ≡ end - start = omega (arith, is, behind, order) in
    let there : from + (start - first) ≡ start = omega (arith, is, behind) in
    let rest : drop (start - first) held ≡ drop start x =
    ap (drop (start - first)) holds ∙ drop-drop (start - first) from x ∙ ap (λ n. drop n x) there in
    ap (λ n. take n (drop (start - first) held)) count ∙ ap (take (end - start)) rest
