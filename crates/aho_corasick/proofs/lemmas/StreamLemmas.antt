-- What streams over texts in memory read and write.
use Rattle.std.proofs.Common.{◌≡◌, ℕ, ◌≤◌, false, true, List, [], ◌∷◌, ◌++◌, length, take, Option, Some, None, Result, Ok, Err, inl, inr, refl, sym, ap, ◌∙◌, subst, append_assoc, length-append, arith}
use Rattle.std.specs.Prelude.{slice_range, OnOk}
use Rattle.std.specs.Borrow.{Bor, MutBor}
use Rattle.std.specs.Fn.{Called}
use Rattle.std.specs.Io.KnownBytes.{Appends, Consumes, IsAtEnd}
use Rattle.std.specs.List.{concat}
use Rattle.std.proofs.KnownBytes.{Consumes-whole}
use Rattle.std.proofs.Math.Seq.{take-length}
use Rattle.std.proofs.lemmas.Grind.{common_steps}
use Rattle.std.proofs.lemmas.Bool.{false≢true}
use Rattle.std.proofs.lemmas.List.{append-nil, append_cancel_left}
use Rattle.std.proofs.lemmas.List.Folds.{concat-append}
use Rattle.ac_input.specs.Number.{usize_max}
use Rattle.ac_input.specs.declared.search.Anchored.{Anchored}
use Rattle.ac_input.specs.declared.steps.Steps.{Steps}
use Rattle.ac_input.specs.Occurrence.{Occurrence}
use Rattle.ac_automaton.specs.Automaton.{Built}
use Rattle.ac_automaton.specs.Stream.Devices.Moved.{AreFilled}
use Rattle.ac_automaton.specs.InMemory.Replace.{LieInOrder, matches_in, Replacer}
use Rattle.ac_automaton.specs.Stream.{Picks, Sequence, StreamProgress, fresh_progress, items_of, read_by}
use Rattle.ac_automaton.specs.Stream.Iter.{HasGained, NextGives}
use Rattle.ac_automaton.specs.Stream.Pump.{IsSinkChain, Pumps}
use Rattle.ac_automaton.specs.Stream.Replace.{CostsStream, IsStreamCost, ReplacesStream, replaced_in}
use Rattle.ac_automaton.specs.Stream.ReplaceWith.{ReplacesStreamWith, calling}
use Rattle.ac_automaton.specs.declared.stream.replace_with.Calling.{Calling}
use Rattle.ac_automaton.specs.declared.error.StreamError.{StreamError}
use Rattle.ac_automaton.specs.declared.stream.devices.watched.Watched.{Watched}
use Rattle.ac_automaton.proofs.lemmas.CursorLemmas.{slice_range-split}
use Rattle.ac_automaton.proofs.stream.devices.MovedLemmas.{turns-filled}
use Rattle.ac_automaton.proofs.lemmas.ReplaceLemmas.{matches-lie}
use Rattle.aho_corasick.specs.declared.ahocorasick.AhoCorasick.{AhoCorasick}
use Rattle.aho_corasick.specs.AhoCorasick.{as_built}
use Rattle.aho_corasick.specs.Streamed.{IsStreamReplaced}

-- ---- texts that are read to their end

-- if nothing of a text is left, all of it was read
pub consumed-whole : (old new : Option (List ℕ)) (text bytes : List ℕ) → old ≡ Some text → Consumes old new bytes
    → IsAtEnd new → text ≡ bytes
consumed-whole old new text bytes is consumes ended =
    by new (subst (λ known. Consumes known new bytes) is consumes) ended
  where
    by : (left : Option (List ℕ)) → Consumes (Some text) left bytes → IsAtEnd left → text ≡ bytes
    by None consumes ended = absurd consumes
    by (Some rest) consumes ended = consumes ∙ ap (λ t. bytes ++ t) ended ∙ append-nil bytes

-- what was read of a text and what is left of it still make up the text after more reads
stream-read : {R : Type 0} {q : Sequence} (rest : R → List ℕ) (text : List ℕ) (s t : StreamProgress q)
    (before after : Watched R) (gained : List (List ℕ)) (failed : ℕ) → text ≡ read_by s ++ rest before.inner
    → HasGained (λ r. Some (rest r)) s t before after gained failed → text ≡ read_by t ++ rest after.inner
stream-read rest text s t before after gained failed is gains =
    is
    ∙ ap (λ u. read_by s ++ u) gains.read.device
    ∙ sym (append_assoc (read_by s) (concat gained) (rest after.inner))
    ∙ ap (λ u. u ++ rest after.inner) (sym (ap concat gains.pieces ∙ concat-append s.pieces gained))

-- if two lists joined are empty, the second one is empty
append-none : (xs ys : List ℕ) → xs ++ ys ≡ [] → ys ≡ []
append-none [] ys none = none
append-none (x ∷ xs) ys none = absurd (let e : x ∷ (xs ++ ys) ≡ [] = none in cc)

-- Where a search of a text stands: what it has read, and what it has returned. If the reader has ended, the search was
-- told that no more comes, and nothing is left.
pub record HasFound {R : Type 0} {q : Sequence} (rest : R → List ℕ) (b : Built) (text : List ℕ) (s : StreamProgress q)
    (reader : Watched R) (found : List Occurrence) : Type 0 where
  pub built : s.built ≡ b
  pub closed : reader.ended ≡ true → s.closed ≡ true
  pub over : s.closed ≡ true → rest reader.inner ≡ []
  pub read : text ≡ read_by s ++ rest reader.inner
  pub given : found ≡ s.given

-- before the first read, a search has returned nothing
pub found-fresh : {R : Type 0} {q : Sequence} (rest : R → List ℕ) (b : Built) (text : List ℕ) (s : StreamProgress q)
    (reader : Watched R) → s ≡ fresh_progress b → reader.ended ≡ false → rest reader.inner ≡ text
    → HasFound rest b text s reader []
found-fresh rest b text s reader fresh open_ is =
    subst (λ t. HasFound rest b text t reader []) (sym fresh) (record {
      built = refl;
      closed = λ ended. absurd (false≢true (sym open_ ∙ ended));
      over = λ closed. absurd (false≢true closed);
      read = sym is;
      given = refl;
    })

-- a search that returned another item has returned this one after those before
pub found-more : {R : Type 0} {q : Sequence} (rest : R → List ℕ) (b : Built) (text : List ℕ) (s t : StreamProgress q)
    (before after : Watched R) (found more : List Occurrence) (o : Occurrence) → HasFound rest b text s before found
    → NextGives (λ r. Some (rest r)) s t before after (Some (Ok o)) → more ≡ found ++ o ∷ []
    → HasFound rest b text t after more
found-more {R} rest b text s t before after found more o has gives is =
    record {
      built = gives.has.built ∙ has.built;
      closed = closed;
      over = over;
      read = stream-read rest text s t before after gives.gained 0 has.read gives.has;
      given = is ∙ ap (λ os. os ++ o ∷ []) has.given ∙ sym gives.given;
    }
  where
    closed : after.ended ≡ true → t.closed ≡ true
    closed ended = elim gives.read [
      | inl (filled, same) ↦ same ∙ has.closed (sym (turns-filled gives.gained gives.has.read.turns filled) ∙ ended)
      | inr (leftmost, whole, known) ↦ known
    ]

    over : t.closed ≡ true → rest after.inner ≡ []
    over known = elim gives.read [
      | inl (filled, same) ↦
          let none : rest before.inner ≡ [] = has.over (sym same ∙ known) in
          append-none (concat gives.gained) (rest after.inner) (sym gives.has.read.device ∙ none)
      | inr (leftmost, whole, closed) ↦ gives.has.read.at_end refl whole
    ]

-- a search that has no item left has returned all items of the text
pub found-all : {R : Type 0} {q : Sequence} (rest : R → List ℕ) (b : Built) (text : List ℕ) (s t : StreamProgress q)
    (before after : Watched R) (found : List Occurrence) → length text ≤ usize_max → HasFound rest b text s before found
    → NextGives (λ r. Some (rest r)) s t before after None → found ≡ items_of q b.dictionary text
found-all {R} {q} rest b text s t before after found few has gives =
    let read = stream-read rest text s t before after gives.gained 0 has.read gives.has in
    elim gives.read [
      | inl (none, same) ↦
          let still : after.ended ≡ before.ended =
          turns-filled gives.gained gives.has.read.turns (subst AreFilled (sym none) tt) in
          let count = simp length-append at (ap length read) in
          elim gives.stopped [
            | inl (over, all) ↦
                let closed : s.closed ≡ true =
                elim over [ inl ended ↦ has.closed (sym still ∙ ended) | inr known ↦ sym same ∙ known ] in
                let left : rest after.inner ≡ [] =
                append-none (concat gives.gained) (rest after.inner) (sym gives.has.read.device ∙ has.over closed) in
                let whole : text ≡ read_by t = read ∙ ap (λ u. read_by t ++ u) left ∙ append-nil (read_by t) in
                has.given ∙ sym gives.given ∙ all.all (inr (same ∙ closed))
                ∙ ap (λ c. items_of q c.dictionary (read_by t)) (gives.has.built ∙ has.built)
                ∙ ap (items_of q b.dictionary) (sym whole)
            | inr long ↦ absurd (long (omega (arith, count, few)))
          ]
      | inr (whole, all, each, ended) ↦
          let same : text ≡ read_by t = read ∙ ap (λ u. read_by t ++ u) ended ∙ append-nil (read_by t) in
          has.given ∙ sym gives.given ∙ all.all each
          ∙ ap (λ c. items_of q c.dictionary (read_by t)) (gives.has.built ∙ has.built)
          ∙ ap (items_of q b.dictionary) (sym same)
    ]

-- ---- closures that write what matched

-- three parts of a text, joined one after another, are one part
joined-slices : (x old : List ℕ) (at start end to : ℕ) → at ≤ start → start ≤ end → end ≤ to
    → ((old ++ slice_range x at start) ++ slice_range x start end) ++ slice_range x end to ≡ old ++ slice_range x at to
joined-slices x old at start end to first second third =
    append_assoc (old ++ slice_range x at start) (slice_range x start end) (slice_range x end to)
    ∙ append_assoc old (slice_range x at start) (slice_range x start end ++ slice_range x end to)
    ∙ ap (λ t. old ++ (slice_range x at start ++ t)) (sym (slice_range-split x start end to second third))
    ∙ ap (λ t. old ++ t) (sym (slice_range-split x at start to first (omega arith)))

-- if a call of a closure returns Ok, the writer holds what it held before and then the bytes that matched
abbrev pub WritesMatched : {F W : Type 0} → (W → List ℕ) → Replacer F (Watched W) (Result (Unit {0}) StreamError)
    → Type 0
WritesMatched {F} {W} items g =
    (f after : F) (found : Bor Occurrence) (text : Bor (List ℕ)) (dst left : MutBor (Watched W))
    → Called g f (found, (text, (dst, tt))) (Ok tt, (left, tt)) after
    → items left.now.inner ≡ items dst.now.inner ++ text.now

-- if a closure writes what matched, the chain of its calls writes the text unchanged
chain-writes : {F W : Type 0} (items : W → List ℕ) (g : Replacer F (Watched W) (Result (Unit {0}) StreamError))
    (x : List ℕ) (patterns at : ℕ) (os : List Occurrence) (to : ℕ) (z last : Calling F × Watched W)
    → WritesMatched items g
    → LieInOrder patterns to at os → IsSinkChain (calling (λ w. Some (items w)) g) Picks x at os to z last
    → items last.1.inner ≡ items z.1.inner ++ slice_range x at to
chain-writes items g x patterns at [] to z last writes lies chain = chain.1.device
chain-writes items g x patterns at (o ∷ os) to z last writes lies (mid, (before, taken, replies), chain) =
    let said = writes z.0.f mid.0.f replies.found replies.text replies.dst replies.left replies.called in
    let matched : items mid.1.inner ≡ items before.inner ++ slice_range x o.start o.end =
    ap (λ w. items w.inner) (sym replies.leaves) ∙ said
    ∙ ap (λ w. items w.inner ++ replies.text.now) replies.shows.2
    ∙ ap (λ t. items before.inner ++ t) replies.shows.1 in
    let rest = chain-writes items g x patterns o.end os to mid last writes lies.4 chain in
    rest
    ∙ ap (λ t. t ++ slice_range x o.end to) (matched ∙ ap (λ t. t ++ slice_range x o.start o.end) taken.device)
    ∙ joined-slices x (items z.1.inner) at o.start o.end to lies.1 lies.2 lies.3

-- if a closure writes what matched, a replacement that reads a stream to its end writes the text unchanged
whole-writes : {F W R : Type 0} (remaining : R → Option (List ℕ)) (items : W → List ℕ)
    (g : Replacer F (Watched W) (Result (Unit {0}) StreamError)) (b : Built) (text : List ℕ)
    (reader_before reader_after : Watched R) (z last : Calling F × Watched W) → remaining reader_before.inner ≡ Some text
    → WritesMatched items g
    → Pumps (calling (λ w. Some (items w)) g) Picks remaining b reader_before reader_after z last (Ok tt)
    → items last.1.inner ≡ items z.1.inner ++ text
whole-writes remaining items g b text reader_before reader_after z last is writes
    (pieces, failed, given, fit, (none, whole)) =
    let x = concat pieces in
    let read = consumed-whole _ _ text x is given.device (given.at_end none whole.whole) in
    let written = chain-writes items g x (length b.dictionary.patterns) 0 (matches_in b x) (length x) z last writes
    (matches-lie b x) whole.chain in
    let all : slice_range x 0 (length x) ≡ x = let front : slice_range x 0 (length x) ≡ take (length x) x =
    grind (arith, common_steps) in front ∙ take-length x in
    written ∙ ap (λ t. items z.1.inner ++ t) (all ∙ sym read)

pub stream-writes : {F W R : Type 0} (remaining : R → Option (List ℕ)) (items : W → List ℕ)
    (g : Replacer F (Watched W) (Result (Unit {0}) StreamError)) (b : Built)
    (supports : Anchored → Type 0) (f : F) (text : List ℕ) (reader_before reader_after : Watched R)
    (old new : Watched W) (result : Result (Unit {0}) StreamError) → remaining reader_before.inner ≡ Some text
    → WritesMatched items g
    → ReplacesStreamWith (λ w. Some (items w)) g remaining b supports f reader_before reader_after old new result
    → OnOk result (items new.inner ≡ items old.inner ++ text)
stream-writes remaining items g b supports f text reader_before reader_after old new (Ok done) is writes
    (last, before, after, (can, pumps)) =
    whole-writes remaining items g b text reader_before reader_after (record { f = f }, old) (record { f = last }, new)
    is writes pumps.0
stream-writes remaining items g b supports f text reader_before reader_after old new (Err error) is writes
    replaces = tt

-- ---- replacements

-- a replacement that succeeds writes the whole text of the stream, with each match replaced
pub stream-replaces : {W R : Type 0} (remaining : R → Option (List ℕ)) (items : W → List ℕ) (b : Built)
    (replacements : List (List ℕ)) (text : List ℕ) (reader_before reader_after : Watched R) (old new : Watched W)
    (result : Result (Unit {0}) StreamError) → remaining reader_before.inner ≡ Some text
    → ReplacesStream remaining (λ w. Some (items w)) b replacements reader_before reader_after old new result
    → OnOk result (items new.inner ≡ items old.inner ++ replaced_in b replacements text)
stream-replaces remaining items b replacements text reader_before reader_after old new (Ok done) is
    ((m, moved, fit, whole), begun) =
    let read = consumed-whole _ _ text (concat m.pieces) is moved.reader.device
    (moved.reader.at_end whole.failed.0 whole.whole) in
    moved.writer.device ∙ ap (λ t. items old.inner ++ t) (whole.written ∙ ap (replaced_in b replacements) (sym read))
stream-replaces remaining items b replacements text reader_before reader_after old new (Err error) is replaces = tt

-- what a replacement that succeeds costs, by the length of the text and its matches
pub stream-costs : {W R : Type 0} (remaining : R → Option (List ℕ)) (contents : W → Option (List ℕ)) (b : Built)
    (replacements : List (List ℕ)) (text : List ℕ) (reader_before reader_after : Watched R) (old new : Watched W)
    (before after : Steps) (result : Result (Unit {0}) StreamError) → remaining reader_before.inner ≡ Some text
    → ReplacesStream remaining contents b replacements reader_before reader_after old new result
    → CostsStream b reader_before reader_after before after result
    → OnOk result (IsStreamCost Picks b (length text) (length (matches_in b text)) before after)
stream-costs remaining contents b replacements text reader_before reader_after old new before after (Ok done) is
    ((m, moved, fit, whole), begun) ((pieces, read, cost, all), unread) =
    let same : pieces ≡ m.pieces =
    append_cancel_left reader_before.pieces.items pieces m.pieces (sym read ∙ moved.reader.pieces) in
    let text_read : text ≡ concat pieces = consumed-whole _ _ text (concat m.pieces) is moved.reader.device
    (moved.reader.at_end whole.failed.0 whole.whole) ∙ ap concat (sym same) in
    subst (λ x. IsStreamCost Picks b (length x) (length (matches_in b x)) before after) (sym text_read) cost
stream-costs remaining contents b replacements text reader_before reader_after old new before after (Err error) is
    replaces costs = tt

-- if a replacement succeeds, reads returned all that the device had left, and the writer took it with each match
-- replaced
pub stream-replaced : {R W : Type 0} (remaining : R → Option (List ℕ)) (contents : W → Option (List ℕ))
    (ac : AhoCorasick) (replacements : List (List ℕ)) (reader_before reader_after : Watched R)
    (writer_before writer_after : Watched W) (result : Result (Unit {0}) StreamError)
    → ReplacesStream remaining contents (as_built ac) replacements reader_before reader_after writer_before writer_after
    result → OnOk result
    (IsStreamReplaced remaining contents ac replacements reader_before reader_after writer_before writer_after)
stream-replaced remaining contents ac replacements reader_before reader_after writer_before writer_after (Ok done)
    ((m, moved, fit, whole), begun) =
    record {
      pieces = m.pieces;
      read = moved.reader.pieces;
      whole = Consumes-whole (remaining reader_before.inner) (remaining reader_after.inner) (concat m.pieces)
          (λ text. text ≡ concat m.pieces) moved.reader.device (moved.reader.at_end whole.failed.0 whole.whole) refl;
      taken = moved.writer.taken ∙ ap (λ bytes. writer_before.taken.bytes ++ bytes) whole.written;
      device =
          subst (Appends (contents writer_before.inner) (contents writer_after.inner)) whole.written
          moved.writer.device;
    }
stream-replaced remaining contents ac replacements reader_before reader_after writer_before writer_after (Err error)
    replaces = tt
