-- What a masking of the whole words of a stream has written between two reads, and what one read more brings.
use Rattle.std.proofs.Common.{◌≡◌, ◌≢◌, inl, inr, ⊎_elim, ℕ, ◌+◌, ◌-◌, ◌*◌, ◌<◌, ◌≤◌, max, Bool, true, false, List, [], ◌∷◌, ◌++◌, length, take, drop, slice_range, Option, Result, Ok, Err, refl, sym, ap, subst, ◌∙◌, arith, append-nil, append_assoc, length-append, take-append-drop}
use Rattle.std.specs.List.{concat}
use Rattle.std.specs.Prelude.{OnOk}
use Rattle.std.proofs.lemmas.Bool.{cases_lt}
use Rattle.std.proofs.lemmas.List.{take_all}
use Rattle.std.proofs.lemmas.List.Elements.{All-push}
use Rattle.ac_input.specs.Number.{StateID}
use Rattle.ac_input.specs.declared.search.Anchored.TheVariants.{No}
use Rattle.ac_input.specs.declared.steps.Steps.{Steps}
use Rattle.ac_input.specs.Dictionary.{Dictionary, IsLive, live_len, whole}
use Rattle.ac_input.specs.Laws.BeginningLaws.{IsBeginning}
use Rattle.ac_input.specs.Laws.WordLaws.{AreWordsFinalBefore}
use Rattle.ac_input.specs.Occurrence.{Occurrence, Occurs}
use Rattle.ac_input.specs.Word.{OccursWhole}
use Rattle.ac_input.specs.Work.{IsLookups, longest, lookups_per_byte, shortest}
use Rattle.ac_input.proofs.lemmas.BeginningLemmas.{slice_range-append}
use Rattle.ac_input.proofs.lemmas.LiveLemmas.{occurs-append, occurs-front}
use Rattle.ac_input.proofs.lemmas.MaskLemmas.{final-before_live}
use Rattle.ac_input.proofs.lemmas.SomeLemmas.{live-some}
use Rattle.ac_input.proofs.lemmas.StateLemmas.{new-behind}
use Rattle.ac_input.proofs.lemmas.UnusedLemmas.{occurs-some}
use Rattle.ac_input.proofs.lemmas.WordLemmas.{word-mask_final, words-final_before_last}
use Rattle.ac_automaton.specs.Automaton.{Built}
use Rattle.ac_automaton.specs.Masking.Words.{CostsReading, IsMaskPlace, MasksKnown, known_to, masked_words_in}
use Rattle.ac_automaton.specs.Masking.Words.Stream.{AreAlike, CostsMaskWordsStream, CountsMoves, HasMadeRoomFor, IsMaskerRolled, IsWordMaskCut, IsWordMasker, fresh_word_masker, word_mask_room, words_grown}
use Rattle.ac_automaton.specs.Stream.{CanBeCounted, NothingIsLive}
use Rattle.ac_automaton.specs.Stream.Devices.Moved.{AllFit, AreFilled, HasGiven, HasTaken}
use Rattle.ac_automaton.specs.Stream.Mask.{CutsAfter}
use Rattle.ac_automaton.specs.declared.automaton.Automaton.{Ghosts}
use Rattle.ac_automaton.specs.declared.error.StreamError.{StreamError}
use Rattle.ac_automaton.specs.declared.masking.words.MaskPlace.{MaskPlace}
use Rattle.ac_automaton.specs.declared.stream.devices.watched.Watched.{Watched}
use Rattle.ac_automaton.specs.declared.stream.mask.words.WordMasker.{WordMasker}
use Rattle.ac_automaton.proofs.masking.MaskingLemmas.{live-none, looks-cost}
use Rattle.ac_automaton.proofs.masking.words.CostLemmas.{costs-none, costs-then}
use Rattle.ac_automaton.proofs.masking.words.WordMaskLemmas.{begins-masking}
use Rattle.ac_automaton.proofs.stream.StreamMaskEndLemmas.{front-and}
use Rattle.ac_automaton.proofs.stream.devices.MovedLemmas.{AreFilled-push, given-none, given-push, still-open, taken-none, taken-then}
use Rattle.ac_automaton.proofs.stream.mask.words.WordMaskerLemmas.{masker-grown, masker-masked, masker-out, masker-rolled, shows-part}
use Rattle.ac_automaton.proofs.stream.mask.words.WritingLemmas.{concat-push}

-- ---- where the words are final

-- where the words of a text are final, they are so however it goes on
pub words-longer : (m : Dictionary) (x piece : List ℕ) (cut : ℕ) → AreWordsFinalBefore m x cut
    → AreWordsFinalBefore m (x ++ piece) cut
words-longer m x piece cut final =
    let le = final.0 in
    let both = length-append x piece in (
      omega arith,
      λ more o h before.
          let ends = final.1 (piece ++ more) o (subst (λ l. Occurs (whole m l false) o) (append_assoc x piece more) h)
          before in
          omega arith,
    )

-- where nothing of a text is live, nothing ends at its end
nothing-ends : (m : Dictionary) (x : List ℕ) → 1 ≤ shortest m.patterns → NothingIsLive m x → (o : Occurrence)
    → Occurs (whole m x false) o → ¬ (o.end ≡ length x)
nothing-ends m x filled live o occurs ends =
    let after = new-behind false [] live (subst (λ l. Occurs (whole m l false) o) (sym (append-nil x)) occurs)
    (omega (arith, ends)) in
    let bytes = occurs-some {s = whole m x false} {o = o} (omega arith) filled occurs in
    omega (arith, after, bytes, ends)

-- where nothing is live and nothing ends at the end of a text, all its words are final
words-idle : (m : Dictionary) (x : List ℕ) → NothingIsLive m x
    → ((o : Occurrence) → Occurs (whole m x false) o → ¬ (o.end ≡ length x)) → AreWordsFinalBefore m x (length x)
words-idle m x live none = (
  omega arith,
  λ more o h before.
      let le = (final-before_live m x (length x) live).1 more o h before in
      ⊎_elim
      (λ (lt : o.end < length x). lt)
      (λ (there : length x ≤ o.end). absurd (none o (occurs-front m more le h) (omega arith)))
      (cases_lt o.end (length x)),
)

-- the place up to which all may be written is right
pub word-cut : {S : Type 0} (A : Ghosts S) (a : S) (x : List ℕ) (sid : StateID) {out keep place : ℕ}
    → A.Reaches a No x sid → keep ≡ longest (A.built a).dictionary.patterns + 1
    → AreWordsFinalBefore (A.built a).dictionary x out
    → 1 ≤ shortest (A.built a).dictionary.patterns → CutsAfter A a sid out keep (length x) place
    → (out ≤ place) × IsWordMaskCut (A.built a).dictionary x place
word-cut A a x sid {out} {keep} {place} reads long final filled cuts =
    let m = (A.built a).dictionary in
    let le = final.0 in
    ⊎_elim
    (λ (idle : NothingIsLive m x × (place ≡ length x)).
    let there = idle.1 in (
      omega arith,
      subst (IsWordMaskCut m x) (sym there)
          (record { final = words-idle m x idle.0 (nothing-ends m x filled idle.0); near = omega arith; all = λ same. refl }),
    ))
    (λ (waits : ¬ NothingIsLive m x × (place ≡ max out (length x - (keep - 1)))).
    let there = waits.1 in (
      omega (arith, there),
      record {
        final = ⊎_elim
            (λ (later : out < length x - (keep - 1)).
            words-final_before_last m x place (omega (arith, there, later, long)))
            (λ (no_later : length x - (keep - 1) ≤ out).
            let same : out ≡ place = omega (arith, there, no_later) in
            subst (AreWordsFinalBefore m x) same final)
            (cases_lt out (length x - (keep - 1)));
        near = omega (arith, there, long);
        all = λ nothing. absurd (waits.0 nothing);
      },
    ))
    (cuts x reads)

-- and so it is where a walk stands at the end of a text
pub word-cut_at : {S : Type 0} (A : Ghosts S) (a : S) (x piece : List ℕ) (p : MaskPlace) {out keep place : ℕ} (first : ℕ)
    → IsMaskPlace (A.Reaches a No) (x ++ piece) p → p.at ≡ length (x ++ piece)
    → keep ≡ longest (A.built a).dictionary.patterns + 1 → IsWordMaskCut (A.built a).dictionary x first → out ≡ first
    → 1 ≤ shortest (A.built a).dictionary.patterns → CutsAfter A a p.sid out keep p.at place
    → (first ≤ place) × IsWordMaskCut (A.built a).dictionary (x ++ piece) place
word-cut_at A a x piece p {out} {keep} {place} first is end long cut same filled cuts =
    let m = (A.built a).dictionary in
    let all : slice_range (x ++ piece) 0 p.at ≡ x ++ piece = take_all (p.at - 0) (x ++ piece) (omega arith) in
    word-cut A a (x ++ piece) p.sid {out = first} (subst (λ l. A.Reaches a No l p.sid) all is.reads) long
    (words-longer m x piece first cut.final) filled
    (subst (λ n. CutsAfter A a p.sid n keep (length (x ++ piece)) place) same
    (subst (λ n. CutsAfter A a p.sid out keep n place) end cuts))

-- ---- costs

-- only the values count
costs-alike : (b : Built) (x : List ℕ) (p q : ℕ) {s t u : Steps} → u.looked.value ≡ t.looked.value
    → u.scanned.value ≡ t.scanned.value → u.moved.value ≡ t.moved.value → CostsReading b x p q s t
    → CostsReading b x p q s u
costs-alike b x p q looked scanned moved cost live live_after g h =
    let run = cost live live_after g h in
    let some = run.some in
    let bound = run.bound in
    record {
      some = omega arith;
      bound = omega arith;
      one = λ d. looked ∙ run.one d;
      scanned = scanned ∙ run.scanned;
      moved = moved ∙ run.moved;
    }

-- what was read of a text was read of a longer one
costs-longer : (b : Built) (x piece : List ℕ) {s t : Steps} → CostsReading b x 0 (length x) s t
    → CostsReading b (x ++ piece) 0 (length x) s t
costs-longer b x piece {s} {t} cost live live_after g h =
    let m = b.dictionary in
    let first = slice_range-append x piece {a = 0} {b = 0} (omega arith) (omega arith) in
    let last = slice_range-append x piece {a = 0} {b = length x} (omega arith) (omega arith) in
    subst (λ l. IsLookups b.deterministic (length x - 0) (live_len l live)
    (live_len (slice_range (x ++ piece) 0 (length x)) live_after) s t) (sym first)
    (subst (λ l. IsLookups b.deterministic (length x - 0) (live_len (slice_range x 0 0) live) (live_len l live_after) s t)
    (sym last)
    (cost live live_after (subst (λ l. IsLive m false l live) first g) (subst (λ l. IsLive m false l live_after) last h)))

-- ---- between two reads

-- All that can be written of a text was written, and what it cost so far.
pub record IsSettled {W : Type 0} (contents : W → Option (List ℕ)) (b : Built) (Reaches : List ℕ → StateID → Type 0)
    (mask : ℕ) (w0 w : Watched W) (x : List ℕ) (s : WordMasker) (before after : Steps) : Type 0 where
  pub is : IsWordMasker b Reaches mask x s
  pub all : s.place.at ≡ length x
  pub cut : IsWordMaskCut b.dictionary x s.out
  pub countable : CanBeCounted x
  pub written : HasTaken contents w0 w (take s.out (masked_words_in b mask x)) 0 0
  pub paid : CostsReading b x 0 (length x) before (record after { moved = before.moved })
  pub moved : after.moved.value ≡ before.moved.value + (s.plain.moved + s.masked.moved)

-- That is so of what was read.
pub record HasWrittenWords {R W : Type 0} (remaining : R → Option (List ℕ)) (contents : W → Option (List ℕ)) (b : Built)
    (Reaches : List ℕ → StateID → Type 0) (mask : ℕ) (r0 r : Watched R) (w0 w : Watched W) (s : WordMasker)
    (before after : Steps) : Type 0 where
  pub pieces : List (List ℕ)
  pub settled : IsSettled contents b Reaches mask w0 w (concat pieces) s before after
  pub filled : AreFilled pieces
  pub short : AllFit (word_mask_room b) pieces
  pub read : HasGiven remaining r0 r pieces 0
  pub more : r.ended ≡ false

-- before the first read
pub written-first : {R W : Type 0} {remaining : R → Option (List ℕ)} {contents : W → Option (List ℕ)} (b : Built)
    (Reaches : List ℕ → StateID → Type 0) (mask : ℕ) (r : Watched R) (w : Watched W) (s : WordMasker) (steps : Steps)
    (start : StateID) → Reaches [] start → s ≡ fresh_word_masker (longest b.dictionary.patterns) start → AreAlike s
    → r.ended ≡ false → HasWrittenWords remaining contents b Reaches mask r r w w s steps steps
written-first {remaining = remaining} {contents} b Reaches mask r w s steps start begins fresh alike open_ =
    record {
      pieces = [];
      settled = subst (λ t. AreAlike t → IsSettled contents b Reaches mask w w [] t steps steps) (sym fresh)
          (λ same. record {
            is = record {
              alike = same;
              keep = refl;
              read = refl;
              within = omega arith;
              shown = refl;
              has = begins-masking b.dictionary Reaches mask [] start begins;
              near = λ some. absurd (omega arith);
              held = omega arith;
            };
            all = refl;
            cut = record {
              final = (omega arith, λ more o h before. absurd (omega arith));
              near = omega arith;
              all = λ nothing. refl;
            };
            countable = omega arith;
            written = taken-none;
            paid = costs-none b [] 0 steps;
            moved = omega arith;
          }) alike;
      filled = tt;
      short = λ k d lt. absurd (omega arith);
      read = given-none;
      more = open_;
    }

-- nothing else changes as room is made
pub rolled-same : {s t : WordMasker} → IsMaskerRolled s t → (t.out ≡ s.out) × (t.place ≡ s.place)
rolled-same (inl same) = (ap (λ u. u.out) same, ap (λ u. u.place) same)
rolled-same (inr full) = (ap (λ u. u.out) full.1, ap (λ u. u.place) full.1)

-- room was made
pub settled-roomy : {W : Type 0} {contents : W → Option (List ℕ)} {b : Built} {Reaches : List ℕ → StateID → Type 0}
    {mask : ℕ} {w0 w : Watched W} {x : List ℕ} {s t : WordMasker} {before mid after : Steps}
    → IsSettled contents b Reaches mask w0 w x s before mid → IsMaskerRolled s t → HasMadeRoomFor t → CountsMoves s t mid after
    → IsSettled contents b Reaches mask w0 w x t before after
settled-roomy {contents = contents} {b} {mask = mask} {w0} {w} {x} {s} {t} settled rolls made counts =
    let same = rolled-same rolls in
    let out = same.0 in
    let was = settled.moved in
    let moves = counts.moved in
    record {
      is = masker-rolled settled.is settled.all settled.cut.near made.alike rolls;
      all = ap (λ p. p.at) same.1 ∙ settled.all;
      cut = subst (IsWordMaskCut b.dictionary x) (sym out) settled.cut;
      countable = settled.countable;
      written = subst (λ n. HasTaken contents w0 w (take n (masked_words_in b mask x)) 0 0) (sym out) settled.written;
      paid = costs-alike b x 0 (length x) counts.looked counts.scanned refl settled.paid;
      moved = omega arith;
    }

-- ---- one read more

module _ {W : Type 0} (contents : W → Option (List ℕ)) (b : Built) (Reaches : List ℕ → StateID → Type 0) (mask : ℕ)
    {w0 w : Watched W} {x : List ℕ} {s : WordMasker} {before mid : Steps}
    (settled : IsSettled contents b Reaches mask w0 w x s before mid) (piece : List ℕ) (t : WordMasker)
    (grown : t ≡ words_grown s piece) (alike : AreAlike t) where
  -- what it keeps is right
  pub piece-came : IsWordMasker b Reaches mask (x ++ piece) t
  piece-came = masker-grown settled.is piece settled.all alike grown

  -- what was written begins the masked text, however the text goes on
  pub written-begins : take s.out (masked_words_in b mask (x ++ piece)) ≡ take s.out (masked_words_in b mask x)
  written-begins = word-mask_final mask b.dictionary x piece false s.out settled.cut.final

  pub written-beginning : IsBeginning (take s.out (masked_words_in b mask x)) (masked_words_in b mask (x ++ piece))
  written-beginning = (
    drop s.out (masked_words_in b mask (x ++ piece)),
    sym (take-append-drop s.out (masked_words_in b mask (x ++ piece)))
        ∙ ap (λ l. l ++ drop s.out (masked_words_in b mask (x ++ piece))) written-begins,
  )

  -- with the masked bytes up to a place it is longer
  pub written-on : (place : ℕ) → s.out ≤ place
      → take s.out (masked_words_in b mask x) ++ slice_range (masked_words_in b mask (x ++ piece)) s.out place
      ≡ take place (masked_words_in b mask (x ++ piece))
  written-on place le =
      ap (λ l. l ++ slice_range (masked_words_in b mask (x ++ piece)) s.out place) (sym written-begins)
      ∙ front-and (masked_words_in b mask (x ++ piece)) s.out place le

  module _ (closed : Bool) (last : WordMasker) {after : Steps}
      (same : last ≡ record t { place = last.place; masked = record t.masked { bytes = last.masked.bytes } })
      (masks : MasksKnown b.dictionary Reaches mask t.from closed (x ++ piece) last.place last.masked.bytes)
      (cost : CostsReading b (x ++ piece) t.place.at last.place.at mid after) where
    -- it stands at the end
    pub stands-at_end : last.place.at ≡ length (x ++ piece)
    stands-at_end = masks.0

    -- where the next write begins
    pub out-same : last.out ≡ s.out
    out-same = ap (λ u. u.out) same ∙ ap (λ u. u.out) grown

    from-same : last.from ≡ t.from
    from-same = ap (λ u. u.from) same

    -- and what it has cost
    pub cost-next : CostsReading b (x ++ piece) 0 (length (x ++ piece)) before (record after { moved = before.moved })
        × (after.moved.value ≡ before.moved.value + (last.plain.moved + last.masked.moved))
    cost-next =
        let both = length-append x piece in
        let start : t.place.at ≡ length x = ap (λ u. u.place.at) grown ∙ settled.all in
        let end = masks.0 in
        let part : CostsReading b (x ++ piece) (length x) (length (x ++ piece)) mid after =
        subst (λ n. CostsReading b (x ++ piece) n (length (x ++ piece)) mid after) start
        (subst (λ n. CostsReading b (x ++ piece) t.place.at n mid after) end cost) in
        let aside : CostsReading b (x ++ piece) (length x) (length (x ++ piece)) (record mid { moved = before.moved })
        (record after { moved = before.moved }) =
        λ live live_after g h.
        let run = part live live_after g h in
        record { some = run.some; bound = run.bound; one = run.one; scanned = run.scanned; moved = refl } in
        let one = live-some in
        let two = live-some in
        let still = (part one.0 two.0 one.1 two.1).moved in
        let was = settled.moved in
        let p = ap (λ u. u.plain.moved) same ∙ ap (λ u. u.plain.moved) grown in
        let q = ap (λ u. u.masked.moved) same ∙ ap (λ u. u.masked.moved) grown in (
          costs-then b (x ++ piece) (omega arith) (omega arith) (costs-longer b x piece settled.paid) aside,
          omega arith,
        )

    -- the held bytes up to a place are those of the masked text
    pub ready-part : (place : ℕ) → s.out ≤ place → place ≤ length (x ++ piece)
        → ((o : Occurrence) → OccursWhole (whole b.dictionary (x ++ piece) false) o → o.start < place
        → o.end < known_to closed (x ++ piece))
        → slice_range last.masked.bytes (last.out - last.from) (place - last.from)
        ≡ slice_range (masked_words_in b mask (x ++ piece)) s.out place
    ready-part place le within final =
        let held = piece-came.held in
        let out = ap (λ u. u.out) grown in
        ap (λ n. slice_range last.masked.bytes (n - last.from) (place - last.from)) out-same
        ∙ ap (λ f. slice_range last.masked.bytes (s.out - f) (place - f)) from-same
        ∙ shows-part b mask t.from (known_to closed (x ++ piece)) (x ++ piece) last.masked.bytes s.out place (omega arith)
        le within final masks.1.shows

    -- how many masked bytes are held
    pub masked-held : last.from + length last.masked.bytes ≡ length (x ++ piece)
    masked-held = let e = from-same in let len = masks.1.shows.len in omega arith

    pub from-held : last.from ≤ last.out
    from-held = let held = piece-came.held in let e = from-same in let f = ap (λ u. u.out) same in omega arith

-- where nothing follows, all is known
pub known-all : (m : Dictionary) (y : List ℕ) (o : Occurrence) → OccursWhole (whole m y false) o
    → o.end < known_to true y
known-all m y o word = let e = word.0.within.2 in omega arith

-- before a cut, all is known
pub known-before : (m : Dictionary) (y : List ℕ) (cut : ℕ) → AreWordsFinalBefore m y cut → (o : Occurrence)
    → OccursWhole (whole m y false) o → o.start < cut → o.end < known_to false y
known-before m y cut final o word before = final.1 [] o (occurs-append m [] word.0) before

module _ {W : Type 0} (contents : W → Option (List ℕ)) (b : Built) (Reaches : List ℕ → StateID → Type 0) (mask : ℕ)
    {w0 w : Watched W} {x : List ℕ} {s : WordMasker} {before mid : Steps}
    (settled : IsSettled contents b Reaches mask w0 w x s before mid) (piece : List ℕ) (t : WordMasker)
    (grown : t ≡ words_grown s piece) (alike : AreAlike t) (last : WordMasker) {after : Steps}
    (same : last ≡ record t { place = last.place; masked = record t.masked { bytes = last.masked.bytes } })
    (masks : MasksKnown b.dictionary Reaches mask t.from false (x ++ piece) last.place last.masked.bytes)
    (cost : CostsReading b (x ++ piece) t.place.at last.place.at mid after) where
  -- all that can be written was written
  pub settled-next : {w1 : Watched W} (place : ℕ) (bytes : List ℕ) → s.out ≤ place
      → IsWordMaskCut b.dictionary (x ++ piece) place → CanBeCounted (x ++ piece)
      → bytes ≡ slice_range last.masked.bytes (last.out - last.from) (place - last.from)
      → HasTaken contents w w1 bytes 0 0
      → IsSettled contents b Reaches mask w0 w1 (x ++ piece) (record last { out = place }) before after
  settled-next {w1} place bytes le cut few is_part wrote =
      let y = x ++ piece in
      let came = piece-came contents b Reaches mask settled piece t grown alike in
      let is = masker-masked came same masks in
      let held = is.held in
      let out = out-same contents b Reaches mask settled piece t grown alike false last same masks cost in
      let inside = cut.final.0 in
      let costs = cost-next contents b Reaches mask settled piece t grown alike false last same masks cost in
      let ready = is_part
      ∙ ready-part contents b Reaches mask settled piece t grown alike false last same masks cost place le inside
      (known-before b.dictionary y place cut.final) in
      record {
        is = masker-out place (omega arith) is;
        all = masks.0;
        cut = cut;
        countable = few;
        written = subst (λ l. HasTaken contents w0 w1 l 0 0)
            (written-on contents b Reaches mask settled piece t grown alike place le)
            (taken-then settled.written (subst (λ l. HasTaken contents w w1 l 0 0) ready wrote));
        paid = costs.0;
        moved = costs.1;
      }

-- one piece more was read
pub written-next : {R W : Type 0} {remaining : R → Option (List ℕ)} {contents : W → Option (List ℕ)} {b : Built}
    {Reaches : List ℕ → StateID → Type 0} {mask : ℕ} {r0 r r1 : Watched R} {w0 w w1 : Watched W} {s t : WordMasker}
    {before mid after : Steps} → (has : HasWrittenWords remaining contents b Reaches mask r0 r w0 w s before mid)
    → (piece : List ℕ) → piece ≢ [] → HasGiven remaining r r1 (piece ∷ []) 0 → length piece ≤ word_mask_room b
    → IsSettled contents b Reaches mask w0 w1 (concat has.pieces ++ piece) t before after
    → HasWrittenWords remaining contents b Reaches mask r0 r1 w0 w1 t before after
written-next {contents = contents} {b} {Reaches} {mask} {w0 = w0} {w1 = w1} {t = t} {before} {after = after} has piece some
    given fits settled =
    record {
      pieces = has.pieces ++ piece ∷ [];
      settled = subst (λ x. IsSettled contents b Reaches mask w0 w1 x t before after) (sym (concat-push has.pieces piece))
          settled;
      filled = AreFilled-push has.pieces has.filled some;
      short = All-push (λ l. length l ≤ word_mask_room b) has.pieces piece has.short fits;
      read = given-push has.read given;
      more = still-open piece given.turns.1 some;
    }

-- what it cost, by what was read
pub words-costs : {R : Type 0} (b : Built) {r0 r1 : Watched R} {before after : Steps} (pieces : List (List ℕ))
    (y : List ℕ) (plain masked : ℕ) (result : Result (Unit {0}) StreamError)
    → r1.pieces.items ≡ r0.pieces.items ++ pieces → length y ≤ length (concat pieces)
    → CostsReading b y 0 (length y) before (record after { moved = before.moved })
    → after.moved.value ≡ before.moved.value + (plain + masked) → 7 * plain ≤ length y → 7 * masked ≤ length y
    → OnOk result (length y ≡ length (concat pieces)) → CostsMaskWordsStream b r0 r1 before after result
words-costs b {before = before} {after} pieces y plain masked result read few cost moves one two all =
    let first = live-some in
    let last = live-some in
    let run = cost first.0 last.0 first.1 last.1 in
    let looks = looks-cost b (live-none first.0) run in
    let some = run.some in
    record {
      pieces = pieces;
      read = read;
      looked = by b.deterministic looks.0.looked;
      some = on-ok result all (λ (same : length y ≡ length (concat pieces)). omega arith);
      scanned = run.scanned;
      moved = omega arith;
    }
  where
    by : (d : Bool) → after.looked.value ≤ before.looked.value + lookups_per_byte d * (length y - 0)
        → after.looked.value ≤ before.looked.value + lookups_per_byte d * length (concat pieces)
    by true most = omega arith
    by false most = omega arith

    on-ok : {P Q : Type 0} (result : Result (Unit {0}) StreamError) → OnOk result P → (P → Q) → OnOk result Q
    on-ok (Ok done) p f = f p
    on-ok (Err error) p f = tt
