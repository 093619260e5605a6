-- What one read of a stream whose whole words are masked brings, by its result and by that of the write that follows.
use Rattle.std.proofs.Common.{◌≡◌, inr, ℕ, ◌+◌, ◌-◌, ◌<◌, ◌≤◌, Bool, true, false, List, [], ◌∷◌, ◌++◌, length, take, drop, slice_range, Option, Result, Ok, Err, refl, sym, ap, subst, ◌∙◌, arith, append-nil, length-append, take-append-drop}
use Rattle.std.specs.List.{concat}
use Rattle.std.proofs.lemmas.List.{take_all}
use Rattle.ac_input.specs.Number.{StateID, usize_max}
use Rattle.ac_input.specs.declared.search.Anchored.{Anchored}
use Rattle.ac_input.specs.declared.steps.Steps.{Steps}
use Rattle.ac_input.specs.Dictionary.{whole}
use Rattle.ac_input.specs.Occurrence.{Occurrence}
use Rattle.ac_input.specs.Word.{OccursWhole}
use Rattle.ac_input.proofs.lemmas.MaskAmongLemmas.{among-masked}
use Rattle.ac_input.proofs.lemmas.WordLemmas.{whole-counted, word-mask_final}
use Rattle.ac_automaton.specs.Automaton.{Built}
use Rattle.ac_automaton.specs.Masking.Words.{CostsReading, MasksKnown, known_to, masked_words_in}
use Rattle.ac_automaton.specs.Masking.Words.Stream.{CostsMaskWordsStream, CountsMoves, FillsBoth, HasMadeRoomFor, IsMaskerRolled, IsWordMaskFront, IsWordMasker, MasksWordsStream, WritesMaskedWords, word_mask_room}
use Rattle.ac_automaton.specs.Stream.Devices.Buffer.{room_for}
use Rattle.ac_automaton.specs.Stream.Devices.Moved.{AllFit, HasGiven, HasMoved, Moved}
use Rattle.ac_automaton.specs.Stream.Devices.Watched.{NoneRead, WritesWhole}
use Rattle.ac_automaton.specs.Stream.Overlapping.{IsListingRefusal}
use Rattle.ac_automaton.specs.Stream.Replace.{IsBegun}
use Rattle.ac_automaton.specs.declared.error.StreamError.{StreamError}
use Rattle.ac_automaton.specs.declared.error.StreamError.TheVariants.{Config, Read, Write, WriteZero, Memory, Position}
use Rattle.ac_automaton.specs.declared.stream.devices.watched.Watched.{Watched}
use Rattle.ac_automaton.specs.declared.stream.mask.words.WordMasker.{WordMasker}
use Rattle.ac_automaton.proofs.stream.StreamMaskEndLemmas.{on-any, taken-all}
use Rattle.ac_automaton.proofs.stream.devices.MovedLemmas.{given-none, given-push, taken-none}
use Rattle.ac_automaton.proofs.stream.mask.words.WordEndLemmas.{HasWrittenWords, IsSettled, cost-next, from-held, known-all, masked-held, out-same, piece-came, ready-part, settled-roomy, stands-at_end, words-costs, written-on}
use Rattle.ac_automaton.proofs.stream.mask.words.WordMaskerLemmas.{masker-held}
use Rattle.ac_automaton.proofs.stream.mask.words.WritingLemmas.{concat-push, ended-places, ended-read, ended-whole, ended-write}

-- those errors of a read come after it began
pub fill-begun : {R : Type 0} (remaining : R → Option (List ℕ)) (s t : WordMasker) (r r1 : Watched R)
    (error : StreamError) → FillsBoth remaining s t r r1 (Err error) → IsBegun error
fill-begun remaining s t r r1 (Read error) fills = tt
fill-begun remaining s t r r1 Position fills = tt
fill-begun remaining s t r r1 (Config error) fills = fills
fill-begun remaining s t r r1 (Write error) fills = tt
fill-begun remaining s t r r1 WriteZero fills = tt
fill-begun remaining s t r r1 Memory fills = fills

module _ {R W : Type 0} (remaining : R → Option (List ℕ)) (contents : W → Option (List ℕ)) (b : Built)
    (Reaches : List ℕ → StateID → Type 0) (mask : ℕ) {r0 r : Watched R} {w0 w : Watched W} {s s1 : WordMasker}
    {before began mid : Steps} (has : HasWrittenWords remaining contents b Reaches mask r0 r w0 w s before began)
    (rolls : IsMaskerRolled s s1) (made : HasMadeRoomFor s1) (counts : CountsMoves s s1 began mid) where
  -- what was read until then
  abbrev so_far : List ℕ
  so_far = concat has.pieces

  abbrev text : List ℕ
  text = take s1.out (masked_words_in b mask so_far)

  pub roomy : IsSettled contents b Reaches mask w0 w so_far s1 before mid
  roomy = settled-roomy has.settled rolls made counts

  -- all that can be written was
  pub front : IsWordMaskFront b mask so_far text
  front = (s1.out, roomy.cut, refl)

  -- how much room there is
  pub roomy-room : s1.plain.room ≡ word_mask_room b
  roomy-room = roomy.is.alike.plain.room ∙ ap room_for roomy.is.keep

  -- the held bytes can be counted
  pub roomy-fits : s1.from + length s1.plain.bytes ≤ usize_max
  roomy-fits = let held = masker-held roomy.is in let few = roomy.countable in omega arith

  -- a read stopped
  pub stop-writes : {r1 : Watched R} (t : WordMasker) (error : StreamError) → FillsBoth remaining s1 t r r1 (Err error)
      → WritesMaskedWords remaining contents b mask r0 r1 w0 w (Err error)
  stop-writes t (Read error) fills =
      ended-read remaining contents (word_mask_room b) (masked_words_in b mask) (IsWordMaskFront b mask) has.pieces has.filled
      has.short has.read text roomy.written error fills front
  stop-writes t Position fills =
      let piece = fills.0 in
      let held = masker-held roomy.is in
      let both = length-append so_far piece in
      let room = roomy-room in
      let few = fills.2 in
      let many = fills.3 in
      ended-places remaining contents (word_mask_room b) (masked_words_in b mask) (IsWordMaskFront b mask) has.pieces has.filled
      has.short has.read text roomy.written piece fills.1 (omega (arith, room, few))
      (λ counted. omega (arith, held, both, many, counted)) (
        drop s1.out (masked_words_in b mask (so_far ++ piece)),
        sym (take-append-drop s1.out (masked_words_in b mask (so_far ++ piece)))
            ∙ ap (λ l. l ++ drop s1.out (masked_words_in b mask (so_far ++ piece)))
            (word-mask_final mask b.dictionary so_far piece false s1.out roomy.cut.final),
      )
  stop-writes t (Config error) fills = absurd fills
  stop-writes t (Write error) fills = absurd fills
  stop-writes t WriteZero fills = absurd fills
  stop-writes t Memory fills = absurd fills

  -- and what it cost
  stop-cost : {r1 : Watched R} (piece : List ℕ) {failed : ℕ} (error : StreamError) → HasGiven remaining r r1 (piece ∷ []) failed
      → CostsMaskWordsStream b r0 r1 before mid (Err error)
  stop-cost piece error given =
      let all = ap length (concat-push has.pieces piece) in
      let both = length-append so_far piece in
      let read = roomy.is.read in
      let twin = roomy.is.alike.read in
      let one = roomy.is.alike.plain.paid in
      let two = roomy.is.alike.masked.paid in
      words-costs b (has.pieces ++ piece ∷ []) so_far s1.plain.moved s1.masked.moved (Err error)
      (given-push has.read given).pieces (omega (arith, all, both)) roomy.paid roomy.moved (omega (arith, one, read))
      (omega (arith, two, twin, read)) tt

  pub stop-costs : {r1 : Watched R} (t : WordMasker) (error : StreamError) → FillsBoth remaining s1 t r r1 (Err error)
      → CostsMaskWordsStream b r0 r1 before mid (Err error)
  stop-costs t (Read error) fills = stop-cost [] (Read error) fills
  stop-costs t Position fills = stop-cost fills.0 Position fills.1
  stop-costs t (Config error) fills = absurd fills
  stop-costs t (Write error) fills = absurd fills
  stop-costs t WriteZero fills = absurd fills
  stop-costs t Memory fills = absurd fills

  module _ {r1 : Watched R} (t : WordMasker) {n : ℕ} (fills : FillsBoth remaining s1 t r r1 (Ok n)) where
    abbrev piece : List ℕ
    piece = fills.0

    -- the piece came
    pub came : IsWordMasker b Reaches mask (so_far ++ piece) t
    came = piece-came contents b Reaches mask roomy piece t fills.1 fills.4

    pub piece-fits : length piece ≤ word_mask_room b
    piece-fits =
        let held = ap length (ap (λ u. u.plain.bytes) fills.1) in
        let both = length-append s1.plain.bytes piece in
        let room = ap (λ u. u.plain.room) fills.1 in
        let within = fills.4.plain.within in
        let e = roomy-room in
        omega (arith, held, both, room, within, e)

    module _ (closed : Bool) (last : WordMasker) {after : Steps}
        (same : last ≡ record t { place = last.place; masked = record t.masked { bytes = last.masked.bytes } })
        (masks : MasksKnown b.dictionary Reaches mask t.from closed (so_far ++ piece) last.place last.masked.bytes)
        (cost : CostsReading b (so_far ++ piece) t.place.at last.place.at mid after) where
      -- it costs so much
      pub next-costs : (result : Result (Unit {0}) StreamError) → CostsMaskWordsStream b r0 r1 before after result
      next-costs result =
          let all = ap length (concat-push has.pieces piece) in
          let came_is = came in
          let read = came_is.read in
          let twin = came_is.alike.read in
          let one = came_is.alike.plain.paid in
          let two = came_is.alike.masked.paid in
          let p = ap (λ u. u.plain.moved) same in
          let q = ap (λ u. u.masked.moved) same in
          let costs = cost-next contents b Reaches mask roomy piece t fills.1 fills.4 closed last same masks cost in
          words-costs b (has.pieces ++ piece ∷ []) (so_far ++ piece) last.plain.moved last.masked.moved result
          (given-push has.read fills.2).pieces (omega (arith, all)) costs.0 costs.1 (omega (arith, one, read, p))
          (omega (arith, two, twin, read, q)) (on-any result (sym all))

      -- the bytes up to a place can be written next
      pub can-write : (place : ℕ) → s1.out ≤ place → place ≤ length (so_far ++ piece)
          → (last.from ≤ last.out) × (last.out ≤ place) × (place ≤ last.from + length last.masked.bytes)
      can-write place le within =
          let out = out-same contents b Reaches mask roomy piece t fills.1 fills.4 closed last same masks cost in
          let held = masked-held contents b Reaches mask roomy piece t fills.1 fills.4 closed last same masks cost in (
            from-held contents b Reaches mask roomy piece t fills.1 fills.4 closed last same masks cost,
            omega (arith, out, le),
            omega (arith, held, within),
          )

      module _ (place : ℕ) (le : s1.out ≤ place) (within : place ≤ length (so_far ++ piece))
          (final : (o : Occurrence) → OccursWhole (whole b.dictionary (so_far ++ piece) false) o → o.start < place
          → o.end < known_to closed (so_far ++ piece)) {bytes : List ℕ}
          (is_part : bytes ≡ slice_range last.masked.bytes (last.out - last.from) (place - last.from)) where
        -- with these bytes the masked text is written up to the place
        pub written-to : text ++ bytes ≡ take place (masked_words_in b mask (so_far ++ piece))
        written-to =
            ap (λ l. text ++ l)
            (is_part
            ∙ ready-part contents b Reaches mask roomy piece t fills.1 fills.4 closed last same masks cost place le within
            final)
            ∙ written-on contents b Reaches mask roomy piece t fills.1 fills.4 place le

        -- the write of them failed
        pub write-stopped : {w1 : Watched W} (error : StreamError) → WritesWhole contents w w1 bytes (Err error)
            → NoneRead w w1 → WritesMaskedWords remaining contents b mask r0 r1 w0 w1 (Err error)
        write-stopped error wrote reads =
            let M = masked_words_in b mask (so_far ++ piece) in
            ended-write remaining contents (word_mask_room b) (masked_words_in b mask) (IsWordMaskFront b mask) has.pieces
            has.filled has.short has.read text roomy.written piece bytes (drop place M) error fills.2 piece-fits front
            (sym (take-append-drop place M) ∙ ap (λ l. l ++ drop place M) (sym written-to)) wrote reads

      -- where nothing follows, all is written
      pub write-ended : {w1 : Watched W} {bytes : List ℕ} (result : Result (Unit {0}) StreamError) → n ≡ 0
          → closed ≡ true → bytes ≡ slice_range last.masked.bytes (last.out - last.from) (last.place.at - last.from)
          → WritesWhole contents w w1 bytes result → NoneRead w w1
          → WritesMaskedWords remaining contents b mask r0 r1 w0 w1 result
      write-ended {w1} {bytes} result none over is_part wrote reads =
          by result wrote
        where
          y : List ℕ
          y = so_far ++ piece

          at-end : last.place.at ≡ length y
          at-end = stands-at_end contents b Reaches mask roomy piece t fills.1 fills.4 closed last same masks cost

          later : s1.out ≤ last.place.at
          later =
              let le = roomy.cut.final.0 in
              let both = length-append so_far piece in
              let e = at-end in
              omega (arith, le, both, e)

          known : (o : Occurrence) → OccursWhole (whole b.dictionary y false) o → o.start < last.place.at
              → o.end < known_to closed y
          known o word sooner = subst (λ z. o.end < known_to z y) (sym over) (known-all b.dictionary y o word)

          inside : last.place.at ≤ length y
          inside = let e = at-end in omega (arith, e)

          nothing : (p : List ℕ) → length p ≡ 0 → p ≡ []
          nothing [] e = refl
          nothing (z ∷ zs) e = absurd (omega (arith, e))

          no_piece : piece ≡ []
          no_piece = nothing piece (fills.3 ∙ none)

          all-written : text ++ bytes ≡ masked_words_in b mask so_far
          all-written =
              let long = (among-masked whole-counted mask (whole b.dictionary y false) (omega arith)).len in
              let e = at-end in
              written-to last.place.at later inside known is_part
              ∙ take_all last.place.at (masked_words_in b mask y) (omega (arith, long, e))
              ∙ ap (masked_words_in b mask) (ap (λ p. so_far ++ p) no_piece ∙ append-nil so_far)

          by : (result : Result (Unit {0}) StreamError) → WritesWhole contents w w1 bytes result
              → WritesMaskedWords remaining contents b mask r0 r1 w0 w1 result
          by (Ok done) whole_one =
              ended-whole remaining contents (word_mask_room b) (masked_words_in b mask) (IsWordMaskFront b mask) has.pieces
              has.filled has.short has.read text roomy.written bytes
              (subst (λ p. HasGiven remaining r r1 (p ∷ []) 0) no_piece fills.2) (taken-all whole_one reads) all-written
          by (Err error) failed = write-stopped last.place.at later inside known is_part error failed reads

-- a stream that can't be masked leaves both devices unchanged
pub refused-words : {R W : Type 0} {remaining : R → Option (List ℕ)} {contents : W → Option (List ℕ)} (b : Built)
    (supports : Anchored → Type 0) (mask : ℕ) (r : Watched R) (w : Watched W) (error : StreamError)
    → IsListingRefusal b supports error → MasksWordsStream remaining contents b mask r r w w (Err error)
refused-words {R} {W} {remaining} {contents} b supports mask r w error refusal = (by error refusal, inr (refl, refl))
  where
    nothing : Moved
    nothing = record { pieces = []; failed_reads = 0; taken = []; failed_writes = 0; stalled_writes = 0 }

    moved : HasMoved remaining contents r r w w nothing
    moved = record { reader = given-none; writer = taken-none }

    fit : AllFit (word_mask_room b) []
    fit = λ k d lt. absurd (omega (arith, lt))

    by : (e : StreamError) → IsListingRefusal b supports e
        → WritesMaskedWords remaining contents b mask r r w w (Err e)
    by (Config e) refused = (nothing, moved, fit, record { pieces = refl; taken = refl; failed = (refl, refl, refl) })
    by Memory refused = (nothing, moved, fit, record { pieces = refl; taken = refl; failed = (refl, refl, refl) })
    by (Read e) refused = absurd refused
    by (Write e) refused = absurd refused
    by WriteZero refused = absurd refused
    by Position refused = absurd refused

-- and costs nothing
pub refused-words_cost : {R : Type 0} (b : Built) (r : Watched R) (steps : Steps) (error : StreamError)
    → CostsMaskWordsStream b r r steps steps (Err error)
refused-words_cost b r steps error = record {
  pieces = [];
  read = sym (append-nil _);
  looked = omega arith;
  some = tt;
  scanned = refl;
  moved = omega arith;
}
