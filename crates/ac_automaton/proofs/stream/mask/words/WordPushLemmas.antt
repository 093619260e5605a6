-- What a masking of whole words keeps stays right, where the pieces of its stream are pushed.
use Rattle.std.proofs.Common.{◌≡◌, ⊎_elim, inl, inr, ℕ, ◌+◌, ◌-◌, ◌<◌, ◌≤◌, min, nat_lt, Bool, true, false, List, [], ◌∷◌, ◌++◌, length, take, drop, slice_range, refl, sym, ap, subst, ◌∙◌, arith, length-append}
use Rattle.std.proofs.lemmas.Bool.{cases_Bool, false≢true, ltb-false, ltb-true}
use Rattle.std.proofs.lemmas.List.{drop-take, length-take-le, take_all}
use Rattle.ac_input.specs.Number.{usize_max}
use Rattle.ac_input.specs.declared.search.Anchored.TheVariants.{No}
use Rattle.ac_input.specs.declared.steps.Steps.{Steps}
use Rattle.ac_input.specs.Dictionary.{IsLive, live_len, whole}
use Rattle.ac_input.specs.Occurrence.{Occurrence, Occurs}
use Rattle.ac_input.specs.Steps.{AreNone}
use Rattle.ac_input.specs.Word.{OccursWhole}
use Rattle.ac_input.specs.Work.{IsLookups, longest}
use Rattle.ac_input.proofs.lemmas.SomeLemmas.{live-some}
use Rattle.ac_input.proofs.lemmas.WordLemmas.{word-mask_final}
use Rattle.ac_automaton.specs.Masking.Words.{CostsReading, IsMaskPlace, MasksKnown, ShowsMasked, known_to, masked_words_in}
use Rattle.ac_automaton.specs.Masking.Words.Pushed.{IsStreamWordMask, ready_words_of, word_mask_at}
use Rattle.ac_automaton.specs.Masking.Words.Stream.{AreAlike, CountsMoves, HasMadeRoomFor, IsMaskerRolled, IsWordMaskCut, IsWordMasker, word_mask_room, words_grown}
use Rattle.ac_automaton.specs.Stream.{CanBeCounted}
use Rattle.ac_automaton.specs.Stream.Devices.Buffer.{room_for}
use Rattle.ac_automaton.specs.Stream.Mask.{CutsAfter, HasMadeRoom, MaskCounts, MaskProgress, MasksFront, finished_mask, front_of, passed_to}
use Rattle.ac_automaton.specs.declared.automaton.Automaton.{Ghosts}
use Rattle.ac_automaton.specs.declared.stream.mask.words.WordMasker.{WordMasker}
use Rattle.ac_automaton.specs.declared.stream.mask.words.pushed.WordMasking.TheInside.{Inside}
use Rattle.ac_automaton.proofs.stream.StreamMaskLemmas.{IsNewPaid, after_piece, all-read, course-dropped, course-finished, course-grown, course-masked, masked_all, paid-grown, paid-masked, passed-more}
use Rattle.ac_automaton.proofs.stream.mask.words.WordEndLemmas.{known-all, rolled-same, word-cut_at}
use Rattle.ac_automaton.proofs.stream.mask.words.WordMaskerLemmas.{masker-grown, masker-held, masker-masked, masker-out, masker-rolled, shows-part}

-- how far it has come, from what it keeps
abbrev pub word_mask_by : {S : Type 0} → Ghosts S → Inside S → MaskProgress
word_mask_by A i = word_mask_at (A.built i.automaton) i.mask i.pieces.items i.closed i.cut i.sums i.masker

-- and with this in the place of its buffers
abbrev pub word_mask_with : {S : Type 0} → Ghosts S → Inside S → WordMasker → MaskProgress
word_mask_with A i w = word_mask_at (A.built i.automaton) i.mask i.pieces.items i.closed i.cut i.sums w

-- texts that begin alike are alike between two places
slice-alike : (xs ys : List ℕ) (a b : ℕ) → a ≤ b → take b xs ≡ take b ys → slice_range xs a b ≡ slice_range ys a b
slice-alike xs ys a b le same =
    let e : a + (b - a) ≡ b = omega arith in
    sym (drop-take a (b - a) xs) ∙ ap (λ n. drop a (take n xs)) e ∙ ap (drop a) same
    ∙ ap (λ n. drop a (take n ys)) (sym e) ∙ drop-take a (b - a) ys

module _ {S : Type 0} (A : Ghosts S) (i : Inside S)
    (is : IsStreamWordMask (A.Reaches i.automaton No) (word_mask_by A i) i.masker i.over) where
  -- what was passed
  abbrev so_far : List ℕ
  so_far = passed_to (word_mask_by A i)

  -- and was read
  abbrev front : List ℕ
  front = front_of (word_mask_by A i)

  -- ---- what is ready

  front-long : length front ≡ i.masker.place.at
  front-long = length-take-le i.masker.place.at so_far is.course.ordered.1

  -- how many masked bytes are held
  pub pushed-held : i.masker.from + length i.masker.masked.bytes ≡ length so_far
  pushed-held =
      ⊎_elim
      (λ (closed : i.closed ≡ true). (is.shows closed).len)
      (λ (unclosed : i.closed ≡ false). (is.open_ unclosed).has.shows.len)
      (cases_Bool i.closed)

  -- the held bytes up to the cut are those of the masked text
  held-cut : (end : ℕ)
      → ((o : Occurrence) → OccursWhole (whole (A.built i.automaton).dictionary so_far false) o → o.start < i.cut
      → o.end < end)
      → ShowsMasked (A.built i.automaton).dictionary i.mask i.masker.from end so_far i.masker.masked.bytes
      → slice_range i.masker.masked.bytes (i.masker.out - i.masker.from) (i.cut - i.masker.from)
      ≡ slice_range (masked_words_in (A.built i.automaton) i.mask so_far) i.masker.out i.cut
  held-cut end final shows =
      let cut = is.course.ordered in
      shows-part (A.built i.automaton) i.mask i.masker.from end so_far i.masker.masked.bytes i.masker.out i.cut
      is.course.ready.0 is.course.ready.1 (omega arith) final shows

  -- the bytes that are ready are held
  pub pushed-ready : slice_range i.masker.masked.bytes (i.masker.out - i.masker.from) (i.cut - i.masker.from)
      ≡ ready_words_of (word_mask_by A i)
  pushed-ready =
      ⊎_elim
      (λ (closed : i.closed ≡ true).
      let all = is.all closed in
      let same : front ≡ so_far = take_all i.masker.place.at so_far (omega arith) in
      held-cut (known_to true so_far)
      (λ o word before. known-all (A.built i.automaton).dictionary so_far o word) (is.shows closed)
      ∙ ap (λ l. slice_range (masked_words_in (A.built i.automaton) i.mask l) i.masker.out i.cut) (sym same))
      (λ (unclosed : i.closed ≡ false).
      let m = (A.built i.automaton).dictionary in
      let final = (is.course.open_ unclosed).final in
      let rest = drop i.masker.place.at so_far in
      let all : front ++ rest ≡ so_far = all-read (word_mask_by A i) in
      let long = front-long in
      held-cut i.masker.place.at
      (λ o word before.
      let ends = final.1 rest o (subst (λ l. Occurs (whole m l false) o) (sym all) word.0) before in
      omega (arith, ends, long)) (is.open_ unclosed).has.shows
      ∙ slice-alike (masked_words_in (A.built i.automaton) i.mask so_far)
      (masked_words_in (A.built i.automaton) i.mask front) i.masker.out i.cut is.course.ready.1
      (subst (λ l. take i.cut (masked_words_in (A.built i.automaton) i.mask l)
      ≡ take i.cut (masked_words_in (A.built i.automaton) i.mask front)) all
      (word-mask_final i.mask m front rest false i.cut final)))
      (cases_Bool i.closed)

  -- ---- room is made

  module _ (unclosed : i.closed ≡ false) (all : i.masker.place.at ≡ length so_far) where
    -- nothing is ready
    pub dropped-is : IsWordMasker (A.built i.automaton) (A.Reaches i.automaton No) i.mask so_far
        (record i.masker { out = i.cut })
    dropped-is = let ready = is.course.ready in masker-out i.cut (omega arith) (is.open_ unclosed)

    few-wait : length so_far ≤ i.cut + longest (A.built i.automaton).dictionary.patterns
    few-wait = let near = (is.course.open_ unclosed).near in let long = front-long in omega arith

    module _ {t : WordMasker} (rolls : IsMaskerRolled (record i.masker { out = i.cut }) t)
        (made : HasMadeRoomFor t) where
      pub rolled-is : IsWordMasker (A.built i.automaton) (A.Reaches i.automaton No) i.mask so_far t
      rolled-is = masker-rolled dropped-is all few-wait made.alike rolls

      -- how far it has come then
      pub room-view : word_mask_with A i t
          ≡ record (word_mask_by A i) { from = t.from; out = i.cut; moved = t.plain.moved + t.masked.moved }
      room-view = λ j. record (word_mask_by A i) {
        from = t.from;
        at = ap (λ p. p.at) (rolled-same rolls).1 j;
        out = (rolled-same rolls).0 j;
        moved = t.plain.moved + t.masked.moved;
      }

      -- the first held byte is a later one, and each byte that was moved is counted
      room-later : (i.masker.from ≤ t.from)
          × (i.masker.plain.moved + i.masker.masked.moved ≤ t.plain.moved + t.masked.moved)
      room-later = by rolls
        where
          by : IsMaskerRolled (record i.masker { out = i.cut }) t
              → (i.masker.from ≤ t.from)
              × (i.masker.plain.moved + i.masker.masked.moved ≤ t.plain.moved + t.masked.moved)
          by (inl same) =
              let from = ap (λ u. u.from) same in
              let one = ap (λ u. u.plain.moved) same in
              let two = ap (λ u. u.masked.moved) same in
              (omega (arith, from), omega (arith, one, two))
          by (inr full) =
              let from = ap (λ u. u.from) full.1 in
              let one = ap (λ u. u.plain.moved) full.1 in
              let two = ap (λ u. u.masked.moved) full.1 in
              (omega (arith, from), omega (arith, one, two))

      pub room-made : HasMadeRoom (word_mask_by A i) (word_mask_with A i t)
      room-made = record { from = room-later.0; same = room-view }

      -- there is room
      pub room-left : length so_far < t.from + word_mask_room (A.built i.automaton)
      room-left =
          let held = masker-held rolled-is in
          let size : t.plain.room ≡ word_mask_room (A.built i.automaton) =
          rolled-is.alike.plain.room ∙ ap room_for rolled-is.keep in
          let room = made.room in
          omega (arith, held, size, room)

      -- what it keeps is right
      pub room-is : IsStreamWordMask (A.Reaches i.automaton No) (word_mask_with A i t) t i.over
      room-is =
          let now = rolled-is in
          let read = now.read in
          let twin = now.alike.read in
          let one = now.alike.plain.paid in
          let two = now.alike.masked.paid in
          let held = now.held in
          let out = (rolled-same rolls).0 in
          subst (λ s. IsStreamWordMask (A.Reaches i.automaton No) s t i.over) (sym room-view)
          (record {
            course = course-dropped (word_mask_by A i) t.from (t.plain.moved + t.masked.moved) room-later.0
                (omega (arith, held, out)) (omega (arith, read, twin, one, two)) is.course;
            open_ = λ e. now;
            all = λ closed. absurd (false≢true (sym unclosed ∙ closed));
            shows = λ closed. absurd (false≢true (sym unclosed ∙ closed));
            lookups = is.lookups;
            countable = is.countable;
            uncountable = is.uncountable;
          })

      -- and what was counted
      pub room-counts : {before after : Steps} → CountsMoves (record i.masker { out = i.cut }) t before after
          → MaskCounts (word_mask_by A i) (word_mask_with A i t) before after
      room-counts counts =
          let more = room-later.1 in
          let looked = counts.looked in
          let scanned = counts.scanned in
          let moved = counts.moved in (
            0,
            0,
            t.plain.moved + t.masked.moved - (i.masker.plain.moved + i.masker.masked.moved),
            record {
              looked = omega (arith, looked);
              scanned = omega (arith, scanned);
              moved = omega (arith, more, moved);
            },
            omega arith,
            omega arith,
            omega (arith, more),
          )

    -- ---- a piece comes

    module _ (piece : List ℕ) {t : WordMasker} (grown : t ≡ words_grown i.masker piece) (alike : AreAlike t) where
      pub grown-is : IsWordMasker (A.built i.automaton) (A.Reaches i.automaton No) i.mask (so_far ++ piece) t
      grown-is = masker-grown (is.open_ unclosed) piece all alike grown

      -- how far it has come then
      pub grown-view : (pieces : List (List ℕ)) → pieces ≡ i.pieces.items ++ piece ∷ []
          → word_mask_at (A.built i.automaton) i.mask pieces i.closed i.cut i.sums t
          ≡ after_piece (word_mask_by A i) piece
      grown-view pieces more = λ j. record (word_mask_by A i) {
        pieces = more j;
        from = ap (λ u. u.from) grown j;
        at = ap (λ u. u.place.at) grown j;
        out = ap (λ u. u.out) grown j;
        moved = ap (λ u. u.plain.moved + u.masked.moved) grown j;
      }

      grown-short : length piece ≤ word_mask_room (A.built i.automaton)
      grown-short =
          let bytes = ap length (ap (λ u. u.plain.bytes) grown) in
          let both = length-append i.masker.plain.bytes piece in
          let size : t.plain.room ≡ word_mask_room (A.built i.automaton) =
          grown-is.alike.plain.room ∙ ap room_for grown-is.keep in
          let within = alike.plain.within in
          omega (arith, bytes, both, size, within)

      -- what it keeps is right, and the piece isn't masked yet; `over` is true exactly where there are more bytes than
      -- places
      pub grown-over : (held : List ℕ) → held ≡ t.plain.bytes → t.from ≤ usize_max → (over : Bool)
          → over ≡ nat_lt (usize_max - t.from) (length held)
          → IsStreamWordMask (A.Reaches i.automaton No) (after_piece (word_mask_by A i) piece) t over
      grown-over held same fits over is_over =
          let more = passed-more (word_mask_by A i) piece in
          let both = length-append so_far piece in
          let long = masker-held grown-is in
          let e = ap length same in
          record {
            course = course-grown (word_mask_by A i) piece grown-short
                (let n = ap length more in omega (arith, both, n)) is.course;
            open_ = λ u.
                subst (λ x. IsWordMasker (A.built i.automaton) (A.Reaches i.automaton No) i.mask x t) (sym more) grown-is;
            all = λ closed. absurd (false≢true (sym unclosed ∙ closed));
            shows = λ closed. absurd (false≢true (sym unclosed ∙ closed));
            lookups = paid-grown (word_mask_by A i) piece is.course.ordered.1 is.lookups;
            countable = λ no. subst CanBeCounted (sym more)
                (let le = ltb-false (usize_max - t.from) (length held) (sym is_over ∙ no) in
                omega (arith, long, both, e, le, fits));
            uncountable = λ yes. subst (λ l. ¬ CanBeCounted l) (sym more)
                (λ few. let lt = ltb-true (usize_max - t.from) (length held) (sym is_over ∙ yes) in
                omega (arith, long, both, e, lt, few));
          }

      -- how many bytes of a piece came: some, and all unless the room is full
      pub grown-front : (whole_piece : List ℕ) (n : ℕ) → piece ≡ take n whole_piece
          → n ≡ min (length whole_piece) (i.masker.plain.room - length i.masker.plain.bytes)
          → length so_far < i.masker.from + word_mask_room (A.built i.automaton) → 0 < length whole_piece
          → (0 < n)
          × MasksFront (word_mask_room (A.built i.automaton)) (after_piece (word_mask_by A i) piece) whole_piece n
      grown-front whole_piece n part many room some =
          let before = is.open_ unclosed in
          let long = masker-held before in
          let size : i.masker.plain.room ≡ word_mask_room (A.built i.automaton) =
          before.alike.plain.room ∙ ap room_for before.keep in
          let within = before.alike.plain.within in
          let less : n ≤ length whole_piece = omega (arith, many) in
          let count : length piece ≡ n = ap length part ∙ length-take-le n whole_piece less in
          let more = ap length (passed-more (word_mask_by A i) piece) in
          let both = length-append so_far piece in
          let any : 0 < n = omega (arith, many, long, size, room, some) in (
            any,
            record {
              within = less;
              some = λ filled. any;
              full = λ lt. omega (arith, many, long, size, room, more, both, count, lt, within);
            },
          )

  -- ---- what came is masked

  module _ (unclosed : i.closed ≡ false) {t : WordMasker}
      (same : t ≡ record i.masker { place = t.place; masked = record i.masker.masked { bytes = t.masked.bytes } })
      (masks : MasksKnown (A.built i.automaton).dictionary (A.Reaches i.automaton No) i.mask i.masker.from false so_far
      t.place t.masked.bytes) where
    -- the place up to which all is ready
    pub masked-cut : {keep place : ℕ} → keep ≡ t.plain.keep
        → CutsAfter A i.automaton t.place.sid i.cut keep t.place.at place
        → (i.cut ≤ place) × IsWordMaskCut (A.built i.automaton).dictionary so_far place
    masked-cut {keep} {place} long cuts =
        let m = (A.built i.automaton).dictionary in
        let rest = drop i.masker.place.at so_far in
        let both : front ++ rest ≡ so_far = all-read (word_mask_by A i) in
        let kept : keep ≡ longest m.patterns + 1 = long ∙ ap (λ u. u.plain.keep) same ∙ (is.open_ unclosed).keep in
        let right = word-cut_at A i.automaton front rest t.place i.cut
        (subst (λ l. IsMaskPlace (A.Reaches i.automaton No) l t.place) (sym both) masks.1.place)
        (masks.0 ∙ ap length (sym both)) kept (is.course.open_ unclosed) refl is.course.filled cuts in
        (right.0, subst (λ l. IsWordMaskCut m l place) both right.1)

    module _ {fresh taken : Steps} (none : AreNone fresh)
        (cost : CostsReading (A.built i.automaton) so_far i.masker.place.at t.place.at fresh taken) where
      -- what the new bytes cost is paid for
      pub masked-paid : IsNewPaid (word_mask_by A i) taken
      masked-paid live after =
          let d = (A.built i.automaton).deterministic in
          let m = (A.built i.automaton).dictionary in
          let p = i.masker.place.at in
          let before = live-some in
          let was = is.lookups before.0 before.1 in
          let first : slice_range so_far 0 p ≡ front =
          ap (λ n. take n so_far) (let e : p - 0 ≡ p = omega arith in e) in
          let end = masks.0 in
          let last : slice_range so_far 0 t.place.at ≡ so_far = take_all (t.place.at - 0) so_far (omega (arith, end)) in
          let run : IsLookups d (t.place.at - p) (live_len front before.0) (live_len so_far live) fresh taken =
          subst (λ l. IsLookups d (t.place.at - p) (live_len l before.0) (live_len so_far live) fresh taken) first
          (subst (λ l. IsLookups d (t.place.at - p) (live_len (slice_range so_far 0 p) before.0) (live_len l live) fresh taken)
          last
          (cost before.0 live (subst (λ l. IsLive m false l before.0) (sym first) before.1)
          (subst (λ l. IsLive m false l live) (sym last) after))) in
          let bound = run.bound in
          let some = run.some in
          let least = is.course.paid.some in
          let inside = is.course.ordered.1 in
          let zero_looks = none.looked in
          let two = was.0 in (
            omega (arith, bound, two, end, zero_looks, inside),
            λ yes. let one = run.one yes in let e = was.1 yes in omega (arith, one, e, end, zero_looks, inside),
            omega (arith, some, end, zero_looks, least, inside),
            run.scanned ∙ none.scanned,
            run.moved ∙ none.moved,
          )

      -- how far it has come then
      pub masked-view : (place : ℕ) (sums : Steps) → sums.looked.value ≡ i.sums.looked.value + taken.looked.value
          → sums.scanned.value ≡ i.sums.scanned.value + taken.scanned.value
          → word_mask_at (A.built i.automaton) i.mask i.pieces.items i.closed place sums t
          ≡ masked_all (word_mask_by A i) place taken
      masked-view place sums looked scanned = λ j. record (word_mask_by A i) {
        from = ap (λ u. u.from) same j;
        at = masks.0 j;
        out = ap (λ u. u.out) same j;
        cut = place;
        looked = looked j;
        scanned = scanned j;
        moved = ap (λ u. u.plain.moved + u.masked.moved) same j;
      }

      -- and what it keeps is right
      pub masked-is : (place : ℕ) → i.cut ≤ place → IsWordMaskCut (A.built i.automaton).dictionary so_far place
          → IsStreamWordMask (A.Reaches i.automaton No) (masked_all (word_mask_by A i) place taken) t i.over
      masked-is place later cut =
          let ready = is.course.ready in
          record {
            course = course-masked (word_mask_by A i) place taken masked-paid unclosed (omega (arith, ready, later))
                cut.final.0 cut is.course;
            open_ = λ e. masker-masked (is.open_ unclosed) same masks;
            all = λ closed. absurd (false≢true (sym unclosed ∙ closed));
            shows = λ closed. absurd (false≢true (sym unclosed ∙ closed));
            lookups = paid-masked (word_mask_by A i) place taken masked-paid;
            countable = is.countable;
            uncountable = is.uncountable;
          }

  -- ---- nothing more comes

  -- each word is masked, and all is ready
  pub finished-is : {t : WordMasker} → i.masker.place.at ≡ length so_far
      → t ≡ record i.masker { out = i.cut; place = t.place; masked = record i.masker.masked { bytes = t.masked.bytes } }
      → MasksKnown (A.built i.automaton).dictionary (A.Reaches i.automaton No) i.mask i.masker.from true so_far
      t.place t.masked.bytes
      → (word_mask_at (A.built i.automaton) i.mask i.pieces.items true t.place.at i.sums t
      ≡ finished_mask (word_mask_by A i))
      × IsStreamWordMask (A.Reaches i.automaton No)
      (word_mask_at (A.built i.automaton) i.mask i.pieces.items true t.place.at i.sums t) t i.over
  finished-is {t} all same masks =
      let end : t.place.at ≡ i.masker.place.at = masks.0 ∙ sym all in
      let from = ap (λ u. u.from) same in
      let view : word_mask_at (A.built i.automaton) i.mask i.pieces.items true t.place.at i.sums t
      ≡ finished_mask (word_mask_by A i) = λ j. record (word_mask_by A i) {
        closed = true;
        from = from j;
        at = end j;
        out = ap (λ u. u.out) same j;
        cut = end j;
        moved = ap (λ u. u.plain.moved + u.masked.moved) same j;
      } in (
        view,
        subst (λ s. IsStreamWordMask (A.Reaches i.automaton No) s t i.over) (sym view)
            (record {
              course = course-finished (word_mask_by A i) is.course;
              open_ = λ open_. absurd (false≢true (sym open_));
              all = λ closed. all;
              shows = λ closed.
                  subst
                  (λ n. ShowsMasked (A.built i.automaton).dictionary i.mask n (known_to true so_far) so_far t.masked.bytes)
                  (sym from) masks.1.shows;
              lookups = is.lookups;
              countable = is.countable;
              uncountable = is.uncountable;
            }),
      )
