-- What a masking of the whole words of a stream keeps stays right: as bytes are dropped, come, and are masked.
use Rattle.std.proofs.Common.{◌≡◌, inl, inr, ⊎_elim, ℕ, ◌+◌, ◌-◌, ◌<◌, ◌≤◌, false, List, ◌++◌, length, drop, slice_index, slice_range, refl, sym, ap, subst, ◌∙◌, arith, length-append, length-drop}
use Rattle.std.proofs.lemmas.Bool.{cases_lt}
use Rattle.std.proofs.lemmas.List.{drop-append-le, drop-drop, ext_get_or, get_or-append_right, get_or-drop, get_or_append_left}
use Rattle.ac_input.specs.Number.{StateID}
use Rattle.ac_input.specs.Dictionary.{Dictionary, whole}
use Rattle.ac_input.specs.Mask.{IsCoveredAmong}
use Rattle.ac_input.specs.Occurrence.{Occurrence}
use Rattle.ac_input.specs.Word.{OccursWhole}
use Rattle.ac_input.specs.Work.{longest}
use Rattle.ac_input.proofs.lemmas.BeginningLemmas.{slice_range-append}
use Rattle.ac_input.proofs.lemmas.LiveLemmas.{occurs-append, occurs-front}
use Rattle.ac_input.proofs.lemmas.MaskAmongLemmas.{among-covered_cases, among-masked}
use Rattle.ac_input.proofs.lemmas.OrderLemmas.{slice_range-length}
use Rattle.ac_input.proofs.lemmas.UnusedLemmas.{index-part}
use Rattle.ac_input.proofs.lemmas.WordLemmas.{whole-counted, word-stays}
use Rattle.ac_automaton.specs.Automaton.{Built}
use Rattle.ac_automaton.specs.Masking.Words.{EndsBefore, MasksKnown, ShowsMasked, masked_words_in}
use Rattle.ac_automaton.specs.Masking.Words.Stream.{AreAlike, IsMaskerRolled, IsWordMasker, words_grown}
use Rattle.ac_automaton.specs.declared.stream.mask.words.WordMasker.{WordMasker}

-- ---- what is shown masked

-- without the first bytes
pub shows-dropped : (m : Dictionary) (mask from end : ℕ) (x bytes : List ℕ) (k : ℕ) → k ≤ length bytes
    → ShowsMasked m mask from end x bytes → ShowsMasked m mask (from + k) end x (drop k bytes)
shows-dropped m mask from end x bytes k few shows =
    let len = shows.len in
    let left = length-drop k bytes in
    record {
      len = omega arith;
      covered = λ i h.
          let there : from + k + i ≡ from + (k + i) = omega arith in
          get_or-drop k bytes i 0
          ∙ shows.covered (k + i) (subst (IsCoveredAmong (EndsBefore end) (whole m x false)) there h);
      kept = λ i no.
          let there : from + (k + i) ≡ from + k + i = omega arith in
          get_or-drop k bytes i 0
          ∙ shows.kept (k + i) (λ h. no (subst (IsCoveredAmong (EndsBefore end) (whole m x false)) there h))
          ∙ ap (slice_index x) there;
    }

module _ (m : Dictionary) (end : ℕ) (x piece : List ℕ) (within : end ≤ length x) where
  -- a word that ends before the end of a text is one of the longer text
  covered-longer : (at : ℕ) → IsCoveredAmong (EndsBefore end) (whole m x false) at
      → IsCoveredAmong (EndsBefore end) (whole m (x ++ piece) false) at
  covered-longer at h =
      let o = h.0 in
      let w = h.1.0.0.within in
      let e = h.1.1 in
      (o, ((occurs-append m piece h.1.0.0, word-stays x piece o w.1 (omega arith) ∙ h.1.0.1), e), h.2)

  -- and the other way about
  covered-shorter : (at : ℕ) → IsCoveredAmong (EndsBefore end) (whole m (x ++ piece) false) at
      → IsCoveredAmong (EndsBefore end) (whole m x false) at
  covered-shorter at h =
      let o = h.0 in
      let w = h.1.0.0.within in
      let e = h.1.1 in
      (o, ((occurs-front m piece (omega arith) h.1.0.0, sym (word-stays x piece o w.1 (omega arith)) ∙ h.1.0.1), e), h.2)

  -- with the next bytes, which aren't masked
  pub shows-grown : (mask from : ℕ) (bytes : List ℕ) → ShowsMasked m mask from end x bytes
      → ShowsMasked m mask from end (x ++ piece) (bytes ++ piece)
  shows-grown mask from bytes shows =
      let len = shows.len in
      let both = length-append x piece in
      let more = length-append bytes piece in
      record {
        len = omega arith;
        covered = λ i h.
            let back = covered-shorter (from + i) h in
            let w = back.1.0.0.within in
            let c = back.2 in
            get_or_append_left bytes piece 0 i (omega arith) ∙ shows.covered i back;
        kept = λ i no.
            ⊎_elim
            (λ (lt : i < length bytes).
            get_or_append_left bytes piece 0 i lt
            ∙ shows.kept i (λ h. no (covered-longer (from + i) h))
            ∙ sym (get_or_append_left x piece 0 (from + i) (omega arith)))
            (λ (le : length bytes ≤ i).
            let there : i - length bytes ≡ from + i - length x = omega arith in
            get_or-append_right bytes piece (length bytes) i 0 refl le
            ∙ ap (slice_index piece) there
            ∙ sym (get_or-append_right x piece (length x) (from + i) 0 refl (omega arith)))
            (cases_lt i (length bytes));
      }

-- where each word that begins before a cut ends before the place up to which words are masked, the bytes before the cut are
-- those of the masked text
pub shows-part : (b : Built) (mask from end : ℕ) (x bytes : List ℕ) (a cut : ℕ) → from ≤ a → a ≤ cut → cut ≤ length x
    → ((o : Occurrence) → OccursWhole (whole b.dictionary x false) o → o.start < cut → o.end < end)
    → ShowsMasked b.dictionary mask from end x bytes
    → slice_range bytes (a - from) (cut - from) ≡ slice_range (masked_words_in b mask x) a cut
shows-part b mask from end x bytes a cut le further within final shows =
    let s = whole b.dictionary x false in
    let M = masked_words_in b mask x in
    let is = among-masked whole-counted mask s (omega arith) in
    let len = shows.len in
    let long = is.len in
    let left : length (slice_range bytes (a - from) (cut - from)) ≡ cut - from - (a - from) =
    slice_range-length bytes (a - from) {b = cut - from} (omega arith) (omega arith) in
    let right : length (slice_range M a cut) ≡ cut - a = slice_range-length M a {b = cut} further (omega arith) in
    ext_get_or 0 (slice_range bytes (a - from) (cut - from)) (slice_range M a cut) (omega arith)
    (λ k lt.
    let i : ℕ = a - from + k in
    let there : from + i ≡ a + k = omega arith in
    index-part bytes (a - from) (cut - from) {k = k} {at = i} refl (omega arith)
    ∙ ⊎_elim
    (λ (yes : IsCoveredAmong OccursWhole s (a + k)).
    let c = yes.2 in
    let before = final yes.0 yes.1 (omega arith) in
    shows.covered i (subst (IsCoveredAmong (EndsBefore end) s) (sym there) (yes.0, (yes.1, before), yes.2))
    ∙ sym (is.covered (a + k) yes))
    (λ (no : ¬ IsCoveredAmong OccursWhole s (a + k)).
    shows.kept i (λ h. let c = subst (IsCoveredAmong (EndsBefore end) s) there h in no (c.0, c.1.0, c.2))
    ∙ ap (slice_index x) there ∙ sym (is.kept (a + k) no))
    (among-covered_cases whole-counted s (a + k) (omega arith))
    ∙ sym (index-part M a cut {k = k} {at = a + k} refl (omega arith)))

-- ---- what it keeps

-- the held bytes reach to the end of the text
pub masker-held : {b : Built} {Reaches : List ℕ → StateID → Type 0} {mask : ℕ} {x : List ℕ} {s : WordMasker}
    → IsWordMasker b Reaches mask x s → s.from + length s.plain.bytes ≡ length x
masker-held {x = x} {s} is =
    let e = ap length is.shown in let d = length-drop s.from x in let le = is.within in omega arith

-- all else that it keeps is right wherever the next write begins
pub masker-out : {b : Built} {Reaches : List ℕ → StateID → Type 0} {mask : ℕ} {x : List ℕ} {s : WordMasker} (out : ℕ)
    → s.from ≤ out → IsWordMasker b Reaches mask x s → IsWordMasker b Reaches mask x (record s { out = out })
masker-out out held is = record {
  alike = record {
    keep = is.alike.keep;
    len = is.alike.len;
    read = is.alike.read;
    plain = is.alike.plain;
    masked = is.alike.masked;
  };
  keep = is.keep;
  read = is.read;
  within = is.within;
  shown = is.shown;
  has = is.has;
  near = is.near;
  held = held;
}

module _ {b : Built} {Reaches : List ℕ → StateID → Type 0} {mask : ℕ} {x : List ℕ} {s t : WordMasker}
    (is : IsWordMasker b Reaches mask x s) where
  -- the last bytes were moved to the front
  pub masker-rolled : s.place.at ≡ length x → length x ≤ s.out + longest b.dictionary.patterns → AreAlike t → IsMaskerRolled s t
      → IsWordMasker b Reaches mask x t
  masker-rolled all near alike (inl same) = subst (IsWordMasker b Reaches mask x) (sym same) is
  masker-rolled all near alike (inr full) =
      let held = masker-held is in
      let gone : ℕ = length s.plain.bytes - s.plain.keep in
      let keep = is.keep in
      let room = is.alike.plain.room in
      let size = full.0 in
      let len = is.alike.len in
      let few : s.plain.keep ≤ length s.plain.bytes = omega arith in
      subst (IsWordMasker b Reaches mask x) (sym full.1)
      (record {
        alike = subst AreAlike full.1 alike;
        keep = is.keep;
        read = is.read;
        within = omega arith;
        shown = ap (drop gone) is.shown ∙ drop-drop gone s.from x;
        has = record {
          place = is.has.place;
          shows = shows-dropped b.dictionary mask s.from s.place.at x s.masked.bytes gone (omega arith) is.has.shows;
        };
        near = λ some. omega arith;
        held = omega arith;
      })

  -- a piece came
  pub masker-grown : (piece : List ℕ) → s.place.at ≡ length x → AreAlike t → t ≡ words_grown s piece
      → IsWordMasker b Reaches mask (x ++ piece) t
  masker-grown piece all alike grown =
      let both = length-append x piece in
      let read = is.read in
      let within = is.within in
      subst (IsWordMasker b Reaches mask (x ++ piece)) (sym grown)
      (record {
        alike = subst AreAlike grown alike;
        keep = is.keep;
        read = omega arith;
        within = omega arith;
        shown = ap (λ l. l ++ piece) is.shown ∙ sym (drop-append-le s.from x piece within);
        has = record {
          place = record {
            within = omega arith;
            reads = subst (λ l. Reaches l s.place.sid) (sym (slice_range-append x piece (omega arith) is.has.place.within))
                is.has.place.reads;
          };
          shows = shows-grown b.dictionary s.place.at x piece is.has.place.within mask s.from s.masked.bytes is.has.shows;
        };
        near = is.near;
        held = is.held;
      })

  -- all that is known was masked, and more may come
  pub masker-masked : t ≡ record s { place = t.place; masked = record s.masked { bytes = t.masked.bytes } }
      → MasksKnown b.dictionary Reaches mask s.from false x t.place t.masked.bytes → IsWordMasker b Reaches mask x t
  masker-masked same masks =
      let was = is.has.place.within in
      let now = masks.0 in
      let len = masks.1.shows.len in
      let before = is.has.shows.len in
      let twins = is.alike.len in
      let within = is.alike.masked.within in
      let paid = is.alike.masked.paid in
      subst (IsWordMasker b Reaches mask x) (sym same)
      (record {
        alike = record {
          keep = is.alike.keep;
          len = omega arith;
          read = is.alike.read;
          plain = is.alike.plain;
          masked = record {
            keeps = is.alike.masked.keeps;
            room = is.alike.masked.room;
            within = omega arith;
            paid = omega arith;
          };
        };
        keep = is.keep;
        read = is.read;
        within = is.within;
        shown = is.shown;
        has = record {
          place = masks.1.place;
          shows = subst (λ n. ShowsMasked b.dictionary mask s.from n x t.masked.bytes) (sym now) masks.1.shows;
        };
        near = λ some. let far = is.near some in omega arith;
        held = is.held;
      })
