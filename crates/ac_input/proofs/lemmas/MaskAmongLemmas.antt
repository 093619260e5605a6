-- What holds of a masked text whichever occurrences count: it is the only one, and what occurs in it lies beside what was
-- masked.
use Rattle.std.proofs.Common.{◌≡◌, ◌⊎◌, ◌↔◌, inl, inr, ⊎_elim, ℕ, zero, suc, ◌+◌, ◌-◌, ◌<◌, ◌≤◌, true, false, cond, List, [], ◌∷◌, length, take, IsTrue, Contains, slice_index, slice_index_or, slice_range, refl, sym, ap, subst, ◌∙◌, arith}
use Rattle.std.specs.List.{list_any}
use Rattle.std.proofs.lemmas.Bool.{and_parts, and_from, false≢true, cases_lt, cases_Bool, leb-true, le-leb, ltb-true, lt-ltb}
use Rattle.std.proofs.lemmas.List.{ext_get_or, get_or-take, get_or_past, length-take-le}
use Rattle.std.proofs.lemmas.List.Folds.{Any-from_list_any, list_any_at}
use Rattle.ac_input.specs.Same.{same_text}
use Rattle.ac_input.specs.Occurrence.{Search, Occurrence, Occurs}
use Rattle.ac_input.specs.Unused.{IsUnused}
use Rattle.ac_input.specs.Mask.{Covers, IsCoveredAmong, IsMaskedAmong, covers, masked_from, masked_among, in_masked_among}
use Rattle.ac_input.proofs.lemmas.OrderLemmas.{slice_range-length}
use Rattle.ac_input.proofs.lemmas.AmongLemmas.{AreCounted}
use Rattle.ac_input.proofs.lemmas.UnusedLemmas.{index-part, unused-uncovered}

-- ---- what a list covers

-- where the test passes, the occurrence covers the place
covers-place : (at : ℕ) (o : Occurrence) → covers at o ≡ true → Covers o at
covers-place at o h =
    let parts = and_parts _ _ h in
    (leb-true o.start at parts.0, ltb-true at o.end parts.1)

-- where the occurrence covers the place, the test passes
place-covers : (at : ℕ) (o : Occurrence) → Covers o at → covers at o ≡ true
place-covers at o h = and_from _ _ (le-leb o.start at h.0) (lt-ltb at o.end h.1)

-- one of the occurrences covers the place
abbrev pub IsCoveredBy : List Occurrence → ℕ → Type 0
IsCoveredBy os at = (o : Occurrence) × Contains os o × Covers o at

-- where the test of a list passes, one of its occurrences covers the place
pub any-covered : (at : ℕ) (os : List Occurrence) → list_any (covers at) os ≡ true → IsCoveredBy os at
any-covered at os h =
    let any = Any-from_list_any (covers at) os h in
    (any.1, (any.0, any.2, any.3), covers-place at any.1 any.4)

-- where one of its occurrences covers the place, the test of a list passes
pub covered-any : (at : ℕ) (os : List Occurrence) → IsCoveredBy os at → list_any (covers at) os ≡ true
covered-any at os h =
    let o = h.0 in
    let is : covers at (slice_index_or os h.1.0 o) ≡ true = ap (covers at) h.1.2 ∙ place-covers at o h.2 in
    list_any_at (covers at) os h.1.0 o h.1.1 is

-- ---- what is computed from a list

-- masking keeps the length
masked_from-length : (at : ℕ) (bs : List ℕ) (mask : ℕ) (os : List Occurrence)
    → length (masked_from at bs mask os) ≡ length bs
masked_from-length at [] mask os = refl
masked_from-length at (b ∷ bs) mask os = ap suc (masked_from-length (at + 1) bs mask os)

-- each byte is the mask where its place is covered, and itself where it isn't
masked_from-byte : (at : ℕ) (bs : List ℕ) (mask : ℕ) (os : List Occurrence) (k : ℕ) {place : ℕ} → at + k ≡ place
    → k < length bs
    → slice_index (masked_from at bs mask os) k ≡ cond (list_any (covers place) os) mask (slice_index bs k)
masked_from-byte at [] mask os k is within = absurd (omega arith)
masked_from-byte at (b ∷ bs) mask os zero {place} is within =
    let here : at ≡ place = omega arith in
    ap (λ n. cond (list_any (covers n) os) mask b) here
masked_from-byte at (b ∷ bs) mask os (suc k) is within =
    masked_from-byte (at + 1) bs mask os k (omega arith) (omega arith)

-- a place that is covered by one of the occurrences has the mask
pub masked_from-covered : (at : ℕ) (bs : List ℕ) (mask : ℕ) (os : List Occurrence) (k : ℕ) {place : ℕ}
    → at + k ≡ place → k < length bs → IsCoveredBy os place → slice_index (masked_from at bs mask os) k ≡ mask
masked_from-covered at bs mask os k {place} is within h =
    masked_from-byte at bs mask os k is within
    ∙ ap (λ b. cond b mask (slice_index bs k)) (covered-any place os h)

-- a place that no occurrence covers has its byte
pub masked_from-kept : (at : ℕ) (bs : List ℕ) (mask : ℕ) (os : List Occurrence) (k : ℕ) {place : ℕ}
    → at + k ≡ place → k < length bs → (¬ IsCoveredBy os place)
    → slice_index (masked_from at bs mask os) k ≡ slice_index bs k
masked_from-kept at bs mask os k {place} is within none =
    ⊎_elim
    (λ (yes : list_any (covers place) os ≡ true). absurd (none (any-covered place os yes)))
    (λ (no : list_any (covers place) os ≡ false). masked_from-byte at bs mask os k is within
    ∙ ap (λ b. cond b mask (slice_index bs k)) no)
    (cases_Bool (list_any (covers place) os))

-- texts of one length that are alike from one place to another have one part there
slice_range-alike : (x y : List ℕ) (a b : ℕ) → length x ≡ length y → b ≤ length x → a ≤ b
    → ((at : ℕ) → a ≤ at → at < b → slice_index x at ≡ slice_index y at) → slice_range x a b ≡ slice_range y a b
slice_range-alike x y a b same within le alike =
    let left : length (slice_range x a b) ≡ b - a = slice_range-length x a le within in
    let right : length (slice_range y a b) ≡ b - a = slice_range-length y a le (omega arith) in
    ext_get_or 0 (slice_range x a b) (slice_range y a b) (left ∙ sym right)
    (λ k h. let few : k < b - a = omega arith in
    index-part x a b refl few ∙ alike (a + k) (omega arith) (omega arith) ∙ sym (index-part y a b refl few))

module _ {Is : Search → Occurrence → Type 0} {all : Search → List Occurrence} (counted : AreCounted Is all) where
  -- ---- covered places

  -- a place that one of the list covers is covered
  listed-covered : (s : Search) (at : ℕ) → IsCoveredBy (all s) at → IsCoveredAmong Is s at
  listed-covered s at h = (h.0, counted.counts s h.0 h.1, h.2)

  -- a covered place is covered by one of the list
  covered-listed : (s : Search) (at : ℕ) → s.end ≤ length s.haystack → IsCoveredAmong Is s at → IsCoveredBy (all s) at
  covered-listed s at inside h = (h.0, counted.listed s h.0 inside h.1, h.2)

  -- each place is covered or isn't
  pub among-covered_cases : (s : Search) (at : ℕ) → s.end ≤ length s.haystack
      → IsCoveredAmong Is s at ⊎ (¬ IsCoveredAmong Is s at)
  among-covered_cases s at inside =
      ⊎_elim
      (λ yes. inl (listed-covered s at (any-covered at (all s) yes)))
      (λ no. inr (λ h. false≢true (sym no ∙ covered-any at (all s) (covered-listed s at inside h))))
      (cases_Bool (list_any (covers at) (all s)))

  -- a covered place is one of the haystack
  pub among-covered_within : (s : Search) (at : ℕ) → s.end ≤ length s.haystack → IsCoveredAmong Is s at
      → at < length s.haystack
  among-covered_within s at inside h = let w = (counted.occurs s h.0 h.1).within in let c = h.2 in omega arith

  -- ---- what is computed

  -- masking by occurrences that cover exactly the covered places is masking
  pub among-masked_from : (mask : ℕ) (s : Search) (os : List Occurrence) → s.end ≤ length s.haystack
      → ((at : ℕ) → IsCoveredBy os at ↔ IsCoveredAmong Is s at)
      → IsMaskedAmong Is mask s (masked_from 0 s.haystack mask os)
  among-masked_from mask s os inside alike =
      record {
        len = masked_from-length 0 s.haystack mask os;
        covered = λ at h.
            masked_from-covered 0 s.haystack mask os at (omega arith) (among-covered_within s at inside h)
            ((alike at).1 h);
        kept = λ at none.
            ⊎_elim
            (λ (within : at < length s.haystack).
            masked_from-kept 0 s.haystack mask os at (omega arith) within (λ h. none ((alike at).0 h)))
            (λ (past : length s.haystack ≤ at).
            let len = masked_from-length 0 s.haystack mask os in
            get_or_past (masked_from 0 s.haystack mask os) at 0 (omega (arith, len))
            ∙ sym (get_or_past s.haystack at 0 past))
            (cases_lt at (length s.haystack));
      }

  -- the computed masked haystack is masked
  pub among-masked : (mask : ℕ) (s : Search) → s.end ≤ length s.haystack
      → IsMaskedAmong Is mask s (masked_among all mask s)
  among-masked mask s inside =
      among-masked_from mask s (all s) inside (λ at. (listed-covered s at, covered-listed s at inside))

  -- a haystack is masked in only one way
  masked-unique : (mask : ℕ) (s : Search) (a b : List ℕ) → s.end ≤ length s.haystack → IsMaskedAmong Is mask s a
      → IsMaskedAmong Is mask s b → a ≡ b
  masked-unique mask s a b inside g h =
      ext_get_or 0 a b (g.len ∙ sym h.len)
      (λ at within. ⊎_elim
      (λ (yes : IsCoveredAmong Is s at). g.covered at yes ∙ sym (h.covered at yes))
      (λ (no : ¬ IsCoveredAmong Is s at). g.kept at no ∙ sym (h.kept at no))
      (among-covered_cases s at inside))

  -- a text is a masked haystack exactly where it is the computed one
  pub among-masked_one : (mask : ℕ) (s : Search) (text : List ℕ) → s.end ≤ length s.haystack
      → IsMaskedAmong Is mask s text ↔ (text ≡ masked_among all mask s)
  among-masked_one mask s text inside = (
    λ h. masked-unique mask s text (masked_among all mask s) inside h (among-masked mask s inside),
    λ e. subst (IsMaskedAmong Is mask s) (sym e) (among-masked mask s inside),
  )

  -- where two haystacks have the same bytes before a place, and the same places covered, so have their masked texts
  pub among-front : (mask : ℕ) (x y : Search) (place : ℕ) → x.end ≤ length x.haystack → y.end ≤ length y.haystack
      → place ≤ length x.haystack → place ≤ length y.haystack
      → ((at : ℕ) → at < place → slice_index x.haystack at ≡ slice_index y.haystack at)
      → ((at : ℕ) → at < place → IsCoveredAmong Is x at ↔ IsCoveredAmong Is y at)
      → take place (masked_among all mask x) ≡ take place (masked_among all mask y)
  among-front mask x y place inside within le also same alike =
      let a = masked_among all mask x in
      let b = masked_among all mask y in
      let one = among-masked mask x inside in
      let other = among-masked mask y within in
      let left : length (take place a) ≡ place = length-take-le place a (omega (arith, one.len)) in
      let right : length (take place b) ≡ place = length-take-le place b (omega (arith, other.len)) in
      ext_get_or 0 (take place a) (take place b) (left ∙ sym right)
      (λ at h. let before : at < place = omega arith in
      get_or-take place a at 0 before
      ∙ ⊎_elim
      (λ (yes : IsCoveredAmong Is y at). one.covered at ((alike at before).1 yes) ∙ sym (other.covered at yes))
      (λ (no : ¬ IsCoveredAmong Is y at).
      one.kept at (λ c. no ((alike at before).0 c)) ∙ same at before ∙ sym (other.kept at no))
      (among-covered_cases y at within)
      ∙ sym (get_or-take place b at 0 before))

  -- ---- what occurs in the masked text

  -- no byte of an occurrence in the masked text is one that was masked, if no pattern has the mask
  pub among-uncovered : (mask : ℕ) (s : Search) (o : Occurrence) → s.end ≤ length s.haystack → IsUnused s mask
      → Occurs (in_masked_among all mask s) o → (at : ℕ) → Covers o at → ¬ IsCoveredAmong Is s at
  among-uncovered mask s o inside unused occurs at c h =
      let is = among-masked mask s inside in
      let within : s.end ≤ length (masked_among all mask s) = omega (arith, is.len) in
      unused-uncovered {s = in_masked_among all mask s} {at = at} within
      (subst (IsUnused s) (sym (is.covered at h)) unused) occurs c.0 c.1

  -- with a mask that no pattern has, what occurs in the masked text occurs in the haystack
  pub among-masked_occurs : (mask : ℕ) (s : Search) (o : Occurrence) → s.end ≤ length s.haystack → IsUnused s mask
      → Occurs (in_masked_among all mask s) o → Occurs s o
  among-masked_occurs mask s o inside unused occurs =
      let is = among-masked mask s inside in
      let w = occurs.within in
      let part : slice_range (masked_among all mask s) o.start o.end ≡ slice_range s.haystack o.start o.end =
      slice_range-alike (masked_among all mask s) s.haystack o.start o.end is.len (omega (arith, is.len)) w.1
      (λ at from to. is.kept at (among-uncovered mask s o inside unused occurs at (from, to))) in
      record {
        within = w;
        same = (
          occurs.same.0,
          occurs.same.1,
          subst (λ xs. IsTrue (same_text s.pairing occurs.same.0 xs)) part occurs.same.2,
        );
        anchor = occurs.anchor;
      }
