-- A masked text as it grows, by the longest occurrence that ends with the new bytes; and where a state's list tells it.
use Rattle.std.proofs.Common.{◌≡◌, ◌≢◌, ◌⊎◌, inl, inr, ⊎_elim, ℕ, ◌+◌, ◌-◌, ◌<◌, ◌≤◌, false, List, [], ◌∷◌, ◌++◌, length, take, replicate, map, Option, Some, None, Contains, slice_get, slice_index, Greater, refl, sym, subst, ◌∙◌, arith, length-append}
use Rattle.std.proofs.lemmas.Bool.{cases_lt}
use Rattle.std.proofs.lemmas.List.{get_or-take, get_or_past, get_or_append_left, get_or-append_right, get_or-replicate, length-replicate, length-take-le}
use Rattle.ac_input.specs.declared.search.MatchKind.TheVariants.{Standard}
use Rattle.ac_input.specs.declared.search.Anchored.TheVariants.{No}
use Rattle.ac_input.specs.Occurrence.{Search, Occurrence, Occurs}
use Rattle.ac_input.specs.Best.{preference, IsLeast}
use Rattle.ac_input.specs.Listing.{ListsAll}
use Rattle.ac_input.specs.Dictionary.{Dictionary, whole}
use Rattle.ac_input.specs.Tells.{ending, TellsUnanchored, Tells}
use Rattle.ac_input.specs.Mask.{IsCovered, IsMasked, masked, IsLongestEnding, masked_to_end}
use Rattle.ac_input.proofs.lemmas.ContainsLemmas.{Contains-nil, Contains-head, Contains-cases}
use Rattle.ac_input.proofs.lemmas.OrderLemmas.{preference-itself, less-not_greater}
use Rattle.ac_input.proofs.lemmas.RisingLemmas.{IsRising-head}
use Rattle.ac_input.proofs.lemmas.BestLemmas.{IsLeast-like}
use Rattle.ac_input.proofs.lemmas.LiveLemmas.{occurs-append, occurs-front}
use Rattle.ac_input.proofs.lemmas.MaskLemmas.{masked-masked, masked-one, covered-append, covered-within, longest-no_later}

-- ---- the longest occurrence at an end

-- the longest occurrence that ends where a text ends is the longest that ends there, however the text goes on
pub longest-append : (m : Dictionary) (text more : List ℕ) (r : Option Occurrence)
    → IsLongestEnding (whole m text false) (length text) r
    → IsLongestEnding (whole m (text ++ more) false) (length text) r
longest-append m text more r h =
    IsLeast-like Standard
    (λ o. (λ p. (occurs-append m more p.0, p.1), λ p. let ends = p.1 in (occurs-front m more (omega arith) p.0, ends)))
    r h

-- the first of a list that has exactly the occurrences of a fact is the least of them
pub first-least : (P : Occurrence → Type 0) (os : List Occurrence) → ListsAll P os
    → IsLeast Standard P (slice_get os 0)
first-least P [] lists = λ o h. Contains-nil ((lists.1 o).1 h)
first-least P (b ∷ os) lists = (
  (lists.1 b).0 (Contains-head os),
  λ o h. ⊎_elim
      (λ (e : b ≡ o). subst (λ x. preference Standard b x ≢ Greater) e (preference-itself Standard b))
      (λ (c : Contains os o). less-not_greater (IsRising-head b os lists.0 c))
      (Contains-cases os ((lists.1 o).1 h)),
)

-- under standard the first pattern of a state's list is the longest that ends where the text ends
pub longest-told : (m : Dictionary) (text ns : List ℕ) → m.kind ≡ Standard → Tells m No text ns
    → IsLongestEnding (whole m text false) (length text) (slice_get (map (ending m text) ns) 0)
longest-told m text ns standard tells =
    first-least (λ o. Occurs (whole m text false) o × (o.end ≡ length text)) (map (ending m text) ns)
    (subst (λ kind. TellsUnanchored kind m text ns) standard tells)

-- ---- some bytes more

module _ (mask : ℕ) (m : Dictionary) (text more : List ℕ) where
  -- the masked text so far, and the bytes
  abbrev so_far : List ℕ
  so_far = masked mask (whole m text false) ++ more

  -- the search of the text with the bytes
  abbrev grown : Search
  grown = whole m (text ++ more) false

  -- where the text with the bytes ends
  abbrev last : ℕ
  last = length text + length more

  before : IsMasked mask (whole m text false) (masked mask (whole m text false))
  before = masked-masked mask (whole m text false) (omega arith)

  so_far-length : length so_far ≡ last
  so_far-length =
      let front = before.len in
      omega (arith, front, length-append (masked mask (whole m text false)) more)

  grown_text-length : length (text ++ more) ≡ last
  grown_text-length = length-append text more

  -- what was covered has the mask
  so_far-covered : (at : ℕ) → IsCovered (whole m text false) at → slice_index so_far at ≡ mask
  so_far-covered at h =
      let within = covered-within (whole m text false) at (omega arith) h in
      let front = before.len in
      get_or_append_left (masked mask (whole m text false)) more 0 at (omega arith) ∙ before.covered at h

  -- what wasn't covered has its byte
  so_far-kept : (at : ℕ) → ¬ IsCovered (whole m text false) at
      → slice_index so_far at ≡ slice_index (text ++ more) at
  so_far-kept at none =
      let front = before.len in
      ⊎_elim
      (λ (within : at < length text).
      get_or_append_left (masked mask (whole m text false)) more 0 at (omega arith) ∙ before.kept at none
      ∙ sym (get_or_append_left text more 0 at within))
      (λ (past : length text ≤ at).
      get_or-append_right (masked mask (whole m text false)) more (length text) at 0 front past
      ∙ sym (get_or-append_right text more (length text) at 0 refl past))
      (cases_lt at (length text))

  -- no occurrence ends within the bytes but at their end
  module _ (quiet : (q : Occurrence) → Occurs grown q → length text < q.end → q.end ≡ last) where
    -- a place that is covered now was covered before, or by an occurrence that ends with the bytes
    covered-before : (at : ℕ) → IsCovered grown at
        → IsCovered (whole m text false) at
        ⊎ ((q : Occurrence) × Occurs grown q × (q.end ≡ last) × (q.start ≤ at))
    covered-before at h =
        let q = h.0 in
        let c = h.2 in
        ⊎_elim
        (λ (new : length text < q.end). inr (q, h.1, quiet q h.1 new, c.0))
        (λ (old : q.end ≤ length text). inl (q, occurs-front m more old h.1, c))
        (cases_lt (length text) q.end)

    -- the masked text where nothing ends with the bytes
    grown-none : IsLongestEnding grown last None → IsMasked mask grown so_far
    grown-none none =
        record {
          len = so_far-length ∙ sym grown_text-length;
          covered = λ at h.
              ⊎_elim
              (λ (old : IsCovered (whole m text false) at). so_far-covered at old)
              (λ new. absurd (none new.0 (new.1, new.2)))
              (covered-before at h);
          kept = λ at no. so_far-kept at (λ h. no (covered-append m text more false at h));
        }

    module _ (o : Occurrence) (least : IsLongestEnding grown last (Some o)) where
      starts : o.start ≤ last
      starts = let w = least.0.0.within in let long = grown_text-length in omega arith

      front-length : length (take o.start so_far) ≡ o.start
      front-length = let len = so_far-length in let le = starts in length-take-le o.start so_far (omega arith)

      -- before the start the text is as it was
      grown-front : (at : ℕ) → at < o.start
          → slice_index (masked_to_end mask so_far (Some o)) at ≡ slice_index so_far at
      grown-front at h =
          let len = front-length in
          get_or_append_left (take o.start so_far) (replicate (length so_far - o.start) mask) 0 at (omega arith)
          ∙ get_or-take o.start so_far at 0 h

      -- from the start on it is the mask
      grown-end : (at : ℕ) → o.start ≤ at → at < last → slice_index (masked_to_end mask so_far (Some o)) at ≡ mask
      grown-end at from to =
          let len = so_far-length in
          get_or-append_right (take o.start so_far) (replicate (length so_far - o.start) mask) o.start at 0
          front-length from
          ∙ get_or-replicate (length so_far - o.start) (at - o.start) mask 0 (omega arith)

      grown-length : length (masked_to_end mask so_far (Some o)) ≡ last
      grown-length =
          let front = front-length in
          let len = so_far-length in
          let le = starts in
          let rest = length-replicate (length so_far - o.start) mask in
          omega (
            arith,
            front,
            len,
            le,
            rest,
            length-append (take o.start so_far) (replicate (length so_far - o.start) mask),
          )

      -- the masked text where the longest occurrence that ends with the bytes is given
      grown-some : IsMasked mask grown (masked_to_end mask so_far (Some o))
      grown-some =
          let long = grown_text-length in
          let len = grown-length in
          let ends : o.end ≡ last = least.0.1 in
          record {
            len = len ∙ sym long;
            covered = λ at h.
                let within = covered-within grown at (omega arith) h in
                ⊎_elim
                (λ (front : at < o.start). grown-front at front
                ∙ ⊎_elim
                (λ (old : IsCovered (whole m text false) at). so_far-covered at old)
                (λ new. let no_later = longest-no_later grown o new.0 last least new.1 new.2 in
                let from = new.3 in absurd (omega arith))
                (covered-before at h))
                (λ (after : o.start ≤ at). grown-end at after (omega arith))
                (cases_lt at o.start);
            kept = λ at no.
                ⊎_elim
                (λ (front : at < o.start). grown-front at front
                ∙ so_far-kept at (λ h. no (covered-append m text more false at h)))
                (λ (after : o.start ≤ at).
                ⊎_elim
                (λ (within : at < last). absurd (no (o, least.0.0, (after, omega arith))))
                (λ (past : last ≤ at).
                get_or_past (masked_to_end mask so_far (Some o)) at 0 (omega arith)
                ∙ sym (get_or_past (text ++ more) at 0 (omega arith)))
                (cases_lt at last))
                (cases_lt at o.start);
          }

-- A text is masked as it grows: where no occurrence ends within the bytes that come but at their end, by the longest
-- that ends there.
pub masked-grown : (mask : ℕ) (m : Dictionary) (text more : List ℕ) (r : Option Occurrence)
    → ((q : Occurrence) → Occurs (whole m (text ++ more) false) q → length text < q.end
    → q.end ≡ length text + length more)
    → IsLongestEnding (whole m (text ++ more) false) (length text + length more) r
    → masked mask (whole m (text ++ more) false) ≡ masked_to_end mask (masked mask (whole m text false) ++ more) r
masked-grown mask m text more None quiet none =
    sym ((masked-one mask (grown mask m text more) (so_far mask m text more) (omega arith)).0
    (grown-none mask m text more quiet none))
masked-grown mask m text more (Some o) quiet least =
    sym ((masked-one mask (grown mask m text more) (masked_to_end mask (so_far mask m text more) (Some o))
    (omega arith)).0 (grown-some mask m text more quiet o least))

-- a text is masked as it grows by one byte
pub masked-by_longest : (mask : ℕ) (m : Dictionary) (text : List ℕ) (byte : ℕ) (r : Option Occurrence)
    → IsLongestEnding (whole m (text ++ byte ∷ []) false) (length text + 1) r
    → masked mask (whole m (text ++ byte ∷ []) false)
    ≡ masked_to_end mask (masked mask (whole m text false) ++ byte ∷ []) r
masked-by_longest mask m text byte r least =
    masked-grown mask m text (byte ∷ []) r
    (λ q h after. let w = h.within in let long = length-append text (byte ∷ []) in omega arith) least
