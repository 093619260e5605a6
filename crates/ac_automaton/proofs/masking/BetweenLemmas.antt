-- Bytes that get the mask from one place to another, and a stretch that has it already.
use Rattle.std.proofs.Common.{◌≡◌, ⊎_elim, ℕ, ◌+◌, ◌-◌, ◌<◌, ◌≤◌, List, ◌++◌, length, take, drop, replicate, slice_index, sym, ap, ap₂, ◌∙◌, arith, append_assoc, length-append, length-drop}
use Rattle.std.proofs.Math.Seq.{drop-append_seam}
use Rattle.std.proofs.lemmas.Bool.{cases_lt}
use Rattle.std.proofs.lemmas.List.Edits.{paste_all}
use Rattle.std.proofs.lemmas.Slice.{put_mid-paste}
use borrow.Rule.Slice.PartMut.{put_mid}
use Rattle.std.proofs.lemmas.List.{ext_get_or, get_or-append_right, get_or-drop, get_or-replicate, get_or-take, get_or_append_left, length-replicate, length-take-le}
use Rattle.ac_automaton.specs.Masking.{IsMaskedStretch, masked_between}
use Rattle.ac_automaton.specs.declared.masking.Stretch.{Stretch}

module _ (mask : ℕ) (bytes : List ℕ) (start end : ℕ) (order : start ≤ end) (within : end ≤ length bytes) where
  front-length : length (take start bytes) ≡ start
  front-length = length-take-le start bytes (omega (arith, order, within))

  rest-length : length (replicate (end - start) mask) ≡ end - start
  rest-length = length-replicate (end - start) mask

  -- as many bytes as before
  pub between-length : length (masked_between mask bytes start end) ≡ length bytes
  between-length =
      let a = front-length in
      let b = rest-length in
      let c = length-drop end bytes in
      let d = length-append (take start bytes) (replicate (end - start) mask ++ drop end bytes) in
      let e = length-append (replicate (end - start) mask) (drop end bytes) in
      omega (arith, order, within)

  -- before the start they are as they were
  pub between-before : (i : ℕ) → i < start → slice_index (masked_between mask bytes start end) i ≡ slice_index bytes i
  between-before i lt =
      let a = front-length in
      get_or_append_left (take start bytes) (replicate (end - start) mask ++ drop end bytes) 0 i (omega (arith, a, lt))
      ∙ get_or-take start bytes i 0 lt

  past-front : (i : ℕ) → start ≤ i
      → slice_index (masked_between mask bytes start end) i
      ≡ slice_index (replicate (end - start) mask ++ drop end bytes) (i - start)
  past-front i le =
      get_or-append_right (take start bytes) (replicate (end - start) mask ++ drop end bytes) start i 0 front-length le

  -- from the start to the end they have the mask
  pub between-in : (i : ℕ) → start ≤ i → i < end → slice_index (masked_between mask bytes start end) i ≡ mask
  between-in i le lt =
      let b = rest-length in
      past-front i le
      ∙ get_or_append_left (replicate (end - start) mask) (drop end bytes) 0 (i - start) (omega (arith, b, le, lt))
      ∙ get_or-replicate (end - start) (i - start) mask 0 (omega (arith, le, lt))

  -- from the end on they are as they were
  pub between-after : (i : ℕ) → end ≤ i → slice_index (masked_between mask bytes start end) i ≡ slice_index bytes i
  between-after i le =
      let there : end + (i - start - (end - start)) ≡ i = omega (arith, order, le) in
      past-front i (omega (arith, order, le))
      ∙ get_or-append_right (replicate (end - start) mask) (drop end bytes) (end - start) (i - start) 0 rest-length
      (omega (arith, order, le))
      ∙ get_or-drop end bytes (i - start - (end - start)) 0 ∙ ap (slice_index bytes) there

  -- after the end they are as they were
  pub between-rest : drop end (masked_between mask bytes start end) ≡ drop end bytes
  between-rest =
      let a = front-length in
      let b = rest-length in
      let there : start + (end - start) ≡ end = omega (arith, order) in
      let front : length (take start bytes ++ replicate (end - start) mask) ≡ end =
      length-append (take start bytes) (replicate (end - start) mask) ∙ ap₂ (λ m n. m + n) a b ∙ there in
      ap (drop end) (sym (append_assoc (take start bytes) (replicate (end - start) mask) (drop end bytes)))
      ∙ ap (λ n. drop n ((take start bytes ++ replicate (end - start) mask) ++ drop end bytes)) (sym front)
      ∙ drop-append_seam (take start bytes ++ replicate (end - start) mask) (drop end bytes)

  -- bytes that are like that, place by place, are these
  pub between-is : (ys : List ℕ) → length ys ≡ length bytes
      → ((i : ℕ) → i < start → slice_index ys i ≡ slice_index bytes i)
      → ((i : ℕ) → start ≤ i → i < end → slice_index ys i ≡ mask)
      → ((i : ℕ) → end ≤ i → slice_index ys i ≡ slice_index bytes i)
      → ys ≡ masked_between mask bytes start end
  between-is ys long before in_ after =
      ext_get_or 0 ys (masked_between mask bytes start end) (long ∙ sym between-length)
      (λ i lt. ⊎_elim
      (λ (front : i < start). before i front ∙ sym (between-before i front))
      (λ (le : start ≤ i). ⊎_elim
      (λ (mid : i < end). in_ i le mid ∙ sym (between-in i le mid))
      (λ (past : end ≤ i). after i past ∙ sym (between-after i past))
      (cases_lt i end))
      (cases_lt i start))

-- a part of the bytes was filled with the mask
pub between-filled : (mask : ℕ) (bytes part : List ℕ) (start : ℕ) {end k : ℕ} → start ≤ end → end ≤ length bytes
    → k ≡ end - start → part ≡ replicate (length (take k (drop start bytes))) mask
    → put_mid start k bytes part ≡ masked_between mask bytes start end
between-filled mask bytes part start {end} {k} order within few filled =
    let rest = length-drop start bytes in
    let long : length (take k (drop start bytes)) ≡ k = length-take-le k (drop start bytes)
    (omega (arith, rest, few, order, within)) in
    let all : part ≡ replicate (end - start) mask = filled ∙ ap (λ n. replicate n mask) (long ∙ few) in
    let size : end - start ≡ length (replicate (end - start) mask) = sym (length-replicate (end - start) mask) in
    let there : start + (end - start) ≡ end = omega (arith, order) in
    put_mid-paste start k bytes part (replicate (end - start) mask) (end - start) all (sym few) size
    ∙ paste_all bytes start (replicate (end - start) mask) (end - start) size
    ∙ ap (λ n. take start bytes ++ (replicate (end - start) mask ++ drop n bytes)) there

-- ---- the bytes of the last stretch aren't written again

module _ (mask : ℕ) (bytes : List ℕ) (last : Stretch) (start end : ℕ) (order : start ≤ end)
    (within : end ≤ length bytes) (is : IsMaskedStretch mask bytes end last) where
  -- a stretch that begins at the start
  pub stretch-new : (ys : List ℕ) → ys ≡ masked_between mask bytes start end
      → IsMaskedStretch mask ys end (record { start = start; end = end })
  stretch-new ys same = record {
    order = order;
    within = omega arith;
    masked = λ i le lt. ap (λ l. slice_index l i) same ∙ between-in mask bytes start end order within i le lt;
  }

  module _ (meets : start ≤ last.end) where
    -- the bytes after the last stretch
    abbrev grown : List ℕ
    grown = masked_between mask bytes last.end end

    grown-in : (i : ℕ) → last.end ≤ i → i < end → slice_index grown i ≡ mask
    grown-in i le lt = between-in mask bytes last.end end is.within within i le lt

    grown-before : (i : ℕ) → i < last.end → slice_index grown i ≡ slice_index bytes i
    grown-before i lt = between-before mask bytes last.end end is.within within i lt

    -- from the last stretch's start to the end they have the mask
    grown-masked : (i : ℕ) → last.start ≤ i → i < end → slice_index grown i ≡ mask
    grown-masked i le lt = ⊎_elim
        (λ (front : i < last.end). grown-before i front ∙ is.masked i le front)
        (λ (past : last.end ≤ i). grown-in i past lt)
        (cases_lt i last.end)

    -- where the last stretch begins no later, the bytes after it are enough
    pub stretch-grown : last.start ≤ start
        → (grown ≡ masked_between mask bytes start end)
        × IsMaskedStretch mask grown end (record { start = last.start; end = end })
    stretch-grown sooner = (
      between-is mask bytes start end order within grown
          (between-length mask bytes last.end end is.within within)
          (λ i lt. grown-before i (omega (arith, lt, meets)))
          (λ i le lt. grown-masked i (omega (arith, sooner, le)) lt)
          (λ i le. between-after mask bytes last.end end is.within within i le),
      record { order = omega (arith, is.order, is.within); within = omega arith; masked = grown-masked },
    )

    -- where it begins later, those before it are needed too
    pub stretch-back : start ≤ last.start
        → masked_between mask grown start last.start ≡ masked_between mask bytes start end
    stretch-back later =
        let long = between-length mask bytes last.end end is.within within in
        let inside : last.start ≤ length grown = omega (arith, long, is.order, is.within, within) in
        between-is mask bytes start end order within (masked_between mask grown start last.start)
        (between-length mask grown start last.start later inside ∙ long)
        (λ i lt. between-before mask grown start last.start later inside i lt ∙ grown-before i (omega (arith, lt, meets)))
        (λ i le lt. ⊎_elim
        (λ (front : i < last.start). between-in mask grown start last.start later inside i le front)
        (λ (past : last.start ≤ i). between-after mask grown start last.start later inside i past
        ∙ grown-masked i past lt)
        (cases_lt i last.start))
        (λ i le. between-after mask grown start last.start later inside i (omega (arith, le, is.order, is.within))
        ∙ between-after mask bytes last.end end is.within within i le)
