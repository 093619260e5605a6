-- What operations on vectors of 32 bytes yield at each lane.
use Rattle.std.proofs.Common.{◌≡◌, ◌≢◌, inl, inr, ℕ, ◌+◌, ◌*◌, ◌/◌, ◌%◌, ◌^◌, ◌<◌, List, [], ◌∷◌, zero, suc, bit_or, Bool, false, true, not, cond, eqb, length, get_or, map, replicate, refl, sym, ap, ◌∙◌, arith, w8}
use Rattle.std.specs.Int.{bit_at}
use Rattle.std.specs.Simd.Lanes.{zip2, fold_l, mask_l, top}
use Rattle.std.proofs.lemmas.Simd.{length-zip2, get_or-zip2, get_or-replicate, bit_mask_l, bitmask_splat, mask_l-lt, length-swz_l, get_or-swz_l_below, swz_l, SwzOk, SwzOk-from_below, Each1-from_get_or}
use Rattle.std.specs.Int.Bits.{or_zero_l}
use Rattle.std.proofs.lemmas.Bool.{cases_eq, eqb-true}
use Rattle.std.proofs.lemmas.Nat.Bits.{bit_at-zero}
use Rattle.std.proofs.lemmas.Nat.{le_or_l, le_or_r}
use Rattle.std.proofs.lemmas.List.{length-map}
use Rattle.std.proofs.Math.ListN.{get_or-map}
use Rattle.ac_literal.specs.Packed.Teddy.{HasLanes}

-- an operator on two vectors, applied lane by lane
pub lanes-two : (f : ℕ → ℕ → ℕ) (a b : List ℕ) → length a ≡ 32 → length b ≡ 32
    → HasLanes (zip2 f a b) (λ k. f (get_or a k 0) (get_or b k 0))
lanes-two f a b long same = record {
  long = length-zip2 f a b (long ∙ sym same) ∙ long;
  each = λ k within. get_or-zip2 f a b k 0 0 0 (omega arith) (omega arith);
}

-- an operator on each lane and one fixed number
pub lanes-one : (f : ℕ → ℕ → ℕ) (a : List ℕ) (x : ℕ) → length a ≡ 32
    → HasLanes (zip2 f a (replicate 32 x)) (λ k. f (get_or a k 0) x)
lanes-one f a x long = record {
  long = length-zip2 f a (replicate 32 x) long ∙ long;
  each = λ k within. get_or-zip2 f a (replicate 32 x) k 0 0 0 (omega arith) within
      ∙ ap (f (get_or a k 0)) (get_or-replicate 32 k x 0 within);
}

module _ {js : List ℕ} {f : ℕ → ℕ} (places : HasLanes js f) (below : (k : ℕ) → k < 32 → f k < 16) where
  -- places below 16 are within a table of 16
  pub may-look : SwzOk w8 16 32 0 js
  may-look =
      let long = places.long in
      SwzOk-from_below w8 16 2 32 0 js refl (omega arith)
      (Each1-from_get_or (λ j. j < 16) js 0
      (λ i within. omega (arith, places.each i (omega arith), below i (omega arith))))

  -- looking up a vector of places in a vector that has the table twice finds the table's entries
  pub lanes-looked : (wide table : List ℕ) → HasLanes wide (λ k. get_or table (k % 16) 0)
      → HasLanes (swz_l w8 16 wide 0 js) (λ k. get_or table (f k) 0)
  lanes-looked wide table has =
      let long = places.long in
      record {
        long = length-swz_l w8 16 wide 0 js ∙ long;
        each = λ k within.
            let at = places.each k within in
            let small = below k within in
            let place : 16 * ((0 + k) / 16) + get_or js k 0 ≡ 16 * (k / 16) + f k = omega arith in
            get_or-swz_l_below w8 16 wide 0 js k (omega arith) (omega arith) ∙ ap (λ j. get_or wide j 0) place
            ∙ has.each (16 * (k / 16) + f k) (omega arith) ∙ ap (λ j. get_or table j 0) (omega arith);
      }

-- a number that isn't 0 passes the test for it
not_zero : {x : ℕ} → x ≢ 0 → not (eqb x 0) ≡ true
not_zero {x} differs = by (eqb x 0) refl
  where
    by : (t : Bool) → eqb x 0 ≡ t → not t ≡ true
    by true e = absurd (differs (eqb-true x 0 e))
    by false e = refl

module _ (v : List ℕ) (long : length v ≡ 32) where
  -- the bits of the lanes that aren't 0
  abbrev bits : ℕ
  bits = mask_l (map (top 7) (zip2 (λ a b. cond (not (eqb a b)) 255 0) v (replicate 32 0))) % 2 ^ 64

  are_bits : bits ≡ mask_l (map (λ x. not (eqb x 0)) v)
  are_bits = bitmask_splat w8 (λ a b. not (eqb a b)) v 32 0 long (omega arith)

  -- the bit of a lane that isn't 0 is set
  pub set-lane : (k : ℕ) → k < 32 → get_or v k 0 ≢ 0 → bit_at bits k ≡ 1
  set-lane k within differs =
      ap (λ m. bit_at m k) are_bits ∙ bit_mask_l (map (λ x. not (eqb x 0)) v) k
      ∙ ap (λ t. cond t 1 0) (get_or-map (λ x. not (eqb x 0)) v k 0 ∙ not_zero differs)

  -- only the bits of the 32 lanes are set
  pub few-lanes : bits < 4294967296
  few-lanes =
      rw are_bits
      (let small = mask_l-lt (map (λ x. not (eqb x 0)) v) in rw (length-map v (λ x. not (eqb x 0)), long) at small)

-- if the `or` of several numbers is 0, the first of them is 0
or-first : (a : ℕ) (xs : List ℕ) → fold_l bit_or a xs ≡ 0 → a ≡ 0
or-first a [] h = h
or-first a (x ∷ xs) h = let e = or-first (bit_or a x) xs h in omega (arith, le_or_l a x)

-- if the `or` of several numbers is 0, each of the others is 0
pub or-none : (a : ℕ) (xs : List ℕ) → fold_l bit_or a xs ≡ 0 → (k : ℕ) → get_or xs k 0 ≡ 0
or-none a [] h k = refl
or-none a (x ∷ xs) h zero = let e = or-first (bit_or a x) xs h in omega (arith, le_or_r a x)
or-none a (x ∷ xs) h (suc k) = or-none (bit_or a x) xs h k

-- if each of several numbers is 0, their `or` is 0
pub or-zero : (xs : List ℕ) → ((k : ℕ) → k < length xs → get_or xs k 0 ≡ 0) → fold_l bit_or 0 xs ≡ 0
or-zero [] zeros = refl
or-zero (x ∷ xs) zeros =
    ap (λ a. fold_l bit_or a xs) (or_zero_l x ∙ zeros 0 (omega arith))
    ∙ or-zero xs (λ k within. zeros (suc k) (omega (arith, within)))

-- where some lane isn't 0, the bits of the lanes aren't 0
pub some-set : (lanes : List ℕ) (marks : ℕ) → ¬ ((k : ℕ) → k < 32 → get_or lanes k 0 ≡ 0)
    → ((k : ℕ) → k < 32 → get_or lanes k 0 ≢ 0 → bit_at marks k ≡ 1) → marks ≢ 0
some-set lanes marks some set none =
    some (λ k within. elim (cases_eq (get_or lanes k 0) 0) [
      | inl is ↦ is
      | inr differs ↦
          let here = set k within differs in
          let clear : bit_at marks k ≡ 0 = ap (λ m. bit_at m k) none ∙ bit_at-zero k in
          absurd (omega (arith, here, clear))
    ])
